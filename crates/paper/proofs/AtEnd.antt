-- A 9 is at the end of the input: whatever gives it has run to the end, and no reading runs out of fuel. Assumes nothing.
-- Document 01, "Refusal numbers", 9.
use Prim.Native.Nat.{ℕ, zero, suc, ◌+◌, ◌-◌, ◌<◌, ◌≤◌}
use mathlib.Core.Path.{◌≡◌, refl, sym, ap, ◌∙◌}
use mathlib.Core.Bool.{Bool, true, false, not, ◌&&◌}
use mathlib.Core.List.{List, [], ◌∷◌, ◌++◌, map}
use native.Mathlib.Omega.{arith}
use lib.ListN.{length, drop, take, get_or, length-append}
use lib.Dec.{leb, eqb}
use borrow.Author.Tests.{eqb-true, eq-eqb}
use Rattle.paper.specs.declared.brackets.Bracket.{Bracket}
use Rattle.paper.specs.declared.Mode.TheVariants.{Children, Absent}
use Rattle.paper.specs.Found.{Found, found, fault, and_then, Turn, more, over, stop, turn_of, go_on, many, run_of, taking, many_of}
use Rattle.paper.specs.Bytes.{byte, bytes, is_upper, is_lower, is_hex, is_blank, is_line_end, is_white, length_in, front, behind, elem, same, starts_in}
use Rattle.paper.specs.Bytes.{starts_with, lf, cr, space, scalar, is, onward}
use Rattle.paper.specs.Names.{run, past_run, is_name, among}
use Rattle.paper.specs.Modes.{Modes}
use Rattle.paper.specs.Values.{Piece, four, braces, escaped, opener, closer, may_be_empty, keyed, enders, key_enders, is_bare, is_key_form, Key, Label}
use Rattle.paper.specs.Values.{Value, More, bracket, comma, piece_rule, word_form}
use Rattle.paper.specs.Tree.{Trait, Marker, blank, Ending, block, self, Concept, self_closed, done, before, Sheet}
use Rattle.paper.specs.Grammar.{tabs_onto, in_mode}
use Rattle.paper.specs.Entries.{item_entries, trait_size, body_size}
use Rattle.paper.specs.ReadingValues.{inside_of, itself, judged, four_digits, braced_digits, escape, piece_turn, close_character, character_of}
use Rattle.paper.specs.ReadingValues.{backtick_turn, word_length, word_of, leaf_of, value_of, more_of, item_and, temporal_of, inside}
use Rattle.paper.specs.ReadingValues.{key_word, at_start, key_of, colon, label_of}
use Rattle.paper.specs.Reading.{Bounds, line_end, line_rest, is_blank_line, blank_turn, blank_lines, is_tab, no_space, tabs_only, name_of, name, due, makes}
use Rattle.paper.specs.Reading.{text_of, escape_of, annotation, annotation_turn, annotations}
use Rattle.paper.specs.Reading.{enters, Earlier, with_trait, fresh, trait_name, trait, trait_due, trait_turn, traits_behind, no_trait}
use Rattle.paper.specs.Reading.{ending, Opened, opened, admitted, head, opening, closing, closes_line, text_line, other_line, line_turn, content_of, last_blanks, sheet_tree}
use Rattle.paper.specs.Reading.{room_in, inside_by, annotated_by, piece_by, is_closing, concept_of, block_of, body_of, annotated_of, piece_of}
use Rattle.paper.proofs.Tests.{split, true_false}
use Rattle.paper.proofs.Lists.{by_front, starts_is, both, is_not}
use Rattle.paper.proofs.Finds.{Tail, tail_length, tail_then, tail_drop, Reads}
use Rattle.paper.proofs.Runs.{Shorter}
use Rattle.paper.proofs.Lines.{ReadBlank, rest_reads, blank_shorter}
use Rattle.paper.proofs.Annotations.{ReadAnnotations, annotations_reads, annotation_shorter}
use Rattle.paper.proofs.Content.{line_shorter}
use Rattle.paper.proofs.Pieces.{by_inside, turn_closes, turn_escapes, turn_breaks, turn_itself, turn_shorter, tick_shorter}
use Rattle.paper.proofs.Leaves.{by_first, character_closes, character_breaks, character_escapes, character_itself, character_broken}
use Rattle.paper.proofs.Leaves.{leaf_string, leaf_character, leaf_backtick, leaf_word, leaf_temporal, temporal_none, temporal_there}
use Rattle.paper.proofs.ReadValues.{ReadValue, value_reads, value_of_deep, value_of_leaf, value_of_empty, value_of_items, more_of_end}
use Rattle.paper.proofs.ReadValues.{more_of_close, more_of_comma, more_of_other}
use Rattle.paper.proofs.BracketKinds.{opener_some, by_opening}
use Rattle.paper.proofs.Labels.{ReadLabel, label_reads}
use Rattle.paper.proofs.Markers.{trait_shorter}
use Rattle.paper.proofs.Concepts.{ReadOpening, opening_reads, ReadPiece, piece_reads}
use Rattle.paper.proofs.Fuel.{marker_shorter, concept_of_lem, block_of_lem, body_of_lem}
use Rattle.paper.proofs.TimeKinds.{by_time_kind}

-- ---- a 9 leaves nothing

pub data Ends {A : Type 0} : Found A → Type 0 where
  finds : {a : A} {left : List ℕ} → Ends (found a left)
  cut : Ends (fault 9 [])
  other : {n : ℕ} {left : List ℕ} → eqb n 9 ≡ false → Ends (fault n left)

-- the same of a turn
data Stops {A : Type 0} : Turn A → Type 0 where
  goes : {a : A} {left : List ℕ} → Stops (more a left)
  ends : {left : List ℕ} → Stops (over left)
  cut : Stops (stop 9 [])
  other : {n : ℕ} {left : List ℕ} → eqb n 9 ≡ false → Stops (stop n left)

then : {A B : Type 0} (x : Found A) {next : A → List ℕ → Found B} → Ends x → ((a : A) (left : List ℕ) → Ends (next a left)) → Ends (and_then x next)
then x finds f = f _ _
then x cut f = cut
then x (other e) f = other e

-- one reading after another, where the second stands on what the first one found
then_by : {A B : Type 0} (s : List ℕ) (P : A → List ℕ → Type 0) (x : Found A) {next : A → List ℕ → Found B}
    → Reads s P x → Ends x → ((a : A) (left : List ℕ) → Tail s left → P a left → Ends (next a left)) → Ends (and_then x next)
then_by s P x r finds f = f _ _ r.0 r.1
then_by s P x r cut f = cut
then_by s P x r (other e) f = other e

turn_of_lem : {A : Type 0} (x : Found A) → Ends x → Stops (turn_of x)
turn_of_lem x finds = goes
turn_of_lem x cut = cut
turn_of_lem x (other e) = other e

-- a run whose turns do, and take a byte each
module _ {A B : Type 0} (with : B → A → B) (turn : B → List ℕ → Turn A)
    (shorter : (so_far : B) (s : List ℕ) → Shorter s (turn so_far s)) (stops : (so_far : B) (s : List ℕ) → Stops (turn so_far s)) where
  many_ends : (fuel : ℕ) (so_far : B) (s : List ℕ) → length s < fuel → Ends (many with turn fuel so_far s)
  unfolding many
  many_ends zero so_far s h = absurd (omega arith)
  many_ends (suc fuel) so_far s h =
      go (turn so_far s) (shorter so_far s) (stops so_far s) (λ a left l. many_ends fuel (with so_far a) left (omega arith))
    where
      go : (x : Turn A) → Shorter s x → Stops x → ((a : A) (left : List ℕ) → length left < length s → Ends (many with turn fuel (with so_far a) left))
          → Ends (go_on (λ a left. many with turn fuel (with so_far a) left) x)
      go (more a left) l goes again = then (many with turn fuel (with so_far a) left) (again a left l) (λ things end. finds)
      go (over left) l ends again = finds
      go (stop n left) l cut again = cut
      go (stop n left) l (other e) again = other e

  run_ends : (so_far : B) (s : List ℕ) → Ends (run_of with turn so_far s)
  run_ends so_far s = many_ends (suc (length s)) so_far s (omega arith)

-- ---- lines and names

line_end_lem : (blanks s : List ℕ) → Ends (line_end blanks s)
unfolding line_end
line_end_lem blanks [] = cut
line_end_lem blanks (b ∷ l) =
    split (eqb b lf) (λ e. rw (e, line_end) finds)
    (λ e. split (starts_with (cr ∷ lf ∷ []) (b ∷ l)) (λ f. rw (e, line_end, f) finds) (λ f. rw (e, line_end, f) (other refl)))

line_rest_lem : (s : List ℕ) → Ends (line_rest s)
line_rest_lem s = line_end_lem (front is_blank s) (behind is_blank s)

blank_lines_lem : (s : List ℕ) → Ends (blank_lines s)
unfolding blank_turn
blank_lines_lem s = run_ends (taking (λ b. 0)) blank_turn blank_shorter turns 0 s
  where
    turns : (room : ℕ) (s : List ℕ) → Stops (blank_turn room s)
    turns room s = split (is_blank_line s) (λ e. rw (e, blank_turn) (turn_of_lem (line_rest s) (line_rest_lem s))) (λ e. rw (e, blank_turn) ends)

tabs_only_lem : (s : List ℕ) → Ends (tabs_only s)
unfolding no_space
tabs_only_lem s = go (behind is_blank s)
  where
    go : (r : List ℕ) → Ends (no_space s r)
    go [] = cut
    go (b ∷ l) = split (starts_in (is space) (behind is_tab s)) (λ e. rw (e, no_space) (other refl)) (λ e. rw (e, no_space) finds)

name_ends : (rule : List ℕ → Bool) (s : List ℕ) → Ends (name rule s)
unfolding name_of
name_ends rule s = go (past_run s)
  where
    go : (r : List ℕ) → Ends (name_of rule s r)
    go [] = cut
    go (b ∷ l) =
        split (leb 1 (length (run s)))
        (λ e. split (rule (run s)) (λ f. rw (e, name_of, f) finds) (λ f. rw (e, name_of, f) (other refl)))
        (λ e. rw (e, name_of) (other refl))

due_ends : (c : ℕ) (s : List ℕ) → Ends (due c s)
unfolding due
due_ends c [] = cut
due_ends c (b ∷ l) = split (eqb b c) (λ e. rw (e, due) finds) (λ e. rw (e, due) (other refl))

makes_ends : {A : Type 0} (room : ℕ) (at : List ℕ) (a : A) (left : List ℕ) → Ends (makes room at a left)
unfolding makes
makes_ends zero at a left = other refl
makes_ends (suc room) at a left = finds

-- ---- annotations

mutual
  unfolding text_of

  text_ends : (s : List ℕ) → Ends (text_of s)
  text_ends [] = cut
  text_ends (b ∷ l) =
      split (eqb b (byte "]")) (λ e. rw (e, text_of) finds)
      (λ e. split (eqb b (byte "\\")) (λ f. rw (e, text_of, f) (escaped_ends (b ∷ l) l))
      (λ f. split (is_line_end b) (λ g. rw (e, text_of, f, g) (other refl)) (λ g. rw (e, text_of, f, g) (then (text_of l) (text_ends l) (λ t left. finds)))))

  escaped_ends : (back l : List ℕ) → Ends (escape_of back l)
  escaped_ends back [] = cut
  escaped_ends back (b ∷ l) =
      split (elem b (bytes "]\\")) (λ e. rw (e, escape_of) (then (text_of l) (text_ends l) (λ t left. finds))) (λ e. rw (e, escape_of) (other refl))

annotation_ends : (room tabs : ℕ) (s : List ℕ) → Ends (annotation room tabs s)
unfolding annotation
annotation_ends room tabs s =
    then (text_of s) (text_ends s)
    (λ t left. then (makes room s t left) (makes_ends room s t left) (λ t left. then (line_rest left) (line_rest_lem left) (λ rest end. finds)))

annotations_end : (room : ℕ) (s : List ℕ) → Ends (annotations room s)
unfolding annotation_turn
annotations_end room s = run_ends (taking (λ a. 1)) annotation_turn annotation_shorter turns room s
  where
    turns : (room : ℕ) (s : List ℕ) → Stops (annotation_turn room s)
    turns room s =
        let inner = drop 1 (behind is_tab s) in
        split (starts_with (bytes "[") (behind is_tab s))
        (λ e. rw (e, annotation_turn) (turn_of_lem (annotation room (length_in is_tab s) inner) (annotation_ends room (length_in is_tab s) inner)))
        (λ e. rw (e, annotation_turn) ends)

-- ---- values

module _ (quote : ℕ) (back : List ℕ) where
  judged_ends : (p : Piece) (left : List ℕ) → Ends (judged quote back p left)
  unfolding judged
  judged_ends p left = split (piece_rule quote p) (λ e. rw (e, judged) finds) (λ e. rw (e, judged) (other refl))

  four_ends : (s : List ℕ) → Ends (four_digits quote back s)
  unfolding four_digits
  four_ends s =
      split (leb 4 (length_in is_hex s)) (λ e. rw (e, four_digits) (judged_ends (four (take 4 s)) (drop 4 s)))
      (λ e. by_front (behind is_hex s) (λ f. rw (e, four_digits, f) cut) (λ b l f. rw (e, four_digits, f) (other refl)))

  braced_ends : (s : List ℕ) → Ends (braced_digits quote back s)
  unfolding braced_digits
  braced_ends s =
      split (leb 7 (length_in is_hex s)) (λ e. rw (e, braced_digits) (other refl))
      (λ e. by_front (behind is_hex s) (λ f. rw (e, braced_digits, f) cut)
      (λ b l f. split (eqb b (byte "}"))
      (λ g. rw (e, braced_digits, f, g) (judged_ends (braces (front is_hex s)) l))
      (λ g. rw (e, braced_digits, f, g) (other refl))))

  escape_ends : (l : List ℕ) → Ends (escape quote back l)
  unfolding escape
  escape_ends [] = cut
  escape_ends (b ∷ l) =
      split (eqb b (byte "u"))
      (λ e. split (starts_with (bytes "{") l) (λ f. rw (e, escape, f) (braced_ends (drop 1 l))) (λ f. rw (e, escape, f) (four_ends l)))
      (λ e. rw (e, escape) (judged_ends (escaped b) l))

string_ends : (s : List ℕ) → Ends (many_of (λ p. 0) piece_turn 0 s)
unfolding piece_turn
string_ends s = run_ends (taking (λ p. 0)) piece_turn turn_shorter turns 0 s
  where
    turns : (room : ℕ) (s : List ℕ) → Stops (piece_turn room s)
    turns room [] = cut
    turns room (b ∷ l) =
        by_inside (byte "\"") b
        (λ q e. rw (turn_closes room b l e) ends)
        (λ q e. rw (turn_escapes room b l e) (turn_of_lem (escape (byte "\"") (b ∷ l) l) (escape_ends (byte "\"") (b ∷ l) l)))
        (λ e. rw (turn_breaks room b l e) (other refl))
        (λ r e. rw (turn_itself room b l e) goes)

backtick_ends : (s : List ℕ) → Ends (many_of (λ p. 0) backtick_turn 0 s)
unfolding backtick_turn
backtick_ends s = run_ends (taking (λ p. 0)) backtick_turn tick_shorter turns 0 s
  where
    turns : (room : ℕ) (s : List ℕ) → Stops (backtick_turn room s)
    turns room [] = cut
    turns room (b ∷ l) =
        split (eqb b (byte "`")) (λ e. rw (e, backtick_turn) ends)
        (λ e. split (starts_with (bytes "\\`") (b ∷ l)) (λ f. rw (e, backtick_turn, f) goes) (λ f. rw (e, backtick_turn, f) goes))

close_ends : (ps : List Piece) (s : List ℕ) → Ends (close_character ps s)
unfolding close_character
close_ends ps [] = cut
close_ends ps (b ∷ l) = split (eqb b (byte "'")) (λ e. rw (e, close_character) finds) (λ e. rw (e, close_character) (other refl))

character_ends : (s : List ℕ) → Ends (character_of s)
unfolding character_of
character_ends [] = cut
character_ends (b ∷ l) =
    by_inside (byte "'") b
    (λ q e. rw (character_closes b l e) (other refl))
    (λ q e. rw (character_escapes b l e) (then (escape (byte "'") (b ∷ l) l) (escape_ends (byte "'") (b ∷ l) l) (λ p left. close_ends (p ∷ []) left)))
    (λ e. rw (character_breaks b l e) (other refl))
    (λ r e. direct e (scalar (b ∷ l)) refl)
  where
    direct : inside_of (byte "'") b ≡ itself → (x : Found ℕ) → scalar (b ∷ l) ≡ x → Ends (character_of (b ∷ l))
    direct e (found v left) f = rw (character_itself b l v left e f) (close_ends _ left)
    direct e (fault n left) f = rw (character_broken b l n left e f) (other refl)

leaf_ends : (also s : List ℕ) → Ends (leaf_of also s)
unfolding leaf_of word_of temporal_of
leaf_ends also [] = cut
leaf_ends also (b ∷ l) =
    by_first b
    (λ q. rw (q, leaf_string also l) (then (many_of (λ p. 0) piece_turn 0 l) (string_ends l) (λ ps left. finds)))
    (λ q. rw (q, leaf_character also l) (character_ends l))
    (λ q. rw (q, leaf_backtick also l) (then (many_of (λ p. 0) backtick_turn 0 l) (backtick_ends l) (λ ps left. finds)))
    (λ q. rw (q, leaf_temporal also l) (time (front (λ c. not (is (byte "}") c)) l) (onward (is (byte "}")) l)))
    (λ e. rw (leaf_word also l b e) (word (take (word_length also (b ∷ l)) (b ∷ l)) (drop (word_length also (b ∷ l)) (b ∷ l))))
  where
    time : (w left : List ℕ) → Ends (temporal_of (byte "{" ∷ l) w left)
    time w [] = cut
    time w (c ∷ m) =
        by_time_kind w (λ k e q. rw (temporal_there (byte "{" ∷ l) w c m k q) finds) (λ q. rw (temporal_none (byte "{" ∷ l) w c m q) (other refl))

    word : (w left : List ℕ) → Ends (word_of (b ∷ l) w left)
    word w [] = cut
    word w (c ∷ m) = split (eqb (word_form w) 0) (λ e. rw (e, word_of) (other refl)) (λ e. rw (e, word_of) finds)

-- a label
at_start_lem : {A : Type 0} (s : List ℕ) (x : Found A) → Ends x → Ends (at_start s x)
at_start_lem s x finds = finds
at_start_lem s x cut = cut
at_start_lem s x (other e) = other e

key_ends : (also s : List ℕ) → Ends (key_of also s)
unfolding key_of key_word
key_ends also [] = cut
key_ends also (b ∷ l) =
    split (elem b (bytes "\"'"))
    (λ e. rw (e, key_of) (at_start_lem (b ∷ l) _ (then (leaf_of also (b ∷ l)) (leaf_ends also (b ∷ l)) (λ v left. finds))))
    (λ e. rw (e, key_of) (word (take (word_length also (b ∷ l)) (b ∷ l)) (drop (word_length also (b ∷ l)) (b ∷ l))))
  where
    word : (w left : List ℕ) → Ends (key_word (b ∷ l) w left)
    word w [] = cut
    word w (c ∷ m) =
        split (is_bare w) (λ e. rw (e, key_word) finds)
        (λ e. split (is_key_form (word_form w)) (λ f. rw (e, key_word, f) finds) (λ f. rw (e, key_word, f) (other refl)))

colon_ends : (key : Key) (s : List ℕ) → Ends (colon key s)
unfolding colon
colon_ends key [] = cut
colon_ends key (b ∷ l) = split (eqb b (byte ":")) (λ e. rw (e, colon) finds) (λ e. rw (e, colon) (other refl))

label_ends : (k : Bracket) (s : List ℕ) → Ends (label_of k s)
unfolding label_of
label_ends k s = split (keyed k) (λ e. rw (e, label_of) (then (key_of (key_enders k) s) (key_ends (key_enders k) s) colon_ends)) (λ e. rw (e, label_of) finds)

-- brackets, where values and what stands behind an item do so below some length
module _ (n : ℕ) (k : Bracket) (ones : (brackets : ℕ) (s : List ℕ) → length s < n → Ends (value_of brackets (enders k) s))
    (mores : (brackets : ℕ) (s : List ℕ) → length s < n → Ends (more_of k brackets s)) where
  item_ends : {A : Type 0} (brackets : ℕ) (make : Label → Value → More → A) (s : List ℕ) → length s < n → Ends (item_and k brackets make s)
  item_ends brackets make s h =
      then_by s (ReadLabel k s) (label_of k s) (label_reads k s) (label_ends k s)
      (λ a valued t p. let short = tail_length t in
      then_by valued (ReadValue brackets (enders k) valued) (value_of brackets (enders k) valued) (value_reads (suc (length valued)) brackets (enders k) valued)
      (ones brackets valued (omega arith)) (λ v left u r. then (more_of k brackets left) (mores brackets left (omega (arith, r.shorter))) (λ more end. finds)))

  bracket_ends : (brackets : ℕ) (also l : List ℕ) → length l < n → Ends (value_of brackets also (opener k ++ l))
  bracket_ends zero also l h = rw (value_of_deep k also l) (other refl)
  bracket_ends (suc brackets) also l h =
      split (may_be_empty k && starts_with (closer k ∷ []) l)
      (λ e. let m = both (may_be_empty k) (starts_with (closer k ∷ []) l) e in
      rw (starts_is (closer k ∷ []) l m.1, value_of_empty k brackets also (drop 1 l) m.0) finds)
      (λ e. rw (value_of_items k brackets also l (is_not e)) (item_ends brackets (bracket k) l h))

  behind_ends : (brackets b : ℕ) (l : List ℕ) → length l < n → Ends (more_of k brackets (b ∷ l))
  behind_ends brackets b l h =
      let short = tail_length (tail_drop (length_in is_white l) l) in
      split (eqb b (closer k)) (λ e. rw (eqb-true b (closer k) e, more_of_close k brackets l) finds)
      (λ e. split (eqb b (byte ","))
      (λ f. rw (eqb-true b (byte ",") f, more_of_comma k brackets l) (item_ends brackets (comma (front is_white l)) (behind is_white l) (omega arith)))
      (λ f. rw (more_of_other k brackets b l e f) (other refl)))

mutual
  value_ends : (n brackets : ℕ) (also s : List ℕ) → length s < n → Ends (value_of brackets also s)
  value_ends zero brackets also s h = absurd (omega arith)
  value_ends (suc n) brackets also s h =
      by_opening s (λ e. rw (value_of_leaf brackets also s e) (then (leaf_of also s) (leaf_ends also s) (λ v left. finds)))
      (λ k e. rw e (bracket_ends n k (λ m l j. value_ends n m (enders k) l j) (λ m l j. more_ends n k m l j) brackets also (inside k s)
      (omega (arith, ap length e, length-append (opener k) (inside k s), opener_some k))))

  more_ends : (n : ℕ) (k : Bracket) (brackets : ℕ) (s : List ℕ) → length s < n → Ends (more_of k brackets s)
  more_ends zero k brackets s h = absurd (omega arith)
  more_ends (suc n) k brackets [] h = rw (more_of_end k brackets) cut
  more_ends (suc n) k brackets (b ∷ l) h = behind_ends n k (λ m l j. value_ends n m (enders k) l j) (λ m l j. more_ends n k m l j) brackets b l (omega arith)

-- ---- markers

enters_ends : (room : ℕ) (named valued : List ℕ) (t : Trait) (left : List ℕ) → Ends (enters room named valued t left)
unfolding enters
enters_ends room named valued t left = split (leb (trait_size t) room) (λ e. rw (e, enters) finds) (λ e. rw (e, enters) (go room))
  where
    go : (room : ℕ) → Ends {A = Trait} (elim room [
      | zero ↦ fault 11 named
      | suc items ↦ fault 11 (drop (get_or (map (λ e. e.name_start) (item_entries 0 0 0 t.value)) items 0) valued)
    ])
    go zero = other refl
    go (suc items) = other refl

fresh_ends : (names : List (List ℕ)) (at w left : List ℕ) → Ends (fresh names at w left)
unfolding fresh
fresh_ends names at w left = split (among names w) (λ e. rw (e, fresh) (other refl)) (λ e. rw (e, fresh) finds)

trait_ends : (by : Bounds) (earlier : Earlier) (white s : List ℕ) → Ends (trait by earlier white s)
unfolding trait
trait_ends by earlier white s =
    then (trait_name by earlier.names s)
    (then (name (is_name is_lower by.names) s) (name_ends _ s) (λ w left. fresh_ends earlier.names s w left))
    (λ w left. then (due (byte "=") left) (due_ends (byte "=") left)
    (λ b valued. then (value_of by.brackets [] valued) (value_ends (suc (length valued)) by.brackets [] valued (omega arith))
    (λ v left. enters_ends earlier.room s valued _ left)))

traits_end : (by : Bounds) (earlier : Earlier) (s : List ℕ) → Ends (traits_behind by earlier s)
unfolding trait_turn trait_due
traits_end by earlier s = run_ends with_trait (trait_turn by) (trait_shorter by) (λ earlier s. turns earlier s (behind is_white s)) earlier s
  where
    turns : (earlier : Earlier) (s r : List ℕ) → Stops (trait_due by earlier s (front is_white s) r)
    turns earlier s [] = cut
    turns earlier s (b ∷ l) =
        let white = front is_white s in
        split (elem b (bytes ">/")) (λ e. rw (e, trait_due) ends)
        (λ e. split (leb 1 (length white))
        (λ f. rw (e, trait_due, f) (turn_of_lem (trait by earlier white (b ∷ l)) (trait_ends by earlier white (b ∷ l))))
        (λ f. rw (e, trait_due, f) (other refl)))

ending_ends : (s : List ℕ) → Ends (ending s)
unfolding ending
ending_ends [] = cut
ending_ends (b ∷ l) =
    split (eqb b (byte ">")) (λ e. rw (e, ending) finds)
    (λ e. rw (e, ending) (then (due (byte "/") (b ∷ l)) (due_ends (byte "/") (b ∷ l))
    (λ c left. then (due (byte ">") left) (due_ends (byte ">") left) (λ d end. finds))))

opened_ends : (by : Bounds) (room : ℕ) (w s : List ℕ) → Ends (opened by room w s)
unfolding opened
opened_ends by room w s =
    then (traits_behind by (no_trait room) s) (traits_end by (no_trait room) s)
    (λ ts left. then (ending (behind is_white left)) (ending_ends (behind is_white left)) (λ e end. finds))

admitted_ends : (m : Modes) (deeper room : ℕ) (s w left : List ℕ) → Ends (admitted m deeper room s w left)
unfolding admitted
admitted_ends m zero room s w left = other refl
admitted_ends m (suc deeper) room s w left =
    split (in_mode Absent m w) (λ e. rw (e, admitted) (other refl)) (λ e. rw (e, admitted) (makes_ends room (drop 1 s) w left))

opening_ends : (m : Modes) (by : Bounds) (deeper room : ℕ) (s : List ℕ) → Ends (opening m by deeper room s)
opening_ends m by deeper room s =
    let rule = is_name is_upper by.names in
    then (head by s) (then (due (byte "<") s) (due_ends (byte "<") s) (λ b named. name_ends rule named))
    (λ w left. then (admitted m deeper room s w left) (admitted_ends m deeper room s w left) (λ v start. opened_ends by (room - 1) v start))

closing_ends : (w s : List ℕ) → Ends (closing w s)
unfolding closing
closing_ends w s =
    then (due (byte "<") s) (due_ends (byte "<") s)
    (λ b left. then (due (byte "/") left) (due_ends (byte "/") left)
    (λ c named. then (name (λ v. true) named) (name_ends (λ v. true) named)
    (λ v left. split (same w v) (λ e. rw e (due_ends (byte ">") left)) (λ e. rw e (other refl)))))

-- ---- Content

text_line_lem : (s : List ℕ) → Ends (text_line s)
unfolding text_line
text_line_lem s = then (line_end [] (onward is_line_end s)) (line_end_lem [] (onward is_line_end s)) (λ b left. finds)

lines_end : (tabs : ℕ) (w s : List ℕ) → Ends (many_of (λ l. 0) (line_turn tabs w) 0 s)
unfolding line_turn other_line
lines_end tabs w s = run_ends (taking (λ l. 0)) (line_turn tabs w) (line_shorter tabs w) turns 0 s
  where
    others : (s r : List ℕ) → Stops (other_line tabs s r)
    others s [] = cut
    others s (b ∷ l) =
        let inner = drop (suc tabs) s in
        split (starts_with (tabs_onto (suc tabs) []) s)
        (λ e. rw (e, other_line) (turn_of_lem (text_line inner) (text_line_lem inner)))
        (λ e. rw (e, other_line) (other refl))

    turns : (room : ℕ) (s : List ℕ) → Stops (line_turn tabs w room s)
    turns room s =
        split (closes_line tabs w s) (λ e. rw (e, line_turn) ends)
        (λ e. split (is_blank_line s)
        (λ f. rw (e, line_turn, f) (turn_of_lem (and_then (line_rest s) (λ b left. found (blank b) left)) (then (line_rest s) (line_rest_lem s) (λ b left. finds))))
        (λ f. rw (e, line_turn, f) (others s (behind is_blank s))))

content_ends : (tabs room : ℕ) (k : Marker) (s : List ℕ) → Ends (content_of tabs room k s)
unfolding content_of
content_ends tabs room k s =
    then (line_rest s) (line_rest_lem s)
    (λ rest start. then (makes room start rest start) (makes_ends room start rest start)
    (λ rest start. then (many_of (λ l. 0) (line_turn tabs k.name) 0 start) (lines_end tabs k.name start) (λ lines left. finds)))

-- ---- Concepts

-- what follows an opening marker, where a children block does
inside_ends : (m : Modes) (inner : ℕ → ℕ → Marker → List ℕ → Found Concept) (deeper room tabs : ℕ) (o : Opened) (left : List ℕ)
    → Ends (inner (deeper - 1) (room_in room o) o.marker left) → Ends (inside_by m inner deeper room tabs o left)
inside_ends m inner deeper room tabs o left h = by_ending o.ends
  where
    by_ending : (e : Ending) → Ends {A = Concept} (elim e [
      | self ↦ found (self_closed o.marker) left
      | block ↦ elim (in_mode Children m o.marker.name) [
        | true ↦ inner (deeper - 1) (room_in room o) o.marker left
        | false ↦ content_of tabs (room_in room o) o.marker left
      ]
    ])
    by_ending self = finds
    by_ending block =
        split (in_mode Children m o.marker.name) (λ e. rw e h) (λ e. rw e (content_ends tabs (room_in room o) o.marker left))

-- annotations and their Concept, and a piece of a body, where the Concept does
annotated_ends : (read : ℕ → ℕ → List ℕ → Found Concept) (room : ℕ) (s : List ℕ)
    → ((room tabs : ℕ) (l : List ℕ) → length l ≤ length s → Ends (read room tabs l)) → Ends (annotated_by read room s)
annotated_ends read room s h =
    then_by s (λ notes line. ReadAnnotations room s notes line) (annotations room s) (annotations_reads room s) (annotations_end room s)
    (λ notes line t a.
    let tabs = length_in is_tab line in
    let mark = behind is_tab line in
    then (read (room - length notes) tabs mark) (h (room - length notes) tabs mark (tail_length (tail_then t (tail_drop tabs line)))) (λ c left. finds))

piece_ends : (read : ℕ → ℕ → List ℕ → Found Concept) (room : ℕ) (s : List ℕ)
    → ((room tabs : ℕ) (l : List ℕ) → length l ≤ length s → Ends (read room tabs l)) → Ends (piece_by read room s)
piece_ends read room s h =
    split (is_blank_line s)
    (λ e. rw (e, piece_by) (then (line_rest s) (line_rest_lem s) (λ b left. finds)))
    (λ e. rw (e, piece_by) (then (tabs_only s) (tabs_only_lem s)
    (λ tabs mark. then (annotated_by read room s) (annotated_ends read room s h) (λ a left. then (line_rest left) (line_rest_lem left) (λ rest end. finds)))))

-- ---- Concepts, by their length

mutual
  concept_ends : (n : ℕ) (m : Modes) (by : Bounds) (deeper room tabs : ℕ) (s : List ℕ) → length s < n → Ends (concept_of m by deeper room tabs s)
  concept_ends zero m by deeper room tabs s h = absurd (omega arith)
  concept_ends (suc n) m by deeper room tabs s h =
      rw (concept_of_lem m by deeper room tabs s)
      (then_by s (λ o left. ReadOpening m by deeper room s o left) (opening m by deeper room s) (opening_reads m by deeper room s) (opening_ends m by deeper room s)
      (λ o left t p.
      let short = marker_shorter m by deeper room s o left p in
      inside_ends m (block_of m by) deeper room tabs o left (block_ends n m by (deeper - 1) (room_in room o) o.marker left (omega arith))))

  block_ends : (n : ℕ) (m : Modes) (by : Bounds) (deeper room : ℕ) (k : Marker) (s : List ℕ) → length s + 2 < n → Ends (block_of m by deeper room k s)
  block_ends zero m by deeper room k s h = absurd (omega arith)
  block_ends (suc n) m by deeper room k s h =
      rw (block_of_lem m by deeper room k s)
      (then_by s (λ b left. ReadBlank s b left) (line_rest s) (rest_reads s) (line_rest_lem s)
      (λ rest start t r. then (body_of m by deeper room start) (body_ends n m by deeper room start (omega (arith, r.shorter)))
      (λ inner left. then (closing k.name (behind is_tab left)) (closing_ends k.name (behind is_tab left)) (λ b end. finds))))

  body_ends : (n : ℕ) (m : Modes) (by : Bounds) (deeper room : ℕ) (s : List ℕ) → length s + 1 < n → Ends (body_of m by deeper room s)
  body_ends zero m by deeper room s h = absurd (omega arith)
  body_ends (suc n) m by deeper room s h =
      rw (body_of_lem m by deeper room s)
      (split (is_closing s) (λ e. rw e finds)
      (λ e. rw e (then_by s (λ p left. ReadPiece m by deeper room s p left) (piece_of m by deeper room s) (piece_reads m by deeper room s)
      (piece_ends (concept_of m by deeper) room s (λ room tabs l k. concept_ends n m by deeper room tabs l (omega arith)))
      (λ p next t r.
      let fewer = room - body_size (before p done) in
      then (body_of m by deeper fewer next) (body_ends n m by deeper fewer next (omega (arith, r.shorter))) (λ inner end. finds)))))

-- ---- a whole sheet

last_ends : (blanks s : List ℕ) → Ends (last_blanks blanks s)
unfolding last_blanks
last_ends blanks [] = finds
last_ends blanks (b ∷ l) = other refl

sheet_ends : (m : Modes) (by : Bounds) (deeper room : ℕ) (s : List ℕ) → Ends (sheet_tree m by deeper room s)
unfolding sheet_tree
sheet_ends m by deeper room s =
    then (blank_lines s) (blank_lines_lem s)
    (λ before first. then (tabs_only first) (tabs_only_lem first)
    (λ tabs mark. then (annotated_of m by deeper room first)
    (annotated_ends (concept_of m by deeper) room first (λ room tabs l k. concept_ends (length l + 1) m by deeper room tabs l (omega arith)))
    (λ a left. then (blank_lines left) (blank_lines_lem left)
    (λ after rest. then (last_blanks (front is_blank rest) (behind is_blank rest)) (last_ends _ (behind is_blank rest)) (λ last end. finds)))))

-- a 9 of a sheet leaves nothing
pub cut_at_end : (m : Modes) (by : Bounds) (deeper room : ℕ) (s left : List ℕ) → sheet_tree m by deeper room s ≡ fault 9 left → left ≡ []
cut_at_end m by deeper room s left e = go (sheet_tree m by deeper room s) e (sheet_ends m by deeper room s)
  where
    go : (x : Found Sheet) → x ≡ fault 9 left → Ends x → left ≡ []
    go (found t rest) e finds = cc
    go (fault n rest) e cut = cc
    go (fault n rest) e (other f) = let q : n ≡ 9 = cc in true_false (sym (eq-eqb n 9 q) ∙ f)
