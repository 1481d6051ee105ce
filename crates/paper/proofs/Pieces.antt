-- Pieces of strings, characters and backticks: what is read of them is what is spelt. Document 01, "The grammar", Values. Assumes nothing.
use Prim.Native.Nat.{ℕ, suc, ◌≤◌, ◌<◌}
use mathlib.Core.Path.{subst, ◌≡◌, refl, sym, ap, ◌∙◌}
use mathlib.Core.Bool.{Bool, true, false, not, ◌&&◌}
use mathlib.Core.List.{List, [], ◌∷◌, ◌++◌, map, append-nil, append_assoc}
use native.Mathlib.Omega.{arith}
use lib.ListN.{length, take, drop, length-append, take-append-drop}
use lib.Seq.{take_at, drop_at}
use lib.Dec.{leb, eqb}
use borrow.Author.Tests.{leb-true, le-leb, lt-leb, eqb-true, not-true}
use Rattle.paper.specs.Found.{Found, found, fault, more, over, stop, turn_of, many_of, taking}
use Rattle.paper.specs.Bytes.{byte, bytes, is_digit, is_hex, is_line_end, all, elem, starts_in, starts_with, length_in, front, behind, scalar, is_scalar, encode, is}
use Rattle.paper.specs.Values.{Piece, direct, escaped, four, braces, piece_onto, pieces_onto, spells_scalar, hex_value, piece_rule, one_scalar, backtick_rule}
use Rattle.paper.specs.ReadingValues.{judged, four_digits, braced_digits, escape, closes, escapes, breaks, itself, inside_of, piece_turn, backtick_turn}
use Rattle.paper.proofs.Tests.{split, true_false, apart, up_to}
use Rattle.paper.proofs.Finds.{whole, past, tail_of, tail_end, faults, Reads, Turns, turns_of}
use Rattle.paper.proofs.Scalars.{scalar_sound, scalar_encode, encode_high}
use Rattle.paper.proofs.Runs.{many_reads, Shorter, turns_shorter, run_more, run_over, run_stop, run_on}
use Rattle.paper.proofs.Lists.{both, and, is_not, by_front, all_nil, all_cons, starts_is, front_behind, front_length, front_of, behind_of, front_least, all_head}
use Rattle.paper.proofs.Lists.{starts_not, all_weaken, all_map, empty_is}

-- ---- the spelling in front of what follows

pub piece_append : (p : Piece) (next : List ℕ) → piece_onto p next ≡ piece_onto p [] ++ next
unfolding piece_onto
piece_append (direct b) next = refl
piece_append (escaped b) next = refl
piece_append (four digits) next = rw (append-nil digits)
piece_append (braces digits) next = rw (append_assoc digits (byte "}" ∷ []) next)

pub pieces_append : (ps : List Piece) (next : List ℕ) → pieces_onto ps next ≡ pieces_onto ps [] ++ next
unfolding pieces_onto
pieces_append [] next = refl
pieces_append (p ∷ ps) next =
    rw (pieces_append ps next, piece_append p (pieces_onto ps [] ++ next), piece_append p (pieces_onto ps [])) (sym (append_assoc (piece_onto p []) (pieces_onto ps []) next))

-- a piece has one byte at least
pub piece_longer : (p : Piece) (next : List ℕ) → length next < length (piece_onto p next)
unfolding piece_onto
piece_longer (direct b) next = omega arith
piece_longer (escaped b) next = omega arith
piece_longer (four digits) next = omega (arith, length-append digits next)
piece_longer (braces digits) next = omega (arith, length-append digits (byte "}" ∷ next))

-- ---- an escape, step by step

module _ (quote : ℕ) (back : List ℕ) where
  -- a piece that is spelt out, by its rule
  pub judged_keeps : (p : Piece) (left : List ℕ) → piece_rule quote p ≡ true → judged quote back p left ≡ found p left
  unfolding judged
  judged_keeps p left e = rw (e, judged)

  pub judged_breaks : (p : Piece) (left : List ℕ) → piece_rule quote p ≡ false → judged quote back p left ≡ fault 6 back
  unfolding judged
  judged_breaks p left e = rw (e, judged)

  module _ (s : List ℕ) where
    -- four hex digits: there, cut by the end of input, or another byte among them
    pub four_there : 4 ≤ length_in is_hex s → four_digits quote back s ≡ judged quote back (four (take 4 s)) (drop 4 s)
    unfolding four_digits
    four_there h = rw (le-leb 4 (length_in is_hex s) h, four_digits)

    pub four_cut : length_in is_hex s < 4 → behind is_hex s ≡ [] → four_digits quote back s ≡ fault 9 []
    unfolding four_digits
    four_cut h e = rw (lt-leb 4 (length_in is_hex s) h, four_digits, e)

    pub four_not : (b : ℕ) (l : List ℕ) → length_in is_hex s < 4 → behind is_hex s ≡ b ∷ l → four_digits quote back s ≡ fault 6 back
    unfolding four_digits
    four_not b l h e = rw (lt-leb 4 (length_in is_hex s) h, four_digits, e)

    -- hex digits and "}": too many digits, cut, closed, or another byte
    pub braced_long : 6 < length_in is_hex s → braced_digits quote back s ≡ fault 6 back
    unfolding braced_digits
    braced_long h = rw (le-leb 7 (length_in is_hex s) h, braced_digits)

    pub braced_cut : length_in is_hex s ≤ 6 → behind is_hex s ≡ [] → braced_digits quote back s ≡ fault 9 []
    unfolding braced_digits
    braced_cut h e = rw (lt-leb 7 (length_in is_hex s) (omega arith), braced_digits, e)

    pub braced_closed : (l : List ℕ) → length_in is_hex s ≤ 6 → behind is_hex s ≡ byte "}" ∷ l → braced_digits quote back s ≡ judged quote back (braces (front is_hex s)) l
    unfolding braced_digits
    braced_closed l h e = rw (lt-leb 7 (length_in is_hex s) (omega arith), braced_digits, e)

    pub braced_not : (b : ℕ) (l : List ℕ) → length_in is_hex s ≤ 6 → behind is_hex s ≡ b ∷ l → eqb b (byte "}") ≡ false → braced_digits quote back s ≡ fault 6 back
    unfolding braced_digits
    braced_not b l h e f = rw (lt-leb 7 (length_in is_hex s) (omega arith), braced_digits, e, f)

  -- by what follows the backslash: nothing, "u" and digits, "u{", or a letter
  pub escape_end : escape quote back [] ≡ fault 9 []
  unfolding escape
  escape_end = refl

  pub escape_four : (l : List ℕ) → starts_with (bytes "{") l ≡ false → escape quote back (byte "u" ∷ l) ≡ four_digits quote back l
  unfolding escape
  escape_four l e = rw (e, escape)

  pub escape_braces : (l : List ℕ) → escape quote back (byte "u" ∷ byte "{" ∷ l) ≡ braced_digits quote back l
  unfolding escape starts_with
  escape_braces l = refl

  pub escape_letter : (b : ℕ) (l : List ℕ) → eqb b (byte "u") ≡ false → escape quote back (b ∷ l) ≡ judged quote back (escaped b) l
  unfolding escape
  escape_letter b l e = rw (e, escape)

-- ---- what an escape reads

-- the piece stood in front, and keeps the rule between two of this quote
pub record Stood (quote : ℕ) (s : List ℕ) (p : Piece) (left : List ℕ) : Type 0 where
  pub covers : s ≡ piece_onto p left
  pub rule : piece_rule quote p ≡ true

module _ (quote : ℕ) where
  judged_reads : (back : List ℕ) (p : Piece) (left : List ℕ) → back ≡ piece_onto p left → Reads back (Stood quote back) (judged quote back p left)
  judged_reads back p left c =
      split (piece_rule quote p)
      (λ e. rw (judged_keeps quote back p left e, Reads) (tail_of (piece_onto p []) (c ∙ piece_append p left), record { covers = c; rule = e }))
      (λ e. rw (judged_breaks quote back p left e, Reads) (faults 6 (omega arith) whole))

  four_reads : (s : List ℕ) → let back = byte "\\" ∷ byte "u" ∷ s in Reads back (Stood quote back) (four_digits quote back s)
  unfolding piece_onto
  four_reads s =
      let back = byte "\\" ∷ byte "u" ∷ s in
      up_to 4 (length_in is_hex s)
      (λ h. rw (four_there quote back s h) (judged_reads back (four (take 4 s)) (drop 4 s) (rw (take-append-drop 4 s))))
      (λ h. by_front (behind is_hex s)
      (λ e. rw (four_cut quote back s h e, Reads) (faults 9 (omega arith) (tail_end back)))
      (λ b l e. rw (four_not quote back s b l h e, Reads) (faults 6 (omega arith) whole)))

  braced_reads : (s : List ℕ) → let back = byte "\\" ∷ byte "u" ∷ byte "{" ∷ s in Reads back (Stood quote back) (braced_digits quote back s)
  unfolding piece_onto
  braced_reads s =
      let back = byte "\\" ∷ byte "u" ∷ byte "{" ∷ s in
      up_to 7 (length_in is_hex s)
      (λ h. rw (braced_long quote back s h, Reads) (faults 6 (omega arith) whole))
      (λ h. by_front (behind is_hex s)
      (λ e. rw (braced_cut quote back s (omega arith) e, Reads) (faults 9 (omega arith) (tail_end back)))
      (λ b l e. split (eqb b (byte "}"))
      (λ f. let g : behind is_hex s ≡ byte "}" ∷ l = e ∙ rw (eqb-true b (byte "}") f) in
      rw (braced_closed quote back s l (omega arith) g) (judged_reads back (braces (front is_hex s)) l (rw (← g, front_behind is_hex s))))
      (λ f. rw (braced_not quote back s b l (omega arith) e f, Reads) (faults 6 (omega arith) whole))))

  -- what is read behind a backslash stood there, and keeps the rule
  pub escape_reads : (l : List ℕ) → let back = byte "\\" ∷ l in Reads back (Stood quote back) (escape quote back l)
  unfolding escape piece_onto
  escape_reads [] = faults 9 (omega arith) (tail_end _)
  escape_reads (b ∷ l) =
      split (eqb b (byte "u"))
      (λ e. rw (eqb-true b (byte "u") e) (split (starts_with (bytes "{") l)
      (λ f. rw (starts_is (bytes "{") l f) (rw (escape_braces quote _ (drop 1 l)) (braced_reads (drop 1 l))))
      (λ f. rw (escape_four quote _ l f) (four_reads l))))
      (λ e. rw (escape_letter quote _ b l e) (judged_reads (byte "\\" ∷ b ∷ l) (escaped b) l refl))

-- ---- where a bad escape is told

module _ (quote : ℕ) (back : List ℕ) where
  -- a 6 is told at the backslash
  abbrev AtBack : Found Piece → Type 0
  AtBack x = (left : List ℕ) → x ≡ fault 6 left → left ≡ back

  at_back : AtBack (fault 6 back)
  at_back left e = cc

  at_cut : AtBack (fault 9 [])
  at_cut left e = let z : ◌≡◌ {A = ℕ} 0 1 = cc in absurd (omega arith)

  judged_place : (p : Piece) (l : List ℕ) → AtBack (judged quote back p l)
  judged_place p l =
      split (piece_rule quote p)
      (λ f. rw (judged_keeps quote back p l f) (λ left e. let z : ◌≡◌ {A = ℕ} 0 1 = cc in absurd (omega arith)))
      (λ f. rw (judged_breaks quote back p l f) at_back)

  four_place : (s : List ℕ) → AtBack (four_digits quote back s)
  four_place s =
      up_to 4 (length_in is_hex s) (λ h. rw (four_there quote back s h) (judged_place _ _))
      (λ h. by_front (behind is_hex s) (λ e. rw (four_cut quote back s h e) at_cut) (λ b l e. rw (four_not quote back s b l h e) at_back))

  braced_place : (s : List ℕ) → AtBack (braced_digits quote back s)
  braced_place s =
      up_to 7 (length_in is_hex s) (λ h. rw (braced_long quote back s h) at_back)
      (λ h. by_front (behind is_hex s)
      (λ e. rw (braced_cut quote back s (omega arith) e) at_cut)
      (λ b l e. split (eqb b (byte "}"))
      (λ f. rw (braced_closed quote back s l (omega arith) (e ∙ rw (eqb-true b (byte "}") f))) (judged_place _ _))
      (λ f. rw (braced_not quote back s b l (omega arith) e f) at_back)))

  -- also where it is a later digit that does not fit
  pub escape_place : (l left : List ℕ) → escape quote back l ≡ fault 6 left → left ≡ back
  escape_place [] = rw (escape_end quote back) at_cut
  escape_place (b ∷ l) =
      split (eqb b (byte "u"))
      (λ e. rw (eqb-true b (byte "u") e) (split (starts_with (bytes "{") l)
      (λ f. rw (starts_is (bytes "{") l f) (rw (escape_braces quote back (drop 1 l)) (braced_place (drop 1 l))))
      (λ f. rw (escape_four quote back l f) (four_place l))))
      (λ e. rw (escape_letter quote back b l e) (judged_place (escaped b) l))

-- ---- a spelt escape is read back

hex_digits : (digits : List ℕ) → spells_scalar digits ≡ true → all is_hex digits ≡ true
unfolding spells_scalar
hex_digits digits e = (both (all is_hex digits) (is_scalar (hex_value 0 digits)) e).0

no_brace : (digits next : List ℕ) → 0 < length digits → all is_hex digits ≡ true → starts_with (bytes "{") (digits ++ next) ≡ false
unfolding is_hex is_digit starts_in
no_brace [] next h e = absurd (omega arith)
no_brace (d ∷ digits) next h e = starts_not is_hex (byte "{") (d ∷ (digits ++ next)) (all_head is_hex d digits e).0 refl

no_hex : (next : List ℕ) → starts_in is_hex (byte "}" ∷ next) ≡ false
unfolding starts_in is_hex is_digit
no_hex next = refl

module _ (quote : ℕ) (back : List ℕ) where
  -- a letter, four digits, digits in braces
  pub letter_back : (b : ℕ) (next : List ℕ) → piece_rule quote (escaped (byte "u")) ≡ false → piece_rule quote (escaped b) ≡ true
      → escape quote back (b ∷ next) ≡ found (escaped b) next
  letter_back b next u e = escape_letter quote back b next (apart (λ c. piece_rule quote (escaped c)) b (byte "u") e u) ∙ judged_keeps quote back (escaped b) next e

  pub four_back : (digits next : List ℕ) → piece_rule quote (four digits) ≡ true → escape quote back (byte "u" ∷ (digits ++ next)) ≡ found (four digits) next
  unfolding piece_rule
  four_back digits next e =
      let h = both (eqb (length digits) 4) (spells_scalar digits) e in
      let n = eqb-true (length digits) 4 h.0 in
      let x = hex_digits digits h.1 in
      rw (
        escape_four quote back (digits ++ next) (no_brace digits next (omega arith) x),
        four_there quote back (digits ++ next) (omega (arith, front_least is_hex digits next x)),
        take_at digits next 4 n,
        drop_at digits next 4 n,
      )
      (judged_keeps quote back (four digits) next e)

  pub braces_back : (digits next : List ℕ) → piece_rule quote (braces digits) ≡ true
      → escape quote back (byte "u" ∷ byte "{" ∷ (digits ++ (byte "}" ∷ next))) ≡ found (braces digits) next
  unfolding piece_rule
  braces_back digits next e =
      let h = both (leb 1 (length digits) && leb (length digits) 6) (spells_scalar digits) e in
      let k = both (leb 1 (length digits)) (leb (length digits) 6) h.0 in
      let x = hex_digits digits h.1 in
      let stop = no_hex next in
      rw (
        escape_braces quote back (digits ++ (byte "}" ∷ next)),
        braced_closed quote back (digits ++ (byte "}" ∷ next)) next (omega (arith, leb-true (length digits) 6 k.1, front_length is_hex digits (byte "}" ∷ next) x stop))
            (behind_of is_hex digits (byte "}" ∷ next) x stop),
        front_of is_hex digits (byte "}" ∷ next) x stop,
      )
      (judged_keeps quote back (braces digits) next e)

-- ---- what a byte is between two quotes

module _ (quote b : ℕ) where
  -- a byte that may stand for itself does
  pub inside_itself : piece_rule quote (direct b) ≡ true → inside_of quote b ≡ itself
  unfolding inside_of piece_rule
  inside_itself e =
      split (eqb b quote) (λ f. true_false (sym e ∙ rw f))
      (λ f. split (eqb b (byte "\\")) (λ g. true_false (sym e ∙ rw (f, g)))
      (λ g. split (is_line_end b) (λ h. true_false (sym e ∙ rw (f, g, h))) (λ h. rw (f, g, h))))

  -- the closing quote, a backslash, a line end, or a byte that may stand for itself
  pub by_inside : {X : Type 0} → (b ≡ quote → inside_of quote b ≡ closes → X) → (b ≡ byte "\\" → inside_of quote b ≡ escapes → X) → (inside_of quote b ≡ breaks → X)
      → (piece_rule quote (direct b) ≡ true → inside_of quote b ≡ itself → X) → X
  unfolding inside_of piece_rule
  by_inside close back line on =
      split (eqb b quote) (λ e. close (eqb-true b quote e) (rw e))
      (λ e. split (eqb b (byte "\\")) (λ f. back (eqb-true b (byte "\\") f) (rw (e, f)))
      (λ f. split (is_line_end b) (λ g. line (rw (e, f, g))) (λ g. on (rw (e, f, g)) (rw (e, f, g)))))

-- ---- strings

pub turn_end : (room : ℕ) → piece_turn room [] ≡ stop 9 []
unfolding piece_turn
turn_end room = refl

-- one turn by what its first byte is
module _ (room b : ℕ) (l : List ℕ) where
  pub turn_closes : inside_of (byte "\"") b ≡ closes → piece_turn room (b ∷ l) ≡ over l
  unfolding piece_turn
  turn_closes e = rw (e, piece_turn)

  pub turn_escapes : inside_of (byte "\"") b ≡ escapes → piece_turn room (b ∷ l) ≡ turn_of (escape (byte "\"") (b ∷ l) l)
  unfolding piece_turn
  turn_escapes e = rw (e, piece_turn)

  pub turn_breaks : inside_of (byte "\"") b ≡ breaks → piece_turn room (b ∷ l) ≡ stop 6 (b ∷ l)
  unfolding piece_turn
  turn_breaks e = rw (e, piece_turn)

  pub turn_itself : inside_of (byte "\"") b ≡ itself → piece_turn room (b ∷ l) ≡ more (direct b) l
  unfolding piece_turn
  turn_itself e = rw (e, piece_turn)

-- the pieces and the closing quote stood in front
pub record Quoted (s : List ℕ) (ps : List Piece) (left : List ℕ) : Type 0 where
  pub covers : s ≡ pieces_onto ps (byte "\"" ∷ left)
  pub rule : all (piece_rule (byte "\"")) ps ≡ true

piece_turns : (room : ℕ) (s : List ℕ) → Turns s (Stood (byte "\"") s) (λ left. s ≡ byte "\"" ∷ left) (piece_turn room s)
unfolding piece_turn piece_onto
piece_turns room [] = faults 9 (omega arith) whole
piece_turns room (b ∷ l) =
    by_inside (byte "\"") b
    (λ q e. rw (turn_closes room b l e, Turns) (past whole, rw q))
    (λ q e. rw (turn_escapes room b l e)
    (subst (λ (c : ℕ). Turns (c ∷ l) (Stood (byte "\"") (c ∷ l)) (λ left. c ∷ l ≡ byte "\"" ∷ left) (turn_of (escape (byte "\"") (c ∷ l) l))) (sym q)
    (turns_of (byte "\\" ∷ l) _ _ (escape (byte "\"") (byte "\\" ∷ l) l) (escape_reads (byte "\"") l))))
    (λ e. rw (turn_breaks room b l e, Turns) (faults 6 (omega arith) whole))
    (λ r e. rw (turn_itself room b l e, Turns) (past whole, record { covers = refl; rule = r }))

-- what is read of a string stood there, and keeps the rule
pub pieces_read : (s : List ℕ) → Reads s (Quoted s) (many_of (λ p. 0) piece_turn 0 s)
unfolding pieces_onto
pieces_read s =
    many_reads (taking (λ p. 0)) piece_turn
    (record { of_turn = λ room s p left. Stood (byte "\"") s p left; of_end = λ room s left. s ≡ byte "\"" ∷ left; of_run = λ room s ps left. Quoted s ps left })
    piece_turns
    (λ room s left e. record { covers = e; rule = all_nil _ })
    (λ room s p mid ps left h k. record { covers = h.covers ∙ ap (piece_onto p) k.covers; rule = all_cons _ p ps h.rule k.rule })
    (suc (length s)) 0 s

-- a turn takes a byte at least
pub turn_shorter : (room : ℕ) (s : List ℕ) → Shorter s (piece_turn room s)
turn_shorter room s = turns_shorter s (Stood (byte "\"") s) _ (λ p left h. rw h.covers (piece_longer p left)) (piece_turn room s) (piece_turns room s)

turn_back : (room : ℕ) (p : Piece) (next : List ℕ) → piece_rule (byte "\"") p ≡ true → piece_turn room (piece_onto p next) ≡ more p next
unfolding piece_onto piece_rule inside_of elem
turn_back room (direct b) next e = turn_itself room b next (inside_itself (byte "\"") b e)
turn_back room (escaped b) next e = turn_escapes room (byte "\\") (b ∷ next) refl ∙ ap turn_of (letter_back (byte "\"") _ b next refl e)
turn_back room (four digits) next e = turn_escapes room (byte "\\") (byte "u" ∷ (digits ++ next)) refl ∙ ap turn_of (four_back (byte "\"") _ digits next e)
turn_back room (braces digits) next e =
    turn_escapes room (byte "\\") (byte "u" ∷ byte "{" ∷ (digits ++ (byte "}" ∷ next))) refl ∙ ap turn_of (braces_back (byte "\"") _ digits next e)

-- spelt pieces and their closing quote are read back
pub pieces_back : (ps : List Piece) (left : List ℕ) → all (piece_rule (byte "\"")) ps ≡ true
    → many_of (λ p. 0) piece_turn 0 (pieces_onto ps (byte "\"" ∷ left)) ≡ found ps left
unfolding pieces_onto inside_of
pieces_back [] left e = run_over (taking (λ p. 0)) piece_turn turn_shorter 0 _ left (turn_closes 0 (byte "\"") left refl)
pieces_back (p ∷ ps) left e =
    let h = all_head (piece_rule (byte "\"")) p ps e in
    run_more (taking (λ p. 0)) piece_turn turn_shorter 0 _ p (pieces_onto ps (byte "\"" ∷ left)) ps left (turn_back 0 p _ h.0) (pieces_back ps left h.1)

-- behind spelt pieces a fault is told as it is
pub pieces_stop : (ps : List Piece) (next : List ℕ) (n : ℕ) (left : List ℕ) → all (piece_rule (byte "\"")) ps ≡ true → piece_turn 0 next ≡ stop n left
    → many_of (λ p. 0) piece_turn 0 (pieces_onto ps next) ≡ fault n left
unfolding pieces_onto
pieces_stop [] next n left e f = run_stop (taking (λ p. 0)) piece_turn turn_shorter 0 next n left f
pieces_stop (p ∷ ps) next n left e f =
    let h = all_head (piece_rule (byte "\"")) p ps e in
    run_on (taking (λ p. 0)) piece_turn turn_shorter 0 _ p (pieces_onto ps next) n left (turn_back 0 p _ h.0) (pieces_stop ps next n left h.1 f)

-- ---- backticks

pub tick_end : (room : ℕ) → backtick_turn room [] ≡ stop 9 []
unfolding backtick_turn
tick_end room = refl

-- one turn: the closing backtick, the one escape, or a byte that is itself
module _ (room : ℕ) (l : List ℕ) where
  pub tick_closes : backtick_turn room (byte "`" ∷ l) ≡ over l
  unfolding backtick_turn
  tick_closes = refl

  pub tick_escapes : backtick_turn room (byte "\\" ∷ byte "`" ∷ l) ≡ more (escaped (byte "`")) l
  unfolding backtick_turn starts_with
  tick_escapes = refl

  pub tick_itself : (b : ℕ) → eqb b (byte "`") ≡ false → starts_with (bytes "\\`") (b ∷ l) ≡ false → backtick_turn room (b ∷ l) ≡ more (direct b) l
  unfolding backtick_turn
  tick_itself b e f = rw (e, backtick_turn, f)

-- a backslash that is itself has no backtick behind it
pub tick_apart : (b : ℕ) (l : List ℕ) → (eqb b (byte "\\") ≡ true → starts_in (is (byte "`")) l ≡ false) → starts_with (bytes "\\`") (b ∷ l) ≡ false
unfolding starts_with starts_in
tick_apart b [] h = split (eqb b (byte "\\")) (λ e. rw (e, starts_with)) (λ e. rw (e, starts_with))
tick_apart b (c ∷ l) h = split (eqb b (byte "\\")) (λ e. rw (e, starts_with, h e)) (λ e. rw (e, starts_with))

pub tick_behind : (b : ℕ) (l : List ℕ) → starts_with (bytes "\\`") (b ∷ l) ≡ false → eqb b (byte "\\") ≡ true → starts_in (is (byte "`")) l ≡ false
unfolding starts_with starts_in
tick_behind b [] e f = refl
tick_behind b (c ∷ l) e f = split (eqb c (byte "`")) (λ g. true_false (rw (f, starts_with, g) at e)) (λ g. g)

-- the pieces and the closing backtick stood in front
pub record Ticked (s : List ℕ) (ps : List Piece) (left : List ℕ) : Type 0 where
  pub covers : s ≡ pieces_onto ps (byte "`" ∷ left)
  pub rule : (after : Bool) → (after ≡ true → starts_in (is (byte "`")) s ≡ false) → backtick_rule after ps ≡ true

-- one piece did, and may stand before all that may stand behind it
record Tick (s : List ℕ) (p : Piece) (left : List ℕ) : Type 0 where
  covers : s ≡ piece_onto p left
  rule : (ps : List Piece) → ((after : Bool) → (after ≡ true → starts_in (is (byte "`")) left ≡ false) → backtick_rule after ps ≡ true) → (after : Bool)
      → backtick_rule after (p ∷ ps) ≡ true

ticked_end : (s left : List ℕ) → s ≡ byte "`" ∷ left → Ticked s [] left
unfolding pieces_onto backtick_rule starts_in
ticked_end s left e = record { covers = e; rule = λ after h. split after (λ f. true_false (rw e at (h f))) (λ f. rw f) }

tick_turns : (room : ℕ) (s : List ℕ) → Turns s (Tick s) (λ left. s ≡ byte "`" ∷ left) (backtick_turn room s)
unfolding backtick_turn piece_onto backtick_rule starts_with
tick_turns room [] = faults 9 (omega arith) whole
tick_turns room (b ∷ l) =
    split (eqb b (byte "`"))
    (λ e. rw (eqb-true b (byte "`") e) (past whole, refl))
    (λ e. split (starts_with (bytes "\\`") (b ∷ l))
    (λ f. rw (starts_is (bytes "\\`") (b ∷ l) f) (past (past whole), record { covers = refl; rule = λ ps h after. h false (λ z. true_false (sym z)) }))
    (λ f. rw (tick_itself room l b e f, Turns) (past whole, record { covers = refl; rule = λ ps h after. and (is_not e) (h (eqb b (byte "\\")) (tick_behind b l f)) })))

-- what is read between backticks stood there, and keeps the rule
pub ticks_read : (s : List ℕ) → Reads s (Ticked s) (many_of (λ p. 0) backtick_turn 0 s)
unfolding pieces_onto
ticks_read s =
    many_reads (taking (λ p. 0)) backtick_turn
    (record { of_turn = λ room s p left. Tick s p left; of_end = λ room s left. s ≡ byte "`" ∷ left; of_run = λ room s ps left. Ticked s ps left })
    tick_turns
    (λ room s left e. ticked_end s left e)
    (λ room s p mid ps left h k. record { covers = h.covers ∙ ap (piece_onto p) k.covers; rule = λ after z. h.rule ps k.rule after })
    (suc (length s)) 0 s

-- a turn takes a byte at least
pub tick_shorter : (room : ℕ) (s : List ℕ) → Shorter s (backtick_turn room s)
tick_shorter room s = turns_shorter s (Tick s) _ (λ p left h. rw h.covers (piece_longer p left)) (backtick_turn room s) (tick_turns room s)

-- what may stand behind a backslash that is itself does not begin with a backtick
not_tick : (ps : List Piece) (left : List ℕ) → backtick_rule true ps ≡ true → starts_in (is (byte "`")) (pieces_onto ps (byte "`" ∷ left)) ≡ false
unfolding backtick_rule pieces_onto piece_onto starts_in
not_tick [] left e = true_false (sym e)
not_tick (direct b ∷ ps) left e = not-true (eqb b (byte "`")) (both (not (eqb b (byte "`"))) (backtick_rule (eqb b (byte "\\")) ps) e).0
not_tick (escaped b ∷ ps) left e = refl
not_tick (four digits ∷ ps) left e = refl
not_tick (braces digits ∷ ps) left e = refl

-- spelt pieces and their closing backtick are read back
pub ticks_back : (after : Bool) (ps : List Piece) (left : List ℕ) → backtick_rule after ps ≡ true
    → many_of (λ p. 0) backtick_turn 0 (pieces_onto ps (byte "`" ∷ left)) ≡ found ps left
unfolding backtick_rule pieces_onto piece_onto
ticks_back after [] left e = run_over (taking (λ p. 0)) backtick_turn tick_shorter 0 _ left (tick_closes 0 left)
ticks_back after (direct b ∷ ps) left e =
    let h = both (not (eqb b (byte "`"))) (backtick_rule (eqb b (byte "\\")) ps) e in
    run_more (taking (λ p. 0)) backtick_turn tick_shorter 0 _ (direct b) (pieces_onto ps (byte "`" ∷ left)) ps left
    (tick_itself 0 _ b (not-true (eqb b (byte "`")) h.0) (tick_apart b _ (λ f. not_tick ps left (rw f at h.1))))
    (ticks_back (eqb b (byte "\\")) ps left h.1)
ticks_back after (escaped b ∷ ps) left e =
    let h = both (eqb b (byte "`")) (backtick_rule false ps) e in
    rw (eqb-true b (byte "`") h.0)
    (run_more (taking (λ p. 0)) backtick_turn tick_shorter 0 _ (escaped (byte "`")) (pieces_onto ps (byte "`" ∷ left)) ps left (tick_escapes 0 _) (ticks_back false ps left h.1))
ticks_back after (four digits ∷ ps) left e = true_false (sym e)
ticks_back after (braces digits ∷ ps) left e = true_false (sym e)

-- ---- one scalar value, spelt directly

-- direct pieces are spelt as their bytes
pub direct_onto : (w next : List ℕ) → pieces_onto (map direct w) next ≡ w ++ next
unfolding pieces_onto piece_onto
direct_onto [] next = refl
direct_onto (b ∷ w) next = ap (λ (l : List ℕ). b ∷ l) (direct_onto w next)

-- pieces without a backslash are direct
only_direct : (ps : List Piece) → all (λ b. not (eqb b (byte "\\"))) (pieces_onto ps []) ≡ true → ps ≡ map direct (pieces_onto ps [])
unfolding pieces_onto piece_onto all
only_direct [] e = refl
only_direct (direct b ∷ ps) e = ap (λ (qs : List Piece). direct b ∷ qs) (only_direct ps (both (not (eqb b (byte "\\"))) _ e).1)
only_direct (escaped b ∷ ps) e = true_false (sym e)
only_direct (four digits ∷ ps) e = true_false (sym e)
only_direct (braces digits ∷ ps) e = true_false (sym e)

module _ (quote : ℕ) where
  high_direct : quote < 0x80 → (b : ℕ) → leb 0x80 b ≡ true → piece_rule quote (direct b) ≡ true
  unfolding piece_rule is_line_end
  high_direct q b e =
      rw (apart (leb 0x80) b quote e (lt-leb 0x80 quote q), apart (leb 0x80) b (byte "\\") e refl, apart (leb 0x80) b 0x0A e refl, apart (leb 0x80) b 0x0D e refl)

  no_backslash : (b : ℕ) → piece_rule quote (direct b) ≡ true → not (eqb b (byte "\\")) ≡ true
  unfolding piece_rule
  no_backslash b e = split (eqb b quote) (λ f. true_false (sym e ∙ rw f)) (λ f. split (eqb b (byte "\\")) (λ g. true_false (sym e ∙ rw (f, g))) (λ g. rw g))

  -- its pieces keep the rule if the first one does
  pub scalar_rule : quote < 0x80 → (b v : ℕ) (l left : List ℕ) → piece_rule quote (direct b) ≡ true → b ∷ l ≡ encode v ++ left
      → all (piece_rule quote) (map direct (encode v)) ≡ true
  scalar_rule q b v l left r e =
      by_front (encode v) (λ f. rw f (all_nil _))
      (λ c w f. let g : b ∷ l ≡ c ∷ (w ++ left) = e ∙ ap (λ (x : List ℕ). x ++ left) f in
      let h : b ≡ c = cc in
      rw f (all_cons _ (direct c) (map direct w) (rw h at r)
      (rw all_map (all_weaken (leb 0x80) (λ a. piece_rule quote (direct a)) (high_direct q) w (rw f at (encode_high v))))))

scalar_some : {X : Type 0} (v : ℕ) → scalar [] ≡ found v [] → X
unfolding scalar
scalar_some v e = let z : true ≡ false = cc in true_false z

-- and are one scalar value
pub scalar_one : (v : ℕ) → is_scalar v ≡ true → one_scalar (map direct (encode v)) ≡ true
unfolding one_scalar
scalar_one v r = go (encode v) (scalar_encode v [] r)
  where
    go : (w : List ℕ) → scalar (w ++ []) ≡ found v [] → one_scalar (map direct w) ≡ true
    go [] e = scalar_some v e
    go (b ∷ w) e = rw (direct_onto (b ∷ w) [], one_scalar, e)

spelt_directly : (quote b v : ℕ) (ps : List Piece) → piece_rule quote (direct b) ≡ true → pieces_onto (direct b ∷ ps) [] ≡ encode v → direct b ∷ ps ≡ map direct (encode v)
unfolding pieces_onto piece_onto
spelt_directly quote b v ps r e =
    only_direct (direct b ∷ ps)
    (all_cons _ b (pieces_onto ps []) (no_backslash quote b r)
    (all_weaken (leb 0x80) _ (λ c h. is_not (apart (leb 0x80) c (byte "\\") h refl)) (pieces_onto ps []) (rw (← e) at (encode_high v))))
    ∙ ap (map direct) e

-- pieces that are one scalar value, the first one direct, are its direct spelling
pub one_scalar_lem : {X : Type 0} (quote b : ℕ) (ps : List Piece) → piece_rule quote (direct b) ≡ true → one_scalar (direct b ∷ ps) ≡ true
    → ((v : ℕ) → is_scalar v ≡ true → direct b ∷ ps ≡ map direct (encode v) → X) → X
unfolding one_scalar
one_scalar_lem {X} quote b ps r e so = go (scalar (pieces_onto (direct b ∷ ps) [])) refl
  where
    ends : (v : ℕ) (left : List ℕ) → scalar (pieces_onto (direct b ∷ ps) []) ≡ found v left → left ≡ []
    ends v left f = empty_is left (rw (f, one_scalar) at e)

    go : (x : Found ℕ) → scalar (pieces_onto (direct b ∷ ps) []) ≡ x → X
    go (found v left) f =
        let h = scalar_sound _ v [] (f ∙ rw (ends v left f)) in
        so v h.right (spelt_directly quote b v ps r (h.whole ∙ append-nil (encode v)))
    go (fault n left) f = true_false (sym (rw (f, one_scalar) at e))

-- an escape is one scalar value
pub one_escape : (quote : ℕ) (p : Piece) (l left : List ℕ) → byte "\\" ∷ l ≡ piece_onto p left → piece_rule quote p ≡ true → one_scalar (p ∷ []) ≡ true
unfolding piece_onto one_scalar
one_escape quote (direct b) l left e r =
    let q : byte "\\" ≡ b = cc in
    true_false (sym (rw (← q) at (no_backslash quote b r)))
one_escape quote (escaped b) l left e r = refl
one_escape quote (four digits) l left e r = refl
one_escape quote (braces digits) l left e r = refl
