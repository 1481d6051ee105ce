-- Where a 6 or a 10 stands in a value, document 02, Four and Five, and an 18 at a name, Six, phrase by phrase: in front of the fault stands what the grammar
-- spells. Assumes nothing.
use Prim.Native.Nat.{ℕ, suc, ◌≤◌, ◌<◌}
use mathlib.Core.Path.{◌≡◌, refl, sym, ap, ◌∙◌}
use mathlib.Core.Bool.{Bool, true, false, not, ◌&&◌}
use mathlib.Core.List.{List, [], ◌∷◌, ◌++◌, append-nil, append_assoc}
use mathlib.Core.Option.{none}
use native.Mathlib.Omega.{arith}
use lib.ListN.{length}
use lib.Seq.{take-append_seam, drop-append_seam}
use lib.Dec.{leb, eqb}
use borrow.Author.Tests.{eqb-true, leb-true}
use Rattle.paper.specs.declared.brackets.Bracket.{Bracket}
use Rattle.paper.specs.Found.{found, fault, stop, turn_of}
use Rattle.paper.specs.Bytes.{byte, bytes, is_lower, is_name_byte, is_white, is_line_end, all, elem, starts_in, starts_with, is_blank, front, is}
use Rattle.paper.specs.Names.{name_rule, is_name, among, distinct}
use Rattle.paper.specs.Times.{time_kind}
use Rattle.paper.specs.Values.{Piece, pieces_onto, piece_rule, one_scalar, word_form, opener, closer, keyed, enders, key_enders, Key, Label, no_label, label_onto, label_rule}
use Rattle.paper.specs.Values.{Value, bracket, More, comma, value_onto, value_rule, bracket_depth, value_in_slash, ends_word, is_ender}
use Rattle.paper.specs.Tree.{Trait}
use Rattle.paper.specs.Grammar.{traits_onto, trait_rule, trait_names}
use Rattle.paper.specs.Limits.{trait_fits}
use Rattle.paper.specs.Entries.{traits_size}
use Rattle.paper.specs.ReadingValues.{piece_turn, character_of, word_leaf, leaf_of, escape, breaks, inside_of, no_bracket, opens_with, key_of, label_of, value_of, item_and}
use Rattle.paper.specs.Reading.{Bounds, Earlier, with_trait, fresh, trait, trait_turn, traits_behind, no_trait}
use Rattle.paper.proofs.Tests.{split, true_false, apart}
use Rattle.paper.proofs.Lists.{both, all_head, without, front_of, behind_of}
use Rattle.paper.proofs.Finds.{Reads}
use Rattle.paper.proofs.Runs.{run_stop, run_on}
use Rattle.paper.proofs.Distinct.{distinct_apart}
use Rattle.paper.proofs.Lines.{rule_name, name_complete}
use Rattle.paper.proofs.Words.{Cut, word_only}
use Rattle.paper.proofs.Pieces.{escape_place, turn_escapes, turn_breaks, pieces_stop}
use Rattle.paper.proofs.Leaves.{leaf_string, leaf_character, leaf_temporal, leaf_word, character_closes, character_breaks, character_escapes, character_on, close_not}
use Rattle.paper.proofs.Leaves.{Follows, by_first, word_none, temporal_none}
use Rattle.paper.proofs.ReadValues.{value_reads, value_of_leaf, value_of_deep, value_of_items, value_back, more_of_comma, more_of_other, follows_ender}
use Rattle.paper.proofs.ReadValues.{begun, begins, item_stops, label_on}
use Rattle.paper.proofs.WordKinds.{kinds, by_kind, kind_first, word_form_lem}
use Rattle.paper.proofs.BracketKinds.{comma_ends}
use Rattle.paper.proofs.Labels.{label_keyed, label_none, key_place, colon_due, label_reads}
use Rattle.paper.proofs.Markers.{trait_shorter, trait_parts, name_due, turn_complete}

-- ---- strings and characters

-- a line end between two quotes
line_breaks : (quote b : ℕ) → is_line_end quote ≡ false → is_line_end b ≡ true → inside_of quote b ≡ breaks
unfolding inside_of is_line_end
line_breaks quote b q e =
    split (eqb b quote) (λ f. true_false (sym e ∙ rw (eqb-true b quote f) q))
    (λ f. split (eqb b (byte "\\")) (λ g. true_false (sym e ∙ rw (eqb-true b (byte "\\") g))) (λ g. rw (f, g, e)))

module _ (brackets : ℕ) (also : List ℕ) where
  -- the fault of a value that holds no items
  leaf_fault : (s : List ℕ) (n : ℕ) (left : List ℕ) → opens_with s ≡ no_bracket → leaf_of also s ≡ fault n left → value_of brackets also s ≡ fault n left
  leaf_fault s n left e f = value_of_leaf brackets also s e ∙ rw f

  string_fault : (ps : List Piece) (next : List ℕ) (n : ℕ) (left : List ℕ) → all (piece_rule (byte "\"")) ps ≡ true → piece_turn 0 next ≡ stop n left
      → value_of brackets also (byte "\"" ∷ pieces_onto ps next) ≡ fault n left
  unfolding opens_with starts_with
  string_fault ps next n left r e = leaf_fault _ n left refl (leaf_string also (pieces_onto ps next) ∙ rw (pieces_stop ps next n left r e))

  character_fault : (l : List ℕ) (n : ℕ) (left : List ℕ) → character_of l ≡ fault n left → value_of brackets also (byte "'" ∷ l) ≡ fault n left
  unfolding opens_with starts_with
  character_fault l n left e = leaf_fault _ n left refl (leaf_character also l ∙ e)

  -- the backslash of a bad escape, behind good pieces of a string, and in a character
  pub bad_escape : (ps : List Piece) (l left : List ℕ) → all (piece_rule (byte "\"")) ps ≡ true → escape (byte "\"") (byte "\\" ∷ l) l ≡ fault 6 left
      → value_of brackets also (byte "\"" ∷ pieces_onto ps (byte "\\" ∷ l)) ≡ fault 6 (byte "\\" ∷ l)
  unfolding inside_of
  bad_escape ps l left r e =
      string_fault ps (byte "\\" ∷ l) 6 (byte "\\" ∷ l) r
      (turn_escapes 0 (byte "\\") l refl ∙ ap turn_of (e ∙ ap (fault 6) (escape_place (byte "\"") (byte "\\" ∷ l) l left e)))

  pub bad_escape_alone : (l left : List ℕ) → escape (byte "'") (byte "\\" ∷ l) l ≡ fault 6 left
      → value_of brackets also (byte "'" ∷ byte "\\" ∷ l) ≡ fault 6 (byte "\\" ∷ l)
  unfolding inside_of
  bad_escape_alone l left e =
      character_fault (byte "\\" ∷ l) 6 (byte "\\" ∷ l)
      (character_escapes (byte "\\") l refl ∙ rw e (ap (fault 6) (escape_place (byte "'") (byte "\\" ∷ l) l left e)))

  -- the line end that cuts a string, or a character before its scalar
  pub cut_string : (ps : List Piece) (b : ℕ) (l : List ℕ) → all (piece_rule (byte "\"")) ps ≡ true → is_line_end b ≡ true
      → value_of brackets also (byte "\"" ∷ pieces_onto ps (b ∷ l)) ≡ fault 6 (b ∷ l)
  unfolding is_line_end
  cut_string ps b l r e = string_fault ps (b ∷ l) 6 (b ∷ l) r (turn_breaks 0 b l (line_breaks (byte "\"") b refl e))

  pub cut_character : (b : ℕ) (l : List ℕ) → is_line_end b ≡ true → value_of brackets also (byte "'" ∷ b ∷ l) ≡ fault 6 (b ∷ l)
  unfolding is_line_end
  cut_character b l e = character_fault (b ∷ l) 6 (b ∷ l) (character_breaks b l (line_breaks (byte "'") b refl e))

  -- the second scalar of a character that has too many, and the line end behind its scalar; the closing quote of an empty one
  pub second_scalar : (ps : List Piece) (b : ℕ) (l : List ℕ) → all (piece_rule (byte "'")) ps ≡ true → one_scalar ps ≡ true → eqb b (byte "'") ≡ false
      → value_of brackets also (byte "'" ∷ pieces_onto ps (b ∷ l)) ≡ fault 6 (b ∷ l)
  second_scalar ps b l r o e = character_fault _ 6 (b ∷ l) (character_on ps (b ∷ l) r o ∙ close_not ps b l e)

  pub empty_character : (l : List ℕ) → value_of brackets also (byte "'" ∷ byte "'" ∷ l) ≡ fault 6 (byte "'" ∷ l)
  unfolding inside_of
  empty_character l = character_fault (byte "'" ∷ l) 6 (byte "'" ∷ l) (character_closes (byte "'") l refl)

  -- ---- words and times

  -- the first byte of a bad word; of an empty one, what stands where the value was due
  pub bad_word : (w : List ℕ) (b : ℕ) (l : List ℕ) → Cut also w (b ∷ l) → opens_with (w ++ (b ∷ l)) ≡ no_bracket
      → starts_in (without (bytes "\"'`{")) (w ++ (b ∷ l)) ≡ true → word_form w ≡ 0
      → value_of brackets also (w ++ (b ∷ l)) ≡ fault 6 (w ++ (b ∷ l))
  unfolding elem starts_in
  bad_word w b l cut n f z =
      let s = w ++ (b ∷ l) in
      leaf_fault s 6 s n
      (begins s f ∙ rw (word_only also w (b ∷ l) cut, take-append_seam w (b ∷ l), drop-append_seam w (b ∷ l)) (word_none s w b l z))
    where
      begins : (s : List ℕ) → starts_in (without (bytes "\"'`{")) s ≡ true → leaf_of also s ≡ word_leaf also s
      begins [] e = true_false (sym e)
      begins (c ∷ m) e =
          by_first c (λ q. true_false (sym (rw q at e))) (λ q. true_false (sym (rw q at e))) (λ q. true_false (sym (rw q at e)))
          (λ q. true_false (sym (rw q at e))) (λ o. leaf_word also m c o)

  -- the opening brace of a bad time
  pub bad_time : (w l : List ℕ) → all (λ b. not (is (byte "}") b)) w ≡ true → time_kind w ≡ none
      → value_of brackets also (byte "{" ∷ (w ++ (byte "}" ∷ l))) ≡ fault 6 (byte "{" ∷ (w ++ (byte "}" ∷ l)))
  unfolding opens_with starts_with starts_in
  bad_time w l r z =
      let s = byte "{" ∷ (w ++ (byte "}" ∷ l)) in
      leaf_fault s 6 s refl
      (leaf_temporal also (w ++ (byte "}" ∷ l))
      ∙ rw (front_of (λ b. not (is (byte "}") b)) w (byte "}" ∷ l) r refl, behind_of (λ b. not (is (byte "}") b)) w (byte "}" ∷ l) r refl)
      (temporal_none s w (byte "}") l z))

-- ---- brackets

-- the byte of a bracket, the last one of its opener
abbrev pub bracket_byte : Bracket → ℕ
bracket_byte Bracket.List = byte "["
bracket_byte Bracket.Set = byte "["
bracket_byte Bracket.Map = byte "["
bracket_byte Bracket.Tuple = byte "("

-- a bracket too many is at its byte, whatever stands behind it
pub too_deep : (k : Bracket) (also l : List ℕ) → value_of 0 also (opener k ++ l) ≡ fault 10 (bracket_byte k ∷ l)
too_deep Bracket.List also l = value_of_deep Bracket.List also l
too_deep Bracket.Set also l = value_of_deep Bracket.Set also l
too_deep Bracket.Map also l = value_of_deep Bracket.Map also l
too_deep Bracket.Tuple also l = value_of_deep Bracket.Tuple also l

-- items that stand in a bracket in front of another one, each with its label, and with the white space behind its comma
pub data Items : Type 0 where
  start : Items
  item : Label → Value → List ℕ → Items → Items

unfoldable pub items_onto : Items → List ℕ → List ℕ
items_onto start next = next
items_onto (item a v white rest) next = label_onto a (value_onto v (byte "," ∷ (white ++ items_onto rest next)))

-- they keep the rules, where so many brackets may be opened inside
unfoldable pub good_items : Bracket → ℕ → Items → Bool
good_items k brackets start = true
good_items k brackets (item a v white rest) =
    label_rule k a && value_rule (enders k) v && leb (bracket_depth v) brackets && all is_white white && good_items k brackets rest

module _ (k : Bracket) (brackets : ℕ) where
  -- what is known of the first of them
  record Good (a : Label) (v : Value) (white : List ℕ) (rest : Items) : Type 0 where
    labelled : label_rule k a ≡ true
    rule : value_rule (enders k) v ≡ true
    depth : bracket_depth v ≤ brackets
    blank : all is_white white ≡ true
    others : good_items k brackets rest ≡ true

  good_first : (a : Label) (v : Value) (white : List ℕ) (rest : Items) → good_items k brackets (item a v white rest) ≡ true → Good a v white rest
  unfolding good_items
  good_first a v white rest g =
      let h = both _ (good_items k brackets rest) g in
      let i = both _ (all is_white white) h.0 in
      let j = both (label_rule k a && value_rule (enders k) v) (leb (bracket_depth v) brackets) i.0 in
      let l = both (label_rule k a) (value_rule (enders k) v) j.0 in
      record { labelled = l.0; rule = l.1; depth = leb-true (bracket_depth v) brackets j.1; blank = i.1; others = h.1 }

  white_before : (ahead : Items) (next : List ℕ) → good_items k brackets ahead ≡ true → starts_in is_white next ≡ false → starts_in is_white (items_onto ahead next) ≡ false
  unfolding items_onto
  white_before start next g w = w
  white_before (item a v white rest) next g w = let h = good_first a v white rest g in item_stops k a v _ h.labelled h.rule

  -- behind good items a fault is told as it is
  behind_items : {A : Type 0} (make : Label → Value → More → A) (ahead : Items) (next : List ℕ) (n : ℕ) (left : List ℕ) → good_items k brackets ahead ≡ true
      → starts_in is_white next ≡ false → ((B : Type 0) (make : Label → Value → More → B) → item_and k brackets make next ≡ fault n left)
      → item_and k brackets make (items_onto ahead next) ≡ fault n left
  unfolding items_onto
  behind_items {A} make start next n left g w h = h A make
  behind_items make (item a v white rest) next n left g w h =
      let f = good_first a v white rest g in
      let l = white ++ items_onto rest next in
      rw (
        label_on k a v (byte "," ∷ l) f.labelled f.rule,
        value_back v brackets (enders k) (byte "," ∷ l) f.rule f.depth (follows_ender (enders k) (value_in_slash v) (byte ",") l (comma_ends k) refl),
        more_of_comma k brackets l,
        behind_of is_white white (items_onto rest next) f.blank (white_before rest next f.others w),
        behind_items (comma (front is_white l)) rest next n left f.others w h,
      )

  module _ (also : List ℕ) (ahead : Items) (next : List ℕ) (g : good_items k brackets ahead ≡ true) (w : starts_in is_white next ≡ false)
      (c : begun k (items_onto ahead next) ≡ true) where
    -- in a bracket, the same rule for the item at fault, behind good ones; the item may be a bracket in its turn
    pub bad_item : (a : Label) (valued : List ℕ) (n : ℕ) (left : List ℕ) → label_of k next ≡ found a valued → value_of brackets (enders k) valued ≡ fault n left
        → value_of (suc brackets) also (opener k ++ items_onto ahead next) ≡ fault n left
    bad_item a valued n left p e = value_of_items k brackets also (items_onto ahead next) c ∙ behind_items (bracket k) ahead next n left g w (λ B make. rw (p, e))

    bad_label : (n : ℕ) (left : List ℕ) → label_of k next ≡ fault n left → value_of (suc brackets) also (opener k ++ items_onto ahead next) ≡ fault n left
    bad_label n left e = value_of_items k brackets also (items_onto ahead next) c ∙ behind_items (bracket k) ahead next n left g w (λ B make. rw e)

    -- a bad key is at its start, whatever its fault
    pub bad_key : (left : List ℕ) → keyed k ≡ true → key_of (key_enders k) next ≡ fault 6 left
        → value_of (suc brackets) also (opener k ++ items_onto ahead next) ≡ fault 6 next
    bad_key left y e = bad_label 6 next (label_keyed k next y ∙ rw e (ap (fault 6) (key_place (key_enders k) next left e)))

    -- a missing colon is where it was due
    pub no_colon_lem : (key : Key) (b : ℕ) (l : List ℕ) → keyed k ≡ true → key_of (key_enders k) next ≡ found key (b ∷ l) → eqb b (byte ":") ≡ false
        → value_of (suc brackets) also (opener k ++ items_onto ahead next) ≡ fault 6 (b ∷ l)
    no_colon_lem key b l y e f = bad_label 6 (b ∷ l) (label_keyed k next y ∙ rw e (colon_due key b l f))

  not_closed : (ahead : Items) (a : Label) (v : Value) (next : List ℕ) → good_items k brackets ahead ≡ true → label_rule k a ≡ true → value_rule (enders k) v ≡ true
      → begun k (items_onto ahead (label_onto a (value_onto v next))) ≡ true
  unfolding items_onto
  not_closed start a v next g p r = begins k a v next p r
  not_closed (item b u white rest) a v next g p r = let h = good_first b u white rest g in begins k b u _ h.labelled h.rule

  -- or the byte where a comma or the closing bracket was due, behind a good item
  pub comma_due : (also : List ℕ) (ahead : Items) (next : List ℕ) (a : Label) (valued : List ℕ) (v : Value) (b : ℕ) (l : List ℕ) → good_items k brackets ahead ≡ true
      → label_of k next ≡ found a valued → value_of brackets (enders k) valued ≡ found v (b ∷ l) → eqb b (closer k) ≡ false → eqb b (byte ",") ≡ false
      → value_of (suc brackets) also (opener k ++ items_onto ahead next) ≡ fault 6 (b ∷ l)
  comma_due also ahead next a valued v b l g p e n m =
      let key = (rw (p, Reads) at (label_reads k next)).1 in
      let read = (rw (e, Reads) at (value_reads (suc (length valued)) brackets (enders k) valued)).1 in
      let spelt : next ≡ label_onto a (value_onto v (b ∷ l)) = key.covers ∙ ap (label_onto a) read.covers in
      let white : starts_in is_white next ≡ false = rw spelt (item_stops k a v (b ∷ l) key.rule read.rule) in
      let held : begun k (items_onto ahead next) ≡ true = rw spelt (not_closed ahead a v (b ∷ l) g key.rule read.rule) in
      value_of_items k brackets also (items_onto ahead next) held
      ∙ behind_items (bracket k) ahead next 6 (b ∷ l) g white (λ B make. rw (p, e, more_of_other k brackets b l n m))

-- no kind fits a word without bytes
no_word : word_form [] ≡ 0
unfolding starts_in
no_word = by_kind kinds [] (λ k e q. true_false (sym (kind_first k [] e))) (λ z. word_form_lem [] ∙ z)

-- an empty tuple is at its ")", where its first item was due
pub empty_tuple : (brackets : ℕ) (also l : List ℕ) → value_of (suc brackets) also (byte "(" ∷ byte ")" ∷ l) ≡ fault 6 (byte ")" ∷ l)
unfolding opens_with starts_with starts_in elem is_white is_blank is_line_end good_items items_onto ends_word is_ender all
empty_tuple brackets also l =
    bad_item Bracket.Tuple brackets also start (byte ")" ∷ l) refl refl refl no_label (byte ")" ∷ l) 6 (byte ")" ∷ l) (label_none Bracket.Tuple _ refl)
    (bad_word brackets (enders Bracket.Tuple) [] (byte ")") l (record { plain = refl; ends = refl; slash = λ z. refl }) refl refl no_word)

-- ---- traits

-- a name that is one of the earlier ones
not_fresh : (names : List (List ℕ)) (s w left : List ℕ) → among names w ≡ true → fresh names s w left ≡ fault 18 s
unfolding fresh
not_fresh names s w left e = rw (e, fresh)

-- white space may follow any value
white_follows : (in_slash : Bool) (white next : List ℕ) → 0 < length white → all is_white white ≡ true → Follows [] in_slash (white ++ next)
unfolding is_ender is_white is_blank is_line_end
white_follows in_slash [] next l r = absurd (omega arith)
white_follows in_slash (b ∷ white) next l r =
    let h = (all_head is_white b white r).0 in follows_ender [] in_slash b (white ++ next) (rw h) (apart is_white b (byte ">") h refl)

module _ (by : Bounds) (white w : List ℕ) (b : ℕ) (rest : List ℕ) (some : 0 < length white) (blank : all is_white white ≡ true)
    (named : is_name is_lower by.names w ≡ true) (past : is_name_byte b ≡ false) where
  -- so may traits, and white space behind them
  traits_follow : (in_slash : Bool) (ts : List Trait) → all trait_rule ts ≡ true → Follows [] in_slash (traits_onto ts (white ++ (w ++ (b ∷ rest))))
  unfolding traits_onto
  traits_follow in_slash [] r = white_follows in_slash white (w ++ (b ∷ rest)) some blank
  traits_follow in_slash (t ∷ ts) r = let p = trait_parts t (all_head trait_rule t ts r).0 in white_follows in_slash t.white _ p.0 p.1

  -- behind these earlier traits, and behind more
  twice_at_once : (earlier : Earlier) → among earlier.names w ≡ true → trait_turn by earlier (white ++ (w ++ (b ∷ rest))) ≡ stop 18 (w ++ (b ∷ rest))
  unfolding is_name trait
  twice_at_once earlier e =
      let n = rule_name is_lower w (both (name_rule is_lower w) _ named).0 in
      name_due by earlier white w (b ∷ rest) some blank n.1 n.0
      ∙ rw (name_complete (is_name is_lower by.names) w b rest n.0 n.1 named past, not_fresh earlier.names (w ++ (b ∷ rest)) w (b ∷ rest) e)

  twice_behind : (earlier : Earlier) (ts : List Trait) → all trait_rule ts ≡ true → all (trait_fits by.names by.brackets) ts ≡ true
      → distinct (earlier.names ++ trait_names ts) ≡ true → traits_size ts ≤ earlier.room → among (earlier.names ++ trait_names ts) w ≡ true
      → traits_behind by earlier (traits_onto ts (white ++ (w ++ (b ∷ rest)))) ≡ fault 18 (w ++ (b ∷ rest))
  unfolding traits_onto traits_size
  twice_behind earlier [] r f d l e = run_stop with_trait (trait_turn by) (trait_shorter by) earlier _ 18 (w ++ (b ∷ rest)) (twice_at_once earlier (rw append-nil at e))
  twice_behind earlier (t ∷ ts) r f d l e =
      let h = all_head trait_rule t ts r in
      let g = all_head (trait_fits by.names by.brackets) t ts f in
      run_on with_trait (trait_turn by) (trait_shorter by) earlier _ t (traits_onto ts (white ++ (w ++ (b ∷ rest)))) 18 (w ++ (b ∷ rest))
      (turn_complete by earlier t _ h.0 g.0 (distinct_apart earlier.names t.name (trait_names ts) d) (omega arith) (traits_follow _ ts h.1))
      (twice_behind (with_trait earlier t) ts h.1 g.1 (rw append_assoc d) (omega arith) (rw append_assoc e))

-- behind whatever good traits, a name that one of them has is an 18 at its first byte, whatever byte stands behind it and whatever follows
pub name_twice : (by : Bounds) (room : ℕ) (ts : List Trait) (white w : List ℕ) (b : ℕ) (rest : List ℕ) → all trait_rule ts ≡ true
    → all (trait_fits by.names by.brackets) ts ≡ true → distinct (trait_names ts) ≡ true → traits_size ts ≤ room → 0 < length white → all is_white white ≡ true
    → is_name is_lower by.names w ≡ true → is_name_byte b ≡ false → among (trait_names ts) w ≡ true
    → traits_behind by (no_trait room) (traits_onto ts (white ++ (w ++ (b ∷ rest)))) ≡ fault 18 (w ++ (b ∷ rest))
name_twice by room ts white w b rest r f d l some blank named past e = twice_behind by white w b rest some blank named past (no_trait room) ts r f d l e
