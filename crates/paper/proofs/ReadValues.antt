-- All values: what is read of them is what is spelt, and each spelling is that of one value. Document 01, "The grammar", Values. Assumes nothing.
use Prim.Native.Nat.{ℕ, zero, suc, ◌+◌, ◌-◌, ◌≤◌, ◌<◌, max}
use mathlib.Core.Path.{subst, ◌≡◌, refl, sym, ap, ◌∙◌}
use mathlib.Core.Bool.{Bool, true, false, not, ◌&&◌}
use mathlib.Core.List.{List, [], ◌∷◌, ◌++◌, append_assoc}
use native.Mathlib.Omega.{arith}
use lib.ListN.{length, drop, length-append}
use lib.Dec.{eqb}
use borrow.Author.Tests.{eqb-true, eq-eqb, not-true}
use Rattle.paper.specs.declared.brackets.Bracket.{Bracket}
use Rattle.paper.specs.Found.{Found, found, fault, and_then}
use Rattle.paper.specs.Bytes.{byte, bytes, is_white, is_blank, is_line_end, all, elem, starts_in, starts_with, front, behind, length_in, space, tab, lf, cr, is}
use Rattle.paper.specs.Values.{is_ender, ends_word, opener, closer, may_be_empty, enders, Label, label_onto, label_rule, Leaf, leaf_onto, Value, leaf, empty_bracket, bracket}
use Rattle.paper.specs.Values.{More, close, comma, value_onto, more_onto, spelling, value_rule, more_rule, value_in_slash, bracket_depth, more_depth}
use Rattle.paper.specs.ReadingValues.{no_bracket, opens_with, inside, label_of, value_of, more_of, item_and, leaf_of, value, items}
use Rattle.paper.specs.Canonical.{value_sense}
use Rattle.paper.proofs.Tests.{split, true_false, apart, or_left, or_right}
use Rattle.paper.proofs.Finds.{whole, past, tail_then, tail_drop, tail_length, faults, Reads, reads_in, reads_map, reads_then, then_same, reads_two, two_same, tail_append}
use Rattle.paper.proofs.Lists.{both, and, is_not, without, without_less, starts_weaken, starts_some, starts_off, starts_is, starts_of, starts_not, front_of, behind_of}
use Rattle.paper.proofs.Lists.{front_all, front_behind}
use Rattle.paper.proofs.WordKinds.{begins_none}
use Rattle.paper.proofs.Leaves.{leaf_append, ReadLeaf, Follows, leaf_reads, leaf_begins, leaf_back}
use Rattle.paper.proofs.BracketKinds.{closer_ends, comma_ends, closer_none, closer_greater, closer_comma, opener_some, opener_begins, opening_of_lem, inside_of, by_opening}
use Rattle.paper.proofs.BracketKinds.{no_bracket_lem}
use Rattle.paper.proofs.Labels.{label_append, ReadLabel, label_reads, label_begins, label_back}

-- ---- the spelling in front of what follows

item_onto : (a : Label) (v : Value) (rest next : List ℕ) → ((next : List ℕ) → value_onto v next ≡ spelling v ++ next)
    → label_onto a (value_onto v (rest ++ next)) ≡ label_onto a (value_onto v rest) ++ next
item_onto a v rest next h =
    rw (
      h (rest ++ next),
      h rest,
      label_append a (spelling v ++ (rest ++ next)),
      label_append a (spelling v ++ rest),
      append_assoc (label_onto a []) (spelling v ++ rest) next,
      append_assoc (spelling v) rest next,
    )

mutual
  unfolding value_onto

  pub value_append : (v : Value) (next : List ℕ) → value_onto v next ≡ spelling v ++ next
  value_append (leaf v) next = leaf_append v next
  value_append (empty_bracket k) next = sym (append_assoc (opener k) (closer k ∷ []) next)
  value_append (bracket k a v more) next =
      ap (λ (x : List ℕ). opener k ++ label_onto a (value_onto v x)) (more_append k more next)
      ∙ ap (λ (x : List ℕ). opener k ++ x) (item_onto a v (more_onto k more []) next (λ l. value_append v l))
      ∙ sym (append_assoc (opener k) (label_onto a (value_onto v (more_onto k more []))) next)

  pub more_append : (k : Bracket) (more : More) (next : List ℕ) → more_onto k more next ≡ more_onto k more [] ++ next
  more_append k close next = refl
  more_append k (comma white a v more) next =
      ap (λ (x : List ℕ). byte "," ∷ (white ++ label_onto a (value_onto v x))) (more_append k more next)
      ∙ ap (λ (x : List ℕ). byte "," ∷ (white ++ x)) (item_onto a v (more_onto k more []) next (λ l. value_append v l))
      ∙ ap (λ (x : List ℕ). byte "," ∷ x) (sym (append_assoc white (label_onto a (value_onto v (more_onto k more []))) next))

pub value_length : (v : Value) (next : List ℕ) → length (value_onto v next) ≡ length (spelling v) + length next
value_length v next = ap length (value_append v next) ∙ length-append (spelling v) next

-- ---- how a value begins

-- no value begins with white space, or with a byte that stands behind an item
pub value_begins : (also : List ℕ) (v : Value) (next : List ℕ) → value_rule also v ≡ true → starts_in (without begins_none) (value_onto v next) ≡ true
unfolding value_onto value_rule starts_in elem
value_begins also (leaf v) next r = starts_weaken _ _ (without_less (bytes "[(") begins_none) (leaf_onto v next) (leaf_begins also v next r)
value_begins also (empty_bracket k) next r = opener_begins k _
value_begins also (bracket k a v more) next r = opener_begins k _

-- so a value has one byte at least
pub value_longer : (also : List ℕ) (v : Value) (next : List ℕ) → value_rule also v ≡ true → length next < length (value_onto v next)
value_longer also v next r = omega (arith, value_length v next, starts_some _ (spelling v) (value_begins also v [] r))

-- ---- what separates items and closes a bracket, whichever bytes these are

-- a byte that ends a word, and is not ">", may follow any value
pub follows_ender : (also : List ℕ) (in_slash : Bool) (b : ℕ) (next : List ℕ) → is_ender also b ≡ true → eqb b (byte ">") ≡ false → Follows also in_slash (b ∷ next)
unfolding ends_word starts_in
follows_ender also in_slash b next e f = record { ends = or_left (is_ender also b) _ e; some = omega arith; slash = λ z. f }

-- a space may follow any value
pub follows_space : (also : List ℕ) (in_slash : Bool) (next : List ℕ) → Follows also in_slash (space ∷ next)
unfolding is_ender is_white is_blank
follows_space also in_slash next = follows_ender also in_slash space next refl refl

-- ">" may follow a value that does not end in "/", and "/>" any value
pub follows_greater : (also next : List ℕ) → Follows also false (byte ">" ∷ next)
unfolding ends_word is_ender is_white is_blank is_line_end starts_in
follows_greater also next = record { ends = refl; some = omega arith; slash = λ z. true_false (sym z) }

pub follows_slash : (also : List ℕ) (in_slash : Bool) (next : List ℕ) → Follows also in_slash (byte "/" ∷ byte ">" ∷ next)
unfolding ends_word starts_in
follows_slash also in_slash next = record { ends = or_right (is_ender also (byte "/")) true refl; some = omega arith; slash = λ z. refl }

not_white : (b : ℕ) → without begins_none b ≡ true → is_white b ≡ false
unfolding is_white is_blank is_line_end elem
not_white b e =
    rw (
      apart (without begins_none) b space e refl,
      apart (without begins_none) b tab e refl,
      apart (without begins_none) b lf e refl,
      apart (without begins_none) b cr e refl,
    )

-- white space before a value ends where the value begins
pub white_stops : (also : List ℕ) (v : Value) (next : List ℕ) → value_rule also v ≡ true → starts_in is_white (value_onto v next) ≡ false
white_stops also v next r = starts_off (without begins_none) is_white not_white (value_onto v next) (value_begins also v next r)

-- an item with its label does not begin with white space, nor with what closes its bracket
module _ (k : Bracket) (a : Label) (v : Value) (next : List ℕ) (p : label_rule k a ≡ true) (r : value_rule (enders k) v ≡ true) where
  item_begins : starts_in (without begins_none) (label_onto a (value_onto v next)) ≡ true
  item_begins = label_begins k a (value_onto v next) p (value_begins (enders k) v next r)

  pub item_stops : starts_in is_white (label_onto a (value_onto v next)) ≡ false
  item_stops = starts_off (without begins_none) is_white not_white _ item_begins

  pub item_open : starts_with (closer k ∷ []) (label_onto a (value_onto v next)) ≡ false
  item_open = starts_not (without begins_none) (closer k) _ item_begins (ap not (closer_none k))

  pub white_front : (white : List ℕ) → all is_white white ≡ true → front is_white (white ++ label_onto a (value_onto v next)) ≡ white
  white_front white w = front_of is_white white _ w item_stops

  pub white_behind : (white : List ℕ) → all is_white white ≡ true → behind is_white (white ++ label_onto a (value_onto v next)) ≡ label_onto a (value_onto v next)
  white_behind white w = behind_of is_white white _ w item_stops

  -- and is read back
  pub label_on : label_of k (label_onto a (value_onto v next)) ≡ found a (value_onto v next)
  label_on = label_back k a (value_onto v next) p (white_stops (enders k) v next r)

-- ---- step by step

-- from the byte of a bracket on that is one too many
abbrev pub at_bracket : Bracket → List ℕ → List ℕ
at_bracket k l = drop (length (opener k) - 1) (opener k ++ l)

-- what stands behind an opener is not a bracket closed at once
abbrev pub begun : Bracket → List ℕ → Bool
begun k l = not (may_be_empty k && starts_with (closer k ∷ []) l)

-- an item with its label, and what stands behind it, each read in some way
abbrev item_by : {A : Type 0} → Bracket → (List ℕ → Found Value) → (List ℕ → Found More) → (Label → Value → More → A) → List ℕ → Found A
item_by k one more make s = and_then (label_of k s) (λ a valued. and_then (one valued) (λ v left. and_then (more left) (λ x end. found (make a v x) end)))

abbrev item_then : {A : Type 0} → ℕ → Bracket → ℕ → (Label → Value → More → A) → List ℕ → Found A
item_then fuel k brackets make s = item_by k (value fuel brackets (enders k)) (items fuel k brackets) make s

module _ (fuel : ℕ) where
  value_leaf : (brackets : ℕ) (also s : List ℕ) → opens_with s ≡ no_bracket
      → value (suc fuel) brackets also s ≡ and_then (leaf_of also s) (λ v left. found (leaf v) left)
  unfolding value
  value_leaf brackets also s e = rw (e, value)

  module _ (k : Bracket) where
    value_deep : (also l : List ℕ) → value (suc fuel) 0 also (opener k ++ l) ≡ fault 10 (at_bracket k l)
    unfolding value
    value_deep also l = rw (opening_of_lem k l, value)

    value_empty : (brackets : ℕ) (also l : List ℕ) → may_be_empty k ≡ true
        → value (suc fuel) (suc brackets) also (opener k ++ (closer k ∷ l)) ≡ found (empty_bracket k) l
    unfolding value
    value_empty brackets also l m =
        rw (opening_of_lem k (closer k ∷ l), value) (rw (inside_of k (closer k ∷ l))
        (rw (m, starts_of (closer k ∷ []) l) (ap (λ (x : List ℕ). found (empty_bracket k) (drop 1 x)) (inside_of k (closer k ∷ l)))))

    value_items : (brackets : ℕ) (also l : List ℕ) → begun k l ≡ true → value (suc fuel) (suc brackets) also (opener k ++ l) ≡ item_then fuel k brackets (bracket k) l
    unfolding value
    value_items brackets also l e =
        rw (opening_of_lem k l, value) (rw (inside_of k l) (rw (not-true (may_be_empty k && starts_with (closer k ∷ []) l) e)
        (ap (item_then fuel k brackets (bracket k)) (inside_of k l))))

    items_close : (brackets : ℕ) (l : List ℕ) → items (suc fuel) k brackets (closer k ∷ l) ≡ found close l
    unfolding items
    items_close brackets l = rw (eq-eqb (closer k) (closer k) refl, items)

    items_comma : (brackets : ℕ) (l : List ℕ) → items (suc fuel) k brackets (byte "," ∷ l) ≡ item_then fuel k brackets (comma (front is_white l)) (behind is_white l)
    unfolding items
    items_comma brackets l = rw (closer_comma k, items)

    items_other : (brackets : ℕ) (l : List ℕ) (b : ℕ) → eqb b (closer k) ≡ false → eqb b (byte ",") ≡ false → items (suc fuel) k brackets (b ∷ l) ≡ fault 6 (b ∷ l)
    unfolding items
    items_other brackets l b e f = rw (e, items, f)

-- ---- what is read

-- the value stood in front, keeps the rules, has no more brackets in one another, and is not cut before "/>"
pub record ReadValue (brackets : ℕ) (also s : List ℕ) (v : Value) (left : List ℕ) : Type 0 where
  pub covers : s ≡ value_onto v left
  pub rule : value_rule also v ≡ true
  pub depth : bracket_depth v ≤ brackets
  pub slash : value_in_slash v ≡ true → starts_in (is (byte ">")) left ≡ false
  pub shorter : length left < length s

-- the same of what stands behind an item
pub record ReadMore (k : Bracket) (brackets : ℕ) (s : List ℕ) (more : More) (left : List ℕ) : Type 0 where
  pub covers : s ≡ more_onto k more left
  pub rule : more_rule k more ≡ true
  pub depth : more_depth more ≤ brackets
  pub shorter : length left < length s

leaf_read : (brackets : ℕ) (also s : List ℕ) (v : Leaf) (left : List ℕ) → ReadLeaf also s v left → ReadValue brackets also s (leaf v) left
unfolding value_onto value_rule bracket_depth
leaf_read brackets also s v left h =
    record { covers = h.covers; rule = h.rule; depth = omega arith; slash = h.slash; shorter = rw h.covers (value_longer also (leaf v) left h.rule) }

module _ (k : Bracket) (brackets : ℕ) where
  empty_read : (also left : List ℕ) → may_be_empty k ≡ true → ReadValue (suc brackets) also (opener k ++ (closer k ∷ left)) (empty_bracket k) left
  unfolding value_onto value_rule bracket_depth
  empty_read also left m =
      record {
        covers = refl;
        rule = m;
        depth = omega arith;
        slash = λ z. true_false (sym z);
        shorter = omega (arith, length-append (opener k) (closer k ∷ left));
      }

  -- an item with its label, and what stands behind it
  record ReadItem (s : List ℕ) (a : Label) (v : Value) (more : More) (left : List ℕ) : Type 0 where
    covers : s ≡ label_onto a (value_onto v (more_onto k more left))
    labelled : label_rule k a ≡ true
    rule : value_rule (enders k) v ≡ true
    others : more_rule k more ≡ true
    depth : max (bracket_depth v) (more_depth more) ≤ brackets
    shorter : length left < length s

  item_read : (s : List ℕ) (a : Label) (valued : List ℕ) (v : Value) (mid : List ℕ) (more : More) (left : List ℕ) → ReadLabel k s a valued
      → ReadValue brackets (enders k) valued v mid → ReadMore k brackets mid more left → ReadItem s a v more left
  item_read s a valued v mid more left p h m =
      record {
        covers = p.covers ∙ ap (label_onto a) (h.covers ∙ ap (value_onto v) m.covers);
        labelled = p.rule;
        rule = h.rule;
        others = m.rule;
        depth = omega (arith, h.depth, m.depth);
        shorter = omega (arith, h.shorter, m.shorter, ap length (p.covers ∙ label_append a valued), length-append (label_onto a []) valued);
      }

  bracket_read : (also l : List ℕ) (a : Label) (v : Value) (more : More) (left : List ℕ) → ReadItem l a v more left
      → ReadValue (suc brackets) also (opener k ++ l) (bracket k a v more) left
  unfolding value_onto value_rule bracket_depth
  bracket_read also l a v more left h =
      record {
        covers = ap (λ (x : List ℕ). opener k ++ x) h.covers;
        rule = and (and h.labelled h.rule) h.others;
        depth = omega (arith, h.depth);
        slash = λ z. true_false (sym z);
        shorter = omega (arith, h.shorter, length-append (opener k) l);
      }

  close_read : (left : List ℕ) → ReadMore k brackets (closer k ∷ left) close left
  unfolding more_onto more_rule more_depth
  close_read left = record { covers = refl; rule = refl; depth = omega arith; shorter = omega arith }

  comma_read : (l : List ℕ) (a : Label) (v : Value) (more : More) (left : List ℕ) → ReadItem (behind is_white l) a v more left
      → ReadMore k brackets (byte "," ∷ l) (comma (front is_white l) a v more) left
  unfolding more_onto more_rule more_depth
  comma_read l a v more left h =
      record {
        covers = ap (λ (x : List ℕ). byte "," ∷ x) (sym (front_behind is_white l) ∙ ap (λ (x : List ℕ). front is_white l ++ x) h.covers);
        rule = and (and (and (front_all is_white l) h.labelled) h.rule) h.others;
        depth = omega (arith, h.depth);
        shorter = omega (arith, h.shorter, tail_length (tail_drop (length_in is_white l) l));
      }

module _ (fuel : ℕ) (k : Bracket) (ones : (brackets : ℕ) (s : List ℕ) → Reads s (ReadValue brackets (enders k) s) (value fuel brackets (enders k) s))
    (mores : (brackets : ℕ) (s : List ℕ) → Reads s (ReadMore k brackets s) (items fuel k brackets s)) where
  item_reads : {A : Type 0} (brackets : ℕ) (make : Label → Value → More → A) (s : List ℕ) (Q : A → List ℕ → Type 0)
      → ((a : Label) (v : Value) (more : More) (left : List ℕ) → ReadItem k brackets s a v more left → Q (make a v more) left)
      → Reads s Q (item_then fuel k brackets make s)
  item_reads brackets make s Q so =
      reads_then s (ReadLabel k s) Q _ (label_of k s) (label_reads k s)
      (λ a valued p. reads_two valued (ReadValue brackets (enders k) valued) (ReadMore k brackets) Q (make a) (value fuel brackets (enders k) valued)
      (items fuel k brackets) (ones brackets valued) (mores brackets)
      (λ v mid more left h m. so a v more left (item_read k brackets s a valued v mid more left p h m)))

  bracket_reads : (brackets : ℕ) (also l : List ℕ) → Reads (opener k ++ l) (ReadValue brackets also (opener k ++ l)) (value (suc fuel) brackets also (opener k ++ l))
  bracket_reads zero also l = rw (value_deep fuel k also l, Reads) (faults 10 (omega arith) (tail_drop (length (opener k) - 1) (opener k ++ l)))
  bracket_reads (suc brackets) also l =
      split (may_be_empty k && starts_with (closer k ∷ []) l)
      (λ e. let h = both (may_be_empty k) (starts_with (closer k ∷ []) l) e in
      subst (λ (z : List ℕ). Reads (opener k ++ z) (ReadValue (suc brackets) also (opener k ++ z)) (value (suc fuel) (suc brackets) also (opener k ++ z)))
      (sym (starts_is (closer k ∷ []) l h.1))
      (rw (value_empty fuel k brackets also (drop 1 l) h.0, Reads)
      (tail_then (tail_append (opener k) (closer k ∷ drop 1 l)) (past whole), empty_read k brackets also (drop 1 l) h.0)))
      (λ e. rw (value_items fuel k brackets also l (is_not e))
      (reads_in (tail_append (opener k) l) _ (item_then fuel k brackets (bracket k) l)
      (item_reads brackets (bracket k) l _ (bracket_read k brackets also l))))

  behind_reads : (brackets b : ℕ) (l : List ℕ) → Reads (b ∷ l) (ReadMore k brackets (b ∷ l)) (items (suc fuel) k brackets (b ∷ l))
  behind_reads brackets b l =
      split (eqb b (closer k))
      (λ e. subst (λ (c : ℕ). Reads (c ∷ l) (ReadMore k brackets (c ∷ l)) (items (suc fuel) k brackets (c ∷ l))) (sym (eqb-true b (closer k) e))
      (rw (items_close fuel k brackets l, Reads) (past whole, close_read k brackets l)))
      (λ e. split (eqb b (byte ","))
      (λ f. rw (eqb-true b (byte ",") f, items_comma fuel k brackets l)
      (reads_in (past (tail_drop (length_in is_white l) l)) _ (item_then fuel k brackets (comma (front is_white l)) (behind is_white l))
      (item_reads brackets (comma (front is_white l)) (behind is_white l) _ (comma_read k brackets l))))
      (λ f. rw (items_other fuel k brackets l b e f, Reads) (faults 6 (omega arith) whole)))

mutual
  unfolding value

  pub value_reads : (fuel brackets : ℕ) (also s : List ℕ) → Reads s (ReadValue brackets also s) (value fuel brackets also s)
  value_reads zero brackets also s = faults 9 (omega arith) whole
  value_reads (suc fuel) brackets also s =
      by_opening s
      (λ e. rw (value_leaf fuel brackets also s e) (reads_map s (ReadLeaf also s) _ leaf (leaf_of also s) (leaf_reads also s) (leaf_read brackets also s)))
      (λ k e. rw e (bracket_reads fuel k (λ n l. value_reads fuel n (enders k) l) (λ n l. items_reads fuel k n l) brackets also (inside k s)))

  pub items_reads : (fuel : ℕ) (k : Bracket) (brackets : ℕ) (s : List ℕ) → Reads s (ReadMore k brackets s) (items fuel k brackets s)
  items_reads zero k brackets s = faults 9 (omega arith) whole
  items_reads (suc fuel) k brackets [] = faults 9 (omega arith) whole
  items_reads (suc fuel) k brackets (b ∷ l) = behind_reads fuel k (λ n m. value_reads fuel n (enders k) m) (λ n m. items_reads fuel k n m) brackets b l

-- ---- fuel above the length does not matter

-- an item that is read in two ways, which agree on what is not longer
item_same : {A : Type 0} (k : Bracket) (brackets : ℕ) (one other : List ℕ → Found Value) (more others : List ℕ → Found More) (make : Label → Value → More → A)
    (s : List ℕ) → ((t : List ℕ) → length t ≤ length s → one t ≡ other t) → ((t : List ℕ) → Reads t (ReadValue brackets (enders k) t) (other t))
    → ((t : List ℕ) → length t < length s → more t ≡ others t) → item_by k one more make s ≡ item_by k other others make s
item_same k brackets one other more others make s ones reads mores =
    then_same s (ReadLabel k s) (label_of k s) _ _ (label_reads k s)
    (λ a valued t p. let n = tail_length t in
    two_same valued (ReadValue brackets (enders k) valued) (make a) _ _ more others (ones valued n) (reads valued)
    (λ v left r. mores left (omega (arith, r.shorter))))

module _ (f g : ℕ) (k : Bracket)
    (ones : (brackets : ℕ) (s : List ℕ) → length s < f → length s < g → value f brackets (enders k) s ≡ value g brackets (enders k) s)
    (mores : (brackets : ℕ) (s : List ℕ) → length s < f → length s < g → items f k brackets s ≡ items g k brackets s) where
  item_fuel : {A : Type 0} (brackets : ℕ) (make : Label → Value → More → A) (s : List ℕ) → length s < f → length s < g
      → item_then f k brackets make s ≡ item_then g k brackets make s
  item_fuel brackets make s h j =
      item_same k brackets _ _ _ _ make s (λ t n. ones brackets t (omega arith) (omega arith)) (value_reads g brackets (enders k))
      (λ t n. mores brackets t (omega arith) (omega arith))

  bracket_fuel : (brackets : ℕ) (also l : List ℕ) → length l < f → length l < g
      → value (suc f) brackets also (opener k ++ l) ≡ value (suc g) brackets also (opener k ++ l)
  bracket_fuel zero also l h j = value_deep f k also l ∙ sym (value_deep g k also l)
  bracket_fuel (suc brackets) also l h j =
      split (may_be_empty k && starts_with (closer k ∷ []) l)
      (λ e. let m = both (may_be_empty k) (starts_with (closer k ∷ []) l) e in
      rw (starts_is (closer k ∷ []) l m.1) (value_empty f k brackets also (drop 1 l) m.0 ∙ sym (value_empty g k brackets also (drop 1 l) m.0)))
      (λ e. value_items f k brackets also l (is_not e) ∙ item_fuel brackets (bracket k) l h j ∙ sym (value_items g k brackets also l (is_not e)))

  behind_fuel : (brackets b : ℕ) (l : List ℕ) → length l < f → length l < g → items (suc f) k brackets (b ∷ l) ≡ items (suc g) k brackets (b ∷ l)
  behind_fuel brackets b l h j =
      let n = tail_length (tail_drop (length_in is_white l) l) in
      split (eqb b (closer k))
      (λ e. rw (eqb-true b (closer k) e) (items_close f k brackets l ∙ sym (items_close g k brackets l)))
      (λ e. split (eqb b (byte ","))
      (λ c. rw (eqb-true b (byte ",") c) (items_comma f k brackets l ∙ item_fuel brackets (comma (front is_white l)) (behind is_white l) (omega arith) (omega arith)
      ∙ sym (items_comma g k brackets l)))
      (λ c. items_other f k brackets l b e c ∙ sym (items_other g k brackets l b e c)))

mutual
  unfolding value

  pub value_fuel : (f g brackets : ℕ) (also s : List ℕ) → length s < f → length s < g → value f brackets also s ≡ value g brackets also s
  value_fuel zero g brackets also s h j = absurd (omega arith)
  value_fuel (suc f) zero brackets also s h j = absurd (omega arith)
  value_fuel (suc f) (suc g) brackets also s h j =
      by_opening s (λ e. value_leaf f brackets also s e ∙ sym (value_leaf g brackets also s e))
      (λ k e. let n : length s ≡ length (opener k) + length (inside k s) = ap length e ∙ length-append (opener k) (inside k s) in
      let some = opener_some k in
      rw e (bracket_fuel f g k (λ m l a b. value_fuel f g m (enders k) l a b) (λ m l a b. items_fuel f g k m l a b) brackets also (inside k s)
      (omega arith) (omega arith)))

  pub items_fuel : (f g : ℕ) (k : Bracket) (brackets : ℕ) (s : List ℕ) → length s < f → length s < g → items f k brackets s ≡ items g k brackets s
  items_fuel zero g k brackets s h j = absurd (omega arith)
  items_fuel (suc f) zero k brackets s h j = absurd (omega arith)
  items_fuel (suc f) (suc g) k brackets [] h j = refl
  items_fuel (suc f) (suc g) k brackets (b ∷ l) h j =
      behind_fuel f g k (λ m l a c. value_fuel f g m (enders k) l a c) (λ m l a c. items_fuel f g k m l a c) brackets b l (omega arith) (omega arith)

-- ---- the steps without fuel

-- no bracket
pub value_of_leaf : (brackets : ℕ) (also s : List ℕ) → opens_with s ≡ no_bracket → value_of brackets also s ≡ and_then (leaf_of also s) (λ v left. found (leaf v) left)
value_of_leaf brackets also s e = value_leaf (length s) brackets also s e

module _ (k : Bracket) where
  -- too many brackets in one another
  pub value_of_deep : (also l : List ℕ) → value_of 0 also (opener k ++ l) ≡ fault 10 (at_bracket k l)
  value_of_deep also l = value_deep (length (opener k ++ l)) k also l

  module _ (brackets : ℕ) where
    -- fuel that is more than enough for an item and those behind it
    item_free : {A : Type 0} (fuel : ℕ) (make : Label → Value → More → A) (s : List ℕ) → length s < fuel → item_then fuel k brackets make s ≡ item_and k brackets make s
    item_free fuel make s h =
        item_same k brackets _ _ _ _ make s (λ t n. value_fuel fuel (suc (length t)) brackets (enders k) t (omega arith) (omega arith))
        (λ t. value_reads (suc (length t)) brackets (enders k) t) (λ t n. items_fuel fuel (suc (length t)) k brackets t (omega arith) (omega arith))

    -- a bracket without items, and one with items
    pub value_of_empty : (also l : List ℕ) → may_be_empty k ≡ true → value_of (suc brackets) also (opener k ++ (closer k ∷ l)) ≡ found (empty_bracket k) l
    value_of_empty also l m = value_empty (length (opener k ++ (closer k ∷ l))) k brackets also l m

    pub value_of_items : (also l : List ℕ) → begun k l ≡ true → value_of (suc brackets) also (opener k ++ l) ≡ item_and k brackets (bracket k) l
    value_of_items also l e =
        value_items (length (opener k ++ l)) k brackets also l e
        ∙ item_free (length (opener k ++ l)) (bracket k) l (omega (arith, length-append (opener k) l, opener_some k))

    -- behind an item: the end of input, what closes, what separates, any other byte
    pub more_of_end : more_of k brackets [] ≡ fault 9 []
    unfolding items
    more_of_end = refl

    pub more_of_close : (l : List ℕ) → more_of k brackets (closer k ∷ l) ≡ found close l
    more_of_close l = items_close (suc (length l)) k brackets l

    pub more_of_comma : (l : List ℕ) → more_of k brackets (byte "," ∷ l) ≡ item_and k brackets (comma (front is_white l)) (behind is_white l)
    more_of_comma l =
        let n = tail_length (tail_drop (length_in is_white l) l) in
        items_comma (suc (length l)) k brackets l ∙ item_free (suc (length l)) (comma (front is_white l)) (behind is_white l) (omega arith)

    pub more_of_other : (b : ℕ) (l : List ℕ) → eqb b (closer k) ≡ false → eqb b (byte ",") ≡ false → more_of k brackets (b ∷ l) ≡ fault 6 (b ∷ l)
    more_of_other b l e f = items_other (suc (length l)) k brackets l b e f

-- ---- a spelt value is read back

-- what is spelt behind an opener is not closed at once
pub begins : (k : Bracket) (a : Label) (v : Value) (next : List ℕ) → label_rule k a ≡ true → value_rule (enders k) v ≡ true → begun k (label_onto a (value_onto v next)) ≡ true
begins k a v next p r = is_not (and_not (may_be_empty k) (item_open k a v next p r))
  where
    and_not : (b : Bool) {c : Bool} → c ≡ false → b && c ≡ false
    and_not true e = e
    and_not false e = refl

follows_more : (k : Bracket) (in_slash : Bool) (more : More) (next : List ℕ) → Follows (enders k) in_slash (more_onto k more next)
unfolding more_onto
follows_more k in_slash close next = follows_ender (enders k) in_slash (closer k) next (closer_ends k) (closer_greater k)
follows_more k in_slash (comma white a v more) next = follows_ender (enders k) in_slash (byte ",") _ (comma_ends k) refl

mutual
  unfolding value_onto value_rule bracket_depth

  pub value_back : (v : Value) (brackets : ℕ) (also next : List ℕ) → value_rule also v ≡ true → bracket_depth v ≤ brackets → Follows also (value_in_slash v) next
      → value_of brackets also (value_onto v next) ≡ found v next
  value_back (leaf v) brackets also next r d f = value_of_leaf brackets also (leaf_onto v next) (no_bracket_lem also v next r) ∙ rw (leaf_back also v next r f)
  value_back (empty_bracket k) zero also next r d f = absurd (omega arith)
  value_back (empty_bracket k) (suc brackets) also next r d f = value_of_empty k brackets also next r
  value_back (bracket k a v more) zero also next r d f = absurd (omega arith)
  value_back (bracket k a v more) (suc brackets) also next r d f =
      let h = both (label_rule k a && value_rule (enders k) v) (more_rule k more) r in
      let p = both (label_rule k a) (value_rule (enders k) v) h.0 in
      let rest = more_onto k more next in
      value_of_items k brackets also _ (begins k a v rest p.0 p.1)
      ∙ rw (
        label_on k a v rest p.0 p.1,
        value_back v brackets (enders k) rest p.1 (omega arith) (follows_more k (value_in_slash v) more next),
        more_back k more brackets next h.1 (omega arith),
      )

  pub more_back : (k : Bracket) (more : More) (brackets : ℕ) (next : List ℕ) → more_rule k more ≡ true → more_depth more ≤ brackets
      → more_of k brackets (more_onto k more next) ≡ found more next
  more_back k close brackets next r d = more_of_close k brackets next
  more_back k (comma white a v more) brackets next r d =
      let h = both (all is_white white && label_rule k a && value_rule (enders k) v) (more_rule k more) r in
      let p = both (all is_white white && label_rule k a) (value_rule (enders k) v) h.0 in
      let q = both (all is_white white) (label_rule k a) p.0 in
      let rest = more_onto k more next in
      more_of_comma k brackets (white ++ label_onto a (value_onto v rest))
      ∙ rw (
        white_front k a v rest q.1 p.1 white q.0,
        white_behind k a v rest q.1 p.1 white q.0,
        label_on k a v rest q.1 p.1,
        value_back v brackets (enders k) rest p.1 (omega arith) (follows_more k (value_in_slash v) more next),
        more_back k more brackets next h.1 (omega arith),
      )

-- with any fuel above the length
pub value_complete : (fuel brackets : ℕ) (also : List ℕ) (v : Value) (next : List ℕ) → value_rule also v ≡ true → bracket_depth v ≤ brackets → Follows also (value_in_slash v) next
    → length (value_onto v next) < fuel → value fuel brackets also (value_onto v next) ≡ found v next
value_complete fuel brackets also v next r d f h =
    value_fuel fuel (suc (length (value_onto v next))) brackets also (value_onto v next) h (omega arith) ∙ value_back v brackets also next r d f

-- ---- a spelling is that of one value

-- two values that keep the rules and are spelt alike are one
pub spelling_only : (also : List ℕ) (v w : Value) → value_rule also v ≡ true → value_rule also w ≡ true → spelling v ≡ spelling w → v ≡ w
spelling_only also v w p q e =
    let brackets = max (bracket_depth v) (bracket_depth w) in
    let next = space ∷ [] in
    let same : value_onto v next ≡ value_onto w next = value_append v next ∙ rw e (sym (value_append w next)) in
    let a = value_back v brackets also next p (omega arith) (follows_space also (value_in_slash v) []) in
    let b = value_back w brackets also next q (omega arith) (follows_space also (value_in_slash w) []) in
    let c : found v next ≡ found w next = sym a ∙ ap (value_of brackets also) same ∙ b in
    cc

-- so what it means is a function of the spelling
pub sense_only : (also : List ℕ) (v w : Value) → value_rule also v ≡ true → value_rule also w ≡ true → spelling v ≡ spelling w → value_sense v ≡ value_sense w
sense_only also v w p q e = ap value_sense (spelling_only also v w p q e)
