-- The forms of numbers, by what stands behind the integer in front: a law for each way out of their functions. Assumes nothing.
-- Document 01, "The grammar", Values, Numbers; 001 §12.
use Prim.Native.Nat.{ℕ, ◌≤◌, ◌<◌}
use mathlib.Core.Path.{◌≡◌, refl, sym, ap, ◌∙◌}
use mathlib.Core.Bool.{Bool, true, false, not, ◌&&◌}
use mathlib.Core.List.{List, [], ◌∷◌, ◌++◌, append-nil, append_assoc}
use mathlib.Core.Logic.{◌⊎◌, inl, inr, ⊎_elim}
use native.Mathlib.Omega.{arith}
use lib.ListN.{length, get_or, take, take-append-drop}
use lib.Seq.{take_all}
use lib.Dec.{eqb}
use borrow.Author.Tests.{ne_eqb}
use Rattle.paper.specs.Found.{pick}
use Rattle.paper.specs.Bytes.{byte, is_digit, all, elem, starts_in, length_in, front, up_to, onward, past, is, are_digits}
use Rattle.paper.specs.Values.{is_count, is_integer, is_decimal, is_exponent, is_scientific, is_fraction}
use Rattle.paper.proofs.Tests.{split, true_false, apart, or_left}
use Rattle.paper.proofs.Lists.{all_head, all_weaken, front_all, front_behind, behind_stops, is_not}
use Rattle.text.proofs.Places.{here, part_rest}
use Rattle.leaves.specs.Kinds.{integer_length, number_form, point_form}
use Rattle.leaves.proofs.Runs.{part_size, from}
use Rattle.leaves.proofs.Integers.{in_integer, integer_made, integer_broken, digits_broken, Begun, integers, none_before, whole_none}

-- ---- a word in two parts at the first mark

module _ (mark : ℕ → Bool) (c : ℕ) (r : List ℕ) where
  at_mark : mark c ≡ true → (up_to mark (c ∷ r) ≡ []) × (onward mark (c ∷ r) ≡ c ∷ r)
  unfolding length_in
  at_mark e = (rw (e, length_in), rw (e, length_in))

  no_mark : mark c ≡ false → (up_to mark (c ∷ r) ≡ c ∷ up_to mark r) × (onward mark (c ∷ r) ≡ onward mark r)
  unfolding length_in
  no_mark e = (rw (e, length_in), rw (e, length_in))

-- an integer has none of these marks
Apart : (ℕ → Bool) → Type 0
Apart mark = (b : ℕ) → in_integer b ≡ true → mark b ≡ false

point_apart : Apart (is (byte "."))
unfolding Apart is_digit elem
point_apart b e = apart in_integer b (byte ".") e refl

slash_apart : Apart (is (byte "/"))
unfolding Apart is_digit elem
slash_apart b e = apart in_integer b (byte "/") e refl

exponent_apart : Apart is_exponent
unfolding Apart is_digit elem
exponent_apart b e = rw (apart in_integer b (byte "e") e refl, apart in_integer b (byte "E") e refl)

module _ (mark : ℕ → Bool) (apart : Apart mark) where
  past_integer : (v rest : List ℕ) → all in_integer v ≡ true → (up_to mark (v ++ rest) ≡ v ++ up_to mark rest) × (onward mark (v ++ rest) ≡ onward mark rest)
  unfolding Apart
  past_integer [] rest a = (refl, refl)
  past_integer (b ∷ v) rest a =
      let h = all_head in_integer b v a in
      let n = no_mark mark b (v ++ rest) (apart b h.0) in
      let k = past_integer v rest h.1 in
      (n.0 ∙ ap (λ (x : List ℕ). b ∷ x) k.0, n.1 ∙ k.1)

  -- the parts of what such bytes begin, where the byte behind them is a mark and where it is none
  module _ (v : List ℕ) (made : all in_integer v ≡ true) (c : ℕ) (r : List ℕ) where
    mark_parts : mark c ≡ true → (up_to mark (v ++ (c ∷ r)) ≡ v) × (past mark (v ++ (c ∷ r)) ≡ r)
    mark_parts e =
        let k = past_integer v (c ∷ r) made in
        let n = at_mark mark c r e in
        (k.0 ∙ rw n.0 (append-nil v), rw (k.1, n.1))

    other_parts : mark c ≡ false → (up_to mark (v ++ (c ∷ r)) ≡ v ++ (c ∷ up_to mark r)) × (past mark (v ++ (c ∷ r)) ≡ past mark r)
    other_parts e =
        let k = past_integer v (c ∷ r) made in
        let n = no_mark mark c r e in
        (k.0 ∙ rw n.0, rw (k.1, n.1))

-- ---- behind an integer stands a byte that is no digit

module _ (v : List ℕ) (good : is_integer v ≡ true) (c : ℕ) (d : is_digit c ≡ false) where
  more_than : (x : List ℕ) → is_integer (v ++ (c ∷ x)) ≡ false
  more_than x = integer_broken v c x (integer_made v good).1 d

  module _ (r : List ℕ) where
    -- an integer up to the mark, and something behind it
    two_parts : (mark : ℕ → Bool) → Apart mark → (rule : List ℕ → Bool)
        → is_integer (up_to mark (v ++ (c ∷ r))) && rule (past mark (v ++ (c ∷ r))) ≡ (mark c && rule r)
    two_parts mark apart rule =
        split (mark c)
        (λ e. let k = mark_parts mark apart v (integer_made v good).0 c r e in rw (k.0, k.1, good, e))
        (λ e. let k = other_parts mark apart v (integer_made v good).0 c r e in rw (k.0, more_than (up_to mark r), e))

    decimal_is : is_decimal (v ++ (c ∷ r)) ≡ (eqb c (byte ".") && are_digits r)
    unfolding is_decimal
    decimal_is = two_parts (is (byte ".")) point_apart are_digits

    fraction_is : is_fraction (v ++ (c ∷ r)) ≡ (eqb c (byte "/") && is_count r)
    unfolding is_fraction
    fraction_is = two_parts (is (byte "/")) slash_apart is_count

    exponent_is : is_exponent c ≡ true → is_scientific (v ++ (c ∷ r)) ≡ is_integer r
    unfolding is_scientific
    exponent_is e = let k = mark_parts is_exponent exponent_apart v (integer_made v good).0 c r e in rw (k.0, k.1, good)

  scientific_is : (r : List ℕ) → is_exponent c ≡ false → is_scientific (v ++ (c ∷ r))
      ≡ ((eqb c (byte ".") && are_digits (up_to is_exponent r)) && is_integer (past is_exponent r))
  unfolding is_scientific
  scientific_is r e = let k =
      other_parts is_exponent exponent_apart v (integer_made v good).0 c r e in rw (k.0, k.1, more_than (up_to is_exponent r), decimal_is (up_to is_exponent r))

-- ---- the form of a word that begins with an integer

-- the byte in front of an exponent
abbrev pub Exponent : ℕ → Type 0
Exponent b = (b ≡ byte "E") ⊎ (b ≡ byte "e")

-- what is left from a place on, behind what stands before it
behind : (w : List ℕ) (n : ℕ) → 1 ≤ length (from w n) → w ≡ take n w ++ (get_or (from w n) 0 0 ∷ from (from w n) 1)
behind w n h =
    sym (take-append-drop n w)
    ∙ ap (λ (x : List ℕ). take n w ++ x) (sym (part_rest w n) ∙ here (from w n) 0 h ∙ ap (λ (x : List ℕ). get_or (from w n) 0 0 ∷ x) (sym (part_rest (from w n) 1)))

module _ (v : List ℕ) (good : is_integer v ≡ true) (c : ℕ) (d : is_digit c ≡ false) (r : List ℕ) where
  form_point : c ≡ byte "." → point_form r ≡ number_form (v ++ (c ∷ r))
  unfolding number_form point_form elem
  form_point e =
      rw (more_than v good c d r, decimal_is v good c d r, scientific_is v good c d r (rw e), fraction_is v good c d r, e)

  form_exponent : (c ≡ byte "E") ⊎ (c ≡ byte "e") → pick (is_integer r) 6 0 ≡ number_form (v ++ (c ∷ r))
  unfolding number_form elem
  form_exponent e =
      rw (more_than v good c d r, decimal_is v good c d r, exponent_is v good c d r (⊎_elim (λ q. rw q) (λ q. rw q) e), fraction_is v good c d r)
      (⊎_elim (λ q. rw q) (λ q. rw q) e)

  form_fraction : c ≡ byte "/" → pick (is_count r) 7 0 ≡ number_form (v ++ (c ∷ r))
  unfolding number_form elem
  form_fraction e =
      rw (more_than v good c d r, decimal_is v good c d r, scientific_is v good c d r (rw e), fraction_is v good c d r, e)

  form_other : (c ≡ byte "." → ⊥) → ((c ≡ byte "E") ⊎ (c ≡ byte "e") → ⊥) → (c ≡ byte "/" → ⊥) → 0 ≡ number_form (v ++ (c ∷ r))
  unfolding number_form elem
  form_other p x s =
      let no : is_exponent c ≡ false = rw (ne_eqb c (byte "e") (λ q. x (inr q)), ne_eqb c (byte "E") (λ q. x (inl q))) in
      rw (
        more_than v good c d r,
        decimal_is v good c d r,
        scientific_is v good c d r no,
        fraction_is v good c d r,
        ne_eqb c (byte ".") p,
        ne_eqb c (byte "/") s,
      )

-- ---- a word that begins with no integer

not_first : (class : ℕ → Bool) → ((b : ℕ) → is_digit b ≡ true → class b ≡ true) → (s : List ℕ) → starts_in class s ≡ false → starts_in is_digit s ≡ false
unfolding starts_in
not_first class in_class [] e = refl
not_first class in_class (b ∷ l) e = split (is_digit b) (λ d. true_false (sym (in_class b d) ∙ e)) (λ d. d)

not_either : (v w : List ℕ) → starts_in is_digit v ≡ false → starts_in is_digit w ≡ false → starts_in is_digit (v ++ w) ≡ false
unfolding starts_in
not_either [] w e f = f
not_either (b ∷ v) w e f = e

module _ (mark : ℕ → Bool) (apart : Apart mark) where
  no_digit_onward : (w : List ℕ) → starts_in is_digit (onward mark w) ≡ false
  unfolding Apart
  no_digit_onward w = not_first (λ b. not (mark b)) (λ b d. is_not (apart b (or_left (is_digit b) _ d))) (onward mark w) (behind_stops (λ b. not (mark b)) w)

  none_up_to : (w : List ℕ) → integer_length w ≡ 0 → is_integer (up_to mark w) ≡ false
  none_up_to w z = none_before integers w (up_to mark w) (onward mark w) (sym (front_behind (λ b. not (mark b)) w)) (no_digit_onward w) z

no_decimal : (w : List ℕ) → integer_length w ≡ 0 → is_integer (up_to (is (byte ".")) (up_to is_exponent w)) ≡ false
no_decimal w z =
    let point = is (byte ".") in
    let u = up_to is_exponent w in
    none_before integers w (up_to point u) (onward point u ++ onward is_exponent w)
    (sym (rw (← append_assoc (up_to point u) (onward point u) (onward is_exponent w), front_behind (λ b. not (point b)) u)
    (front_behind (λ b. not (is_exponent b)) w)))
    (not_either (onward point u) (onward is_exponent w) (no_digit_onward point point_apart u) (no_digit_onward is_exponent exponent_apart w)) z

pub number_none : (w : List ℕ) → integer_length w ≡ 0 → 0 ≡ number_form w
unfolding number_form is_decimal is_scientific is_fraction
number_none w z =
    rw (
      whole_none integers w z,
      none_up_to (is (byte ".")) point_apart w z,
      none_up_to is_exponent exponent_apart w z,
      no_decimal w z,
      none_up_to (is (byte "/")) slash_apart w z,
    )

-- ---- at the end of the integer in front

module _ (w : List ℕ) (n : ℕ) (size : n ≡ integer_length w) (some : 0 < n) where
  begun : Begun is_integer w n
  begun = let k : integer_length w ≡ 0 → ⊥ = λ z. omega arith in rw size (integers.begins w k)

  pub number_integer : length (from w n) < 1 → 4 ≡ number_form w
  unfolding number_form
  number_integer h =
      let l : length w ≤ n = omega (arith, part_size w n) in
      rw (rw (take_all n w l) at begun.good)

  module _ (h : 1 ≤ length (from w n)) where
    parts : w ≡ take n w ++ (get_or (from w n) 0 0 ∷ from (from w n) 1)
    parts = behind w n h

    next : is_digit (get_or (from w n) 0 0) ≡ false
    unfolding starts_in
    next = rw (here (from w n) 0 h) at (rw (← part_rest w n) at begun.stops)

    pub number_point : get_or (from w n) 0 0 ≡ byte "." → point_form (from (from w n) 1) ≡ number_form w
    number_point e = form_point (take n w) begun.good (get_or (from w n) 0 0) next (from (from w n) 1) e ∙ ap number_form (sym parts)

    pub number_exponent : Exponent (get_or (from w n) 0 0) → pick (is_integer (from (from w n) 1)) 6 0 ≡ number_form w
    number_exponent e = form_exponent (take n w) begun.good (get_or (from w n) 0 0) next (from (from w n) 1) e ∙ ap number_form (sym parts)

    pub number_fraction : get_or (from w n) 0 0 ≡ byte "/" → pick (is_count (from (from w n) 1)) 7 0 ≡ number_form w
    number_fraction e = form_fraction (take n w) begun.good (get_or (from w n) 0 0) next (from (from w n) 1) e ∙ ap number_form (sym parts)

    pub number_other : (get_or (from w n) 0 0 ≡ byte "." → ⊥) → (Exponent (get_or (from w n) 0 0) → ⊥) → (get_or (from w n) 0 0 ≡ byte "/" → ⊥) → 0 ≡ number_form w
    number_other p x s = form_other (take n w) begun.good (get_or (from w n) 0 0) next (from (from w n) 1) p x s ∙ ap number_form (sym parts)

-- ---- behind a point

pub point_none : (w : List ℕ) → length_in is_digit w ≡ 0 → 0 ≡ point_form w
unfolding point_form are_digits starts_in length_in
point_none [] z = refl
point_none (b ∷ l) z =
    split (is_digit b) (λ d. absurd (omega (arith, rw (d, length_in) at z)))
    (λ d. split (is_exponent b)
    (λ e. rw (d, (at_mark is_exponent b l e).0))
    (λ e. rw (d, (no_mark is_exponent b l e).0, d)))

starts_front : (class : ℕ → Bool) (w : List ℕ) → 0 < length_in class w → starts_in class (front class w) ≡ true
unfolding length_in starts_in
starts_front class [] h = absurd (omega arith)
starts_front class (b ∷ l) h = split (class b) (λ e. rw (e, length_in) e) (λ e. absurd (omega (arith, rw (e, length_in) at h)))

module _ (w : List ℕ) (n : ℕ) (size : n ≡ length_in is_digit w) (some : n ≡ 0 → ⊥) where
  all_digits : all is_digit (take n w) ≡ true
  all_digits = rw size (front_all is_digit w)

  digits : are_digits (take n w) ≡ true
  unfolding are_digits
  digits = rw (all_digits, size, starts_front is_digit w (omega arith))

  pub point_decimal : length (from w n) < 1 → 5 ≡ point_form w
  unfolding point_form
  point_decimal h =
      let l : length w ≤ n = omega (arith, part_size w n) in
      rw (rw (take_all n w l) at digits)

  module _ (h : 1 ≤ length (from w n)) where
    parts_digits : w ≡ take n w ++ (get_or (from w n) 0 0 ∷ from (from w n) 1)
    parts_digits = behind w n h

    next_other : is_digit (get_or (from w n) 0 0) ≡ false
    unfolding starts_in
    next_other = rw (here (from w n) 0 h) at (rw (← part_rest w n) at (rw (← size) at (behind_stops is_digit w)))

    not_digits : are_digits w ≡ false
    not_digits = ap are_digits parts_digits ∙ digits_broken (take n w) (get_or (from w n) 0 0) (from (from w n) 1) next_other

    made : all in_integer (take n w) ≡ true
    made = all_weaken is_digit in_integer (λ b d. or_left (is_digit b) _ d) (take n w) all_digits

    pub point_exponent : Exponent (get_or (from w n) 0 0) → pick (is_integer (from (from w n) 1)) 6 0 ≡ point_form w
    unfolding point_form elem
    point_exponent e =
        let k = mark_parts is_exponent exponent_apart (take n w) made (get_or (from w n) 0 0) (from (from w n) 1) (⊎_elim (λ q. rw q) (λ q. rw q) e) in
        let u : up_to is_exponent w ≡ take n w = ap (up_to is_exponent) parts_digits ∙ k.0 in
        let p : past is_exponent w ≡ from (from w n) 1 = ap (past is_exponent) parts_digits ∙ k.1 in
        rw (not_digits, u, p, digits)

    pub point_other : (Exponent (get_or (from w n) 0 0) → ⊥) → 0 ≡ point_form w
    unfolding point_form elem
    point_other x =
        let no : is_exponent (get_or (from w n) 0 0) ≡ false = rw (ne_eqb (get_or (from w n) 0 0) (byte "e") (λ q. x (inr q)), ne_eqb (get_or (from w n) 0 0) (byte "E") (λ q. x (inl q))) in
        let k = other_parts is_exponent exponent_apart (take n w) made (get_or (from w n) 0 0) (from (from w n) 1) no in
        let u : are_digits (up_to is_exponent w) ≡ false = ap (λ (y : List ℕ). are_digits (up_to is_exponent y)) parts_digits
        ∙ rw k.0 (digits_broken (take n w) _ _ next_other) in
        rw (not_digits, u)
