-- Digits with no leading zero, and integers: how many bytes they take in front of a word, and that no others do. Assumes nothing.
-- Document 01, "The grammar", Values, Numbers; 001 §12.
use Prim.Native.Nat.{ℕ, zero, suc, ◌+◌, ◌-◌, ◌≤◌, ◌<◌}
use mathlib.Core.Path.{◌≡◌, refl, sym, ap, ◌∙◌}
use mathlib.Core.Bool.{Bool, true, false, not, ◌&&◌, ◌||◌, and-false, or-true}
use mathlib.Core.List.{List, [], ◌∷◌, ◌++◌, append-nil}
use mathlib.Core.Logic.{◌⊎◌, inl, inr, ⊎_elim}
use native.Mathlib.Omega.{arith}
use Rattle.std.specs.Prelude.{None, Some}
use Rattle.std.specs.Option.{option_eq}
use Rattle.std.proofs.lemmas.Option.{none-some, same_Some}
use lib.ListN.{length, get_or, take, drop}
use lib.Seq.{take-length, length-take-le}
use lib.Dec.{leb, eqb}
use borrow.Author.Tests.{leb-true, leb-false, le-leb, lt-leb, eqb-true, eqb-false, eq-eqb, ne_eqb, not-true}
use Rattle.paper.specs.Bytes.{byte, bytes, is_digit, all, elem, starts_in, length_in, is, are_digits}
use Rattle.paper.specs.Values.{is_count, unsigned, is_integer}
use Rattle.paper.proofs.Tests.{split, true_false, either, or_left, or_right}
use Rattle.paper.proofs.Lists.{both, all_cons, all_weaken, front_all, behind_stops, front_length, length_in_lem}
use Rattle.text.proofs.Places.{here, part_rest, parts_at}
use Rattle.leaves.proofs.Runs.{starts_first}
use Rattle.leaves.specs.Kinds.{sign_length, count_length, integer_length, some_length}

-- ---- digits with no leading zero

-- one byte that is no digit breaks them
all_broken : (class : ℕ → Bool) (v : List ℕ) (c : ℕ) (x : List ℕ) → class c ≡ false → all class (v ++ (c ∷ x)) ≡ false
unfolding all
all_broken class [] c x e = rw e
all_broken class (b ∷ v) c x e = rw (all_broken class v c x e) (and-false (class b))

count_digits : (w : List ℕ) → is_count w ≡ true → (starts_in is_digit w ≡ true) × (all is_digit w ≡ true)
unfolding is_count are_digits
count_digits w e = both (starts_in is_digit w) (all is_digit w) (both (are_digits w) _ e).0

pub digits_broken : (v : List ℕ) (c : ℕ) (x : List ℕ) → is_digit c ≡ false → are_digits (v ++ (c ∷ x)) ≡ false
unfolding are_digits
digits_broken v c x e = rw (all_broken is_digit v c x e) (and-false (starts_in is_digit (v ++ (c ∷ x))))

count_broken : (v : List ℕ) (c : ℕ) (x : List ℕ) → is_digit c ≡ false → is_count (v ++ (c ∷ x)) ≡ false
unfolding is_count
count_broken v c x e = rw (digits_broken v c x e)

-- those in front are all digits in front
pub record Counted (w : List ℕ) (n : ℕ) : Type 0 where
  pub size : n ≡ length_in is_digit w
  pub good : is_count (take n w) ≡ true

one_or : (n : ℕ) (z : Bool) → leb 2 n && z ≡ false → 0 < n → eqb n 1 || not z ≡ true
one_or n true e h = split (leb 2 n) (λ k. true_false (rw k at e)) (λ k. rw (eq-eqb n 1 (omega (arith, leb-false 2 n k))))
one_or n false e h = or-true (eqb n 1)

one_or_back : (n : ℕ) (z : Bool) → eqb n 1 || not z ≡ true → leb 2 n && z ≡ false
one_or_back n z e = either (eqb n 1) (not z) e (λ k. rw (lt-leb 2 n (omega (arith, eqb-true n 1 k)))) (λ k. rw (not-true z k) (and-false (leb 2 n)))

counted_digit : (b : ℕ) (l : List ℕ) → is_digit b ≡ true → (count_length (b ∷ l) ≡ 0 → ⊥) → Counted (b ∷ l) (count_length (b ∷ l))
unfolding count_length length_in starts_in is_count are_digits all
counted_digit b l d some =
    split (leb 2 (suc (length_in is_digit l)) && eqb b (byte "0"))
    (λ e. absurd (some (rw (d, length_in, e))))
    (λ e. let n : count_length (b ∷ l) ≡ suc (length_in is_digit l) = rw (d, length_in, e) in
    rw n (record {
      size = rw (d, length_in);
      good = rw (d, front_all is_digit l, length-take-le (length_in is_digit l) l (length_in_lem is_digit l))
          (one_or (suc (length_in is_digit l)) (eqb b (byte "0")) e (omega arith));
    }))

no_digit_first : (w : List ℕ) → starts_in is_digit w ≡ false → count_length w ≡ 0
unfolding count_length length_in starts_in
no_digit_first [] e = refl
no_digit_first (b ∷ l) e = rw (e, length_in)

pub counted : (w : List ℕ) → (count_length w ≡ 0 → ⊥) → Counted w (count_length w)
unfolding starts_in
counted [] some = absurd (some (no_digit_first [] refl))
counted (b ∷ l) some = split (is_digit b) (λ d. counted_digit b l d some) (λ d. absurd (some (no_digit_first (b ∷ l) d)))

-- and whatever stands in front so is as long
no_zero : (b : ℕ) (v : List ℕ) → is_count (b ∷ v) ≡ true → leb 2 (suc (length v)) && eqb b (byte "0") ≡ false
unfolding is_count starts_in
no_zero b v e = one_or_back (suc (length v)) (eqb b (byte "0")) (both (are_digits (b ∷ v)) _ e).1

pub count_only : (v rest : List ℕ) → is_count v ≡ true → starts_in is_digit rest ≡ false → (count_length (v ++ rest) ≡ length v) × (0 < length v)
unfolding starts_in count_length
count_only [] rest e n = true_false (sym (count_digits [] e).0)
count_only (b ∷ v) rest e n =
    let size : length_in is_digit (b ∷ (v ++ rest)) ≡ suc (length v) = front_length is_digit (b ∷ v) rest (count_digits (b ∷ v) e).1 n in
    (rw (size, no_zero b v e), omega arith)

-- ---- integers

pub integer_broken : (v : List ℕ) (c : ℕ) (x : List ℕ) → 0 < length v → is_digit c ≡ false → is_integer (v ++ (c ∷ x)) ≡ false
unfolding unsigned
integer_broken [] c x h e = absurd (omega arith)
integer_broken (b ∷ v) c x h e =
    split (elem b (bytes "+-")) (λ s. rw (s, unsigned) (count_broken v c x e)) (λ s. rw (s, unsigned) (count_broken (b ∷ v) c x e))

-- what integers are made of
abbrev pub in_integer : ℕ → Bool
in_integer b = is_digit b || elem b (bytes "+-")

digits_in : (w : List ℕ) → all is_digit w ≡ true → all in_integer w ≡ true
digits_in w e = all_weaken is_digit in_integer (λ b d. or_left (is_digit b) _ d) w e

pub integer_made : (w : List ℕ) → is_integer w ≡ true → (all in_integer w ≡ true) × (0 < length w)
unfolding unsigned starts_in
integer_made [] e = true_false (sym (count_digits [] e).0)
integer_made (b ∷ l) e =
    split (elem b (bytes "+-"))
    (λ s. (all_cons in_integer b l (or_right (is_digit b) _ s) (digits_in l (count_digits l (rw (s, unsigned) at e)).1), omega arith))
    (λ s. (digits_in (b ∷ l) (count_digits (b ∷ l) (rw (s, unsigned) at e)).1, omega arith))

-- the sign in front
module _ (b : ℕ) (l : List ℕ) where
  pub signed : elem b (bytes "+-") ≡ true → (sign_length (b ∷ l) ≡ 1) × (unsigned (b ∷ l) ≡ l)
  unfolding sign_length unsigned starts_in
  signed e = (rw e, rw (e, unsigned))

  pub not_signed : elem b (bytes "+-") ≡ false → (sign_length (b ∷ l) ≡ 0) × (unsigned (b ∷ l) ≡ b ∷ l)
  unfolding sign_length unsigned starts_in
  not_signed e = (rw e, rw (e, unsigned))

pub sign_none : sign_length [] ≡ 0
unfolding sign_length starts_in
sign_none = refl

pub sign_drop : (w : List ℕ) → unsigned w ≡ drop (sign_length w) w
unfolding unsigned
sign_drop [] = rw sign_none
sign_drop (b ∷ l) = split (elem b (bytes "+-")) (λ e. let s = signed b l e in rw (s.0, s.1)) (λ e. let s = not_signed b l e in rw (s.0, s.1))

-- an integer in front, which digits do not follow, is as long as it says
module _ (w : List ℕ) where
  pub integer_some : (count_length (unsigned w) ≡ 0 → ⊥) → integer_length w ≡ sign_length w + count_length (unsigned w)
  unfolding integer_length
  integer_some h = rw (ne_eqb (count_length (unsigned w)) 0 h)

  pub integer_none : count_length (unsigned w) ≡ 0 → integer_length w ≡ 0
  unfolding integer_length
  integer_none e = rw (eq-eqb (count_length (unsigned w)) 0 e)

pub integer_only : (v rest : List ℕ) → is_integer v ≡ true → starts_in is_digit rest ≡ false → integer_length (v ++ rest) ≡ length v
unfolding unsigned starts_in
integer_only [] rest e n = true_false (sym (count_digits [] e).0)
integer_only (b ∷ v) rest e n =
    split (elem b (bytes "+-"))
    (λ s. let g = signed b (v ++ rest) s in
    let k = count_only v rest (rw (s, unsigned) at e) n in
    let m : count_length (unsigned (b ∷ (v ++ rest))) ≡ length v = ap count_length g.1 ∙ k.0 in
    omega (arith, integer_some (b ∷ (v ++ rest)) (λ z. omega arith), g.0))
    (λ s. let g = not_signed b (v ++ rest) s in
    let k = count_only (b ∷ v) rest (rw (s, unsigned) at e) n in
    let m : count_length (unsigned (b ∷ (v ++ rest))) ≡ suc (length v) = ap count_length g.1 ∙ k.0 in
    omega (arith, integer_some (b ∷ (v ++ rest)) (λ z. omega arith), g.0))

unsigned_take : (b : ℕ) (l : List ℕ) → elem b (bytes "+-") ≡ false → (n : ℕ) → unsigned (take n (b ∷ l)) ≡ take n (b ∷ l)
unfolding unsigned
unsigned_take b l e zero = refl
unsigned_take b l e (suc n) = rw (e, unsigned)

-- ---- how the functions find them

pub one_of_two : (b c d : ℕ) → ((b ≡ c → ⊥) → b ≡ d) → (b ≡ c) ⊎ (b ≡ d)
one_of_two b c d h = split (eqb b c) (λ e. inl (eqb-true b c e)) (λ e. inr (h (eqb-false b c e)))

abbrev pub Sign : ℕ → Type 0
Sign b = (b ≡ byte "+") ⊎ (b ≡ byte "-")

pub sign_there : (w : List ℕ) → 1 ≤ length w → Sign (get_or w 0 0) → 1 ≡ sign_length w
unfolding elem
sign_there [] h e = absurd (omega arith)
sign_there (b ∷ l) h e = sym (signed b l (⊎_elim (λ p. rw p) (λ m. rw m) e)).0

pub sign_missing : (w : List ℕ) → (1 ≤ length w → Sign (get_or w 0 0) → ⊥) → 0 ≡ sign_length w
unfolding elem
sign_missing [] n = sym sign_none
sign_missing (b ∷ l) n =
    let k : (Sign b → ⊥) = n (omega arith) in
    sym (not_signed b l (rw (ne_eqb b (byte "+") (λ e. k (inl e)), ne_eqb b (byte "-") (λ e. k (inr e))))).0

-- a length that is answered is no 0
pub some_is : (n size : ℕ) → some_length n ≡ Some size → (size ≡ n) × (0 < n)
some_is zero size e = absurd (none-some size e)
some_is (suc n) size e = (sym (same_Some (suc n) size e), omega arith)

pub none_is : (n : ℕ) → some_length n ≡ None → n ≡ 0
none_is zero e = refl
none_is (suc n) e = absurd (none-some (suc n) (sym e))

pub some_of : (n size : ℕ) → 0 < size → size ≡ n → Some size ≡ some_length n
some_of zero size h e = absurd (omega arith)
some_of (suc n) size h e = ap Some e

module _ (w : List ℕ) (n : ℕ) (size : n ≡ length_in is_digit w) where
  first_byte : 2 ≤ n → starts_in (is (byte "0")) w ≡ eqb (get_or w 0 0) (byte "0")
  first_byte h = starts_first (is (byte "0")) w (omega (arith, length_in_lem is_digit w))

  pub count_zero : 2 ≤ n → get_or w 0 0 ≡ byte "0" → 0 ≡ count_length w
  unfolding count_length
  count_zero h e = rw (← size, le-leb 2 n h, first_byte h, eq-eqb (get_or w 0 0) (byte "0") e)

  pub count_fits : (2 ≤ n → get_or w 0 0 ≡ byte "0" → ⊥) → n ≡ count_length w
  unfolding count_length
  count_fits none =
      split (leb 2 n)
      (λ e. let h = leb-true 2 n e in rw (← size, e, first_byte h, ne_eqb (get_or w 0 0) (byte "0") (none h)))
      (λ e. rw (← size, e))

module _ (w : List ℕ) (sign n : ℕ) (before : sign ≡ sign_length w) (size : n ≡ count_length (take (length w - sign) (drop sign w))) where
  count_behind : count_length (unsigned w) ≡ n
  count_behind = rw (sign_drop w, ← before) (sym (size ∙ ap count_length (part_rest w sign)))

  pub integer_zero : n ≡ 0 → 0 ≡ integer_length w
  integer_zero z = sym (integer_none w (count_behind ∙ z))

  pub integer_size : (n ≡ 0 → ⊥) → sign + n ≡ integer_length w
  integer_size h = rw (before, ← count_behind) (sym (integer_some w (λ z. h (sym count_behind ∙ z))))

-- ---- kinds of numbers that digits end

-- a kind of words that no digit may follow directly: how many bytes one takes in front of a word, 0 where none stands there
pub record Begun (kind : List ℕ → Bool) (w : List ℕ) (n : ℕ) : Type 0 where
  pub good : kind (take n w) ≡ true
  pub stops : starts_in is_digit (drop n w) ≡ false

pub record Measures (kind : List ℕ → Bool) (size : List ℕ → ℕ) : Type 0 where
  pub begins : (w : List ℕ) → (size w ≡ 0 → ⊥) → Begun kind w (size w)
  pub only : (v rest : List ℕ) → kind v ≡ true → starts_in is_digit rest ≡ false → (size (v ++ rest) ≡ length v) × (0 < length v)
  pub broken : (v : List ℕ) (c : ℕ) (x : List ℕ) → 0 < length v → is_digit c ≡ false → kind (v ++ (c ∷ x)) ≡ false

pub counts : Measures is_count count_length
counts =
    record {
      begins = λ w some. let c = counted w some in record { good = c.good; stops = rw c.size (behind_stops is_digit w) };
      only = count_only;
      broken = λ v c x h e. count_broken v c x e;
    }

integer_begins : (w : List ℕ) → (integer_length w ≡ 0 → ⊥) → Begun is_integer w (integer_length w)
unfolding unsigned starts_in
integer_begins [] some = absurd (some (integer_none [] (no_digit_first [] refl)))
integer_begins (b ∷ l) some =
    split (elem b (bytes "+-"))
    (λ s. let g = signed b l s in
    let k : count_length l ≡ 0 → ⊥ = λ z. some (integer_none (b ∷ l) (ap count_length g.1 ∙ z)) in
    let n : integer_length (b ∷ l) ≡ suc (count_length l) = integer_some (b ∷ l) (λ z. k (ap count_length (sym g.1) ∙ z)) ∙ rw (g.0, g.1) (omega arith) in
    let c = counts.begins l k in
    rw n (record { good = rw (s, unsigned) c.good; stops = c.stops }))
    (λ s. let g = not_signed b l s in
    let k : count_length (b ∷ l) ≡ 0 → ⊥ = λ z. some (integer_none (b ∷ l) (ap count_length g.1 ∙ z)) in
    let n : integer_length (b ∷ l) ≡ count_length (b ∷ l) = integer_some (b ∷ l) (λ z. k (ap count_length (sym g.1) ∙ z)) ∙ rw (g.0, g.1) (omega arith) in
    let c = counts.begins (b ∷ l) k in
    rw n (record { good = rw (unsigned_take b l s (count_length (b ∷ l))) c.good; stops = c.stops }))

pub integers : Measures is_integer integer_length
integers = record { begins = integer_begins; only = λ v rest e n. (integer_only v rest e n, (integer_made v e).1); broken = integer_broken }

module _ {kind : List ℕ → Bool} {size : List ℕ → ℕ} (m : Measures kind size) (w : List ℕ) where
  -- nothing of the kind stands in front of a word, whatever is behind it
  pub none_before : (v rest : List ℕ) → w ≡ v ++ rest → starts_in is_digit rest ≡ false → size w ≡ 0 → kind v ≡ false
  none_before v rest q n z =
      split (kind v) (λ e. let o = m.only v rest e n in absurd (omega (arith, ap size q, o.0, o.1))) (λ e. e)

  pub whole_none : size w ≡ 0 → kind w ≡ false
  unfolding starts_in
  whole_none z = none_before w [] (sym (append-nil w)) refl z

  -- what follows the one in front is no digit
  next_digit : (size w ≡ 0 → ⊥) → size w < length w → is_digit (get_or w (size w) 0) ≡ false
  unfolding starts_in
  next_digit some h = rw (here w (size w) h) at (m.begins w some).stops

  whole_some : (size w ≡ 0 → ⊥) → size w ≤ length w → eqb (size w) (length w) ≡ kind w
  whole_some some h =
      split (eqb (size w) (length w))
      (λ e. let n = eqb-true (size w) (length w) e in rw e (sym (rw (n, take-length w) at (m.begins w some).good)))
      (λ e. let k : size w < length w = omega (arith, eqb-false (size w) (length w) e) in
      rw e (sym (ap kind (parts_at w (size w) k) ∙ m.broken (take (size w) w) _ _ (omega (arith, length-take-le (size w) w h)) (next_digit some k))))

  -- the whole word is of the kind
  pub measured : size w ≤ length w → option_eq eqb (some_length (size w)) (Some (length w)) ≡ kind w
  measured h =
      split (eqb (size w) 0)
      (λ e. let z = eqb-true (size w) 0 e in rw z (sym (whole_none z)))
      (λ e. let some = eqb-false (size w) 0 e in rw (← some_of (size w) (size w) (omega arith) refl) (whole_some some h))
