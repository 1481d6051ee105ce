-- The name rule: a turn of the loop that measures a run and counts its capitals, its ends, and the whole rule from how a name starts.
-- Over plain lists. Assumes nothing.
use Prim.Native.Nat.{ℕ, suc, ◌+◌, ◌-◌, ◌*◌, ◌%◌, ◌≤◌, ◌<◌}
use mathlib.Core.Path.{◌≡◌, refl, sym, ap, ◌∙◌}
use mathlib.Core.List.{List, [], ◌∷◌}
use mathlib.Core.Bool.{Bool, true, false, ◌&&◌, and-true, and-false}
use native.Mathlib.Nat.{mod-lt}
use native.Mathlib.Omega.{arith}
use lib.ListN.{length, get_or, drop, length-drop, drop_of_length-le}
use lib.Seq.{length-take-le, take_all}
use lib.Dec.{leb, ltb}
use borrow.Author.Tests.{lt-ltb, le-ltb}
use Rattle.paper.specs.Bytes.{is_upper, is_lower, is_digit, is_letter, is_name_byte, starts_in, length_in}
use Rattle.paper.specs.Names.{name_limit, run, few_capitals, name_rule, is_name}
use Rattle.paper.proofs.Tests.{split, above, in_range}
use Rattle.text.proofs.Places.{here}
use Rattle.text.proofs.Stretch.{Stretch, front_at, goes_on, stops, cut_off}
use Rattle.names.specs.declared.Run.{Run}
use Rattle.names.specs.Runs.{Measures, key_limit, key_from, key_of}

-- ---- a run, byte by byte

upper_name : (b : ℕ) → is_upper b ≡ true → is_name_byte b ≡ true
unfolding is_name_byte is_letter
upper_name b u = rw u

-- a lower case letter is no capital
pub lower_name : (b : ℕ) → is_lower b ≡ true → (is_upper b ≡ false) × (is_name_byte b ≡ true)
unfolding is_name_byte is_letter is_upper is_lower
lower_name b l =
    let u = above 0x41 0x5A b (omega (arith, in_range 0x61 0x7A b l)) in
    (u, rw (u, l))

-- of what is no letter, names have the digits
pub digit_name : (b : ℕ) → is_lower b ≡ false → is_upper b ≡ false → is_name_byte b ≡ is_digit b
unfolding is_name_byte is_letter
digit_name b l u = rw (u, l)

module _ (s : List ℕ) (i : ℕ) (h : i < length s) where
  run_on : is_name_byte (get_or s i 0) ≡ true → run (drop i s) ≡ get_or s i 0 ∷ run (drop (i + 1) s)
  unfolding length_in
  run_on e = rw (here s i h, length_in, e)

  run_over : is_name_byte (get_or s i 0) ≡ false → run (drop i s) ≡ []
  unfolding length_in
  run_over e = rw (here s i h, length_in, e)

  -- capitals in a row, where n stand directly before
  module _ (n : ℕ) where
    one_capital : is_upper (get_or s i 0) ≡ true → n < 2 → few_capitals n (run (drop i s)) ≡ few_capitals (n + 1) (run (drop (i + 1) s))
    unfolding few_capitals
    one_capital u l = rw (run_on (upper_name _ u), few_capitals, u, lt-ltb n 2 l)

    third_capital : is_upper (get_or s i 0) ≡ true → 2 ≤ n → few_capitals n (run (drop i s)) ≡ false
    unfolding few_capitals
    third_capital u l = rw (run_on (upper_name _ u), few_capitals, u, le-ltb n 2 l)

    no_capital : is_upper (get_or s i 0) ≡ false → is_name_byte (get_or s i 0) ≡ true → few_capitals n (run (drop i s)) ≡ few_capitals 0 (run (drop (i + 1) s))
    unfolding few_capitals
    no_capital u e = rw (run_on e, few_capitals, u, e)

-- ---- the loop: the run from i on, with the capitals directly before it, decides as the run from a place on

pub record Judged (s : List ℕ) (at capitals : ℕ) (few : Bool) (key i : ℕ) : Type 0 where
  pub ahead : at ≤ i
  pub inside : i ≤ length s
  pub ends : i + length_in is_name_byte (drop i s) ≡ at + length_in is_name_byte (drop at s)
  pub row : capitals ≤ 2
  pub decides : (few && few_capitals capitals (run (drop i s))) ≡ few_capitals 0 (run (drop at s))
  pub small : key < key_limit
  pub keyed : key_from key (run (drop i s)) ≡ key_of (run (drop at s))

module _ {s : List ℕ} {at capitals : ℕ} {few : Bool} {key i : ℕ} (so_far : Judged s at capitals few key i) where
  -- the key with one letter more
  abbrev next : ℕ
  next = (key + get_or s i 0) * 40503 % key_limit

  next_small : next < key_limit
  next_small = mod-lt _ (omega arith)

  module _ (h : i < length s) where
    next_keyed : is_name_byte (get_or s i 0) ≡ true → key_from next (run (drop (i + 1) s)) ≡ key_of (run (drop at s))
    unfolding key_from
    next_keyed e = (rw (run_on s i h e)) ∙ so_far.keyed

    module _ (u : is_upper (get_or s i 0) ≡ true) where
      further : (i + 1) + length_in is_name_byte (drop (i + 1) s) ≡ at + length_in is_name_byte (drop at s)
      further = sym (goes_on is_name_byte s i h (upper_name _ u)) ∙ so_far.ends

      pub judged_capital : capitals < 2 → Judged s at (capitals + 1) few next (i + 1)
      judged_capital l = record {
        ahead = omega (arith, so_far.ahead);
        inside = omega arith;
        ends = further;
        row = omega arith;
        decides = ap (λ (k : Bool). few && k) (sym (one_capital s i h capitals u l)) ∙ so_far.decides;
        small = next_small;
        keyed = next_keyed (upper_name _ u);
      }

      pub judged_third : 2 ≤ capitals → Judged s at capitals false next (i + 1)
      judged_third l = record {
        ahead = omega (arith, so_far.ahead);
        inside = omega arith;
        ends = further;
        row = so_far.row;
        decides = sym (and-false few) ∙ ap (λ (k : Bool). few && k) (sym (third_capital s i h capitals u l)) ∙ so_far.decides;
        small = next_small;
        keyed = next_keyed (upper_name _ u);
      }

    pub judged_other : is_upper (get_or s i 0) ≡ false → is_name_byte (get_or s i 0) ≡ true → Judged s at 0 few next (i + 1)
    judged_other u e = record {
      ahead = omega (arith, so_far.ahead);
      inside = omega arith;
      ends = sym (goes_on is_name_byte s i h e) ∙ so_far.ends;
      row = omega arith;
      decides = ap (λ (k : Bool). few && k) (sym (no_capital s i h capitals u e)) ∙ so_far.decides;
      small = next_small;
      keyed = next_keyed e;
    }

  -- what is answered where the run ends
  abbrev Answered : Run → Type 0
  Answered r = (r.end ≡ i) × (r.keeps ≡ (few && leb (i - at) name_limit)) × (r.key ≡ key)

  -- where no name byte is left in front, the run ends
  module _ (end : i + length_in is_name_byte (drop i s) ≡ i) (none : run (drop i s) ≡ []) where
    stretch : Stretch is_name_byte s at i
    stretch = (sym end ∙ so_far.ends, so_far.ahead, so_far.inside)

    long : length (run (drop at s)) ≡ i - at
    long = ap length (front_at is_name_byte s at i stretch) ∙ length-take-le (i - at) (drop at s) (omega (arith, length-drop at s, so_far.inside))

    over : few_capitals capitals (run (drop i s)) ≡ true
    unfolding few_capitals
    over = rw none

    decided : few ≡ few_capitals 0 (run (drop at s))
    decided = sym (and-true few) ∙ ap (λ (k : Bool). few && k) (sym over) ∙ so_far.decides

    no_more : key ≡ key_from key (run (drop i s))
    unfolding key_from
    no_more = rw none

    measured : (r : Run) → Answered r → Measures s at r
    measured r e = record {
      ends = rw e.0 stretch;
      judged = e.1 ∙ ap (λ (k : Bool). k && leb (i - at) name_limit) decided ∙ ap (λ (k : ℕ). few_capitals 0 (run (drop at s)) && leb k name_limit) (sym long);
      keyed = e.2 ∙ no_more ∙ so_far.keyed;
    }

  pub measured_here : i < length s → is_name_byte (get_or s i 0) ≡ false → (r : Run) → Answered r → Measures s at r
  measured_here h e = measured (stops is_name_byte s i h e) (run_over s i h e)

  -- the same at the end of the slice
  pub measured_cut : length s ≤ i → (r : Run) → (r.end ≡ length s) × (r.keeps ≡ (few && leb (length s - at) name_limit)) × (r.key ≡ key) → Measures s at r
  unfolding length_in
  measured_cut h r e =
      let there : length s ≡ i = omega (arith, so_far.inside) in
      measured (cut_off is_name_byte s i h) (ap run (drop_of_length-le s h)) r (rw there at e)

-- ---- the whole rule, for names that start in a class

-- a run that is not empty is a name by its first byte and what was judged
pub ruled : (class : ℕ → Bool) {s : List ℕ} {at : ℕ} {r : Run} → Measures s at r → (r.end ≡ at → ⊥)
    → (class (get_or s at 0) && r.keeps) ≡ is_name class name_limit (run (drop at s))
unfolding is_name name_rule starts_in
ruled class {s} {at} {r} m some =
    split (class (get_or s at 0)) (λ t. rw (t, starts ∙ t) m.judged) (λ f. rw (f, starts ∙ f))
  where
    inside : at < length s
    inside = omega (arith, m.ends.1, m.ends.2)

    starts : starts_in class (run (drop at s)) ≡ class (get_or s at 0)
    starts =
        split (is_name_byte (get_or s at 0)) (λ e. rw (run_on s at inside e)) (λ e. absurd (some (m.ends.0 ∙ stops is_name_byte s at inside e)))

-- what is no run has a byte that no name has
not_run : (w : List ℕ) (n : ℕ) → length_in is_name_byte w < length w → few_capitals n w ≡ false
unfolding few_capitals length_in
not_run [] n h = absurd (omega arith)
not_run (b ∷ l) n h =
    split (is_upper b)
    (λ u. split (ltb n 2)
    (λ t. rw (u, few_capitals, t) (not_run l (n + 1) (less (upper_name b u))))
    (λ f. rw (u, few_capitals, f)))
    (λ u. split (is_name_byte b) (λ e. rw (u, few_capitals, e) (not_run l 0 (less e))) (λ e. rw (u, few_capitals, e)))
  where
    less : is_name_byte b ≡ true → length_in is_name_byte l < length l
    less e = let k : length_in is_name_byte (b ∷ l) ≡ suc (length_in is_name_byte l) = rw (length_in, e) in omega arith

module _ (class : ℕ → Bool) (w : List ℕ) where
  pub empty_name : length w ≡ 0 → false ≡ is_name class name_limit w
  unfolding is_name name_rule starts_in
  empty_name h = go w h
    where
      go : (v : List ℕ) → length v ≡ 0 → false ≡ is_name class name_limit v
      go [] e = refl
      go (b ∷ l) e = absurd (omega arith)

  module _ {r : Run} (m : Measures w 0 r) where
    pub no_run : r.end < length w → false ≡ is_name class name_limit w
    unfolding is_name name_rule
    no_run h = rw (not_run w 0 (omega (arith, m.ends.0)), and-false (starts_in class w))

    module _ (some : length w ≡ 0 → ⊥) (all : length w ≤ r.end) where
      whole : (class (get_or w 0 0) && r.keeps) ≡ is_name class name_limit w
      whole = ruled class m (omega arith) ∙ ap (is_name class name_limit) (take_all (length_in is_name_byte w) w (omega (arith, m.ends.0)))

      pub good_start : class (get_or w 0 0) ≡ true → r.keeps ≡ is_name class name_limit w
      good_start e = ap (λ (k : Bool). k && r.keeps) (sym e) ∙ whole

      pub bad_start : class (get_or w 0 0) ≡ false → false ≡ is_name class name_limit w
      bad_start e = ap (λ (k : Bool). k && r.keeps) (sym e) ∙ whole
