-- Durations: a turn of the loop that reads their parts, and its ways out, and what they are by whether a "T" stands in them.
-- Over plain lists; the loop over any rule of sizes and any letters. 001 §18. Assumes nothing.
use Prim.Native.Nat.{ℕ, zero, suc, ◌-◌, ◌≤◌}
use mathlib.Core.Path.{◌≡◌, refl, sym, ap, ◌∙◌}
use mathlib.Core.Bool.{Bool, true, false, ◌&&◌, ◌||◌, or-false}
use mathlib.Core.List.{List}
use native.Mathlib.Omega.{arith}
use lib.ListN.{length}
use Rattle.paper.specs.Bytes.{bytes}
use Rattle.paper.specs.Times.{is_empty, are_parts, are_date_parts, are_time_parts, is_span}
use Rattle.paper.proofs.Tests.{split, true_false}
use Rattle.paper.proofs.TimeKinds.{dates_free}
use Rattle.times.specs.Parts.{HasNone, IsParted}
use Rattle.times.proofs.Splits.{is_shorter, parted_none, parted_on}

-- parts that are left, which answer as the whole does
pub record Ahead (size : List ℕ → Bool) (letters w left : List ℕ) : Type 0 where
  pub fuel : ℕ
  pub enough : length left ≤ fuel
  pub same : are_parts size letters fuel left ≡ are_parts size letters (length w) w

pub ahead_all : (size : List ℕ → Bool) (letters w : List ℕ) → Ahead size letters w w
ahead_all size letters w = record { fuel = length w; enough = omega arith; same = refl }

module _ (size : List ℕ → Bool) (letters l : List ℕ) where
  -- where no letter stands
  none_first : HasNone letters l → (fuel : ℕ) → false ≡ are_parts size letters fuel l
  unfolding are_parts
  none_first h zero = refl
  none_first h (suc fuel) = parted_none letters size _ l h

  -- with fuel the parts are one part and more of them
  one_first : (front rest : List ℕ) → IsParted letters l front rest → (fuel less : ℕ) → fuel ≡ suc less
      → size front && (is_empty rest || are_parts size letters less rest) ≡ are_parts size letters fuel l
  unfolding are_parts
  one_first front rest at fuel less e =
      parted_on letters size (λ r. is_empty r || are_parts size letters less r) l front rest at ∙ ap (λ (k : ℕ). are_parts size letters k l) (sym e)

module _ (size : List ℕ → Bool) (letters w left : List ℕ) (so_far : Ahead size letters w left) where
  pub parts_none : HasNone letters left → false ≡ are_parts size letters (length w) w
  parts_none h = none_first size letters left h so_far.fuel ∙ so_far.same

  module _ (front rest : List ℕ) (at : IsParted letters left front rest) where
    whole : size front && (is_empty rest || are_parts size letters (so_far.fuel - 1) rest) ≡ are_parts size letters (length w) w
    whole =
        let less = is_shorter letters left front rest at in
        one_first size letters left front rest at so_far.fuel (so_far.fuel - 1) (omega (arith, so_far.enough)) ∙ so_far.same

    pub parts_off : size front ≡ false → false ≡ are_parts size letters (length w) w
    parts_off e = rw e at whole

    pub parts_over : size front ≡ true → is_empty rest ≡ true → true ≡ are_parts size letters (length w) w
    parts_over e o = rw (e, o) at whole

    pub parts_on : size front ≡ true → is_empty rest ≡ false → Ahead size letters w rest
    parts_on e o =
        let less = is_shorter letters left front rest at in
        record { fuel = so_far.fuel - 1; enough = omega (arith, so_far.enough); same = rw (e, o) at whole }

-- ---- by whether a "T" stands in them

-- what may stand before it
abbrev maybe_date : List ℕ → Bool
maybe_date d = is_empty d || are_date_parts d

module _ (w : List ℕ) where
  pub span_date : HasNone (bytes "T") w → are_date_parts w ≡ is_span w
  unfolding is_span
  span_date h = rw (← parted_none (bytes "T") maybe_date are_time_parts w h) (sym (or-false (are_date_parts w)))

  module _ (date time : List ℕ) (at : IsParted (bytes "T") w date time) where
    -- no parts of a date have a "T"
    no_date : are_date_parts w ≡ false
    no_date = split (are_date_parts w) (λ e. true_false (sym at.mark ∙ dates_free w e)) (λ e. e)

    pub span_parted : maybe_date date && are_time_parts time ≡ is_span w
    unfolding is_span
    span_parted = rw no_date (parted_on (bytes "T") maybe_date are_time_parts w date time at)
