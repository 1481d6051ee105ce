-- The kind of a time by what tells it from the others: a law for each way out of the functions that find it. Over plain lists.
-- 001 §18; document 02, Two. Assumes nothing.
use Prim.Native.Nat.{ℕ, ◌≤◌, ◌<◌}
use mathlib.Core.Path.{◌≡◌, refl, sym, ap, ◌∙◌}
use mathlib.Core.Bool.{Bool, true, false, ◌&&◌}
use mathlib.Core.List.{List, [], ◌∷◌, ◌++◌}
use mathlib.Core.Option.{some}
use native.Mathlib.Omega.{arith}
use lib.ListN.{length, get_or, drop}
use lib.Dec.{eqb}
use borrow.Author.Tests.{eq-eqb, ne_eqb}
use Rattle.std.specs.Prelude.{Option as Perhaps}
use Rattle.std.specs.Bool.{then_some}
use Rattle.paper.specs.Found.{pick}
use Rattle.paper.specs.Bytes.{byte, bytes, is_lower, elem, starts_in, up_to, onward, past}
use Rattle.paper.specs.Times.{among, is_date, is_year_month, is_month_day, is_time, is_zone, parted, is_zoned, is_zoned_time, is_local, is_duration, is_span, is_reserved}
use Rattle.paper.specs.Times.{TimeKind, zoned, local, date, year_month, month_day, time, duration, reserved, is_of, time_kind}
use Rattle.paper.proofs.Tests.{split, inside, by_range}
use Rattle.paper.proofs.Lists.{empty_is}
use Rattle.paper.proofs.TimeKinds.{has, tells, kind_told, local_is, zoned_is, moment_told}
use Rattle.times.specs.declared.kinds.Kind.{Kind}
use Rattle.times.specs.Parts.{HasNone, IsParted}
use Rattle.times.specs.Numbers.{number_of, number_of_kind, number_or_none}
use Rattle.times.proofs.Splits.{has_no, all_in_front, by_one, joined}

-- a kind that is answered where something fits
pub where_fits : (k : Kind) (r : Perhaps Kind) (fits is : Bool) → r ≡ then_some fits k → fits ≡ is → number_or_none r ≡ pick is (number_of_kind k) 0
where_fits k r true is e f = rw (e, ← f)
where_fits k r false is e f = rw (e, ← f)

-- the number of the kind that is told, if it fits
told : (k : TimeKind) (w : List ℕ) → tells w ≡ k → number_of (time_kind w) ≡ pick (is_of k w) (number_of (some k)) 0
told k w t = ap number_of (kind_told w t) ∙ split (is_of k w) (λ e. rw e) (λ e. rw e)

-- ---- a date, "T" and what stands behind it, in which "Z" or a sign is looked for

module _ (w clock zone : List ℕ) (before : clock ≡ up_to (among (bytes "Z+-")) w) (after : zone ≡ onward (among (bytes "Z+-")) w) (d : List ℕ) (e : is_date d ≡ true) where
  -- with one and without
  zone_told : has (bytes "Z+-") w ≡ true → number_of (time_kind (d ++ (byte "T" ∷ w))) ≡ pick (is_time clock && is_zone zone) 1 0
  unfolding is_zoned_time
  zone_told h = told zoned (d ++ (byte "T" ∷ w)) (moment_told d e w ∙ rw h) ∙ rw (zoned_is d e w, before, after)

  local_told : HasNone (bytes "Z+-") w → number_of (time_kind (d ++ (byte "T" ∷ w))) ≡ pick (is_time clock) 2 0
  local_told h =
      told local (d ++ (byte "T" ∷ w)) (moment_told d e w ∙ rw (has_no (bytes "Z+-") w h))
      ∙ rw (local_is d e w, before, all_in_front (bytes "Z+-") w h)

  pub moment_off : is_time clock ≡ false → 0 ≡ number_of (time_kind (d ++ (byte "T" ∷ w)))
  moment_off f = sym (by_one (bytes "Z+-") w (λ h. local_told h ∙ rw f) (λ h. zone_told h ∙ rw f))

  pub moment_local : length zone ≡ 0 → is_time clock ≡ true → 2 ≡ number_of (time_kind (d ++ (byte "T" ∷ w)))
  moment_local h f = sym (local_told (sym after ∙ empty_is zone (eq-eqb (length zone) 0 h)) ∙ rw f)

  pub moment_zone : (length zone ≡ 0 → ⊥) → is_time clock ≡ true → pick (is_zone zone) 1 0 ≡ number_of (time_kind (d ++ (byte "T" ∷ w)))
  moment_zone h f =
      by_one (bytes "Z+-") w (λ n. absurd (h (ap length (after ∙ n)))) (λ k. sym (zone_told k ∙ rw f))

-- ---- where neither "P" nor a small letter stands first, in which "T" and then ":" is looked for

module _ (w : List ℕ) (p : starts_in (among (bytes "P")) w ≡ false) (l : starts_in is_lower w ≡ false) where
  module _ (day clock : List ℕ) (at : IsParted (bytes "T") w day clock) where
    -- without a date before the "T" it is of no kind
    pub undated : is_date day ≡ false → 0 ≡ number_of (time_kind w)
    unfolding tells is_zoned is_local parted
    undated f =
        let off : is_date (up_to (among (bytes "T")) w) ≡ false = rw at.before at f in
        split (has (bytes "Z+-") (past (among (bytes "T")) w))
        (λ z. sym (told zoned w (rw (p, l, at.mark, z)) ∙ rw off)) (λ z. sym (told local w (rw (p, l, at.mark, z)) ∙ rw off))

    -- with one, what is said of any date is said of it
    pub dated : {n : ℕ} → ((d : List ℕ) → is_date d ≡ true → n ≡ number_of (time_kind (d ++ (byte "T" ∷ clock)))) → is_date day ≡ true → n ≡ number_of (time_kind w)
    dated f e = f day e ∙ ap (λ (x : List ℕ). number_of (time_kind x)) (sym (joined (byte "T") w day clock at))

  module _ (none : HasNone (bytes "T") w) where
    pub clock_told : has (bytes ":") w ≡ true → pick (is_time w) 6 0 ≡ number_of (time_kind w)
    unfolding tells
    clock_told k = sym (told time w (rw (p, l, has_no (bytes "T") w none, k)))

    module _ (k : has (bytes ":") w ≡ false) where
      by_length : tells w ≡ pick (eqb (length w) 10) date (pick (eqb (length w) 7) year_month month_day)
      unfolding tells
      by_length = rw (p, l, has_no (bytes "T") w none, k)

      pub of_ten : length w ≡ 10 → pick (is_date w) 3 0 ≡ number_of (time_kind w)
      of_ten n = sym (told date w (by_length ∙ rw n))

      pub of_seven : length w ≡ 7 → pick (is_year_month w) 4 0 ≡ number_of (time_kind w)
      of_seven n = sym (told year_month w (by_length ∙ rw n))

      pub of_others : (length w ≡ 10 → ⊥) → (length w ≡ 7 → ⊥) → pick (is_month_day w) 5 0 ≡ number_of (time_kind w)
      of_others m n = sym (told month_day w (by_length ∙ rw (ne_eqb (length w) 10 m, ne_eqb (length w) 7 n)))

-- ---- by the first byte

pub duration_told : (w : List ℕ) → 0 < length w → get_or w 0 0 ≡ byte "P" → pick (is_span (drop 1 w)) 7 0 ≡ number_of (time_kind w)
unfolding tells starts_in elem is_duration
duration_told [] h e = absurd (omega arith)
duration_told (b ∷ w) h e = rw e (sym (told duration (byte "P" ∷ w) refl))

pub not_p : (w : List ℕ) → (0 < length w → get_or w 0 0 ≡ byte "P" → ⊥) → starts_in (among (bytes "P")) w ≡ false
unfolding starts_in elem
not_p [] n = refl
not_p (b ∷ w) n = rw (ne_eqb b (byte "P") (n (omega arith)))

pub not_small : (w : List ℕ) → (0 < length w → byte "a" ≤ get_or w 0 0 → get_or w 0 0 ≤ byte "z" → ⊥) → starts_in is_lower w ≡ false
unfolding starts_in is_lower
not_small [] n = refl
not_small (b ∷ w) n = by_range 0x61 0x7A b (λ a z e. absurd (n (omega arith) a z)) (λ e. e)

pub reserved_told : (w : List ℕ) → 0 < length w → byte "a" ≤ get_or w 0 0 → get_or w 0 0 ≤ byte "z" → pick (is_reserved w) 8 0 ≡ number_of (time_kind w)
unfolding tells starts_in is_lower
reserved_told [] h a z = absurd (omega arith)
reserved_told (b ∷ w) h a z = sym (told reserved (b ∷ w) (rw (not_p (b ∷ w) (λ k e. omega (arith, e)), inside 0x61 0x7A b a z)))
