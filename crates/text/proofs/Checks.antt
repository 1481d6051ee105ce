-- What may stand, and the check of a whole sheet from a place on: a law for each way on or out of its loop. Assumes nothing.
-- Document 01, "The grammar", Bytes, and refusal 3.
use Prim.Native.Nat.{ℕ, ◌+◌, ◌<◌, ◌≤◌}
use mathlib.Core.Path.{◌≡◌, refl, sym, ap, ◌∙◌}
use mathlib.Core.Bool.{Bool, true, false}
use mathlib.Core.List.{List, [], ◌∷◌}
use native.Mathlib.Omega.{arith}
use lib.ListN.{length, get_or, drop, length-drop}
use borrow.Author.Tests.{ne_eqb, le-leb, lt-leb}
use Rattle.std.specs.Prelude.{Ok, Err}
use Rattle.paper.specs.Found.{Found, found, fault, and_then}
use Rattle.paper.specs.Bytes.{tab, lf, cr, starts_with, scalar, may_stand, scalars, byte_order_mark, sheet_bytes}
use Rattle.paper.proofs.Tests.{up_to}
use Rattle.paper.proofs.Scalars.{row_one, scalars_nil, scalars_broken, scalars_stop, scalars_on, scalars_fuel}
use Rattle.text.specs.declared.utf8.Cursor.{Cursor}
use Rattle.text.specs.declared.utf8.Step.{Step}
use Rattle.text.specs.Steps.{step_at, broken, checked_of, checked, checked_at, Plain}
use Rattle.text.proofs.Places.{here}
use Rattle.text.proofs.Stretch.{all_over}
use Rattle.text.proofs.Steps.{Stepped, step_end, step_one, ended, failed, stepped}

-- ---- what may stand

module _ (v : ℕ) (left : List ℕ) where
  pub stand_cr : (b : Bool) → v ≡ cr → b ≡ starts_with (lf ∷ []) left → b ≡ may_stand v left
  unfolding may_stand
  stand_cr b e f = rw e f

  pub stand_delete : v ≡ 0x7F → false ≡ may_stand v left
  unfolding may_stand
  stand_delete e = rw e

  pub stand_tab_lf : tab ≤ v → v ≤ lf → true ≡ may_stand v left
  unfolding may_stand
  stand_tab_lf l h =
      up_to v tab (λ k. let e : v ≡ tab = omega arith in rw e) (λ k. let e : v ≡ lf = omega arith in rw e)

  pub stand_control : v < 0x20 → (v ≡ tab → ⊥) → (v ≡ lf → ⊥) → (v ≡ cr → ⊥) → false ≡ may_stand v left
  unfolding may_stand
  stand_control h t l c = rw (ne_eqb v cr c, ne_eqb v tab t, ne_eqb v lf l, lt-leb 0x20 v h)

  pub stand_other : 0x20 ≤ v → (v ≡ 0x7F → ⊥) → true ≡ may_stand v left
  unfolding may_stand
  stand_other h d = rw (ne_eqb v cr (omega arith), ne_eqb v tab (omega arith), ne_eqb v lf (omega arith), le-leb 0x20 v h, ne_eqb v 0x7F d)

-- ---- the check from a place on

-- a place does not see the values that were found before it
more_values : (s : List ℕ) (v : ℕ) (x : Found (List ℕ)) → checked_of s (and_then x (λ vs q. found (v ∷ vs) q)) ≡ checked_of s x
more_values s v (found vs q) = refl
more_values s v (fault n q) = refl

-- a byte order mark in front, and none
pub check_mark : (s : List ℕ) → starts_with byte_order_mark s ≡ true → Err (broken 0) ≡ checked s
unfolding sheet_bytes
check_mark s e = rw (e, sheet_bytes) (ap (λ (k : ℕ). Err (broken k)) (omega arith))

pub check_start : (s : List ℕ) (at : ℕ) → at ≡ 0 → starts_with byte_order_mark s ≡ false → checked_at s at ≡ checked s
unfolding sheet_bytes
check_start s at n e = rw (n, e, sheet_bytes)

-- the check, by what the step answers
module _ (s : List ℕ) (at : ℕ) where
  pub check_end : Step.End ≡ step_at s at → Ok tt ≡ checked_at s at
  check_end e = rw (ended s at e, scalars_nil 0)

  pub check_broken : Step.Broken ≡ step_at s at → Err (broken at) ≡ checked_at s at
  check_broken e =
      let f = failed s at e in
      let l = drop (at + 1) s in
      let r : scalar (get_or s at 0 ∷ l) ≡ fault f.number f.left = rw (here s at f.inside) at f.reads in
      rw (here s at f.inside, scalars_broken (length l) (get_or s at 0) l f.number f.left r) (ap (λ (k : ℕ). Err (broken k)) (omega (arith, length-drop (at + 1) s)))

  module _ (v next : ℕ) (f : Stepped s at v next) where
    inside_here : at < length s
    inside_here = omega arith

    reads_here : scalar (get_or s at 0 ∷ drop (at + 1) s) ≡ found v (drop next s)
    reads_here = rw (here s at inside_here) at f.reads

    pub check_stop : may_stand v (drop next s) ≡ false → Err (broken at) ≡ checked_at s at
    check_stop m =
        rw (here s at inside_here, scalars_stop (length (drop (at + 1) s)) (get_or s at 0) (drop (at + 1) s) v (drop next s) reads_here m)
        (ap (λ (k : ℕ). Err (broken k)) (omega (arith, length-drop (at + 1) s)))

    pub check_on : may_stand v (drop next s) ≡ true → checked_at s next ≡ checked_at s at
    check_on m =
        rw (
          here s at inside_here,
          scalars_on (length (drop (at + 1) s)) (get_or s at 0) (drop (at + 1) s) v (drop next s) reads_here m,
          more_values s v (scalars (length (drop (at + 1) s)) (drop next s)),
        )
        (ap (checked_of s)
        (scalars_fuel (length (drop next s)) (length (drop (at + 1) s)) (drop next s) (omega arith)
        (omega (arith, length-drop (at + 1) s, length-drop next s))))

-- ---- plain bytes and walks

pub plain_tab_lf : (b : ℕ) → tab ≤ b → b ≤ lf → Plain b
plain_tab_lf b l h = (omega arith, λ left. sym (stand_tab_lf b left l h))

pub plain_printing : (b : ℕ) → 0x20 ≤ b → b ≤ 0x7E → Plain b
plain_printing b l h = (omega arith, λ left. sym (stand_other b left l (omega arith)))

-- behind a plain byte the check goes on
pub plain_on : (s : List ℕ) (at : ℕ) → at < length s → Plain (get_or s at 0) → checked_at s (at + 1) ≡ checked_at s at
plain_on s at h p =
    check_on s at (get_or s at 0) (at + 1) (stepped s at (get_or s at 0) (record { at = at + 1 }) (step_one s at h (row_one (get_or s at 0) p.0) refl))
    (p.1 (drop (at + 1) s))

pub plain_all : (s : List ℕ) {at end : ℕ} → at ≤ end → ((i : ℕ) → at ≤ i → i < end → Plain (get_or s i 0)) → end ≤ length s
    → checked_at s end ≡ checked_at s at
plain_all s {at} {end} ahead each h =
    all_over (λ i. checked_at s i ≡ checked_at s at) (record { ahead = ahead; each = each }) (λ i l m p so_far. plain_on s i (omega arith) p ∙ so_far) refl

-- at the end it has found nothing
pub check_out : (s : List ℕ) (at : ℕ) → length s ≤ at → Ok tt ≡ checked_at s at
check_out s at h = check_end s at (step_end s at h)

-- inside a list a step that finds no value fails
pub check_none : (s : List ℕ) (at : ℕ) (x : Step) → at < length s → x ≡ step_at s at → ((v : ℕ) (next : Cursor) → x ≡ Step.Scalar v next → ⊥)
    → Err (broken at) ≡ checked_at s at
check_none s at (Step.Scalar v next) h e none = absurd (none v next refl)
check_none s at Step.Broken h e none = check_broken s at e
check_none s at Step.End h e none = absurd (omega (arith, length-drop at s, ap length (ended s at e)))
