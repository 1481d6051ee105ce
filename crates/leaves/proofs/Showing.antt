-- Answers and what the paper reads: an answer from a reading, a reading from an answer, and a refusal passed on.
-- Over plain lists. Assumes nothing.
use Prim.Native.Nat.{ℕ, ◌≤◌, ◌<◌}
use mathlib.Core.Path.{◌≡◌, sym, ap, ◌∙◌}
use mathlib.Core.List.{List, []}
use native.Mathlib.Omega.{arith}
use lib.ListN.{length, drop}
use Rattle.std.specs.Prelude.{Result, Ok, Err}
use Rattle.paper.specs.declared.Refused.{Refused}
use Rattle.paper.specs.declared.Refusal.TheVariants.{Value, Cut}
use Rattle.paper.specs.Answer.{number_of, refused_at}
use Rattle.paper.specs.Found.{Found, found, fault}
use Rattle.paper.proofs.Finds.{Reads}
use Rattle.text.proofs.Places.{place_back}
use Rattle.text.proofs.Answers.{Tells, FoundTo, found_to, FaultAt, fault_to}
use Rattle.leaves.specs.Shown.{Shown, refused_at as refused_shown, shown, shown_of, Answers}

-- ---- an answer from a reading

module _ {A T : Type 0} {form_of end_of : T → ℕ} (form : A → ℕ) (s : List ℕ) (at : ℕ) (x : Found A) where
  pub finds : (v : T) (a : A) → at < end_of v → end_of v ≤ length s → form a ≡ form_of v → x ≡ found a (drop (end_of v) s)
      → Answers form_of end_of form s at x (Ok v)
  finds v a h k g e =
      record {
        same = rw (e, g, place_back s (end_of v) k);
        ahead = λ w q. let p : v ≡ w = cc in let b : (at < end_of v) × (end_of v ≤ length s) = (h, k) in rw p at b;
        inside = λ w q. let z : ◌≡◌ {A = ℕ} 0 1 = cc in absurd (omega arith);
      }

  pub refuses : (e : Refused) → e.place ≤ length s → refused_shown (number_of e.refusal) e.place ≡ shown_of form s x → Answers form_of end_of form s at x (Err e)
  refuses e h q =
      record {
        same = q;
        ahead = λ v p. let z : ◌≡◌ {A = ℕ} 0 1 = cc in absurd (omega arith);
        inside = λ w p. let n : e ≡ w = cc in rw n at h;
      }

  -- no value kind fits, at a place
  pub no_value : (e : Refused) (place : ℕ) → e ≡ refused_at Value place → place ≤ length s → x ≡ fault 6 (drop place s) → Answers form_of end_of form s at x (Err e)
  no_value e place q h y = rw q (refuses (refused_at Value place) h (rw (y, place_back s place h)))

  -- the end of input cuts it
  pub cut_off : (e : Refused) → e ≡ refused_at Cut (length s) → x ≡ fault 9 [] → Answers form_of end_of form s at x (Err e)
  cut_off e q y = rw q (refuses (refused_at Cut (length s)) (omega arith) (rw y (ap (refused_shown 9) (omega arith))))

-- ---- a reading from an answer

module _ {A T : Type 0} {form_of end_of : T → ℕ} {form : A → ℕ} {s : List ℕ} {at : ℕ} {x : Found A} {r : Result T Refused}
    (e : Answers form_of end_of form s at x r) where
  -- the number and the place of an answer are those of what is found
  tells : (y : Result T Refused) → r ≡ y → Tells s x (shown form_of end_of y).number (shown form_of end_of y).place
  tells y q = go x (ap (shown form_of end_of) (sym q) ∙ e.same)
    where
      go : (x : Found A) → shown form_of end_of y ≡ shown_of form s x → Tells s x (shown form_of end_of y).number (shown form_of end_of y).place
      go (found a left) k = (ap (λ (y : Shown). y.number) k, ap (λ (y : Shown). y.place) k)
      go (fault n left) k = (ap (λ (y : Shown). y.number) k, ap (λ (y : Shown). y.place) k)

  pub stands : (P : A → List ℕ → Type 0) → Reads (drop at s) P x → (v : T) → r ≡ Ok v → FoundTo P s at x (end_of v)
  stands P h v q = found_to P s at x (end_of v) (tells (Ok v) q) h (omega (arith, e.ahead v q))

  pub fails : (w : Refused) → r ≡ Err w → FaultAt s x w.refusal w.place
  fails w q = fault_to s x w.refusal w.place (tells (Err w) q)

  -- what keeps the faults of an inner reading has its refusal as it stands
  pub passes : {B U : Type 0} {form_to end_to : U → ℕ} (outer : B → ℕ) (from : ℕ) (y : Found B) (w : Refused) → r ≡ Err w
      → ((left : List ℕ) → x ≡ fault (number_of w.refusal) left → y ≡ fault (number_of w.refusal) left) → Answers form_to end_to outer s from y (Err w)
  passes outer from y w q keeps =
      let f = fails w q in
      refuses outer s from y w (e.inside w q) (ap (shown form_of end_of) (sym q) ∙ e.same ∙ rw (f.faults, keeps f.left f.faults))

-- a reading that sees the same from further on
pub moved : {A T : Type 0} {form_of end_of : T → ℕ} {form : A → ℕ} {s : List ℕ} {next : ℕ} {y : Found A} {r : Result T Refused}
    → Answers form_of end_of form s next y r → (at : ℕ) (x : Found A) → at ≤ next → shown_of form s y ≡ shown_of form s x → Answers form_of end_of form s at x r
moved e at x h q = record { same = e.same ∙ q; ahead = λ v p. omega (arith, e.ahead v p); inside = e.inside }
