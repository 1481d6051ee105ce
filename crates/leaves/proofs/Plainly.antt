-- Strings over a run of bytes that stand for themselves. Assumes nothing.
-- Document 01, "The grammar", Values, and "Canonical form".
use Prim.Native.Nat.{ℕ, zero, suc, ◌+◌, ◌≤◌, ◌<◌}
use mathlib.Core.Path.{◌≡◌, sym, ap, ◌∙◌}
use mathlib.Core.List.{List}
use mathlib.Core.Logic.{⊎_elim}
use native.Mathlib.Omega.{arith}
use native.Mathlib.Nat.{add-zero}
use lib.ListN.{length, get_or, drop}
use Rattle.std.specs.Prelude.{Result}
use Rattle.paper.specs.declared.Refused.{Refused}
use Rattle.paper.specs.Bytes.{byte, length_in}
use Rattle.paper.specs.Values.{leaf_form}
use Rattle.paper.proofs.Tests.{split, true_false}
use Rattle.text.proofs.Stretch.{Stretch, goes_on, stops}
use Rattle.leaves.specs.declared.judged.Judged.{Judged}
use Rattle.leaves.specs.Shown.{Judges, string_of}
use Rattle.leaves.specs.Plain.{is_plain}
use Rattle.leaves.proofs.Quotes.{string_itself}

-- ---- strings

-- what reads a string behind a run of such bytes reads it from their first on
module _ (s : List ℕ) {r : Result Judged Refused} where
  over : (n i : ℕ) → n ≤ length_in (is_plain (byte "\"")) (drop i s) → i + n ≤ length s → Judges leaf_form s (i + n) (string_of (drop (i + n) s)) r
      → Judges leaf_form s i (string_of (drop i s)) r
  over zero i h k e = rw add-zero at e
  over (suc n) i h k e =
      let class = is_plain (byte "\"") in
      let inside : i < length s = omega arith in
      let far : i + suc n ≡ i + 1 + n = omega arith in
      split (class (get_or s i 0))
      (λ p. string_itself s i inside (λ q. true_false (sym p ∙ ap class q)) (λ q. true_false (sym p ∙ ap class q))
      (λ l. ⊎_elim (λ q. true_false (sym p ∙ ap class q)) (λ q. true_false (sym p ∙ ap class q)) l)
      (over n (i + 1) (omega (arith, goes_on class s i inside p)) (omega arith) (rw far at e)))
      (λ p. absurd (omega (arith, stops class s i inside p)))

  pub string_plain : (i end : ℕ) → Stretch (is_plain (byte "\"")) s i end → Judges leaf_form s end (string_of (drop end s)) r
      → Judges leaf_form s i (string_of (drop i s)) r
  string_plain i end run e =
      let n = length_in (is_plain (byte "\"")) (drop i s) in
      over n i (omega arith) (omega (arith, run.0, run.2)) (rw run.0 at e)
