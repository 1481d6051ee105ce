-- One level deeper: what opening one more says of how many are left. Assumes nothing.
use Prim.Native.Nat.{ℕ, suc, ◌-◌}
use mathlib.Core.Path.{◌≡◌, sym, ap, ◌∙◌}
use native.Mathlib.Omega.{arith}
use lib.Dec.{eqb}
use borrow.Author.Tests.{eqb-true, eqb-false}
use Rattle.std.specs.Prelude.{Option, None, Some}
use Rattle.paper.proofs.Tests.{split}
use Rattle.text.specs.declared.nesting.Nesting.{Nesting}
use Rattle.text.specs.Deeper.{one_deeper}

module _ (d : Option Nesting) (left : ℕ) (e : d ≡ one_deeper left) where
  -- one was left at least
  pub one_less : (n : Nesting) → d ≡ Some n → left ≡ suc n.left
  one_less n q =
      split (eqb left 0)
      (λ z. let w : Some n ≡ None = sym q ∙ e ∙ rw z in
      let y : ◌≡◌ {A = ℕ} 0 1 = cc in
      absurd (omega arith))
      (λ z. let w : Some n ≡ Some (record { left = left - 1 }) = sym q ∙ e ∙ rw z in
      let m : n ≡ record { left = left - 1 } = cc in
      let k : n.left ≡ left - 1 = ap (λ (x : Nesting). x.left) m in
      omega (arith, eqb-false left 0 z))

  -- none was left
  pub no_less : d ≡ None → left ≡ 0
  no_less q =
      split (eqb left 0) (λ z. eqb-true left 0 z)
      (λ z. let w : None ≡ Some (record { left = left - 1 }) = sym q ∙ e ∙ rw z in
      let y : ◌≡◌ {A = ℕ} 0 1 = cc in
      absurd (omega arith))
