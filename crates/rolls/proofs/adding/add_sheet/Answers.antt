-- By the kind of the first entry. Assumes nothing.
use Prim.Native.Nat.{ℕ, ◌-◌}
use mathlib.Core.Path.{◌≡◌, sym, ap, ◌∙◌}
use native.Mathlib.Omega.{arith}
use Rattle.paper.specs.Entries.{Entry}
use Rattle.paper.specs.Writing.{not_written}
use Rattle.entries.specs.Laid.{entry_at}
use Rattle.rolls.proofs.AddLaws.{mark_before, add_noted, add_bare}
use Rattle.rolls.proofs.adding.add_sheet.Goals.{Then-first-number}
use Rattle.rolls.proofs.adding.add_sheet.Goals as goal

-- the first entry is an annotation's
noted : (c : Then-first-number) → (entry_at c.args.cells.now 0).kind ≡ 4
noted c = sym (ap (λ (x : Entry). x.kind) c.get-first.ensures) ∙ c.if-first-number.true ∙ c.number.ensures

pub overflow_sub-first : goal.overflow_sub-first
overflow_sub-first c =
    omega (
      arith,
      mark_before _ _ c.requires.it c.requires.of (noted (goal.at.overflow_sub-first c).Then-first-number),
      ap (λ (x : Entry). x.start) c.get-first.ensures,
    )

pub returns-then-first-number : goal.returns-then-first-number
returns-then-first-number c =
    λ t lent of. rw c.at.ensures
    (ap (λ (x : Entry). not_written lent c.args.roll.now 16 (x.start - 1)) c.get-first.ensures
    ∙ add_noted _ _ t of lent _ _ (noted (goal.at.returns-then-first-number c).Then-first-number))

pub returns : goal.returns
returns c =
    λ t lent of. c.add_form.ensures t lent of
    ∙ add_bare _ _ t of lent _ _ (λ k. c.if-first-number.false (ap (λ (x : Entry). x.kind) c.get-first.ensures ∙ k ∙ sym c.number.ensures))
