-- A law for each way out: the value, the room for the trait, the room for its items.
use Prim.Native.Nat.{◌+◌}
use mathlib.Core.Path.{refl, ap}
use Rattle.text.proofs.Answers.{passes}
use Rattle.std.specs.Prelude.{Err}
use Rattle.sheets.proofs.TraitLaws.{ValueAt, value_at, trait_full, items_full, trait_made}
use Rattle.sheets.proofs.traits.enter_trait.Goals.{In_ok-value}
use Rattle.sheets.proofs.traits.enter_trait.Goals as goal

value : (c : In_ok-value) → ValueAt c.args.s.now (c.args.to + 1)
value c = value_at c.in_ok-value.ensures

pub returns-then-is_full : goal.returns-then-is_full
returns-then-is_full c =
    λ white w n. trait_full c.requires.0 c.requires.2 c.requires.1 white w (value (goal.at.returns-then-is_full c).In_ok-value) c.is_full.ensures c.if-is_full.true
    (ap Err c.at.ensures)

pub returns-in_err-entered : goal.returns-in_err-entered
returns-in_err-entered c =
    λ white w n. items_full c.requires.0 c.requires.2 c.requires.1 white w (value (goal.at.returns-in_err-entered c).In_ok-value) c.is_full.ensures
    c.if-is_full.false c.under.ensures c.in_err-entered.ensures.entered.1 refl (passes c.from_residual-in_err-entered.ensures.1)

pub returns : goal.returns
returns c =
    λ white w n. trait_made c.requires.0 c.requires.2 c.requires.1 white w (value (goal.at.returns c).In_ok-value) c.is_full.ensures
    c.if-is_full.false c.under.ensures c.in_ok-entered.ensures.entered.1 n refl (rw (c.number.ensures, c.number-2.ensures) at c.put.ensures) refl
