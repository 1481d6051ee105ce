-- A law for each way out, in the paper's order of faults.
use native.Mathlib.Omega.{arith}
use mathlib.Core.Path.{refl, sym, ap, ◌∙◌}
use lib.Seq.{length-take-le}
use Rattle.std.specs.Prelude.{Err}
use Rattle.paper.specs.Answer.{told}
use Rattle.modes.proofs.Chains.{fresh}
use Rattle.text.proofs.Answers.{passes}
use Rattle.rolls.proofs.ListLaws.{roll_long, table_bad, lead_bad, Led, lead_good, sheets_bad, all_found, roll_listed}
use Rattle.rolls.proofs.listing.list.Goals.{In_default}
use Rattle.rolls.proofs.listing.list.Goals as goal

pub returns-then-roll-gt-LIMIT : goal.returns-then-roll-gt-LIMIT
returns-then-roll-gt-LIMIT c = rw c.at.ensures (roll_long _ _ _ _ c.if-roll-gt-LIMIT.true)

pub read_into-requires : goal.read_into-requires
read_into-requires c = fresh

pub returns-in_err-read_into : goal.returns-in_err-read_into
returns-in_err-read_into c =
    rw (passes c.from_residual.ensures.1)
    (table_bad c.args.table.now c.args.roll.now _ _ (omega (arith, c.if-roll-gt-LIMIT.false)) (Err c.in_err-read_into.field-0.0) _ _
    c.in_err-read_into.ensures.answer refl)

pub slice_bounds-read_rest-end : goal.slice_bounds-read_rest-end
slice_bounds-read_rest-end c = sym (length-take-le _ _ c.next_boundary-first.ensures.begins.inside)

pub returns-in-Err : goal.returns-in-Err
returns-in-Err c =
    rw c.at-in-Err.ensures
    (lead_bad c.args.table.now c.args.roll.now _ (omega (arith, c.if-roll-gt-LIMIT.false)) (c.read_into.ensures.indexed _ c.in_ok-read_into.was).valid
    c.next_boundary-first.ensures _ c.read_rest.ensures _ _ c.in-Err.is)

-- what stands before the first sheet is blank
led : (c : In_default) → Led c.args.table.now c.args.roll.now c.args.records.now c.next_boundary-first.result
led c =
    lead_good c.args.table.now c.args.roll.now _ (omega (arith, c.if-roll-gt-LIMIT.false)) (c.read_into.ensures.indexed _ c.in_ok-read_into.was).valid
    c.next_boundary-first.ensures _ c.read_rest.ensures _ c.in_default.is

pub find_sheets-requires : goal.find_sheets-requires
find_sheets-requires c = (
  omega (arith, c.if-roll-gt-LIMIT.false),
  c.next_boundary-first.ensures.begins,
)

pub returns-in_err-found : goal.returns-in_err-found
returns-in_err-found c =
    rw (passes c.from_residual-in_err-found.ensures.1)
    (sheets_bad (led (goal.at.returns-in_err-found c).In_default) (Err c.in_err-found.field-0.0) c.in_err-found.ensures _ _ _ refl)

pub read_sheets-requires : goal.read_sheets-requires
read_sheets-requires c =
    all_found (led (goal.at.read_sheets-requires c).In_default) c.find_sheets.result c.find_sheets.ensures _ _ c.in_ok-found.was

pub returns : goal.returns
returns c =
    roll_listed (led (goal.at.returns c).In_default) c.find_sheets.result c.find_sheets.ensures _ _ c.in_ok-found.was _ c.read_sheets.ensures
