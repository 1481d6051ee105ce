-- The table, then the sheet under it: what follows the entries is zero, and a refusal has none.
use Prim.Native.Nat.{◌*◌, ◌≤◌}
use mathlib.Core.Path.{◌≡◌, refl, ap}
use mathlib.Core.Logic.{inr}
use native.Mathlib.Omega.{arith}
use lib.ListN.{length}
use Rattle.paper.specs.declared.Told.{Told}
use Rattle.paper.specs.Answer.{told}
use Rattle.modes.proofs.Chains.{fresh}
use Rattle.sheets.proofs.SheetLaws.{Answered, not_accepted, answered_fits, answered_done}
use Rattle.sheets.proofs.read.Goals.{After-from, in-Ok, in_default}
use Rattle.sheets.proofs.read.Goals as goal

answered : (c : After-from) → Answered c.args.table.now c.args.sheet.now c.args.cells.now c.match-read_into.answer c.match-read_into.cells
answered c =
    elim c.match-read_into.branch [
      | in-Ok w ↦ rw (w.answer-is, w.cells-is) (inr ((w.in-Ok.ensures.indexed _ refl).valid, w.read_under-answer.ensures, w.read_under-answer.auto.cells))
      | in_default w ↦ not_accepted _ _ _ _ _ _ w.in_default.not-Ok c.read_into.ensures.answer w.answer-is w.cells-is
    ]

count : (c : After-from) → c.from.result.count ≡ (told c.match-read_into.answer).count
count c = ap (λ (t : Told). t.count) c.from.ensures

pub read_into-requires : goal.read_into-requires
read_into-requires c = fresh

pub overflow_mul-from : goal.overflow_mul-from
overflow_mul-from c =
    let at = (goal.at.overflow_mul-from c).After-from in
    omega (arith, answered_fits _ _ _ (answered at) (count at))

pub zero_from-requires : goal.zero_from-requires
zero_from-requires c =
    let at = (goal.at.zero_from-requires c).After-from in
    answered_fits _ _ _ (answered at) (count at)

pub returns : goal.returns
returns c =
    let at = (goal.at.returns c).After-from in
    answered_done _ _ _ (answered at) (count at) c.zero_from.ensures
