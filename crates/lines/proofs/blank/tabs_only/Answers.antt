-- A law for each way out: a space among the blanks could only have begun a blank line.
use native.Mathlib.Omega.{arith}
use mathlib.Core.Path.{ap}
use Rattle.std.specs.Prelude.{Err}
use Rattle.lines.proofs.Crossing.{says_cut, says_refused, reaches}
use Rattle.lines.proofs.Blanks.{tabs_cut, tabs_space, tabs_found}
use Rattle.lines.proofs.blank.tabs_only.Goals as goal

pub returns-then-mark-s : goal.returns-then-mark-s
returns-then-mark-s c = says_cut _ _ _ _ _ (ap Err c.at.ensures) (tabs_cut _ _ _ c.end-mark.ensures c.if-mark-s.true)

pub returns-then-starts_with : goal.returns-then-starts_with
returns-then-starts_with c =
    says_refused _ _ _ _ _ _ _ (ap Err c.at-then-starts_with.ensures) (omega arith)
    (tabs_space _ _ _ c.end-mark.ensures c.if-mark-s.false _
    c.tab_end-tabs.ensures _ c.starts_with.ensures c.if-starts_with.true)

pub returns : goal.returns
returns c =
    reaches _ _ _ _ (omega arith)
    (tabs_found _ _ _ c.end-mark.ensures c.if-mark-s.false _
    c.tab_end-tabs.ensures _ c.starts_with.ensures c.if-starts_with.false)
