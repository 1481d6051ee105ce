-- A law for each way out: the blank lines, the tabs, the root, and what stands behind it.
use mathlib.Core.Path.{refl}
use native.Mathlib.Omega.{arith}
use Rattle.text.proofs.Answers.{passes}
use Rattle.modes.specs.Table.{modes_of}
use Rattle.sheets.proofs.SheetLaws.{blanks_inside, before_refused, tabs_refused, Led, tabs_led, root_stands, root_refused, RootAt, root_read, rest_refused, tree_read}
use Rattle.sheets.proofs.read_tree.Goals.{In_ok-tabs_only, In_ok-root}
use Rattle.sheets.proofs.read_tree.Goals as goal

-- what leads to the root
leads : (c : In_ok-tabs_only) → let start = c.args in Led (modes_of start.modes.now.table.now) start.s.now start.cells.now c.in_ok-first.first
leads c = tabs_led _ _ _ _ c.in_ok-first.ensures _ c.in_ok-tabs_only.ensures

-- the root
reads : (c : In_ok-root) → let start = c.args in let root = c.in_ok-root.root in Led (modes_of start.modes.now.table.now) start.s.now start.cells.now c.in_ok-first.first
    → RootAt (modes_of start.modes.now.table.now) start.s.now start.cells.now root.end root.made root.own c.read_root.new.cells
reads c l = root_read _ _ _ _ l _ _ c.new.ensures c.room.ensures _ _ c.in_ok-root.ensures _ refl

pub returns-in_err-first : goal.returns-in_err-first
returns-in_err-first c = before_refused _ _ _ _ c.in_err-first.ensures (passes c.from_residual.ensures.1) _

pub tabs_only-requires : goal.tabs_only-requires
tabs_only-requires c = blanks_inside c.args.s.now 0 (omega arith) _ c.in_ok-first.ensures

pub returns-in_err-tabs_only : goal.returns-in_err-tabs_only
returns-in_err-tabs_only c =
    tabs_refused _ _ _ _ c.in_ok-first.ensures _ c.in_err-tabs_only.ensures (passes c.from_residual-in_err-tabs_only.ensures.1) _

pub read_root-requires : goal.read_root-requires
read_root-requires c = root_stands _ _ _ _ c.requires (leads (goal.at.read_root-requires c).In_ok-tabs_only).inside c.room.ensures

pub returns-in_err-root : goal.returns-in_err-root
returns-in_err-root c =
    root_refused _ _ _ _ (leads (goal.at.returns-in_err-root c).In_ok-tabs_only) _ _ c.new.ensures
    c.room.ensures _ _ c.in_err-root.ensures _ refl (passes c.from_residual-in_err-root.ensures.1)

pub read_rest-requires : goal.read_rest-requires
read_rest-requires c =
    let at = goal.at.read_rest-requires c in
    (reads at.In_ok-root (leads at.In_ok-tabs_only)).inside

pub returns-in_err-end : goal.returns-in_err-end
returns-in_err-end c =
    let at = goal.at.returns-in_err-end c in
    rest_refused _ _ _ _ _ _ _ (reads at.In_ok-root (leads at.In_ok-tabs_only)) _ c.in_err-end.ensures (passes c.from_residual-in_err-end.ensures.1)

pub returns : goal.returns
returns c =
    let at = goal.at.returns c in
    tree_read _ _ _ _ _ _ _ (reads at.In_ok-root (leads at.In_ok-tabs_only)) _ c.in_ok-end.ensures
