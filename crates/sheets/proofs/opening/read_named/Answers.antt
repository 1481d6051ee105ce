-- A law for each way out: the nesting, the table, and what follows a name that is admitted.
use Prim.Native.Nat.{suc}
use mathlib.Core.Path.{◌≡◌, ap}
use Rattle.std.specs.Prelude.{Err}
use Rattle.text.proofs.Deepening.{one_less, no_less}
use Rattle.paper.specs.Forms.{number_of_body}
use Rattle.sheets.specs.Opening.{part_of}
use Rattle.sheets.proofs.TraitRuns.{refused_names}
use Rattle.sheets.proofs.OpeningLaws.{in_children, in_content, too_deep, unlisted, listed}
use Rattle.sheets.proofs.opening.read_named.Goals.{In-Some, in-Children, in-Content}
use Rattle.sheets.proofs.opening.read_named.Goals as goal

-- one fewer may be opened inside
fewer : (c : In-Some) → c.args.nesting.left ≡ suc c.in-Some.inside.left
fewer c = one_less _ _ c.step.ensures _ c.in-Some.is

pub returns-in_default : goal.returns-in_default
returns-in_default c =
    let e = ap Err c.at.ensures in
    (too_deep _ c.requires.0 c.requires.1 c.requires.2 _ (no_less _ _ c.step.ensures c.in_default.is) e, refused_names (ap part_of e))

pub returns-in-Absent : goal.returns-in-Absent
returns-in-Absent c =
    let e = ap Err c.at-in-Absent.ensures in (
      unlisted _ c.requires.0 c.requires.1 c.requires.2 _ (fewer (goal.at.returns-in-Absent c).In-Some) c.in-Absent.ensures e,
      refused_names (ap part_of e),
    )

pub returns : goal.returns
returns c = (
  listed _ c.requires.0 c.requires.1 c.requires.2 _ (fewer (goal.at.returns c).In-Some)
      (elim c.match-mode_of.branch [
        | in-Children w ↦ in_children _ _ w.in-Children.ensures (ap number_of_body w.block-is)
        | in-Content w ↦ in_content _ _ w.in-Content.ensures (ap number_of_body w.block-is)
      ])
      c.read_marker.ensures.0,
  c.read_marker.ensures.1,
)
