-- A law for each way out: "<" and the name, or what follows them.
use mathlib.Core.Path.{refl, ap}
use Rattle.text.proofs.Answers.{passes}
use Rattle.sheets.specs.Opening.{part_of}
use Rattle.sheets.proofs.TraitRuns.{refused_names}
use Rattle.sheets.proofs.OpeningLaws.{name_ends, head_refused, head_read}
use Rattle.sheets.proofs.opening.read_opening.Goals as goal

pub read_named-requires : goal.read_named-requires
read_named-requires c =
    let name = name_ends c.requires.0 c.in_ok-to.ensures in
    (name.0, name.1, c.requires.1, c.requires.2)

pub returns-in_err-to : goal.returns-in_err-to
returns-in_err-to c =
    let e = passes c.from_residual.ensures.1 in
    (head_refused c.requires.0 _ c.requires.1 _ _ c.in_err-to.ensures e, refused_names (ap part_of e))

pub returns : goal.returns
returns c = (
  head_read c.requires.0 _ c.requires.1 _ c.in_ok-to.ensures c.read_named.ensures.0,
  c.read_named.ensures.1,
)
