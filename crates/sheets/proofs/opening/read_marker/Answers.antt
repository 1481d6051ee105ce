-- A law for each way out: the room, the traits, the ending.
use Prim.Native.Nat.{◌+◌}
use mathlib.Core.Path.{refl, ap}
use native.Mathlib.Omega.{arith}
use Rattle.text.proofs.Answers.{passes}
use Rattle.std.specs.Prelude.{Ok, Err}
use Rattle.paper.specs.Forms.{number_of_body}
use Rattle.paper.specs.Tree.{block, self}
use Rattle.entries.proofs.Slots.{fits_under}
use Rattle.sheets.specs.Traits.{NamesBefore}
use Rattle.sheets.specs.Opening.{part_of}
use Rattle.sheets.proofs.NameIndex.{names_on}
use Rattle.sheets.proofs.TraitRuns.{refused_names}
use Rattle.sheets.proofs.OpeningLaws.{traits_inside, no_room, traits_refused, TraitsAt, marker_traits, ending_refused, marker_read, marker_names}
use Rattle.sheets.proofs.opening.read_marker.Goals.{After-end}
use Rattle.sheets.proofs.opening.read_marker.Goals as goal

-- the marker up to its ending
traits : (c : After-end) → let start = c.args in
    TraitsAt start.s.now start.start start.to start.cells.now start.slot c.read_traits.new.cells c.end.result c.in_ok-traits.traits.made c.in_ok-traits.traits.own
traits c =
    marker_traits c.requires.0 c.requires.2 c.requires.1 (number_of_body c.args.block) c.is_full.ensures c.if-is_full.false
    c.under.ensures c.in_ok-traits.ensures.0 refl c.end.ensures

-- every start in the index of names lies before the ending
lies : (c : After-end) → NamesBefore c.args.s.now (c.end.result + 1) c.read_traits.new.names
lies c = names_on (c.in_ok-traits.ensures.1 _ refl) (omega (arith, c.end.ensures.1))

pub returns-then-is_full : goal.returns-then-is_full
returns-then-is_full c =
    let e = ap Err c.at.ensures in
    (no_room c.requires.0 c.requires.2 c.requires.1 _ c.is_full.ensures c.if-is_full.true e, refused_names (ap part_of e))

pub read_traits-requires : goal.read_traits-requires
read_traits-requires c = (
  c.requires.0,
  fits_under c.requires.2 c.is_full.ensures c.if-is_full.false c.under.ensures,
  names_on c.requires.3 c.requires.1,
)

pub returns-in_err-traits : goal.returns-in_err-traits
returns-in_err-traits c =
    let e = passes c.from_residual.ensures.1 in (
      traits_refused c.requires.0 c.requires.2 c.requires.1 _ c.is_full.ensures c.if-is_full.false c.under.ensures c.in_err-traits.ensures.0 refl e,
      refused_names (ap part_of e),
    )

pub end-requires : goal.end-requires
end-requires c = traits_inside c.requires.0 c.requires.2 _ c.in_ok-traits.ensures.0 refl

pub returns-in_err-end : goal.returns-in_err-end
returns-in_err-end c =
    let e = passes c.from_residual-in_err-end.ensures.1 in
    (ending_refused (traits (goal.at.returns-in_err-end c).After-end) _ _ c.in_err-end.ensures refl e, refused_names (ap part_of e))

pub returns-in-Closed : goal.returns-in-Closed
returns-in-Closed c =
    let at-end = (goal.at.returns-in-Closed c).After-end in
    let is = ap Ok c.in-Closed.is in (
      marker_read (traits at-end) _ _ c.in_ok-end.ensures self is refl refl,
      marker_names (lies at-end) c.end.ensures.2 _ c.in_ok-end.ensures self is refl,
    )

pub returns-in-Block : goal.returns-in-Block
returns-in-Block c =
    let at-end = (goal.at.returns-in-Block c).After-end in
    let is = ap Ok c.in-Block.is in (
      marker_read (traits at-end) _ _ c.in_ok-end.ensures block is refl refl,
      marker_names (lies at-end) c.end.ensures.2 _ c.in_ok-end.ensures block is refl,
    )
