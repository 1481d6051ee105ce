-- A law for each way out: the name, one that stands earlier, the "=", and what is entered behind it.
use Prim.Native.Nat.{◌<◌}
use mathlib.Core.Path.{refl, ap}
use native.Mathlib.Omega.{arith}
use lib.ListN.{length}
use Rattle.text.proofs.Answers.{passes}
use Rattle.std.specs.Prelude.{Ok, Err}
use Rattle.paper.specs.Bytes.{byte}
use Rattle.paper.specs.Names.{is_trait_name}
use Rattle.lines.proofs.ReadAt.{DueAt, due_at, NameAt, name_at_lem}
use Rattle.earlier.proofs.Ways.{cell_in}
use Rattle.earlier.proofs.Listing.{listed_again}
use Rattle.sheets.proofs.TraitLaws.{behind_equals, no_name, name_twice, no_equals, trait_entered}
use Rattle.sheets.proofs.TraitNames.{may_seek, still_before, refused_named, new_named}
use Rattle.sheets.proofs.traits.read_trait.Goals.{In_ok-to, In-Some, In_ok-byte_due}
use Rattle.sheets.proofs.traits.read_trait.Goals as goal

-- the name
named : (c : In_ok-to) → NameAt is_trait_name c.args.s.now c.args.at c.in_ok-to.to
named c = name_at_lem _ _ _ (Ok c.in_ok-to.to) _ c.requires.0.inside c.in_ok-to.ensures refl

-- the index has cells, and a cell that is free takes the name
some : (c : In_ok-to) → 0 < length c.args.names.now
some c = omega (arith, c.requires.4)

inside : (c : In-Some) → c.in-Some.cell < length c.args.names.now
inside c = cell_in _ _ _ _ (omega (arith, c.requires.4)) _ c.in-Some.ensures.0

-- the "=" behind it
equals : (c : In_ok-byte_due) → NameAt is_trait_name c.args.s.now c.args.at c.in_ok-to.to → DueAt (byte "=") c.args.s.now c.in_ok-to.to c.in_ok-byte_due.field-0
equals c n = due_at _ _ _ (Ok c.in_ok-byte_due.field-0) _ n.inside c.in_ok-byte_due.ensures refl

pub returns-in_err-to : goal.returns-in_err-to
returns-in_err-to c =
    let e = passes c.from_residual.ensures.1 in
    refused_named c.requires.2 c.requires.3 e (still_before c.requires.2 c.requires.3)
    (λ names l white. no_name c.requires.0 c.requires.1 names white _ c.in_err-to.ensures e)

pub slice_bounds-seek-count : goal.slice_bounds-seek-count
slice_bounds-seek-count c = (named c).ahead

pub slice_bounds-seek-start : goal.slice_bounds-seek-start
slice_bounds-seek-start c = (named c).ahead

pub seek-requires : goal.seek-requires
seek-requires c =
    may_seek c.requires.2 c.requires.3 c.requires.4 (named (goal.at.seek-requires c).In_ok-to) c.run_at-run.ensures

pub returns-in_default : goal.returns-in_default
returns-in_default c =
    let at-name = (goal.at.returns-in_default c).In_ok-to in
    let e = ap Err c.at.ensures in
    refused_named c.requires.2 c.requires.3 e (still_before c.requires.2 c.requires.3)
    (λ names l white. name_twice c.requires.0 c.requires.1 names white (named at-name) (listed_again l (some at-name) c.in_default.ensures) e)

pub offset_bounds-names-cell : goal.offset_bounds-names-cell
offset_bounds-names-cell c = omega (arith, inside c, c.requires.2.short)

pub bounds-names-cell : goal.bounds-names-cell
bounds-names-cell c = inside c

pub returns-in_err-byte_due : goal.returns-in_err-byte_due
returns-in_err-byte_due c =
    let at-name = (goal.at.returns-in_err-byte_due c).In_ok-to in
    new_named c.requires.2 c.requires.3 (named at-name) (some at-name) c.in-Some.ensures
    (λ names f white. no_equals c.requires.0 c.requires.1 names white (named at-name) f _ c.in_err-byte_due.ensures
    (passes c.from_residual-in_err-byte_due.ensures.1))

pub enter_trait-requires : goal.enter_trait-requires
enter_trait-requires c =
    let n = named (goal.at.enter_trait-requires c).In_ok-to in
    (behind_equals c.requires.0 c.requires.1 (equals (goal.at.enter_trait-requires c).In_ok-byte_due n), c.requires.1, n.ahead)

pub returns : goal.returns
returns c =
    let at-name = (goal.at.returns c).In_ok-to in
    let n = named at-name in
    new_named c.requires.2 c.requires.3 n (some at-name) c.in-Some.ensures
    (λ names f white. trait_entered c.requires.0 c.requires.1 names white n f (equals (goal.at.returns c).In_ok-byte_due n) c.enter_trait.ensures)
