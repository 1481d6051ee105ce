-- A law for each way out and for one name more; the index's part goes along with the reading's.
use mathlib.Core.Path.{◌≡◌, refl, ◌∙◌}
use mathlib.Core.Bool.{true, false}
use native.Mathlib.Omega.{arith}
use Rattle.std.specs.Option.{is_some}
use Rattle.std.proofs.Common.{rules}
use Rattle.text.proofs.Answers.{passes}
use Rattle.modes.proofs.Named.{named}
use Rattle.modes.proofs.Sections.{begins, goes_on, ends_all, ends_refused, ends_again, section_cut, section_over, section_names}
use Rattle.modes.proofs.Sections.{listed_none, listed_more, stands_already, stands_not, section_refused, section_accepted}
use Rattle.modes.proofs.read_section.Goals as goal

pub returns-in_default : goal.returns-in_default
returns-in_default c = let past = c.in_default.ensures.lookup in rw c.at.ensures (section_refused _ (section_cut _ _ _ (omega arith)))

pub returns-then-count-gt-SECTION_LIMIT : goal.returns-then-count-gt-SECTION_LIMIT
returns-then-count-gt-SECTION_LIMIT c =
    let here = c.in-Some.ensures.lookup.3 in
    rw c.at-then-count-gt-SECTION_LIMIT.ensures (section_refused _ (section_over _ _ _ here.0 _ (here.1 0) c.if-count-gt-SECTION_LIMIT.true))

pub loop-i-init : goal.loop-i-init
loop-i-init c =
    let here = c.in-Some.ensures.lookup.3 in
    (begins _ _ _ _ (omega arith), listed_none _ _ _ _ c.requires)

pub returns-in_err-end : goal.returns-in_err-end
returns-in_err-end c =
    let here = c.in-Some.ensures.lookup.3 in
    rw (passes c.from_residual.ensures.1)
    (section_refused _
    (ends_refused _ _ _ _ _ _ c.loop-i.invariant.0 _ c.loop-i-test.true c.in_err-end.ensures
    ∙ section_names _ _ _ here.0 _ (here.1 0) c.if-count-gt-SECTION_LIMIT.false))

pub slice_bounds-name-count : goal.slice_bounds-name-count
slice_bounds-name-count c = let n = named c.args.table.now c.loop-i.place _ _ c.in_ok-end.ensures in omega arith

pub slice_bounds-name-start : goal.slice_bounds-name-start
slice_bounds-name-start c = let n = named c.args.table.now c.loop-i.place _ _ c.in_ok-end.ensures in omega arith

pub returns-then-is_some : goal.returns-then-is_some
returns-then-is_some c =
    let here = c.in-Some.ensures.lookup.3 in
    let n = named c.args.table.now c.loop-i.place _ _ c.in_ok-end.ensures in
    let some : is_some c.find.result ≡ true = search rules in
    rw c.at-then-is_some.ensures
    (section_refused _
    (ends_again _ _ _ _ _ _ c.loop-i.invariant.0 _ c.loop-i-test.true n _
    (stands_already _ _ _ c.loop-i.invariant.1.lists _ _ c.find.ensures some) refl
    ∙ section_names _ _ _ here.0 _ (here.1 0) c.if-count-gt-SECTION_LIMIT.false))

pub loop-i-preserved : goal.loop-i-preserved
loop-i-preserved c =
    let n = named c.args.table.now c.loop-i.place _ _ c.in_ok-end.ensures in
    let none : is_some c.find.result ≡ false = search rules in (
      goes_on _ _ _ _ _ _ c.loop-i.invariant.0 _ c.loop-i-test.true n _
          (stands_not _ _ _ c.loop-i.invariant.1.lists _ _ c.find.ensures none) refl,
      rw (c.add.ensures, c.key-key.ensures.0)
          (listed_more _ _ _ _ c.requires _ _ _ _ c.loop-i.invariant.0 c.loop-i.invariant.1 c.if-count-gt-SECTION_LIMIT.false c.loop-i-test.true _
          n),
    )

pub returns : goal.returns
returns c =
    let here = c.in-Some.ensures.lookup.3 in
    let all : c.loop-i.i ≡ c.in-Some.field-0.now = omega (arith, c.loop-i.invariant.0.some) in
    section_accepted _
    (ends_all _ _ _ _ _ _ c.loop-i.invariant.0 c.loop-i-test.false ∙ section_names _ _ _ here.0 _ (here.1 0) c.if-count-gt-SECTION_LIMIT.false)
    (rw all at c.loop-i.invariant.1)
