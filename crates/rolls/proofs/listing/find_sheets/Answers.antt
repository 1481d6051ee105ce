use native.Mathlib.Omega.{arith}
use Rattle.rolls.specs.Records.{record_in}
use Rattle.rolls.proofs.FindLaws.{finding_none, finding_turn, finds_over, finds_all}
use Rattle.rolls.proofs.listing.find_sheets.Goals as goal

pub loop-at-init : goal.loop-at-init
loop-at-init c = finding_none _ _ c.requires.1

pub returns-then-most-count : goal.returns-then-most-count
returns-then-most-count c = rw c.at.ensures (finds_over c.loop-at.invariant c.room-most.ensures c.loop-at-test.true c.if-most-count.true)

pub sheet_end-end-requires : goal.sheet_end-end-requires
sheet_end-end-requires c = c.loop-at.invariant.begins.boundary c.loop-at-test.true

pub found_at-requires : goal.found_at-requires
found_at-requires c =
    let short = c.requires.0 in
    (omega arith, omega (arith, c.sheet_end-end.ensures.begins.inside))

pub put-requires : goal.put-requires
put-requires c = omega (arith, c.room-most.ensures, c.if-most-count.false, c.loop-at.invariant.long)

pub overflow_add-count : goal.overflow_add-count
overflow_add-count c = omega (arith, c.room-most.ensures, c.if-most-count.false)

pub loop-at-smaller : goal.loop-at-smaller
loop-at-smaller c = omega (arith, c.sheet_end-end.ensures.ahead, c.loop-at-test.true)

pub loop-at-preserved : goal.loop-at-preserved
loop-at-preserved c =
    finding_turn c.loop-at.invariant (record_in c.found_at.result) (omega (arith, c.if-most-count.false))
    c.sheet_end-end.ensures c.found_at.ensures c.put.ensures

pub returns : goal.returns
returns c = finds_all c.loop-at.invariant c.room-most.ensures c.loop-at-test.false
