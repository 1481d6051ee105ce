-- A record is its five numbers, laid in a row.
use Rattle.paper.specs.Roll.{all_records}
use Rattle.rolls.specs.Records.{lay_records}
use Rattle.rolls.proofs.records.put.Goals as goal

pub returns : goal.returns
unfolding lay_records all_records
returns c = c.lay.ensures
