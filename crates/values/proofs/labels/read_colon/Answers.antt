-- A law for each way out: cut, missing, or there.
use mathlib.Core.Path.{◌≡◌, sym, ◌∙◌}
use native.Mathlib.Omega.{arith}
use lib.ListN.{get_or}
use Rattle.std.proofs.Common.{rules}
use Rattle.paper.specs.Bytes.{byte}
use Rattle.values.proofs.LabelReads.{colon_ends, colon_missing, colon_there}
use Rattle.values.proofs.labels.read_colon.Goals as goal

pub returns-in-None : goal.returns-in-None
returns-in-None c key = colon_ends _ _ key c.in-None.ensures.lookup.3 _ c.at.ensures

pub returns-in-Some-eq58 : goal.returns-in-Some-eq58
returns-in-Some-eq58 c key =
    let there = c.in-Some-eq58.ensures.lookup.3 in
    colon_there _ _ key there.0 (sym (there.1 0) ∙ c.in-Some-eq58.field-0-test) _ c.end.ensures.0 (omega arith) (omega arith)

pub returns-in-Some : goal.returns-in-Some
returns-in-Some c key =
    let there = c.in-Some.ensures.lookup.3 in
    let other : get_or c.args.s.now c.args.at 0 ≡ byte ":" → ⊥ = λ q. c.in-Some.field-0-test.1 (there.1 0 ∙ q) in
    colon_missing _ _ key there.0 other _ (search rules)
