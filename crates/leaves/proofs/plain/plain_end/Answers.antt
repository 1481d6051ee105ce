-- Bytes that are passed together, and then one by one.
use Rattle.std.proofs.Common.{rules}
use native.Mathlib.Omega.{arith}
use Rattle.paper.proofs.Tests.{up_to}
use Rattle.text.proofs.Stretch.{stretch_from}
use Rattle.leaves.specs.Plain.{is_plain}
use Rattle.leaves.proofs.plain.plain_end.Goals as goal

pub returns : goal.returns
returns c =
    let many = c.skip_blocks-many.ensures in
    let e = c.skip.ensures in
    stretch_from (is_plain c.args.quote) _ (omega (arith, many.taken.ahead, e.taken.ahead))
    (λ i l h. up_to c.skip_blocks-many.result i (λ m. let t = e.taken.each i m h in search rules) (λ m. let t = many.taken.each i l m in search rules))
    e.inside (λ h. let t = e.other h in search rules)
