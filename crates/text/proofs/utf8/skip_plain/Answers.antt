use Rattle.std.proofs.Common.{rules}
use Rattle.text.proofs.Checks.{plain_all}
use Rattle.text.proofs.utf8.skip_plain.Goals as goal

pub returns : goal.returns
returns c =
    let e = c.skip_by.ensures in
    (e.taken.ahead, e.inside, plain_all _ e.taken.ahead (λ i l h. let t = e.taken.each i l h in search rules) e.inside)
