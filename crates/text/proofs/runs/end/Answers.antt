-- All bytes up to the end are of the class, and the one behind is not.
use Rattle.std.proofs.Common.{rules}
use Rattle.text.proofs.Stretch.{stretch_from}
use Rattle.text.proofs.runs.end.Goals as goal

pub returns : goal.returns
returns g c =
    let e = c.skip.ensures in
    stretch_from g.C.Class.takes _ e.taken.ahead (λ i l h. let t = e.taken.each i l h in search rules) e.inside (λ h. let t = e.other h in search rules)
