use Rattle.std.proofs.Common.{rules, not}
use Rattle.paper.specs.Bytes.{elem}
use Rattle.text.proofs.Stretch.{stretch_from}
use Rattle.text.proofs.parts.find.Goals as goal

pub returns : goal.returns
returns c =
    let e = c.skip.ensures in
    stretch_from (λ b. not (elem b c.args.these.now)) _ e.taken.ahead (λ i l h. let t = e.taken.each i l h in search rules) e.inside
    (λ h. let t = e.other h in search rules)
