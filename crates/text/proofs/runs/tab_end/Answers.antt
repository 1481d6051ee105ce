use Rattle.std.proofs.Common.{rules}
use Rattle.paper.specs.Reading.{is_tab}
use Rattle.text.proofs.Stretch.{stretch_from}
use Rattle.text.proofs.runs.tab_end.Goals as goal

pub returns : goal.returns
returns c =
    let e = c.skip_by.ensures in
    stretch_from is_tab _ e.taken.ahead (λ i l h. let t = e.taken.each i l h in search rules) e.inside (λ h. let t = e.other h in search rules)
