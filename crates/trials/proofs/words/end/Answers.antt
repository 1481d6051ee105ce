-- All bytes up to the end are of the word, and a space ends it.
use Rattle.std.proofs.Common.{rules}
use Rattle.text.proofs.Stretch.{stretch_from}
use Rattle.trials.specs.Words.{in_word}
use Rattle.trials.proofs.words.end.Goals as goal

pub returns : goal.returns
returns c =
    let e = c.skip.ensures in
    stretch_from in_word _ e.taken.ahead (λ i l h. let t = e.taken.each i l h in search rules) e.inside (λ h. let t = e.other h in search rules)
