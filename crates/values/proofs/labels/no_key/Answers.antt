-- A law for each way out: nothing ends the word, or something does.
use mathlib.Core.Path.{◌∙◌}
use Rattle.values.proofs.KeyWords.{no_key_cut, no_key_bad}
use Rattle.values.proofs.labels.no_key.Goals as goal

pub returns-then-find-s : goal.returns-then-find-s
returns-then-find-s c = c.at.ensures ∙ no_key_cut _ _ _ c.find.ensures.0 c.requires c.if-find-s.true

pub returns : goal.returns
returns c = c.at-2.ensures ∙ no_key_bad _ _ _ c.find.ensures.0 c.requires c.find.ensures.2 c.if-find-s.false
