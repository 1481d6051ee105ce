-- A law for each way out.
use mathlib.Core.Path.{sym, ◌∙◌}
use native.Mathlib.Omega.{arith}
use Rattle.leaves.proofs.FirstBytes.{named_empty, named_other, named_run}
use Rattle.leaves.proofs.words.is_named.Goals as goal

pub returns-in-empty : goal.returns-in-empty
returns-in-empty c = named_empty _ _ _ c.in-empty.len_below

pub returns-then-is_within : goal.returns-then-is_within
returns-then-is_within c = named_run _ _ c.args.w.now c.in-len1-up.len_at_least c.end.result (omega arith) (sym c.is_within.ensures ∙ c.if-is_within.true)

pub returns-else-is_within : goal.returns-else-is_within
returns-else-is_within c = c.if-is_within.false ∙ named_other _ _ _ c.in-len1-up.len_at_least (sym c.is_within.ensures ∙ c.if-is_within.false)
