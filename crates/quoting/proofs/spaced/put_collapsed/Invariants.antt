-- The invariant: what is left to put is what is left of the bytes, collapsed. Assumes nothing.
use mathlib.Core.List.{◌++◌}
use lib.ListN.{drop}
use Rattle.paper.specs.Values.{collapse}
use Rattle.quoting.specs.Page.{Step}
use Rattle.quoting.proofs.Collapsing.{left}
use Rattle.quoting.proofs.spaced.put_collapsed.Given as goal

abbrev pub invariant-loop-b : goal.invariant-loop-b
invariant-loop-b l = Step l.initial.own (λ next. collapse l.w ++ next) l.own (λ next. left l.spacing (drop l.b-index l.w) ++ next)
