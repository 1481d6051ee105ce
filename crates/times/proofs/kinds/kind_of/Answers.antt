-- By the first byte. Assumes nothing.
use mathlib.Core.Path.{ap, ◌∙◌}
use native.Mathlib.Omega.{arith}
use Rattle.std.proofs.Common.{rules}
use Rattle.paper.specs.Times.{is_span}
use Rattle.text.proofs.Places.{part_rest}
use Rattle.times.proofs.Told.{where_fits, duration_told, not_p, not_small, reserved_told}
use Rattle.times.proofs.kinds.kind_of.Goals as goal

pub returns-in-80 : goal.returns-in-80
returns-in-80 c =
    where_fits _ _ _ _ c.then_some.ensures (c.is_span.ensures ∙ ap is_span (part_rest c.args.w.now 1))
    ∙ duration_told _ (omega arith) (omega arith)

pub returns-in-97-to-122 : goal.returns-in-97-to-122
returns-in-97-to-122 c =
    where_fits _ _ _ _ c.then_some-in-97-to-122.ensures c.is_reserved.ensures
    ∙ reserved_told _ (omega arith) (omega arith) (omega arith)

pub returns-in_default : goal.returns-in_default
returns-in_default c =
    c.numbered_kind.ensures (not_p c.args.w.now (λ h e. search rules)) (not_small c.args.w.now (λ h a z. search rules))
