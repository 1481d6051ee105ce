use Rattle.std.proofs.Common.{rules}
use mathlib.Core.Path.{◌≡◌, sym, ◌∙◌}
use native.Mathlib.Omega.{arith}
use Rattle.text.proofs.Steps.{Stepped, stepped, step_from_lem}
use Rattle.leaves.proofs.IriParts.{body_at, body_whole, body_ends, body_broken, body_stops, body_goes, body_over}
use Rattle.leaves.proofs.iris.is_body.Goals as goal
use Rattle.leaves.proofs.iris.is_body.Goals.{After-skip-at, After-may_stand}

over : (c : After-skip-at) → body_at c.args.body.now c.skip-at.result ≡ body_at c.args.body.now 0
over c =
    let e = c.skip-at.ensures in
    body_over _ _ _ e.taken.ahead e.inside (λ i l h. let t = e.taken.each i l h in search rules) ∙ c.loop-v.invariant.1

went : (c : After-may_stand) → Stepped c.args.body.now c.skip-at.result c.in-Scalar.v c.in-Scalar.next.at
went c = stepped _ _ _ _ (step_from_lem _ c.new.ensures c.in-Scalar.ensures)

pub loop-v-smaller : goal.loop-v-smaller
loop-v-smaller c = let f = went (goal.at.loop-v-smaller c).After-may_stand in omega (arith, c.skip-at.ensures.taken.ahead)

pub loop-v-preserved : goal.loop-v-preserved
loop-v-preserved c =
    let f = went (goal.at.loop-v-preserved c).After-may_stand in
    (f.inside, body_goes _ _ _ _ f (sym c.if-may_stand.ensures) ∙ over (goal.at.loop-v-preserved c).After-skip-at)

pub returns-in-End : goal.returns-in-End
returns-in-End c = body_whole _ _ (body_ends c.args.body.now c.skip-at.result (step_from_lem _ c.new.ensures c.in-End.ensures) ∙ over (goal.at.returns-in-End c).After-skip-at)

pub returns-in_default : goal.returns-in_default
returns-in_default c =
    body_whole _ _ (body_stops _ _ _ _ (went (goal.at.returns-in_default c).After-may_stand) (sym c.if-may_stand.ensures)
    ∙ over (goal.at.returns-in_default c).After-skip-at)

pub returns-in_default-2 : goal.returns-in_default-2
returns-in_default-2 c = body_whole _ _ (body_broken c.args.body.now c.skip-at.result (step_from_lem _ c.new.ensures c.in_default.ensures) ∙ over (goal.at.returns-in_default-2 c).After-skip-at)
