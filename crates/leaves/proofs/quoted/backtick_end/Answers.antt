use mathlib.Core.Logic.{⊎_elim}
use native.Mathlib.Omega.{arith}
use Rattle.leaves.proofs.Quotes.{ticked_on, ticked_closes, ticked_ends}
use Rattle.leaves.proofs.quoted.backtick_end.Goals as goal

pub returns-then-not-marked : goal.returns-then-not-marked
returns-then-not-marked c = ticked_closes _ _ _ c.loop-i-test.true c.if-s-i-eq96.true _ c.if-not-marked.true c.loop-i.invariant

pub loop-i-preserved : goal.loop-i-preserved
loop-i-preserved c = ticked_on _ _ _ (omega arith) _ c.loop-i.invariant (λ q. ⊎_elim (λ h. h.1) (λ n. absurd (n q)) c.else-s-i-eq96.either)

pub returns : goal.returns
returns c = ticked_ends _ _ c.loop-i.i (omega arith) _ c.at.ensures _ c.loop-i.invariant
