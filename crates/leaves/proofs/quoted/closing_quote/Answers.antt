-- A law for each way out.
use mathlib.Core.Path.{refl}
use native.Mathlib.Omega.{arith}
use Rattle.std.proofs.lemmas.Grind.{common_steps}
use Rattle.std.proofs.lemmas.Option.{gets}
use Rattle.leaves.proofs.Showing.{finds, no_value, cut_off}
use Rattle.leaves.proofs.Quotes.{quote_ends, quote_other, quote_there}
use Rattle.leaves.proofs.quoted.closing_quote.Goals as goal

pub returns-in-None : goal.returns-in-None
returns-in-None c = λ ps. cut_off _ _ _ _ _ c.at.ensures (quote_ends ps c.args.s.now c.args.at (grind (arith, common_steps, gets)))

pub returns-in-Some-eq39 : goal.returns-in-Some-eq39
returns-in-Some-eq39 c =
    λ ps. finds _ _ _ _ _ _ (omega arith) (grind (arith, common_steps, gets)) refl
    (quote_there ps c.args.s.now c.args.at (grind (arith, common_steps, gets)) (grind (arith, common_steps, gets)))

pub returns-in-Some : goal.returns-in-Some
returns-in-Some c =
    λ ps. no_value _ _ _ _ _ _ c.at-in-Some.ensures (grind (arith, common_steps, gets))
    (quote_other ps c.args.s.now c.args.at (grind (arith, common_steps, gets)) (grind (arith, common_steps, gets)))
