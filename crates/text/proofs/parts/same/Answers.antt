-- Both lists are turned, and zipped; all of the second is compared. Assumes nothing.
use mathlib.Core.Path.{◌≡◌, sym, ap, ◌∙◌}
use native.Mathlib.Omega.{arith}
use lib.ListN.{length}
use lib.Seq.{take_all}
use Rattle.std.proofs.Common.{rules}
use Rattle.paper.specs.Bytes.{same}
use Rattle.std.proofs.lemmas.Iterator.{YieldsList-from_zip, same_from_all}
use Rattle.std.proofs.lemmas.List.{length-reverse}
use Rattle.std.proofs.lemmas.Iterator.Adapters.{YieldsList-from_rev_slice}
use borrow.Author.Tests.{tests}
use Rattle.text.proofs.Compared.{same_long, same_turned}
use Rattle.text.proofs.parts.same.Goals as goal

pub returns-then-a-b : goal.returns-then-a-b
returns-then-a-b c =
    let long : length c.args.a.now ≡ length c.args.b.now = omega arith in
    let t = c.iter-then-a-b.result.rest.now in
    let whole : t ≡ c.args.b.now = grind (arith, take_all) in
    same_turned _ _ _ (same_from_all c.all.new.self _ _ _ _ c.all.ensures.ran
    (YieldsList-from_zip (YieldsList-from_rev_slice c.args.a.now cc) (YieldsList-from_rev_slice t cc))
    (length-reverse c.args.a.now ∙ long ∙ sym (length-reverse t ∙ ap length whole))
    (λ x q k. search (rules, tests)) (λ x q k. search (rules, tests)))
    ∙ ap (same c.args.a.now) whole

pub returns-else-a-b : goal.returns-else-a-b
returns-else-a-b c = same_long _ _ _ (search rules) (λ e. omega arith)
