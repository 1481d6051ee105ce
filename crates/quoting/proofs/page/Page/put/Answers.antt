-- Each byte as it is. Assumes nothing.
use Prim.Native.Nat.{ℕ}
use mathlib.Core.Path.{ap, sym}
use mathlib.Core.List.{List, ◌++◌}
use Rattle.std.proofs.Common.{of_calls}
use Rattle.std.proofs.lemmas.List.{map-id}
use Rattle.quoting.proofs.Putting.{puts_as}
use Rattle.quoting.proofs.page.Page.put.Goals as goal

pub returns : goal.returns
returns c = puts_as _ (λ next. ap (λ (w : List ℕ). w ++ next) (sym (map-id c.args.part.now))) (c.put_each.ensures (λ b. b) (λ b r h p. search of_calls))
