-- An entry of a kind lies in the cells, as each kind has a number above 0. Assumes nothing.
use Prim.Native.Nat.{◌<◌}
use mathlib.Core.Path.{ap}
use native.Mathlib.Omega.{arith}
use borrow.Author.Tests.{eqb-true}
use Rattle.paper.specs.declared.kinds.Kind.{Kind}
use Rattle.paper.specs.Kinds.{number_of_kind}
use Rattle.paper.specs.Entries.{Entry}
use Rattle.entries.proofs.Standing.{kind_inside}
use Rattle.printing.proofs.laid.Laid.is_of.Goals as goal

some_number : (kind : Kind) → 0 < number_of_kind kind
some_number Kind.Concept = omega arith
some_number Kind.Trait = omega arith
some_number Kind.Item = omega arith
some_number Kind.Annotation = omega arith
some_number Kind.Content = omega arith

pub returns-clause-inside : goal.returns-clause-inside
returns-clause-inside c = λ t. kind_inside c.args.self.cells.now c.args.n
    (omega (arith, ap (λ (e : Entry). e.kind) c.at.ensures, eqb-true _ _ t, c.number.ensures, some_number c.args.kind))
