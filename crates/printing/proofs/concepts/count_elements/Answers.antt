-- What a Concept counts beside its traits. Assumes nothing.
use Prim.Native.Nat.{ℕ, ◌-◌}
use mathlib.Core.Path.{◌≡◌, ap}
use native.Mathlib.Omega.{arith}
use lib.ListN.{length}
use lib.Dec.{eqb}
use Rattle.std.specs.Prelude.{count_by}
use Rattle.std.specs.List.{range_with_len}
use Rattle.paper.specs.Entries.{Entry}
use Rattle.entries.specs.Laid.{kind_at}
use Rattle.printing.proofs.ConceptLaws.{traits_counted}
use Rattle.printing.proofs.concepts.count_elements.Goals as goal

pub returns : goal.returns
returns c = λ es s e.
    let many : c.args.next - c.args.n ≡ length es = omega arith in
    omega (
      arith,
      c.count_traits.ensures,
      ap (λ (k : ℕ). count_by (λ n. eqb (kind_at c.args.laid.cells.now n) 2) (range_with_len c.args.n k)) many,
      traits_counted c.args.laid.cells.now c.args.n es s,
      ap (λ (x : Entry). x.count) c.at-all.ensures,
      c.saturating_sub.ensures,
    )
