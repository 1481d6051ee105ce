-- A law for each way on: the free cell, the same name, and past a taken cell with another name one step more, to the next cell or to the first.
use Prim.Native.Nat.{ℕ, ◌≤◌, ◌<◌}
use mathlib.Core.Path.{◌≡◌, sym, ◌∙◌}
use mathlib.Core.Bool.{Bool, false}
use mathlib.Core.List.{List}
use native.Mathlib.Nat.{mul-le-mul}
use native.Mathlib.Omega.{arith}
use lib.ListN.{length, get_or}
use Rattle.paper.specs.Bytes.{same}
use Rattle.paper.proofs.Lists.{same_is}
use Rattle.earlier.specs.Earlier.{name_at, Ready, Reached}
use Rattle.earlier.proofs.Ways.{Passed, key_few, search_begins, cell_in, search_held, search_on, on_fewer, search_round, round_fewer}
use Rattle.earlier.proofs.seek.Goals as goal

module _ {s x w : List ℕ} {first key : ℕ} (ready : Ready s first x key w) where
  some : 0 < length x
  some = omega (arith, ready.within)

  module _ {cell : ℕ} (r : Reached s first x w cell) where
    -- the cell is one of the index
    inside : cell < length x
    inside = cell_in _ _ _ _ some _ r

    -- it is taken, with another name
    passed : first ≤ get_or x cell 0 → {o : Bool} → o ≡ same (name_at s (get_or x cell 0)) w → o ≡ false → Passed s first x w cell
    passed taken asked other = record {
      reached = r;
      taken = taken;
      other = sym asked ∙ other;
      vacant = ready.cell;
      within = ready.within;
      free = ready.free;
    }

pub overflow_mul-cell : goal.overflow_mul-cell
overflow_mul-cell c =
    let few : c.args.key ≤ 65535 = omega (arith, c.requires.keyed, key_few c.args.name.now) in
    omega (arith, mul-le-mul few c.requires.short)

pub loop-first-init : goal.loop-first-init
loop-first-init c = rw c.requires.keyed (search_begins _ _ _ _ (some c.requires))

pub offset_bounds-index-cell : goal.offset_bounds-index-cell
offset_bounds-index-cell c = omega (arith, inside c.requires c.loop-first.invariant, c.requires.short)

pub bounds-index-cell : goal.bounds-index-cell
bounds-index-cell c = inside c.requires c.loop-first.invariant

pub returns-then-is_named : goal.returns-then-is_named
returns-then-is_named c =
    search_held _ _ _ _ (some c.requires) _ c.loop-first.invariant c.if-start-first.false (same_is _ _ (sym c.is_named.ensures ∙ c.if-is_named.true))

pub loop-first-smaller-then-cell-size : goal.loop-first-smaller-then-cell-size
loop-first-smaller-then-cell-size c =
    round_fewer (passed c.requires c.loop-first.invariant c.if-start-first.false c.is_named.ensures c.if-is_named.false) c.if-cell-size.true

pub loop-first-preserved-then-cell-size : goal.loop-first-preserved-then-cell-size
loop-first-preserved-then-cell-size c =
    search_round (passed c.requires c.loop-first.invariant c.if-start-first.false c.is_named.ensures c.if-is_named.false) c.if-cell-size.true

pub loop-first-smaller : goal.loop-first-smaller
loop-first-smaller c =
    on_fewer (passed c.requires c.loop-first.invariant c.if-start-first.false c.is_named.ensures c.if-is_named.false) c.if-cell-size.false

pub loop-first-preserved : goal.loop-first-preserved
loop-first-preserved c =
    search_on (passed c.requires c.loop-first.invariant c.if-start-first.false c.is_named.ensures c.if-is_named.false) c.if-cell-size.false
