-- The number is that of a name, whatever names the index lists; the requires gives some, so that the number's cells and its place are inside.
use Prim.Native.Nat.{ℕ, ◌<◌}
use mathlib.Core.Path.{ap, ◌∙◌}
use mathlib.Core.List.{List}
use native.Mathlib.Omega.{arith}
use lib.ListN.{get_or}
use Rattle.modes.specs.Index.{earlier_at, place_at, Stands, numbered, Lists, Listing}
use Rattle.modes.proofs.Numbers.{key_few, numbered_some}
use Rattle.modes.proofs.Chains.{Chained, Turn, chain_begins, chain_few, chain_ends, turn, turn_stands, chain_falls, chain_found, chain_goes_on}
use Rattle.modes.proofs.index.find.Goals as goal

module _ {t x w : List ℕ} {number : ℕ} (some : Listing t x) (chained : (all : List (List ℕ)) → Lists t x all → Chained t x w all number) (h : 0 < number) where
  here : Turn t x w some.names number
  here = turn _ _ _ _ _ (chained some.names some.lists) h

  falls : get_or x (earlier_at number) 0 < number
  falls = chain_falls _ _ _ _ _ here

  -- it stands at its place
  stands : Stands t (get_or x (place_at number) 0) here.name
  stands = turn_stands _ _ _ _ _ here

pub offset_bounds-index-key : goal.offset_bounds-index-key
offset_bounds-index-key c = omega (arith, key_few c.args.name.now)

pub bounds-index-key : goal.bounds-index-key
bounds-index-key c = omega (arith, key_few c.args.name.now)

pub loop-number-init : goal.loop-number-init
loop-number-init c =
    let some = c.requires.0 in
    rw c.requires.1 (chain_few _ _ _ _ _ (chain_begins _ _ _ _ some.lists), chain_begins _ _ _)

pub bounds-table-place : goal.bounds-table-place
bounds-table-place c = (stands c.requires.0 c.loop-number.invariant.1 c.loop-number-test.true).inside

pub slice_bounds-same-end : goal.slice_bounds-same-end
slice_bounds-same-end c = (stands c.requires.0 c.loop-number.invariant.1 c.loop-number-test.true).fits

pub returns-then-same : goal.returns-then-same
returns-then-same c =
    λ all l. numbered_some _ c.loop-number-test.true
    ∙ ap numbered (chain_found _ _ _ _ _ (turn _ _ _ _ _ (c.loop-number.invariant.1 all l) c.loop-number-test.true) _ c.same.ensures c.if-same.true)

pub loop-number-smaller : goal.loop-number-smaller
loop-number-smaller c = falls c.requires.0 c.loop-number.invariant.1 c.loop-number-test.true

pub loop-number-preserved : goal.loop-number-preserved
loop-number-preserved c = (
  omega (arith, falls c.requires.0 c.loop-number.invariant.1 c.loop-number-test.true),
  λ all l. chain_goes_on _ _ _ _ _ (turn _ _ _ _ _ (c.loop-number.invariant.1 all l) c.loop-number-test.true) _ c.same.ensures c.if-same.false,
)

pub returns : goal.returns
returns c = λ all l. ap numbered (chain_ends _ _ _ _ _ (c.loop-number.invariant.1 all l) c.loop-number-test.false)
