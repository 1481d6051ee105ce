use Prim.Native.Nat.{ℕ}
use mathlib.Core.Path.{◌≡◌, sym, ap, ◌∙◌}
use mathlib.Core.List.{[], ◌∷◌}
use native.Mathlib.Omega.{arith}
use lib.ListN.{drop}
use Rattle.text.proofs.Answers.{passes}
use Rattle.std.specs.Option.{is_some}
use Rattle.paper.specs.Bytes.{bytes}
use Rattle.paper.specs.Forms.{number_of_form}
use Rattle.paper.specs.ReadingValues.{opens, opens_with}
use Rattle.paper.proofs.Lists.{both, is_not}
use Rattle.text.proofs.Deepening.{one_less, no_less}
use Rattle.text.proofs.Compared.{stands_inside}
use Rattle.entries.specs.Laid.{lay}
use Rattle.leaves.proofs.WordEnds.{inside_enders}
use Rattle.values.proofs.LabelLaws.{LabelTo, label_stands}
use Rattle.values.proofs.BracketLaws.{Opened, fewer_falls, opening_told, opening_none}
use Rattle.values.proofs.EnterLaws.{written, leaf_enters, leaf_refused, deep_enters, empty_enters, items_enter, ahead_refused, no_label}
use Rattle.values.proofs.EnterTurns.{stands_deeper, Turn, Turned, turned, full_turn, none_turn}
use Rattle.values.proofs.EnterTurns.{Far, far, last_ahead, last_turn, next_turn}
use Rattle.values.proofs.entering.+enter_enter_items.Goals.{enter-In-Some, enter-In-Some-step}
use Rattle.values.proofs.entering.+enter_enter_items.Goals.{enter_items-After-after-next, enter_items-In_ok-label, enter_items-After-enter, enter_items-In_ok-item}
use Rattle.values.proofs.entering.+enter_enter_items.Goals.{enter_items-After-put}
use Rattle.values.proofs.entering.+enter_enter_items.Goals as goal

-- the bracket that opens there
opens-there : (t : ℕ) (c : enter-In-Some t) → opens_with (drop c.args.at c.args.s.now) ≡ opens c.in-Some.kind
opens-there t c = opening_told _ _ (sym c.in-Some.ensures)

-- one more may be opened
opened : (t : ℕ) (c : enter-In-Some-step t) → Opened c.in-Some.kind c.args.s.now c.args.at c.args.nesting.left c.in-Some-step.fewer.left
opened t c = record { opens = opens-there t (goal.at.enter-In-Some-step t c).In-Some; deeper = one_less _ _ c.step.ensures _ c.in-Some-step.is }

pub enter-returns-in_err-read_leaf : goal.enter-returns-in_err-read_leaf
enter-returns-in_err-read_leaf t c =
    rw (passes c.from_residual.ensures.1)
    (leaf_refused _ _ _ _ _ _ _ (opening_none _ (ap is_some (sym c.in_default.ensures))) c.read_leaf.ensures _ c.in_err-read_leaf.was)

pub enter-returns-in_default : goal.enter-returns-in_default
enter-returns-in_default t c =
    leaf_enters _ _ _ _ _ _ _ (opening_none _ (ap is_some (sym c.in_default.ensures))) c.read_leaf.ensures _ c.in_ok-read_leaf.was _
    c.without_items.ensures

pub enter-returns-in_default-step : goal.enter-returns-in_default-step
enter-returns-in_default-step t c =
    deep_enters _ _ _ _ _ _ _ (opens-there t (goal.at.enter-returns-in_default-step t c).In-Some) (no_less _ _ c.step.ensures c.in_default-step.is) _

pub enter-returns-then-is_empty : goal.enter-returns-then-is_empty
enter-returns-then-is_empty t c =
    let n = c.opener_length.ensures in
    let empty = both _ _ (rw n at (sym c.is_empty.ensures ∙ c.if-is_empty.true)) in
    rw (c.without_items-then-is_empty.ensures, n) (empty_enters _ _ _ _ _ _ _ _ (opened t (goal.at.enter-returns-then-is_empty t c).In-Some-step) empty.0 empty.1 _ c.form.ensures)

pub enter-enter_items-requires : goal.enter-enter_items-requires
enter-enter_items-requires t c =
    let o = opened t (goal.at.enter-enter_items-requires t c).In-Some-step in
    (fewer_falls _ _ _ o.deeper c.decreases, rw c.opener_length.ensures (stands_deeper c.requires o))

pub enter-returns : goal.enter-returns
enter-returns t c =
    let n = c.opener_length.ensures in
    items_enter _ _ _ _ _ _ _ _ (opened t (goal.at.enter-returns t c).In-Some-step)
    (is_not (rw n at (sym c.is_empty.ensures ∙ c.if-is_empty.false))) _ _ (rw n at c.enter_items.ensures)

-- where a turn stands, with the slot of the next entry
turn : (t : ℕ) (c : enter_items-After-after-next t) → let loop = c.loop-kind in
    Turn c.args.s.now c.args.at c.args.nesting.left c.args.cells.now c.args.slot loop.i loop.made loop.own loop.cells c.after-next.result
turn t c =
    let inv = c.loop-kind.invariant in
    record {
      stands = c.requires;
      from = inv.0;
      place = inv.1;
      few = inv.2;
      owned = inv.3;
      kept = inv.4;
      next_is = c.after-next.ensures;
    }

-- the item's value, behind its label
labelled : (t : ℕ) (c : enter_items-In_ok-label t) → LabelTo c.args.kind c.args.s.now c.loop-kind.i c.in_ok-label.label.key c.in_ok-label.label.value
labelled t c = label_stands _ _ _ c.read_label.ensures c.loop-kind.invariant.1 _ c.in_ok-label.was

-- the turn with the item that was entered
item-turn : (t : ℕ) (c : enter_items-After-enter t) → let top = c.args in let loop = c.loop-kind in let label = c.in_ok-label.label in
    Turned top.kind top.s.now top.at top.nesting.left top.cells.now top.slot loop.i loop.made loop.own loop.cells
    c.after-next.result label.key label.value c.enter.result c.enter.new.cells
item-turn t c =
    let ends = inside_enders c.args.kind c.inside-around.result c.inside-around.ensures in
    let before = goal.at.enter_items-After-enter t c in
    turned (turn t before.After-after-next) _ c.is_full.ensures c.if-is_full.false (labelled t before.In_ok-label) _ c.under.ensures _ _
    c.enter.auto.cells (rw ends at c.enter.ensures)

-- numbers of the turn
item-far : (t : ℕ) (c : enter_items-In_ok-item t) → let top = c.args in let loop = c.loop-kind in let label = c.in_ok-label.label in let item = c.in_ok-item.item in
    Far top.s.now top.at top.nesting.left top.slot loop.i loop.made loop.own label.key label.value item.end item.made item.own
item-far t c = far (item-turn t (goal.at.enter_items-In_ok-item t c).After-enter) _ c.in_ok-item.was

-- the item's entry is written
laid : (t : ℕ) (c : enter_items-After-put t) → let label = c.in_ok-label.label in let item = c.in_ok-item.item in
    c.put.new.cells ≡ lay c.enter.new.cells c.after-next.result.next
    (written (number_of_form item.form) c.args.slot.parent item.own c.loop-kind.i label.key label.value item.end ∷ [])
laid t c = rw (c.number.ensures, c.number-in-loop-kind.ensures) at c.put.ensures

pub enter_items-returns-then-is_full : goal.enter_items-returns-then-is_full
enter_items-returns-then-is_full t c = (
  ahead_refused _ _ _ _ _,
  c.loop-kind.invariant.5 _ _ (full_turn (turn t (goal.at.enter_items-returns-then-is_full t c).After-after-next) _ c.is_full.ensures _ c.if-is_full.true _
      c.at.ensures),
)

pub enter_items-returns-in_err-label : goal.enter_items-returns-in_err-label
enter_items-returns-in_err-label t c =
    rw (passes c.from_residual.ensures.1)
    (ahead_refused _ _ _ _ _, c.loop-kind.invariant.5 _ _ (no_label _ _ _ _ _ _ _ _ c.read_label.ensures _ c.in_err-label.was _))

pub enter_items-returns-in_err-item : goal.enter_items-returns-in_err-item
enter_items-returns-in_err-item t c =
    let it = item-turn t (goal.at.enter_items-returns-in_err-item t c).After-enter in
    rw (passes c.from_residual-in_err-item.ensures.1) (ahead_refused _ _ _ _ _, c.loop-kind.invariant.5 _ _ (none_turn it _ c.in_err-item.was))

pub enter_items-overflow_cast-label : goal.enter_items-overflow_cast-label
enter_items-overflow_cast-label t c = omega (arith, item-far t (goal.at.enter_items-overflow_cast-label t c).In_ok-item)

pub enter_items-returns-then-not-goes_on : goal.enter_items-returns-then-not-goes_on
enter_items-returns-then-not-goes_on t c =
    let before = goal.at.enter_items-returns-then-not-goes_on t c in
    let it = item-turn t before.After-enter in
    let q = c.in_ok-item.was in (
      last_ahead it _ q _,
      c.loop-kind.invariant.5 _ _ (last_turn it _ q _ (laid t before.After-put) (sym c.if-not-goes_on.ensures) _ c.form.ensures),
    )

pub enter_items-end-i-requires : goal.enter_items-end-i-requires
enter_items-end-i-requires t c =
    omega (arith, stands_inside (bytes ",") c.args.s.now c.in_ok-item.item.end (sym c.if-not-goes_on.ensures))

pub enter_items-loop-kind-preserved : goal.enter_items-loop-kind-preserved
enter_items-loop-kind-preserved t c =
    let before = goal.at.enter_items-loop-kind-preserved t c in
    let it = item-turn t before.After-enter in
    let far_on = item-far t before.In_ok-item in
    let inv = c.loop-kind.invariant in
    let laid_on = next_turn it _ c.in_ok-item.was _ (laid t before.After-put) (sym c.if-not-goes_on.ensures) _ c.end-i.ensures in (
      omega (arith, far_on, c.end-i.ensures.1),
      c.end-i.ensures.2,
      omega (arith, far_on),
      omega (arith, far_on),
      c.put.auto.cells ∙ it.same ∙ it.turn.kept,
      λ r after k. inv.5 r after (laid_on r after k),
    )
