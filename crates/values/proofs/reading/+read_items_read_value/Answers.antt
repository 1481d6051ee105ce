use Prim.Native.Nat.{ℕ, ◌+◌, ◌-◌}
use mathlib.Core.Path.{◌≡◌, sym, ap, ◌∙◌}
use mathlib.Core.List.{[], ◌∷◌}
use native.Mathlib.Omega.{arith}
use lib.ListN.{drop}
use Rattle.std.proofs.Common.{rules}
use Rattle.std.specs.Prelude.{Ok, Err}
use Rattle.text.proofs.Answers.{passes}
use Rattle.std.specs.Option.{is_some}
use Rattle.paper.specs.Bytes.{starts_with}
use Rattle.paper.specs.Values.{closer, may_be_empty, enders, value_form}
use Rattle.paper.specs.ReadingValues.{opens, opens_with, value_of}
use Rattle.paper.proofs.Lists.{both, is_not}
use Rattle.text.proofs.Deepening.{one_less, no_less}
use Rattle.text.proofs.Compared.{stands_inside}
use Rattle.leaves.specs.Shown.{Judges}
use Rattle.leaves.proofs.WordEnds.{inside_enders}
use Rattle.leaves.proofs.Showing.{moved}
use Rattle.values.proofs.LabelLaws.{LabelTo, label_stands}
use Rattle.values.proofs.BracketLaws.{Opened, fewer_falls, opening_told, opening_none, opened_in, leaf_value, deep_value, empty_value, items_value}
use Rattle.values.proofs.BracketLaws.{item_refused, item_cut, item_last, item_wrong, item_next}
use Rattle.values.proofs.reading.+read_items_read_value.Goals.{read_items-In_ok-value, read_items-After-read_value, read_items-In_ok-end, read_items-In_err-end, read_value-In-Some, read_value-In-Some-step}
use Rattle.values.proofs.reading.+read_items_read_value.Goals as goal

-- an item is due behind its label
labelled : (t : ℕ) (c : read_items-In_ok-value t) → let i = c.loop-value.i in
    LabelTo c.args.kind c.args.s.now i c.in_ok-value.field-0.key c.in_ok-value.field-0.value
labelled t c = label_stands _ _ _ c.read_label.ensures c.loop-value.invariant.1 _ c.in_ok-value.was

-- the item's value was read up to what may stand behind it
item-read : (t : ℕ) (c : read_items-After-read_value t) → let s = c.args.s.now in let due = c.in_ok-value.field-0.value in
    Judges value_form s due (value_of c.args.nesting.left (enders c.args.kind) (drop due s)) c.read_value.result
item-read t c = rw (inside_enders c.args.kind c.inside-around.result c.inside-around.ensures) at c.read_value.ensures

-- what is gone on with is that reading's end, and what is passed on is its own refusal
item-end : (t : ℕ) (c : read_items-In_ok-end t) → c.read_value.result ≡ Ok c.in_ok-end.field-0
item-end t c = search rules

item-fault : (t : ℕ) (c : read_items-In_err-end t) → c.read_value.result ≡ Err c.in_err-end.field-0.0
item-fault t c = search rules

pub read_items-returns-in_err-end : goal.read_items-returns-in_err-end
read_items-returns-in_err-end t c =
    let before = goal.at.read_items-returns-in_err-end t c in
    let inv = c.loop-value.invariant in
    rw (passes c.from_residual-in_err-end.ensures.1)
    (moved (item_refused _ _ _ _ _ _ (labelled t before.In_ok-value) _ (item-read t before.After-read_value) _ (item-fault t before.In_err-end)) _ _ inv.0 inv.2)

pub read_items-returns-then-s-end : goal.read_items-returns-then-s-end
read_items-returns-then-s-end t c =
    let before = goal.at.read_items-returns-then-s-end t c in
    let inv = c.loop-value.invariant in
    moved (item_cut _ _ _ _ _ _ (labelled t before.In_ok-value) _ (item-read t before.After-read_value) _ (item-end t before.In_ok-end) c.if-s-end.true _ c.at.ensures)
    _ _ inv.0 inv.2

pub read_items-returns-then-closes : goal.read_items-returns-then-closes
read_items-returns-then-closes t c =
    let before = goal.at.read_items-returns-then-closes t c in
    let inv = c.loop-value.invariant in
    moved (item_last _ _ _ _ _ _ (labelled t before.In_ok-value) _ (item-read t before.After-read_value) _ (item-end t before.In_ok-end)
    (sym c.if-closes.ensures) _ c.form.ensures) _ _ inv.0 inv.2

pub read_items-returns-then-not-goes_on : goal.read_items-returns-then-not-goes_on
read_items-returns-then-not-goes_on t c =
    let before = goal.at.read_items-returns-then-not-goes_on t c in
    let inv = c.loop-value.invariant in
    moved (item_wrong _ _ _ _ _ _ (labelled t before.In_ok-value) _ (item-read t before.After-read_value) _ (item-end t before.In_ok-end) c.if-s-end.false
    (sym c.if-closes.ensures) (sym c.if-not-goes_on.ensures) _ c.at-then-not-goes_on.ensures) _ _ inv.0 inv.2

pub read_items-loop-value-preserved : goal.read_items-loop-value-preserved
read_items-loop-value-preserved t c =
    let before = goal.at.read_items-loop-value-preserved t c in
    let inv = c.loop-value.invariant in
    let start = labelled t before.In_ok-value in (
      omega (arith, inv.0, start.due, c.read_value.ensures.ahead _ (item-end t before.In_ok-end), c.end-i.ensures.1),
      c.end-i.ensures.2,
      sym (item_next _ _ _ _ _ _ start _ (item-read t before.After-read_value) _ (item-end t before.In_ok-end) (sym c.if-not-goes_on.ensures) _ c.end-i.ensures) ∙ inv.2,
    )

-- the bracket that opens there
opens-there : (t : ℕ) (c : read_value-In-Some t) → opens_with (drop c.args.at c.args.s.now) ≡ opens c.in-Some.kind
opens-there t c = opening_told _ _ (sym c.in-Some.ensures)

-- one more may be opened
opened : (t : ℕ) (c : read_value-In-Some-step t) → Opened c.in-Some.kind c.args.s.now c.args.at c.args.nesting.left c.in-Some-step.fewer.left
opened t c = record { opens = opens-there t (goal.at.read_value-In-Some-step t c).In-Some; deeper = one_less _ _ c.step.ensures _ c.in-Some-step.is }

pub read_value-returns-in_default : goal.read_value-returns-in_default
read_value-returns-in_default t c = leaf_value _ _ _ _ _ (opening_none _ (ap is_some (sym c.in_default.ensures))) c.read_leaf.ensures

pub read_value-overflow_add-first : goal.read_value-overflow_add-first
read_value-overflow_add-first t c =
    let start = c.args in
    omega (arith, opened_in c.in-Some.kind start.s.now start.at (opens-there t (goal.at.read_value-overflow_add-first t c).In-Some), c.opener_length.ensures)

pub read_value-returns-in_default-step : goal.read_value-returns-in_default-step
read_value-returns-in_default-step t c =
    deep_value _ _ _ _ _ (opens-there t (goal.at.read_value-returns-in_default-step t c).In-Some) (no_less _ _ c.step.ensures c.in_default-step.is) _
    (ap (λ (n : ℕ). c.args.at + n - 1) c.opener_length.ensures) _ c.at.ensures

pub read_value-overflow_add-result : goal.read_value-overflow_add-result
read_value-overflow_add-result t c =
    let start = c.args in
    let kind = c.in-Some.kind in
    let first = start.at + c.opener_length.result in
    let closed = both (may_be_empty kind) (starts_with (closer kind ∷ []) (drop first start.s.now)) (sym c.if-is_empty.ensures) in
    omega (arith, stands_inside (closer kind ∷ []) start.s.now first closed.1)

pub read_value-returns-then-is_empty : goal.read_value-returns-then-is_empty
read_value-returns-then-is_empty t c =
    let empty = both _ _ (rw c.opener_length.ensures at (sym c.is_empty.ensures ∙ c.if-is_empty.true)) in
    rw c.opener_length.ensures
    (empty_value _ _ _ _ _ _ (opened t (goal.at.read_value-returns-then-is_empty t c).In-Some-step) empty.0 empty.1 _ c.form.ensures)

pub read_value-read_items-requires : goal.read_value-read_items-requires
read_value-read_items-requires t c =
    let o = opened t (goal.at.read_value-read_items-requires t c).In-Some-step in (
      fewer_falls _ _ _ o.deeper c.decreases,
      omega (
        arith,
        opened_in c.in-Some.kind c.args.s.now c.args.at o.opens,
        c.opener_length.ensures,
      ),
    )

pub read_value-returns : goal.read_value-returns
read_value-returns t c =
    let n = c.opener_length.ensures in
    items_value _ _ _ _ _ _ (opened t (goal.at.read_value-returns t c).In-Some-step) (is_not (rw n at (sym c.is_empty.ensures ∙ c.if-is_empty.false))) _
    (rw n at c.read_items.ensures)
