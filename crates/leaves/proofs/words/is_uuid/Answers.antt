-- The size, and one group after another.
use mathlib.Core.Path.{◌≡◌, sym, ◌∙◌}
use mathlib.Core.Bool.{◌&&◌}
use lib.Dec.{eqb}
use lib.ListN.{length, drop}
use borrow.Author.Tests.{eq-eqb, ne_eqb}
use Rattle.leaves.specs.Kinds.{is_group}
use Rattle.leaves.proofs.Groups.{both_first, both_second, uuid_of, uuid_not}
use Rattle.leaves.proofs.words.is_uuid.Goals as goal
use Rattle.leaves.proofs.words.is_uuid.Goals.{Joined-is_group-3}
use Rattle.leaves.proofs.words.is_uuid.Goals.{then-w-eq36, else-w-eq36, then-is_group, else-is_group, then-is_group-2, else-is_group-2, then-is_group-3, else-is_group-3}

sized : (c : Joined-is_group-3) → c.if-w-eq36.value ≡ (eqb (length c.args.w.now) 36 && is_group 8 c.args.w.now)
sized c = elim c.if-w-eq36.branch [
  | then-w-eq36 w ↦ w.value-is ∙ both_second (eq-eqb _ _ w.if-w-eq36.true) w.is_group.ensures
  | else-w-eq36 w ↦ both_first _ (ne_eqb _ _ w.if-w-eq36.false) w.value-is
]

second : (c : Joined-is_group-3) → c.if-is_group.value ≡ (c.if-w-eq36.value && is_group 4 (drop 9 c.args.w.now))
second c = elim c.if-is_group.branch [
  | then-is_group w ↦ w.value-is ∙ both_second w.if-is_group.true w.is_group-then-is_group.ensures
  | else-is_group w ↦ both_first _ w.if-is_group.false w.value-is
]

third : (c : Joined-is_group-3) → c.if-is_group-2.value ≡ (c.if-is_group.value && is_group 4 (drop 14 c.args.w.now))
third c = elim c.if-is_group-2.branch [
  | then-is_group-2 w ↦ w.value-is ∙ both_second w.if-is_group-2.true w.is_group-then-is_group-2.ensures
  | else-is_group-2 w ↦ both_first _ w.if-is_group-2.false w.value-is
]

fourth : (c : Joined-is_group-3) → c.if-is_group-3.value ≡ (c.if-is_group-2.value && is_group 4 (drop 19 c.args.w.now))
fourth c = elim c.if-is_group-3.branch [
  | then-is_group-3 w ↦ w.value-is ∙ both_second w.if-is_group-3.true w.is_group-then-is_group-3.ensures
  | else-is_group-3 w ↦ both_first _ w.if-is_group-3.false w.value-is
]

all_four : (c : Joined-is_group-3) → let w = c.args.w.now in
    c.if-is_group-3.value
    ≡ ((((eqb (length w) 36 && is_group 8 w) && is_group 4 (drop 9 w)) && is_group 4 (drop 14 w)) && is_group 4 (drop 19 w))
all_four c = rw (fourth c, third c, second c, sized c)

pub returns-then-is_group-4 : goal.returns-then-is_group-4
returns-then-is_group-4 c =
    uuid_of _ _ c.end.ensures.0 (sym (all_four (goal.at.returns-then-is_group-4 c).Joined-is_group-3) ∙ c.if-is_group-4.true)

pub returns-else-is_group-4 : goal.returns-else-is_group-4
returns-else-is_group-4 c =
    c.if-is_group-4.false ∙ uuid_not _ (sym (all_four (goal.at.returns-else-is_group-4 c).Joined-is_group-3) ∙ c.if-is_group-4.false)
