-- Nothing around a word ends it; a bracket does by its bytes, and in a key also ":".
use mathlib.Core.Logic.{⊎_elim}
use native.Mathlib.Omega.{arith}
use Rattle.paper.specs.Bytes.{elem}
use Rattle.leaves.proofs.WordEnds.{none_of_two, none_of_three, around_is}
use Rattle.leaves.proofs.words.Around.ends.Goals as goal

pub returns-in-Nothing : goal.returns-in-Nothing
unfolding elem
returns-in-Nothing c = rw c.in-Nothing.is

pub returns-in-44 : goal.returns-in-44
unfolding elem
returns-in-44 c = around_is _ _ _ c.in-Square.is (⊎_elim (λ e. rw e) (λ e. rw e) c.in-44.is)

pub returns-in_default : goal.returns-in_default
returns-in_default c = around_is _ _ _ c.in-Square.is (none_of_two _ _ _ (grind arith, grind arith))

pub returns-in-44-matches : goal.returns-in-44-matches
unfolding elem
returns-in-44-matches c = around_is _ _ _ c.in-Round.is (⊎_elim (λ e. rw e) (λ e. rw e) c.in-44-matches.is)

pub returns-in_default-matches : goal.returns-in_default-matches
returns-in_default-matches c = around_is _ _ _ c.in-Round.is (none_of_two _ _ _ (grind arith, grind arith))

pub returns-in-58 : goal.returns-in-58
unfolding elem
returns-in-58 c = around_is _ _ _ c.in-Key.is (⊎_elim (λ e. rw e) (λ r. ⊎_elim (λ e. rw e) (λ e. rw e) r) c.in-58.is)

pub returns-in_default-matches-2 : goal.returns-in_default-matches-2
returns-in_default-matches-2 c = around_is _ _ _ c.in-Key.is (none_of_three _ _ _ _ (grind arith, grind arith, grind arith))
