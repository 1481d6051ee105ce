-- The invariant: the word from `i` on ends where that from `at` on does.
use Prim.Native.Nat.{◌+◌}
use mathlib.Core.Path.{◌≡◌}
use lib.ListN.{drop}
use Rattle.paper.specs.ReadingValues.{word_length}
use Rattle.leaves.specs.Kinds.{enders_of}
use Rattle.leaves.proofs.words.end_within.Given as goal

abbrev pub invariant-loop-i : goal.invariant-loop-i
invariant-loop-i l = l.i + word_length (enders_of l.around) (drop l.i l.s) ≡ l.at + word_length (enders_of l.around) (drop l.at l.s)
