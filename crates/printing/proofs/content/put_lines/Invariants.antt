-- The invariant: what is left of the lines stands at i and is still to be put. The measure is what is left of the bytes. Assumes nothing.
use Prim.Native.Nat.{ℕ, suc, ◌-◌}
use mathlib.Core.Path.{◌≡◌}
use mathlib.Core.Bool.{true}
use mathlib.Core.List.{List, []}
use lib.ListN.{length}
use Rattle.paper.specs.Bytes.{all}
use Rattle.paper.specs.Tree.{Line}
use Rattle.paper.specs.Grammar.{lines_onto, line_rule}
use Rattle.quoting.proofs.Sequences.{Left}
use Rattle.printing.proofs.LineTexts.{line_run}
use Rattle.printing.proofs.content.put_lines.Given as goal

abbrev pub invariant-loop-i : goal.invariant-loop-i
invariant-loop-i l =
    (t : ℕ) (ls : List Line) → l.lines ≡ lines_onto t ls [] → l.cut ≡ suc t → all line_rule ls ≡ true
    → Left (line_run t l.tabs) l.lines l.initial.page ls l.i l.page

abbrev pub decreases-loop-i : goal.decreases-loop-i
decreases-loop-i l = length l.lines - l.i
