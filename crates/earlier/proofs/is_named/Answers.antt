-- A law for each way out: another first letter, other bytes, and what stands behind the same bytes.
use Prim.Native.Nat.{ℕ, ◌+◌, ◌-◌}
use mathlib.Core.Path.{◌≡◌, sym, ap, ◌∙◌}
use mathlib.Core.Bool.{Bool, not}
use mathlib.Core.List.{List}
use native.Mathlib.Nat.{add-sub_cancel_left}
use lib.ListN.{length, take, drop}
use borrow.Author.Tests.{eqb-true}
use Rattle.paper.specs.Bytes.{same}
use Rattle.earlier.proofs.Naming.{first_apart, bytes_apart, by_behind}
use Rattle.earlier.proofs.is_named.Goals as goal
use Rattle.earlier.proofs.is_named.Goals.{then-s-start, else-s-start}

-- the bytes that are compared are as many as the name has
compared : (s w : List ℕ) (start : ℕ) {o : Bool} → o ≡ same (take (start + length w - start) (drop start s)) w → same (take (length w) (drop start s)) w ≡ o
compared s w start e = sym (rw add-sub_cancel_left at e)

pub returns-then-same : goal.returns-then-same
returns-then-same c =
    elim c.if-s-start.branch [
      | then-s-start w ↦
          let asked = compared _ _ c.args.start w.same.ensures ∙ sym w.value-is ∙ c.if-same.true in
          ap not c.is_name_byte.ensures ∙ by_behind _ _ _ c.requires.0 c.requires.2 asked
      | else-s-start w ↦ absurd (w.if-s-start.false (eqb-true _ _ (sym w.value-is ∙ c.if-same.true)))
    ]

pub returns-else-same : goal.returns-else-same
returns-else-same c =
    elim c.if-s-start.branch [
      | then-s-start w ↦
          let asked = compared _ _ c.args.start w.same.ensures ∙ sym w.value-is ∙ c.if-same.false in
          c.if-same.false ∙ bytes_apart _ _ _ c.requires.0 asked
      | else-s-start w ↦ c.if-same.false ∙ first_apart _ _ _ c.requires.0 c.requires.1 w.if-s-start.false
    ]
