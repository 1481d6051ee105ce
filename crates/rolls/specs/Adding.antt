-- What adding leaves of the roll, for the tree that a sheet and its entries are of.
-- Document 01, "Rolls", and refusals 12, 14 and 16.
use Rattle.std.specs.Prelude.{ℕ, ◌≡◌, List, length, replicate, leb}
use Rattle.paper.specs.Answer.{refused}
use Rattle.paper.specs.declared.Told.{Told}
use Rattle.paper.specs.Found.{pick}
use Rattle.paper.specs.Tree.{Sheet}
use Rattle.paper.specs.Canonical.{canonical}
use Rattle.paper.specs.Roll.{add_form, add_tree}
use Rattle.printing.specs.Walking.{OfSheet}

-- these are the entries of a sheet that was read
pub record IsRead (s cells : List ℕ) : Type 0 where
  pub it : Sheet
  pub of : OfSheet s cells it

-- the sheet is added or refused; and so is its form, whatever stands before its root
abbrev pub SheetAdded : List ℕ → List ℕ → List ℕ → ℕ → Told → List ℕ → Type 0
SheetAdded s cells roll n answer after =
    (t : Sheet) (lent : ℕ) → OfSheet s cells t → record { answer = answer; out = after; cells = replicate lent 0 } ≡ add_tree lent roll n t

abbrev pub FormAdded : List ℕ → List ℕ → List ℕ → ℕ → Told → List ℕ → Type 0
FormAdded s cells roll n answer after =
    (t : Sheet) (lent : ℕ) → OfSheet s cells t → record { answer = answer; out = after; cells = replicate lent 0 } ≡ add_form lent roll n (canonical t)

-- where the first n bytes do not end in LF: 12 for a form that is longer than the room, else 14
abbrev pub unended : List ℕ → ℕ → ℕ → Told
unended form room n = pick (leb (length form) room) (refused 14 n) (refused 12 0)

abbrev pub Unended : List ℕ → List ℕ → ℕ → ℕ → Told → Type 0
Unended s cells room n answer = (t : Sheet) → OfSheet s cells t → answer ≡ unended (canonical t) room n
