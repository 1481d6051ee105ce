-- A whole sheet under a valid table: what is answered and written where nothing is zeroed. And the part of an entry.
-- Document 01, "Refusal numbers", "Order" and "Entries".
use Rattle.std.specs.Prelude.{ℕ, ◌+◌, ◌≡◌, true, false, Option, None, Some, Result, List, length}
use Rattle.std.specs.Borrow.{Bor}
use Rattle.paper.specs.Answer.{accepted, refused}
use Rattle.paper.specs.declared.Refused.{Refused}
use Rattle.paper.specs.declared.Told.{Told}
use Rattle.paper.specs.Found.{Found, found, fault, and_then, place_in}
use Rattle.paper.specs.Bytes.{is_blank, front, behind}
use Rattle.paper.specs.Tree.{Sheet}
use Rattle.paper.specs.Limits.{concept_limit}
use Rattle.paper.specs.Entries.{sheet_size, entries}
use Rattle.paper.specs.Reading.{blank_lines, last_blanks, sheet_tree, sheet_of, room_of, bounds}
use Rattle.paper.specs.View.{viewable, viewed}
use Rattle.modes.specs.Table.{modes_of}
use Rattle.entries.specs.Laid.{lay}
use Rattle.lines.specs.Parts.{Makes}
use Rattle.lines.specs.declared.part.Part.{Part}

-- the answer of a sheet that is read as x
abbrev pub answer_of : List ℕ → Found Sheet → Told
answer_of s (found t left) = accepted (length s) (length (entries t))
answer_of s (fault n left) = refused n (place_in s left)

-- the answer, and the cells where the sheet is accepted; a refusal says nothing of them
pub record AnswersSheet (s cells : List ℕ) (x : Found Sheet) (answer : Told) (after : List ℕ) : Type 0 where
  pub says : answer ≡ answer_of s x
  pub laid : (t : Sheet) (left : List ℕ) → x ≡ found t left → after ≡ lay cells 0 (entries t)

-- a whole sheet, in the room that the cells have
abbrev pub ReadsUnder : List ℕ → List ℕ → List ℕ → Told → List ℕ → Type 0
ReadsUnder table s cells answer after = AnswersSheet s cells (sheet_of (modes_of table) (room_of (length cells)) s) answer after

-- the root and its annotations
abbrev pub root_count : Sheet → ℕ
root_count t = length t.annotations + 1

-- its tree, behind the checks of length and bytes
abbrev pub ReadsTree : List ℕ → List ℕ → List ℕ → Result Part Refused → List ℕ → Type 0
ReadsTree table s cells r after =
    Makes sheet_size root_count entries s cells 0 (sheet_tree (modes_of table) bounds concept_limit (room_of (length cells)) s) r after

-- the blank lines behind the root, up to the end of input
abbrev pub behind_root : List ℕ → Found (List ℕ)
behind_root s = and_then (blank_lines s) (λ after left. last_blanks (front is_blank left) (behind is_blank left))

-- r lends the part of an entry, if it can be viewed
abbrev pub LendsPart : List ℕ → List ℕ → ℕ → Option (Bor (List ℕ)) → Type 0
LendsPart s cells n None = viewable s cells n ≡ false
LendsPart s cells n (Some part) = (viewable s cells n ≡ true) × (part.now ≡ viewed s cells n)
