-- What reading a part of a sheet answers, in numbers, and what a definition finds as such an answer.
-- Document 01, "Order" and "Entries".
use Rattle.std.specs.Prelude.{ℕ, ◌+◌, ◌-◌, ◌≤◌, ◌≡◌, Bool, true, false, ◌&&◌, Option, MatchOption, Result, Ok, Err, List, [], ◌∷◌, length, take, drop}
use Rattle.paper.specs.Answer.{number_of}
use Rattle.paper.specs.declared.Refused.{Refused}
use Rattle.paper.specs.Found.{Found, found, fault, and_then, Turn, more, over, stop, place_in}
use Rattle.paper.specs.Bytes.{is_upper, is_lower, is_blank, length_in, front, behind}
use Rattle.paper.specs.Names.{is_concept_name, is_trait_name}
use Rattle.paper.specs.Limits.{sheet_limit}
use Rattle.paper.specs.Tree.{Annotation, Marker, Concept, self_closed, children, content}
use Rattle.paper.specs.Grammar.{blank_onto, lines_onto}
use Rattle.paper.specs.Entries.{Entry, unnamed, annotation_entries}
use Rattle.paper.specs.Reading.{is_tab, due, annotation, annotations, closing_mark, closes_line, line_turn, content_of, last_blanks}
use Rattle.entries.specs.Laid.{lay}
use Rattle.entries.specs.declared.Slot.{Slot}
use Rattle.lines.specs.declared.part.Part.{Part}
use Rattle.lines.specs.declared.part.Whose.{Whose}
use Rattle.lines.specs.declared.part.Whose.TheVariants.{Concepts, Traits, Closings}

-- number, place, entries made, and entries that name the part's Concept as parent
pub record Seen : Type 0 where
  pub number : ℕ
  pub place : ℕ
  pub made : ℕ
  pub own : ℕ

abbrev pub seen : Result Part Refused → Seen
seen (Ok p) = record { number = 0; place = p.end; made = p.made; own = p.own }
seen (Err r) = record { number = number_of r.refusal; place = r.place; made = 0; own = 0 }

-- a part that makes no entry, by the place behind it
abbrev pub entryless : Result ℕ Refused → Result Part Refused
entryless (Ok end) = Ok (record { end = end; made = 0; own = 0 })
entryless (Err r) = Err r

abbrev pub reached : Result ℕ Refused → Seen
reached r = seen (entryless r)

abbrev pub seen_of : {A : Type 0} → (A → ℕ) → (A → ℕ) → List ℕ → Found A → Seen
seen_of size own s (found a left) = record { number = 0; place = place_in s left; made = size a; own = own a }
seen_of size own s (fault n left) = record { number = n; place = place_in s left; made = 0; own = 0 }

-- what makes no entry
abbrev pub passed : {A : Type 0} → List ℕ → Found A → Seen
passed s x = seen_of (λ a. 0) (λ a. 0) s x

-- a turn of a run that makes no entry
abbrev pub turned : {A : Type 0} → List ℕ → Turn A → Seen
turned s (more a left) = record { number = 0; place = place_in s left; made = 0; own = 0 }
turned s (over left) = record { number = 0; place = place_in s left; made = 0; own = 0 }
turned s (stop n left) = record { number = n; place = place_in s left; made = 0; own = 0 }

-- fixed bytes are due, each where the one before it ends
unfoldable pub due_all : List ℕ → List ℕ → Found (List ℕ)
due_all [] s = found [] s
due_all (b ∷ fixed) s = and_then (due b s) (λ c left. due_all fixed left)

-- what makes entries: the answer, and the cells with the entries of what is found laid from number n on
pub record Makes {A : Type 0} (size own : A → ℕ) (of : A → List Entry) (s cells : List ℕ) (n : ℕ) (x : Found A) (r : Result Part Refused) (after : List ℕ) : Type 0 where
  pub says : seen r ≡ seen_of size own s x
  pub laid : (a : A) (left : List ℕ) → x ≡ found a left → after ≡ lay cells n (of a)

-- a place of a sheet whose length is within the limit
pub record In (s : List ℕ) (at : ℕ) : Type 0 where
  pub within : length s ≤ sheet_limit
  pub inside : at ≤ length s

-- the rule for a name, by whose name it is; a closing name is only compared
abbrev pub rule_of : Whose → List ℕ → Bool
rule_of Concepts = is_concept_name
rule_of Traits = is_trait_name
rule_of Closings = λ w. true

-- the same by its first byte, and whether it keeps the rule but for its start
abbrev pub rule_by : Whose → ℕ → Bool → Bool
rule_by Concepts first keeps = is_upper first && keeps
rule_by Traits first keeps = is_lower first && keeps
rule_by Closings first keeps = true

-- the part of a list between two places
abbrev pub part : List ℕ → ℕ → ℕ → List ℕ
part s from to = take (to - from) (drop from s)

-- the tabs that stand at a place end at another
abbrev pub Tabbed : List ℕ → ℕ → ℕ → Type 0
Tabbed s at end = (end ≡ at + length_in is_tab (drop at s)) × (at ≤ end) × (end ≤ length s)

-- the entry of an annotation whose text starts at `at`
abbrev pub note_entries : ℕ → ℕ → Annotation → List Entry
note_entries parent at a = unnamed 4 0 parent 0 at (at + length a.text) ∷ []

-- the entry of a Concept's Content, where its opening marker ends at `at`
abbrev pub content_entries : ℕ → ℕ → ℕ → Concept → List Entry
content_entries parent tabs at (self_closed k) = []
content_entries parent tabs at (children k rest inner back) = []
content_entries parent tabs at (content k rest lines) =
    unnamed 5 0 parent 0 (at + length (blank_onto rest [])) (at + length (blank_onto rest []) + length (lines_onto tabs lines [])) ∷ []

-- ---- what is promised of an answer, and of the cells as they are after it, where the first entry goes to a slot

-- an annotation, whose text stands at a place
abbrev pub MakesNote : List ℕ → ℕ → List ℕ → Slot → Result Part Refused → List ℕ → Type 0
MakesNote s at cells slot r after =
    (tabs : ℕ) → Makes (λ a. 1) (λ a. 1) (note_entries slot.parent at) s cells slot.next (annotation (slot.room - slot.next) tabs (drop at s)) r after

-- the annotations that stand at a place
abbrev pub MakesNotes : List ℕ → ℕ → List ℕ → Slot → Result Part Refused → List ℕ → Type 0
MakesNotes s at cells slot r after =
    Makes length length (annotation_entries slot.parent at) s cells slot.next (annotations (slot.room - slot.next) (drop at s)) r after

-- the Content of a Concept whose opening marker has so many tabs and ends at a place; its name stands from one place to another
abbrev pub MakesContent : List ℕ → ℕ → ℕ → ℕ → ℕ → List ℕ → Slot → Result Part Refused → List ℕ → Type 0
MakesContent s at tabs from to cells slot r after =
    (k : Marker) → k.name ≡ part s from to
    → Makes (λ c. 1) (λ c. 1) (content_entries slot.parent tabs at) s cells slot.next (content_of tabs (slot.room - slot.next) k (drop at s)) r after

-- the closing line of a name at a place: where it ends, or none
abbrev pub Closes : List ℕ → ℕ → ℕ → List ℕ → Option ℕ → Type 0
Closes s at tabs w o =
    MatchOption o (closes_line tabs w (drop at s) ≡ false) (λ end. (closes_line tabs w (drop at s) ≡ true) × (end ≡ at + length (closing_mark tabs w)))

-- a line of Content at a place, whatever name it does not close
abbrev pub PassesLine : List ℕ → ℕ → ℕ → Result ℕ Refused → Type 0
PassesLine s at tabs r = (w : List ℕ) → closes_line tabs w (drop at s) ≡ false → reached r ≡ turned s (line_turn tabs w 0 (drop at s))

-- the blanks behind the root's last blank line
abbrev pub blanks_at_end : List ℕ → Found (List ℕ)
blanks_at_end s = last_blanks (front is_blank s) (behind is_blank s)
