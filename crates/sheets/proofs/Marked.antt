-- A Concept by its opening marker: what follows the marker, by the form that it gives. Assumes nothing.
use Prim.Native.Nat.{ℕ, ◌+◌, ◌-◌}
use mathlib.Core.Path.{◌≡◌, refl, ◌∙◌}
use mathlib.Core.Bool.{Bool, true, false}
use mathlib.Core.List.{List}
use lib.ListN.{length}
use Rattle.paper.specs.declared.Mode.TheVariants.{Children}
use Rattle.paper.specs.Found.{Found, found, and_then}
use Rattle.paper.specs.Modes.{Modes}
use Rattle.paper.specs.Tree.{Marker, Concept, self_closed, children, content, Ending, block, self}
use Rattle.paper.specs.Grammar.{in_mode}
use Rattle.paper.specs.Entries.{marker_of, concept_form}
use Rattle.paper.specs.Reading.{Opened, opening, content_of, room_in, inside_by, concept_of, block_of, bounds}
use Rattle.paper.proofs.Finds.{whole, Reads, reads_as, then_alike}
use Rattle.paper.proofs.Content.{content_reads}
use Rattle.paper.proofs.Concepts.{children_reads}
use Rattle.paper.proofs.Fuel.{concept_of_lem}
use Rattle.sheets.specs.Opening.{block_form, form_in}
use Rattle.sheets.specs.Concepts.{inside_of}

-- the form of a Concept with this marker
abbrev pub form_of : Modes → Opened → ℕ
form_of m o = form_in (block_form m o.marker.name) o.ends

-- what follows the marker
abbrev pub after : Modes → ℕ → ℕ → ℕ → Opened → List ℕ → Found Concept
after m deeper room tabs o left = inside_of (form_of m o) m (deeper - 1) (room_in room o) tabs o.marker left

module _ (m : Modes) (deeper room tabs : ℕ) where
  after_is : (o : Opened) (left : List ℕ) → inside_by m (block_of m bounds) deeper room tabs o left ≡ after m deeper room tabs o left
  unfolding inside_of
  after_is o left = go o.ends (in_mode Children m o.marker.name)
    where
      go : (e : Ending) (test : Bool) → elim e [
        | self ↦ found (self_closed o.marker) left
        | block ↦ elim test [ true ↦ block_of m bounds (deeper - 1) (room_in room o) o.marker left | false ↦ content_of tabs (room_in room o) o.marker left ]
      ] ≡ inside_of (form_in (elim test [ true ↦ 2 | false ↦ 3 ]) e) m (deeper - 1) (room_in room o) tabs o.marker left
      go self test = refl
      go block true = refl
      go block false = refl

  pub concept_marked : (s : List ℕ) → concept_of m bounds deeper room tabs s ≡ and_then (opening m bounds deeper room s) (after m deeper room tabs)
  concept_marked s = concept_of_lem m bounds deeper room tabs s ∙ then_alike (opening m bounds deeper room s) _ _ after_is

-- ---- what follows a marker

abbrev pub ending_of : Concept → Ending
ending_of (self_closed k) = self
ending_of (children k rest body back) = block
ending_of (content k rest lines) = block

-- a Concept of this marker, ending and form
pub record Formed (k : Marker) (e : Ending) (kind : ℕ) (c : Concept) : Type 0 where
  pub marked : marker_of c ≡ k
  pub ends : ending_of c ≡ e
  pub form : concept_form c ≡ kind

pub inside_reads : (m : Modes) (deeper room tabs : ℕ) (k : Marker) (s : List ℕ) (e : Ending) (test : Bool)
    → let form = form_in (elim test [ true ↦ 2 | false ↦ 3 ]) e in Reads s (λ c left. Formed k e form c) (inside_of form m deeper room tabs k s)
unfolding inside_of
inside_reads m deeper room tabs k s self test = (whole, record { marked = refl; ends = refl; form = refl })
inside_reads m deeper room tabs k s block true =
    reads_as s _ _ (block_of m bounds deeper room k s) (children_reads m bounds (length s + 3) deeper room k s)
    (λ c left r. rw r.is_children (record { marked = refl; ends = refl; form = refl }))
inside_reads m deeper room tabs k s block false =
    reads_as s _ _ (content_of tabs room k s) (content_reads tabs room k s) (λ c left r. rw r.is_content (record { marked = refl; ends = refl; form = refl }))
