-- The index of trait names while a sheet is read on: it lies before a place, then before every later one, and is as it was where no marker is read.
-- Over plain lists. Document 02, Six. Assumes nothing.
use Prim.Native.Nat.{ℕ, zero, suc, ◌+◌, ◌-◌, ◌*◌, ◌≤◌, ◌<◌}
use mathlib.Core.Path.{◌≡◌, refl, sym, ap, ◌∙◌}
use mathlib.Core.Logic.{◌⊎◌, ⊎_elim}
use mathlib.Core.List.{List, []}
use native.Mathlib.Omega.{arith}
use lib.ListN.{length, drop, get_or, replicate, length-replicate}
use Rattle.std.specs.Prelude.{Result, Ok, Err}
use Rattle.paper.specs.declared.Refused.{Refused}
use Rattle.paper.specs.Found.{Found}
use Rattle.paper.specs.Tree.{Marker}
use Rattle.paper.specs.Limits.{entry_limit}
use Rattle.paper.specs.Reading.{line_rest, content_of, closing}
use Rattle.paper.proofs.Finds.{Reads}
use Rattle.paper.proofs.Lines.{rest_reads}
use Rattle.paper.proofs.Markers.{closing_reads}
use Rattle.paper.proofs.Content.{content_reads}
use Rattle.names.specs.Runs.{key_limit}
use Rattle.entries.specs.declared.Slot.{Slot}
use Rattle.lines.specs.Parts.{part, seen, seen_of, reached, passed, MakesContent}
use Rattle.lines.specs.declared.part.Part.{Part}
use Rattle.lines.proofs.Crossing.{found_at_lem}
use Rattle.sheets.specs.Traits.{NamesBefore, NamesOnward}
use Rattle.sheets.specs.Concepts.{ended_by, line_ended}

-- what an index before a place is before any place behind it, and where it has one start more
pub names_on : {s : List ℕ} {place next : ℕ} {x : List ℕ} → NamesBefore s place x → place ≤ next → NamesBefore s next x
names_on n h = record { before = λ c. omega (arith, n.before c); roomy = n.roomy; short = n.short }

pub names_to : {s : List ℕ} {place next : ℕ} {x y : List ℕ} → NamesBefore s place x → length y ≡ length x → ((c : ℕ) → get_or y c 0 < next) → NamesBefore s next y
names_to {s} {y = y} n e h = record {
  before = h;
  roomy = rw e n.roomy;
  short = rw e n.short;
}

-- an index that has no start yet
zeros : (n c : ℕ) → ◌≡◌ {A = ℕ} (get_or (replicate n 0) c 0) 0
zeros zero c = refl
zeros (suc n) zero = refl
zeros (suc n) (suc c) = zeros n c

pub no_names : {s : List ℕ} (place n : ℕ) → (length s ≤ 2 * n) ⊎ (entry_limit < n) → n ≤ key_limit → NamesBefore s (place + 1) (replicate n 0)
no_names place n room few =
    let long = length-replicate {A = ℕ} n 0 in
    record { before = λ c. rw (zeros n c) (omega arith); roomy = rw long room; short = rw long few }

-- a marker has fewer traits than the index has cells, so that one is free
pub names_fit : {s : List ℕ} {place : ℕ} {x : List ℕ} → NamesBefore s place x → (own : ℕ) → 2 * own < length s → own ≤ entry_limit → own < length x
names_fit n own few less = ⊎_elim (λ h. omega arith) (λ h. omega arith) n.roomy

-- ---- the index behind what is read

-- up to an end that is not before its place; and whatever is answered of the same end
pub names_end : {s : List ℕ} {at : ℕ} {x : List ℕ} → NamesBefore s (at + 1) x → {r : Result Part Refused} {p : Part} → r ≡ Ok p → at ≤ p.end → NamesOnward s r x
names_end n {r} {p} q h far g = let e : p ≡ far = cc in names_on n (omega (arith, ap (λ (x : Part). x.end) e))

pub names_same : {s : List ℕ} {p : Part} {x : List ℕ} → NamesOnward s (Ok p) x → {r : Result Part Refused} {far : Part} → r ≡ Ok far → far.end ≡ p.end
    → NamesOnward s r x
names_same n e f = names_end (n _ refl) e (omega arith)

-- what a reading from its place on finds: the rest of a line, a closing marker, Content
names_read : {A : Type 0} (size own : A → ℕ) (P : A → List ℕ → Type 0) (s : List ℕ) (at : ℕ) (r : Result Part Refused) (y : Found A)
    → seen r ≡ seen_of size own s y
    → Reads (drop at s) P y → at ≤ length s → {x : List ℕ} → NamesBefore s (at + 1) x → NamesOnward s r x
names_read size own P s at r y e reads h n p g = names_end n g (found_at_lem size own s r P at y p e reads h g).ahead p g

-- the place behind a part that makes no entry
abbrev pub up_to : ℕ → Result Part Refused
up_to end = Ok (record { end = end; made = 0; own = 0 })

pub names_rest : {s : List ℕ} {at end : ℕ} → reached (Ok end) ≡ passed s (line_rest (drop at s)) → at ≤ length s → {x : List ℕ} → NamesBefore s (at + 1) x
    → NamesOnward s (up_to end) x
names_rest {s} {at} {end} e = names_read (λ b. 0) (λ b. 0) _ s at (up_to end) (line_rest (drop at s)) e (rest_reads (drop at s))

pub names_closing : (w : List ℕ) {s : List ℕ} {at end : ℕ} → reached (Ok end) ≡ passed s (closing w (drop at s)) → at ≤ length s → {x : List ℕ}
    → NamesBefore s (at + 1) x → NamesOnward s (up_to end) x
names_closing w {s} {at} {end} e = names_read (λ b. 0) (λ b. 0) _ s at (up_to end) (closing w (drop at s)) e (closing_reads w (drop at s))

pub names_content : (tabs from to : ℕ) {s : List ℕ} {at : ℕ} (cells : List ℕ) (slot : Slot) {r : Result Part Refused} (after : List ℕ)
    → MakesContent s at tabs from to cells slot r after → at ≤ length s → {x : List ℕ} → NamesBefore s (at + 1) x → NamesOnward s r x
names_content tabs from to {s} {at} cells slot {r} after m =
    let k : Marker = record { name = part s from to; traits = []; white = [] } in
    let room = slot.room - slot.next in
    names_read (λ c. 1) (λ c. 1) _ s at r (content_of tabs room k (drop at s)) (m k refl).says (content_reads tabs room k (drop at s))

-- what was read, with the rest of its line; and a Concept that ends with its body
pub names_line : {s : List ℕ} {part : Part} → part.end ≤ length s → {x : List ℕ} → NamesOnward s (Ok part) x → {r : Result Part Refused}
    → seen r ≡ line_ended s part → NamesOnward s r x
names_line {s} {part} inside n e =
    names_read (λ rest. part.made) (λ rest. part.own) _ s part.end _ (line_rest (drop part.end s)) e (rest_reads (drop part.end s)) inside (n part refl)

pub names_ended : {s : List ℕ} {body : Part} {x : List ℕ} → NamesOnward s (Ok body) x → (more : ℕ) {p : Part} → p ≡ ended_by body more → NamesOnward s (Ok p) x
names_ended n more e = names_same n refl (ap (λ (x : Part). x.end) e)
