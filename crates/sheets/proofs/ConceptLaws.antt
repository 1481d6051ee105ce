-- Concepts at their places: a law for each way out of reading one, and of reading what follows its marker. Assumes nothing.
use Prim.Native.Nat.{ℕ, suc, ◌+◌, ◌-◌, ◌≤◌, ◌<◌}
use mathlib.Core.Path.{◌≡◌, refl, sym, ap, ap₂, ◌∙◌}
use mathlib.Core.List.{List, [], ◌∷◌, ◌++◌, append-nil}
use native.Mathlib.Omega.{arith}
use lib.ListN.{length, drop, length-drop}
use lib.Seq.{drop-drop}
use borrow.Author.Tests.{eq-eqb, ne_eqb}
use Rattle.std.specs.Prelude.{Result, Ok, Err}
use Rattle.paper.specs.declared.Refused.{Refused}
use Rattle.paper.specs.Forms.{number_of_body}
use Rattle.paper.specs.declared.Mode.TheVariants.{Children}
use Rattle.paper.specs.Found.{Found, found, fault, and_then}
use Rattle.paper.specs.Bytes.{byte}
use Rattle.paper.specs.Modes.{Modes}
use Rattle.paper.specs.Tree.{Trait, Marker, Ending, block, self, Concept, self_closed, children, content}
use Rattle.paper.specs.Grammar.{blank_onto, traits_onto, marker_onto, ending_onto, lines_onto, in_mode}
use Rattle.paper.specs.Entries.{Entry, unnamed, traits_size, trait_entries, concept_size, concept_count, marker_of, concept_form, concept_width, marker_name, concept_entry}
use Rattle.paper.specs.Entries.{body_start, inside_entries, body_entries}
use Rattle.paper.specs.Reading.{Opened as Marked, opening, content_of, room_in, concept_of, block_of, bounds}
use Rattle.paper.proofs.Finds.{Reads}
use Rattle.paper.proofs.Widths.{marker_wide}
use Rattle.paper.proofs.Sizes.{traits_size_lem}
use Rattle.paper.proofs.Content.{ReadContent, content_reads}
use Rattle.paper.proofs.Concepts.{ReadOpening, opening_reads, ReadConcept, concept_reads}
use Rattle.modes.specs.Table.{modes_of}
use Rattle.entries.specs.Laid.{lay, slot_after, slot_under}
use Rattle.entries.specs.declared.Slot.{Slot}
use Rattle.entries.proofs.Laying.{lay_none, lay_append, lay_before}
use Rattle.entries.proofs.Slots.{fits_on}
use Rattle.text.specs.declared.nesting.Nesting.{Nesting}
use Rattle.lines.specs.Parts.{seen, Makes, part, content_entries}
use Rattle.lines.specs.declared.part.Part.{Part}
use Rattle.lines.proofs.Crossing.{FoundAt, found_at_lem, makes_passed, makes_read}
use Rattle.lines.proofs.ReadAt.{part_is}
use Rattle.sheets.specs.declared.opening.Opened.{Opened}
use Rattle.sheets.specs.Opening.{part_of, made_by, traits_in, entered_by, ReadsOpening}
use Rattle.sheets.specs.Concepts.{Ready, ReadsConcept, ended_by, cells_ended, Ends, inside_of, inside_size, inside_count, body_of_concept, InsideAt, ReadsInside}
use Rattle.sheets.proofs.Slots.{stands_on}
use Rattle.sheets.proofs.Lengths.{marker_long, concept_long, body_few}
use Rattle.sheets.proofs.Marked.{form_of, after, concept_marked, ending_of, Formed, inside_reads}

-- ---- what follows a marker of a form that ends at a place

module _ {s : List ℕ} {at : ℕ} {cells : List ℕ} {slot : Slot} (h : Ready s at cells slot) (m : Modes) (deeper tabs form : ℕ) (k : Marker) where
  abbrev Inside : Result Part Refused → List ℕ → Type 0
  Inside r last = InsideAt s at tabs cells slot (inside_of form m deeper (slot.room - slot.next) tabs k (drop at s)) r last

  pub inside_closed : form ≡ 1 → {p : Part} → p ≡ record { end = at; made = 0; own = 0 } → Inside (Ok p) cells
  unfolding inside_of
  inside_closed f {p} e =
      makes_read _ _ _ _ _ _ _ (Ok p) cells (self_closed k) _ (ap Ok e) h.in_sheet.inside (rw (f, inside_of)) refl refl (sym (lay_none cells slot.next))

  pub inside_block : form ≡ 2 → {r : Result Part Refused} {last : List ℕ}
      → InsideAt s at tabs cells slot (block_of m bounds deeper (slot.room - slot.next) k (drop at s)) r last → Inside r last
  unfolding inside_of
  inside_block f b = rw (ne_eqb form 1 (λ e. omega arith), inside_of, eq-eqb form 2 f) b

  pub inside_content : (form ≡ 1 → ⊥) → (form ≡ 2 → ⊥) → {r : Result Part Refused} {last : List ℕ}
      → Makes (λ c. 1) (λ c. 1) (content_entries slot.parent tabs at) s cells slot.next (content_of tabs (slot.room - slot.next) k (drop at s)) r last
      → Inside r last
  unfolding inside_of
  inside_content f g {r} {last} b =
      rw (
        ne_eqb form 1 f,
        inside_of,
        ne_eqb form 2 g,
      ) (go (content_of tabs (slot.room - slot.next) k (drop at s)) (content_reads tabs (slot.room - slot.next) k (drop at s)) b)
    where
      go : (x : Found Concept) → Reads (drop at s) (λ c left. ReadContent tabs (slot.room - slot.next) k (drop at s) c left) x
          → Makes (λ c. 1) (λ c. 1) (content_entries slot.parent tabs at) s cells slot.next x r last → InsideAt s at tabs cells slot x r last
      go (fault n left) h b = record { says = b.says; laid = λ c end e. let z : ◌≡◌ {A = ℕ} 0 1 = cc in absurd (omega arith) }
      go (found c left) h b =
          let q = h.1.is_content in
          record {
            says = b.says ∙ rw q;
            laid = λ d end e. let p : content k h.1.rest h.1.lines ≡ d = cc in b.laid d end e ∙ ap (lay cells slot.next) (rw (← p));
          }

-- ---- how many entries a Concept has, and which, by its marker and what follows it

traits_few : (ts : List Trait) → length ts ≤ traits_size ts
unfolding traits_size
traits_few [] = omega arith
traits_few (t ∷ ts) = omega (arith, traits_few ts)

inside_few : (c : Concept) → inside_count c ≤ inside_size c
inside_few (self_closed k) = omega arith
inside_few (children k rest body back) = body_few body
inside_few (content k rest lines) = omega arith

size_is : (c : Concept) → concept_size c ≡ 1 + traits_size (marker_of c).traits + inside_size c
unfolding concept_size
size_is (self_closed k) = omega arith
size_is (children k rest body back) = omega arith
size_is (content k rest lines) = omega arith

count_is : (c : Concept) → concept_count c ≡ length (marker_of c).traits + inside_count c
count_is (self_closed k) = omega arith
count_is (children k rest body back) = refl
count_is (content k rest lines) = refl

-- those behind its own one, where its marker ends at `end`
inside_is : (own at tabs end : ℕ) (c : Concept) → end ≡ at + length (marker_onto (marker_of c) (ending_onto (ending_of c) []))
    → inside_entries own at tabs c
    ≡ trait_entries own (own + 1) (marker_name at (marker_of c)) (marker_of c).traits ++ body_of_concept own (own + 1 + traits_size (marker_of c).traits) tabs end c
unfolding inside_entries
inside_is own at tabs end (self_closed k) e = sym (append-nil (trait_entries own (own + 1) (marker_name at k) k.traits))
inside_is own at tabs end (children k rest body back) e =
    let n : body_start at k rest ≡ end + length (blank_onto rest []) = omega (arith, marker_long k (byte ">" ∷ [])) in
    ap (λ (i : ℕ). trait_entries own (own + 1) (marker_name at k) k.traits ++ body_entries own (own + 1 + traits_size k.traits) i body) n
inside_is own at tabs end (content k rest lines) e =
    let n : body_start at k rest ≡ end + length (blank_onto rest []) = omega (arith, marker_long k (byte ">" ∷ [])) in
    ap (λ (i : ℕ). trait_entries own (own + 1) (marker_name at k) k.traits ++ (unnamed 5 0 own 0 i (i + length (lines_onto tabs lines [])) ∷ [])) n

entry_is : (parent at tabs : ℕ) (c : Concept) (form count to end : ℕ) → form ≡ concept_form c → count ≡ concept_count c → to ≡ marker_name at (marker_of c)
    → end ≡ at + concept_width tabs c
    → record { kind = 1; form = form; parent = parent; count = count; name_start = at + 1; name_end = to; start = at; end = end } ≡ concept_entry parent at tabs c
entry_is parent at tabs c form count to end f n t e = rw (f, n, t, e)

-- ---- a Concept whose "<" is due at a place

pub marker_refused : (table : List ℕ) {s : List ℕ} {at : ℕ} {cells : List ℕ} {slot : Slot} (deeper : ℕ) {e : Refused} {mid : List ℕ}
    → ReadsOpening table s at deeper cells slot (Err e) mid → (tabs : ℕ) {r : Result Part Refused} → r ≡ Err e → ReadsConcept table s at tabs deeper cells slot r mid
marker_refused table {s} {at} {cells} {slot} deeper {e} {mid} opens tabs {r} q =
    let room = slot.room - slot.next in
    makes_passed _ _ _ _ _ _ _ r mid made_by traits_in (λ x. and_then x (after (modes_of table) deeper room tabs)) (λ n left. refl)
    (opening (modes_of table) bounds deeper room (drop at s)) e opens.makes.says q (concept_marked (modes_of table) deeper room tabs (drop at s))

-- its marker was read
pub record MarkerAt (table s : List ℕ) (at : ℕ) (cells : List ℕ) (slot : Slot) (deeper : ℕ) (mid : List ℕ) (o : Opened) : Type 0 where
  pub stands : Ready s at cells slot
  pub opens : ReadsOpening table s at deeper cells slot (Ok o) mid

module _ {table s : List ℕ} {at : ℕ} {cells : List ℕ} {slot : Slot} {deeper : ℕ} {mid : List ℕ} {o : Opened}
    (known : MarkerAt table s at cells slot deeper mid o) where
  abbrev form : ℕ
  form = number_of_body o.form

  abbrev to : ℕ
  to = o.to

  abbrev end : ℕ
  end = o.end

  abbrev made : ℕ
  made = o.made

  abbrev own : ℕ
  own = o.own

  abbrev inside : Nesting
  inside = o.inside

  abbrev room : ℕ
  room = slot.room - slot.next

  abbrev m : Modes
  m = modes_of table

  abbrev marked : Found Marked
  marked = opening m bounds deeper room (drop at s)

  marker : FoundAt made_by traits_in (λ o left. ReadOpening m bounds deeper room (drop at s) o left) s at marked end made own
  marker =
      found_at_lem made_by traits_in s (part_of (Ok o)) _ at marked _ known.opens.makes.says (opening_reads m bounds deeper room (drop at s))
      known.stands.in_sheet.inside refl

  abbrev k : Marker
  k = marker.it.marker

  abbrev ending : Ending
  ending = marker.it.ends

  says : (form ≡ form_of m marker.it) × (to ≡ at + 1 + length k.name) × (suc inside.left ≡ deeper)
  says = known.opens.says o refl marker.it (drop end s) marker.finds

  -- where its name and the marker end, and that its entries have room
  pub marker_ahead : (at < to) × (to ≤ length s) × (at < end) × (end ≤ length s) × (slot.next + 1 + made ≤ slot.room)
  marker_ahead =
      let long = ap length marker.holds.covers in
      let wide = marker_wide k ending (drop end s) in (
        omega (arith, says.1),
        omega (arith, says.1, long, wide, length-drop at s, length-drop end s, known.stands.in_sheet.inside, marker.inside),
        omega (arith, long, wide, length-drop at s, length-drop end s, known.stands.in_sheet.inside, marker.inside),
        marker.inside,
        omega (arith, marker.many, marker.holds.fits),
      )

  marker_end : end ≡ at + length (marker_onto k (ending_onto ending []))
  marker_end =
      omega (
        arith,
        ap length marker.holds.covers,
        marker_long k (ending_onto ending (drop end s)),
        marker_long k (ending_onto ending []),
        go ending,
        length-drop at s,
        length-drop end s,
        known.stands.in_sheet.inside,
        marker.inside,
      )
    where
      go : (e : Ending) → length (ending_onto e (drop end s)) ≡ length (ending_onto e []) + length (drop end s)
      go block = omega arith
      go self = omega arith

  named : k.name ≡ part s (at + 1) to
  named =
      sym (part_is s k.name (traits_onto k.traits (k.white ++ ending_onto ending (drop end s))) (at + 1) to
      (sym (drop-drop 1 at s) ∙ ap (drop 1) marker.holds.covers) says.1)

  -- the slot that is lent for what follows the marker
  module _ {under : Slot} (goes_under : under ≡ slot_under slot) {next : Slot} (goes_on : next ≡ slot_after under made) where
    lends : next ≡ slot_after (slot_under slot) made
    lends = goes_on ∙ ap (λ (x : Slot). slot_after x made) goes_under

    pub lent_stands : length mid ≡ length cells → Ready s end mid next
    lent_stands held = rw lends (stands_on known.stands marker.inside (fits_on known.stands.fits held refl marker_ahead.4))

    module _ (tabs : ℕ) {b : Result Part Refused} {left : List ℕ} (body : ReadsInside table s end form tabs (at + 1) to inside.left mid next b left) where
      abbrev reading : Found Concept
      reading = concept_of m bounds deeper room tabs (drop at s)

      abbrev inner : Found Concept
      inner = after m deeper room tabs marker.it (drop end s)

      inner_is : inside_of form m inside.left (slot.room - (slot.next + 1 + made)) tabs k (drop end s) ≡ inner
      inner_is =
          let deep : inside.left ≡ deeper - 1 = omega (arith, says.2) in
          let fewer : slot.room - (slot.next + 1 + made) ≡ room_in room marker.it = omega (arith, marker.many) in
          ap (λ (f : ℕ). inside_of f m inside.left (slot.room - (slot.next + 1 + made)) tabs k (drop end s)) says.0
          ∙ ap₂ (λ (i j : ℕ). inside_of (form_of m marker.it) m i j tabs k (drop end s)) deep fewer

      follows : Makes inside_size inside_count (body_of_concept slot.next (slot.next + 1 + made) tabs end) s mid (slot.next + 1 + made) inner b left
      follows =
          let it : Makes inside_size inside_count (body_of_concept slot.next (slot.next + 1 + made) tabs end) s mid (slot.next + 1 + made)
          (inside_of form m inside.left (slot.room - (slot.next + 1 + made)) tabs k (drop end s)) b left = rw lends at (body k named) in
          rw inner_is at it

      reading_is : reading ≡ inner
      reading_is = concept_marked m deeper room tabs (drop at s) ∙ ap (λ (x : Found Marked). and_then x (after m deeper room tabs)) marker.finds

      pub inside_refused : {e : Refused} → b ≡ Err e → {r : Result Part Refused} → r ≡ Err e → {last : List ℕ} → ReadsConcept table s at tabs deeper cells slot r last
      inside_refused {e} g {r} q {last} =
          makes_passed _ _ _ _ _ _ _ r last inside_size inside_count (λ x. x) (λ n left. refl) inner e (ap seen (sym g) ∙ follows.says) q reading_is

      module _ {p : Part} (g : b ≡ Ok p) where
        abbrev far : ℕ
        far = p.end

        abbrev more : ℕ
        more = p.made

        abbrev count : ℕ
        count = p.own

        it : FoundAt inside_size inside_count (λ c left. Formed k ending (form_of m marker.it) c) s end inner far more count
        it =
            found_at_lem inside_size inside_count s b _ end inner p follows.says
            (inside_reads m (deeper - 1) (room_in room marker.it) tabs k (drop end s) ending (in_mode Children m k.name)) marker.inside g

        abbrev c : Concept
        c = it.it

        finds : reading ≡ found c (drop far s)
        finds = reading_is ∙ it.finds

        read : ReadConcept m bounds deeper room tabs (drop at s) c (drop far s)
        read =
            let r : Reads (drop at s) (λ c left. ReadConcept m bounds deeper room tabs (drop at s) c left) (found c (drop far s)) =
            rw finds at (concept_reads m bounds (length (drop at s) + 1) deeper room tabs (drop at s)) in
            r.1

        size : concept_size c ≡ 1 + made + more
        size =
            let t : traits_size (marker_of c).traits ≡ made = ap (λ (k : Marker). traits_size k.traits) it.holds.marked ∙ marker.many in
            omega (arith, size_is c, it.many)

        entry : record { kind = 1; form = form; parent = slot.parent; count = own + count; name_start = at + 1; name_end = to; start = at; end = far }
            ≡ concept_entry slot.parent at tabs c
        entry =
            let t : length (marker_of c).traits ≡ own = ap (λ (k : Marker). length k.traits) it.holds.marked ∙ marker.owned in
            entry_is slot.parent at tabs c form (own + count) to far (says.0 ∙ sym it.holds.form) (omega (arith, count_is c, it.owned))
            (says.1 ∙ ap (marker_name at) (sym it.holds.marked))
            (omega (arith, ap length read.covers, concept_long c tabs (drop far s), length-drop at s, length-drop far s, known.stands.in_sheet.inside, it.inside))

        behind_own : inside_entries slot.next at tabs c ≡ entered_by slot.next (at + 1) marker.it ++ body_of_concept slot.next (slot.next + 1 + made) tabs end c
        behind_own =
            inside_is slot.next at tabs end c (marker_end ∙ ap₂ (λ (k : Marker) (e : Ending). at + length (marker_onto k (ending_onto e []))) (sym it.holds.marked)
            (sym it.holds.ends))
            ∙ ap (λ (k : Marker). trait_entries slot.next (slot.next + 1) (marker_name at k) k.traits ++ body_of_concept slot.next
            (slot.next + 1 + traits_size k.traits) tabs end c) it.holds.marked
            ∙ ap (λ (n : ℕ). entered_by slot.next (at + 1) marker.it ++ body_of_concept slot.next (slot.next + 1 + n) tabs end c) marker.many

        left_is : left ≡ lay cells (slot.next + 1) (inside_entries slot.next at tabs c)
        left_is =
            let ts = entered_by slot.next (at + 1) marker.it in
            let rest = body_of_concept slot.next (slot.next + 1 + made) tabs end c in
            let n : made ≡ length ts = sym marker.many ∙ sym (traits_size_lem k.traits slot.next (slot.next + 1) (at + 1 + length k.name)) in
            follows.laid c (drop far s) it.finds
            ∙ ap₂ (λ (x : List ℕ) (i : ℕ). lay x (slot.next + 1 + i) rest) (known.opens.makes.laid marker.it (drop end s) marker.finds) n
            ∙ lay_append cells (slot.next + 1) ts rest
            ∙ ap (lay cells (slot.next + 1)) (sym behind_own)

        ended_fits : (slot.next + 1 + made + more ≤ slot.room) × (own ≤ made) × (count ≤ more) × (far ≤ length s)
        ended_fits = (
          omega (arith, read.fits, size, marker_ahead.4),
          omega (arith, traits_few k.traits, marker.many, marker.owned),
          omega (arith, inside_few c, it.many, it.owned),
          it.inside,
        )

        pub may_end : length left ≡ length cells → Ends left slot p at to made own
        may_end held =
            record {
              fits = fits_on known.stands.fits held refl known.stands.fits.inside;
              room = ended_fits.0;
              traits = ended_fits.1;
              count = ended_fits.2;
              short = omega (arith, ended_fits.3, known.stands.in_sheet.within);
              named = (marker_ahead.0, omega (arith, marker_ahead.1, known.stands.in_sheet.within));
            }

        pub concept_ended : {q : Part} {last : List ℕ} → q ≡ ended_by p made → last ≡ cells_ended left slot p form at to own
            → ReadsConcept table s at tabs deeper cells slot (Ok q) last
        concept_ended {q} {last} e l =
            makes_read _ _ _ _ _ _ _ (Ok q) last c _ (ap Ok e) it.inside finds (sym size) refl
            (l ∙ ap₂ (λ (x : List ℕ) (e : Entry). lay x slot.next (e ∷ [])) left_is entry ∙ lay_before cells slot.next (concept_entry slot.parent at tabs c)
            (inside_entries slot.next at tabs c))
