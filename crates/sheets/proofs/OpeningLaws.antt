-- Opening markers: a law for each way out of src/opening.rt. Over plain lists. Assumes nothing.
-- Document 01, "The grammar", Markers, and "Order".
use Prim.Native.Nat.{ℕ, zero, suc, ◌+◌, ◌-◌, ◌≤◌, ◌<◌}
use mathlib.Core.Path.{◌≡◌, refl, sym, ap, subst, ◌∙◌}
use mathlib.Core.Bool.{Bool, true, false}
use mathlib.Core.List.{List, ◌++◌}
use native.Mathlib.Omega.{arith}
use lib.ListN.{length, drop, length-append, length-drop}
use lib.Seq.{drop-drop}
use lib.Dec.{leb}
use borrow.Author.Tests.{leb-true, leb-false}
use Rattle.paper.specs.declared.Mode.TheVariants.{Children, Content, Absent}
use Rattle.paper.specs.declared.Refusal.{Refusal}
use Rattle.std.specs.Prelude.{Result, Ok, Err}
use Rattle.paper.specs.declared.Refused.{Refused}
use Rattle.paper.specs.declared.Refusal.TheVariants.{NoEntryLeft, TooDeep, Unlisted}
use Rattle.paper.specs.declared.forms.Body.{Body}
use Rattle.paper.specs.Forms.{number_of_body}
use Rattle.paper.specs.Answer.{number_of, refused_at}
use Rattle.paper.specs.Found.{Found, found, fault, and_then}
use Rattle.paper.specs.Bytes.{byte, is_white, front, behind}
use Rattle.paper.specs.Names.{is_concept_name}
use Rattle.paper.specs.Modes.{Modes, mode_of}
use Rattle.paper.specs.Tree.{Trait, Marker, Ending as Ends, block, self}
use Rattle.paper.specs.Entries.{Entry, traits_size, trait_entries}
use Rattle.paper.specs.Grammar.{in_mode}
use Rattle.paper.specs.Reading.{due, name, makes, no_trait, ending, Opened as Marked, opened, admitted, head, named, bounds}
use Rattle.paper.proofs.Finds.{Reads}
use Rattle.paper.proofs.Lines.{makes_complete}
use Rattle.paper.proofs.Markers.{ReadTraits, traits_reads, ending_reads, ReadOpened, opened_reads}
use Rattle.paper.proofs.Concepts.{ReadHead, head_reads}
use Rattle.modes.specs.Table.{modes_of}
use Rattle.text.proofs.Stretch.{Stretch, behind_at}
use Rattle.entries.specs.Laid.{lay, slot_under, Fits}
use Rattle.entries.specs.declared.Slot.{Slot}
use Rattle.text.specs.declared.nesting.Nesting.{Nesting}
use Rattle.lines.specs.Parts.{Seen, seen, seen_of, entryless, reached, passed, Makes, In, part}
use Rattle.lines.specs.Endings.{Ended, ended, ends_of, ended_of}
use Rattle.lines.specs.declared.part.Part.{Part}
use Rattle.lines.specs.declared.marks.Ending.{Ending}
use Rattle.lines.specs.declared.marks.Ending.TheVariants.{Block, Closed}
use Rattle.lines.proofs.Crossing.{FoundAt, found_at_lem, reached_at, refused_then, makes_refused, makes_passed, makes_read}
use Rattle.lines.proofs.Closing.{part_length}
use Rattle.lines.proofs.ReadAt.{DueAt, part_is}
use Rattle.sheets.specs.Traits.{traits_of, NamesBefore, NamesOnward}
use Rattle.sheets.specs.Opening.{held_of, block_form, form_in, part_of, made_by, traits_in, entered_by, Opens, ReadsOpening, ReadsNamed, ReadsMarker}
use Rattle.sheets.specs.declared.opening.Opened.{Opened}
use Rattle.sheets.proofs.NameIndex.{names_on, names_end}

-- ---- an answer: refused, or read

module _ (deeper : ℕ) (forms : List ℕ → ℕ) (s : List ℕ) (start : ℕ) (cells : List ℕ) (slot : Slot) (x : Found Marked) (r : Result Opened Refused)
    (after : List ℕ) where
  opens_refused : (e : Refused) → r ≡ Err e
      → Makes made_by traits_in (entered_by slot.next start) s cells (slot.next + 1) x (part_of r) after → Opens deeper forms s start cells slot x r after
  opens_refused e q k = record { makes = k; says = λ a g. let z : ◌≡◌ {A = ℕ} 0 1 = cc in absurd (omega arith) }

  -- a fault at a place, and one that whatever reads on keeps
  opens_fault : (why : Refusal) (at : ℕ) → r ≡ Err (refused_at why at) → at ≤ length s → x ≡ fault (number_of why) (drop at s)
      → Opens deeper forms s start cells slot x r after
  opens_fault why at q h f = opens_refused (refused_at why at) q (makes_refused _ _ _ _ _ _ x (part_of r) after why at (ap part_of q) h f)

  opens_passed : {B : Type 0} (many mine : B → ℕ) (outer : Found B → Found Marked) → ((n : ℕ) (left : List ℕ) → outer (fault n left) ≡ fault n left)
      → (y : Found B) (e : Refused) → seen (Err e) ≡ seen_of many mine s y → r ≡ Err e → x ≡ outer y → Opens deeper forms s start cells slot x r after
  opens_passed many mine outer keeps y e k q f =
      opens_refused e q (makes_passed _ _ _ _ _ _ x (part_of r) after many mine outer keeps y e k (ap part_of q) f)

  opens_read : (o : Marked) (a : Opened) → r ≡ Ok a → a.end ≤ length s → x ≡ found o (drop a.end s)
      → a.made ≡ made_by o → a.own ≡ traits_in o → after ≡ lay cells (slot.next + 1) (entered_by slot.next start o)
      → (number_of_body a.form ≡ form_in (forms o.marker.name) o.ends) × (a.to ≡ start + length o.marker.name) × (suc a.inside.left ≡ deeper)
      → Opens deeper forms s start cells slot x r after
  opens_read o a q i f m n l h =
      record {
        makes = makes_read _ _ _ _ _ _ x (part_of r) after o _ (ap part_of q) i f m n l;
        says = λ b g j rest e.
            let n : a ≡ b = cc in
            let i : o ≡ j = cc in
            rw (← n, ← i) h;
      }

-- ---- how a marker ends: the answer of the ending as that of a part

abbrev end_as : Ends → ℕ → Ending
end_as block = Block
end_as self = Closed

abbrev end_part : Result Ending Refused → Result Part Refused
end_part (Ok (Block end)) = entryless (Ok end)
end_part (Ok (Closed end)) = entryless (Ok end)
end_part (Err e) = Err e

abbrev unclosed : Ended → Seen
unclosed y = record { number = y.number; place = y.place; made = 0; own = 0 }

end_passed : (s : List ℕ) (a : Result Ending Refused) (x : Found Ends) → ended a ≡ ended_of s x → seen (end_part a) ≡ passed s x
end_passed s a x e = told a ∙ ap unclosed e ∙ found_as x
  where
    told : (a : Result Ending Refused) → seen (end_part a) ≡ unclosed (ended a)
    told (Ok (Block end)) = refl
    told (Ok (Closed end)) = refl
    told (Err e) = refl

    found_as : (x : Found Ends) → unclosed (ended_of s x) ≡ passed s x
    found_as (found block left) = refl
    found_as (found self left) = refl
    found_as (fault n left) = refl

-- the ending that is told is the one that is found
end_found : (s : List ℕ) (mark : ℕ) → mark ≤ length s → (a : Result Ending Refused) → ended a ≡ ended_of s (ending (drop mark s)) → (e : Ends) (end : ℕ)
    → a ≡ Ok (end_as e end) → (ending (drop mark s) ≡ found e (drop end s)) × (end ≤ length s) × (mark ≤ end)
end_found s mark h a says e end q =
    let f =
    found_at_lem (λ e. 0) (λ e. 0) s (end_part a) _ mark (ending (drop mark s)) _ (end_passed s a (ending (drop mark s)) says) (ending_reads (drop mark s)) h
    (ap end_part q ∙ read e) in
    (f.finds ∙ ap (λ (i : Ends). found i (drop end s)) (same e f.it (drop end s) (sym (ap ended q) ∙ says ∙ ap (ended_of s) f.finds)), f.inside, f.ahead)
  where
    read : (e : Ends) → end_part (Ok (end_as e end)) ≡ entryless (Ok end)
    read block = refl
    read self = refl

    same : (e i : Ends) (left : List ℕ) → ended (Ok (end_as e end)) ≡ ends_of s i left → i ≡ e
    same block block left h = refl
    same self self left h = refl
    same block self left h = absurd (omega (arith, ap (λ (y : Ended). y.closed) h))
    same self block left h = absurd (omega (arith, ap (λ (y : Ended). y.closed) h))

-- ---- behind a name that is admitted: an entry for the Concept, traits behind it, white space, the ending

-- traits that are read up to an end
traits_at : (of : List Trait → List Entry) (s cells : List ℕ) (n room to : ℕ) (t : Result Part Refused) (after : List ℕ) (p : Part)
    → to ≤ length s → Makes traits_size length of s cells n (traits_of room (drop to s)) t after → t ≡ Ok p
    → FoundAt traits_size length (ReadTraits bounds (no_trait room) (drop to s)) s to (traits_of room (drop to s)) p.end p.made p.own
traits_at of s cells n room to t after p h k q =
    found_at_lem traits_size length s t (ReadTraits bounds (no_trait room) (drop to s)) to (traits_of room (drop to s)) p k.says
    (traits_reads bounds (no_trait room) (drop to s)) h q

-- what a marker makes of its ending
abbrev marked_by : Marker → Found Ends → Found Marked
marked_by k x = and_then x (λ e left. found (record { marker = k; ends = e }) left)

-- a marker that is read up to its ending, which is due at a mark, and its traits are entered
pub record TraitsAt (s : List ℕ) (start to : ℕ) (cells : List ℕ) (slot : Slot) (after : List ℕ) (mark made own : ℕ) : Type 0 where
  pub it : Marker
  pub finds : held_of (slot.room - slot.next) (drop start s) (part s start to) (drop to s) ≡ marked_by it (ending (drop mark s))
  pub wide : to ≡ start + length it.name
  pub many : traits_size it.traits ≡ made
  pub owned : length it.traits ≡ own
  pub inside : mark ≤ length s
  pub laid : after ≡ lay cells (slot.next + 1) (trait_entries slot.next (slot.next + 1) (start + length it.name) it.traits)

-- a name stands from `start` to `to`; the Concept that it is of may stand here, and so many may be opened in it
abbrev Holds : List ℕ → ℕ → ℕ → ℕ → Nesting → List ℕ → Slot → Result Opened Refused → List ℕ → Type 0
Holds s start to form inside cells slot r after = ReadsMarker s start to form (suc inside.left) cells slot r after

module _ {s : List ℕ} {to : ℕ} (place : In s to) {cells : List ℕ} {slot : Slot} (fits : Fits cells slot) where
  pub traits_inside : (under : Slot) {t : Result Part Refused} {after : List ℕ}
      → Makes traits_size length (trait_entries under.parent under.next to) s cells under.next (traits_of (under.room - under.next) (drop to s)) t after
      → {p : Part} → t ≡ Ok p → p.end ≤ length s
  traits_inside under {t} {after} k {p} q = (traits_at _ s cells under.next (under.room - under.next) to t after p place.inside k q).inside

  module _ {start : ℕ} (ahead : start ≤ to) (form : ℕ) where
    abbrev held : Found Marked
    held = held_of (slot.room - slot.next) (drop start s) (part s start to) (drop to s)

    module _ {o : Bool} (asked : o ≡ leb slot.room slot.next) where
      pub no_room : o ≡ true → {inside : Nesting} {r : Result Opened Refused} → r ≡ Err (refused_at NoEntryLeft start) → Holds s start to form inside cells slot r cells
      unfolding makes
      no_room t {inside} {r} q =
          let none : slot.room - slot.next ≡ 0 = omega (arith, leb-true slot.room slot.next (sym asked ∙ t)) in
          opens_fault _ _ _ _ _ _ held r cells NoEntryLeft start q (omega (arith, place.inside)) (rw none)

      module _ (f : o ≡ false) {under : Slot} (b : under ≡ slot_under slot) {t : Result Part Refused} {after : List ℕ}
          (k : Makes traits_size length (trait_entries under.parent under.next to) s cells under.next
          (traits_of (under.room - under.next) (drop to s)) t after) where
        -- the traits, and what the marker makes of them
        abbrev traits : Found (List Trait)
        traits = traits_of (slot.room - slot.next - 1) (drop to s)

        abbrev of_traits : Found (List Trait) → Found Marked
        of_traits y =
            and_then y (λ ts left. and_then (ending (behind is_white left)) (λ e end.
            found (record { marker = record { name = part s start to; traits = ts; white = front is_white left }; ends = e }) end))

        by_traits : held ≡ of_traits traits
        unfolding opened
        by_traits =
            rw (makes_complete (slot.room - slot.next) (drop start s) (part s start to) (drop to s)
            (omega (arith, leb-false slot.room slot.next (sym asked ∙ f))))

        made_traits : Makes traits_size length (trait_entries slot.next (slot.next + 1) to) s cells (slot.next + 1) traits t after
        made_traits = let n : slot.room - (slot.next + 1) ≡ slot.room - slot.next - 1 = omega arith in rw (← n) (rw b at k)

        pub traits_refused : {e : Refused} → t ≡ Err e → {inside : Nesting} {r : Result Opened Refused} → r ≡ Err e → Holds s start to form inside cells slot r after
        traits_refused {e} p {inside} {r} q =
            opens_passed _ _ _ _ _ _ held r after traits_size length of_traits (λ n left. refl) traits e (ap seen (sym p) ∙ made_traits.says) q by_traits

        pub marker_traits : {p : Part} → t ≡ Ok p → {mark : ℕ} → Stretch is_white s p.end mark → TraitsAt s start to cells slot after mark p.made p.own
        marker_traits {p} q {mark} white =
            let f = traits_at _ s cells (slot.next + 1) (slot.room - slot.next - 1) to t after p place.inside made_traits q in
            let wide : to ≡ start + length (part s start to) = omega (arith, part_length s start to ahead place.inside) in
            record {
              it = record { name = part s start to; traits = f.it; white = front is_white (drop p.end s) };
              finds = by_traits ∙ rw (f.finds, behind_at is_white s p.end mark white);
              wide = wide;
              many = f.many;
              owned = f.owned;
              inside = white.2;
              laid =
                  made_traits.laid f.it (drop p.end s) f.finds
                  ∙ ap (λ (at : ℕ). lay cells (slot.next + 1) (trait_entries slot.next (slot.next + 1) at f.it)) wide;
            }

-- its ending
module _ {s : List ℕ} {start to : ℕ} {cells : List ℕ} {slot : Slot} {after : List ℕ} {mark made own : ℕ}
    (known : TraitsAt s start to cells slot after mark made own)
    (form : ℕ) (a : Result Ending Refused) (says : ended a ≡ ended_of s (ending (drop mark s))) where
  pub ending_refused : {e : Refused} → a ≡ Err e → {inside : Nesting} {r : Result Opened Refused} → r ≡ Err e → Holds s start to form inside cells slot r after
  ending_refused {e} g {inside} {r} q =
      opens_passed _ _ _ _ _ _ _ r after (λ e. 0) (λ e. 0) (marked_by known.it) (λ n left. refl) (ending (drop mark s)) e
      (ap (λ (i : Result Ending Refused). seen (end_part i)) (sym g) ∙ end_passed s a (ending (drop mark s)) says) q known.finds

  pub marker_read : (e : Ends) {kind : Body} {last : ℕ} → a ≡ Ok (end_as e last) → number_of_body kind ≡ form_in form e → {inside : Nesting}
      {r : Result Opened Refused}
      → r ≡ Ok (record { form = kind; to = to; end = last; made = made; own = own; inside = inside })
      → Holds s start to form inside cells slot r after
  marker_read e {kind} {last} g u {inside} {r} q =
      let at = end_found s mark known.inside a says e last g in
      opens_read _ _ _ _ _ _ _ r after (record { marker = known.it; ends = e }) _ q at.1
      (known.finds ∙ ap (marked_by known.it) at.0)
      (sym known.many) (sym known.owned) known.laid (u, known.wide, refl)

-- an index of names that lies before its ending lies before its end
pub marker_names : {s : List ℕ} {mark : ℕ} {x : List ℕ} → NamesBefore s (mark + 1) x → mark ≤ length s → (a : Result Ending Refused)
    → ended a ≡ ended_of s (ending (drop mark s)) → (e : Ends) {last : ℕ} → a ≡ Ok (end_as e last)
    → {t : Result Part Refused} {made own : ℕ} → t ≡ Ok (record { end = last; made = made; own = own }) → NamesOnward s t x
marker_names {s} {mark} lies h a says e {last} g q =
    let at = end_found s mark h a says e last g in
    names_end (names_on lies (omega arith)) q at.2

-- ---- a name that is judged by nesting, table and room

-- a name that the table lists, and the form of its blocks
module _ (m : Modes) (w : List ℕ) where
  pub in_children : Children ≡ mode_of m w → {form : ℕ} → form ≡ 2 → (in_mode Absent m w ≡ false) × (block_form m w ≡ form)
  unfolding in_mode
  in_children e f = (rw (sym e, in_mode), rw (sym e, block_form, in_mode, f))

  pub in_content : Content ≡ mode_of m w → {form : ℕ} → form ≡ 3 → (in_mode Absent m w ≡ false) × (block_form m w ≡ form)
  unfolding in_mode
  in_content e f = (rw (sym e, in_mode), rw (sym e, block_form, in_mode, f))

-- a marker that is found behind a name has that name
held_named : (room : ℕ) (at w left : List ℕ) (o : Marked) (end : List ℕ) → held_of room at w left ≡ found o end → o.marker.name ≡ w
unfolding makes
held_named zero at w left o end e = let z : ◌≡◌ {A = ℕ} 0 1 = cc in absurd (omega arith)
held_named (suc room) at w left o end e =
    (subst (Reads left (λ o rest. ReadOpened bounds (suc room - 1) w left o rest)) e (opened_reads bounds (suc room - 1) w left)).1.named

module _ (table : List ℕ) {s : List ℕ} {at to : ℕ} (place : In s to) (ahead : at < to) {cells : List ℕ} {slot : Slot} (fits : Fits cells slot)
    (deeper : ℕ) where
  abbrev w : List ℕ
  w = part s (at + 1) to

  abbrev Names : Result Opened Refused → List ℕ → Type 0
  Names r after = ReadsNamed table s at to deeper cells slot r after

  pub too_deep : deeper ≡ 0 → {r : Result Opened Refused} → r ≡ Err (refused_at TooDeep at) → Names r cells
  unfolding admitted
  too_deep d {r} q = opens_fault _ _ _ _ _ _ _ r cells TooDeep at q (omega (arith, place.inside)) (rw d)

  module _ {inside : Nesting} (d : deeper ≡ suc inside.left) where
    pub unlisted : Absent ≡ mode_of (modes_of table) w → {r : Result Opened Refused} → r ≡ Err (refused_at Unlisted (at + 1)) → Names r cells
    unfolding admitted in_mode
    unlisted e {r} q =
        let i : in_mode Absent (modes_of table) w ≡ true = rw (sym e, in_mode) in
        opens_fault _ _ _ _ _ _ _ r cells Unlisted (at + 1) q (omega (arith, place.inside)) (rw (d, admitted, i, drop-drop 1 at s))

    pub listed : {form : ℕ} → (in_mode Absent (modes_of table) w ≡ false) × (block_form (modes_of table) w ≡ form) → {r : Result Opened Refused} {after : List ℕ}
        → ReadsMarker s (at + 1) to form (suc inside.left) cells slot r after → Names r after
    unfolding admitted
    listed {form} i {r} {after} h =
        let room = slot.room - slot.next in
        let is : named (modes_of table) bounds deeper room (drop at s) w (drop to s) ≡ held_of room (drop (at + 1) s) w (drop to s) =
        rw (d, admitted, i.0, drop-drop 1 at s) in
        record {
          makes = rw is h.makes;
          says = λ a q o left e.
              let f = sym is ∙ e in
              let x = h.says a q o left f in
              let n : block_form (modes_of table) o.marker.name ≡ form =
              ap (block_form (modes_of table)) (held_named room (drop (at + 1) s) w (drop to s) o left f) ∙ i.1 in
              (x.0 ∙ ap (λ (k : ℕ). form_in k o.ends) (sym n), x.1, x.2 ∙ sym d);
        }

-- ---- "<" and the name, and the whole marker behind them

module _ (s : List ℕ) (at : ℕ) where
  pub no_mark : (e : Refused) → seen (Err e) ≡ passed s (due (byte "<") (drop at s)) → (r : Result ℕ Refused) → r ≡ Err e
      → reached r ≡ passed s (head bounds (drop at s))
  no_mark e k r q =
      refused_then (λ b. 0) (λ b. 0) s (entryless r) (λ w. 0) (λ w. 0) (λ b named. name is_concept_name named) (due (byte "<") (drop at s)) e k (ap entryless q)

  pub mark_named : {start : ℕ} → DueAt (byte "<") s at start → (r : Result ℕ Refused) → reached r ≡ passed s (name is_concept_name (drop start s))
      → reached r ≡ passed s (head bounds (drop at s))
  mark_named mark r e = rw mark.finds e

module _ {s : List ℕ} {at : ℕ} (place : In s at) where
  module _ {to : ℕ} (says : reached (Ok to) ≡ passed s (head bounds (drop at s))) where
    begun : FoundAt (λ w. 0) (λ w. 0) (λ w left. ReadHead bounds (drop at s) w left) s at (head bounds (drop at s)) to 0 0
    begun = reached_at _ s at (head bounds (drop at s)) (Ok to) to says (head_reads bounds (drop at s)) place.inside refl

    -- the name stands behind the "<" up to there
    covers : drop (at + 1) s ≡ begun.it ++ drop to s
    covers = sym (drop-drop 1 at s) ∙ begun.holds.named.covers

    long : to ≡ at + 1 + length begun.it
    long = omega (
      arith,
      ap length begun.holds.marked,
      length-drop 1 (drop at s),
      ap length begun.holds.named.covers,
      length-append begun.it (drop to s),
      length-drop at s,
      length-drop to s,
      place.inside,
      begun.inside,
    )

    pub name_ends : In s to × (at < to)
    name_ends = (record { within = place.within; inside = begun.inside }, omega (arith, long))

  module _ (table : List ℕ) {cells : List ℕ} {slot : Slot} (fits : Fits cells slot) (deeper : ℕ) where
    pub head_refused : (e : Refused) → seen (Err e) ≡ passed s (head bounds (drop at s)) → {r : Result Opened Refused} → r ≡ Err e
        → ReadsOpening table s at deeper cells slot r cells
    head_refused e k {r} q =
        opens_passed _ _ _ _ _ _ _ r cells (λ w. 0) (λ w. 0) (λ y. and_then y (named (modes_of table) bounds deeper (slot.room - slot.next) (drop at s)))
        (λ n left. refl)
        (head bounds (drop at s)) e k q refl

    pub head_read : {to : ℕ} → reached (Ok to) ≡ passed s (head bounds (drop at s)) → {r : Result Opened Refused} {after : List ℕ}
        → ReadsNamed table s at to deeper cells slot r after → ReadsOpening table s at deeper cells slot r after
    head_read {to} p k = rw ((begun p).finds, ← part_is s (begun p).it (drop to s) (at + 1) to (covers p) (long p)) k
