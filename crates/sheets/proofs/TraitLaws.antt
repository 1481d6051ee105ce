-- One trait: where the entries of a value's items start, and a law for each way out of `enter_trait` and `read_trait` (src/traits.rt).
-- Over plain lists. Assumes nothing.
use Prim.Native.Nat.{ℕ, zero, suc, ◌+◌, ◌-◌, ◌≤◌, ◌<◌}
use mathlib.Core.Path.{◌≡◌, refl, sym, ap, subst, ◌∙◌}
use mathlib.Core.Bool.{Bool, true, false}
use mathlib.Core.List.{List, [], ◌∷◌, ◌++◌}
use native.Mathlib.Omega.{arith}
use lib.ListN.{length, drop, length-drop, length-append}
use lib.Seq.{drop-drop}
use lib.Dec.{leb}
use borrow.Author.Tests.{leb-true, leb-false, lt-leb}
use Rattle.std.specs.Prelude.{Result, Ok, Err}
use Rattle.paper.specs.Answer.{refused_at}
use Rattle.paper.specs.Forms.{number_of_form}
use Rattle.paper.specs.declared.Refused.{Refused}
use Rattle.paper.specs.declared.Refusal.TheVariants.{NoEntryLeft, TraitTwice}
use Rattle.paper.specs.Found.{Found, found, fault, and_then, place_in}
use Rattle.paper.specs.Limits.{sheet_limit, entry_limit, bracket_limit}
use Rattle.paper.specs.declared.brackets.Bracket.{Bracket}
use Rattle.paper.specs.Values.{opener, Label, label_onto, Value, leaf, empty_bracket, bracket, More, close, comma, value_onto, more_onto, value_form}
use Rattle.paper.specs.Tree.{Trait}
use Rattle.paper.specs.ReadingValues.{value_of}
use Rattle.paper.specs.Entries.{Entry, label_width, value_width, items_of, item_size, item_entry, item_entries, more_entries, trait_size}
use Rattle.paper.specs.Reading.{enters, name, due, Earlier, fresh, trait, bounds}
use Rattle.paper.specs.Bytes.{byte, all, is_name_byte}
use Rattle.paper.specs.Names.{is_trait_name, among}
use Rattle.paper.proofs.Tests.{up_to}
use Rattle.paper.proofs.Sizes.{item_size_lem}
use Rattle.paper.proofs.Labels.{label_append}
use Rattle.paper.proofs.ReadValues.{ReadValue, value_length, value_reads}
use Rattle.paper.proofs.Finds.{Reads}
use Rattle.paper.proofs.Lists.{front_all}
use Rattle.paper.proofs.Lines.{ReadName, name_reads}
use Rattle.paper.proofs.Markers.{fresh_complete, enters_complete}
use Rattle.text.proofs.Places.{place_back}
use Rattle.entries.specs.Laid.{lay, slot_under, Fits}
use Rattle.entries.specs.declared.Slot.{Slot}
use Rattle.entries.proofs.Laying.{lay_before}
use Rattle.entries.proofs.Slots.{fits_under}
use Rattle.leaves.specs.declared.judged.Judged.{Judged}
use Rattle.values.specs.declared.entering.Entered.{Entered}
use Rattle.leaves.specs.Shown.{Shown, shown_of, Judges}
use Rattle.values.specs.Entering.{Items, Ready, left_of, first_over, no_entry_left, Ahead, Enters}
use Rattle.leaves.proofs.Showing.{stands}
use Rattle.values.proofs.EnterLaws.{held}
use Rattle.lines.specs.Parts.{Seen, seen, passed, In, part}
use Rattle.lines.specs.declared.part.Part.{Part}
use Rattle.lines.proofs.Closing.{part_length}
use Rattle.lines.proofs.Crossing.{makes_refused, makes_passed, makes_read}
use Rattle.lines.proofs.ReadAt.{DueAt, NameAt, part_is}
use Rattle.earlier.specs.Earlier.{name_at}
use Rattle.sheets.specs.Traits.{behind_names, value_in, MakesTrait, MakesValued}

-- ---- where the entries of a value's items start

-- entries that start so far behind others, and not past a bound
data Moved (by bound : ℕ) : List Entry → List Entry → Type 0 where
  none : Moved by bound [] []
  one : (e f : Entry) {es fs : List Entry} → e.name_start ≡ by + f.name_start → e.name_start ≤ bound → Moved by bound es fs → Moved by bound (e ∷ es) (f ∷ fs)

moved_append : (by bound : ℕ) {es fs gs hs : List Entry} → Moved by bound es fs → Moved by bound gs hs → Moved by bound (es ++ gs) (fs ++ hs)
moved_append by bound none m = m
moved_append by bound (one e f s l k) m = one e f s l (moved_append by bound k m)

moved_first : (by bound : ℕ) {es fs : List Entry} (n : ℕ) → Moved by bound es fs → n < length es → (first_over n es ≡ by + first_over n fs)
    × (first_over n es ≤ bound)
moved_first by bound n none h = absurd (omega arith)
moved_first by bound zero (one e f s l m) h = (s, l)
moved_first by bound (suc n) (one e f s l m) h = moved_first by bound n m (omega arith)

-- how long an item is with its label and what stands behind it
item_length : (a : Label) (v : Value) (rest : List ℕ) → length (label_onto a (value_onto v rest)) ≡ label_width a + value_width v + length rest
item_length a v rest =
    omega (arith, ap length (label_append a (value_onto v rest)), length-append (label_onto a []) (value_onto v rest), value_length v rest)

mutual
  unfolding item_entries value_onto

  item_moved : (v : Value) (by bound parent next at owner other from : ℕ) → at ≡ by + from → at + value_width v ≤ bound
      → Moved by bound (item_entries parent next at v) (item_entries owner other from v)
  item_moved (leaf v) by bound parent next at owner other from e h = none
  item_moved (empty_bracket k) by bound parent next at owner other from e h = none
  item_moved (bracket k a v more) by bound parent next at owner other from e h =
      let n = item_length a v (more_onto k more []) in
      let m = length-append (opener k) (label_onto a (value_onto v (more_onto k more []))) in
      let here = at + length (opener k) in
      let there = from + length (opener k) in
      one (item_entry parent here a v) (item_entry owner there a v) (omega arith) (omega arith)
      (moved_append by bound
      (item_moved v by bound next (next + 1) (here + label_width a) other (other + 1) (there + label_width a) (omega arith) (omega arith))
      (more_moved k more by bound parent (next + 1 + item_size v) (here + label_width a + value_width v) owner (other + 1 + item_size v)
      (there + label_width a + value_width v) (omega arith) (omega arith)))

  more_moved : (k : Bracket) (more : More) (by bound parent next at owner other from : ℕ) → at ≡ by + from → at + length (more_onto k more []) ≤ bound
      → Moved by bound (more_entries parent next at more) (more_entries owner other from more)
  more_moved k close by bound parent next at owner other from e h = none
  more_moved k (comma white a v more) by bound parent next at owner other from e h =
      let n = item_length a v (more_onto k more []) in
      let m = length-append white (label_onto a (value_onto v (more_onto k more []))) in
      let here = at + 1 + length white in
      let there = from + 1 + length white in
      one (item_entry parent here a v) (item_entry owner there a v) (omega arith) (omega arith)
      (moved_append by bound
      (item_moved v by bound next (next + 1) (here + label_width a) other (other + 1) (there + label_width a) (omega arith) (omega arith))
      (more_moved k more by bound parent (next + 1 + item_size v) (here + label_width a + value_width v) owner (other + 1 + item_size v)
      (there + label_width a + value_width v) (omega arith) (omega arith)))

-- ---- a whole value that stands at a place

abbrev formless : Shown → Seen
formless y = record { number = y.number; place = y.place; made = 0; own = 0 }

pub record ValueAt (s : List ℕ) (at : ℕ) : Type 0 where
  pub it : Value
  pub end : ℕ
  pub whole : value_of bracket_limit [] (drop at s) ≡ found it (drop end s)
  pub wide : end ≡ at + value_width it
  pub inside : end ≤ length s

module _ {s : List ℕ} {at : ℕ} where
  pub value_at : {v : Judged} → Judges value_form s at (value_of bracket_limit [] (drop at s)) (Ok v) → ValueAt s at
  value_at {v} h =
      let f = stands h (ReadValue bracket_limit [] (drop at s)) (value_reads (suc (length (drop at s))) bracket_limit [] (drop at s)) v refl in
      record {
        it = f.it;
        end = v.end;
        whole = f.finds;
        wide = omega (arith, ap length f.holds.covers, value_length f.it (drop v.end s), length-drop at s, length-drop v.end s, f.inside, f.ahead);
        inside = f.inside;
      }

  -- a value's refusal as that of a part
  value_passed : {e : Refused} → Judges value_form s at (value_of bracket_limit [] (drop at s)) (Err e) → seen (Err e) ≡ passed s (value_of bracket_limit [] (drop at s))
  value_passed h = ap formless h.same ∙ go (value_of bracket_limit [] (drop at s))
    where
      go : (x : Found Value) → formless (shown_of value_form s x) ≡ passed s x
      go (found v left) = refl
      go (fault n left) = refl

-- ---- the room for a trait and its items

module _ (room : ℕ) (named valued : List ℕ) (t : Trait) (left : List ℕ) where
  -- none is left
  no_room : room ≡ 0 → enters room named valued t left ≡ fault 11 named
  unfolding enters
  no_room z = rw (lt-leb (trait_size t) room (omega arith), enters, z)

  -- one is left for the trait, but not for all items
  few_room : (items : ℕ) → room ≡ suc items → items < item_size t.value
      → enters room named valued t left ≡ fault 11 (drop (first_over items (item_entries 0 0 0 t.value)) valued)
  unfolding enters
  few_room items e h = rw (lt-leb (trait_size t) room (omega arith), enters, e)

-- ---- where its items are entered

-- numbers that fit their cells
pub record Far (end made own : ℕ) : Type 0 where
  pub near : end ≤ sheet_limit + 1 + bracket_limit
  pub few : made ≤ entry_limit
  pub owned : own ≤ made

module _ {s : List ℕ} {at : ℕ} (place : In s at) {cells : List ℕ} {slot : Slot} (fits : Fits cells slot) {under : Slot} (u : under ≡ slot_under slot) where
  pub items_stand : {o : Bool} → o ≡ leb slot.room slot.next → o ≡ false → Ready s at bracket_limit cells under
  items_stand asked f =
      rw u (record {
        place = place.inside;
        short = place.within;
        few = omega arith;
        fits = fits_under fits asked f refl;
      })

  pub far_end : {e : Entered} → Ahead s at bracket_limit (left_of under) (Ok e) → Far e.end e.made e.own
  far_end {e} h =
      let f = h.far e refl in
      let n : left_of under ≡ left_of (slot_under slot) = ap left_of u in
      record { near = omega (arith, place.within, f.1); few = omega (arith, fits.few, f.2); owned = f.3 }

-- ---- a trait whose name stands between two places

module _ {s : List ℕ} {from to : ℕ} (place : In s (to + 1)) (between : from ≤ to) {cells : List ℕ} {slot : Slot} (fits : Fits cells slot)
    (white w : List ℕ) where
  abbrev Made : Result Part Refused → List ℕ → Type 0
  Made r after = MakesTrait s from cells slot (value_in (left_of slot) (drop from s) white w (drop (to + 1) s)) r after

  -- what the trait makes of its value
  abbrev of_value : Found Value → Found Trait
  of_value x = and_then x (λ v left. enters (left_of slot) (drop from s) (drop (to + 1) s) (record { white = white; name = w; value = v }) left)

  pub trait_refused : {e : Refused} → Judges value_form s (to + 1) (value_of bracket_limit [] (drop (to + 1) s)) (Err e) → {r : Result Part Refused} → r ≡ Err e
      → Made r cells
  trait_refused {e} h {r} q = makes_passed _ _ _ _ _ _ _ r cells (λ v. 0) (λ v. 0) of_value (λ k left. refl)
      (value_of bracket_limit [] (drop (to + 1) s)) e (value_passed h) q refl

  module _ (value : ValueAt s (to + 1)) {o : Bool} (asked : o ≡ leb slot.room slot.next) where
    abbrev it : Trait
    it = record { white = white; name = w; value = value.it }

    by_value : value_in (left_of slot) (drop from s) white w (drop (to + 1) s) ≡ enters (left_of slot) (drop from s) (drop (to + 1) s) it (drop value.end s)
    by_value = ap of_value value.whole

    pub trait_full : o ≡ true → {r : Result Part Refused} → r ≡ Err (refused_at NoEntryLeft from) → Made r cells
    trait_full t {r} q = makes_refused _ _ _ _ _ _ _ r cells NoEntryLeft from q (omega (arith, place.inside))
        (by_value ∙ no_room _ _ _ it _ (omega (arith, leb-true slot.room slot.next (sym asked ∙ t))))

    module _ (f : o ≡ false) {under : Slot} (u : under ≡ slot_under slot) {items : Result Entered Refused} {mid : List ℕ}
        (h : Enters s (to + 1) cells under (value_of bracket_limit [] (drop (to + 1) s)) items mid) where
      one_left : left_of slot ≡ suc (left_of (slot_under slot))
      one_left = omega (arith, leb-false slot.room slot.next (sym asked ∙ f))

      entered : Enters s (to + 1) cells (slot_under slot) (value_of bracket_limit [] (drop (to + 1) s)) items mid
      entered = rw u at h

      -- an item has no entry left
      pub items_full : {w : Refused} → items ≡ Err w → {r : Result Part Refused} → r ≡ Err w → {after : List ℕ} → Made r after
      items_full {w} q {r} e {after} =
          up_to (item_size value.it) (left_of (slot_under slot))
          (λ k. let g = (entered.fits value.it _ value.whole k).0.is in
          let z : ◌≡◌ {A = ℕ} 0 1 = cc in
          absurd (omega arith))
          (λ k. let at = first_over (left_of (slot_under slot)) (item_entries slot.next (slot.next + 1) (to + 1) value.it) in
          let g = entered.full value.it _ value.whole k in
          let p : w ≡ no_entry_left at = cc in
          let m = moved_first (to + 1) (length s) (left_of (slot_under slot))
          (item_moved value.it (to + 1) (length s) slot.next (slot.next + 1) (to + 1) 0 0 0 (omega arith)
          (omega (arith, value.wide, value.inside))) (omega (arith, item_size_lem value.it slot.next (slot.next + 1) (to + 1))) in
          makes_refused _ _ _ _ _ _ _ r after NoEntryLeft at (e ∙ ap Err p) (omega (arith, m.1))
          (by_value ∙ few_room _ _ _ it _ (left_of (slot_under slot)) one_left k
          ∙ ap (fault 11) (drop-drop _ (to + 1) s ∙ ap (λ (n : ℕ). drop n s) (sym m.0))))

      -- the trait's own entry is put before those of its items
      abbrev own_entry_lem : ℕ → ℕ → ℕ → Entry
      own_entry_lem form count end =
          record { kind = 2; form = form; parent = slot.parent; count = count; name_start = from; name_end = to; start = to + 1; end = end }

      pub trait_made : length w ≡ to - from → {e : Entered} → items ≡ Ok e → {after : List ℕ}
          → after ≡ lay mid slot.next (own_entry_lem (number_of_form e.form) e.own e.end ∷ [])
          → {r : Result Part Refused} → r ≡ Ok (record { end = e.end; made = 1 + e.made; own = 1 }) → Made r after
      trait_made n {e} q {after} p {r} z =
          up_to (item_size value.it) (left_of (slot_under slot))
          (λ fit. let g = entered.fits value.it _ value.whole fit in
          let a = held g.0 e q in
          let formed : number_of_form e.form ≡ value_form value.it = ap (λ (i : Items). i.form) a in
          let size : e.made ≡ item_size value.it = ap (λ (i : Items). i.made) a in
          let own : e.own ≡ items_of value.it = ap (λ (i : Items). i.own) a in
          let there : e.end ≡ value.end = ap (λ (i : Items). i.end) a ∙ place_back s value.end value.inside in
          let past : to ≡ from + length w = omega arith in
          makes_read _ _ _ _ _ _ _ r after it _ z (omega (arith, value.inside))
          (by_value ∙ enters_complete _ _ _ it _ (omega (arith, one_left)) ∙ ap (λ (m : ℕ). found it (drop m s)) (sym there))
          (omega arith) refl
          (p
          ∙ ap (λ (x : List ℕ). lay x slot.next (own_entry_lem (number_of_form e.form) e.own e.end ∷ [])) g.1
          ∙ lay_before cells slot.next (own_entry_lem (number_of_form e.form) e.own e.end) (item_entries slot.next (slot.next + 1) (to + 1) value.it)
          ∙ rw (formed, own, there, value.wide, past)))
          (λ over. let g = entered.full value.it _ value.whole over in
          let z : ◌≡◌ {A = ℕ} 0 1 = cc in
          absurd (omega arith))

-- ---- a trait whose name stands at a place: the name, the "=" behind it, and what is entered

-- a name that is read is the run that stands there, has letters and digits, one at least, and is the part of the sheet from its place to its end
module _ {s : List ℕ} {at to : ℕ} (named : NameAt is_trait_name s at to) where
  name_part : part s at to ≡ named.it
  name_part = part_is s named.it (drop to s) at to named.covers (omega (arith, named.long, named.ahead))

  pub part_run : part s at to ≡ name_at s at
  part_run = name_part ∙ named.is_run

  pub part_long : length (part s at to) ≡ to - at
  part_long = part_length s at to named.ahead named.inside

  pub part_some : 0 < length (part s at to)
  part_some =
      let read = (subst (Reads (drop at s) (λ w left. ReadName is_trait_name (drop at s) w left)) named.finds (name_reads is_trait_name (drop at s))).1 in
      omega (arith, read.some, ap length name_part)

  pub part_letters : all is_name_byte (part s at to) ≡ true
  part_letters = ap (all is_name_byte) part_run ∙ front_all is_name_byte (drop at s)

-- a name that stands earlier is a fault where it starts
fresh_not : (names : List (List ℕ)) (l w left : List ℕ) → among names w ≡ true → fresh names l w left ≡ fault 18 l
unfolding fresh
fresh_not names l w left e = rw (e, fresh)

module _ {s : List ℕ} {at : ℕ} (place : In s at) {cells : List ℕ} {slot : Slot} (fits : Fits cells slot) where
  pub behind_equals : {to end : ℕ} → DueAt (byte "=") s to end → In s (to + 1)
  behind_equals equals = record { within = place.within; inside = omega (arith, equals.next, equals.inside) }

  module _ (names : List (List ℕ)) (white : List ℕ) where
    abbrev before : Earlier
    before = behind_names names slot

    -- what the trait makes of its name, of whether that stands earlier, and of the "=" behind it
    abbrev of_equals : List ℕ → Found ℕ → Found Trait
    of_equals w x = and_then x (λ b valued. value_in (left_of slot) (drop at s) white w valued)

    abbrev of_fresh : Found (List ℕ) → Found Trait
    of_fresh x = and_then x (λ w left. of_equals w (due (byte "=") left))

    abbrev of_name : Found (List ℕ) → Found Trait
    of_name x = of_fresh (and_then x (fresh names (drop at s)))

    by_name : trait bounds before white (drop at s) ≡ of_name (name is_trait_name (drop at s))
    unfolding trait
    by_name = refl

    abbrev Traited : Result Part Refused → List ℕ → Type 0
    Traited r after = MakesTrait s at cells slot (trait bounds before white (drop at s)) r after

    -- the ways out of `read_trait`
    pub no_name : (e : Refused) → seen (Err e) ≡ passed s (name is_trait_name (drop at s)) → {r : Result Part Refused} → r ≡ Err e → Traited r cells
    no_name e k {r} q = makes_passed _ _ _ _ _ _ _ r cells (λ w. 0) (λ w. 0) of_name (λ k left. refl) (name is_trait_name (drop at s)) e k q by_name

    module _ {to : ℕ} (named : NameAt is_trait_name s at to) where
      earlier : {o : Bool} → among names (part s at to) ≡ o → among names named.it ≡ o
      earlier asked = ap (among names) (sym (name_part named)) ∙ asked

      by_fresh : trait bounds before white (drop at s) ≡ of_fresh (fresh names (drop at s) named.it (drop to s))
      by_fresh = by_name ∙ ap of_name named.finds

      pub name_twice : among names (part s at to) ≡ true → {r : Result Part Refused} → r ≡ Err (refused_at TraitTwice at) → Traited r cells
      name_twice t {r} q = makes_refused _ _ _ _ _ _ _ r cells TraitTwice at q place.inside
          (by_fresh ∙ ap of_fresh (fresh_not names (drop at s) named.it (drop to s) (earlier t)))

      module _ (f : among names (part s at to) ≡ false) where
        by_equals : trait bounds before white (drop at s) ≡ of_equals named.it (due (byte "=") (drop to s))
        by_equals = by_fresh ∙ ap of_fresh (fresh_complete names (drop at s) named.it (drop to s) (earlier f))

        pub no_equals : (e : Refused) → seen (Err e) ≡ passed s (due (byte "=") (drop to s)) → {r : Result Part Refused} → r ≡ Err e → Traited r cells
        no_equals e k {r} q = makes_passed _ _ _ _ _ _ _ r cells (λ b. 0) (λ b. 0) (of_equals named.it) (λ k left. refl)
            (due (byte "=") (drop to s)) e k q by_equals

        pub trait_entered : {end : ℕ} → DueAt (byte "=") s to end → {r : Result Part Refused} {after : List ℕ} → MakesValued s at to cells slot r after → Traited r after
        trait_entered equals k =
            let by_value : trait bounds before white (drop at s) ≡ value_in (left_of slot) (drop at s) white named.it (drop (to + 1) s) =
            by_equals ∙ ap (of_equals named.it) equals.finds ∙ ap (λ (n : ℕ). value_in (left_of slot) (drop at s) white named.it (drop n s))
            equals.next in
            rw by_value (k white named.it named.long)
