-- The traits of a marker: a turn of the loop that reads and enters them, and its ends. The entries that are still to be made are those of the
-- rest of the run, laid behind what the turns so far laid. Assumes nothing.
use Prim.Native.Nat.{ℕ, suc, ◌+◌, ◌-◌, ◌*◌, ◌≤◌, ◌<◌}
use mathlib.Core.Path.{◌≡◌, refl, sym, ap, ◌∙◌}
use mathlib.Core.Bool.{true, false}
use mathlib.Core.List.{List, [], ◌∷◌, ◌++◌}
use native.Mathlib.Nat.{zero-add, add-zero}
use native.Mathlib.Omega.{arith}
use lib.ListN.{length, drop, get_or, length-drop, length-append}
use lib.Dec.{leb}
use borrow.Author.Tests.{le-leb, lt-leb}
use Rattle.std.specs.Prelude.{Result, Ok, Err}
use Rattle.paper.specs.Answer.{refused_at}
use Rattle.paper.specs.declared.Refused.{Refused}
use Rattle.paper.specs.declared.Refusal.TheVariants.{Cut, Due}
use Rattle.paper.specs.Found.{Found, fault, over, stop, turn_of}
use Rattle.paper.specs.Bytes.{byte, bytes, is_white, is_upper, is_lower, is_digit, is_letter, is_name_byte, starts_in, elem, front}
use Rattle.paper.specs.Names.{is_name}
use Rattle.paper.specs.Values.{value_onto}
use Rattle.paper.specs.Tree.{Trait}
use Rattle.paper.specs.Grammar.{trait_onto}
use Rattle.paper.specs.Entries.{Entry, trait_size, traits_size, trait_entries}
use Rattle.paper.specs.Reading.{Bounds, Earlier, with_trait, trait, trait_due, trait_turn, traits_behind, bounds}
use Rattle.paper.proofs.Lists.{both, front_of}
use Rattle.paper.proofs.Lines.{rule_name}
use Rattle.paper.proofs.ReadValues.{value_length}
use Rattle.paper.proofs.Markers.{ReadTrait, trait_reads, trait_shorter}
use Rattle.paper.proofs.Sizes.{item_size_lem}
use Rattle.text.proofs.Places.{here}
use Rattle.text.proofs.Stretch.{Stretch, front_at, behind_none, behind_some}
use Rattle.entries.specs.Laid.{lay, slot_after, Fits}
use Rattle.entries.specs.declared.Slot.{Slot}
use Rattle.lines.specs.Parts.{seen, seen_of, Makes}
use Rattle.lines.specs.declared.part.Part.{Part}
use Rattle.lines.proofs.Crossing.{says_cut, says_refused, FoundAt, found_at_lem, makes_same}
use Rattle.lines.proofs.Turns.{makes_over, makes_stop, makes_more}
use Rattle.lines.proofs.Closing.{part_length}
use Rattle.earlier.specs.Earlier.{name_at, taken_in, Lists}
use Rattle.earlier.proofs.Listing.{lists_none}
use Rattle.sheets.specs.Traits.{behind_names, NamesBefore, NamesOnward, one_trait, MakesNamed, MakesTraits}
use Rattle.sheets.proofs.NameIndex.{names_on, names_to, names_fit}
use Rattle.sheets.proofs.Lengths.{trait_long}

-- how many entries, and how many of them are traits, with so many made already
abbrev made_with : ℕ → List Trait → ℕ
made_with made ts = made + traits_size ts

abbrev own_with : ℕ → List Trait → ℕ
own_with own ts = own + length ts

-- the traits from `at` up to i are read and entered, and the index x lists their names; whoever reads and enters the rest has read and entered all of them
pub record SoFar (s : List ℕ) (at : ℕ) (lent : List ℕ) (slot : Slot) (x₀ cells x : List ℕ) (i made own : ℕ) : Type 0 where
  pub inside : i ≤ length s
  pub few : slot.next + made ≤ slot.room
  pub some : own ≤ made
  pub held : length cells ≡ length lent
  pub long : length x ≡ length x₀
  pub wide : at + 2 * own ≤ i
  pub lies : NamesBefore s i x
  pub names : List (List ℕ)
  pub many : length names ≡ own
  pub listed : Lists s at x names
  pub onward : (r : Result Part Refused) (after : List ℕ)
      → Makes (made_with made) (own_with own) (trait_entries slot.parent (slot.next + made) i) s cells (slot.next + made)
      (traits_behind bounds (behind_names names (slot_after slot made)) (drop i s)) r after
      → MakesTraits s at lent slot r after

-- no name has a "="
no_name_byte : is_name_byte (byte "=") ≡ false
unfolding is_name_byte is_letter is_upper is_lower is_digit
no_name_byte = refl

-- before the first turn
pub traits_begin : {s : List ℕ} {at : ℕ} {cells : List ℕ} {slot : Slot} {x : List ℕ} → at ≤ length s → Fits cells slot → NamesBefore s at x
    → SoFar s at cells slot x cells x at 0 0
traits_begin {s} {at} {cells} {slot} {x} h fits lies = record {
  inside = h;
  few = omega (arith, fits.inside);
  some = omega arith;
  held = refl;
  long = refl;
  wide = omega arith;
  lies = lies;
  names = [];
  many = refl;
  listed = lists_none s at x lies.before;
  onward = λ r after k.
      makes_same (made_with 0) (own_with 0) traits_size length (trait_entries slot.parent slot.next at) s cells slot.next
      (traits_behind bounds (behind_names [] slot) (drop at s)) r after
      (λ ts. zero-add (traits_size ts)) (λ ts. zero-add (length ts)) (rw (add-zero slot.next) at k);
}

-- ---- what is due behind white space

module _ (by : Bounds) (earlier : Earlier) (s white : List ℕ) (b : ℕ) (l : List ℕ) where
  ends_marker_lem : elem b (bytes ">/") ≡ true → trait_due by earlier s white (b ∷ l) ≡ over s
  unfolding trait_due
  ends_marker_lem e = rw (e, trait_due)

  module _ (e : elem b (bytes ">/") ≡ false) where
    no_white : leb 1 (length white) ≡ false → trait_due by earlier s white (b ∷ l) ≡ stop 7 (b ∷ l)
    unfolding trait_due
    no_white w = rw (e, trait_due, w)

    some_white : leb 1 (length white) ≡ true → trait_due by earlier s white (b ∷ l) ≡ turn_of (trait by earlier white (b ∷ l))
    unfolding trait_due
    some_white w = rw (e, trait_due, w)

-- a trait is due at a place behind i: white space stands before it, the input is not cut there, and the marker does not end
pub record Begins (s : List ℕ) (i mark : ℕ) : Type 0 where
  pub inside : mark < length s
  pub some : i < mark
  pub goes_on : elem (get_or s mark 0) (bytes ">/") ≡ false

-- ---- a turn

module _ {s : List ℕ} {at : ℕ} {lent : List ℕ} {slot : Slot} {x₀ cells x : List ℕ} {i made own : ℕ} (so_far : SoFar s at lent slot x₀ cells x i made own) where
  abbrev left : ℕ
  left = slot.room - (slot.next + made)

  -- what the traits so far leave
  abbrev before : Earlier
  before = behind_names so_far.names (slot_after slot made)

  abbrev white : List ℕ
  white = front is_white (drop i s)

  -- a fault that the turn meets is that of the whole run
  stopped : (x : Found Trait) → trait_turn bounds before (drop i s) ≡ turn_of x → (r : Result Part Refused) (e : Refused) (after : List ℕ) → r ≡ Err e
      → (many mine : Trait → ℕ) → seen (Err e) ≡ seen_of many mine s x → MakesTraits s at lent slot r after
  stopped x t r e after q many mine k =
      so_far.onward r after
      (makes_stop with_trait (trait_turn bounds) (trait_shorter bounds) before (drop i s) many mine turn_of (λ k rest. refl) (made_with made) (own_with own)
      (trait_entries slot.parent (slot.next + made) i) s cells (slot.next + made) x r after
      e k q t)

  -- what the next trait is read with: the index has a free cell
  pub cell_left : Fits lent slot → {mark : ℕ} → i < mark → mark ≤ length s → taken_in at x < length x
  cell_left fits h g =
      let few = names_fit so_far.lies own (omega (arith, so_far.wide)) (omega (arith, so_far.some, so_far.few, fits.few)) in
      omega (arith, so_far.listed.few, so_far.many)

  pub lies_there : {mark : ℕ} → i < mark → NamesBefore s (mark + 1) x
  lies_there h = names_on so_far.lies (omega arith)

  -- an index where the run is over, or refused
  pub over_names : {r : Result Part Refused} → r ≡ Ok (record { end = i; made = made; own = own }) → NamesOnward s r x
  over_names q p g =
      let e : record { end = i; made = made; own = own } ≡ p = cc in
      names_on so_far.lies (omega (arith, ap (λ (x : Part). x.end) e))

  module _ {mark : ℕ} (run : Stretch is_white s i mark) where
    pub traits_cut : mark ≡ length s → {r : Result Part Refused} → r ≡ Err (refused_at Cut (length s)) → MakesTraits s at lent slot r cells
    unfolding trait_turn trait_due
    traits_cut h {r} q =
        stopped (fault 9 []) (rw (behind_none is_white s i mark run (omega arith))) r (refused_at Cut (length s)) cells q (λ t. 0) (λ t. 0)
        (says_cut {A = Trait} (λ t. 0) (λ t. 0) s (fault 9 []) (Err (refused_at Cut (length s))) refl refl)

    module _ (h : mark < length s) where
      by_mark_lem : trait_turn bounds before (drop i s) ≡ trait_due bounds before (drop i s) white (get_or s mark 0 ∷ drop (mark + 1) s)
      unfolding trait_turn
      by_mark_lem = ap (trait_due bounds before (drop i s) white) (behind_some is_white s i mark run h)

      white_long : length white ≡ mark - i
      white_long = ap length (front_at is_white s i mark run) ∙ part_length s i mark run.1 run.2

      pub traits_over : elem (get_or s mark 0) (bytes ">/") ≡ true → {r : Result Part Refused} → r ≡ Ok (record { end = i; made = made; own = own }) → MakesTraits s at lent slot r cells
      unfolding trait_entries traits_size
      traits_over e {r} q =
          so_far.onward r cells
          (makes_over with_trait (trait_turn bounds) (trait_shorter bounds) before (drop i s) (made_with made) (own_with own)
          (trait_entries slot.parent (slot.next + made) i) s cells (slot.next + made) r (record { end = i; made = made; own = own })
          (by_mark_lem ∙ ends_marker_lem bounds before (drop i s) white (get_or s mark 0) (drop (mark + 1) s) e) q so_far.inside (sym (add-zero made))
          (sym (add-zero own)) refl)

      module _ (e : elem (get_or s mark 0) (bytes ">/") ≡ false) where
        pub traits_due : mark ≡ i → {r : Result Part Refused} → r ≡ Err (refused_at Due mark) → MakesTraits s at lent slot r cells
        traits_due n {r} q =
            let none : leb 1 (length white) ≡ false = lt-leb 1 (length white) (omega (arith, white_long)) in
            let turn = by_mark_lem ∙ no_white bounds before (drop i s) white (get_or s mark 0) (drop (mark + 1) s) e none ∙ ap (stop 7) (sym (here s mark h)) in
            stopped (fault 7 (drop mark s)) turn r (refused_at Due mark) cells q (λ t. 0) (λ t. 0)
            (says_refused {A = Trait} (λ t. 0) (λ t. 0) s (fault 7 (drop mark s)) (Err (refused_at Due mark)) Due mark refl run.2 refl)

        a_trait : i < mark → trait_turn bounds before (drop i s) ≡ turn_of (trait bounds before white (drop mark s))
        a_trait w =
            let some : leb 1 (length white) ≡ true = le-leb 1 (length white) (omega (arith, white_long)) in
            by_mark_lem ∙ some_white bounds before (drop i s) white (get_or s mark 0) (drop (mark + 1) s) e some
            ∙ ap (λ (l : List ℕ). turn_of (trait bounds before white l)) (sym (here s mark h))

    -- one more
    module _ (due : Begins s i mark) {next : Slot} (lends : next ≡ slot_after slot made) {r : Result Part Refused} {after y : List ℕ}
        (one : MakesNamed s at mark cells next x r after y) where
      abbrev number : ℕ
      number = slot.next + made

      abbrev reading : Found Trait
      reading = trait bounds before white (drop mark s)

      turn : trait_turn bounds before (drop i s) ≡ turn_of reading
      turn = a_trait due.inside due.goes_on due.some

      entered : Makes trait_size (λ t. 1) (one_trait slot.parent number mark) s cells number reading r after
      entered = rw lends at (one.made so_far.names so_far.listed white)

      pub traits_refused : {e : Refused} → r ≡ Err e → {last : Result Part Refused} → last ≡ Err e → MakesTraits s at lent slot last after
      traits_refused {e} p {last} q = stopped reading turn last e after q trait_size (λ t. 1) (ap seen (sym p) ∙ entered.says)

      module _ {p : Part} (q : r ≡ Ok p) where
        abbrev end : ℕ
        end = p.end

        abbrev more : ℕ
        more = p.made

        it : FoundAt trait_size (λ t. 1) (λ t rest. ReadTrait bounds before white (drop mark s) t rest) s mark reading p.end p.made p.own
        it = found_at_lem trait_size (λ t. 1) s r _ mark reading p entered.says (trait_reads bounds before white (drop mark s)) run.2 q

        pub trait_ahead : (i < end) × (end ≤ length s) × (number + more ≤ slot.room)
        trait_ahead = (omega (arith, it.ahead, due.some), it.inside, omega (arith, it.many, it.holds.fits, so_far.few))

        abbrev one_more : Trait
        one_more = it.it

        abbrev entries_of : List Entry
        entries_of = one_trait slot.parent number mark one_more

        long : length entries_of ≡ trait_size one_more
        long = ap suc (item_size_lem one_more.value number (number + 1) (mark + length one_more.name + 1))

        starts : i + length one_more.white ≡ mark
        starts = omega (arith, ap length it.holds.white_is, white_long due.inside, due.some)

        ends : i + length (trait_onto one_more []) ≡ end
        ends =
            let v = one_more.value in
            omega (
              arith,
              starts,
              trait_long one_more [],
              ap length it.holds.covers,
              length-append one_more.name (byte "=" ∷ value_onto v (drop end s)),
              value_length v (drop end s),
              length-drop mark s,
              length-drop end s,
              run.2,
              it.inside,
            )

        laid_as : (ts : List Trait) → trait_entries slot.parent number i (one_more ∷ ts)
            ≡ entries_of ++ trait_entries slot.parent (number + length entries_of) end ts
        unfolding trait_entries
        laid_as ts = rw (starts, ends, long)

        laid : after ≡ lay cells number entries_of
        laid = entered.laid one_more (drop end s) it.finds

        -- its name is the one that stands there
        named : name_at s mark ≡ one_more.name
        unfolding is_name starts_in
        named =
            ap (front is_name_byte) it.holds.covers
            ∙ front_of is_name_byte one_more.name (byte "=" ∷ value_onto one_more.value (drop end s))
            (rule_name is_lower one_more.name (both _ _ it.holds.named).0).0 no_name_byte

        further : mark < end
        further = omega (arith, it.holds.shorter, length-drop mark s, length-drop end s, it.inside)

        pub traits_on : length after ≡ length cells → length y ≡ length x → SoFar s at lent slot x₀ after y end (made + more) (own + 1)
        unfolding traits_size
        traits_on h g =
            let wide = number + length entries_of in
            let same : slot.next + (made + more) ≡ wide = omega (arith, long, it.many) in
            let fewer : slot.room - wide ≡ left - trait_size one_more = omega (arith, long) in
            record {
              inside = it.inside;
              few = omega (arith, trait_ahead.2);
              some = omega (arith, it.many, so_far.some);
              held = h ∙ so_far.held;
              long = g ∙ so_far.long;
              wide = omega (arith, so_far.wide, due.some, further);
              lies = names_to so_far.lies g (λ c. omega (arith, one.before c, further));
              names = so_far.names ++ (one_more.name ∷ []);
              many = omega (arith, length-append so_far.names (one_more.name ∷ []), so_far.many);
              listed = rw named at (one.listed so_far.names so_far.listed p q);
              onward = λ other cells' k.
                  so_far.onward other cells'
                  (makes_more with_trait (trait_turn bounds) (trait_shorter bounds) before (drop i s) (made_with made) (own_with own)
                  (trait_entries slot.parent number i) (trait_entries slot.parent wide end)
                  entries_of s cells after number one_more (drop end s) other cells' (turn ∙ ap turn_of it.finds) laid_as laid
                  (makes_same (made_with (made + more)) (own_with (own + 1)) _ _ (trait_entries slot.parent wide end) s after wide
                  (traits_behind bounds (with_trait before one_more) (drop end s)) other cells'
                  (λ ts. omega (arith, it.many)) (λ ts. omega arith)
                  (rw (same, fewer) at k)));
            }

-- nothing is known of the index where a part is refused
pub refused_names : {s : List ℕ} {r : Result Part Refused} {e : Refused} → r ≡ Err e → {x : List ℕ} → NamesOnward s r x
refused_names q p g = let z : ◌≡◌ {A = ℕ} 0 1 = cc in absurd (omega arith)
