-- Entering the items of a value: a law for each way out, and one for each turn over the items of a bracket. Over plain lists. Assumes nothing.
use Prim.Native.Nat.{ℕ, suc, ◌+◌, ◌-◌, ◌≤◌, ◌<◌}
use mathlib.Core.Path.{◌≡◌, refl, sym, ap, ap₂, subst, subst⁻¹, ◌∙◌}
use mathlib.Core.Bool.{true, false}
use mathlib.Core.List.{List, [], ◌∷◌, ◌++◌, append-nil}
use native.Mathlib.Omega.{arith}
use lib.ListN.{length, drop, length-drop}
use lib.Seq.{length-take-le}
use Rattle.std.specs.Prelude.{Result, Ok, Err}
use Rattle.std.specs.Result.{MatchResult, IsOkAnd, IsErrAnd}
use Rattle.paper.specs.declared.Refused.{Refused}
use Rattle.paper.specs.declared.forms.Form.{Form}
use Rattle.paper.specs.declared.brackets.Bracket.{Bracket}
use Rattle.paper.specs.Found.{Found, found, fault, and_then, place_in}
use Rattle.paper.specs.Bytes.{byte, bytes, is_white, length_in, front, starts_with}
use Rattle.paper.specs.Values.{opener, closer, bracket_form, may_be_empty, enders, Label, Leaf, leaf_form, Value, leaf, empty_bracket, bracket, value_form, More, close, comma}
use Rattle.paper.specs.ReadingValues.{no_bracket, opens, opens_with, leaf_of, value_of, more_of, item_and}
use Rattle.paper.specs.Entries.{Entry, label_width, value_width, items_of, more_items, item_size, more_size, item_entry, item_entries, more_entries}
use Rattle.paper.specs.Forms.{number_of_form}
use Rattle.paper.proofs.Tests.{up_to}
use Rattle.paper.proofs.Lists.{length_in_lem}
use Rattle.paper.proofs.Finds.{Reads}
use Rattle.paper.proofs.ReadValues.{ReadValue, value_reads, value_length, value_of_leaf, more_of_comma, begun}
use Rattle.paper.proofs.Sizes.{item_size_lem}
use Rattle.text.proofs.Places.{left_at}
use Rattle.text.proofs.Stretch.{Stretch, behind_at}
use Rattle.entries.specs.Laid.{lay, slot_after, slot_under}
use Rattle.entries.specs.declared.Slot.{Slot}
use Rattle.entries.proofs.Laying.{lay_none, lay_before, lay_append}
use Rattle.leaves.specs.declared.judged.Judged.{Judged}
use Rattle.values.specs.declared.labels.Labelled.{Labelled}
use Rattle.values.specs.declared.entering.Entered.{Entered}
use Rattle.values.specs.Entering.{without_items, Items, items_in, Holds, no_entry_left, left_of, first_over, entries_from, size_from}
use Rattle.values.specs.Entering.{Ahead, Enters, EntersValue, EntersFrom, EntersItems}
use Rattle.values.specs.Labels.{LabelsAt}
use Rattle.leaves.specs.Shown.{Shown, shown_of, Judges}
use Rattle.leaves.proofs.Showing.{fails}
use Rattle.values.proofs.LabelLaws.{LabelTo, label_fails}
use Rattle.values.proofs.BracketLaws.{byte_at, Opened, leaf_value, deep_value, empty_found, empty_value, items_found}
use Rattle.values.proofs.ItemsFound.{Parts, MadeOf, made_of, together, bracket_parts, closed, first_in, first_past}

-- what was found at a place: where it ends, and what is left there
record At (s : List ℕ) (i : ℕ) (v : Value) (left : List ℕ) : Type 0 where
  wide : place_in s left ≡ i + value_width v
  place : left ≡ drop (i + value_width v) s

found_at_lem : (s : List ℕ) (i brackets : ℕ) (also : List ℕ) (v : Value) (left : List ℕ) → i ≤ length s → value_of brackets also (drop i s) ≡ found v left → At s i v left
found_at_lem s i brackets also v left h e =
    let k : Reads (drop i s) (ReadValue brackets also (drop i s)) (found v left) = rw e at (value_reads (suc (length (drop i s))) brackets also (drop i s)) in
    let n : place_in s left ≡ i + value_width v = omega (arith, length-drop i s, ap length k.1.covers, value_length v left) in
    record { wide = n; place = (left_at s i h k.0).same ∙ ap (λ (m : ℕ). drop m s) n }

-- the entry that is written of an item: its key stands from a place on, and its value behind the label
abbrev pub written : ℕ → ℕ → ℕ → ℕ → ℕ → ℕ → ℕ → Entry
written form parent count from key value end =
    record { kind = 3; form = form; parent = parent; count = count; name_start = from; name_end = key; start = value; end = end }

-- ---- answers

abbrev items_of_bracket : ℕ → ℕ → ℕ → ℕ → Items
items_of_bracket form end made own = record { form = form; end = end; made = made; own = own }

abbrev full_at : ℕ → Result Entered Refused
full_at place = Err (no_entry_left place)

-- what an answer holds
pub held : {r : Result Entered Refused} {i : Items} → Holds r i → (e : Entered) → r ≡ Ok e → items_in e ≡ i
held h e q = let same : e ≡ h.it = cc in ap items_in same ∙ h.holds

holds_as : {r : Result Entered Refused} {i j : Items} → Holds r i → i ≡ j → Holds r j
holds_as h e = record { it = h.it; is = h.is; holds = h.holds ∙ e }

-- ---- the items of a bracket, from one on

module _ (k : Bracket) (s : List ℕ) (i brackets : ℕ) (cells : List ℕ) (slot : Slot) (made own : ℕ) where
  -- from the one whose label stands there
  abbrev From : Result Entered Refused → List ℕ → Type 0
  From r after = EntersFrom k s i cells slot made own (item_and k brackets (bracket k) (drop i s)) r after

  -- no entry is left for it
  pub none_left : slot.room ≤ slot.next + made → From (Err (no_entry_left i)) cells
  none_left h =
      let n : left_of slot - made ≡ 0 = omega arith in
      record { fits = λ a v more left e f. absurd (omega arith); full = λ a v more left e f. rw n }

  -- its label was refused, and so no bracket was found
  pub no_label : {r : Result Labelled Refused} → LabelsAt k s i r → (w : Refused) → r ≡ Err w → (any : Result Entered Refused) → From any cells
  no_label h w q any =
      record { fits = λ a v more left e f. absurd (none a v more left e); full = λ a v more left e f. absurd (none a v more left e) }
    where
      none : (a : Label) (v : Value) (more : More) (left : List ℕ) → item_and k brackets (bracket k) (drop i s) ≡ found (bracket k a v more) left → ⊥
      none a v more left e =
          let f = (label_fails k s i h w q).faults in
          let p = (bracket_parts k brackets (drop i s) a v more left e).labelled in
          cc

  abbrev under : Slot
  under = slot_under (slot_after slot made)

  module _ (key value : ℕ) (to : LabelTo k s i key value) where
    -- an item with this label, and what stands behind it
    abbrev With : Value → More → List ℕ → Type 0
    With v more left = Parts k brackets (drop i s) to.it v more left

    item_of : {v : Value} {more : More} {left : List ℕ} (t : With v more left) → value_of brackets (enders k) (drop value s) ≡ found v t.mid
    item_of t =
        let f : found to.it t.valued ≡ found to.it (drop value s) = sym t.labelled ∙ to.finds in
        let l : t.valued ≡ drop value s = cc in
        ap (value_of brackets (enders k)) (sym l) ∙ t.item

    abbrev entries : Value → More → List Entry
    entries v more = entries_from slot.parent (slot.next + made) i to.it v more

    -- so it is of every bracket that was found
    by_label : (r : Result Entered Refused) (after : List ℕ)
        → ((v : Value) (more : More) (left : List ℕ) → With v more left → made + size_from v more ≤ left_of slot
        → Holds r (record { form = bracket_form k; end = place_in s left; made = made + size_from v more; own = own + suc (more_items more) })
        × (after ≡ lay cells (slot.next + made) (entries v more)))
        → ((v : Value) (more : More) (left : List ℕ) → With v more left → left_of slot < made + size_from v more
        → r ≡ Err (no_entry_left (first_over (left_of slot - made) (entries v more))))
        → From r after
    by_label r after fits full =
        record {
          fits = λ a v more left e f. rw (same a v more left e) (fits v more left (parts a v more left e) f);
          full = λ a v more left e f. rw (same a v more left e) (full v more left (parts a v more left e) f);
        }
      where
        same : (a : Label) (v : Value) (more : More) (left : List ℕ) → item_and k brackets (bracket k) (drop i s) ≡ found (bracket k a v more) left → a ≡ to.it
        same a v more left e =
            let t = bracket_parts k brackets (drop i s) a v more left e in
            let f : found a t.valued ≡ found to.it (drop value s) = sym t.labelled ∙ to.finds in
            cc

        parts : (a : Label) (v : Value) (more : More) (left : List ℕ) → item_and k brackets (bracket k) (drop i s) ≡ found (bracket k a v more) left
            → With v more left
        parts a v more left e =
            bracket_parts k brackets (drop i s) to.it v more left (e ∙ ap (λ (b : Label). found (bracket k b v more) left) (same a v more left e))

    module _ (room : slot.next + made < slot.room) (item : Result Entered Refused) (mid : List ℕ)
        (h : Enters s value cells under (value_of brackets (enders k) (drop value s)) item mid) where
      more_left : left_of slot - made ≡ suc (left_of under)
      more_left = omega arith

      -- it was entered, and so all its entries had room
      fit_inside : (v : Value) (left : List ℕ) → value_of brackets (enders k) (drop value s) ≡ found v left → (it : Entered) → item ≡ Ok it
          → item_size v ≤ left_of under
      fit_inside v left e it q =
          up_to (item_size v) (left_of under) (λ f. f)
          (λ f. let g = h.full v left e f in
          absurd (cc))

      -- those of its items, where its value is due
      items_of_lem : Value → List Entry
      items_of_lem v = item_entries (slot.next + made) (slot.next + made + 1) (i + label_width to.it) v

      items_at : (v : Value) → item_entries (slot.next + made) (slot.next + made + 1) value v ≡ items_of_lem v
      unfolding items_of_lem
      items_at v = ap (λ (at : ℕ). item_entries (slot.next + made) (slot.next + made + 1) at v) to.due

      items_size : (v : Value) → length (items_of_lem v) ≡ item_size v
      unfolding items_of_lem
      items_size v = item_size_lem v (slot.next + made) (slot.next + made + 1) (i + label_width to.it)

      -- no entry is left inside it
      pub none_inside : (w : Refused) → item ≡ Err w → From (Err w) mid
      unfolding items_of_lem
      none_inside w q =
          by_label (Err w) mid (λ v more left t f. absurd (no_fit v t.mid (item_of t) (omega arith))) (λ v more left t f. first v more t.mid (item_of t))
        where
          no_fit : (v : Value) (left : List ℕ) → value_of brackets (enders k) (drop value s) ≡ found v left → item_size v ≤ left_of under → ⊥
          no_fit v left e f =
              let g = (h.fits v left e f).0.is in
              cc

          first : (v : Value) (more : More) (left : List ℕ) → value_of brackets (enders k) (drop value s) ≡ found v left
              → ◌≡◌ {A = Result Entered Refused} (Err w) (Err (no_entry_left (first_over (left_of slot - made) (entries v more))))
          first v more left e =
              up_to (item_size v) (left_of under) (λ f. absurd (no_fit v left e f))
              (λ f. sym q
              ∙ h.full v left e f
              ∙ ap (λ (es : List Entry). full_at (first_over (left_of under) es)) (items_at v)
              ∙ ap full_at (sym (rw more_left (first_in (items_of_lem v) _ (left_of under) (omega (arith, items_size v))))))

      -- it was entered, and its own entry stands before those of its items
      module _ (it : Entered) (q : item ≡ Ok it) (laid : List ℕ)
          (p : laid ≡ lay mid (slot.next + made) (written (number_of_form it.form) slot.parent it.own i key value it.end ∷ [])) where
        record Laid (v : Value) (left : List ℕ) : Type 0 where
          room_inside : item_size v ≤ left_of under
          size : it.made ≡ item_size v
          place : it.end ≡ i + label_width to.it + value_width v
          onward : left ≡ drop it.end s
          cells_are : laid ≡ lay cells (slot.next + made) (item_entry slot.parent i to.it v ∷ items_of_lem v)

        laid_item : (v : Value) (left : List ℕ) → value_of brackets (enders k) (drop value s) ≡ found v left → Laid v left
        laid_item v left e =
            let r = fit_inside v left e it q in
            let f = h.fits v left e r in
            let g = held f.0 it q in
            let a = ap (λ (y : Items). y.form) g in
            let b = ap (λ (y : Items). y.end) g in
            let c = ap (λ (y : Items). y.made) g in
            let d = ap (λ (y : Items). y.own) g in
            let t = found_at_lem s value brackets (enders k) v left to.inside e in
            let w : value ≡ i + label_width to.it = to.due in
            let m : it.end ≡ value + value_width v = b ∙ t.wide in
            let n : it.end ≡ i + label_width to.it + value_width v = m ∙ ap (λ (at : ℕ). at + value_width v) w in
            let x = to.ends in
            let own : written (number_of_form it.form) slot.parent it.own i key value it.end ≡ item_entry slot.parent i to.it v = cc in
            record {
              room_inside = r;
              size = c;
              place = n;
              onward = t.place ∙ ap (λ (at : ℕ). drop at s) (sym m);
              cells_are =
                  p
                  ∙ ap (λ (y : Entry). lay mid (slot.next + made) (y ∷ [])) own
                  ∙ ap (λ (y : List ℕ). lay y (slot.next + made) (item_entry slot.parent i to.it v ∷ [])) (f.1 ∙ ap (lay cells (slot.next + made + 1)) (items_at v))
                  ∙ lay_before cells (slot.next + made) (item_entry slot.parent i to.it v) (items_of_lem v);
            }

        -- it is the last one
        pub last_item : starts_with (bytes ",") (drop it.end s) ≡ false → (form : Form) → number_of_form form ≡ bracket_form k
            → From (Ok (record { form = form; end = it.end + 1; made = made + (1 + it.made); own = own + 1 })) laid
        unfolding item_size items_of item_entries items_of_lem
        last_item c form g =
            by_label (Ok whole) laid (λ v more left t f. ends v more left t)
            (λ v more left t f. absurd (over v more left t f))
          where
            whole : Entered
            whole = record { form = form; end = it.end + 1; made = made + (1 + it.made); own = own + 1 }

            shut : (v : Value) (more : More) (left : List ℕ) → With v more left → (more ≡ close) × (drop it.end s ≡ closer k ∷ left)
            shut v more left t =
                let l = (laid_item v t.mid (item_of t)).onward in
                closed k brackets (drop it.end s) more left c (ap (more_of k brackets) (sym l) ∙ t.behind)

            over : (v : Value) (more : More) (left : List ℕ) → With v more left → left_of slot < made + size_from v more → ⊥
            over v more left t f =
                let z : more_size more ≡ 0 = ap more_size (shut v more left t).0 in
                omega (arith, (laid_item v t.mid (item_of t)).room_inside)

            ends : (v : Value) (more : More) (left : List ℕ) → With v more left
                → Holds (Ok whole) (record { form = bracket_form k; end = place_in s left; made = made + size_from v more; own = own + suc (more_items more) })
                × (laid ≡ lay cells (slot.next + made) (entries v more))
            ends v more left t =
                let d = laid_item v t.mid (item_of t) in
                let m = shut v more left t in
                let z : more_size more ≡ 0 = ap more_size m.0 in
                let y : more_items more ≡ 0 = ap more_items m.0 in
                let a : it.end + 1 ≡ place_in s left = omega (arith, length-drop it.end s, ap length m.1) in
                let b : made + (1 + it.made) ≡ made + size_from v more = omega (arith, d.size) in
                let n : own + 1 ≡ own + suc (more_items more) = omega arith in
                let others = more_entries slot.parent (slot.next + made + 1 + item_size v) (i + label_width to.it + value_width v) in
                let x : others more ≡ [] = ap others m.0 in (
                  record { it = whole; is = refl; holds = cc },
                  d.cells_are ∙ ap (λ (l : List Entry). lay cells (slot.next + made) (item_entry slot.parent i to.it v ∷ l))
                      (sym (ap (λ (l : List Entry). items_of_lem v ++ l) x ∙ append-nil (items_of_lem v))),
                )

        -- another one stands behind it
        module _ (c : starts_with (bytes ",") (drop it.end s) ≡ true) (next : ℕ) (run : Stretch is_white s (it.end + 1) next) where
          white : List ℕ
          white = front is_white (drop (it.end + 1) s)

          record Next (more : More) (left : List ℕ) : Type 0 where
            label : Label
            second : Value
            rest : More
            is : more ≡ comma white label second rest
            reads : item_and k brackets (bracket k) (drop next s) ≡ found (bracket k label second rest) left

          behind_comma : more_of k brackets (drop it.end s) ≡ item_and k brackets (comma white) (drop next s)
          unfolding white
          behind_comma =
              ap (more_of k brackets) (byte_at (byte ",") s it.end c)
              ∙ more_of_comma k brackets (drop (it.end + 1) s)
              ∙ ap (item_and k brackets (comma white)) (behind_at is_white s (it.end + 1) next run)

          next_is : (v : Value) (more : More) (left : List ℕ) → With v more left → Next more left
          next_is v more left t =
              let l = (laid_item v t.mid (item_of t)).onward in
              let p = made_of k brackets (drop next s) (comma white) more left (sym behind_comma ∙ ap (more_of k brackets) (sym l) ∙ t.behind) in
              record {
                label = p.before;
                second = p.first;
                rest = p.rest;
                is = p.made;
                reads = together k brackets (drop next s) (bracket k) p.before p.first p.rest left p.parts;
              }

          -- the entries of this item, and those from the next one on
          first_entries : Value → List Entry
          first_entries v = item_entry slot.parent i to.it v ∷ items_of_lem v

          first_size : (v : Value) (left : List ℕ) → Laid v left → length (first_entries v) ≡ 1 + it.made
          unfolding first_entries
          first_size v left d = omega (arith, d.size, items_size v)

          entries_on : {more : More} {left : List ℕ} → Next more left → List Entry
          entries_on w = entries_from slot.parent (slot.next + (made + (1 + it.made))) next w.label w.second w.rest

          all_entries : (v : Value) (more : More) (left mid' : List ℕ) → Laid v mid' → (w : Next more left) → entries v more ≡ first_entries v ++ entries_on w
          unfolding first_entries entries_on item_entries items_of_lem white
          all_entries v more left mid' d w =
              let n : slot.next + made + 1 + item_size v ≡ slot.next + (made + (1 + it.made)) = omega (arith, d.size) in
              let l : length (front is_white (drop (it.end + 1) s)) ≡ length_in is_white (drop (it.end + 1) s) =
              length-take-le (length_in is_white (drop (it.end + 1) s)) (drop (it.end + 1) s) (length_in_lem is_white (drop (it.end + 1) s)) in
              let a : i + label_width to.it + value_width v + 1 + length (front is_white (drop (it.end + 1) s)) ≡ next = omega (arith, d.place) in
              ap (entries v) w.is
              ∙ ap₂ (λ (n at : ℕ). first_entries v ++ entries_from slot.parent n at w.label w.second w.rest) n a

          sizes : (more : More) (left : List ℕ) (w : Next more left) → (more_size more ≡ size_from w.second w.rest)
              × (more_items more ≡ suc (more_items w.rest))
          unfolding item_size items_of
          sizes more left w = (ap more_size w.is, ap more_items w.is)

          -- what is entered from the next one on is entered from this one on
          pub next_item : (r : Result Entered Refused) (after : List ℕ)
              → EntersFrom k s next laid slot (made + (1 + it.made)) (own + 1) (item_and k brackets (bracket k) (drop next s)) r after → From r after
          unfolding first_entries entries_on
          next_item r after g = by_label r after go_fits go_full
            where
              go_fits : (v : Value) (more : More) (left : List ℕ) → With v more left → made + size_from v more ≤ left_of slot
                  → Holds r (record { form = bracket_form k; end = place_in s left; made = made + size_from v more; own = own + suc (more_items more) })
                  × (after ≡ lay cells (slot.next + made) (entries v more))
              go_fits v more left t f =
                  let d = laid_item v t.mid (item_of t) in
                  let w = next_is v more left t in
                  let z = sizes more left w in
                  let x = g.fits w.label w.second w.rest left w.reads (omega (arith, d.size)) in
                  let a : made + (1 + it.made) + size_from w.second w.rest ≡ made + size_from v more = omega (arith, d.size) in
                  let b : own + 1 + suc (more_items w.rest) ≡ own + suc (more_items more) = omega arith in
                  let n : slot.next + (made + (1 + it.made)) ≡ slot.next + made + length (first_entries v) = omega (arith, first_size v t.mid d) in (
                    holds_as x.0 (ap₂ (λ (m o : ℕ). items_of_bracket (bracket_form k) (place_in s left) m o) a b),
                    x.1
                        ∙ ap₂ (λ (l : List ℕ) (m : ℕ). lay l m (entries_on w)) d.cells_are n
                        ∙ lay_append cells (slot.next + made) (first_entries v) (entries_on w)
                        ∙ ap (lay cells (slot.next + made)) (sym (all_entries v more left t.mid d w)),
                  )

              go_full : (v : Value) (more : More) (left : List ℕ) → With v more left → left_of slot < made + size_from v more
                  → r ≡ Err (no_entry_left (first_over (left_of slot - made) (entries v more)))
              go_full v more left t f =
                  let d = laid_item v t.mid (item_of t) in
                  let w = next_is v more left t in
                  let z = sizes more left w in
                  let l = first_size v t.mid d in
                  let n : left_of slot - (made + (1 + it.made)) ≡ left_of slot - made - length (first_entries v) = omega arith in
                  g.full w.label w.second w.rest left w.reads (omega (arith, d.size))
                  ∙ ap full_at (ap (λ (m : ℕ). first_over m (entries_on w)) n
                  ∙ sym (first_past (first_entries v) (entries_on w) (left_of slot - made) (omega (arith, d.room_inside, d.size)))
                  ∙ ap (first_over (left_of slot - made)) (sym (all_entries v more left t.mid d w)))

-- ---- bounds of an answer

module _ (s : List ℕ) (at brackets room : ℕ) where
  pub ahead_refused : (w : Refused) → Ahead s at brackets room (Err w)
  ahead_refused w = record { far = λ e q. absurd (cc) }

  pub ahead_items : (e : Entered) → at < e.end → e.end ≤ length s + 1 + brackets → e.made ≤ room → e.own ≤ e.made → Ahead s at brackets room (Ok e)
  ahead_items e a b c d = record { far = λ e' q. let i : e ≡ e' = cc in subst Bounds i (a, b, c, d) }
    where
      Bounds : Entered → Type 0
      Bounds e = (at < e.end) × (e.end ≤ length s + 1 + brackets) × (e.made ≤ room) × (e.own ≤ e.made)

-- ---- the items of a value

-- it has none
record Bare (v : Value) : Type 0 where
  size : item_size v ≡ 0
  count : items_of v ≡ 0
  entries : (parent next at : ℕ) → item_entries parent next at v ≡ []

bare_leaf : (v : Leaf) → Bare (leaf v)
unfolding item_size items_of item_entries
bare_leaf v = record { size = refl; count = refl; entries = λ parent next at. refl }

bare_empty : (k : Bracket) → Bare (empty_bracket k)
unfolding item_size items_of item_entries
bare_empty k = record { size = refl; count = refl; entries = λ parent next at. refl }

module _ (s : List ℕ) (at brackets : ℕ) (also cells : List ℕ) (slot : Slot) where
  -- a value that has none
  bare_enters : (x : Found Value) (read : Judged) → Judges value_form s at x (Ok read) → ((v : Value) (left : List ℕ) → x ≡ found v left → Bare v)
      → Enters s at cells slot x (Ok (without_items read)) cells
  bare_enters x read h bare =
      record {
        fits = λ v left e k. (
          record { it = without_items read; is = refl; holds = answer v left e },
          sym (ap (lay cells slot.next) ((bare v left e).entries slot.parent slot.next at)
              ∙ lay_none cells slot.next),
        );
        full = λ v left e k. absurd (omega (arith, (bare v left e).size));
      }
    where
      answer : (v : Value) (left : List ℕ) → x ≡ found v left
          → items_in (without_items read) ≡ record { form = value_form v; end = place_in s left; made = item_size v; own = items_of v }
      answer v left e =
          let k = h.same ∙ ap (shown_of value_form s) e in
          let f : number_of_form read.form ≡ value_form v = ap (λ (y : Shown). y.form) k in
          let n : read.end ≡ place_in s left = ap (λ (y : Shown). y.place) k in
          let b = bare v left e in
          rw (f, n, b.size, b.count)

  bare_ahead : (x : Found Value) (read : Judged) → Judges value_form s at x (Ok read) → (room : ℕ) → Ahead s at brackets room (Ok (without_items read))
  bare_ahead x read h room =
      let k = h.ahead read refl in
      ahead_items s at brackets room (without_items read) (omega arith) (omega arith) (omega arith) (omega arith)

  -- a value that was not found
  pub refused_enters : (r : Result Judged Refused) → Judges value_form s at (value_of brackets also (drop at s)) r → (w : Refused) → r ≡ Err w
      → EntersValue brackets also s at cells slot (Err w) cells
  refused_enters r h w q =
      let f = (fails h w q).faults in (
        ahead_refused s at brackets (left_of slot) w,
        record {
          fits = λ v left e k. absurd (cc);
          full = λ v left e k. absurd (cc);
        },
      )

  -- no bracket
  leaf_bare : opens_with (drop at s) ≡ no_bracket → (v : Value) (left : List ℕ) → value_of brackets also (drop at s) ≡ found v left → Bare v
  leaf_bare e v left q = go (leaf_of also (drop at s)) v left (sym (value_of_leaf brackets also (drop at s) e) ∙ q)
    where
      go : (x : Found Leaf) (v : Value) (left : List ℕ) → and_then x (λ u end. found (leaf u) end) ≡ found v left → Bare v
      go (found u end) v left q = let k : leaf u ≡ v = cc in rw (← k) (bare_leaf u)
      go (fault n end) v left q = absurd (cc)

  pub read_enters : (read : Judged) → opens_with (drop at s) ≡ no_bracket → Judges value_form s at (value_of brackets also (drop at s)) (Ok read)
      → (e : Entered) → e ≡ without_items read → EntersValue brackets also s at cells slot (Ok e) cells
  read_enters read o h e q =
      let x = value_of brackets also (drop at s) in
      rw q (bare_ahead x read h (left_of slot), bare_enters x read h (leaf_bare o))

  -- the same of what may have been refused
  pub read_as : (value : Result Judged Refused) → opens_with (drop at s) ≡ no_bracket → Judges value_form s at (value_of brackets also (drop at s)) value
      → (r : Result Entered Refused) {Says : Judged → Entered → Type 0} → MatchResult value (λ v. IsOkAnd r (Says v)) (λ w. r ≡ Err w)
      → ((v : Judged) (e : Entered) → Says v e → e ≡ without_items v) → EntersValue brackets also s at cells slot r cells
  read_as (Ok v) o h (Ok e) q says = read_enters v o h e (says v e q)
  read_as (Ok v) o h (Err w) q says = absurd q
  read_as (Err w) o h r q says = rw q (refused_enters (Err w) h w refl)

  -- what tells an answer so that a value and a refusal 11 stay as they are
  pub told_so : (r told : Result Entered Refused) (after : List ℕ) (Says : Refused → Refused → Type 0)
      → MatchResult r (λ e. told ≡ Ok e) (λ w. IsErrAnd told (Says w)) → ((place : ℕ) (f : Refused) → Says (no_entry_left place) f → f ≡ no_entry_left place)
      → EntersValue brackets also s at cells slot r after → EntersValue brackets also s at cells slot told after
  told_so (Ok e) told after Says q says h = rw q h
  told_so (Err w) (Ok e) after Says q says h = absurd q
  told_so (Err w) (Err f) after Says q says h = (
    ahead_refused s at brackets (left_of slot) f,
    record {
      fits = λ v left e k. let g = (h.1.fits v left e k).0.is in absurd (cc);
      full = λ v left e k.
          let g = h.1.full v left e k in
          let place = first_over (left_of slot) (item_entries slot.parent slot.next at v) in
          let p : w ≡ no_entry_left place = cc in
          ap Err (says place f (subst (λ (u : Refused). Says u f) p q));
    },
  )

  module _ (r : Result Judged Refused) (o : opens_with (drop at s) ≡ no_bracket) (h : Judges leaf_form s at (leaf_of also (drop at s)) r) where
    pub leaf_enters : (read : Judged) → r ≡ Ok read → (e : Entered) → e ≡ without_items read → EntersValue brackets also s at cells slot (Ok e) cells
    leaf_enters read q = read_enters read o (rw q at (leaf_value s at brackets also r o h))

    pub leaf_refused : (w : Refused) → r ≡ Err w → EntersValue brackets also s at cells slot (Err w) cells
    leaf_refused w q = refused_enters r (leaf_value s at brackets also r o h) w q

  -- a bracket too many, which was not found
  pub deep_enters : (k : Bracket) → opens_with (drop at s) ≡ opens k → brackets ≡ 0 → (w : Refused) → EntersValue brackets also s at cells slot (Err w) cells
  deep_enters k e z w =
      let f = (fails (deep_value s at brackets also k e z _ refl _ refl) _ refl).faults in (
        ahead_refused s at brackets (left_of slot) w,
        record {
          fits = λ v left q h. absurd (cc);
          full = λ v left q h. absurd (cc);
        },
      )

  module _ (k : Bracket) (fewer : ℕ) (o : Opened k s at brackets fewer) where
    abbrev first : ℕ
    first = at + length (opener k)

    -- a bracket without items
    pub empty_enters : may_be_empty k ≡ true → starts_with (closer k ∷ []) (drop first s) ≡ true
        → (form : Form) → number_of_form form ≡ bracket_form k
        → EntersValue brackets also s at cells slot (Ok (record { form = form; end = first + 1; made = 0; own = 0 })) cells
    empty_enters m e form g =
        let h = empty_value s at brackets also k fewer o m e form g in
        let f = empty_found s at brackets also k fewer o m e in
        let x = value_of brackets also (drop at s) in
        (bare_ahead x _ h (left_of slot), bare_enters x _ h (λ v left q. let y : empty_bracket k ≡ v = cc in rw (← y) (bare_empty k)))

    -- a bracket of items
    pub items_enter : begun k (drop first s) ≡ true → (r : Result Entered Refused) (after : List ℕ) → EntersItems k fewer s first cells slot r after
        → EntersValue brackets also s at cells slot r after
    unfolding item_size items_of item_entries
    items_enter e r after h = (
      record { far = λ e q. omega (arith, h.0.far e q, o.deeper) },
      record {
        fits = λ v left q. let p = is_bracket v left q in subst⁻¹ (λ (u : Value). Fitting u left) p.made (fits p.before p.first p.rest left (reads left p));
        full = λ v left q. let p = is_bracket v left q in subst⁻¹ Filled p.made (full p.before p.first p.rest left (reads left p));
      },
    )
      where
        Fitting : Value → List ℕ → Type 0
        Fitting u left =
            item_size u ≤ left_of slot
            → Holds r (record { form = value_form u; end = place_in s left; made = item_size u; own = items_of u })
            × (after ≡ lay cells slot.next (item_entries slot.parent slot.next at u))

        Filled : Value → Type 0
        Filled u = left_of slot < item_size u → r ≡ Err (no_entry_left (first_over (left_of slot) (item_entries slot.parent slot.next at u)))

        is_bracket : (v : Value) (left : List ℕ) → value_of brackets also (drop at s) ≡ found v left → MadeOf k fewer (bracket k) (drop first s) v left
        is_bracket v left q = made_of k fewer (drop first s) (bracket k) v left (sym (items_found s at brackets also k fewer o e) ∙ q)

        reads : {v : Value} (left : List ℕ) (p : MadeOf k fewer (bracket k) (drop first s) v left)
            → item_and k fewer (bracket k) (drop first s) ≡ found (bracket k p.before p.first p.rest) left
        reads left p = together k fewer (drop first s) (bracket k) p.before p.first p.rest left p.parts

        fits : (a : Label) (v : Value) (more : More) (left : List ℕ) → item_and k fewer (bracket k) (drop first s) ≡ found (bracket k a v more) left
            → Fitting (bracket k a v more) left
        fits a v more left q f =
            let x = h.1.fits a v more left q (omega arith) in
            let n : slot.next + 0 ≡ slot.next = omega arith in
            let l : 0 + size_from v more ≡ size_from v more = omega arith in
            let b : 0 + suc (more_items more) ≡ suc (more_items more) = omega arith in (
              holds_as x.0 (ap₂ (λ (m o : ℕ). items_of_bracket (bracket_form k) (place_in s left) m o) l b),
              x.1 ∙ ap (λ (m : ℕ). lay cells m (entries_from slot.parent m first a v more)) n,
            )

        full : (a : Label) (v : Value) (more : More) (left : List ℕ) → item_and k fewer (bracket k) (drop first s) ≡ found (bracket k a v more) left
            → Filled (bracket k a v more)
        full a v more left q f =
            let n : slot.next + 0 ≡ slot.next = omega arith in
            let l : left_of slot - 0 ≡ left_of slot = omega arith in
            h.1.full a v more left q (omega arith) ∙ ap₂ (λ (m o : ℕ). full_at (first_over m (entries_from slot.parent o first a v more))) l n
