-- One turn over the items of a bracket, by the slots and tests that lead through it, and where a bracket may be entered. Over plain lists. Assumes nothing.
use Prim.Native.Nat.{ℕ, ◌+◌, ◌-◌, ◌≤◌, ◌<◌}
use mathlib.Core.Path.{◌≡◌, sym, ap, ◌∙◌}
use mathlib.Core.Bool.{Bool, true, false}
use mathlib.Core.List.{List, [], ◌∷◌, ◌++◌}
use native.Mathlib.Omega.{arith}
use lib.ListN.{length, drop, length-append}
use lib.Dec.{leb}
use borrow.Author.Tests.{leb-true, leb-false}
use Rattle.std.specs.Prelude.{Result, Ok, Err}
use Rattle.paper.specs.declared.Refusal.TheVariants.{NoEntryLeft}
use Rattle.paper.specs.declared.Refused.{Refused}
use Rattle.paper.specs.declared.forms.Form.{Form}
use Rattle.paper.specs.declared.brackets.Bracket.{Bracket}
use Rattle.paper.specs.Answer.{refused_at}
use Rattle.paper.specs.Forms.{number_of_form}
use Rattle.paper.specs.Bytes.{byte, bytes, is_white, starts_with}
use Rattle.paper.specs.Values.{opener, bracket_form, enders, Label, no_label, label, key_onto, label_onto, bracket}
use Rattle.paper.specs.ReadingValues.{value_of, item_and}
use Rattle.paper.specs.Entries.{key_width, label_width}
use Rattle.paper.proofs.Labels.{key_append}
use Rattle.entries.specs.Laid.{lay, slot_after, slot_under}
use Rattle.entries.specs.declared.Slot.{Slot}
use Rattle.values.specs.declared.entering.Entered.{Entered}
use Rattle.values.specs.Entering.{Ready, left_of, Ahead, Enters, EntersFrom}
use Rattle.text.proofs.Stretch.{Stretch}
use Rattle.values.proofs.LabelLaws.{LabelTo}
use Rattle.values.proofs.BracketLaws.{Opened, opened_in}
use Rattle.values.proofs.EnterLaws.{written, ahead_items, none_left, none_inside, last_item, next_item}

-- behind its opener, one bracket deeper
pub stands_deeper : {s : List ℕ} {at brackets : ℕ} {cells : List ℕ} {slot : Slot} → Ready s at brackets cells slot
    → {k : Bracket} {fewer : ℕ} → Opened k s at brackets fewer → Ready s (at + length (opener k)) fewer cells slot
stands_deeper {s} {at} h {k} o =
    record { place = opened_in k s at o.opens; short = h.short; few = omega (arith, h.few, o.deeper); fits = h.fits }

-- a key ends where its value is due, or before
key_before : {k : Bracket} {s : List ℕ} {at key value : ℕ} → LabelTo k s at key value → key ≤ value
unfolding label_onto
key_before to = omega (arith, to.ends, to.due, narrow to.it)
  where
    narrow : (a : Label) → key_width a ≤ label_width a
    narrow no_label = omega arith
    narrow (label key white) =
        omega (arith, ap length (key_append key (byte ":" ∷ (white ++ []))), length-append (key_onto key []) (byte ":" ∷ (white ++ [])))

-- ---- one turn

-- where a turn stands, with the slot of the next entry
pub record Turn (s : List ℕ) (at brackets : ℕ) (start : List ℕ) (slot : Slot) (i made own : ℕ) (cells : List ℕ) (next : Slot) : Type 0 where
  pub stands : Ready s at brackets start slot
  pub from : at ≤ i
  pub place : i ≤ length s
  pub few : made ≤ left_of slot
  pub owned : own ≤ made
  pub kept : length cells ≡ length start
  pub next_is : next ≡ slot_after slot made

module _ {s : List ℕ} {at brackets : ℕ} {start : List ℕ} {slot : Slot} {i made own : ℕ} {cells : List ℕ} {next : Slot}
    (h : Turn s at brackets start slot i made own cells next) where
  number : next.next ≡ slot.next + made
  number = ap (λ (x : Slot). x.next) h.next_is

  room_is : next.room ≡ slot.room
  room_is = ap (λ (x : Slot). x.room) h.next_is

  module _ (test : Bool) (f : test ≡ leb next.room next.next) where
    -- no entry is left
    pub full_turn : (k : Bracket) → test ≡ true → (w : Refused) → w ≡ refused_at NoEntryLeft i
        → EntersFrom k s i cells slot made own (item_and k brackets (bracket k) (drop i s)) (Err w) cells
    full_turn k t w q = let l = leb-true next.room next.next (sym f ∙ t) in rw q (none_left k s i brackets cells slot made own (omega (arith, number, room_is)))

    module _ (t : test ≡ false) (under : Slot) (b : under ≡ slot_under next) where
      room_left : slot.next + made < slot.room
      room_left = let l = leb-false next.room next.next (sym f ∙ t) in omega (arith, number, room_is)

      under_is : under ≡ slot_under (slot_after slot made)
      under_is = b ∙ ap slot_under h.next_is

-- the same with an item that was entered behind its label, and the cells that it left
pub record Turned (k : Bracket) (s : List ℕ) (at brackets : ℕ) (start : List ℕ) (slot : Slot) (i made own : ℕ) (cells : List ℕ) (next : Slot) (key value : ℕ)
    (item : Result Entered Refused) (mid : List ℕ) : Type 0 where
  pub turn : Turn s at brackets start slot i made own cells next
  pub label : LabelTo k s i key value
  pub same : length mid ≡ length cells
  pub room : slot.next + made < slot.room
  pub ahead : Ahead s value brackets (slot.room - (slot.next + made + 1)) item
  pub entered : Enters s value cells (slot_under (slot_after slot made)) (value_of brackets (enders k) (drop value s)) item mid

pub turned : {s : List ℕ} {at brackets : ℕ} {start : List ℕ} {slot : Slot} {i made own : ℕ} {cells : List ℕ} {next : Slot}
    (h : Turn s at brackets start slot i made own cells next)
    (test : Bool) → test ≡ leb next.room next.next → test ≡ false → {k : Bracket} {key value : ℕ} → LabelTo k s i key value
    → (under : Slot) → under ≡ slot_under next → (item : Result Entered Refused) (mid : List ℕ) → length mid ≡ length cells
    → Ahead s value brackets (left_of under) item × Enters s value cells under (value_of brackets (enders k) (drop value s)) item mid
    → Turned k s at brackets start slot i made own cells next key value item mid
turned h test f t to under b item mid l e =
    let u = under_is h test f t under b in
    record { turn = h; label = to; same = l; room = room_left h test f t under b; ahead = rw u at e.0; entered = rw u at e.1 }

-- numbers of a turn
pub record Far (s : List ℕ) (at brackets : ℕ) (slot : Slot) (i made own key value end inside count : ℕ) : Type 0 where
  pub from : at ≤ i
  pub labelled : i ≤ value
  pub keyed : key ≤ value
  pub ahead : value < end
  pub end_in : end ≤ length s + 1 + brackets
  pub short : length s ≤ 16384
  pub brackets_few : brackets ≤ 8
  pub made_in : made + (1 + inside) ≤ left_of slot
  pub room_few : left_of slot ≤ 1024
  pub count_in : count ≤ inside
  pub own_in : own ≤ made

module _ {k : Bracket} {s : List ℕ} {at brackets : ℕ} {start : List ℕ} {slot : Slot} {i made own : ℕ} {cells : List ℕ} {next : Slot} {key value : ℕ}
    {item : Result Entered Refused} {mid : List ℕ} (h : Turned k s at brackets start slot i made own cells next key value item mid) where
  -- no entry is left inside the item
  pub none_turn : (w : Refused) → item ≡ Err w → EntersFrom k s i cells slot made own (item_and k brackets (bracket k) (drop i s)) (Err w) mid
  none_turn w q = none_inside k s i brackets cells slot made own key value h.label h.room item mid h.entered w q

  module _ (it : Entered) (q : item ≡ Ok it) where
    pub far : Far s at brackets slot i made own key value it.end it.made it.own
    far =
        let a = h.ahead.far it q in
        let f = h.turn.stands.fits in
        record {
          from = h.turn.from;
          labelled = omega (arith, h.label.due);
          keyed = key_before h.label;
          ahead = a.0;
          end_in = a.1;
          short = h.turn.stands.short;
          brackets_few = h.turn.stands.few;
          made_in = omega (arith, h.room, a.2);
          room_few = omega (arith, f.few);
          count_in = a.3;
          own_in = h.turn.owned;
        }

    pub last_ahead : (form : Form)
        → Ahead s at (brackets + 1) (left_of slot) (Ok (record { form = form; end = it.end + 1; made = made + (1 + it.made); own = own + 1 }))
    last_ahead form = let n = far in ahead_items s at (brackets + 1) (left_of slot) _ (omega arith) (omega arith) (omega arith) (omega arith)

    module _ (laid : List ℕ) (p : laid ≡ lay mid next.next (written (number_of_form it.form) slot.parent it.own i key value it.end ∷ [])) where
      laid_there : laid ≡ lay mid (slot.next + made) (written (number_of_form it.form) slot.parent it.own i key value it.end ∷ [])
      laid_there = p ∙ ap (λ (n : ℕ). lay mid n (written (number_of_form it.form) slot.parent it.own i key value it.end ∷ [])) (number h.turn)

      pub last_turn : starts_with (bytes ",") (drop it.end s) ≡ false → (form : Form) → number_of_form form ≡ bracket_form k
          → EntersFrom k s i cells slot made own (item_and k brackets (bracket k) (drop i s))
          (Ok (record { form = form; end = it.end + 1; made = made + (1 + it.made); own = own + 1 })) laid
      last_turn c form g =
          last_item k s i brackets cells slot made own key value h.label h.room item mid h.entered it q laid laid_there c form g

      pub next_turn : starts_with (bytes ",") (drop it.end s) ≡ true → (on : ℕ) → Stretch is_white s (it.end + 1) on → (r : Result Entered Refused) (after : List ℕ)
          → EntersFrom k s on laid slot (made + (1 + it.made)) (own + 1) (item_and k brackets (bracket k) (drop on s)) r after
          → EntersFrom k s i cells slot made own (item_and k brackets (bracket k) (drop i s)) r after
      next_turn c on g r after w =
          next_item k s i brackets cells slot made own key value h.label h.room item mid h.entered it q laid laid_there c on g r after w
