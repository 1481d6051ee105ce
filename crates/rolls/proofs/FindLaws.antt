-- Sheets that are found one after another, and the records that are made of them. Over plain lists. Assumes nothing.
-- Document 01, "Rolls", and refusal 15.
use Prim.Native.Nat.{ℕ, suc, ◌+◌, ◌-◌, ◌≤◌, ◌<◌}
use mathlib.Core.Path.{◌≡◌, refl, sym, ap, ap₂, ◌∙◌}
use mathlib.Core.List.{List, [], ◌∷◌}
use native.Mathlib.Omega.{arith}
use lib.ListN.{length, take, length-append}
use borrow.Author.Tests.{lt-ltb, le-ltb}
use Rattle.paper.specs.Answer.{accepted, refused}
use Rattle.paper.specs.Roll.{Record, together, roll_room}
use Rattle.lines.specs.Parts.{part}
use Rattle.rolls.specs.Boundaries.{Begins, sheets_from, SheetTo}
use Rattle.rolls.specs.Records.{lay_records, unread_of, unread}
use Rattle.rolls.specs.Listing.{counted_from, FindsSheets}
use Rattle.rolls.proofs.Passing.{begins_some, begins_none_lem, part_length}
use Rattle.rolls.proofs.RecordLaws.{lay_none, lay_long, lay_more, unread_none, unread_more}

-- so many sheets of those from `first` on are found, and the next one begins at `at`: what is left to find and to write is what was at first
pub record Finding (r : List ℕ) (first most : ℕ) (lent records : List ℕ) (at count : ℕ) : Type 0 where
  pub begins : Begins r at
  pub few : count ≤ most
  pub long : length records ≡ length lent
  pub many : count + length (sheets_from r at) ≡ length (sheets_from r first)
  pub over : at + length (together (take (most - count) (sheets_from r at))) ≡ first + length (together (take most (sheets_from r first)))
  pub laid : lay_records records count (unread at (sheets_from r at)) ≡ lay_records lent 0 (unread first (sheets_from r first))

pub finding_none : {r : List ℕ} {first : ℕ} (most : ℕ) (lent : List ℕ) → Begins r first → Finding r first most lent lent first 0
finding_none most lent b =
    let n : most - 0 ≡ most = omega arith in
    record { begins = b; few = omega arith; long = refl; many = omega arith; over = rw n; laid = refl }

-- a sheet in front of those that are taken
taken : (p : List ℕ) (ps : List (List ℕ)) (k : ℕ) → length (together (take (suc k) (p ∷ ps))) ≡ length p + length (together (take k ps))
unfolding together
taken p ps k = length-append p (together (take k ps))

none_taken : (ps : List (List ℕ)) → length (together (take 0 ps)) ≡ 0
unfolding together
none_taken ps = refl

module _ {r : List ℕ} {first most : ℕ} {lent records : List ℕ} {at count : ℕ} (f : Finding r first most lent records at count) where
  -- one sheet more
  pub finding_turn : {end : ℕ} {after : List ℕ} (e : Record) → count < most → SheetTo r at end → e ≡ unread_of at end → after ≡ lay_records records count (e ∷ [])
      → Finding r first most lent after end (count + 1)
  finding_turn {end} {after} e h s is laid =
      let p : List ℕ = part r at end in
      let wide : length p ≡ end - at = part_length r at end (omega (arith, s.ahead)) s.begins.inside in
      let there : at + length p ≡ end = omega (arith, s.ahead) in
      let less : most - count ≡ suc (most - (count + 1)) = omega arith in
      let took : length (together (take (most - count) (sheets_from r at))) ≡ length p + length (together (take (most - (count + 1)) (sheets_from r end)))
      = rw (s.same, less) (taken p (sheets_from r end) (most - (count + 1))) in
      record {
        begins = s.begins;
        few = omega arith;
        long = ap length laid ∙ lay_long records count (e ∷ []) ∙ f.long;
        many = omega (arith, ap length s.same, f.many);
        over = omega (arith, took, there, f.over);
        laid =
            rw (laid, is) (sym (lay_more records count (unread_of at end) (unread end (sheets_from r end))))
            ∙ ap (lay_records records count) (sym (unread_more at end p (sheets_from r end) there) ∙ ap (unread at) (sym s.same))
            ∙ f.laid;
      }

  -- one over
  over_counted : at < length r → most ≤ count → refused 15 at ≡ counted_from most r first (sheets_from r first)
  over_counted h k =
      let none : most - count ≡ 0 = omega arith in
      let more : most < length (sheets_from r first) = omega (arith, f.many, begins_some f.begins h) in
      let place : at ≡ first + length (together (take most (sheets_from r first))) =
      omega (arith, f.over, ap (λ (n : ℕ). length (together (take n (sheets_from r at)))) none ∙ none_taken (sheets_from r at)) in
      rw (lt-ltb most (length (sheets_from r first)) more, counted_from) (ap (refused 15) place)

  module _ (h : length r ≤ at) where
    all_counted : count ≡ length (sheets_from r first)
    all_counted = omega (arith, f.many, ap length (begins_none_lem f.begins h))

    done_counted : accepted at count ≡ counted_from most r first (sheets_from r first)
    done_counted =
        let end : at ≡ length r = omega (arith, f.begins.inside) in
        rw (le-ltb most (length (sheets_from r first)) (omega (arith, all_counted, f.few)), counted_from) (ap₂ accepted end all_counted)

    done_laid : records ≡ lay_records lent 0 (unread first (sheets_from r first))
    done_laid = sym (lay_none records count) ∙ rw (begins_none_lem f.begins h, unread_none at) at f.laid

  -- the two ways out, in the room that the cells have
  module _ (lends : most ≡ roll_room (length lent)) where
    pub finds_over : at < length r → most ≤ count → FindsSheets r first lent (refused 15 at) records
    finds_over h k =
        record {
          says = over_counted h k ∙ ap (λ (n : ℕ). counted_from n r first (sheets_from r first)) lends;
          laid = λ z. absurd (omega arith);
        }

    pub finds_all : length r ≤ at → FindsSheets r first lent (accepted at count) records
    finds_all h = record { says = done_counted h ∙ ap (λ (n : ℕ). counted_from n r first (sheets_from r first)) lends; laid = λ z. done_laid h }
