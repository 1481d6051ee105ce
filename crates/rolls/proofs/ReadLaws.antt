-- Sheets of a roll that are read one after another, each by itself. Over plain lists. Assumes nothing.
-- Document 01, "Rolls".
use Prim.Native.Nat.{ℕ, ◌+◌, ◌-◌, ◌*◌, ◌≤◌, ◌<◌}
use mathlib.Core.Path.{◌≡◌, refl, sym, ap, ◌∙◌}
use mathlib.Core.Bool.{true}
use mathlib.Core.List.{List, [], ◌∷◌, ◌++◌}
use native.Mathlib.Omega.{arith}
use lib.ListN.{length, drop, length-append, length-drop}
use lib.Seq.{drop-drop, take-append_seam, drop-append_seam}
use Rattle.paper.specs.declared.Told.{Told}
use Rattle.paper.specs.Found.{Found, found, fault}
use Rattle.paper.specs.Tree.{Sheet}
use Rattle.paper.specs.Limits.{sheet_limit, entry_limit}
use Rattle.paper.specs.Reading.{room_of, sheet_of, reading}
use Rattle.paper.specs.Roll.{Parts, parts, parts_of, together, Record, record_of, records_of, record_cells, all_records}
use Rattle.paper.proofs.Rolls.{whole, nothing_lost}
use Rattle.paper.proofs.Exactly.{reading_small}
use Rattle.modes.specs.Table.{Valid, modes_of}
use Rattle.lines.specs.Parts.{part}
use Rattle.sheets.specs.Sheets.{answer_of, ReadsUnder}
use Rattle.rolls.specs.Boundaries.{sheets_in}
use Rattle.rolls.specs.Records.{lay_records, record_with, unread, start_at, end_at, unread_in, records_in}
use Rattle.rolls.specs.Listing.{Spans, ReadsRecord, AllFound}
use Rattle.rolls.proofs.RecordLaws.{lay_none, lay_long, lay_more, lay_behind, unread_starts, unread_ends, unread_held, unread_next}

-- ---- one sheet by itself

module _ (table s cells : List ℕ) (answer : Told) (after : List ℕ) (v : Valid table) (g : ReadsUnder table s cells answer after) where
  -- whatever the cells hold, the answer is that of reading its bytes alone
  pub alone : answer ≡ (reading table s (length cells)).answer
  unfolding reading
  alone = go (sheet_of (modes_of table) (room_of (length cells)) s) refl g.says
    where
      go : (x : Found Sheet) → sheet_of (modes_of table) (room_of (length cells)) s ≡ x → answer ≡ answer_of s x → answer ≡ (reading table s (length cells)).answer
      go (found t left) f e = rw (v, reading, f) e
      go (fault n left) f e = rw (v, reading, f) e

  -- its numbers are small
  pub small_place : answer.place ≤ sheet_limit
  small_place = omega (arith, ap (λ (a : Told). a.place) alone, (reading_small table s (length cells)).0)

  pub small_count : answer.count ≤ entry_limit
  small_count = omega (arith, ap (λ (a : Told). a.count) alone, (reading_small table s (length cells)).1)

  -- the record that has its three numbers
  pub record_read : (start end number place count : ℕ) → number ≡ answer.number → place ≡ answer.place → count ≡ answer.count
      → record_with start end (record { number = number; place = place; count = count }) ≡ record_with start end (reading table s (length cells)).answer
  record_read start end number place count e f g = rw (e, f, g) (ap (record_with start end) alone)

-- ---- the sheets from a number on

-- so many sheets are read, and the others start at `at`: what is left to write is what was at first
pub record ReadTo (table r : List ℕ) (lent : ℕ) (first records : List ℕ) (count n : ℕ) : Type 0 where
  pub at : ℕ
  pub sheets : List (List ℕ)
  pub rest : List ℕ
  pub inside : at ≤ length r
  pub long : length records ≡ length first
  pub many : n + length sheets ≡ count
  pub there : drop at r ≡ together sheets
  pub stand : drop (n * record_cells) records ≡ all_records (unread at sheets) ++ rest
  pub same : lay_records records n (records_of table lent at sheets) ≡ lay_records first 0 (records_in table lent (parts_of r))

pub none_read : (table r : List ℕ) (lent : ℕ) (records : List ℕ) (count : ℕ) → AllFound r records count → ReadTo table r lent records records count 0
none_read table r lent records count a = go (parts_of r) refl (nothing_lost true r) a.many a.stand
  where
    go : (q : Parts) → parts_of r ≡ q → whole q ≡ r → count ≡ length (sheets_in q) → records ≡ all_records (unread_in q) ++ drop (count * record_cells) records
        → ReadTo table r lent records records count 0
    go (parts lead sheets) e w many stand =
        record {
          at = length lead;
          sheets = sheets;
          rest = drop (count * record_cells) records;
          inside = omega (arith, ap length w, length-append lead (together sheets));
          long = refl;
          many = omega arith;
          there = sym (ap (drop (length lead)) w) ∙ drop-append_seam lead (together sheets);
          stand = stand;
          same = rw e refl;
        }

-- the next sheet, whose record stands at its number
module _ (r records : List ℕ) (n at : ℕ) (p : List ℕ) (ps : List (List ℕ)) (rest : List ℕ) (inside : at ≤ length r) (there : drop at r ≡ together (p ∷ ps))
    (stand : drop (n * record_cells) records ≡ all_records (unread at (p ∷ ps)) ++ rest) where
  starts : start_at records n ≡ at
  starts = unread_starts records n at p ps rest stand

  ends : end_at records n ≡ at + length p
  ends = unread_ends records n at p ps rest stand

  reaches : at + length p ≤ length r
  unfolding together
  reaches = omega (arith, ap length there, length-append p (together ps), length-drop at r)

  its_bytes : part r at (at + length p) ≡ p
  unfolding together
  its_bytes = let n : at + length p - at ≡ length p = omega arith in rw (n, there) (take-append_seam p (together ps))

  behind_it_lem : drop (at + length p) r ≡ together ps
  unfolding together
  behind_it_lem = sym (drop-drop (length p) at r) ∙ rw there (drop-append_seam p (together ps))

  spanned : Spans r records n
  spanned = record { held = unread_held records n at p ps rest stand; forward = rw (starts, ends) (omega arith); inside = rw ends reaches }

  its_record : (table : List ℕ) (lent : ℕ)
      → record_with (start_at records n) (end_at records n) (reading table (part r (start_at records n) (end_at records n)) lent).answer ≡ record_of table lent at p
  its_record table lent = rw (starts, ends, its_bytes)

module _ {table r : List ℕ} {lent : ℕ} {first records : List ℕ} {count n : ℕ} where
  -- the next record lies in the cells, and its sheet in the roll
  pub read_spans : ReadTo table r lent first records count n → n < count → Spans r records n
  read_spans t h = go t.sheets t.many t.there t.stand
    where
      go : (ps : List (List ℕ)) → n + length ps ≡ count → drop t.at r ≡ together ps
          → drop (n * record_cells) records ≡ all_records (unread t.at ps) ++ t.rest → Spans r records n
      go [] many there stand = absurd (omega arith)
      go (p ∷ ps) many there stand = spanned r records n t.at p ps t.rest t.inside there stand

  -- one sheet more
  pub read_turn : {after : List ℕ} → ReadTo table r lent first records count n → n < count → (lends : ℕ) → lends ≡ lent → ReadsRecord table r lends records n after
      → ReadTo table r lent first after count (n + 1)
  unfolding records_of
  read_turn {after} t h lends Lent-is laid = go t.sheets t.many t.there t.stand t.same
    where
      go : (ps : List (List ℕ)) → n + length ps ≡ count → drop t.at r ≡ together ps
          → drop (n * record_cells) records ≡ all_records (unread t.at ps) ++ t.rest
          → lay_records records n (records_of table lent t.at ps) ≡ lay_records first 0 (records_in table lent (parts_of r))
          → ReadTo table r lent first after count (n + 1)
      go [] many there stand same = absurd (omega arith)
      go (p ∷ ps) many there stand same =
          let own : after ≡ lay_records records n (record_of table lent t.at p ∷ []) =
          laid
          ∙ ap (λ (e : Record). lay_records records n (e ∷ []))
          (its_record r records n t.at p ps t.rest t.inside there stand table lends ∙ ap (λ (k : ℕ). record_of table k t.at p) Lent-is) in
          record {
            at = t.at + length p;
            sheets = ps;
            rest = t.rest;
            inside = reaches r records n t.at p ps t.rest t.inside there stand;
            long = ap length own ∙ lay_long records n (record_of table lent t.at p ∷ []) ∙ t.long;
            many = omega arith;
            there = behind_it_lem r records n t.at p ps t.rest t.inside there stand;
            stand =
                ap (drop ((n + 1) * record_cells)) own
                ∙ lay_behind records n (record_of table lent t.at p ∷ []) (n + 1) (omega arith)
                ∙ unread_next records n t.at p ps t.rest stand;
            same =
                ap (λ (l : List ℕ). lay_records l (n + 1) (records_of table lent (t.at + length p) ps)) own
                ∙ sym (lay_more records n (record_of table lent t.at p) (records_of table lent (t.at + length p) ps))
                ∙ same;
          }

  -- all are read
  pub all_read : ReadTo table r lent first records count n → count ≤ n → records ≡ lay_records first 0 (records_in table lent (parts_of r))
  unfolding records_of
  all_read t h = go t.sheets t.many t.same
    where
      go : (ps : List (List ℕ)) → n + length ps ≡ count → lay_records records n (records_of table lent t.at ps) ≡ lay_records first 0 (records_in table lent (parts_of r))
          → records ≡ lay_records first 0 (records_in table lent (parts_of r))
      go [] many same = sym (lay_none records n) ∙ same
      go (p ∷ ps) many same = absurd (omega arith)
