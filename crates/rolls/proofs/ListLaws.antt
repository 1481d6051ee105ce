-- A roll that is listed: a law for each way out, in the paper's order of faults, and the whole reading. Over plain lists. Assumes nothing.
-- Document 01, "Rolls" and "Order".
use Prim.Native.Nat.{ℕ, ◌-◌, ◌*◌, ◌≤◌, ◌<◌}
use mathlib.Core.Path.{◌≡◌, refl, sym, ap, ◌∙◌}
use mathlib.Core.List.{List, [], ◌∷◌}
use native.Mathlib.Omega.{arith}
use lib.ListN.{length, take, replicate}
use lib.Seq.{sets, length-take-le}
use lib.Dec.{ltb}
use borrow.Author.Tests.{lt-ltb, le-ltb, ltb-false, ne_eqb}
use Rattle.std.specs.Prelude.{Result, Ok, Err}
use Rattle.paper.specs.declared.Refusal.{Refusal}
use Rattle.paper.specs.Answer.{Answer, accepted_at, refused_at, accepted, refused, number_of, told}
use Rattle.paper.specs.declared.Told.{Told}
use Rattle.paper.specs.Found.{Found, found, fault, and_then}
use Rattle.paper.specs.Bytes.{is_blank, front, behind}
use Rattle.paper.specs.Modes.{Modes, mode_table, read_table}
use Rattle.paper.specs.Tree.{Blank}
use Rattle.paper.specs.Reading.{blank_lines, last_blanks}
use Rattle.paper.specs.Roll.{roll_limit, record_cells, Parts, parts, parts_of, Record, all_records, filled_records}
use Rattle.paper.specs.Roll.{RollReading, roll_room, only_blanks, roll_faults, roll_records, roll_reading}
use Rattle.paper.proofs.Numbers.{number_positive}
use Rattle.paper.proofs.Tests.{split}
use Rattle.paper.proofs.Finds.{Reads}
use Rattle.paper.proofs.Lines.{ReadBlanks, blanks_reads}
use Rattle.paper.proofs.Rolls.{records_many}
use Rattle.modes.specs.Table.{Valid}
use Rattle.modes.proofs.Answered.{number_told, count_told}
use Rattle.lines.specs.Parts.{Seen, reached, passed}
use Rattle.paper.specs.declared.Refused.{Refused}
use Rattle.sheets.proofs.SheetLaws.{all_zero}
use Rattle.rolls.specs.Boundaries.{sheets_in, BoundaryFrom, sheets_from}
use Rattle.rolls.specs.Records.{lay_records, unread, unread_in, records_in}
use Rattle.rolls.specs.Listing.{counted_from, FindsSheets, AllFound, Lists}
use Rattle.rolls.proofs.Passing.{roll_parts}
use Rattle.rolls.proofs.RecordLaws.{lay_behind, lay_stands, lay_over, lay_filled, unread_many}

-- a refusal has no acceptance's number
not_accepted : (a : Answer) (why : Refusal) (p : ℕ) → a ≡ Err (refused_at why p) → (told a).number ≡ 0 → ⊥
not_accepted a why p q z = number_positive why (sym (ap (λ (x : Answer). (told x).number) q) ∙ z)

-- a fault before the first boundary has a number
last_number : (blanks s : List ℕ) (n : ℕ) (left : List ℕ) → last_blanks blanks s ≡ fault n left → 1 ≤ n
unfolding last_blanks
last_number blanks [] n left e = let z : ◌≡◌ {A = ℕ} 0 1 = cc in absurd (omega arith)
last_number blanks (b ∷ l) n left e = let z : 7 ≡ n = cc in omega arith

blanks_number : (s : List ℕ) (n : ℕ) (left : List ℕ) → only_blanks s ≡ fault n left → 1 ≤ n
blanks_number s n left = go (blank_lines s) (blanks_reads s)
  where
    go : (x : Found (List Blank)) → Reads s (λ bs left. ReadBlanks s bs left) x
        → and_then x (λ bs left. last_blanks (front is_blank left) (behind is_blank left)) ≡ fault n left → 1 ≤ n
    go (found bs rest) h e = last_number (front is_blank rest) (behind is_blank rest) n left e
    go (fault k rest) h e = let z : k ≡ n = cc in omega (arith, h.least)

-- there are as many records as sheets
records_in_lem : (table : List ℕ) (lent : ℕ) (q : Parts) → length (records_in table lent q) ≡ length (sheets_in q)
records_in_lem table lent (parts lead sheets) = records_many table lent (length lead) sheets

-- ---- the faults, in their order

abbrev faults : List ℕ → List ℕ → List ℕ → Told
faults table r records = roll_faults table (roll_room (length records)) r (parts_of r)

module _ (table r : List ℕ) (lent : ℕ) (records : List ℕ) where
  -- a refusal says nothing of the cells
  refuses : {answer : Told} {after : List ℕ} → answer ≡ faults table r records → (answer.number ≡ 0 → ⊥) → Lists table r lent records answer after
  refuses e h = record { says = e; counts = λ z. absurd (h z); laid = λ z. absurd (h z) }

  pub roll_long : {after : List ℕ} → roll_limit < length r → Lists table r lent records (refused 13 roll_limit) after
  unfolding roll_faults
  roll_long h = refuses (go (parts_of r)) (λ z. omega arith)
    where
      go : (q : Parts) → refused 13 roll_limit ≡ roll_faults table (roll_room (length records)) r q
      go (parts lead sheets) = rw (lt-ltb roll_limit (length r) h, roll_faults)

  module _ (h : length r ≤ roll_limit) where
    pub table_bad : {after : List ℕ} (a : Answer) (why : Refusal) (p : ℕ) → told a ≡ read_table table → a ≡ Err (refused_at why p) → Lists table r lent records (told a) after
    unfolding roll_faults read_table
    table_bad a why p e q = refuses (go (mode_table table) refl (parts_of r)) (not_accepted a why p q)
      where
        go : (x : Found Modes) → mode_table table ≡ x → (s : Parts) → told a ≡ roll_faults table (roll_room (length records)) r s
        go (found m left) f s = absurd (number_positive why (number_told (rw (q, read_table, f) at e)))
        go (fault n left) f (parts lead sheets) = rw (le-ltb roll_limit (length r) h, roll_faults, f) (rw (read_table, f) at e)

-- the first boundary stands at a place, and it is left to count the sheets from there on
pub record Led (table r records : List ℕ) (first : ℕ) : Type 0 where
  pub boundary : BoundaryFrom r 0 first
  pub counted : counted_from (roll_room (length records)) r first (sheets_from r first) ≡ faults table r records

-- how long what stands before it is
lead_long : {r : List ℕ} {first : ℕ} → BoundaryFrom r 0 first → length (take first r) ≡ first
lead_long {r} {first} b = length-take-le first r b.begins.inside

-- what stands before the first boundary
module _ (table r records : List ℕ) (h : length r ≤ roll_limit) (v : Valid table) {first : ℕ} (b : BoundaryFrom r 0 first) (lead : Result ℕ Refused)
    (e : reached lead ≡ passed (take first r) (only_blanks (take first r))) where
  pub lead_bad : (lent : ℕ) {after : List ℕ} (f : Refused) → lead ≡ Err f → Lists table r lent records (refused 14 f.place) after
  unfolding roll_faults
  lead_bad lent f q = refuses table r lent records (go (only_blanks (take first r)) refl (sym (ap reached q) ∙ e)) (λ z. omega arith)
    where
      go : (x : Found (List ℕ)) → only_blanks (take first r) ≡ x → reached (Err f) ≡ passed (take first r) x
          → refused 14 f.place ≡ faults table r records
      go (found bs left) k g = absurd (number_positive f.refusal (ap (λ (s : Seen). s.number) g))
      go (fault n left) k g =
          rw (roll_parts b, le-ltb roll_limit (length r) h, roll_faults, v, k) (ap (refused 14) (ap (λ (s : Seen). s.place) g))

  pub lead_good : (end : ℕ) → lead ≡ Ok end → Led table r records first
  unfolding roll_faults
  lead_good end q = record { boundary = b; counted = go (only_blanks (take first r)) refl (sym (ap reached q) ∙ e) }
    where
      go : (x : Found (List ℕ)) → only_blanks (take first r) ≡ x → reached (Ok end) ≡ passed (take first r) x
          → counted_from (roll_room (length records)) r first (sheets_from r first) ≡ faults table r records
      go (found bs left) f g =
          ap (λ (n : ℕ). counted_from (roll_room (length records)) r n (sheets_from r first)) (sym (lead_long b))
          ∙ rw (roll_parts b, le-ltb roll_limit (length r) h, roll_faults, v, f)
      go (fault n left) f g = absurd (omega (arith, blanks_number (take first r) n left f, ap (λ (s : Seen). s.number) g))

-- ---- the sheets are found, or one is over

module _ {table r records : List ℕ} {first : ℕ} (l : Led table r records first) (a : Answer) {mid : List ℕ} (g : FindsSheets r first records (told a) mid) where
  pub sheets_bad : (lent : ℕ) (why : Refusal) (p : ℕ) → a ≡ Err (refused_at why p) → Lists table r lent records (told a) mid
  sheets_bad lent why p k = refuses table r lent records (g.says ∙ l.counted) (not_accepted a why p k)

  module _ (place count : ℕ) (k : a ≡ Ok (accepted_at place count)) where
    abbrev sheets : List (List ℕ)
    sheets = sheets_from r first

    accepts : accepted place count ≡ counted_from (roll_room (length records)) r first sheets
    accepts = sym (ap told k) ∙ g.says

    all_there : (count ≡ length sheets) × (count ≤ roll_room (length records))
    all_there =
        split (ltb (roll_room (length records)) (length sheets))
        (λ o. let z : ◌≡◌ {A = ℕ} 0 15 = number_told (rw (o, counted_from) at accepts) in absurd (omega arith))
        (λ o. let n : count ≡ length sheets = count_told (rw (o, counted_from) at accepts) in (n, omega (arith, ltb-false (roll_room (length records)) (length sheets) o)))

    found_many : length (unread first sheets) ≡ count
    found_many = unread_many first sheets ∙ sym all_there.0

    mid_laid : mid ≡ lay_records records 0 (unread first sheets)
    mid_laid = g.laid (number_told (ap told k))

    in_parts : unread_in (parts_of r) ≡ unread first sheets
    in_parts = ap unread_in (roll_parts l.boundary) ∙ ap (λ (n : ℕ). unread n sheets) (lead_long l.boundary)

    pub all_found : AllFound r mid count
    all_found =
        record {
          many = all_there.0 ∙ ap (λ (s : Parts). length (sheets_in s)) (sym (roll_parts l.boundary));
          stand =
              mid_laid
              ∙ lay_stands records (unread first sheets) (omega (arith, found_many, all_there.1))
              ∙ rw (found_many, in_parts, mid_laid, lay_behind records 0 (unread first sheets) count (omega (arith, found_many)));
        }

    -- and they are read
    pub roll_listed : (lent : ℕ) {after : List ℕ} → after ≡ lay_records mid 0 (records_in table lent (parts_of r))
        → Lists table r lent records (accepted place count) after
    roll_listed lent laid =
        let es : List Record = records_in table lent (parts_of r) in
        let as_many : length es ≡ count = records_in_lem table lent (parts_of r) ∙ sym all_found.many in
        record {
          says = accepts ∙ l.counted;
          counts = λ z. (all_found.many, all_there.1);
          laid = λ z.
              laid
              ∙ ap (λ (m : List ℕ). lay_records m 0 es) mid_laid
              ∙ lay_over records (unread first sheets) es (found_many ∙ sym as_many) (omega (arith, as_many, all_there.1));
        }

-- ---- the whole reading

module _ (table r : List ℕ) (lent : ℕ) (records : List ℕ) where
  -- the records fit their cells
  pub records_fit : (a : Answer) {mid : List ℕ} → Lists table r lent records (told a) mid → (n : ℕ) → n ≡ (told a).count → n * record_cells ≤ length records
  records_fit (Ok a) g n e = omega (arith, (g.counts refl).1)
  records_fit (Err f) g n e = omega arith

  -- the records of an acceptance, and none of a refusal
  made : (p c : ℕ) (q : Parts) → roll_records table lent (accepted p c) q ≡ records_in table lent q
  unfolding roll_records
  made p c (parts lead _) = refl

  none_made : (why : Refusal) (p : ℕ) (q : Parts) → roll_records table lent (refused (number_of why) p) q ≡ []
  unfolding roll_records
  none_made why p (parts lead sheets) = rw (ne_eqb (number_of why) 0 (number_positive why), roll_records)

  zeroed : (a : Answer) (mid : List ℕ) → Lists table r lent records (told a) mid → length mid ≡ length records → (n : ℕ) → n ≡ (told a).count
      → sets mid (n * record_cells) (replicate (length mid - n * record_cells) 0) ≡ filled_records (length records) (roll_records table lent (told a) (parts_of r))
  unfolding filled_records all_records
  zeroed (Ok a) mid g same n e =
      let es : List Record = records_in table lent (parts_of r) in
      let as_many : length es ≡ n = records_in_lem table lent (parts_of r) ∙ sym (g.counts refl).0 ∙ sym e in
      rw (same, g.laid refl, ← as_many, made a.place a.count (parts_of r)) (lay_filled records es (omega (arith, as_many, (g.counts refl).1)))
  zeroed (Err f) mid g same n e =
      let all : length mid ≡ length records - record_cells * 0 = omega arith in
      rw (none_made f.refusal f.place (parts_of r), e) (all_zero mid ∙ ap (λ (k : ℕ). replicate k 0) all)

  pub roll_done : (a : Answer) (mid : List ℕ) → Lists table r lent records (told a) mid → length mid ≡ length records → (n : ℕ) → n ≡ (told a).count
      → (after cells : List ℕ) → after ≡ sets mid (n * record_cells) (replicate (length mid - n * record_cells) 0) → cells ≡ replicate lent 0
      → ◌≡◌ {A = RollReading} (record { answer = told a; records = after; cells = cells }) (roll_reading table r (length records) lent)
  unfolding roll_reading
  roll_done a mid g same n e after cells k z =
      rw (k, z, zeroed a mid g same n e)
      (ap (λ (t : Told). record { answer = t; records = filled_records (length records) (roll_records table lent t (parts_of r)); cells = replicate lent 0 }) g.says)
