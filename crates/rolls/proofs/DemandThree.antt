-- Demand 3, said of what `read` answers for any roll, and for the rolls that `add` wrote: from the laws of the paper's definitions.
-- Document 01, "Rolls". Assumes nothing.
use Prim.Native.Nat.{ℕ, ◌+◌, ◌*◌, ◌≤◌}
use mathlib.Core.Path.{◌≡◌, sym, ap, subst, ◌∙◌}
use mathlib.Core.Bool.{true}
use mathlib.Core.List.{List, [], ◌∷◌, ◌++◌}
use native.Mathlib.Omega.{arith}
use lib.ListN.{length, take, replicate}
use Rattle.std.specs.Prelude.{Ok}
use Rattle.paper.specs.Answer.{Answer, accepted_at, told}
use Rattle.paper.specs.Bytes.{lf}
use Rattle.paper.specs.Reading.{Reading, reading}
use Rattle.paper.specs.Writing.{Writing}
use Rattle.paper.specs.Roll.{roll_limit, record_cells, parts, parts_of, together, Record, record_of, records_of, filled_records, RollReading, roll_room}
use Rattle.paper.specs.Roll.{Written, begun, grown, Hurt}
use Rattle.paper.proofs.Numbers.{told_injective, told_apart}
use Rattle.paper.proofs.Rolls.{records_many, listing, records_around}
use Rattle.paper.proofs.Boundaries.{Still, Singles}
use Rattle.paper.proofs.BeforeSheets.{OnlyBlank}
use Rattle.paper.proofs.DemandThree.{each_alone, hurt_stays_home, cut_stays_home, cut_is_refused}
use Rattle.sheets.specs.Promises.{ReadsSheet}
use Rattle.rolls.specs.Promises.{ReadsRoll, AddsSheet}

-- an acceptance of the whole roll with these records, nothing behind them, and entry cells that are zero
pub record ListsAll (roll : List ℕ) (es : List Record) (records lent : ℕ) (r : Answer) (after cells : List ℕ) : Type 0 where
  pub answer : r ≡ Ok (accepted_at (length roll) (length es))
  pub are : after ≡ filled_records records es
  pub zeros : cells ≡ replicate lent 0

lists : {x : RollReading} {roll : List ℕ} {records lent : ℕ} {r : Answer} {after cells : List ℕ} (es : List Record)
    → record { answer = told r; records = after; cells = cells } ≡ x → x ≡ listing roll es records lent → ListsAll roll es records lent r after cells
lists {roll = roll} {r = r} es e l =
    let q = e ∙ l in
    record {
      answer = told_injective r (Ok (accepted_at (length roll) (length es))) (ap (λ (x : RollReading). x.answer) q);
      are = ap (λ (x : RollReading). x.records) q;
      zeros = ap (λ (x : RollReading). x.cells) q;
    }

-- ---- "Each sheet of a roll is answered, once and in order, as its bytes alone"

-- the record of a sheet has what `sheets::read` answers for its bytes, wherever it stands
pub as_its_bytes_alone : (table p : List ℕ) (lent at : ℕ) (r : Answer) (cells : List ℕ) → ReadsSheet table p lent r cells
    → record_of table lent at p ≡ record { start = at; end = at + length p; answer = told r }
as_its_bytes_alone table p lent at r cells e = ap (λ (x : Reading). record { start = at; end = at + length p; answer = x.answer }) (sym e)

-- A roll that `read` accepts is blank lines, in which no sheet begins, and its sheets, each of which begins at a boundary and holds no other; there is a record for
-- each, in order.
pub record ReadAlone (table roll : List ℕ) (records lent : ℕ) (r : Answer) (after cells : List ℕ) : Type 0 where
  pub lead : List ℕ
  pub sheets : List (List ℕ)
  pub all : lead ++ together sheets ≡ roll
  pub blank : OnlyBlank lead
  pub still : Still true lead
  pub begin : Singles sheets
  pub many : length sheets ≤ roll_room records
  pub lists : ListsAll roll (records_of table lent (length lead) sheets) records lent r after cells

pub read_each_alone : (table roll : List ℕ) (records lent place many : ℕ) (after cells : List ℕ)
    → ReadsRoll table roll records lent (Ok (accepted_at place many)) after cells → ReadAlone table roll records lent (Ok (accepted_at place many)) after cells
read_each_alone table roll records lent place many after cells e =
    let a = each_alone table roll records lent place many (sym (ap (λ (x : RollReading). x.answer) e)) in
    record {
      lead = a.lead;
      sheets = a.sheets;
      all = a.all;
      blank = a.blank;
      still = a.still;
      begin = a.begin;
      many = a.many;
      lists = lists (records_of table lent (length a.lead) a.sheets) e a.are;
    }

-- the records that an acceptance counts lie in the lent cells
pub records_fit : (table roll : List ℕ) (records lent place many : ℕ) (after cells : List ℕ)
    → ReadsRoll table roll records lent (Ok (accepted_at place many)) after cells → many * record_cells ≤ records
records_fit table roll records lent place many after cells e =
    let a = read_each_alone table roll records lent place many after cells e in
    let n : many ≡ length a.sheets =
    ap (λ (x : Answer). (told x).count) a.lists.answer ∙ records_many table lent (length a.lead) a.sheets in
    omega (arith, n, a.many)

-- ---- "In a roll that we wrote, damage inside one sheet leaves every other sheet's answer and entries as they were"

-- a roll that `add` wrote under one table: it begins empty, and each sheet is added at its end
pub data Kept (table : List ℕ) : List ℕ → Type 0 where
  empty : Kept table []
  added : (r s spare : List ℕ) (lent total : ℕ) (after cells : List ℕ) → Kept table r
      → AddsSheet table s (r ++ spare) (length r) lent (Ok (accepted_at 0 total)) after cells → Kept table (take total after)

kept_written : {table r : List ℕ} → Kept table r → Written table r
kept_written empty = begun
kept_written {table} (added r s spare lent total after cells k e) =
    subst (λ (out : List ℕ). Written table (take total out)) (sym (ap (λ (x : Writing). x.out) e))
    (grown r s spare lent total (kept_written k) (sym (ap (λ (x : Writing). x.answer) e)))

module _ (table roll : List ℕ) (before : List (List ℕ)) (p : List ℕ) (others : List (List ℕ)) (records lent : ℕ) where
  -- the roll with another sheet in the place of p
  abbrev pub with : List ℕ → List ℕ
  with h = together (before ++ (h ∷ others))

  -- `read` lists both rolls: the other sheets' records are the same, those behind p moved to where h ends
  abbrev pub ReadAtHome : List ℕ → Type 0
  ReadAtHome h =
      (r r' : Answer) (after after' cells cells' : List ℕ) → ReadsRoll table roll records lent r after cells → ReadsRoll table (with h) records lent r' after' cells'
      → ListsAll roll (records_around table lent before p others) records lent r after cells
      × ListsAll (with h) (records_around table lent before h others) records lent r' after' cells'

  module _ (kept : Kept table roll) (e : parts_of roll ≡ parts [] (before ++ (p ∷ others))) (short : length roll ≤ roll_limit)
      (many : length (before ++ (p ∷ others)) ≤ roll_room records) where
    pub read_hurt_stays_home : (h : List ℕ) → Hurt p h → length (with h) ≤ roll_limit → ReadAtHome h
    read_hurt_stays_home h x l r r' after after' cells cells' a b =
        let s = hurt_stays_home table roll before p others records lent h (kept_written kept) e x short l many in
        (lists (records_around table lent before p others) a s.was, lists (records_around table lent before h others) b s.is)

    -- ---- "a sheet that only lost its tail is refused"

    pub read_cut_stays_home : (k : ℕ) → 2 ≤ k → length (with (take k p ++ (lf ∷ []))) ≤ roll_limit → ReadAtHome (take k p ++ (lf ∷ []))
    read_cut_stays_home k two l r r' after after' cells cells' a b =
        let s = cut_stays_home table roll before p others records lent k (kept_written kept) e two short l many in
        (lists (records_around table lent before p others) a s.was, lists (records_around table lent before (take k p ++ (lf ∷ [])) others) b s.is)

  -- read by itself or in its roll it is no acceptance, where at least the ">" of its end is lost, and its line end is kept
  pub read_cut_is_refused : Kept table roll → parts_of roll ≡ parts [] (before ++ (p ∷ others)) → (k : ℕ) → k + 3 ≤ length p
      → (r : Answer) (cells : List ℕ) → ReadsSheet table (take k p ++ (lf ∷ [])) lent r cells → (place many : ℕ) → r ≡ Ok (accepted_at place many) → ⊥
  read_cut_is_refused kept e k l r cells a place many y =
      let c = cut_is_refused table roll before p others k lent (kept_written kept) e l in
      let q : told (Ok (accepted_at place many)) ≡ (reading table (take k p ++ (lf ∷ [])) lent).answer = ap told (sym y) ∙ ap (λ (x : Reading). x.answer) a in
      told_apart c.number c.place place many c.least (sym (q ∙ ap (λ (x : Reading). x.answer) c.is))
