-- Records laid one after another, records laid over others, and zeros behind them. Over plain lists. Assumes nothing.
-- Document 01, "Rolls".
use Prim.Native.Nat.{ℕ, suc, ◌+◌, ◌-◌, ◌*◌, ◌≤◌}
use mathlib.Core.Path.{◌≡◌, refl, sym, ap, ◌∙◌}
use mathlib.Core.List.{List, [], ◌∷◌, ◌++◌, append-nil}
use native.Mathlib.Omega.{arith}
use native.Mathlib.Nat.{add-zero}
use lib.ListN.{length, get_or, drop, replicate, set, length-append, length-drop, length-replicate, drop_of_length-le}
use lib.Seq.{sets, length-sets, sets-eq, drop-set-lt, drop-drop, get_or-drop}
use Rattle.paper.specs.Roll.{Record, record_cells, all_records, filled_records}
use Rattle.entries.proofs.Laying.{sets_append}
use Rattle.rolls.specs.Records.{lay_records, unread_of, unread, start_at, end_at}

-- ---- the cells of records

pub records_length : (es : List Record) → length (all_records es) ≡ length es * record_cells
unfolding all_records
records_length [] = refl
records_length (e ∷ es) = omega (arith, records_length es)

pub lay_none : (cells : List ℕ) (n : ℕ) → lay_records cells n [] ≡ cells
unfolding lay_records all_records
lay_none cells n = refl

pub lay_long : (cells : List ℕ) (n : ℕ) (es : List Record) → length (lay_records cells n es) ≡ length cells
unfolding lay_records
lay_long cells n es = length-sets cells (n * record_cells) (all_records es)

-- a record, and those behind it
pub lay_more : (cells : List ℕ) (n : ℕ) (e : Record) (es : List Record) → lay_records cells n (e ∷ es) ≡ lay_records (lay_records cells n (e ∷ [])) (n + 1) es
unfolding lay_records all_records
lay_more cells n e es =
    let own = all_records (e ∷ []) in
    let at : (n + 1) * record_cells ≡ n * record_cells + length own = omega arith in
    rw at (sets_append own (all_records es) cells (n * record_cells))

-- what stands behind what is stored
drop_sets : (vs l : List ℕ) (i n : ℕ) → i + length vs ≤ n → drop n (sets l i vs) ≡ drop n l
drop_sets [] l i n h = refl
drop_sets (v ∷ vs) l i n h = drop_sets vs (set l i v) (suc i) n (omega arith) ∙ drop-set-lt n l i v (omega arith)

pub lay_behind : (cells : List ℕ) (n : ℕ) (es : List Record) (k : ℕ) → n + length es ≤ k
    → drop (k * record_cells) (lay_records cells n es) ≡ drop (k * record_cells) cells
unfolding lay_records
lay_behind cells n es k h = drop_sets (all_records es) cells (n * record_cells) (k * record_cells) (omega (arith, records_length es))

-- records from the first on, in front of the cells behind them
pub lay_stands : (cells : List ℕ) (es : List Record) → length es * record_cells ≤ length cells
    → lay_records cells 0 es ≡ all_records es ++ drop (length es * record_cells) cells
unfolding lay_records
lay_stands cells es h =
    let n : 0 + length (all_records es) ≡ length es * record_cells = omega (arith, records_length es) in
    sets-eq (all_records es) cells 0 (omega (arith, n)) ∙ rw n

-- over as many others
pub lay_over : (cells : List ℕ) (us es : List Record) → length us ≡ length es → length es * record_cells ≤ length cells
    → lay_records (lay_records cells 0 us) 0 es ≡ lay_records cells 0 es
lay_over cells us es e h =
    lay_stands (lay_records cells 0 us) es (omega (arith, lay_long cells 0 us))
    ∙ ap (λ (l : List ℕ). all_records es ++ l) (lay_behind cells 0 us (length es) (omega arith))
    ∙ sym (lay_stands cells es h)

-- and zeros behind them
pub lay_filled : (cells : List ℕ) (es : List Record) → length es * record_cells ≤ length cells
    → sets (lay_records cells 0 es) (length es * record_cells) (replicate (length cells - length es * record_cells) 0) ≡ filled_records (length cells) es
unfolding lay_records filled_records
lay_filled cells es h =
    let z : List ℕ = replicate (length cells - length es * record_cells) 0 in
    let all : length (all_records es ++ z) ≡ length cells =
    omega (arith, length-append (all_records es) z, records_length es, length-replicate {A = ℕ} (length cells - length es * record_cells) 0, h) in
    let over : length cells ≤ 0 + length (all_records es ++ z) = omega (arith, all) in
    let at : length es * record_cells ≡ 0 + length (all_records es) = omega (arith, records_length es) in
    let turned : length es * record_cells ≡ record_cells * length es = omega arith in
    ap (λ (k : ℕ). sets (lay_records cells 0 es) k z) at
    ∙ sym (sets_append (all_records es) z cells 0)
    ∙ sets-eq (all_records es ++ z) cells 0 (omega (arith, all))
    ∙ ap (λ (l : List ℕ). (all_records es ++ z) ++ l) (drop_of_length-le cells over)
    ∙ append-nil (all_records es ++ z)
    ∙ ap (λ (k : ℕ). all_records es ++ replicate (length cells - k) 0) turned

-- ---- records of sheets that are not yet read

pub unread_many : (at : ℕ) (ps : List (List ℕ)) → length (unread at ps) ≡ length ps
unfolding unread
unread_many at [] = refl
unread_many at (p ∷ ps) = ap suc (unread_many (at + length p) ps)

pub unread_none : (at : ℕ) → unread at [] ≡ []
unfolding unread
unread_none at = refl

pub unread_more : (at end : ℕ) (p : List ℕ) (ps : List (List ℕ)) → at + length p ≡ end → unread at (p ∷ ps) ≡ unread_of at end ∷ unread end ps
unfolding unread
unread_more at end p ps e = rw e

-- the record of such a sheet stands at its number
module _ (records : List ℕ) (n at : ℕ) (p : List ℕ) (ps : List (List ℕ)) (rest : List ℕ)
    (stand : drop (n * record_cells) records ≡ all_records (unread at (p ∷ ps)) ++ rest) where
  cell : (i : ℕ) → get_or records (n * record_cells + i) 0 ≡ get_or (all_records (unread at (p ∷ ps)) ++ rest) i 0
  cell i = sym (get_or-drop (n * record_cells) records i 0) ∙ ap (λ (l : List ℕ). get_or l i 0) stand

  pub unread_starts : start_at records n ≡ at
  unfolding unread all_records
  unread_starts = rw (sym (add-zero (n * record_cells))) (cell 0)

  pub unread_ends : end_at records n ≡ at + length p
  unfolding unread all_records
  unread_ends = cell 1

  pub unread_held : suc n * record_cells ≤ length records
  unfolding unread all_records
  unread_held =
      let left : length (drop (n * record_cells) records) ≡ record_cells + length (all_records (unread (at + length p) ps) ++ rest) = omega (arith, ap length stand) in
      omega (arith, left, length-drop (n * record_cells) records)

  -- and those of the others behind it
  pub unread_next : drop ((n + 1) * record_cells) records ≡ all_records (unread (at + length p) ps) ++ rest
  unfolding unread all_records
  unread_next =
      let on : (n + 1) * record_cells ≡ n * record_cells + record_cells = omega arith in
      ap (λ (k : ℕ). drop k records) on ∙ sym (drop-drop record_cells (n * record_cells) records) ∙ ap (drop record_cells) stand
