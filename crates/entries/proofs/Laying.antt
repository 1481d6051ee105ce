-- Entries laid one after another, and an entry laid before those that stand behind it. Over plain lists. Assumes nothing.
use Prim.Native.Nat.{ℕ, suc, ◌+◌, ◌-◌, ◌*◌, ◌≤◌, ◌<◌}
use mathlib.Core.Path.{◌≡◌, refl, sym, ap, ◌∙◌}
use mathlib.Core.List.{List, [], ◌∷◌, ◌++◌, append-nil}
use native.Mathlib.Nat.{add-zero}
use native.Mathlib.Omega.{arith}
use lib.ListN.{length, replicate, set, length-append, drop_of_length-le, length-replicate}
use lib.Seq.{sets, length-sets, sets-eq, set_comm}
use Rattle.paper.specs.Entries.{Entry, entry_cells, all_cells, filled}
use Rattle.entries.specs.Laid.{lay}

-- ---- runs of stores

pub sets_append : (a b l : List ℕ) (i : ℕ) → sets l i (a ++ b) ≡ sets (sets l i a) (i + length a) b
sets_append [] b l i = rw (add-zero i)
sets_append (x ∷ a) b l i =
    let e : suc i + length a ≡ i + suc (length a) = omega arith in
    sets_append a b (set l i x) (suc i) ∙ ap (λ (k : ℕ). sets (sets (set l i x) (suc i) a) k b) e

-- a store before a run of stores
set_sets : (b l : List ℕ) (i k x : ℕ) → i < k → set (sets l k b) i x ≡ sets (set l i x) k b
set_sets [] l i k x h = refl
set_sets (y ∷ b) l i k x h = set_sets b (set l k y) i (suc k) x (omega arith) ∙ ap (λ (m : List ℕ). sets m (suc k) b) (set_comm l k i y x (λ e. omega arith))

sets_before : (a b l : List ℕ) (i : ℕ) → sets (sets l (i + length a) b) i a ≡ sets l i (a ++ b)
sets_before [] b l i = rw (add-zero i)
sets_before (x ∷ a) b l i =
    let e : i + suc (length a) ≡ suc i + length a = omega arith in
    ap (λ (m : List ℕ). sets m (suc i) a) (set_sets b l i (i + suc (length a)) x (omega arith) ∙ ap (λ (k : ℕ). sets (set l i x) k b) e)
    ∙ sets_before a b (set l i x) (suc i)

zeros_length : (n : ℕ) → length (replicate {A = ℕ} n 0) ≡ n
zeros_length n = length-replicate n 0

-- stores all over a list
whole : (v l : List ℕ) → length v ≡ length l → sets l 0 v ≡ v
whole v l e =
    let all : length l ≤ 0 + length v = omega arith in
    sets-eq v l 0 (omega arith)
    ∙ ap (λ (r : List ℕ). v ++ r) (drop_of_length-le l all)
    ∙ append-nil v

-- ---- entries

pub cells_length : (es : List Entry) → length (all_cells es) ≡ length es * entry_cells
unfolding all_cells
cells_length [] = refl
cells_length (e ∷ es) = omega (arith, cells_length es)

pub cells_append : (es fs : List Entry) → all_cells (es ++ fs) ≡ all_cells es ++ all_cells fs
unfolding all_cells
cells_append [] fs = refl
cells_append (e ∷ es) fs = rw (cells_append es fs)

pub lay_none : (cells : List ℕ) (n : ℕ) → lay cells n [] ≡ cells
unfolding lay all_cells
lay_none cells n = refl

pub lay_length : (cells : List ℕ) (n : ℕ) (es : List Entry) → length (lay cells n es) ≡ length cells
unfolding lay
lay_length cells n es = length-sets cells (n * entry_cells) (all_cells es)

pub lay_append : (cells : List ℕ) (n : ℕ) (es fs : List Entry) → lay (lay cells n es) (n + length es) fs ≡ lay cells n (es ++ fs)
unfolding lay
lay_append cells n es fs =
    let e : (n + length es) * entry_cells ≡ n * entry_cells + length (all_cells es) = omega (arith, cells_length es) in
    rw (e, cells_append es fs) (sym (sets_append (all_cells es) (all_cells fs) cells (n * entry_cells)))

-- the entry before those that stand behind it
pub lay_before : (cells : List ℕ) (n : ℕ) (e : Entry) (es : List Entry) → lay (lay cells (n + 1) es) n (e ∷ []) ≡ lay cells n (e ∷ es)
unfolding lay all_cells
lay_before cells n e es =
    let own = all_cells (e ∷ []) in
    let at : (n + 1) * entry_cells ≡ n * entry_cells + length own = omega arith in
    rw at (sets_before own (all_cells es) cells (n * entry_cells))

-- all entries from the first on, and zeros behind them, are the cells of a reading that accepts
pub lay_filled : (cells : List ℕ) (es : List Entry) → length es * entry_cells ≤ length cells
    → sets (lay cells 0 es) (length es * entry_cells) (replicate (length cells - length es * entry_cells) 0) ≡ filled (length cells) es
unfolding lay filled
lay_filled cells es h =
    let z : List ℕ = replicate (length cells - length es * entry_cells) 0 in
    let n : length (all_cells es ++ z) ≡ length cells =
    omega (arith, length-append (all_cells es) z, cells_length es, zeros_length (length cells - length es * entry_cells), h) in
    let at : length es * entry_cells ≡ 0 + length (all_cells es) = omega (arith, cells_length es) in
    let turned : length es * entry_cells ≡ entry_cells * length es = omega arith in
    ap (λ (k : ℕ). sets (lay cells 0 es) k z) at
    ∙ sym (sets_append (all_cells es) z cells 0)
    ∙ whole (all_cells es ++ z) cells n
    ∙ ap (λ (k : ℕ). all_cells es ++ replicate (length cells - k) 0) turned
