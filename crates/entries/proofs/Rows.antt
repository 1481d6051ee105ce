-- Rows of cells: one that is written over others, and one that is read. Over plain lists. Assumes nothing.
use Prim.Native.Nat.{ℕ, zero, suc, ◌+◌, ◌*◌, ◌≤◌, ◌<◌}
use mathlib.Core.Path.{◌≡◌, ap, ◌∙◌}
use mathlib.Core.List.{List, [], ◌∷◌, append_assoc}
use native.Mathlib.Nat.{zero-mul}
use native.Mathlib.Omega.{arith}
use borrow.Rule.Slice.PartMut.{put_mid}
use lib.ListN.{length, take, drop, get_or, set, length-drop}
use lib.Seq.{sets, sets-eq, drop-drop, length-take-le}
use Rattle.std.specs.Simd.{first_chunks}
use Rattle.std.proofs.lemmas.List.{take_more}
use Rattle.entries.proofs.Laying.{sets_append}

-- a part of a list has so many elements
pub part_long : (cells : List ℕ) (at size : ℕ) → at + size ≤ length cells → length (take size (drop at cells)) ≡ size
part_long cells at size h = length-take-le size (drop at cells) (omega (arith, length-drop at cells))

-- where a row is copied over a part of the cells, its numbers are stored one after another
pub row_over : (cells row now : List ℕ) (at size : ℕ) → now ≡ row → length now ≡ length (take size (drop at cells)) → at + size ≤ length cells
    → put_mid at size cells now ≡ sets cells at row
row_over cells row now at size e n h =
    let long : size ≡ length row = omega (arith, ap length e, n, part_long cells at size h) in
    let fits : at + length row ≤ length cells = omega arith in
    rw (e, long, sets-eq row cells at fits, drop-drop, append_assoc)

-- one number more of a row that is stored
pub row_more : (cells row : List ℕ) (at i : ℕ) → i < length row → set (sets cells at (take i row)) (at + i) (get_or row i 0) ≡ sets cells at (take (i + 1) row)
row_more cells row at i h =
    let few : i ≤ length row = omega arith in
    rw (take_more row i 0 h, sets_append (take i row) (get_or row i 0 ∷ []) cells at, length-take-le i row few)

-- row number n of rows of so many cells each
pub row_at : (size many : ℕ) (cells : List ℕ) (n : ℕ) (d : List ℕ) → n < many → get_or (first_chunks size many cells) n d ≡ take size (drop (n * size) cells)
row_at size zero cells n d h = absurd (omega arith)
row_at size (suc many) cells zero d h = rw (zero-mul size)
row_at size (suc many) cells (suc n) d h =
    let on : size + n * size ≡ suc n * size = omega arith in
    row_at size many (drop size cells) n d (omega arith) ∙ ap (take size) (rw (drop-drop, on))
