-- Parts of a sheet between two places. Assumes nothing.
use Prim.Native.Nat.{ℕ, ◌+◌, ◌-◌}
use mathlib.Core.Path.{◌≡◌, ap, ◌∙◌}
use mathlib.Core.List.{List, ◌++◌}
use native.Mathlib.Omega.{arith}
use lib.ListN.{length, take, drop}
use lib.Seq.{take-append_seam}

-- a part whose bytes are known
pub part_is : (s : List ℕ) (from to : ℕ) (w after : List ℕ) → drop from s ≡ w ++ after → to ≡ from + length w → take (to - from) (drop from s) ≡ w
part_is s from to w after e l =
    let n : to - from ≡ length w = omega arith in
    ap (λ (k : ℕ). take k (drop from s)) n ∙ ap (take (length w)) e ∙ take-append_seam w after
