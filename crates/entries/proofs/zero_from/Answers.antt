-- The cells from the place on are filled with zeros.
use Prim.Native.Nat.{ℕ, ◌+◌, ◌-◌, ◌≤◌}
use mathlib.Core.Path.{ap, ◌∙◌}
use native.Mathlib.Omega.{arith}
use lib.ListN.{length, replicate}
use Rattle.entries.proofs.Rows.{part_long, row_over}
use Rattle.entries.proofs.zero_from.Goals as goal

pub returns : goal.returns
returns c =
    let fits : c.args.at + (length c.args.cells.now - c.args.at) ≤ length c.args.cells.now = omega arith in
    row_over _ _ _ _ _ (c.fill.ensures.after (λ y e. e) ∙ ap (λ (n : ℕ). replicate n 0) (part_long _ _ _ fits)) c.fill.ensures.len fits
