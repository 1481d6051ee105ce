-- The bytes in front of the line's end, and the end or that of the roll.
use Prim.Native.Nat.{◌+◌}
use Rattle.std.proofs.Common.{rules}
use mathlib.Core.Path.{◌≡◌, ◌∙◌}
use native.Mathlib.Omega.{arith}
use lib.ListN.{length}
use Rattle.paper.proofs.Tests.{up_to}
use Rattle.rolls.proofs.Passing.{passes_then, passes_end, line_passes, other_passes, all_pass}
use Rattle.rolls.proofs.boundaries.next_line.Goals as goal

pub returns : goal.returns
returns c =
    let e = c.skip-end.ensures in
    let quiet = passes_then c.past_quiet-quiet.ensures (all_pass e.taken e.inside (λ i h l t. other_passes _ i (omega arith) (search rules))) in
    up_to (length c.args.roll.now) c.skip-end.result
    (λ h.
    let over : c.min.result ≡ c.skip-end.result = omega (arith, e.inside) in
    rw over (record { passes = passes_end _ quiet h; further = λ l. omega arith }))
    (λ h.
    let t = e.other h in
    let behind : c.min.result ≡ c.skip-end.result + 1 = omega arith in
    rw behind (record { passes = passes_then quiet (line_passes _ _ h (search rules)); further = λ l. omega (arith, quiet.ahead) }))
