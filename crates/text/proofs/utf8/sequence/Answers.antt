-- Each byte that follows is a turn of one law. Assumes nothing.
use Prim.Native.Nat.{◌+◌, ◌-◌, ◌≤◌}
use native.Mathlib.Omega.{arith}
use Rattle.text.specs.Steps.{Awaits}
use Rattle.text.proofs.Steps.{six, gathers, goes_on}
use Rattle.text.proofs.utf8.sequence.Goals.{In-Some-follower}
use Rattle.text.proofs.utf8.sequence.Goals as goal

pub overflow_add-v : goal.overflow_add-v
overflow_add-v g c = omega (arith, six c.requires.row c.follower.ensures c.in-Some.is)

pub loop-i-init : goal.loop-i-init
loop-i-init g c =
    let few = six c.requires.row c.follower.ensures c.in-Some.is in
    record {
      gathered = gathers c.requires.row c.follower.ensures c.in-Some.is (omega arith);
      two = λ h. omega arith;
      three = λ h. omega arith;
      four = omega arith;
    }

-- the byte at i is due, and has six bits
due : (g : _) (c : In-Some-follower g) → Awaits c.args.s.now c.args.at (c.args.at + c.loop-i.i) 0x80 0xBF (g.row.N - (c.loop-i.i + 1)) c.loop-i.v
due g c = goes_on c.loop-i.invariant.gathered (g.row.N - (c.loop-i.i + 1)) (omega arith)

few : (g : _) (c : In-Some-follower g) → c.in-Some-follower.c ≤ 63
few g c = six (due g c) c.follower-in-loop-i.ensures c.in-Some-follower.is

pub overflow_add-v-in-loop-i : goal.overflow_add-v-in-loop-i
overflow_add-v-in-loop-i g c = let inv = c.loop-i.invariant.three (omega arith) in omega (arith, few g c)

pub loop-i-preserved : goal.loop-i-preserved
loop-i-preserved g c =
    let f : c.in-Some-follower.c ≤ 63 = few g c in
    let three : c.loop-i.v ≤ 0x1FFFF = c.loop-i.invariant.three (omega arith) in
    record {
      gathered = gathers (due g c) c.follower-in-loop-i.ensures c.in-Some-follower.is (omega arith);
      two = λ h. omega arith;
      three = λ h. let t : c.loop-i.v ≤ 0x7FF = c.loop-i.invariant.two (omega arith) in omega arith;
      four = omega arith;
    }
