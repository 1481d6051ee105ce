-- An escaped backtick is the byte behind its backslash; any other byte stands for itself. Assumes nothing.
use Prim.Native.Nat.{ℕ, ◌<◌}
use mathlib.Core.Path.{◌≡◌, sym, ◌∙◌}
use mathlib.Core.Bool.{false}
use mathlib.Core.List.{List}
use native.Mathlib.Omega.{arith}
use borrow.Author.Tests.{ne_eqb}
use lib.ListN.{length, drop, get_or}
use Rattle.paper.specs.Bytes.{byte, bytes, starts_with}
use Rattle.text.proofs.Places.{here}
use Rattle.quoting.proofs.Ticks.{first_tick, first_self}
use Rattle.quoting.proofs.Spelling.{starts_size}
use Rattle.quoting.proofs.backticks.meant_at.Goals as goal
use Rattle.quoting.proofs.backticks.meant_at.Goals.{else-w-at-eq92-via-then-w-at-eq92+else-starts_with, else-w-at-eq92-via-else-w-at-eq92}

-- no escaped backtick begins with another byte than a backslash
no_tick : (w : List ℕ) (at : ℕ) → at < length w → (get_or w at 0 ≡ byte "\\" → ⊥) → starts_with (bytes "\\`") (drop at w) ≡ false
unfolding starts_with
no_tick w at h n = let e = ne_eqb (get_or w at 0) (byte "\\") n in rw (here w at h) (rw (e, starts_with))

pub returns-then-starts_with : goal.returns-then-starts_with
returns-then-starts_with c =
    let s = starts_size (bytes "\\`") c.args.w.now c.args.at (sym c.starts_with.ensures ∙ c.if-starts_with.true) (omega arith) in
    (omega arith, omega arith, first_tick c.args.w.now c.args.at (sym c.starts_with.ensures ∙ c.if-starts_with.true))

pub returns : goal.returns
returns c =
    let none : starts_with (bytes "\\`") (drop c.args.at c.args.w.now) ≡ false =
    elim c.else-w-at-eq92.branch [
      | else-w-at-eq92-via-then-w-at-eq92+else-starts_with w ↦ sym w.starts_with.ensures ∙ w.if-starts_with.false
      | else-w-at-eq92-via-else-w-at-eq92 w ↦ no_tick c.args.w.now c.args.at c.requires w.if-w-at-eq92.false
    ] in
    (omega arith, c.requires, first_self c.args.w.now c.args.at c.requires none)
