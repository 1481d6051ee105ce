use mathlib.Core.Path.{◌≡◌, refl}
use native.Mathlib.Omega.{arith}
use Rattle.std.proofs.Common.{rules}
use Rattle.std.specs.Prelude.{Ok, Err}
use Rattle.text.proofs.Answers.{passes}
use Rattle.leaves.proofs.Showing.{finds, no_value, cut_off}
use Rattle.leaves.proofs.Quotes.{string_ends, string_closes, string_breaks, string_itself, string_refused, string_escaped}
use Rattle.leaves.proofs.Plainly.{string_plain}
use Rattle.leaves.proofs.quoted.string_end.Goals as goal

pub loop-i-init : goal.loop-i-init
loop-i-init c = (c.plain_end-i.ensures.1, c.plain_end-i.ensures.2, λ r e. string_plain _ _ _ c.plain_end-i.ensures e)

pub returns-in-34 : goal.returns-in-34
returns-in-34 c = c.loop-i.invariant.2 _ (finds _ _ _ _ _ _ (omega arith) (omega arith) refl (string_closes _ _ c.loop-i-test.true c.in-34.is))

pub returns-in_err-end-in-92 : goal.returns-in_err-end-in-92
returns-in_err-end-in-92 c =
    let was : c.escape_end.result ≡ Err c.in_err-end-in-92.field-0.0 = search rules in
    rw (passes c.from_residual.ensures.1) (c.loop-i.invariant.2 _
    (string_refused _ _ c.loop-i-test.true c.in-92.is _ c.escape_end.ensures _ was))

pub loop-i-preserved-in-92 : goal.loop-i-preserved-in-92
loop-i-preserved-in-92 c =
    let was : c.escape_end.result ≡ Ok c.in_ok-end-in-92.end = search rules in
    let ahead = c.escape_end.ensures.ahead _ was in
    let run = c.plain_end-i-in-92.ensures in (
      omega arith,
      run.2,
      λ r e. c.loop-i.invariant.2 r
          (string_escaped _ _ c.loop-i-test.true c.in-92.is _ c.escape_end.ensures _
          was (string_plain _ _ _ run e)),
    )

pub returns-in-10 : goal.returns-in-10
returns-in-10 c =
    c.loop-i.invariant.2 _ (no_value _ _ _ _ _ _ c.at.ensures (omega arith)
    (string_breaks _ _ c.loop-i-test.true c.in-10.is))

pub loop-i-preserved : goal.loop-i-preserved
loop-i-preserved c =
    let rest = c.in_default.in_default-own.rest in
    let run = c.plain_end-i-in_default.ensures in (
      omega arith,
      run.2,
      λ r e. c.loop-i.invariant.2 r
          (string_itself _ _ c.loop-i-test.true rest.0.0.1 rest.0.1 rest.1 (string_plain _ _ _ run e)),
    )

pub returns : goal.returns
returns c = c.loop-i.invariant.2 _ (cut_off _ _ _ _ _ c.at-2.ensures (string_ends _ _ c.loop-i-test.false))
