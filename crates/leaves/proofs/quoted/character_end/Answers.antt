-- A law for each way out, by the first byte.
use Prim.Native.Nat.{◌+◌}
use mathlib.Core.Path.{sym, ◌∙◌}
use native.Mathlib.Omega.{arith}
use Rattle.text.proofs.Answers.{passes}
use Rattle.text.proofs.Steps.{stepped, step_from_lem}
use Rattle.std.proofs.lemmas.Grind.{common_steps}
use Rattle.std.proofs.lemmas.Option.{gets}
use Rattle.leaves.proofs.Showing.{no_value, cut_off}
use Rattle.leaves.proofs.Quotes.{character_ends, character_none, character_refused, character_escaped, character_direct, character_unread, broken_of, unbroken}
use Rattle.leaves.proofs.quoted.character_end.Goals as goal

pub returns-in-None : goal.returns-in-None
returns-in-None c = cut_off _ _ _ _ _ c.at.ensures (character_ends _ _ c.in-None.ensures.lookup.3)

pub returns-in-Some-eq39 : goal.returns-in-Some-eq39
returns-in-Some-eq39 c =
    no_value _ _ _ _ _ _ c.at-in-Some-eq39.ensures (grind (arith, common_steps, gets))
    (character_none c.args.s.now (c.args.at + 1) (grind (arith, common_steps, gets)) (broken_of _ (λ l r. grind (arith, common_steps, gets))))

pub returns-in_err-escape_end-in-Some-eq92 : goal.returns-in_err-escape_end-in-Some-eq92
returns-in_err-escape_end-in-Some-eq92 c =
    let got = c.in-Some-eq92.ensures.lookup.3 in
    rw (passes c.from_residual.ensures.1)
    (character_refused _ _ got.0 (sym (got.1 0) ∙ c.in-Some-eq92.field-0-test) _ c.escape_end.ensures _ c.in_err-escape_end-in-Some-eq92.was)

pub returns-in_ok-escape_end-in-Some-eq92 : goal.returns-in_ok-escape_end-in-Some-eq92
returns-in_ok-escape_end-in-Some-eq92 c =
    let got = c.in-Some-eq92.ensures.lookup.3 in
    character_escaped _ _ got.0 (sym (got.1 0) ∙ c.in-Some-eq92.field-0-test) _ c.escape_end.ensures _ c.in_ok-escape_end-in-Some-eq92.was
    c.closing_quote.ensures

pub returns-in-Scalar : goal.returns-in-Scalar
returns-in-Scalar c =
    let got = c.in-Some.ensures.lookup.3 in
    character_direct _ _ got.0 (unbroken _ (omega (arith, got.1 0))) (omega (arith, got.1 0)) _ _
    (stepped _ _ _ _ (step_from_lem _ c.new.ensures c.in-Scalar.ensures)) c.closing_quote-in-Scalar.ensures

pub returns-in_default : goal.returns-in_default
returns-in_default c =
    let got = c.in-Some.ensures.lookup.3 in
    no_value _ _ _ _ _ _ c.at-in_default.ensures (omega arith)
    (character_unread _ _ got.0 (unbroken _ (omega (arith, got.1 0))) (omega (arith, got.1 0)) _ (step_from_lem _ c.new.ensures c.step.ensures) c.in_default.not-Scalar)
