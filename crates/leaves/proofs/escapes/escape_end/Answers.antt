-- A law for each way out; the fixed bytes say which kind of escape it is.
use Prim.Native.Nat.{ℕ}
use mathlib.Core.Path.{sym, ap, ◌∙◌}
use Rattle.std.specs.Prelude.{Option}
use Rattle.std.specs.Option.{ok_or}
use native.Mathlib.Omega.{arith}
use Rattle.paper.specs.Bytes.{bytes}
use Rattle.leaves.proofs.Showing.{cut_off}
use Rattle.text.proofs.Compared.{stands_inside}
use Rattle.leaves.proofs.Escaping.{by_rule, braced_there, four_instead, escape_ends, letter_judged}
use Rattle.leaves.proofs.escapes.escape_end.Goals as goal

pub braced_end-requires : goal.braced_end-requires
braced_end-requires c = omega (arith, stands_inside (bytes "\\u{") c.args.s.now c.args.at (sym c.starts_with.ensures ∙ c.if-starts_with.true))

pub returns-then-starts_with : goal.returns-then-starts_with
returns-then-starts_with c = rw (braced_there _ _ _ c.requires.0 c.requires.1 (sym c.starts_with.ensures ∙ c.if-starts_with.true)) (c.braced_end.ensures _)

pub four_end-requires : goal.four_end-requires
four_end-requires c = omega (arith, stands_inside (bytes "\\u") c.args.s.now c.args.at (sym c.starts_with-2.ensures ∙ c.if-starts_with-2.true))

pub returns-then-starts_with-2 : goal.returns-then-starts_with-2
returns-then-starts_with-2 c =
    rw (four_instead _ _ _ c.requires.0 c.requires.1 (sym c.starts_with.ensures ∙ c.if-starts_with.false)
    (sym c.starts_with-2.ensures ∙ c.if-starts_with-2.true)) (c.four_end.ensures _)

pub returns-then-s-letter : goal.returns-then-s-letter
returns-then-s-letter c = cut_off _ _ _ _ _ c.at.ensures (escape_ends _ _ _ c.requires.0 c.requires.1 c.if-s-letter.true)

pub returns : goal.returns
returns c =
    by_rule _ _ _ _ _ _ (omega arith) (omega arith)
    (letter_judged _ _ _ c.requires.0 c.requires.1 c.if-s-letter.false (sym c.starts_with-2.ensures ∙ c.if-starts_with-2.false)) _
    c.is_escaped.ensures _ _ c.at-2.ensures (c.ok_or.ensures.value ∙ ap (λ (o : Option ℕ). ok_or o c.at-2.result) c.then_some.ensures)
