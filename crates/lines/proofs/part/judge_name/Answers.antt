-- A law for each way out: a name is judged at its end.
use Rattle.std.specs.Prelude.{Err}
use Rattle.lines.proofs.Crossing.{says_cut, says_refused, reaches}
use Rattle.lines.proofs.Ends.{name_cut, name_none, name_bad, name_good, rule_by_lem}
use native.Mathlib.Omega.{arith}
use mathlib.Core.Path.{sym, ◌∙◌, ap}
use Rattle.lines.proofs.part.judge_name.Goals as goal

pub returns-then-end-s : goal.returns-then-end-s
returns-then-end-s c = says_cut _ _ _ _ _ (ap Err c.at.ensures) (name_cut _ _ _ _ c.requires.1.ends c.if-end-s.true)

pub returns-then-end-at : goal.returns-then-end-at
returns-then-end-at c =
    says_refused _ _ _ _ _ _ _ (ap Err c.at-then-end-at.ensures) (omega arith)
    (name_none _ _ _ _ c.requires.1.ends c.if-end-s.false c.if-end-at.true)

pub returns-then-not-keeps_rule : goal.returns-then-not-keeps_rule
returns-then-not-keeps_rule c =
    let run = c.requires.1 in
    let some = c.if-end-at.false in
    says_refused _ _ _ _ _ _ _ (ap Err c.at-then-not-keeps_rule.ensures) (omega arith)
    (name_bad _ _ _ _ run.ends c.if-end-s.false some (sym (c.keeps_rule.ensures ∙ rule_by_lem c.args.whose run some) ∙ c.if-not-keeps_rule.true))

pub returns : goal.returns
returns c =
    let run = c.requires.1 in
    let some = c.if-end-at.false in
    reaches _ _ _ _ run.ends.2
    (name_good _ _ _ _ run.ends c.if-end-s.false some (sym (c.keeps_rule.ensures ∙ rule_by_lem c.args.whose run some) ∙ c.if-not-keeps_rule.false))
