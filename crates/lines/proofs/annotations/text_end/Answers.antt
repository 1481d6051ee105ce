use mathlib.Core.Path.{sym, ap, ◌∙◌}
use native.Mathlib.Omega.{arith}
use Rattle.std.specs.Prelude.{Err}
use Rattle.lines.proofs.Notes.{text_cut, escape_cut, escape_bad, escape_good, text_over, text_break, text_on}
use Rattle.lines.proofs.annotations.text_end.Goals as goal

pub returns-then-b-eq93 : goal.returns-then-b-eq93
returns-then-b-eq93 c = text_over _ _ _ c.loop-i.invariant.same c.loop-i-test.true c.if-b-eq93.true

pub returns-in_default : goal.returns-in_default
returns-in_default c =
    escape_cut _ _ _ c.loop-i.invariant.same c.loop-i-test.true c.if-b-eq93.false c.if-b-eq92.true c.in_default.ensures.lookup.3 _ (ap Err c.at.ensures)

pub returns-then-not-is_one_of : goal.returns-then-not-is_one_of
returns-then-not-is_one_of c =
    let next = c.in-Some.ensures.lookup.3 in
    escape_bad _ _ _ c.loop-i.invariant.same c.loop-i-test.true c.if-b-eq93.false c.if-b-eq92.true next.0
    (rw (next.1 0) at (sym c.is_one_of.ensures ∙ c.if-not-is_one_of.true)) _ (ap Err c.at-then-not-is_one_of.ensures)

pub loop-i-preserved-then-b-eq92 : goal.loop-i-preserved-then-b-eq92
loop-i-preserved-then-b-eq92 c =
    let next = c.in-Some.ensures.lookup.3 in
    record {
      inside = omega arith;
      same = escape_good c.args.s.now c.args.at c.loop-i.i c.loop-i.invariant.same c.loop-i-test.true c.if-b-eq93.false c.if-b-eq92.true next.0
          (rw (next.1 0) at (sym c.is_one_of.ensures ∙ c.if-not-is_one_of.false));
    }

pub returns-then-is_line_end : goal.returns-then-is_line_end
returns-then-is_line_end c =
    text_break _ _ _ c.loop-i.invariant.same c.loop-i-test.true c.if-b-eq93.false c.if-b-eq92.false
    (sym c.is_line_end.ensures ∙ c.if-is_line_end.true) _ (ap Err c.at-then-is_line_end.ensures)

pub loop-i-preserved : goal.loop-i-preserved
loop-i-preserved c = record {
  inside = omega arith;
  same = text_on c.args.s.now c.args.at c.loop-i.i c.loop-i.invariant.same c.loop-i-test.true c.if-b-eq93.false c.if-b-eq92.false
      (sym c.is_line_end.ensures ∙ c.if-is_line_end.false);
}

pub returns : goal.returns
returns c = text_cut _ _ _ c.loop-i.invariant.same c.loop-i-test.false _ (ap Err c.at-2.ensures)
