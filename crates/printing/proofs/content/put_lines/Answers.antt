use Rattle.printing.proofs.LineTexts.{line_end_lem, lines_all, lines_on, lines_stay, lines_over}
use Rattle.printing.proofs.content.put_lines.Goals as goal

pub loop-i-init : goal.loop-i-init
loop-i-init c = λ t ls e f r. lines_all t _ _ ls e r

pub loop-i-preserved-then-i-next : goal.loop-i-preserved-then-i-next
loop-i-preserved-then-i-next c =
    λ t ls e f r. lines_stay t c.args.tabs c.args.lines.now ls c.loop-i.i (c.loop-i.invariant t ls e f r) c.args.cut _ f
    c.past_staying-next.ensures c.put.ensures

pub loop-i-preserved : goal.loop-i-preserved
loop-i-preserved c =
    λ t ls e f r. lines_on t c.args.tabs c.args.lines.now ls c.loop-i.i (c.loop-i.invariant t ls e f r)
    c.loop-i-test.true c.args.cut c.text_end-end.result c.line_after-i.result f
    (line_end_lem c.args.lines.now c.loop-i.i _ _ c.tab_end.ensures c.text_end-end.ensures)
    c.line_after-i.ensures c.put_line.ensures

pub returns : goal.returns
returns c = λ t ls e f r. lines_over t _ _ ls _ (c.loop-i.invariant t ls e f r) c.loop-i-test.false
