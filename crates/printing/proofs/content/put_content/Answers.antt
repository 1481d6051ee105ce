-- The lines that the span names, cut by the tabs of the closing line behind them. Assumes nothing.
use mathlib.Core.Path.{refl, sym, ◌∙◌}
use borrow.Author.Tests.{ltb-false}
use native.Mathlib.Omega.{arith}
use Rattle.entries.specs.Laid.{entry_of}
use Rattle.entries.proofs.Standing.{stand_inside}
use Rattle.printing.proofs.LineTexts.{content_lines, content_tabs}
use Rattle.printing.proofs.content.put_content.Goals as goal

pub returns-then-not-has : goal.returns-then-not-has
returns-then-not-has c = λ place t ls of rule.
    let none = ltb-false c.args.n _ (sym c.has.ensures ∙ c.if-not-has.true) in
    let h = stand_inside _ _ _ _ of.stand in absurd (omega arith)

pub returns : goal.returns
returns c =
    λ place t ls of rule. (
      refl,
      c.put_lines.ensures t ls
          (c.spelling.ensures ∙ content_lines _ _ _ place t ls of (entry_of c.at-own.result) c.at-own.ensures)
          (content_tabs _ _ _ place t ls of (entry_of c.at-own.result) c.at-own.ensures _ _ c.tabs_at-cut.ensures.0 refl) rule,
    )
