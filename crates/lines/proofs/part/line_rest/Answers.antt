-- LF first; behind blanks, which do not matter to its place, the line end stands.
use mathlib.Core.Path.{◌≡◌, sym, refl, ◌∙◌}
use mathlib.Core.Bool.{false}
use Rattle.paper.specs.Bytes.{is_blank, lf}
use Rattle.lines.proofs.Ends.{rest_from, rest_lf, no_blanks}
use Rattle.lines.proofs.part.line_rest.Goals as goal

-- LF is no blank
none : is_blank lf ≡ false
unfolding is_blank
none = refl

pub returns-then-starts_with : goal.returns-then-starts_with
returns-then-starts_with c =
    let starts = sym c.starts_with.ensures ∙ c.if-starts_with.true in
    rest_lf _ _ _ (no_blanks lf _ _ none starts) starts

pub returns : goal.returns
returns c = c.line_end.ensures ∙ rest_from _ _ _ c.end-end.ensures
