-- Where no "[" stands behind the tabs there are no annotations.
use mathlib.Core.Path.{sym, ◌∙◌}
use Rattle.sheets.proofs.LineStarts.{notes_none}
use Rattle.sheets.proofs.concepts.read_notes.Goals as goal

pub returns : goal.returns
returns c = notes_none c.requires.2 (sym c.starts_with.ensures ∙ c.if-starts_with.false) _ _ c.requires.0.inside _ c.entryless.ensures
