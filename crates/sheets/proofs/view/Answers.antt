-- By the part: it, or none of the sheet.
use Prim.Native.Nat.{ℕ}
use mathlib.Core.Path.{◌≡◌, refl, ◌∙◌}
use mathlib.Core.List.{List, []}
use Rattle.std.specs.Prelude.{Option, None, Some, unwrap_or}
use Rattle.std.specs.Borrow.{Bor}
use Rattle.sheets.specs.Promises.{Views}
use Rattle.sheets.specs.Sheets.{LendsPart}
use Rattle.sheets.proofs.Views.{view_none}
use Rattle.sheets.proofs.view.Goals as goal

by_part : (s cells : List ℕ) (n : ℕ) (r : Option (Bor (List ℕ))) (none : Bor (List ℕ)) → none.now ≡ [] → LendsPart s cells n r
    → Views s cells n (unwrap_or r none).now
by_part s cells n None none e h = e ∙ view_none s cells n h
by_part s cells n (Some part) none e h = h.1

pub returns : goal.returns
returns c = rw c.unwrap_or.ensures (by_part _ _ _ c.part_of.result _ refl c.part_of.ensures)
