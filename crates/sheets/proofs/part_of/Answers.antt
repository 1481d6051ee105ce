-- An entry has no kind, or its span names a part of the sheet, or none.
use Prim.Native.Nat.{ℕ}
use mathlib.Core.Path.{◌≡◌}
use mathlib.Core.List.{List}
use native.Mathlib.Omega.{arith}
use Rattle.std.specs.Prelude.{Option, None, Some}
use Rattle.std.specs.Borrow.{Bor}
use Rattle.std.specs.Slice.{IsGetRangeResult}
use Rattle.paper.specs.Entries.{Entry}
use Rattle.entries.specs.Laid.{entry_at}
use Rattle.sheets.specs.Sheets.{LendsPart}
use Rattle.sheets.proofs.Views.{kindless, span_off, span_part}
use Rattle.sheets.proofs.part_of.Goals as goal

by_span : (s cells : List ℕ) (n : ℕ) (e : Entry) → e ≡ entry_at cells n → (e.kind ≡ 0 → ⊥) → (r : Option (Bor (List ℕ)))
    → IsGetRangeResult s e.start e.end r → LendsPart s cells n r
by_span s cells n e got k None h = span_off s cells n e got h.0
by_span s cells n e got k (Some part) h = span_part s cells n e got k h.0.0 h.0.1 h.0.2

-- what is sought between two numbers that are the entry's
by_ends : (s cells : List ℕ) (n : ℕ) (e : Entry) → e ≡ entry_at cells n → (e.kind ≡ 0 → ⊥) → (r : Option (Bor (List ℕ))) → (start end : ℕ)
    → IsGetRangeResult s start end r → start ≡ e.start → end ≡ e.end → LendsPart s cells n r
by_ends s cells n e got k r start end h p q = by_span s cells n e got k r (rw (p, q) at h)

pub returns-then-laid-eq0 : goal.returns-then-laid-eq0
returns-then-laid-eq0 c = kindless _ _ _ _ c.get-laid.ensures c.if-laid-eq0.true

pub returns : goal.returns
returns c = by_ends _ _ _ _ c.get-laid.ensures c.if-laid-eq0.false c.get.result _ _ c.get.ensures.lookup (omega arith) (omega arith)
