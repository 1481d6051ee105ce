-- The part of an entry: a law for each way out of what seeks it, and what is answered by that. Over plain lists. Assumes nothing.
use Prim.Native.Nat.{ℕ, suc, ◌-◌, ◌*◌, ◌≤◌, ◌<◌}
use mathlib.Core.Path.{◌≡◌, refl, ap, ◌∙◌}
use mathlib.Core.Bool.{Bool, true, false, not, ◌&&◌}
use mathlib.Core.List.{List, []}
use mathlib.Core.Logic.{◌⊎◌, inl, inr}
use native.Mathlib.Omega.{arith}
use lib.ListN.{length, take, drop, length-drop}
use lib.Seq.{length-take-le}
use lib.Dec.{leb, eqb}
use borrow.Author.Tests.{leb-true, leb-false, le-leb, lt-leb, eq-eqb, ne_eqb}
use Rattle.paper.specs.Answer.{accepted, refused}
use Rattle.paper.specs.Entries.{Entry, entry_cells}
use Rattle.paper.specs.View.{cell_of, span_start, span_end, viewable, viewed, view_answer}
use Rattle.paper.proofs.Tests.{split}
use Rattle.paper.proofs.Lists.{both}
use Rattle.entries.specs.Laid.{entry_at}
use Rattle.entries.proofs.Getting.{at_cells, at_none, at_viewed}

-- ---- the part, by the entry

-- it has a kind, and its span lies in the sheet and is not reversed
abbrev stands : List ℕ → Entry → Bool
stands s e = not (eqb e.kind 0) && leb e.start e.end && leb e.end (length s)

module _ (s cells : List ℕ) (n : ℕ) (e : Entry) (got : e ≡ entry_at cells n) where
  may_view : viewable s cells n ≡ stands s e
  unfolding viewable
  may_view =
      split (leb (entry_cells * suc n) (length cells))
      (λ w. rw (got, at_cells cells n (omega (arith, leb-true (entry_cells * suc n) (length cells) w)), w))
      (λ w. rw (got, at_none cells n (omega (arith, leb-false (entry_cells * suc n) (length cells) w)), w))

  -- it has no kind
  pub kindless : e.kind ≡ 0 → viewable s cells n ≡ false
  kindless k = rw (may_view, eq-eqb e.kind 0 k)

  -- its span is reversed or ends outside
  pub span_off : (e.end < e.start) ⊎ (length s < e.end) → viewable s cells n ≡ false
  span_off (inl l) = split (eqb e.kind 0) (λ k. rw (may_view, k)) (λ k. rw (may_view, k, lt-leb e.start e.end l))
  span_off (inr o) =
      split (eqb e.kind 0)
      (λ k. rw (may_view, k))
      (λ k. split (leb e.start e.end) (λ l. rw (may_view, k, l, lt-leb e.end (length s) o)) (λ l. rw (may_view, k, l)))

  -- it can be viewed, and its part is what the span names
  pub span_part : (e.kind ≡ 0 → ⊥) → e.start ≤ e.end → e.end ≤ length s → {part : List ℕ} → part ≡ take (e.end - e.start) (drop e.start s)
      → (viewable s cells n ≡ true) × (part ≡ viewed s cells n)
  unfolding viewed
  span_part k l o p =
      let seen : viewable s cells n ≡ true = rw (may_view, ne_eqb e.kind 0 k, le-leb e.start e.end l, le-leb e.end (length s) o) in
      let is = got ∙ at_viewed cells n s seen in
      let starts : e.start ≡ span_start cells n = ap (λ (x : Entry). x.start) is in
      let ends : e.end ≡ span_end cells n = ap (λ (x : Entry). x.end) is in
      (seen, p ∙ rw (viewed, seen, starts, ends))

-- ---- what is answered, by the part

module _ (s cells : List ℕ) (n : ℕ) where
  -- no part
  pub view_none : viewable s cells n ≡ false → [] ≡ viewed s cells n
  unfolding viewed
  view_none e = rw (viewed, e)

  pub answer_none : viewable s cells n ≡ false → refused 17 0 ≡ view_answer s cells n
  unfolding view_answer
  answer_none e = rw (view_answer, e)

  -- a part
  part_inside : viewable s cells n ≡ true → span_end cells n ≤ length s
  unfolding viewable
  part_inside e = leb-true (span_end cells n) (length s) (both (_ && leb (span_start cells n) (span_end cells n)) (leb (span_end cells n) (length s)) e).1

  pub answer_part : {part : List ℕ} → (viewable s cells n ≡ true) × (part ≡ viewed s cells n) → accepted 0 (length part) ≡ view_answer s cells n
  unfolding viewed view_answer
  answer_part h =
      let start = span_start cells n in
      let end = span_end cells n in
      let long = length-take-le (end - start) (drop start s) (omega (arith, part_inside h.0, length-drop start s)) in
      rw (h.1, viewed, view_answer, h.0, long)
