-- What every writing begins with: a tree that the sheet reads to under a valid table, or reading's own refusal. Assumes nothing.
-- Document 01, "Order".
use Prim.Native.Nat.{ℕ, ◌≤◌}
use mathlib.Core.Path.{◌≡◌, refl, ap, ◌∙◌}
use mathlib.Core.Logic.{inl}
use mathlib.Core.List.{List, []}
use native.Mathlib.Omega.{arith}
use Rattle.paper.specs.Found.{Found, found, fault}
use Rattle.paper.specs.Modes.{Modes, mode_table}
use Rattle.paper.specs.Tree.{Sheet}
use Rattle.paper.specs.Entries.{entries}
use Rattle.paper.specs.Reading.{room_of, sheet_of, refusal, reading}
use Rattle.paper.specs.Writing.{Begun, tree, unread, begin}
use Rattle.paper.proofs.Finds.{AtMost}
use Rattle.paper.proofs.Before.{Only, table_only, table_whole}
use Rattle.paper.proofs.Exactly.{Answers, sheet_answers, accepting}

-- the sheet reads to this tree
pub record Sound (table s : List ℕ) (lent : ℕ) (t : Sheet) : Type 0 where
  pub modes : Modes
  pub valid : mode_table table ≡ found modes []
  pub read : sheet_of modes (room_of lent) s ≡ found t []

-- reading refuses the sheet by this number and at this place
pub record Unread (table s : List ℕ) (lent n at : ℕ) : Type 0 where
  pub least : 1 ≤ n
  pub most : AtMost n
  pub is : reading table s lent ≡ refusal lent n at

abbrev pub Begins : List ℕ → List ℕ → ℕ → Begun → Type 0
Begins table s lent (tree t) = Sound table s lent t
Begins table s lent (unread n at) = Unread table s lent n at

pub begins : (table s : List ℕ) (lent : ℕ) → Begins table s lent (begin table s lent)
unfolding begin reading
begins table s lent = by_table (mode_table table) refl (table_only table)
  where
    by_sheet : (m : Modes) → mode_table table ≡ found m [] → (x : Found Sheet) → sheet_of m (room_of lent) s ≡ x → Answers m (room_of lent) s x
        → Begins table s lent (begin table s lent)
    by_sheet m v (found t left) e a = rw (v, begin, e) (record { modes = m; valid = v; read = e ∙ ap (found t) a.0 })
    by_sheet m v (fault n left) e a = rw (v, begin, e) (record { least = omega (arith, a.least); most = a.most; is = rw (v, reading, e) })

    by_table : (x : Found Modes) → mode_table table ≡ x → Only 1 table x → Begins table s lent (begin table s lent)
    by_table (found m left) e o = by_sheet m (e ∙ ap (found m) (table_whole table m left e)) (sheet_of m (room_of lent) s) refl (sheet_answers m (room_of lent) s)
    by_table (fault n left) e o = rw (e, begin) (record { least = omega (arith, o.0); most = inl (omega (arith, o.0)); is = rw (e, reading) })

pub begins_tree : {table s : List ℕ} {lent : ℕ} {t : Sheet} → Sound table s lent t → begin table s lent ≡ tree t
unfolding begin
begins_tree h = rw (h.valid, begin, h.read) refl

pub reads_tree : {table s : List ℕ} {lent : ℕ} {t : Sheet} → Sound table s lent t → reading table s lent ≡ accepting s lent (entries t)
unfolding reading
reads_tree h = rw (h.valid, reading, h.read) refl
