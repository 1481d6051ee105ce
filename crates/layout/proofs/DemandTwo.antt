-- Demand 2 of what `write` and `read` promise: what was written reads back to the same tree, and laying it out again changes no byte.
-- Document 01, "Canonical form". Over the promises that the contracts cite. Assumes nothing.
use Prim.Native.Nat.{ℕ, ◌≤◌}
use mathlib.Core.Path.{◌≡◌, refl, sym, ap, subst, ◌∙◌}
use mathlib.Core.List.{List, map}
use native.Mathlib.Omega.{arith}
use native.Mathlib.Nat.{zero-add}
use lib.ListN.{length, take, drop}
use lib.Seq.{take_at, drop_at}
use Rattle.std.specs.Prelude.{Ok, Err}
use Rattle.paper.specs.declared.Refusal.{Refusal}
use Rattle.paper.specs.Answer.{Answer, accepted_at, refused_at, accepted}
use Rattle.paper.specs.Modes.{Modes, ValidTable}
use Rattle.paper.specs.Tree.{Sheet}
use Rattle.paper.specs.Grammar.{Derives}
use Rattle.paper.specs.Limits.{sheet_limit}
use Rattle.paper.specs.Entries.{filled, entries}
use Rattle.paper.specs.Reading.{room_of, Reading}
use Rattle.paper.specs.Canonical.{meaning, canonical}
use Rattle.paper.specs.Writing.{Begun, tree, unread, begin, Writing, written_at, form_fits, write_form, writing}
use Rattle.paper.proofs.Tests.{split}
use Rattle.paper.proofs.Numbers.{number_positive, told_injective}
use Rattle.paper.proofs.Tables.{table_exactly}
use Rattle.paper.proofs.Beginning.{Sound, Begins, begins, reads_tree}
use Rattle.paper.proofs.Meant.{again}
use Rattle.paper.proofs.ReadsBack.{found_accepts, tree_back}
use Rattle.paper.proofs.Shapes.{shape}
use Rattle.paper.proofs.Telling.{AllTell, senses}
use Rattle.paper.proofs.DemandTwo.{Wrote, write_inverts, canonical_fixed, only_offsets_change}
use Rattle.sheets.specs.Promises.{ReadsSheet}
use Rattle.layout.specs.Promises.{WritesSheet}

-- A sheet is read with answer r and these cells, its form with r' and those: both are accepted, under the table's modes, to trees of one
-- meaning; entry by entry kinds, forms, parents and counts are the same, and names, values, annotations and Content tell the same. So
-- only offsets differ.
pub record SameTree (table sheet form : List ℕ) (lent : ℕ) (r r' : Answer) (cells cells' : List ℕ) : Type 0 where
  pub modes : Modes
  pub valid : ValidTable table modes
  pub tree : Sheet
  pub derives : Derives modes sheet tree
  pub back : Sheet
  pub derives_back : Derives modes form back
  pub means : meaning back ≡ meaning tree
  pub reads : (r ≡ Ok (accepted_at (length sheet) (length (entries tree)))) × (cells ≡ filled lent (entries tree))
  pub reads_back : (r' ≡ Ok (accepted_at (length form) (length (entries back)))) × (cells' ≡ filled lent (entries back))
  pub shapes : map shape (entries back) ≡ map shape (entries tree)
  pub tell : AllTell sheet (entries tree) (senses (meaning tree))
  pub tell_back : AllTell form (entries back) (senses (meaning tree))

reads_as : {table s : List ℕ} {lent : ℕ} {t : Sheet} → Sound table s lent t → (r : Answer) (cells : List ℕ) → ReadsSheet table s lent r cells
    → (r ≡ Ok (accepted_at (length s) (length (entries t)))) × (cells ≡ filled lent (entries t))
reads_as {table} {s} {lent} {t} h r cells e =
    let q = e ∙ reads_tree h in
    (told_injective r (Ok (accepted_at (length s) (length (entries t)))) (ap (λ (x : Reading). x.answer) q), ap (λ (x : Reading). x.cells) q)

-- the form of a tree reads to a tree of the same meaning
same_tree : (table sheet : List ℕ) (lent : ℕ) (t : Sheet) → Sound table sheet lent t → length (canonical t) ≤ sheet_limit
    → (r r' : Answer) (cells cells' : List ℕ) → ReadsSheet table sheet lent r cells → ReadsSheet table (canonical t) lent r' cells'
    → SameTree table sheet (canonical t) lent r r' cells cells'
same_tree table sheet lent t h l r r' cells cells' e e' =
    let b = tree_back h.modes (room_of lent) sheet t h.read l in
    let h' : Sound table (canonical t) lent (again t) = record { modes = h.modes; valid = h.valid; read = b.read } in
    let d = (found_accepts h.modes (room_of lent) sheet t h.read).derives in
    let o = only_offsets_change h.modes sheet t d in
    record {
      modes = h.modes;
      valid = (table_exactly table h.modes).0 h.valid;
      tree = t;
      derives = d;
      back = again t;
      derives_back = (found_accepts h.modes (room_of lent) (canonical t) (again t) b.read).derives;
      means = b.means;
      reads = reads_as h r cells e;
      reads_back = reads_as h' r' cells' e';
      shapes = o.shapes;
      tell = o.tell;
      tell_back = o.tell_again;
    }

behind : (lent : ℕ) (out w : List ℕ) (k : ℕ) → length w ≡ k → drop k (written_at lent out 0 w).out ≡ drop k out
behind lent out w k e = drop_at w _ k e ∙ ap (λ (n : ℕ). drop n out) (zero-add (length w) ∙ e)

-- `write` accepted the sheet with a count of k, and left the output as `after`
module _ (table sheet : List ℕ) (lent : ℕ) (out : List ℕ) (k : ℕ) (after cells : List ℕ) (e : WritesSheet table sheet lent out (Ok (accepted_at 0 k)) after cells) where
  accepts : (writing table sheet lent out).answer ≡ accepted 0 k
  accepts = sym (ap (λ (x : Writing). x.answer) e)

  wrote : Wrote table sheet lent out k
  wrote = write_inverts table sheet lent out k accepts

  is_form : take k after ≡ canonical wrote.it
  is_form = ap (λ (x : Writing). take k x.out) (e ∙ wrote.is) ∙ take_at (canonical wrote.it) _ k (sym wrote.count)

  size : length (take k after) ≡ k
  size = ap length is_form ∙ sym wrote.count

  -- k bytes were written, and every byte behind them is as it came
  pub write_keeps_rest : (length (take k after) ≡ k) × (drop k after ≡ drop k out)
  write_keeps_rest = (size, ap (λ (x : Writing). drop k x.out) (e ∙ wrote.is) ∙ behind lent out (canonical wrote.it) k (sym wrote.count))

  -- these k bytes read, in as many cells, to the tree that the sheet reads to
  pub write_reads_back : (r r' : Answer) (held held' : List ℕ) → ReadsSheet table sheet lent r held → ReadsSheet table (take k after) lent r' held'
      → SameTree table sheet (take k after) lent r r' held held'
  write_reads_back r r' held held' s s' =
      let h : Sound table sheet lent wrote.it = subst (Begins table sheet lent) wrote.begins (begins table sheet lent) in
      rw is_form (same_tree table sheet lent wrote.it h (omega (arith, wrote.fits)) r r' held held' s (rw is_form at s'))

  -- written again, into any room that is large enough, they are the same, and every byte behind them is as it came
  pub write_fixed : (other : List ℕ) (r' : Answer) (after' cells' : List ℕ) → k ≤ length other → WritesSheet table (take k after) lent other r' after' cells'
      → (r' ≡ Ok (accepted_at 0 k)) × (take k after' ≡ take k after) × (drop k after' ≡ drop k other)
  write_fixed other r' after' cells' l f =
      let q = f ∙ subst (λ (o : List ℕ). writing table (take k o) lent other ≡ written_at lent other 0 (take k o)) (sym (ap (λ (x : Writing). x.out) e))
      (canonical_fixed table sheet lent out k other accepts l) in (
        told_injective r' (Ok (accepted_at 0 k)) (ap (λ (x : Writing). x.answer) q ∙ ap (accepted 0) (zero-add (length (take k after)) ∙ size)),
        ap (λ (x : Writing). take k x.out) q ∙ take_at (take k after) _ k size,
        ap (λ (x : Writing). drop k x.out) q ∙ behind lent other (take k after) k size,
      )

-- a refusal leaves the output as it came
pub write_refused_keeps : (table sheet : List ℕ) (lent : ℕ) (out : List ℕ) (why : Refusal) (place : ℕ) (after cells : List ℕ)
    → WritesSheet table sheet lent out (Err (refused_at why place)) after cells → after ≡ out
unfolding writing write_form
write_refused_keeps table sheet lent out why place after cells e = by_tree (begin table sheet lent) refl
  where
    by_tree : (b : Begun) → begin table sheet lent ≡ b → after ≡ out
    by_tree (unread n at) b = ap (λ (x : Writing). x.out) (rw (b, writing) at e)
    by_tree (tree t) b =
        split (form_fits out (canonical t))
        (λ f. absurd (number_positive why (ap (λ (x : Writing). x.answer.number) (rw (b, writing, write_form, f) at e))))
        (λ f. ap (λ (x : Writing). x.out) (rw (b, writing, write_form, f) at e))
