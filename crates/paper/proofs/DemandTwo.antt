-- Demand 2's second half: "Where the canonical form fits, reading it back gives the same tree, values and Content, and laying it out again changes no byte."
-- Document 01, "Canonical form" and "Order". Assumes nothing.
use Prim.Native.Nat.{ℕ, ◌≤◌, min}
use mathlib.Core.Path.{◌≡◌, refl, sym, ap, subst, ◌∙◌}
use mathlib.Core.List.{List, map}
use native.Mathlib.Omega.{arith}
use lib.ListN.{length, take}
use lib.Seq.{take_at}
use borrow.Author.Tests.{leb-true, le-leb}
use Rattle.paper.specs.Answer.{accepted}
use Rattle.paper.specs.declared.Told.{Told}
use Rattle.paper.specs.Modes.{Modes}
use Rattle.paper.specs.Tree.{Sheet}
use Rattle.paper.specs.Grammar.{Derives}
use Rattle.paper.specs.Limits.{sheet_limit}
use Rattle.paper.specs.Entries.{entries}
use Rattle.paper.specs.Reading.{room_of, reading}
use Rattle.paper.specs.Canonical.{SheetSense, meaning, print, canonical}
use Rattle.paper.specs.Writing.{Begun, tree, unread, begin, Writing, written_at, form_fits, write_form, writing}
use Rattle.paper.proofs.Tests.{split}
use Rattle.paper.proofs.Numbers.{told_apart}
use Rattle.paper.proofs.Exactly.{accepting}
use Rattle.paper.proofs.Beginning.{Sound, Begins, begins, begins_tree, reads_tree}
use Rattle.paper.proofs.Meant.{again, again_means}
use Rattle.paper.proofs.ReadsBack.{tree_back, again_derives}
use Rattle.paper.proofs.Shapes.{shape, same_shapes}
use Rattle.paper.proofs.Telling.{AllTell, senses, entries_tell}

-- ---- canonical-reads-back: "reading it back gives the same tree"

-- The form of a tree t is read, in the same room, to a tree of the same meaning: the same Concepts with the same forms, names, traits, values, annotations and Content.
-- It has as many entries.
pub record ReadsBack (table : List ℕ) (lent : ℕ) (t : Sheet) : Type 0 where
  pub it : Sheet
  pub begins : begin table (canonical t) lent ≡ tree it
  pub reads : reading table (canonical t) lent ≡ accepting (canonical t) lent (entries it)
  pub means : meaning it ≡ meaning t
  pub many : length (entries it) ≡ length (entries t)

sound_again : {table s : List ℕ} {lent : ℕ} {t : Sheet} → Sound table s lent t → length (canonical t) ≤ sheet_limit → Sound table (canonical t) lent (again t)
sound_again {table} {s} {lent} {t} h l = record { modes = h.modes; valid = h.valid; read = (tree_back h.modes (room_of lent) s t h.read l).read }

-- where the form fits a sheet
pub canonical_reads_back : (table s : List ℕ) (lent : ℕ) (t : Sheet) → begin table s lent ≡ tree t → length (canonical t) ≤ sheet_limit → ReadsBack table lent t
canonical_reads_back table s lent t e l =
    let h : Sound table s lent t = subst (Begins table s lent) e (begins table s lent) in
    let a = sound_again h l in
    record {
      it = again t;
      begins = begins_tree a;
      reads = reads_tree a;
      means = again_means t;
      many = (tree_back h.modes (room_of lent) s t h.read l).many;
    }

-- ---- canonical-fixed: "and laying it out again changes no byte"

-- what an accepted writing wrote: the form of the sheet's tree, which fits
pub record Wrote (table s : List ℕ) (lent : ℕ) (out : List ℕ) (n : ℕ) : Type 0 where
  pub it : Sheet
  pub begins : begin table s lent ≡ tree it
  pub fits : length (canonical it) ≤ min (length out) sheet_limit
  pub is : writing table s lent out ≡ written_at lent out 0 (canonical it)
  pub count : n ≡ length (canonical it)

pub write_inverts : (table s : List ℕ) (lent : ℕ) (out : List ℕ) (n : ℕ) → (writing table s lent out).answer ≡ accepted 0 n → Wrote table s lent out n
unfolding writing write_form
write_inverts table s lent out n h = by_tree (begin table s lent) refl (begins table s lent)
  where
    by_tree : (b : Begun) → begin table s lent ≡ b → Begins table s lent b → Wrote table s lent out n
    by_tree (unread k at) e q = told_apart k at 0 n (omega (arith, q.least)) (rw (e, writing) at h)
    by_tree (tree t) e q =
        split (form_fits out (canonical t))
        (λ f. record {
          it = t;
          begins = e;
          fits = leb-true (length (canonical t)) (min (length out) sheet_limit) f;
          is = rw (e, writing, write_form, f) refl;
          count = omega (arith, ap (λ (x : Told). x.count) (rw (e, writing, write_form, f) at h));
        })
        (λ f. told_apart 12 0 0 n (omega arith) (rw (e, writing, write_form, f) at h))

-- a tree whose form fits is written
pub writes : (table s : List ℕ) (lent : ℕ) (out : List ℕ) (t : Sheet) → begin table s lent ≡ tree t → length (canonical t) ≤ min (length out) sheet_limit
    → writing table s lent out ≡ written_at lent out 0 (canonical t)
unfolding writing write_form
writes table s lent out t e l = rw (e, writing, write_form, le-leb (length (canonical t)) (min (length out) sheet_limit) l) refl

-- The n bytes that a writing wrote, written again under the same table and with as many entry cells, into any room of n bytes: the same bytes.
pub canonical_fixed : (table s : List ℕ) (lent : ℕ) (out : List ℕ) (n : ℕ) (other : List ℕ) → (writing table s lent out).answer ≡ accepted 0 n → n ≤ length other
    → writing table (take n (writing table s lent out).out) lent other ≡ written_at lent other 0 (take n (writing table s lent out).out)
canonical_fixed table s lent out n other h l =
    let w = write_inverts table s lent out n h in
    let t = w.it in
    let b = canonical_reads_back table s lent t w.begins (omega (arith, w.fits)) in
    let form : take n (writing table s lent out).out ≡ canonical t =
    ap (λ (x : Writing). take n x.out) w.is ∙ take_at (canonical t) _ n (sym w.count) in
    let same : canonical b.it ≡ canonical t = ap print b.means in
    rw form
    (writes table (canonical t) lent other b.it b.begins (omega (arith, ap length same, w.count, w.fits)) ∙ ap (written_at lent other 0) same)

-- ---- only-offsets-change: "the same tree, values and Content", entry by entry

-- A derived sheet s and its canonical form have as many entries, of the same kinds, forms, parents and counts, in order; and entry by entry the same names stand in both,
-- the spellings of values mean the same, annotations collapse to the same text, and Content has the same lines. So the form changes nothing but offsets.
pub record OnlyOffsetsChange (s : List ℕ) (t : Sheet) : Type 0 where
  pub shapes : map shape (entries (again t)) ≡ map shape (entries t)
  pub tell : AllTell s (entries t) (senses (meaning t))
  pub tell_again : AllTell (canonical t) (entries (again t)) (senses (meaning t))

pub only_offsets_change : (m : Modes) (s : List ℕ) (t : Sheet) → Derives m s t → OnlyOffsetsChange s t
only_offsets_change m s t d =
    let a = again_derives m s t d in
    record {
      shapes = same_shapes t;
      tell = subst (λ (l : List ℕ). AllTell l (entries t) (senses (meaning t))) d.covers (entries_tell t d.rule);
      tell_again =
          subst (λ (x : SheetSense). AllTell (canonical t) (entries (again t)) (senses x)) (again_means t)
          (subst (λ (l : List ℕ). AllTell l (entries (again t)) (senses (meaning (again t)))) a.covers (entries_tell (again t) a.rule));
    }
