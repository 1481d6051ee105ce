-- The numbers of an answer are small; what a writing tells; and what a view answers by what the second call does. Over plain lists. Assumes nothing.
use Prim.Native.Nat.{ℕ, min}
use mathlib.Core.Path.{◌≡◌, refl, sym, ap, ◌∙◌}
use mathlib.Core.List.{List, [], ◌∷◌}
use mathlib.Core.Bool.{true}
use lib.ListN.{length}
use borrow.Author.Tests.{leb-true}
use native.Mathlib.Omega.{arith}
use Rattle.std.specs.Prelude.{Ok, Err}
use Rattle.paper.specs.Answer.{Answer, number_of, told}
use Rattle.paper.specs.declared.Accepted.{Accepted}
use Rattle.paper.specs.declared.Refused.{Refused}
use Rattle.paper.specs.declared.Told.{Told}
use Rattle.paper.specs.Modes.{read_table}
use Rattle.paper.specs.Entries.{Entry}
use Rattle.paper.specs.View.{viewable, view_answer}
use Rattle.paper.specs.Limits.{sheet_limit}
use Rattle.paper.specs.Reading.{Reading, reading}
use Rattle.paper.specs.Canonical.{canonical}
use Rattle.paper.specs.Writing.{Begun, tree, unread, begin, Writing, form_fits, write_form, writing}
use Rattle.paper.proofs.Tests.{split}
use Rattle.paper.proofs.Numbers.{number_positive}
use Rattle.entries.specs.Laid.{entry_at}
use Rattle.entries.proofs.Getting.{at_viewed}
use Rattle.gateway.specs.Answers.{Few, three_of, view_of}
use Rattle.gateway.specs.Promises.{TellsForm}
use Rattle.paper.proofs.TableSizes.{table_small}
use Rattle.paper.proofs.Exactly.{reading_small}
use Rattle.paper.proofs.Beginning.{Begins, begins}

pub table_few : (table : List ℕ) (t : Told) → t ≡ read_table table → Few t
table_few table t e = rw e (omega (arith, (table_small table).0), omega (arith, (table_small table).1))

pub sheet_few : (table s : List ℕ) (lent : ℕ) (t : Told) (cells : List ℕ) → record { answer = t; cells = cells } ≡ reading table s lent → Few t
sheet_few table s lent t cells e =
    let a : t ≡ (reading table s lent).answer = ap (λ (x : Reading). x.answer) e in
    rw a (omega (arith, (reading_small table s lent).0), omega (arith, (reading_small table s lent).1))

-- what is written is no longer than a sheet, and a refused reading's place is in one
writing_few : (table s : List ℕ) (lent : ℕ) (out : List ℕ) → Few (writing table s lent out).answer
unfolding writing write_form
writing_few table s lent out = by_tree (begin table s lent) refl (begins table s lent)
  where
    by_tree : (b : Begun) → begin table s lent ≡ b → Begins table s lent b → Few (writing table s lent out).answer
    by_tree (unread n at) e q =
        let small = rw q.is at (reading_small table s lent) in
        rw (e, writing) (omega (arith, small.0), omega arith)
    by_tree (tree t) e q =
        split (form_fits out (canonical t))
        (λ f.
        let short = leb-true (length (canonical t)) (min (length out) sheet_limit) f in
        rw (e, writing, write_form, f) (omega arith, omega (arith, short)))
        (λ f. rw (e, writing, write_form, f) (omega arith, omega arith))

pub form_few : (table s : List ℕ) (lent : ℕ) (out : List ℕ) (t : Told) (after cells : List ℕ)
    → record { answer = t; out = after; cells = cells } ≡ writing table s lent out → Few t
form_few table s lent out t after cells e =
    let a : t ≡ (writing table s lent out).answer = ap (λ (x : Writing). x.answer) e in
    rw a (writing_few table s lent out)

pub form_told : (table s : List ℕ) (lent : ℕ) (out : List ℕ) (t : Told) (after cells answer : List ℕ)
    → record { answer = t; out = after; cells = cells } ≡ writing table s lent out → answer ≡ three_of t → TellsForm table s lent out cells after answer
form_told table s lent out t after cells answer e told =
    (ap (λ (x : Writing). x.cells) e, ap (λ (x : Writing). x.out) e, told ∙ ap (λ (x : Writing). three_of x.answer) e)

-- ---- a view

module _ (s cells : List ℕ) (n : ℕ) (r : Answer) (asked : told r ≡ view_answer s cells n) where
  pub view_refused : (e : Refused) → r ≡ Err e → (number : ℕ) → number ≡ number_of e.refusal → number ∷ 0 ∷ 0 ∷ [] ≡ view_of s cells n
  unfolding view_of view_answer
  view_refused e is number same =
      let number_is : number ≡ (view_answer s cells n).number = same ∙ ap (λ (t : Told). t.number) (ap told (sym is) ∙ asked) in
      split (viewable s cells n)
      (λ v. absurd (number_positive e.refusal (sym same ∙ number_is ∙ rw (v, view_answer))))
      (λ v. rw (v, view_of) (ap (λ (k : ℕ). k ∷ 0 ∷ 0 ∷ []) (number_is ∙ rw (v, view_answer))))

  module _ (a : Accepted) (is : r ≡ Ok a) where
    can_view : viewable s cells n ≡ true
    unfolding view_answer
    can_view =
        split (viewable s cells n) (λ v. v)
        (λ v. let seventeen : (view_answer s cells n).number ≡ 17 = rw (v, view_answer) in
        let z : 0 ≡ 17 = ap (λ (t : Told). t.number) (ap told (sym is) ∙ asked) ∙ seventeen in absurd (omega arith))

    pub view_told : (e : Entry) → e ≡ entry_at cells n → 0 ∷ e.start ∷ e.end ∷ [] ≡ view_of s cells n
    unfolding view_of
    view_told e got = rw (can_view, view_of, got, at_viewed cells n s can_view)
