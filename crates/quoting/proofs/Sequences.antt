-- Things that stand one behind the other in a list and are put on a page one by one: what is left of them at a place. Assumes nothing.
use Prim.Native.Nat.{ℕ, ◌≤◌, ◌<◌}
use mathlib.Core.Path.{◌≡◌, ap, ◌∙◌}
use mathlib.Core.Bool.{Bool, true}
use mathlib.Core.List.{List, [], ◌∷◌}
use native.Mathlib.Omega.{arith}
use lib.ListN.{length, drop, length-drop}
use Rattle.paper.specs.Bytes.{all}
use Rattle.paper.proofs.Lists.{all_head}
use Rattle.quoting.specs.declared.page.Page.{Page}
use Rattle.quoting.specs.Page.{Step, Puts}
use Rattle.quoting.proofs.Putting.{nothing, step_as, step_then}

-- how one such thing, and all of them, are spelt and printed in front of what follows, and the rule that each keeps
pub record Sequence (A : Type 0) : Type 0 where
  pub spelt : A → List ℕ → List ℕ
  pub all_spelt : List A → List ℕ → List ℕ
  pub rule : A → Bool
  pub printed : A → List ℕ → List ℕ
  pub all_printed : List A → List ℕ → List ℕ
  pub spelt_none : (next : List ℕ) → all_spelt [] next ≡ next
  pub spelt_more : (a : A) (as' : List A) (next : List ℕ) → all_spelt (a ∷ as') next ≡ spelt a (all_spelt as' next)
  pub printed_none : (next : List ℕ) → all_printed [] next ≡ next
  pub printed_more : (a : A) (as' : List A) (next : List ℕ) → all_printed (a ∷ as') next ≡ printed a (all_printed as' next)
  pub longer : (a : A) (next : List ℕ) → length next < length (spelt a next)

module _ {A : Type 0} (q : Sequence A) (w : List ℕ) (before : Page) (whole : List A) where
  -- what is left at place i of what was to be put on the page
  pub record Left (i : ℕ) (now : Page) : Type 0 where
    pub more : List A
    pub stands : drop i w ≡ q.all_spelt more []
    pub kept : all q.rule more ≡ true
    pub put : Step before (q.all_printed whole) now (q.all_printed more)

  pub left_all : w ≡ q.all_spelt whole [] → all q.rule whole ≡ true → Left 0 before
  left_all e r = record { more = whole; stands = e; kept = r; put = nothing before (q.all_printed whole) }

  module _ (i : ℕ) (now : Page) where
    -- the thing that stands at place i was put, and the next one stands at place n
    abbrev pub OnePut : ℕ → Page → Type 0
    OnePut n after = (a : A) (left : List ℕ) → drop i w ≡ q.spelt a left → q.rule a ≡ true → (drop n w ≡ left) × Puts now (q.printed a) after

    on : (more : List A) → drop i w ≡ q.all_spelt more [] → all q.rule more ≡ true → Step before (q.all_printed whole) now (q.all_printed more)
        → i < length w → (n : ℕ) (after : Page) → OnePut n after → Left n after
    on [] e r s h n after f = absurd (omega (arith, ap length (e ∙ q.spelt_none []), length-drop i w))
    on (a ∷ more) e r s h n after f =
        let b = all_head q.rule a more r in
        let got = f a (q.all_spelt more []) (e ∙ q.spelt_more a more []) b.0 in
        record {
          more = more;
          stands = got.0;
          kept = b.1;
          put = step_then (q.printed a) (q.all_printed more) s (q.printed_more a more) got.1;
        }

    pub left_on : Left i now → i < length w → (n : ℕ) (after : Page) → OnePut n after → Left n after
    left_on l = on l.more l.stands l.kept l.put

    over : (more : List A) → drop i w ≡ q.all_spelt more [] → Step before (q.all_printed whole) now (q.all_printed more)
        → length w ≤ i → Puts before (q.all_printed whole) now
    over [] e s h = step_as s q.printed_none
    over (a ∷ more) e s h = absurd (omega (arith, ap length (e ∙ q.spelt_more a more []), length-drop i w, q.longer a (q.all_spelt more [])))

    pub left_over : Left i now → length w ≤ i → Puts before (q.all_printed whole) now
    left_over l = over l.more l.stands l.put
