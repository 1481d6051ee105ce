-- Numbers of names, the latest first: the number of a name by those that share its key, and what a number says.
-- Over plain lists. Assumes nothing.
use Prim.Native.Nat.{ℕ, zero, suc, ◌+◌, ◌≤◌, ◌<◌}
use mathlib.Core.Path.{◌≡◌, refl, sym, ap, ◌∙◌}
use mathlib.Core.Bool.{Bool, true, false, or_comm}
use mathlib.Core.List.{List, [], ◌∷◌, ◌++◌, reverse, reverse-cons}
use native.Mathlib.Nat.{mod-lt}
use native.Mathlib.Omega.{arith}
use lib.ListN.{length, length-append}
use borrow.Author.Tests.{eq-eqb}
use Rattle.std.specs.Prelude.{Option, None, Some}
use Rattle.paper.specs.Names.{among}
use Rattle.paper.proofs.Tests.{split, true_false}
use Rattle.paper.proofs.Lists.{same_is}
use Rattle.paper.proofs.Distinct.{among_here, among_on, among_either}
use Rattle.modes.specs.Index.{key_count, key_of, latest, has_key, named, numbered}

-- ---- keys

pub key_few : (w : List ℕ) → key_of w < key_count
unfolding key_of
key_few w = mod-lt _ (omega arith)

pub key_none : (w : List ℕ) → length w ≡ 0 → 0 ≡ key_of w
unfolding key_of
key_none [] e = refl
key_none (b ∷ w) e = absurd (omega arith)

-- names of other keys are other names
key_apart : (n w : List ℕ) → has_key (key_of w) n ≡ false → named w n ≡ false
key_apart n w e = split (named w n) (λ f. true_false (sym (eq-eqb (key_of n) (key_of w) (ap key_of (same_is n w f))) ∙ e)) (λ f. f)

-- ---- the latest name that passes a test

module _ (test : List ℕ → Bool) where
  pub latest_here : (n : List ℕ) (ns : List (List ℕ)) → test n ≡ true → latest test (n ∷ ns) ≡ suc (length ns)
  unfolding latest
  latest_here n ns e = rw (e, latest)

  pub latest_on : (n : List ℕ) (ns : List (List ℕ)) → test n ≡ false → latest test (n ∷ ns) ≡ latest test ns
  unfolding latest
  latest_on n ns e = rw (e, latest)

  latest_none : (n : List ℕ) (ns : List (List ℕ)) → latest test (n ∷ ns) ≡ 0 → (test n ≡ false) × (latest test ns ≡ 0)
  latest_none n ns h =
      split (test n) (λ e. let z : suc (length ns) ≡ 0 = sym (latest_here n ns e) ∙ h in absurd (omega arith)) (λ e. (e, sym (latest_on n ns e) ∙ h))

  pub latest_few : (ns : List (List ℕ)) → latest test ns ≤ length ns
  unfolding latest
  latest_few [] = omega arith
  latest_few (n ∷ ns) =
      split (test n) (λ e. omega (arith, latest_here n ns e)) (λ e. omega (arith, latest_on n ns e, latest_few ns))

  -- of two runs of names, the later one first
  pub latest_later : (ms ns : List (List ℕ)) → 0 < latest test ms → latest test (ms ++ ns) ≡ latest test ms + length ns
  unfolding latest
  latest_later [] ns h = absurd (omega arith)
  latest_later (m ∷ ms) ns h =
      split (test m) (λ e. rw (latest_here m (ms ++ ns) e, latest_here m ms e) (omega (arith, length-append ms ns)))
      (λ e. rw (latest_on m (ms ++ ns) e, latest_on m ms e) (latest_later ms ns (rw (latest_on m ms e) at h)))

  pub latest_before : (ms ns : List (List ℕ)) → latest test ms ≡ 0 → latest test (ms ++ ns) ≡ latest test ns
  unfolding latest
  latest_before [] ns h = refl
  latest_before (m ∷ ms) ns h = let none = latest_none m ms h in latest_on m (ms ++ ns) none.0 ∙ latest_before ms ns none.1

-- the same search among fewer names, where the first of them has another key
pub other_key : (w n : List ℕ) (ns : List (List ℕ)) → has_key (key_of w) n ≡ false → latest (named w) (n ∷ ns) ≡ latest (named w) ns
other_key w n ns e = latest_on (named w) n ns (key_apart n w e)

-- a name is none of those that do not share its key
pub none_alike : (w : List ℕ) (ns : List (List ℕ)) → latest (has_key (key_of w)) ns ≡ 0 → latest (named w) ns ≡ 0
unfolding latest
none_alike w [] h = refl
none_alike w (n ∷ ns) h = let none = latest_none (has_key (key_of w)) n ns h in other_key w n ns none.0 ∙ none_alike w ns none.1

-- ---- a number that is one of a name, and none

pub numbered_some : (n : ℕ) → 0 < n → Some n ≡ numbered n
numbered_some zero h = absurd (omega arith)
numbered_some (suc n) h = refl

pub some_numbered : (m n : ℕ) → Some m ≡ numbered n → (m ≡ n) × (0 < m)
some_numbered m zero e = absurd (cc)
some_numbered m (suc n) e = let same : m ≡ suc n = cc in (same, omega arith)

pub none_numbered : (n : ℕ) → None ≡ numbered n → n ≡ 0
none_numbered zero e = refl
none_numbered (suc n) e = absurd (cc)

-- ---- a number says whether the name is one of these

pub listed : (w : List ℕ) (ns : List (List ℕ)) → 0 < latest (named w) ns → among ns w ≡ true
unfolding latest
listed w [] h = absurd (omega arith)
listed w (n ∷ ns) h =
    split (named w n) (among_here n w ns) (λ e. among_on n w ns e ∙ listed w ns (rw (latest_on (named w) n ns e) at h))

pub unlisted : (w : List ℕ) (ns : List (List ℕ)) → latest (named w) ns ≡ 0 → among ns w ≡ false
unfolding latest among
unlisted w [] h = refl
unlisted w (n ∷ ns) h = let none = latest_none (named w) n ns h in among_on n w ns none.0 ∙ unlisted w ns none.1

-- in either order
pub among_reverse : (ns : List (List ℕ)) (w : List ℕ) → among (reverse ns) w ≡ among ns w
among_reverse [] w = refl
among_reverse (n ∷ ns) w =
    rw (reverse-cons n ns, among_either (reverse ns) (n ∷ []) w, among_reverse ns w)
    (or_comm (among ns w) (among (n ∷ []) w) ∙ sym (among_either (n ∷ []) ns w))
