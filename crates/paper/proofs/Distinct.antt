-- A name among others, and names that are all distinct: one more of them, and one that stands behind others. Assumes nothing.
-- Document 01, "The mode table", and document 02, Six.
use mathlib.Core.Path.{◌≡◌, refl, sym, ap, ◌∙◌}
use mathlib.Core.Bool.{true, false, not, ◌||◌}
use mathlib.Core.List.{List, [], ◌∷◌, ◌++◌}
use Prim.Native.Nat.{ℕ}
use borrow.Author.Tests.{not-true}
use Rattle.paper.specs.Bytes.{same}
use Rattle.paper.specs.Names.{among, distinct}
use Rattle.paper.proofs.Tests.{split, true_false}
use Rattle.paper.proofs.Lists.{both, and, is_not, same_is, same_of}

-- ---- a name among others

pub among_here : (v w : List ℕ) (ns : List (List ℕ)) → same v w ≡ true → among (v ∷ ns) w ≡ true
unfolding among
among_here v w ns e = rw (e, among)

pub among_on : (v w : List ℕ) (ns : List (List ℕ)) → same v w ≡ false → among (v ∷ ns) w ≡ among ns w
unfolding among
among_on v w ns e = rw (e, among)

pub among_either : (ms ns : List (List ℕ)) (w : List ℕ) → among (ms ++ ns) w ≡ (among ms w || among ns w)
unfolding among
among_either [] ns w = refl
among_either (m ∷ ms) ns w =
    split (same m w) (λ e. rw (among_here m w (ms ++ ns) e, among_here m w ms e))
    (λ e. rw (among_on m w (ms ++ ns) e, among_on m w ms e) (among_either ms ns w))

-- ---- names that are all distinct

-- two names are the same either way round
same_turned : (v w : List ℕ) → same v w ≡ false → same w v ≡ false
same_turned v w e = split (same w v) (λ f. true_false (sym (ap (same v) (same_is w v f) ∙ same_of v) ∙ e)) (λ f. f)

-- a name that is none of these and not the next one is none of both
among_more : (ns : List (List ℕ)) (w v : List ℕ) → among ns v ≡ false → same w v ≡ false → among (ns ++ (w ∷ [])) v ≡ false
unfolding among
among_more [] w v e f = rw (f, among)
among_more (n ∷ ns) w v e f = split (same n v) (λ g. true_false (rw (g, among) at e)) (λ g. rw (g, among) (among_more ns w v (rw (g, among) at e) f))

-- one that is none of these is none of some of them
among_less : (ns : List (List ℕ)) (w : List ℕ) (others : List (List ℕ)) (v : List ℕ) → among (ns ++ (w ∷ others)) v ≡ false → same w v ≡ false
unfolding among
among_less [] w others v e = split (same w v) (λ g. true_false (rw (g, among) at e)) (λ g. g)
among_less (n ∷ ns) w others v e = split (same n v) (λ g. true_false (rw (g, among) at e)) (λ g. among_less ns w others v (rw (g, among) at e))

-- one more that is none of these; and one that stands behind these
pub distinct_more : (ns : List (List ℕ)) (w : List ℕ) → distinct ns ≡ true → among ns w ≡ false → distinct (ns ++ (w ∷ [])) ≡ true
unfolding distinct among
distinct_more [] w d e = refl
distinct_more (n ∷ ns) w d e =
    let h = both (not (among ns n)) (distinct ns) d in
    split (same n w) (λ g. true_false (rw (g, among) at e))
    (λ g. and (is_not (among_more ns w n (not-true (among ns n) h.0) (same_turned n w g))) (distinct_more ns w h.1 (rw (g, among) at e)))

pub distinct_apart : (ns : List (List ℕ)) (w : List ℕ) (others : List (List ℕ)) → distinct (ns ++ (w ∷ others)) ≡ true → among ns w ≡ false
unfolding distinct among
distinct_apart [] w others d = refl
distinct_apart (n ∷ ns) w others d =
    let h = both (not (among (ns ++ (w ∷ others)) n)) (distinct (ns ++ (w ∷ others))) d in
    rw (same_turned w n (among_less ns w others n (not-true _ h.0)), among) (distinct_apart ns w others h.1)
