-- A time with its braces, and the kind of what stands between them: a law for each way out of the function that finds it. Over plain lists.
-- 001 §18; document 02, Two. Assumes nothing.
use Prim.Native.Nat.{ℕ, suc, ◌+◌, ◌-◌, ◌≤◌, ◌<◌}
use mathlib.Core.Path.{◌≡◌, refl, sym, ap, ◌∙◌}
use mathlib.Core.Bool.{true}
use mathlib.Core.List.{List, [], ◌∷◌, ◌++◌}
use mathlib.Core.Option.{some, none}
use native.Mathlib.Omega.{arith}
use lib.ListN.{length, get_or, take, drop, length-append, drop_of_length-le}
use lib.Seq.{take-append_seam, get_or-append_seam}
use Rattle.paper.specs.Bytes.{byte, same}
use Rattle.paper.specs.Times.{TimeKind, is_of, time_kind}
use Rattle.paper.specs.Values.{temporal, leaf_onto}
use Rattle.paper.proofs.Tests.{split, true_false}
use Rattle.paper.proofs.Lists.{same_is, same_of}
use Rattle.paper.proofs.TimeKinds.{kind_of_lem, by_time_kind}
use Rattle.text.proofs.Places.{parts_at}
use Rattle.times.specs.Numbers.{number_of, TellsTime}

abbrev braced : List ℕ → List ℕ
braced w = byte "{" ∷ (w ++ (byte "}" ∷ []))

-- what stands between the first byte and the last
abbrev inside : List ℕ → List ℕ
inside v = take (length v - 1 - 1) (drop 1 v)

braced_last : (w : List ℕ) → length (braced w) - 1 ≡ suc (length w)
braced_last w = omega (arith, length-append w (byte "}" ∷ []))

braced_inside : (w : List ℕ) → inside (braced w) ≡ w
braced_inside w = let n : length (braced w) - 1 - 1 ≡ length w = omega (arith, braced_last w) in rw n (take-append_seam w (byte "}" ∷ []))

-- ---- what is not in braces is no time

no_braces : (v : List ℕ) → ((w : List ℕ) → v ≡ braced w → ⊥) → TellsTime v 0
unfolding leaf_onto
no_braces v n = record { of_kind_lem = λ k w e f. absurd (n w e); no_time = λ f. refl }

pub too_short : (v : List ℕ) → length v < 2 → TellsTime v 0
too_short v h = no_braces v (λ w e. omega (arith, ap length e, length-append w (byte "}" ∷ [])))

pub unopened : (v : List ℕ) → (get_or v 0 0 ≡ byte "{" → ⊥) → TellsTime v 0
unopened v n = no_braces v (λ w e. n (rw e refl))

pub unclosed : (v : List ℕ) → (get_or v (length v - 1) 0 ≡ byte "}" → ⊥) → TellsTime v 0
unclosed v n = no_braces v (λ w e. n (rw (e, braced_last w) (get_or-append_seam w (byte "}") [] 0)))

-- ---- in braces it has the kind of what is inside

last_of : (w : List ℕ) (n b : ℕ) → length w ≡ n + 1 → get_or w n 0 ≡ b → w ≡ take n w ++ (b ∷ [])
last_of w n b h e = parts_at w n (omega arith) ∙ rw (e, drop_of_length-le w {i = n + 1} (omega arith))

in_braces : (v : List ℕ) → 2 ≤ length v → get_or v 0 0 ≡ byte "{" → get_or v (length v - 1) 0 ≡ byte "}" → v ≡ braced (inside v)
in_braces [] h first last = absurd (omega arith)
in_braces (b ∷ v) h first last =
    let at_last : suc (length v) - 1 ≡ suc (suc (length v) - 1 - 1) = omega (arith, h) in
    rw first (ap (λ (x : List ℕ). byte "{" ∷ x) (last_of v (suc (length v) - 1 - 1) (byte "}") (omega (arith, h)) (rw at_last at last)))

-- a time is of the kind that what is inside is of
kind_inside : (v : List ℕ) (k : TimeKind) (w : List ℕ) → v ≡ leaf_onto (temporal k w) [] → is_of k w ≡ true → time_kind (inside v) ≡ some k
unfolding leaf_onto
kind_inside v k w e f = ap (λ (x : List ℕ). time_kind (inside x)) e ∙ ap time_kind (braced_inside w) ∙ kind_of_lem k w f

pub told_inside : (v : List ℕ) → 2 ≤ length v → get_or v 0 0 ≡ byte "{" → get_or v (length v - 1) 0 ≡ byte "}" → (r : ℕ) → r ≡ number_of (time_kind (inside v))
    → TellsTime v r
unfolding leaf_onto
told_inside v h first last r q =
    record {
      of_kind_lem = λ k w e f. q ∙ ap number_of (kind_inside v k w e f);
      no_time = λ n. q ∙ by_time_kind (inside v) (λ k f t. absurd (n k (inside v) (in_braces v h first last) f)) (λ t. ap number_of t);
    }

-- ---- any bytes are a time or none, so that one number is told

some_none : {X : Type 0} {k : TimeKind} → some k ≡ none → X
some_none e = let z : ◌≡◌ {A = ℕ} 0 1 = cc in absurd (omega arith)

by_time : {X : Type 0} (v : List ℕ) → ((k : TimeKind) (w : List ℕ) → v ≡ leaf_onto (temporal k w) [] → is_of k w ≡ true → X)
    → (((k : TimeKind) (w : List ℕ) → v ≡ leaf_onto (temporal k w) [] → is_of k w ≡ true → ⊥) → X) → X
unfolding leaf_onto
by_time v on off =
    split (same v (braced (inside v)))
    (λ e. by_time_kind (inside v) (λ k f t. on k (inside v) (same_is v (braced (inside v)) e) f)
    (λ t. off (λ k w q f. some_none (sym (kind_inside v k w q f) ∙ t))))
    (λ e. off (λ k w q f. true_false (sym (same_of (braced w)) ∙ ap (λ (x : List ℕ). same (braced w) (braced x)) (sym (braced_inside w))
    ∙ ap (λ (x : List ℕ). same x (braced (inside x))) (sym q) ∙ e)))

pub one_number : (v : List ℕ) (r r' : ℕ) → TellsTime v r → TellsTime v r' → r ≡ r'
one_number v r r' p q = by_time v (λ k w e f. p.of_kind_lem k w e f ∙ sym (q.of_kind_lem k w e f)) (λ n. p.no_time n ∙ sym (q.no_time n))
