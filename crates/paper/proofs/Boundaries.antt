-- The sheets of a roll: each begins at a boundary and holds no other one; a piece that lost its tail is still a piece. Assumes nothing.
-- Document 01, "Rolls": "A sheet runs from one boundary to the next, or to the end".
use Prim.Native.Nat.{ℕ, zero, suc, ◌≤◌}
use mathlib.Core.Path.{◌≡◌, refl, sym, ap, ◌∙◌}
use mathlib.Core.Bool.{Bool, true, false, ◌&&◌}
use mathlib.Core.List.{List, [], ◌∷◌, ◌++◌}
use native.Mathlib.Omega.{arith}
use lib.ListN.{length, take}
use Rattle.paper.specs.Bytes.{byte, bytes, is_upper, starts_in, starts_with, lf}
use Rattle.paper.specs.Roll.{is_boundary, ends_line, Parts, parts, in_front, parts_from, parts_of, together}
use Rattle.paper.proofs.Tests.{split, true_false}
use Rattle.paper.proofs.Lists.{both, starts_is}
use Rattle.paper.proofs.Rolls.{whole, nothing_lost, after_end, Piece}

-- no line of it begins a sheet
abbrev pub Still : Bool → List ℕ → Type 0
Still fresh l = parts_from fresh l ≡ parts l []

-- it begins a sheet, and no other line of it does
abbrev pub Single : List ℕ → Type 0
Single p = parts_of p ≡ parts [] (p ∷ [])

pub data Singles : List (List ℕ) → Type 0 where
  over : Singles []
  single : {p : List ℕ} {ps : List (List ℕ)} → Single p → Singles ps → Singles (p ∷ ps)

-- ---- what a byte in front says of the parts behind it

behind_first : (test : Bool) (b : ℕ) (l : List ℕ) (q : Parts) → in_front test b q ≡ parts [] ((b ∷ l) ∷ []) → (test ≡ true) × (q ≡ parts l [])
behind_first true b l (parts lead sheets) e = (refl, cc)
behind_first false b l (parts lead sheets) e = let z : length (b ∷ lead) ≡ 0 = cc in absurd (omega arith)

behind_still : (test : Bool) (b : ℕ) (l : List ℕ) (q : Parts) → in_front test b q ≡ parts (b ∷ l) [] → (test ≡ false) × (q ≡ parts l [])
behind_still true b l (parts lead sheets) e = let z : 0 ≡ length (b ∷ l) = cc in absurd (omega arith)
behind_still false b l (parts lead sheets) e = (refl, cc)

-- a boundary shows in its first two bytes
two_bytes : (b c : ℕ) (l m : List ℕ) → is_boundary (b ∷ c ∷ l) ≡ is_boundary (b ∷ c ∷ m)
unfolding is_boundary starts_with starts_in
two_bytes b c l m = refl

no_second : (b : ℕ) → is_boundary (b ∷ []) ≡ false
unfolding is_boundary starts_in
no_second b = split (starts_with (byte "<" ∷ []) (b ∷ [])) (λ e. rw e) (λ e. rw e)

-- ---- every sheet of a roll is single, and nothing before the first one is a boundary

-- how many sheets there are
abbrev sheets_in : Parts → ℕ
sheets_in (parts lead sheets) = length sheets

-- a single piece starts with "<", which is no upper case letter
single_first : (p next : List ℕ) → Single p → starts_in is_upper (p ++ next) ≡ false
unfolding parts_from is_boundary starts_with starts_in is_upper
single_first [] next e = let z : ◌≡◌ {A = ℕ} 0 1 = ap sheets_in e in absurd (omega arith)
single_first (b ∷ p) next e =
    let h = behind_first (is_boundary (b ∷ p)) b p (parts_from (ends_line b) p) e in
    let k : b ∷ p ≡ byte "<" ∷ p = starts_is (bytes "<") (b ∷ p) (both (starts_with (bytes "<") (b ∷ p)) (starts_in is_upper p) h.0).0 in
    let q : b ≡ byte "<" = cc in
    rw q refl

not_upper : (ps : List (List ℕ)) → Singles ps → starts_in is_upper (together ps) ≡ false
unfolding together starts_in
not_upper [] over = refl
not_upper (p ∷ ps) (single h hs) = single_first p (together ps) h

-- a byte's boundary shows in its own sheet, where only sheets stand behind this one
own_boundary : (b : ℕ) (lead : List ℕ) (ps : List (List ℕ)) → Singles ps → is_boundary (b ∷ (lead ++ together ps)) ≡ is_boundary (b ∷ lead)
unfolding is_boundary starts_with starts_in
own_boundary b [] ps hs = rw (not_upper ps hs) refl
own_boundary b (c ∷ lead) ps hs = refl

abbrev pub AllSingle : Bool → Parts → Type 0
AllSingle fresh (parts lead sheets) = Still fresh lead × Singles sheets

one_byte : (fresh : Bool) (b : ℕ) (l : List ℕ) (q : Parts) → whole q ≡ l → AllSingle (ends_line b) q → AllSingle fresh (in_front (fresh && is_boundary (b ∷ l)) b q)
unfolding parts_from
one_byte fresh b l (parts lead sheets) w h =
    let k : is_boundary (b ∷ l) ≡ is_boundary (b ∷ lead) = ap (λ (m : List ℕ). is_boundary (b ∷ m)) (sym w) ∙ own_boundary b lead sheets h.1 in
    rw k
    (split (fresh && is_boundary (b ∷ lead))
    (λ e. rw e (refl, single {p = b ∷ lead} (rw ((both fresh (is_boundary (b ∷ lead)) e).1, h.0) refl) h.1))
    (λ e. rw e (rw (e, h.0) refl, h.1)))

pub parts_single : (fresh : Bool) (r : List ℕ) → AllSingle fresh (parts_from fresh r)
unfolding parts_from
parts_single fresh [] = (refl, over)
parts_single fresh (b ∷ l) = one_byte fresh b l (parts_from (ends_line b) l) (nothing_lost (ends_line b) l) (parts_single (ends_line b) l)

-- ---- a piece that lost its tail, its line end kept

-- what a beginning of l and an LF begin with begins a sheet only where l does
cut_boundary : (b : ℕ) (k : ℕ) (l : List ℕ) → is_boundary (b ∷ l) ≡ false → is_boundary (b ∷ (take k l ++ (lf ∷ []))) ≡ false
unfolding is_boundary starts_with starts_in is_upper
cut_boundary b zero l e = split (starts_with (bytes "<") (b ∷ lf ∷ [])) (λ f. rw f refl) (λ f. rw f refl)
cut_boundary b (suc k) [] e = e
cut_boundary b (suc k) (c ∷ l) e = e

line_still : (fresh : Bool) → Still fresh (lf ∷ [])
unfolding parts_from is_boundary starts_with
line_still true = refl
line_still false = refl

cut_still : (fresh : Bool) (k : ℕ) (l : List ℕ) → Still fresh l → Still fresh (take k l ++ (lf ∷ []))
unfolding parts_from
cut_still fresh zero l e = line_still fresh
cut_still fresh (suc k) [] e = line_still fresh
cut_still fresh (suc k) (b ∷ l) e =
    let h = behind_still (fresh && is_boundary (b ∷ l)) b l (parts_from (ends_line b) l) e in
    rw (no_boundary fresh h.0, cut_still (ends_line b) k l h.1) refl
  where
    no_boundary : (fresh : Bool) → fresh && is_boundary (b ∷ l) ≡ false → fresh && is_boundary (b ∷ (take k l ++ (lf ∷ []))) ≡ false
    no_boundary true f = cut_boundary b k l f
    no_boundary false f = refl

pub cut_piece : (p : List ℕ) (k : ℕ) → Single p → 2 ≤ k → Piece (take k p ++ (lf ∷ []))
unfolding parts_from is_boundary starts_with starts_in
cut_piece [] k e l = let z : ◌≡◌ {A = ℕ} 0 1 = ap sheets_in e in absurd (omega arith)
cut_piece (b ∷ []) k e l =
    let h = behind_first (is_boundary (b ∷ [])) b [] (parts [] []) e in true_false (sym h.0 ∙ no_second b)
cut_piece (b ∷ c ∷ p) zero e l = absurd (omega arith)
cut_piece (b ∷ c ∷ p) (suc zero) e l = absurd (omega arith)
cut_piece (b ∷ c ∷ p) (suc (suc k)) e l =
    let h = behind_first (is_boundary (b ∷ c ∷ p)) b (c ∷ p) (parts_from (ends_line b) (c ∷ p)) e in
    record {
      alone = rw (two_bytes b c (take k p ++ (lf ∷ [])) p ∙ h.0, cut_still (ends_line b) (suc k) (c ∷ p) h.1) refl;
      closed = after_end true (b ∷ c ∷ take k p);
    }
