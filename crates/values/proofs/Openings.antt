-- Brackets that open at a place or close there: a law for each way out of the tests. Over plain lists. Assumes nothing.
-- Document 01, "The grammar", Values; document 02, Five.
use Prim.Native.Nat.{ℕ, ◌+◌, ◌≤◌, ◌<◌}
use mathlib.Core.Path.{◌≡◌, sym, ap, ◌∙◌}
use mathlib.Core.Bool.{true, false}
use mathlib.Core.List.{List, [], ◌∷◌}
use lib.ListN.{length, get_or, drop, drop_of_length-le}
use lib.Dec.{eqb}
use borrow.Author.Tests.{eqb-true, eq-eqb}
use Rattle.std.specs.Prelude.{None, Some}
use Rattle.paper.specs.declared.brackets.Bracket.{Bracket}
use Rattle.paper.specs.Bytes.{byte, bytes, starts_in, starts_with}
use Rattle.paper.specs.Values.{opener}
use Rattle.paper.specs.ReadingValues.{opens_with, inside}
use Rattle.paper.proofs.Tests.{split}
use Rattle.paper.proofs.Lists.{starts_is}
use Rattle.paper.proofs.BracketKinds.{opening_of_lem}
use Rattle.text.proofs.Places.{here}
use Rattle.values.specs.Brackets.{opening_of}
use Rattle.leaves.proofs.Runs.{starts_one}

module _ (s : List ℕ) (at : ℕ) where
  -- the bytes that open a kind stand there
  pub opens_kind : (k : Bracket) → starts_with (opener k) (drop at s) ≡ true → Some k ≡ opening_of (opens_with (drop at s))
  opens_kind k e = ap opening_of (sym (ap opens_with (starts_is (opener k) (drop at s) e) ∙ opening_of_lem k (inside k (drop at s))))

  -- nothing opens at the end
  pub opens_end : length s ≤ at → None ≡ opening_of (opens_with (drop at s))
  unfolding opens_with starts_with
  opens_end h = rw (drop_of_length-le s h)

  module _ (h : at < length s) where
    -- one byte that opens or closes
    pub starts_here : (c : ℕ) → eqb (get_or s at 0) c ≡ starts_with (c ∷ []) (drop at s)
    unfolding starts_in
    starts_here c = rw (here s at h) (sym (starts_one c (get_or s at 0 ∷ drop (at + 1) s)))

    pub opens_one : (k : Bracket) (c : ℕ) → opener k ≡ c ∷ [] → get_or s at 0 ≡ c → Some k ≡ opening_of (opens_with (drop at s))
    opens_one k c o e = opens_kind k (rw o (sym (starts_here c) ∙ eq-eqb (get_or s at 0) c e))

    -- fixed bytes stand only where their first one does
    starts_off : (c : ℕ) (p : List ℕ) → (get_or s at 0 ≡ c → starts_with (c ∷ p) (drop at s) ≡ false) → starts_with (c ∷ p) (drop at s) ≡ false
    unfolding starts_with
    starts_off c p off = split (eqb (get_or s at 0) c) (λ e. off (eqb-true (get_or s at 0) c e)) (λ e. rw (here s at h, starts_with, e))

    pub opens_none : (get_or s at 0 ≡ byte "[" → ⊥) → (get_or s at 0 ≡ byte "(" → ⊥) → (get_or s at 0 ≡ byte "s" → starts_with (bytes "set[") (drop at s) ≡ false)
        → (get_or s at 0 ≡ byte "m" → starts_with (bytes "map[") (drop at s) ≡ false) → None ≡ opening_of (opens_with (drop at s))
    unfolding opens_with
    opens_none l t e m =
        rw (
          starts_off (byte "[") [] (λ q. absurd (l q)),
          starts_off (byte "s") (bytes "et[") e,
          starts_off (byte "m") (bytes "ap[") m,
          starts_off (byte "(") [] (λ q. absurd (t q)),
        )
