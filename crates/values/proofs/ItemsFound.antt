-- Brackets that were found: an item with its label and what stands behind it, and the first of their entries that has no room.
-- Over plain lists. Assumes nothing.
use Prim.Native.Nat.{ℕ, zero, suc, ◌-◌, ◌≤◌, ◌<◌}
use mathlib.Core.Path.{◌≡◌, refl, sym, ap, ◌∙◌}
use mathlib.Core.Bool.{false}
use mathlib.Core.List.{List, [], ◌∷◌, ◌++◌}
use native.Mathlib.Omega.{arith}
use lib.ListN.{length}
use lib.Dec.{eqb}
use borrow.Author.Tests.{eqb-true}
use Rattle.paper.specs.declared.brackets.Bracket.{Bracket}
use Rattle.paper.specs.Found.{Found, found, fault, and_then}
use Rattle.paper.specs.Bytes.{byte, bytes, starts_with}
use Rattle.paper.specs.Values.{closer, enders, Label, Value, bracket, More, close}
use Rattle.paper.specs.ReadingValues.{label_of, value_of, more_of, item_and}
use Rattle.paper.specs.Entries.{Entry}
use Rattle.paper.proofs.Tests.{split, true_false}
use Rattle.paper.proofs.ReadValues.{more_of_end, more_of_close, more_of_other}
use Rattle.values.specs.Entering.{first_over}

-- ---- parts

-- an item, what stands behind it, and what is made of both
abbrev pub with_more : {A : Type 0} → Bracket → ℕ → (Value → More → A) → Found Value → Found A
with_more k brackets make x = and_then x (λ v mid. and_then (more_of k brackets mid) (λ more end. found (make v more) end))

-- an item with its label, and what stands behind it
pub record Parts (k : Bracket) (brackets : ℕ) (l : List ℕ) (a : Label) (v : Value) (more : More) (left : List ℕ) : Type 0 where
  pub valued : List ℕ
  pub mid : List ℕ
  pub labelled : label_of k l ≡ found a valued
  pub item : value_of brackets (enders k) valued ≡ found v mid
  pub behind : more_of k brackets mid ≡ found more left

-- the same, of which something was made
pub record MadeOf {A : Type 0} (k : Bracket) (brackets : ℕ) (make : Label → Value → More → A) (l : List ℕ) (it : A) (left : List ℕ) : Type 0 where
  pub before : Label
  pub first : Value
  pub rest : More
  pub made : it ≡ make before first rest
  pub parts : Parts k brackets l before first rest left

module _ (k : Bracket) (brackets : ℕ) (l : List ℕ) where
  module _ {A : Type 0} (make : Label → Value → More → A) where
    pub made_of : (it : A) (left : List ℕ) → item_and k brackets make l ≡ found it left → MadeOf k brackets make l it left
    made_of it left = labels (label_of k l) refl
      where
        mores : (a : Label) (valued : List ℕ) → label_of k l ≡ found a valued → (v : Value) (mid : List ℕ) → value_of brackets (enders k) valued ≡ found v mid
            → (z : Found More) → more_of k brackets mid ≡ z → and_then z (λ more end. found (make a v more) end) ≡ found it left → MadeOf k brackets make l it left
        mores a valued p v mid q (found more end) b e =
            let n : end ≡ left = cc in
            let m : make a v more ≡ it = cc in
            record {
              before = a;
              first = v;
              rest = more;
              made = sym m;
              parts = record { valued = valued; mid = mid; labelled = p; item = q; behind = b ∙ ap (found more) n };
            }
        mores a valued p v mid q (fault n end) b e = absurd (cc)

        values : (a : Label) (valued : List ℕ) → label_of k l ≡ found a valued → (y : Found Value) → value_of brackets (enders k) valued ≡ y
            → with_more k brackets (make a) y ≡ found it left → MadeOf k brackets make l it left
        values a valued p (found v mid) q e = mores a valued p v mid q (more_of k brackets mid) refl e
        values a valued p (fault n mid) q e = absurd (cc)

        labels : (x : Found Label) → label_of k l ≡ x → and_then x (λ a valued. with_more k brackets (make a) (value_of brackets (enders k) valued)) ≡ found it left
            → MadeOf k brackets make l it left
        labels (found a valued) p e = values a valued p (value_of brackets (enders k) valued) refl e
        labels (fault n valued) p e = absurd (cc)

    pub together : (a : Label) (v : Value) (more : More) (left : List ℕ) → Parts k brackets l a v more left → item_and k brackets make l ≡ found (make a v more) left
    together a v more left p = rw (p.labelled, p.item, p.behind)

  -- a bracket that was found has these parts
  pub bracket_parts : (a : Label) (v : Value) (more : More) (left : List ℕ) → item_and k brackets (bracket k) l ≡ found (bracket k a v more) left
      → Parts k brackets l a v more left
  bracket_parts a v more left e = go (made_of (bracket k) (bracket k a v more) left e)
    where
      go : MadeOf k brackets (bracket k) l (bracket k a v more) left → Parts k brackets l a v more left
      go h =
          let q = h.made in
          let x : h.before ≡ a = cc in
          let y : h.first ≡ v = cc in
          let z : h.rest ≡ more = cc in
          let p = h.parts in
          record {
            valued = p.valued;
            mid = p.mid;
            labelled = p.labelled ∙ ap (λ (b : Label). found b p.valued) x;
            item = p.item ∙ ap (λ (w : Value). found w p.mid) y;
            behind = p.behind ∙ ap (λ (m : More). found m left) z;
          }

-- where no comma stands behind an item, what closes the bracket does
pub closed : (k : Bracket) (brackets : ℕ) (l : List ℕ) (more : More) (left : List ℕ) → starts_with (bytes ",") l ≡ false → more_of k brackets l ≡ found more left
    → (more ≡ close) × (l ≡ closer k ∷ left)
unfolding starts_with
closed k brackets [] more left c e =
    let f : fault 9 [] ≡ found more left = sym (more_of_end k brackets) ∙ e in
    absurd (cc)
closed k brackets (b ∷ l) more left c e =
    split (eqb b (closer k))
    (λ h. let q = eqb-true b (closer k) h in
    let f : found close l ≡ found more left = sym (more_of_close k brackets l) ∙ ap (λ (a : ℕ). more_of k brackets (a ∷ l)) (sym q) ∙ e in
    let m : close ≡ more = cc in
    let n : l ≡ left = cc in
    (sym m, rw (q, n)))
    (λ h. split (eqb b (byte ","))
    (λ q. true_false (rw (q, starts_with) at c))
    (λ q. let f : fault 6 (b ∷ l) ≡ found more left = sym (more_of_other k brackets b l h q) ∙ e in
    absurd (cc)))

-- ---- the first entry that has no room

pub first_in : (es fs : List Entry) (room : ℕ) → room < length es → first_over room (es ++ fs) ≡ first_over room es
first_in [] fs room h = absurd (omega arith)
first_in (e ∷ es) fs zero h = refl
first_in (e ∷ es) fs (suc room) h = first_in es fs room (omega arith)

pub first_past : (es fs : List Entry) (room : ℕ) → length es ≤ room → first_over room (es ++ fs) ≡ first_over (room - length es) fs
first_past [] fs room h = let n : room - 0 ≡ room = omega arith in rw n
first_past (e ∷ es) fs zero h = absurd (omega arith)
first_past (e ∷ es) fs (suc room) h =
    let n : suc room - suc (length es) ≡ room - length es = omega arith in
    first_past es fs room (omega arith) ∙ ap (λ (k : ℕ). first_over k fs) (sym n)
