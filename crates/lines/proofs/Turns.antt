-- Something made of what is found behind entries that are laid; and a loop over a run of things: what one turn does to the answer of the whole run.
-- Over plain lists and any turn. Assumes nothing.
use Prim.Native.Nat.{ℕ, suc, ◌+◌, ◌≤◌}
use mathlib.Core.Path.{◌≡◌, refl, sym, ap, ◌∙◌}
use mathlib.Core.List.{List, [], ◌∷◌, ◌++◌}
use native.Mathlib.Omega.{arith}
use lib.ListN.{length, drop}
use Rattle.std.specs.Prelude.{Result, Ok, Err}
use Rattle.paper.specs.declared.Refused.{Refused}
use Rattle.paper.specs.Found.{Found, found, fault, and_then, Turn, more, over, stop, go_on, run_of}
use Rattle.paper.specs.Entries.{Entry}
use Rattle.paper.proofs.Runs.{Shorter, many_turn}
use Rattle.entries.specs.Laid.{lay}
use Rattle.entries.proofs.Laying.{lay_none, lay_append}
use Rattle.lines.specs.Parts.{seen, seen_of, Makes}
use Rattle.lines.specs.declared.part.Part.{Part}
use Rattle.lines.proofs.Crossing.{seen_map, passed_on, makes_passed, makes_read}

-- what is made of what is found, where some of its entries are laid before
pub makes_behind :
    {A B : Type 0} (make : A → B) (size own : B → ℕ) (of : B → List Entry) (others : A → List Entry) (first : List Entry) (s cells mid : List ℕ) (n : ℕ)
    (x : Found A) (y : Found B) (r : Result Part Refused) (after : List ℕ)
    → y ≡ and_then x (λ a left. found (make a) left) → ((a : A) → of (make a) ≡ first ++ others a) → mid ≡ lay cells n first
    → Makes (λ a. size (make a)) (λ a. own (make a)) others s mid (n + length first) x r after → Makes size own of s cells n y r after
makes_behind {A} {B} make size own of others first s cells mid n x y r after e o l k =
    record { says = k.says ∙ sym (ap (seen_of size own s) e ∙ seen_map size own s make x); laid = λ b left f. go x refl b left (sym e ∙ f) }
  where
    go : (z : Found A) → x ≡ z → (b : B) (left : List ℕ) → and_then z (λ a end. found (make a) end) ≡ found b left → after ≡ lay cells n (of b)
    go (found a end) p b left f =
        let q : make a ≡ b = cc in
        k.laid a end p
        ∙ ap (λ (c : List ℕ). lay c (n + length first) (others a)) l
        ∙ lay_append cells n first (others a)
        ∙ ap (lay cells n) (sym (o a) ∙ ap of q)
    go (fault j end) p b left f = let no : ◌≡◌ {A = ℕ} 0 1 = cc in absurd (omega arith)

-- so_far is what the things before leave, and with one thing more it is `with so_far thing`
module _ {A B : Type 0} (with : B → A → B) (turn : B → List ℕ → Turn A) (shorter : (so_far : B) (s : List ℕ) → Shorter s (turn so_far s)) (so_far : B) (l : List ℕ) where
  by_turn : run_of with turn so_far l ≡ go_on (λ a left. run_of with turn (with so_far a) left) (turn so_far l)
  by_turn = many_turn with turn shorter (suc (length l)) so_far l (omega arith)

  -- one thing more
  pub turn_more : (f g : List A → ℕ) (s : List ℕ) (a : A) (mid : List ℕ) → turn so_far l ≡ more a mid
      → seen_of (λ things. f (a ∷ things)) (λ things. g (a ∷ things)) s (run_of with turn (with so_far a) mid) ≡ seen_of f g s (run_of with turn so_far l)
  turn_more f g s a mid e = sym (rw (by_turn, e) (seen_map f g s (λ things. a ∷ things) (run_of with turn (with so_far a) mid)))

  -- the run is over
  pub turn_over : (left : List ℕ) → turn so_far l ≡ over left → run_of with turn so_far l ≡ found [] left
  turn_over left e = rw (by_turn, e)

  -- a part of the turn is refused, and the whole run with it
  pub turn_refused : {C : Type 0} (many mine : C → ℕ) (s : List ℕ) (outer : Found C → Turn A) → ((n : ℕ) (left : List ℕ) → outer (fault n left) ≡ stop n left)
      → (f g : List A → ℕ) (x : Found C) (r : Result Part Refused) (e : Refused) → seen (Err e) ≡ seen_of many mine s x → r ≡ Err e → turn so_far l ≡ outer x
      → seen r ≡ seen_of f g s (run_of with turn so_far l)
  turn_refused many mine s outer keeps f g x r e k q t =
      rw (by_turn, t)
      (passed_on many mine s r f g (λ y. go_on (λ a left. run_of with turn (with so_far a) left) (outer y))
      (λ n left. ap (go_on (λ a left. run_of with turn (with so_far a) left)) (keeps n left)) x e k q)

  -- ---- the same with entries

  pub makes_over : (f g : List A → ℕ) (of : List A → List Entry) (s cells : List ℕ) (n : ℕ) (r : Result Part Refused) (p : Part)
      → turn so_far l ≡ over (drop p.end s) → r ≡ Ok p → p.end ≤ length s → p.made ≡ f [] → p.own ≡ g [] → of [] ≡ []
      → Makes f g of s cells n (run_of with turn so_far l) r cells
  makes_over f g of s cells n r p t e h m o z =
      makes_read f g of s cells n (run_of with turn so_far l) r cells [] p e h (turn_over (drop p.end s) t) m o
      (sym (lay_none cells n) ∙ ap (lay cells n) (sym z))

  pub makes_stop : {C : Type 0} (many mine : C → ℕ) (outer : Found C → Turn A) → ((n : ℕ) (left : List ℕ) → outer (fault n left) ≡ stop n left)
      → (f g : List A → ℕ) (of : List A → List Entry) (s cells : List ℕ) (n : ℕ) (x : Found C) (r : Result Part Refused) (after : List ℕ) (e : Refused)
      → seen (Err e) ≡ seen_of many mine s x → r ≡ Err e → turn so_far l ≡ outer x → Makes f g of s cells n (run_of with turn so_far l) r after
  makes_stop many mine outer keeps f g of s cells n x r after e k q t =
      let rest : A → List ℕ → Found (List A) = λ a left. run_of with turn (with so_far a) left in
      makes_passed f g of s cells n (run_of with turn so_far l) r after many mine (λ y. go_on rest (outer y)) (λ n left. ap (go_on rest) (keeps n left)) x e k q
      (by_turn ∙ ap (go_on rest) t)

  -- the first thing's entries are laid, and the rest of the run goes on behind them
  pub makes_more :
      (f g : List A → ℕ) (of others : List A → List Entry) (first : List Entry) (s cells mid : List ℕ) (n : ℕ) (a : A) (left : List ℕ) (r : Result Part Refused)
      (after : List ℕ)
      → turn so_far l ≡ more a left → ((things : List A) → of (a ∷ things) ≡ first ++ others things) → mid ≡ lay cells n first
      → Makes (λ things. f (a ∷ things)) (λ things. g (a ∷ things)) others s mid (n + length first) (run_of with turn (with so_far a) left) r after
      → Makes f g of s cells n (run_of with turn so_far l) r after
  makes_more f g of others first s cells mid n a left r after t o m k =
      makes_behind (λ things. a ∷ things) f g of others first s cells mid n (run_of with turn (with so_far a) left) (run_of with turn so_far l) r after
      (by_turn ∙ rw t) o m k
