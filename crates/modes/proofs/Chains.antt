-- The cells of an index: the names of one key as a chain, each step of a search along it, and one name more.
-- Over plain lists. Assumes nothing.
use Prim.Native.Nat.{ℕ, suc, ◌+◌, ◌-◌, ◌≤◌, ◌<◌}
use mathlib.Core.Path.{◌≡◌, refl, sym, ◌∙◌}
use mathlib.Core.Bool.{Bool, true, false}
use mathlib.Core.List.{List, [], ◌∷◌}
use native.Mathlib.Nat.{add-sub_cancel_left}
use native.Mathlib.Omega.{arith}
use lib.ListN.{length, get_or, take, drop, set, length-set, replicate, length-replicate, get_or-replicate}
use lib.Seq.{get_or-set_same, get_or-set_other}
use borrow.Author.Tests.{eqb-true, eqb-false}
use Rattle.paper.specs.Bytes.{same}
use Rattle.paper.proofs.Tests.{split}
use Rattle.modes.specs.Index.{key_count, name_count, key_of, latest, has_key, named, earlier_at, place_at, Stands, Link, Linked, cell_count, Lists, Empty, added}
use Rattle.modes.proofs.Numbers.{key_few, latest_here, latest_on, latest_few, none_alike, other_key}

-- ---- a search along the chain of a name's key

-- the search has come to a number: it is that of the latest of some names which has the key, and looking through these finds what looking through all finds
pub record Chained (t x w : List ℕ) (all : List (List ℕ)) (number : ℕ) : Type 0 where
  pub names : List (List ℕ)
  pub linked : Linked t x names
  pub is : number ≡ latest (has_key (key_of w)) names
  pub same : latest (named w) names ≡ latest (named w) all
  pub few : length names ≤ name_count

-- the number is a name's
pub record Turn (t x w : List ℕ) (all : List (List ℕ)) (number : ℕ) : Type 0 where
  pub name : List ℕ
  pub before : List (List ℕ)
  pub link : Link t x name before
  pub linked : Linked t x before
  pub is : number ≡ suc (length before)
  pub key : key_of name ≡ key_of w
  pub same : latest (named w) (name ∷ before) ≡ latest (named w) all
  pub few : suc (length before) ≤ name_count

module _ (t x w : List ℕ) (all : List (List ℕ)) where
  pub chain_begins : Lists t x all → Chained t x w all (get_or x (key_of w) 0)
  chain_begins l = record { names = all; linked = l.linked; is = l.heads (key_of w) (key_few w); same = refl; few = l.few }

  module _ (number : ℕ) (h : Chained t x w all number) where
    pub chain_few : number ≤ name_count
    chain_few = omega (arith, h.is, h.few, latest_few (has_key (key_of w)) h.names)

    pub chain_ends : number ≤ 0 → 0 ≡ latest (named w) all
    chain_ends z =
        let none : latest (has_key (key_of w)) h.names ≡ 0 = omega (arith, h.is) in
        sym (none_alike w h.names none) ∙ h.same

    pub turn : 0 < number → Turn t x w all number
    unfolding latest
    turn p = go h.names h.linked h.is h.same h.few
      where
        go : (ns : List (List ℕ)) → Linked t x ns → number ≡ latest (has_key (key_of w)) ns → latest (named w) ns ≡ latest (named w) all
            → length ns ≤ name_count → Turn t x w all number
        go [] l i s f = absurd (omega arith)
        go (n ∷ ns) l i s f =
            split (has_key (key_of w) n)
            (λ e. record {
              name = n;
              before = ns;
              link = l.0;
              linked = l.1;
              is = i ∙ latest_here (has_key (key_of w)) n ns e;
              key = eqb-true (key_of n) (key_of w) e;
              same = s;
              few = f;
            })
            (λ e. go ns l.1 (i ∙ latest_on (has_key (key_of w)) n ns e) (sym (other_key w n ns e) ∙ s) (omega arith))

  module _ (number : ℕ) (h : Turn t x w all number) where
    pub turn_stands : Stands t (get_or x (place_at number) 0) h.name
    turn_stands = rw h.is h.link.stands

    earlier_is : get_or x (earlier_at number) 0 ≡ latest (has_key (key_of w)) h.before
    earlier_is = rw (h.is, ← h.key) h.link.earlier

    pub chain_falls : get_or x (earlier_at number) 0 < number
    chain_falls = omega (arith, earlier_is, h.is, latest_few (has_key (key_of w)) h.before)

    abbrev place : ℕ
    place = get_or x (place_at number) 0

    module _ (o : Bool) (e : o ≡ same (take (place + 1 + get_or t place 0 - (place + 1)) (drop (place + 1) t)) w) where
      compared : named w h.name ≡ o
      compared = rw turn_stands.is (sym (rw add-sub_cancel_left at e))

      pub chain_found : o ≡ true → number ≡ latest (named w) all
      chain_found y = h.is ∙ sym (latest_here (named w) h.name h.before (compared ∙ y)) ∙ h.same

      pub chain_goes_on : o ≡ false → Chained t x w all (get_or x (earlier_at number) 0)
      chain_goes_on n = record {
        names = h.before;
        linked = h.linked;
        is = earlier_is;
        same = sym (latest_on (named w) h.name h.before (compared ∙ n)) ∙ h.same;
        few = omega (arith, h.few);
      }

-- ---- no name, and one more

pub lists_none : (t x : List ℕ) → Empty x → Lists t x []
unfolding latest
lists_none t x e = record { long = e.long; heads = e.none; linked = tt; few = omega arith }

-- an array of zeros is empty
pub fresh : Empty (replicate cell_count 0)
fresh = record { long = length-replicate {A = ℕ} cell_count 0; none = λ k h. get_or-replicate cell_count k 0 0 (omega arith) }

-- the cells of names say the same in an index that has these cells
linked_kept : (t x y : List ℕ) (ns : List (List ℕ))
    → ((j : ℕ) → 0 < j → j ≤ length ns → (get_or y (earlier_at j) 0 ≡ get_or x (earlier_at j) 0) × (get_or y (place_at j) 0 ≡ get_or x (place_at j) 0))
    → Linked t x ns → Linked t y ns
linked_kept t x y [] k l = tt
linked_kept t x y (n ∷ ns) k l =
    let here = k (suc (length ns)) (omega arith) (omega arith) in (
      record { earlier = here.0 ∙ l.0.earlier; stands = rw here.1 l.0.stands },
      linked_kept t x y ns (λ j p q. k j p (omega arith)) l.1,
    )

module _ (t x n : List ℕ) (ns : List (List ℕ)) (place : ℕ) (l : Lists t x ns) (room : suc (length ns) ≤ name_count)
    (s : Stands t place n) where
  abbrev number : ℕ
  number = suc (length ns)

  abbrev first : List ℕ
  first = set x (earlier_at number) (get_or x (key_of n) 0)

  abbrev second : List ℕ
  second = set first (place_at number) place

  abbrev after : List ℕ
  after = added x number (key_of n) place

  -- a cell that is none of the three stays
  stays : (j : ℕ) → (j ≡ key_of n → ⊥) → (j ≡ earlier_at number → ⊥) → (j ≡ place_at number → ⊥) → get_or after j 0 ≡ get_or x j 0
  stays j a b c =
      get_or-set_other second (key_of n) j number 0 a ∙ get_or-set_other first (place_at number) j place 0 c
      ∙ get_or-set_other x (earlier_at number) j (get_or x (key_of n) 0) 0 b

  first_long : length first ≡ cell_count
  first_long = length-set x (earlier_at number) (get_or x (key_of n) 0) ∙ l.long

  second_long : length second ≡ cell_count
  second_long = length-set first (place_at number) place ∙ first_long

  key_cell : get_or after (key_of n) 0 ≡ number
  key_cell = get_or-set_same second (key_of n) number 0 (omega (arith, second_long, key_few n))

  place_cell : get_or after (place_at number) 0 ≡ place
  place_cell =
      let k = key_few n in
      get_or-set_other second (key_of n) (place_at number) number 0 (λ e. omega arith)
      ∙ get_or-set_same first (place_at number) place 0 (omega (arith, first_long))

  earlier_cell : get_or after (earlier_at number) 0 ≡ get_or x (key_of n) 0
  earlier_cell =
      let k = key_few n in
      get_or-set_other second (key_of n) (earlier_at number) number 0 (λ e. omega arith)
      ∙ get_or-set_other first (place_at number) (earlier_at number) place 0 (λ e. omega arith)
      ∙ get_or-set_same x (earlier_at number) (get_or x (key_of n) 0) 0 (omega (arith, l.long))

  head : (k : ℕ) → k < key_count → get_or after k 0 ≡ latest (has_key k) (n ∷ ns)
  head k h =
      split (has_key k n) (λ e. rw (← eqb-true (key_of n) k e) key_cell ∙ sym (latest_here (has_key k) n ns e))
      (λ e. stays k (λ q. eqb-false (key_of n) k e (sym q)) (λ q. omega arith) (λ q. omega arith) ∙ l.heads k h ∙ sym (latest_on (has_key k) n ns e))

  pub lists_more : Lists t after (n ∷ ns)
  lists_more = record {
    long = length-set second (key_of n) number ∙ second_long;
    heads = head;
    linked = (
      record { earlier = earlier_cell ∙ l.heads (key_of n) (key_few n); stands = rw place_cell s },
      linked_kept t x after ns (λ j p q. let k = key_few n in (
        stays (earlier_at j) (λ e. omega arith) (λ e. omega arith) (λ e. omega arith),
        stays (place_at j) (λ e. omega arith) (λ e. omega arith) (λ e. omega arith),
      )) l.linked,
    );
    few = room;
  }
