-- The way of a search through the cells of an index: where it begins, a step further, and that it comes to a free cell before it is round.
-- Over plain lists. Assumes nothing.
use Prim.Native.Nat.{ℕ, ◌+◌, ◌-◌, ◌*◌, ◌%◌, ◌≤◌, ◌<◌}
use mathlib.Core.Path.{◌≡◌, refl, sym, ap, ◌∙◌}
use mathlib.Core.Bool.{false}
use mathlib.Core.List.{List, [], ◌∷◌}
use native.Mathlib.Nat.{mod-lt, mul-le-mul_right}
use native.Mathlib.Omega.{arith}
use lib.ListN.{length, get_or}
use lib.Dec.{ltb}
use borrow.Author.Tests.{lt-ltb, le-ltb}
use Rattle.paper.specs.Found.{pick}
use Rattle.paper.specs.Bytes.{same}
use Rattle.paper.proofs.Tests.{up_to}
use Rattle.names.specs.Runs.{key_limit, key_from, key_of}
use Rattle.earlier.specs.Earlier.{name_at, home, around, start_at, OnWay, Held, Reached}

-- ---- the cell where a search begins, and the cell at a step

keys_few : (key : ℕ) (w : List ℕ) → key < key_limit → key_from key w < key_limit
unfolding key_from
keys_few key [] h = h
keys_few key (b ∷ w) h = keys_few ((key + b) * 40503 % key_limit) w (mod-lt _ (omega arith))

pub key_few : (w : List ℕ) → key_of w < key_limit
key_few w = keys_few 0 w (omega arith)

pub home_in : (size : ℕ) (w : List ℕ) → 0 < size → home size w < size
home_in size w h =
    let few : key_of w ≤ 65535 = omega (arith, key_few w) in
    let most = mul-le-mul_right size few in
    omega (arith, most)

pub around_here : (size i : ℕ) → i < size → around size i ≡ i
around_here size i h = rw (lt-ltb i size h)

pub around_past : (size i : ℕ) → size ≤ i → around size i ≡ i - size
around_past size i h = rw (le-ltb i size h)

module _ (size : ℕ) (w : List ℕ) (some : 0 < size) where
  pub around_in : (i : ℕ) → i < home size w + size → around size i < size
  around_in i h =
      up_to size i (λ l. rw (around_past size i l) (omega (arith, home_in size w some))) (λ l. rw (around_here size i l) l)

  -- every cell is met once round
  pub meets : (c : ℕ) → c < size → {X : Type 0} → ((i : ℕ) → home size w ≤ i → i < home size w + size → around size i ≡ c → X) → X
  meets c h go =
      up_to (home size w) c
      (λ l. go c l (omega arith) (around_here size c h))
      (λ l. go (c + size) (omega (arith, home_in size w some)) (omega arith) (around_past size (c + size) (omega arith) ∙ back c size))
    where
      back : (m n : ℕ) → m + n - n ≡ m
      back m n = omega arith

-- ---- a search

-- how many steps are left from a cell on
abbrev pub ahead : List ℕ → List ℕ → ℕ → ℕ
ahead x w cell = pick (ltb cell (home (length x) w)) (home (length x) w - cell) (home (length x) w + length x - cell)

module _ (s : List ℕ) (first : ℕ) (x w : List ℕ) (some : 0 < length x) where
  abbrev h : ℕ
  h = home (length x) w

  pub search_begins : Reached s first x w h
  search_begins = record {
    step = h;
    way = record { from = omega arith; once = omega arith; taken = λ j l g. absurd (omega arith) };
    is = sym (around_here (length x) h (home_in (length x) w some));
    others = λ j l g. absurd (omega arith);
  }

  module _ (cell : ℕ) (r : Reached s first x w cell) where
    pub cell_in : cell < length x
    cell_in = rw r.is (around_in (length x) w some r.step r.way.once)

    steps_left : ahead x w cell ≡ h + length x - r.step
    steps_left =
        up_to (length x) r.step
        (λ l. let e = r.is ∙ around_past (length x) r.step l in
        rw (lt-ltb cell h (omega (arith, e, r.way.once))) (omega (arith, e, r.way.once)))
        (λ l. let e = r.is ∙ around_here (length x) r.step l in
        rw (le-ltb cell h (omega (arith, e, r.way.from))) (omega (arith, e)))

    -- what the cell says, at its step
    pub says_here : start_at x r.step ≡ get_or x cell 0
    says_here = rw (← r.is)

    pub search_held : first ≤ get_or x cell 0 → name_at s (get_or x cell 0) ≡ w → Held s first x w
    search_held t e = record { step = r.step; way = r.way; here = rw says_here t; named = ap (name_at s) says_here ∙ e }

  -- fewer steps are left
  search_falls : (cell next : ℕ) (r : Reached s first x w cell) (n : Reached s first x w next) → n.step ≡ r.step + 1 → ahead x w next < ahead x w cell
  search_falls cell next r n e = omega (arith, steps_left cell r, steps_left next n, e, n.way.once)

-- a cell that was reached is taken, with another name, and a cell is free
pub record Passed (s : List ℕ) (first : ℕ) (x w : List ℕ) (cell : ℕ) : Type 0 where
  pub reached : Reached s first x w cell
  pub taken : first ≤ get_or x cell 0
  pub other : same (name_at s (get_or x cell 0)) w ≡ false
  pub vacant : ℕ
  pub within : vacant < length x
  pub free : get_or x vacant 0 < first

-- one step further: to the next cell, or from the last one to the first
module _ {s : List ℕ} {first : ℕ} {x w : List ℕ} {cell : ℕ} (p : Passed s first x w cell) where
  abbrev r : Reached s first x w cell
  r = p.reached

  some : 0 < length x
  some = omega (arith, p.within)

  says : start_at x r.step ≡ get_or x cell 0
  says = says_here s first x w some cell r

  begins : home (length x) w < length x
  begins = home_in (length x) w some

  taken_on : (j : ℕ) → home (length x) w ≤ j → j < r.step + 1 → first ≤ start_at x j
  taken_on j l g =
      up_to (j + 1) r.step (λ k. r.way.taken j l (omega arith)) (λ k. let e : j ≡ r.step = omega arith in rw (e, says) p.taken)

  others_on : (j : ℕ) → home (length x) w ≤ j → j < r.step + 1 → same (name_at s (start_at x j)) w ≡ false
  others_on j l g =
      up_to (j + 1) r.step (λ k. r.others j l (omega arith)) (λ k. let e : j ≡ r.step = omega arith in rw (e, says) p.other)

  not_round : r.step + 1 < home (length x) w + length x
  not_round =
      up_to (r.step + 2) (home (length x) w + length x) (λ l. omega arith)
      (λ l. meets (length x) w some p.vacant p.within (λ i f g e. absurd (omega (arith, p.free, rw e at (taken_on i f (omega (arith, r.way.once)))))))

  next_way : OnWay first x w (r.step + 1)
  next_way = record { from = omega (arith, r.way.from); once = not_round; taken = taken_on }

  pub search_on : (cell + 1 ≡ length x → ⊥) → Reached s first x w (cell + 1)
  search_on n = record {
    step = r.step + 1;
    way = next_way;
    is = up_to (length x) r.step
        (λ l. let e = r.is ∙ around_past (length x) r.step l in sym (around_past (length x) (r.step + 1) (omega arith) ∙ omega (arith, e)))
        (λ l. let e = r.is ∙ around_here (length x) r.step l in sym (around_here (length x) (r.step + 1) (omega (arith, e, n)) ∙ omega (arith, e)));
    others = others_on;
  }

  pub on_fewer : (n : cell + 1 ≡ length x → ⊥) → ahead x w (cell + 1) < ahead x w cell
  unfolding search_on
  on_fewer n = search_falls s first x w some cell (cell + 1) r (search_on n) refl

  pub search_round : cell + 1 ≡ length x → Reached s first x w 0
  search_round n = record {
    step = r.step + 1;
    way = next_way;
    is = up_to (length x) r.step
        (λ l. let e = r.is ∙ around_past (length x) r.step l in absurd (omega (arith, e, not_round, begins)))
        (λ l. let e = r.is ∙ around_here (length x) r.step l in sym (around_past (length x) (r.step + 1) (omega (arith, e)) ∙ omega (arith, e)));
    others = others_on;
  }

  pub round_fewer : (n : cell + 1 ≡ length x) → ahead x w 0 < ahead x w cell
  unfolding search_round
  round_fewer n = search_falls s first x w some cell 0 r (search_round n) refl
