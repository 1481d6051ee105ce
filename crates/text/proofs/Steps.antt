-- One step of UTF-8 at a place: a law for each way out of its functions, and what each answer says. Assumes nothing.
-- Document 01, "The grammar", Bytes; RFC 3629 §4.
use Prim.Native.Nat.{ℕ, suc, ◌+◌, ◌-◌, ◌*◌, ◌<◌, ◌≤◌}
use mathlib.Core.Path.{◌≡◌, refl, sym, ap, ◌∙◌}
use mathlib.Core.List.{List, [], ◌∷◌}
use mathlib.Core.Bool.{true, false}
use native.Mathlib.Omega.{arith}
use lib.ListN.{length, get_or, drop, length-drop, drop_of_length-le}
use lib.Dec.{ltb}
use borrow.Author.Tests.{ltb-true, ltb-false}
use Rattle.std.specs.Prelude.{Option, None, Some}
use Rattle.std.proofs.lemmas.Grind.{get_or_default_zero}
use Rattle.paper.specs.Found.{Found, found, fault, place_in}
use Rattle.paper.specs.Bytes.{one, two, three, four, none, row_of, follower, scalar, encode}
use Rattle.paper.proofs.Finds.{Finds}
use Rattle.paper.proofs.Scalars.{Three, Four, leads_as}
use Rattle.paper.proofs.Scalars.{follower_in, follower_under, follower_over, Follows, follows, scalar_one, scalar_two, scalar_three, scalar_four, scalar_none}
use Rattle.paper.proofs.Scalars.{scalar_sound, spelt_shorter}
use Rattle.text.specs.declared.utf8.Cursor.{Cursor}
use Rattle.text.specs.declared.utf8.Step.{Step}
use Rattle.text.specs.Steps.{bits_of, step_of, step_from, step_at, gather, Awaits}
use Rattle.text.proofs.Places.{here, place_back, front_inside, front_behind, left_back}

-- ---- a byte that follows

module _ (s : List ℕ) (at low high : ℕ) where
  pub bits_out : false ≡ ltb at (length s) → None ≡ bits_of (follower low high (drop at s))
  unfolding follower
  bits_out h = rw (drop_of_length-le s (ltb-false at (length s) (sym h)))

  -- the byte that `get` finds there
  module _ (b : ℕ) (lies : true ≡ ltb at (length s)) (got : b ≡ get_or s at b) where
    inside_got : at < length s
    inside_got = ltb-true at (length s) (sym lies)

    bits_got : bits_of (follower low high (drop at s)) ≡ bits_of (follower low high (b ∷ drop (at + 1) s))
    bits_got = rw (here s at inside_got, got, get_or_default_zero s at b inside_got)

    pub bits_under : b < low → None ≡ bits_of (follower low high (drop at s))
    bits_under k = rw (bits_got, follower_under low high b (drop (at + 1) s) k)

    pub bits_over : high < b → None ≡ bits_of (follower low high (drop at s))
    bits_over k = rw (bits_got, follower_over low high b (drop (at + 1) s) k)

    pub bits_in : low ≤ b → b ≤ high → Some (b - 0x80) ≡ bits_of (follower low high (drop at s))
    bits_in f t = rw (bits_got, follower_in low high b (drop (at + 1) s) f t)

  -- six bits were found, of a byte in the range, and what is left begins at the next place
  record Followed (next c : ℕ) : Type 0 where
    pub inside : next ≤ length s
    pub from : low ≤ 0x80 + c
    pub to : 0x80 + c ≤ high
    pub reads : follower low high (drop at s) ≡ found c (drop next s)

  followed : 0x80 ≤ low → (next c : ℕ) → next ≡ at + 1 → Some c ≡ bits_of (follower low high (drop at s)) → Followed next c
  followed h next c n e = go (follower low high (drop at s)) refl (follows low high h (drop at s)) e
    where
      go : (x : Found ℕ) → follower low high (drop at s) ≡ x → Finds (Follows low high (drop at s)) x → Some c ≡ bits_of x → Followed next c
      go (found d left) q f e =
          let k : c ≡ d = cc in
          let i = front_inside s at (0x80 + d) left f.front in
          let l : left ≡ drop (at + 1) s = front_behind s at (0x80 + d) left f.front in
          record { inside = omega arith; from = omega arith; to = omega arith; reads = rw (k, n, ← l) q }
      go (fault m left) q f e = let z : ◌≡◌ {A = ℕ} 0 1 = cc in absurd (omega arith)

-- ---- a step, by the row of its first byte

pub step_end : (s : List ℕ) (at : ℕ) → length s ≤ at → Step.End ≡ step_at s at
step_end s at h = rw (drop_of_length-le s h)

module _ (s : List ℕ) (at : ℕ) (h : at < length s) where
  step_here : step_at s at ≡ step_of s (scalar (get_or s at 0 ∷ drop (at + 1) s))
  step_here = rw (here s at h)

  pub step_none : row_of (get_or s at 0) ≡ none → Step.Broken ≡ step_at s at
  step_none row = rw (step_here, scalar_none (get_or s at 0) (drop (at + 1) s) row)

  pub step_one : row_of (get_or s at 0) ≡ one → {next : Cursor} → next ≡ record { at = at + 1 } → Step.Scalar (get_or s at 0) next ≡ step_at s at
  step_one row n = rw (n, step_here, scalar_one (get_or s at 0) (drop (at + 1) s) row, place_back s (at + 1) (omega arith))

-- the step of a cursor that was made there
pub step_from_lem : (s : List ℕ) {at : ℕ} {cursor : Cursor} → cursor ≡ record { at = at } → {x : Step} → x ≡ step_at s cursor.at → x ≡ step_at s at
step_from_lem s n e = e ∙ ap (λ (k : Cursor). step_at s k.at) n

-- ---- a step over several bytes: six bits of each byte that follows are gathered behind those of the first

module _ (s : List ℕ) (at : ℕ) (h : at < length s) where
  pub awaits_two : row_of (get_or s at 0) ≡ two → Awaits s at (at + 1) 0x80 0xBF 0 (get_or s at 0 - 0xC0)
  awaits_two row = record { from = omega arith; to = omega arith; step = step_here s at h ∙ rw (scalar_two (get_or s at 0) (drop (at + 1) s) row) }

  pub awaits_three : (low high : ℕ) → row_of (get_or s at 0) ≡ three low high → Awaits s at (at + 1) low high 1 (get_or s at 0 - 0xE0)
  awaits_three low high row =
      let lead : Three (get_or s at 0) low high = leads_as _ _ row in
      record {
        from = omega (arith, lead.bounds);
        to = omega (arith, lead.bounds);
        step = step_here s at h ∙ rw (scalar_three (get_or s at 0) (drop (at + 1) s) low high row);
      }

  pub awaits_four : (low high : ℕ) → row_of (get_or s at 0) ≡ four low high → Awaits s at (at + 1) low high 2 (get_or s at 0 - 0xF0)
  awaits_four low high row =
      let lead : Four (get_or s at 0) low high = leads_as _ _ row in
      record {
        from = omega (arith, lead.bounds);
        to = omega (arith, lead.bounds);
        step = step_here s at h ∙ rw (scalar_four (get_or s at 0) (drop (at + 1) s) low high row);
      }

-- the step goes on at a place, with so many bytes due yet behind a value so far
pub record Gathered (s : List ℕ) (at place more v : ℕ) : Type 0 where
  pub inside : place ≤ length s
  pub step : step_at s at ≡ step_of s (gather more v (drop place s))

module _ {s : List ℕ} {at place low high more v : ℕ} (so_far : Awaits s at place low high more v) {x : Option ℕ}
    (said : x ≡ bits_of (follower low high (drop place s))) {c : ℕ} (e : x ≡ Some c) where
  -- the byte that is due is there, and has the bits c
  there : Followed s place low high (place + 1) c
  there = followed s place low high so_far.from (place + 1) c refl (sym e ∙ said)

  pub six : c ≤ 63
  six = let f = there in omega (arith, so_far.to)

  pub gathers : {next : ℕ} → next ≡ place + 1 → Gathered s at next more (v * 64 + c)
  gathers n = record { inside = omega (arith, there.inside); step = so_far.step ∙ rw (there.reads, ← n) }

pub goes_on : {s : List ℕ} {at place more v : ℕ} → Gathered s at place more v → (fewer : ℕ) → more ≡ suc fewer → Awaits s at place 0x80 0xBF fewer v
goes_on so_far fewer m = record { from = omega arith; to = omega arith; step = so_far.step ∙ rw m }

-- ---- what each answer of a step says of the place

-- a step that found a value: it is what the paper reads there, and the cursor stands behind it
pub record Stepped (s : List ℕ) (at v next : ℕ) : Type 0 where
  pub ahead : at < next
  pub inside : next ≤ length s
  pub reads : scalar (drop at s) ≡ found v (drop next s)

stepped_to : (s : List ℕ) (at v : ℕ) (left : List ℕ) → at < length s → scalar (drop at s) ≡ found v left → Stepped s at v (place_in s left)
stepped_to s at v left h e =
    let spelt = scalar_sound (drop at s) v left e in
    let less = spelt_shorter spelt in
    record
    { ahead = omega (arith, length-drop at s); inside = omega arith; reads = e ∙ ap (found v) (left_back s at (encode v) left (omega arith) spelt.whole) }

module _ (s : List ℕ) (at : ℕ) where
  -- nothing is left
  pub ended : Step.End ≡ step_at s at → drop at s ≡ []
  ended e = go (drop at s) refl e
    where
      no_end : (x : Found ℕ) → Step.End ≡ step_of s x → ⊥
      no_end (found v left) e = let z : ◌≡◌ {A = ℕ} 0 1 = cc in omega arith
      no_end (fault n left) e = let z : ◌≡◌ {A = ℕ} 0 1 = cc in omega arith

      go : (l : List ℕ) → drop at s ≡ l → Step.End ≡ step_from s l → drop at s ≡ []
      go [] q e = q
      go (b ∷ l) q e = absurd (no_end (scalar (b ∷ l)) e)

  -- the paper reads a fault there
  pub record Failed : Type 0 where
    pub inside : at < length s
    pub number : ℕ
    pub left : List ℕ
    pub reads : scalar (drop at s) ≡ fault number left

  pub failed : Step.Broken ≡ step_at s at → Failed
  failed e = go (drop at s) refl e
    where
      at_byte : (b : ℕ) (l : List ℕ) → drop at s ≡ b ∷ l → (x : Found ℕ) → scalar (drop at s) ≡ x → Step.Broken ≡ step_of s x → Failed
      at_byte b l q (found v left) r e = let z : ◌≡◌ {A = ℕ} 0 1 = cc in absurd (omega arith)
      at_byte b l q (fault n left) r e = record { inside = front_inside s at b l q; number = n; left = left; reads = r }

      go : (l : List ℕ) → drop at s ≡ l → Step.Broken ≡ step_from s l → Failed
      go [] q e = let z : ◌≡◌ {A = ℕ} 0 1 = cc in absurd (omega arith)
      go (b ∷ l) q e = at_byte b l q (scalar (b ∷ l)) (ap scalar q) e

  pub stepped : (v : ℕ) (next : Cursor) → Step.Scalar v next ≡ step_at s at → Stepped s at v next.at
  stepped v next e = go (drop at s) refl e
    where
      at_byte : (b : ℕ) (l : List ℕ) → drop at s ≡ b ∷ l → (x : Found ℕ) → scalar (drop at s) ≡ x → Step.Scalar v next ≡ step_of s x → Stepped s at v next.at
      at_byte b l q (found w left) r e =
          let k : v ≡ w = cc in
          let c : next ≡ record { at = place_in s left } = cc in
          rw (k, c) (stepped_to s at w left (front_inside s at b l q) r)
      at_byte b l q (fault n left) r e = let z : ◌≡◌ {A = ℕ} 0 1 = cc in absurd (omega arith)

      go : (l : List ℕ) → drop at s ≡ l → Step.Scalar v next ≡ step_from s l → Stepped s at v next.at
      go [] q e = let z : ◌≡◌ {A = ℕ} 0 1 = cc in absurd (omega arith)
      go (b ∷ l) q e = at_byte b l q (scalar (b ∷ l)) (ap scalar q) e
