-- Scalar values and their bytes: what UTF-8 reads is what it writes, and a checked sheet is the bytes of one list of scalar values.
-- Document 01, "The grammar", Bytes; RFC 3629 §3 and §4. Assumes nothing.
use Prim.Native.Nat.{ℕ, zero, suc, ◌+◌, ◌-◌, ◌*◌, ◌/◌, ◌%◌, ◌≤◌, ◌<◌}
use mathlib.Core.Path.{◌≡◌, refl, sym, ap, ◌∙◌}
use mathlib.Core.Bool.{true, false}
use mathlib.Core.List.{List, [], ◌∷◌, ◌++◌}
use native.Mathlib.Omega.{arith}
use lib.ListN.{length, drop, length-append}
use lib.Dec.{leb}
use borrow.Author.Tests.{leb-true, le-leb, lt-leb, ne_eqb}
use Rattle.paper.specs.Found.{Found, found, fault, and_then}
use Rattle.paper.specs.Bytes.{Row, one, two, three, four, none, row_of, follower, scalar, may_stand, scalars, sheet_bytes, is_scalar, encode, all, encode_all}
use Rattle.paper.specs.Bytes.{starts_with, byte_order_mark}
use Rattle.paper.proofs.Tests.{split, true_false, up_to, inside, below, above, by_range}
use Rattle.paper.proofs.Lists.{all_head}
use Rattle.paper.proofs.Finds.{Finds, finds_then}

-- ---- scalar values

pub scalar_low : (v : ℕ) → v ≤ 0xD7FF → is_scalar v ≡ true
unfolding is_scalar
scalar_low v h = rw (le-leb v 0xD7FF h)

pub scalar_high : (v : ℕ) → 0xE000 ≤ v → v ≤ 0x10FFFF → is_scalar v ≡ true
unfolding is_scalar
scalar_high v l h = rw (lt-leb v 0xD7FF (omega arith), inside 0xE000 0x10FFFF v l h)

pub by_scalar : {X : Type 0} (v : ℕ) → is_scalar v ≡ true → (v ≤ 0xD7FF → X) → (0xE000 ≤ v → v ≤ 0x10FFFF → X) → X
unfolding is_scalar
by_scalar v e low high =
    split (leb v 0xD7FF) (λ l. low (leb-true v 0xD7FF l))
    (λ l. by_range 0xE000 0x10FFFF v (λ a b t. high a b) (λ t. true_false (sym e ∙ rw (l, t))))

-- ---- the rows of the table

module _ (b : ℕ) where
  pub row_one : b ≤ 0x7F → row_of b ≡ one
  unfolding row_of
  row_one h = rw (le-leb b 0x7F h)

  pub row_two : 0xC2 ≤ b → b ≤ 0xDF → row_of b ≡ two
  unfolding row_of
  row_two l h = rw (lt-leb b 0x7F (omega arith), inside 0xC2 0xDF b l h)

  pub row_e0 : b ≡ 0xE0 → row_of b ≡ three 0xA0 0xBF
  unfolding row_of
  row_e0 e = rw e

  pub row_e1 : 0xE1 ≤ b → b ≤ 0xEC → row_of b ≡ three 0x80 0xBF
  unfolding row_of
  row_e1 l h = rw (lt-leb b 0x7F (omega arith), above 0xC2 0xDF b (omega arith), ne_eqb b 0xE0 (omega arith), inside 0xE1 0xEC b l h)

  pub row_ed : b ≡ 0xED → row_of b ≡ three 0x80 0x9F
  unfolding row_of
  row_ed e = rw e

  pub row_ee : 0xEE ≤ b → b ≤ 0xEF → row_of b ≡ three 0x80 0xBF
  unfolding row_of
  row_ee l h =
      rw (
        lt-leb b 0x7F (omega arith),
        above 0xC2 0xDF b (omega arith),
        ne_eqb b 0xE0 (omega arith),
        above 0xE1 0xEC b (omega arith),
        ne_eqb b 0xED (omega arith),
        inside 0xEE 0xEF b l h,
      )

  pub row_f0 : b ≡ 0xF0 → row_of b ≡ four 0x90 0xBF
  unfolding row_of
  row_f0 e = rw e

  pub row_f1 : 0xF1 ≤ b → b ≤ 0xF3 → row_of b ≡ four 0x80 0xBF
  unfolding row_of
  row_f1 l h =
      rw (
        lt-leb b 0x7F (omega arith),
        above 0xC2 0xDF b (omega arith),
        ne_eqb b 0xE0 (omega arith),
        above 0xE1 0xEC b (omega arith),
        ne_eqb b 0xED (omega arith),
        above 0xEE 0xEF b (omega arith),
        ne_eqb b 0xF0 (omega arith),
        inside 0xF1 0xF3 b l h,
      )

  pub row_f4 : b ≡ 0xF4 → row_of b ≡ four 0x80 0x8F
  unfolding row_of
  row_f4 e = rw e

  pub row_under : 0x80 ≤ b → b < 0xC2 → row_of b ≡ none
  unfolding row_of
  row_under l h =
      rw (
        lt-leb b 0x7F (omega arith),
        below 0xC2 0xDF b (omega arith),
        ne_eqb b 0xE0 (omega arith),
        below 0xE1 0xEC b (omega arith),
        ne_eqb b 0xED (omega arith),
        below 0xEE 0xEF b (omega arith),
        ne_eqb b 0xF0 (omega arith),
        below 0xF1 0xF3 b (omega arith),
        ne_eqb b 0xF4 (omega arith),
      )

  pub row_past : 0xF4 < b → row_of b ≡ none
  unfolding row_of
  row_past h =
      rw (
        lt-leb b 0x7F (omega arith),
        above 0xC2 0xDF b (omega arith),
        ne_eqb b 0xE0 (omega arith),
        above 0xE1 0xEC b (omega arith),
        ne_eqb b 0xED (omega arith),
        above 0xEE 0xEF b (omega arith),
        ne_eqb b 0xF0 (omega arith),
        above 0xF1 0xF3 b (omega arith),
        ne_eqb b 0xF4 (omega arith),
      )

-- what a row says of three bytes: the first one, the range of the second one, and that they spell scalar values which fewer bytes do not
pub record Three (b low high : ℕ) : Type 0 where
  pub bounds : (0xE0 ≤ b) × (b ≤ 0xEF) × (0x80 ≤ low) × (high ≤ 0xBF)
  pub enough : (c d : ℕ) → low ≤ 0x80 + c → 0x800 ≤ ((b - 0xE0) * 64 + c) * 64 + d
  pub spells : (c d : ℕ) → low ≤ 0x80 + c → 0x80 + c ≤ high → d ≤ 63 → is_scalar (((b - 0xE0) * 64 + c) * 64 + d) ≡ true

-- of four bytes
pub record Four (b low high : ℕ) : Type 0 where
  pub bounds : (0xF0 ≤ b) × (b ≤ 0xF4) × (0x80 ≤ low) × (high ≤ 0xBF)
  pub enough : (c d e : ℕ) → low ≤ 0x80 + c → 0x10000 ≤ (((b - 0xF0) * 64 + c) * 64 + d) * 64 + e
  pub spells : (c d e : ℕ) → 0x80 + c ≤ high → d ≤ 63 → e ≤ 63 → (((b - 0xF0) * 64 + c) * 64 + d) * 64 + e ≤ 0x10FFFF

-- of its first byte
abbrev pub Leads : ℕ → Row → Type 0
Leads b one = b ≤ 0x7F
Leads b two = (0xC2 ≤ b) × (b ≤ 0xDF)
Leads b (three low high) = Three b low high
Leads b (four low high) = Four b low high
Leads b none = Unit {0}

pub leads : (b : ℕ) → Leads b (row_of b)
leads b =
    up_to b 0x7F (λ h. rw (row_one b h) h)
    (λ h. up_to b 0xC1 (λ k. rw (row_under b h (omega arith)) tt)
    (λ h. up_to b 0xDF (λ k. rw (row_two b h k) (h, k))
    (λ h. up_to b 0xE0 (λ k. rw (row_e0 b (omega arith)) (record { bounds = omega arith; enough = omega arith; spells = λ c d l m n. scalar_low _ (omega arith) }))
    (λ h. up_to b 0xEC (λ k. rw (row_e1 b h k) (record { bounds = omega arith; enough = omega arith; spells = λ c d l m n. scalar_low _ (omega arith) }))
    (λ h. up_to b 0xED (λ k. rw (row_ed b (omega arith)) (record { bounds = omega arith; enough = omega arith; spells = λ c d l m n. scalar_low _ (omega arith) }))
    (λ h. up_to b 0xEF (λ k. rw (row_ee b h k) (record { bounds = omega arith; enough = omega arith; spells = λ c d l m n. scalar_high _ (omega arith) (omega arith) }))
    (λ h. up_to b 0xF0 (λ k. rw (row_f0 b (omega arith)) (omega arith))
    (λ h. up_to b 0xF3 (λ k. rw (row_f1 b h k) (omega arith))
    (λ h. up_to b 0xF4 (λ k. rw (row_f4 b (omega arith)) (omega arith))
    (λ h. rw (row_past b h) tt))))))))))

pub leads_as : (b : ℕ) (row : Row) → row_of b ≡ row → Leads b row
leads_as b row e = rw e at (leads b)

-- ---- one byte that follows

module _ (low high : ℕ) where
  pub follower_in : (b : ℕ) (l : List ℕ) → low ≤ b → b ≤ high → follower low high (b ∷ l) ≡ found (b - 0x80) l
  unfolding follower
  follower_in b l f t = rw (inside low high b f t, follower)

  pub follower_under : (b : ℕ) (l : List ℕ) → b < low → follower low high (b ∷ l) ≡ fault 3 (b ∷ l)
  unfolding follower
  follower_under b l h = rw (below low high b h, follower)

  pub follower_over : (b : ℕ) (l : List ℕ) → high < b → follower low high (b ∷ l) ≡ fault 3 (b ∷ l)
  unfolding follower
  follower_over b l h = rw (above low high b h, follower)

  -- the byte with these six bits stood in front, and lies in the range
  pub record Follows (l : List ℕ) (c : ℕ) (left : List ℕ) : Type 0 where
    pub front : l ≡ (0x80 + c) ∷ left
    pub from : low ≤ 0x80 + c
    pub to : 0x80 + c ≤ high

  pub follows : 0x80 ≤ low → (l : List ℕ) → Finds (Follows l) (follower low high l)
  unfolding follower
  follows h [] = tt
  follows h (b ∷ l) =
      by_range low high b
      (λ f t e. rw (e, Finds) (let q : b ≡ 0x80 + (b - 0x80) = omega arith in record { front = ap (λ (k : ℕ). k ∷ l) q; from = omega arith; to = omega arith }))
      (λ e. rw (e, Finds) tt)

-- ---- one scalar value, by the row of its first byte

module _ (b : ℕ) (l : List ℕ) where
  pub scalar_one : row_of b ≡ one → scalar (b ∷ l) ≡ found b l
  unfolding scalar
  scalar_one e = rw (e, scalar)

  pub scalar_two : row_of b ≡ two → scalar (b ∷ l) ≡ and_then (follower 0x80 0xBF l) (λ c r. found ((b - 0xC0) * 64 + c) r)
  unfolding scalar
  scalar_two e = rw (e, scalar)

  pub scalar_three : (low high : ℕ) → row_of b ≡ three low high
      → scalar (b ∷ l) ≡ and_then (follower low high l) (λ c r. and_then (follower 0x80 0xBF r) (λ d q. found (((b - 0xE0) * 64 + c) * 64 + d) q))
  unfolding scalar
  scalar_three low high e = rw (e, scalar)

  pub scalar_four : (low high : ℕ) → row_of b ≡ four low high
      → scalar (b ∷ l)
      ≡ and_then (follower low high l) (λ c r. and_then (follower 0x80 0xBF r)
      (λ d q. and_then (follower 0x80 0xBF q) (λ e p. found ((((b - 0xF0) * 64 + c) * 64 + d) * 64 + e) p)))
  unfolding scalar
  scalar_four low high e = rw (e, scalar)

  pub scalar_none : row_of b ≡ none → scalar (b ∷ l) ≡ fault 3 (b ∷ l)
  unfolding scalar
  scalar_none e = rw (e, scalar)

-- ---- the bytes of a value, by its parts of six bits

encode_one : (v : ℕ) → v ≤ 0x7F → encode v ≡ v ∷ []
unfolding encode
encode_one v h = rw (le-leb v 0x7F h)

encode_two : (v : ℕ) → 0x80 ≤ v → v ≤ 0x7FF → encode v ≡ (0xC0 + v / 64) ∷ (0x80 + v % 64) ∷ []
unfolding encode
encode_two v l h = rw (lt-leb v 0x7F l, le-leb v 0x7FF h)

encode_three : (v : ℕ) → 0x800 ≤ v → v ≤ 0xFFFF → encode v ≡ (0xE0 + v / 64 / 64) ∷ (0x80 + v / 64 % 64) ∷ (0x80 + v % 64) ∷ []
unfolding encode
encode_three v l h = rw (lt-leb v 0x7F (omega arith), lt-leb v 0x7FF l, le-leb v 0xFFFF h)

encode_four : (v : ℕ) → 0x10000 ≤ v → encode v ≡ (0xF0 + v / 64 / 64 / 64) ∷ (0x80 + v / 64 / 64 % 64) ∷ (0x80 + v / 64 % 64) ∷ (0x80 + v % 64) ∷ []
unfolding encode
encode_four v l = rw (lt-leb v 0x7F (omega arith), lt-leb v 0x7FF (omega arith), lt-leb v 0xFFFF l)

-- six more bits, and the value without them
high_bits : (x y : ℕ) → y ≤ 63 → (x * 64 + y) / 64 ≡ x
high_bits x y h = omega arith

low_bits : (x y : ℕ) → y ≤ 63 → (x * 64 + y) % 64 ≡ y
low_bits x y h = omega arith

-- ---- what is found was the bytes of its value

pub record Spelt (s : List ℕ) (v : ℕ) (left : List ℕ) : Type 0 where
  pub right : is_scalar v ≡ true
  pub whole : s ≡ encode v ++ left

spelt_two : (b c : ℕ) (left : List ℕ) → 0xC2 ≤ b → b ≤ 0xDF → c ≤ 63 → Spelt (b ∷ (0x80 + c) ∷ left) ((b - 0xC0) * 64 + c) left
spelt_two b c left l h k =
    let q : 0xC0 + (b - 0xC0) ≡ b = omega arith in
    record {
      right = scalar_low _ (omega arith);
      whole = rw (encode_two ((b - 0xC0) * 64 + c) (omega arith) (omega arith), high_bits (b - 0xC0) c k, low_bits (b - 0xC0) c k, q);
    }

spelt_three : (b low high c d : ℕ) (left : List ℕ) → Three b low high → low ≤ 0x80 + c → 0x80 + c ≤ high → d ≤ 63
    → Spelt (b ∷ (0x80 + c) ∷ (0x80 + d) ∷ left) (((b - 0xE0) * 64 + c) * 64 + d) left
spelt_three b low high c d left row f t k =
    let q : 0xE0 + (b - 0xE0) ≡ b = omega arith in
    let x = (b - 0xE0) * 64 + c in
    record {
      right = row.spells c d f t k;
      whole =
          rw (
            encode_three (x * 64 + d) (row.enough c d f) (omega arith),
            high_bits x d k,
            low_bits x d k,
            high_bits (b - 0xE0) c (omega arith),
            low_bits (b - 0xE0) c (omega arith),
            q,
          );
    }

spelt_four : (b low high c d e : ℕ) (left : List ℕ) → Four b low high → low ≤ 0x80 + c → 0x80 + c ≤ high → d ≤ 63 → e ≤ 63
    → Spelt (b ∷ (0x80 + c) ∷ (0x80 + d) ∷ (0x80 + e) ∷ left) ((((b - 0xF0) * 64 + c) * 64 + d) * 64 + e) left
spelt_four b low high c d e left row f t k m =
    let q : 0xF0 + (b - 0xF0) ≡ b = omega arith in
    let x = (b - 0xF0) * 64 + c in
    let y = x * 64 + d in
    record {
      right = scalar_high (y * 64 + e) (omega (arith, row.enough c d e f)) (row.spells c d e t k m);
      whole =
          rw (
            encode_four (y * 64 + e) (row.enough c d e f),
            high_bits y e m,
            low_bits y e m,
            high_bits x d k,
            low_bits x d k,
            high_bits (b - 0xF0) c (omega arith),
            low_bits (b - 0xF0) c (omega arith),
            q,
          );
    }

module _ (b : ℕ) (l : List ℕ) where
  spelt_by : (row : Row) → row_of b ≡ row → Leads b row → Finds (Spelt (b ∷ l)) (scalar (b ∷ l))
  spelt_by one e h = rw (scalar_one b l e, Finds) (record { right = scalar_low b (omega arith); whole = rw (encode_one b h) })
  spelt_by two e h =
      rw (scalar_two b l e)
      (finds_then (Follows 0x80 0xBF l) (Spelt (b ∷ l)) _ (follower 0x80 0xBF l) (follows 0x80 0xBF (omega arith) l)
      (λ c r f. rw f.front (spelt_two b c r h.0 h.1 (omega arith))))
  spelt_by (three low high) e h =
      rw (scalar_three b l low high e)
      (finds_then (Follows low high l) (Spelt (b ∷ l)) _ (follower low high l) (follows low high h.bounds.2 l)
      (λ c r f. finds_then (Follows 0x80 0xBF r) (Spelt (b ∷ l)) _ (follower 0x80 0xBF r) (follows 0x80 0xBF (omega arith) r)
      (λ d q g. rw (f.front, g.front) (spelt_three b low high c d q h f.from f.to (omega arith)))))
  spelt_by (four low high) e h =
      rw (scalar_four b l low high e)
      (finds_then (Follows low high l) (Spelt (b ∷ l)) _ (follower low high l) (follows low high h.bounds.2 l)
      (λ c r f. finds_then (Follows 0x80 0xBF r) (Spelt (b ∷ l)) _ (follower 0x80 0xBF r) (follows 0x80 0xBF (omega arith) r)
      (λ d q g. finds_then (Follows 0x80 0xBF q) (Spelt (b ∷ l)) _ (follower 0x80 0xBF q) (follows 0x80 0xBF (omega arith) q)
      (λ i p k. rw (f.front, g.front, k.front) (spelt_four b low high c d i p h f.from f.to (omega arith) (omega arith))))))
  spelt_by none e h = rw (scalar_none b l e, Finds) tt

spelt : (s : List ℕ) → Finds (Spelt s) (scalar s)
unfolding scalar
spelt [] = tt
spelt (b ∷ l) = spelt_by b l (row_of b) refl (leads b)

-- what is read is a scalar value, and its bytes stood in front
pub scalar_sound : (s : List ℕ) (v : ℕ) (left : List ℕ) → scalar s ≡ found v left → Spelt s v left
scalar_sound s v left e = rw e at (spelt s)

-- ---- the bytes of a scalar value are read back

module _ (v : ℕ) (r : List ℕ) where
  one_back : v ≤ 0x7F → scalar (encode v ++ r) ≡ found v r
  one_back h = rw (encode_one v h) (scalar_one v r (row_one v h))

  two_back : 0x80 ≤ v → v ≤ 0x7FF → scalar (encode v ++ r) ≡ found v r
  two_back l h =
      rw (
        encode_two v l h,
        scalar_two (0xC0 + v / 64) ((0x80 + v % 64) ∷ r) (row_two (0xC0 + v / 64) (omega arith) (omega arith)),
        follower_in 0x80 0xBF (0x80 + v % 64) r (omega arith) (omega arith),
      )
      (ap (λ (k : ℕ). found k r) (omega arith))

  three_back : (low high : ℕ) → row_of (0xE0 + v / 64 / 64) ≡ three low high → 0x800 ≤ v → v ≤ 0xFFFF → low ≤ 0x80 + v / 64 % 64 → 0x80 + v / 64 % 64 ≤ high
      → scalar (encode v ++ r) ≡ found v r
  three_back low high e l h f t =
      rw (
        encode_three v l h,
        scalar_three (0xE0 + v / 64 / 64) ((0x80 + v / 64 % 64) ∷ (0x80 + v % 64) ∷ r) low high e,
        follower_in low high (0x80 + v / 64 % 64) ((0x80 + v % 64) ∷ r) f t,
        follower_in 0x80 0xBF (0x80 + v % 64) r (omega arith) (omega arith),
      )
      (ap (λ (k : ℕ). found k r) (omega arith))

  four_back : (low high : ℕ) → row_of (0xF0 + v / 64 / 64 / 64) ≡ four low high → 0x10000 ≤ v → low ≤ 0x80 + v / 64 / 64 % 64 → 0x80 + v / 64 / 64 % 64 ≤ high
      → scalar (encode v ++ r) ≡ found v r
  four_back low high e l f t =
      rw (
        encode_four v l,
        scalar_four (0xF0 + v / 64 / 64 / 64) ((0x80 + v / 64 / 64 % 64) ∷ (0x80 + v / 64 % 64) ∷ (0x80 + v % 64) ∷ r) low high e,
        follower_in low high (0x80 + v / 64 / 64 % 64) ((0x80 + v / 64 % 64) ∷ (0x80 + v % 64) ∷ r) f t,
        follower_in 0x80 0xBF (0x80 + v / 64 % 64)
            ((0x80 + v % 64) ∷ r) (omega arith) (omega arith),
        follower_in 0x80 0xBF (0x80 + v % 64) r (omega arith) (omega arith),
      )
      (ap (λ (k : ℕ). found k r) (omega arith))

  -- the values below the surrogates, and those above, row by row
  below_back : v ≤ 0xD7FF → scalar (encode v ++ r) ≡ found v r
  below_back h =
      up_to v 0x7F one_back
      (λ l. up_to v 0x7FF (two_back l)
      (λ l. up_to v 0xFFF (λ k. three_back 0xA0 0xBF (row_e0 _ (omega arith)) l (omega arith) (omega arith) (omega arith))
      (λ l. up_to v 0xCFFF (λ k. three_back 0x80 0xBF (row_e1 _ (omega arith) (omega arith)) (omega arith) (omega arith) (omega arith) (omega arith))
      (λ l. three_back 0x80 0x9F (row_ed _ (omega arith)) (omega arith) (omega arith) (omega arith) (omega arith)))))

  above_back : 0xE000 ≤ v → v ≤ 0x10FFFF → scalar (encode v ++ r) ≡ found v r
  above_back l h =
      up_to v 0xFFFF (λ k. three_back 0x80 0xBF (row_ee _ (omega arith) (omega arith)) (omega arith) k (omega arith) (omega arith))
      (λ l. up_to v 0x3FFFF (λ k. four_back 0x90 0xBF (row_f0 _ (omega arith)) l (omega arith) (omega arith))
      (λ k. up_to v 0xFFFFF (λ m. four_back 0x80 0xBF (row_f1 _ (omega arith) (omega arith)) l (omega arith) (omega arith))
      (λ m. four_back 0x80 0x8F (row_f4 _ (omega arith)) l (omega arith) (omega arith))))

  pub scalar_encode : is_scalar v ≡ true → scalar (encode v ++ r) ≡ found v r
  scalar_encode e = by_scalar v e below_back above_back

-- ---- what is left is shorter

pub encode_some : (v : ℕ) → 0 < length (encode v)
encode_some v =
    up_to v 0x7F (λ h. rw (encode_one v h) (omega arith))
    (λ l. up_to v 0x7FF (λ h. rw (encode_two v l h) (omega arith))
    (λ l. up_to v 0xFFFF (λ h. rw (encode_three v l h) (omega arith)) (λ l. rw (encode_four v l) (omega arith))))

-- the bytes behind the first one are those of no character of ASCII
pub encode_high : (v : ℕ) → all (leb 0x80) (drop 1 (encode v)) ≡ true
unfolding all
encode_high v =
    up_to v 0x7F (λ h. rw (encode_one v h))
    (λ l. up_to v 0x7FF (λ h. rw (encode_two v l h, high (v % 64)))
    (λ l. up_to v 0xFFFF (λ h. rw (encode_three v l h, high (v / 64 % 64), high (v % 64)))
    (λ l. rw (encode_four v l, high (v / 64 / 64 % 64), high (v / 64 % 64), high (v % 64)))))
  where
    high : (c : ℕ) → leb 0x80 (0x80 + c) ≡ true
    high c = le-leb 0x80 (0x80 + c) (omega arith)

pub spelt_shorter : {s : List ℕ} {v : ℕ} {left : List ℕ} → Spelt s v left → length left < length s
spelt_shorter {s} {v} {left} h = rw (h.whole, length-append) (omega (arith, encode_some v))

pub scalar_shorter : (s : List ℕ) (v : ℕ) (left : List ℕ) → scalar s ≡ found v left → length left < length s
scalar_shorter s v left e = spelt_shorter (scalar_sound s v left e)

-- ---- the scalar values of a list, one after another

pub scalars_nil : (fuel : ℕ) → scalars fuel [] ≡ found [] []
unfolding scalars
scalars_nil zero = refl
scalars_nil (suc fuel) = refl

module _ (fuel b : ℕ) (l : List ℕ) where
  pub scalars_broken : (n : ℕ) (r : List ℕ) → scalar (b ∷ l) ≡ fault n r → scalars (suc fuel) (b ∷ l) ≡ fault 3 (b ∷ l)
  unfolding scalars
  scalars_broken n r e = rw (e, scalars)

  module _ (v : ℕ) (r : List ℕ) (e : scalar (b ∷ l) ≡ found v r) where
    pub scalars_stop : may_stand v r ≡ false → scalars (suc fuel) (b ∷ l) ≡ fault 3 (b ∷ l)
    unfolding scalars
    scalars_stop m = rw (e, scalars) (rw (m, scalars))

    pub scalars_on : may_stand v r ≡ true → scalars (suc fuel) (b ∷ l) ≡ and_then (scalars fuel r) (λ vs q. found (v ∷ vs) q)
    unfolding scalars
    scalars_on m = rw (e, scalars) (rw (m, scalars))

-- the three ways of a list that is not empty: no sequence, a value that may not stand, one that may
pub by_first : {X : Type 0} (b : ℕ) (l : List ℕ)
    → ((n : ℕ) (r : List ℕ) → scalar (b ∷ l) ≡ fault n r → X)
    → ((v : ℕ) (r : List ℕ) → scalar (b ∷ l) ≡ found v r → may_stand v r ≡ false → X)
    → ((v : ℕ) (r : List ℕ) → scalar (b ∷ l) ≡ found v r → may_stand v r ≡ true → X) → X
by_first {X} b l broken stop on = go (scalar (b ∷ l)) refl
  where
    go : (x : Found ℕ) → scalar (b ∷ l) ≡ x → X
    go (fault n r) e = broken n r e
    go (found v r) e = split (may_stand v r) (on v r e) (stop v r e)

-- the fuel does not matter above the length
pub scalars_fuel : (f g : ℕ) (s : List ℕ) → length s ≤ f → length s ≤ g → scalars f s ≡ scalars g s
scalars_fuel zero g [] h k = scalars_nil zero ∙ sym (scalars_nil g)
scalars_fuel zero g (b ∷ l) h k = absurd (omega arith)
scalars_fuel (suc f) zero [] h k = scalars_nil (suc f) ∙ sym (scalars_nil zero)
scalars_fuel (suc f) zero (b ∷ l) h k = absurd (omega arith)
scalars_fuel (suc f) (suc g) [] h k = scalars_nil (suc f) ∙ sym (scalars_nil (suc g))
scalars_fuel (suc f) (suc g) (b ∷ l) h k =
    by_first b l
    (λ n r e. scalars_broken f b l n r e ∙ sym (scalars_broken g b l n r e))
    (λ v r e m. scalars_stop f b l v r e m ∙ sym (scalars_stop g b l v r e m))
    (λ v r e m.
    let less = scalar_shorter (b ∷ l) v r e in
    scalars_on f b l v r e m ∙ ap (λ (x : Found (List ℕ)). and_then x (λ vs q. found (v ∷ vs) q)) (scalars_fuel f g r (omega arith) (omega arith))
    ∙ sym (scalars_on g b l v r e m))

-- ---- what a checked list is made of

pub record Made (s vs left : List ℕ) : Type 0 where
  pub empty : left ≡ []
  pub right : all is_scalar vs ≡ true
  pub whole : s ≡ encode_all vs

made_none : Made [] [] []
unfolding all encode_all
made_none = record { empty = refl; right = refl; whole = refl }

made_more : (s r : List ℕ) (v : ℕ) (vs left : List ℕ) → Spelt s v r → Made r vs left → Made s (v ∷ vs) left
unfolding all encode_all
made_more s r v vs left h m =
    record { empty = m.empty; right = rw (h.right, all) m.right; whole = h.whole ∙ ap (λ (l : List ℕ). encode v ++ l) m.whole }

made : (fuel : ℕ) (s : List ℕ) → length s ≤ fuel → Finds (Made s) (scalars fuel s)
made zero [] h = rw (scalars_nil zero, Finds) made_none
made zero (b ∷ l) h = absurd (omega arith)
made (suc fuel) [] h = rw (scalars_nil (suc fuel), Finds) made_none
made (suc fuel) (b ∷ l) h =
    by_first b l
    (λ n r e. rw (scalars_broken fuel b l n r e, Finds) tt)
    (λ v r e m. rw (scalars_stop fuel b l v r e m, Finds) tt)
    (λ v r e m.
    let less = scalar_shorter (b ∷ l) v r e in
    rw (scalars_on fuel b l v r e m)
    (finds_then (Made r) (Made (b ∷ l)) _ (scalars fuel r) (made fuel r (omega arith))
    (λ vs left k. made_more (b ∷ l) r v vs left (scalar_sound (b ∷ l) v r e) k)))

pub sheet_made : (s vs left : List ℕ) → sheet_bytes s ≡ found vs left → Made s vs left
unfolding sheet_bytes
sheet_made s vs left e = rw e at (finds s)
  where
    finds : (s : List ℕ) → Finds (Made s) (sheet_bytes s)
    finds s = split (starts_with byte_order_mark s) (λ m. rw (m, Finds) tt) (λ m. rw (m, sheet_bytes) (made (length s) s (omega arith)))

no_bytes : {X : Type 0} (v : ℕ) (vs : List ℕ) → encode_all (v ∷ vs) ≡ [] → X
unfolding encode_all
no_bytes v vs e = absurd (omega (arith, ap length e, length-append (encode v) (encode_all vs), encode_some v))

first_same : (v w : ℕ) (r q : List ℕ) → is_scalar v ≡ true → is_scalar w ≡ true → encode v ++ r ≡ encode w ++ q → (v ≡ w) × (r ≡ q)
first_same v w r q p k e =
    let x : found v r ≡ found w q = sym (scalar_encode v r p) ∙ ap scalar e ∙ scalar_encode w q k in
    (cc, cc)

-- and it is the only one: two lists of scalar values with the same bytes are one list
pub encode_only : (vs ws : List ℕ) → all is_scalar vs ≡ true → all is_scalar ws ≡ true → encode_all vs ≡ encode_all ws → vs ≡ ws
unfolding encode_all
encode_only [] [] p q e = refl
encode_only [] (w ∷ ws) p q e = no_bytes w ws (sym e)
encode_only (v ∷ vs) [] p q e = no_bytes v vs e
encode_only (v ∷ vs) (w ∷ ws) p q e =
    let a = all_head is_scalar v vs p in
    let b = all_head is_scalar w ws q in
    let same = first_same v w (encode_all vs) (encode_all ws) a.0 b.0 e in
    rw same.0 (ap (λ (l : List ℕ). w ∷ l) (encode_only vs ws a.1 b.1 same.1))
