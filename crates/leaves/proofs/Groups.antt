-- Hex digits in groups, as UUIDs have them: one group after another, and the last. Over plain lists. Assumes nothing.
-- Document 01, "The grammar", Values.
use Prim.Native.Nat.{ℕ, ◌+◌, ◌-◌, ◌≤◌}
use mathlib.Core.Path.{◌≡◌, refl, sym, ap, ◌∙◌}
use mathlib.Core.Bool.{Bool, true, false, ◌&&◌, and-true, and-false}
use mathlib.Core.List.{List, [], ◌∷◌}
use native.Mathlib.Omega.{arith}
use lib.ListN.{length, drop, length-drop}
use lib.Seq.{drop-drop, length-take-le}
use lib.Dec.{eqb}
use borrow.Author.Tests.{eqb-true, eqb-false, eq-eqb, ne_eqb}
use Rattle.paper.specs.Bytes.{byte, bytes, is_digit, is_hex, all, starts_with, length_in, behind, up_to, past, is}
use Rattle.paper.specs.Values.{hex_groups, is_uuid}
use Rattle.paper.proofs.Tests.{split, apart, true_false}
use Rattle.paper.proofs.Lists.{both, front_all, length_in_lem, all_run}
use Rattle.leaves.specs.Kinds.{is_group}
use Rattle.leaves.proofs.Runs.{ends_at, mark_ends, no_mark_ends, up_to_run, up_to_more}

dash_apart : (b : ℕ) → is_hex b ≡ true → is (byte "-") b ≡ false
unfolding is_hex is_digit
dash_apart b e = apart is_hex b (byte "-") e refl

no_groups : (k : ℕ) (ns : List ℕ) → 1 ≤ k → hex_groups (k ∷ ns) [] ≡ false
unfolding hex_groups length_in
no_groups k [] h = rw (ne_eqb 0 k (λ q. omega arith))
no_groups k (m ∷ ns) h = rw (ne_eqb 0 k (λ q. omega arith))

groups_are : (n k : ℕ) (ns w : List ℕ)
    → hex_groups (n ∷ k ∷ ns) w
    ≡ ((eqb (length (up_to (is (byte "-")) w)) n && all is_hex (up_to (is (byte "-")) w)) && hex_groups (k ∷ ns) (past (is (byte "-")) w))
unfolding hex_groups
groups_are n k ns w = refl

-- ---- one group in front

-- the byte behind a run of so many hex digits
dash_there : (n : ℕ) (w : List ℕ) → is_group n w ≡ true → (n ≡ length_in is_hex w) × (starts_with (bytes "-") (behind is_hex w) ≡ true)
unfolding is_group
dash_there n w e =
    let h = both (eqb (length_in is_hex w) n) (starts_with (bytes "-") (drop n w)) e in
    let q = eqb-true (length_in is_hex w) n h.0 in
    (sym q, rw q h.1)

dash_not : (n : ℕ) (w : List ℕ) → is_group n w ≡ false → length_in is_hex w ≡ n → starts_with (bytes "-") (behind is_hex w) ≡ false
unfolding is_group
dash_not n w e q = rw q (rw (eq-eqb (length_in is_hex w) n q) at e)

module _ (n k : ℕ) (ns : List ℕ) (w : List ℕ) where
  -- nothing follows the digits, or "-"
  dash_behind : ends_at (is (byte "-")) (behind is_hex w) ≡ true → hex_groups (n ∷ k ∷ ns) w
      ≡ (eqb (length_in is_hex w) n && hex_groups (k ∷ ns) (drop 1 (behind is_hex w)))
  dash_behind e =
      rw (groups_are n k ns w, up_to_run is_hex (is (byte "-")) dash_apart w e, length-take-le (length_in is_hex w) w (length_in_lem is_hex w), front_all is_hex w)
      (ap (λ (x : Bool). x && hex_groups (k ∷ ns) (drop 1 (behind is_hex w))) (and-true (eqb (length_in is_hex w) n)))

  group_there : is_group n w ≡ true → hex_groups (n ∷ k ∷ ns) w ≡ hex_groups (k ∷ ns) (drop (n + 1) w)
  group_there e =
      let h = dash_there n w e in
      dash_behind (mark_ends (byte "-") (behind is_hex w) h.1) ∙ rw (eq-eqb (length_in is_hex w) n (sym h.0), drop-drop 1 (length_in is_hex w) w, ← h.0)

  group_missing : 1 ≤ k → is_group n w ≡ false → hex_groups (n ∷ k ∷ ns) w ≡ false
  group_missing some e =
      split (ends_at (is (byte "-")) (behind is_hex w))
      (λ f. dash_behind f ∙ split (eqb (length_in is_hex w) n)
      (λ q. rw (q, no_mark_ends (byte "-") (behind is_hex w) (dash_not n w e (eqb-true (length_in is_hex w) n q)) f, no_groups k ns some))
      (λ q. rw q))
      (λ f. rw (groups_are n k ns w, up_to_more is_hex (is (byte "-")) dash_apart w f, and-false (eqb (length (up_to (is (byte "-")) w)) n)))

-- ---- the last group

last_group : (n : ℕ) (w : List ℕ) → hex_groups (n ∷ []) w ≡ (eqb (length w) n && eqb (length_in is_hex w) n)
unfolding hex_groups
last_group n w = split (eqb (length w) n) (λ e. rw (e, ← all_run is_hex w, eqb-true (length w) n e)) (λ e. rw e)

-- ---- at a place

module _ (w : List ℕ) (at size end : ℕ) (run : end ≡ at + length_in is_hex (drop at w)) where
  pub group_at : (o : Bool) → end - at ≡ size → o ≡ starts_with (bytes "-") (drop end w) → o ≡ is_group size (drop at w)
  unfolding is_group
  group_at o e f =
      let n : length_in is_hex (drop at w) ≡ size = omega arith in
      let q : at + size ≡ end = omega arith in
      rw (eq-eqb (length_in is_hex (drop at w)) size n, drop-drop, q) f

  pub not_group : (end - at ≡ size → ⊥) → eqb (end - at) size ≡ is_group size (drop at w)
  unfolding is_group
  not_group e = rw (ne_eqb (end - at) size e, ne_eqb (length_in is_hex (drop at w)) size (λ q. e (omega arith)))

-- ---- what code leaves of `p && q`: the first half where that fails, else the second

pub both_first : {v p : Bool} (q : Bool) → p ≡ false → v ≡ p → v ≡ (p && q)
both_first q e f = f ∙ rw e

pub both_second : {v p q : Bool} → p ≡ true → v ≡ q → v ≡ (p && q)
both_second e f = rw e f

-- ---- a UUID: its size, and one group after another

-- the groups but the last, and the size
abbrev pub up_to_last : List ℕ → Bool
up_to_last w = (((eqb (length w) 36 && is_group 8 w) && is_group 4 (drop 9 w)) && is_group 4 (drop 14 w)) && is_group 4 (drop 19 w)

group_is : (n k : ℕ) (ns w : List ℕ) → 1 ≤ k → hex_groups (n ∷ k ∷ ns) w ≡ (is_group n w && hex_groups (k ∷ ns) (drop (n + 1) w))
group_is n k ns w some = split (is_group n w) (λ e. rw e (group_there n k ns w e)) (λ e. rw e (group_missing n k ns w some e))

module _ (w : List ℕ) where
  uuid_is : is_uuid w ≡ (is_group 8 w && (is_group 4 (drop 9 w) && (is_group 4 (drop 14 w) && (is_group 4 (drop 19 w)
      && (eqb (length (drop 24 w)) 12 && eqb (length_in is_hex (drop 24 w)) 12)))))
  uuid_is =
      group_is 8 4 _ w (omega arith)
      ∙ rw (
        group_is 4 4 (4 ∷ 12 ∷ []) (drop 9 w) (omega arith),
        drop-drop 5 9 w,
        group_is 4 4 (12 ∷ []) (drop 14 w) (omega arith),
        drop-drop 5 14 w,
        group_is 4 12 [] (drop 19 w) (omega arith),
        drop-drop 5 19 w,
        last_group 12 (drop 24 w),
      )

  pub uuid_of : (end : ℕ) → end ≡ 24 + length_in is_hex (drop 24 w) → up_to_last w ≡ true → eqb end 36 ≡ is_uuid w
  uuid_of end run e =
      let d = both (((eqb (length w) 36 && is_group 8 w) && is_group 4 (drop 9 w)) && is_group 4 (drop 14 w)) (is_group 4 (drop 19 w)) e in
      let c = both ((eqb (length w) 36 && is_group 8 w) && is_group 4 (drop 9 w)) (is_group 4 (drop 14 w)) d.0 in
      let b = both (eqb (length w) 36 && is_group 8 w) (is_group 4 (drop 9 w)) c.0 in
      let a = both (eqb (length w) 36) (is_group 8 w) b.0 in
      let n : length (drop 24 w) ≡ 12 = omega (arith, length-drop 24 w, eqb-true (length w) 36 a.0) in
      rw (uuid_is, a.1, b.1, c.1, d.1, eq-eqb (length (drop 24 w)) 12 n)
      (split (eqb (length_in is_hex (drop 24 w)) 12)
      (λ q. let m = eqb-true (length_in is_hex (drop 24 w)) 12 q in rw (q, eq-eqb end 36 (omega arith)))
      (λ q. rw (q, ne_eqb end 36 (λ m. eqb-false (length_in is_hex (drop 24 w)) 12 q (omega arith)))))

  pub uuid_not : up_to_last w ≡ false → false ≡ is_uuid w
  uuid_not e =
      rw uuid_is
      (split (is_group 8 w) (λ a. rw a
      (split (is_group 4 (drop 9 w)) (λ b. rw b
      (split (is_group 4 (drop 14 w)) (λ c. rw c
      (split (is_group 4 (drop 19 w)) (λ d. rw d
      (let size : eqb (length w) 36 ≡ false = split (eqb (length w) 36) (λ s. true_false (rw (s, a, b, c, d) at e)) (λ s. s) in
      rw (ne_eqb (length (drop 24 w)) 12 (λ n. eqb-false (length w) 36 size (omega (arith, length-drop 24 w))))))
      (λ d. rw d))) (λ c. rw c))) (λ b. rw b))) (λ a. rw a))
