-- IRIs: the scalar values of a body, the body step by step, and the scheme in front. Over plain lists. Assumes nothing.
-- Document 01, "The grammar", Values; 001 §14, with the ranges of RFC 3987's ucschar; document 02, One.
use Prim.Native.Nat.{ℕ, zero, suc, ◌+◌, ◌-◌, ◌%◌, ◌≤◌, ◌<◌}
use mathlib.Core.Path.{◌≡◌, refl, sym, ◌∙◌}
use mathlib.Core.Bool.{Bool, true, false, not, ◌&&◌, ◌||◌, and-false, and-true}
use mathlib.Core.List.{List, [], ◌∷◌}
use mathlib.Core.Logic.{◌⊎◌, inl, inr, ⊎_elim}
use native.Mathlib.Omega.{arith}
use lib.ListN.{length, get_or, drop, length-drop}
use lib.Seq.{drop-drop}
use lib.Dec.{leb}
use borrow.Author.Tests.{le-leb, leb-true, leb-false, ne_eqb}
use Rattle.paper.specs.Found.{Found, found, fault}
use Rattle.paper.specs.Bytes.{byte, bytes, within, is_upper, is_lower, is_digit, is_letter, is_name_byte}
use Rattle.paper.specs.Bytes.{all, elem, starts_in, starts_with, length_in, front, behind, scalar, up_to, onward, is}
use Rattle.paper.specs.Values.{ucschar, barred, in_ranges, is_iri_scalar, is_iri_body, is_scheme, is_iri}
use Rattle.paper.proofs.Tests.{split, true_false, apart, or_right, inside, above, by_range, in_range}
use Rattle.paper.proofs.Lists.{both, elem_apart, front_all}
use Rattle.paper.proofs.Scalars.{row_one, scalar_one, scalar_shorter}
use Rattle.text.specs.declared.utf8.Step.{Step}
use Rattle.text.specs.Steps.{step_at}
use Rattle.text.proofs.Places.{here, part_rest}
use Rattle.leaves.specs.Kinds.{stands_ascii}
use Rattle.text.proofs.Steps.{Stepped, ended, failed}
use Rattle.leaves.proofs.Ranges.{every, every_in, clear, clear_out, covered, covered_in, planes, in_planes}
use Rattle.leaves.proofs.Runs.{from, part_size, one_there, one_missing, starts_one, ends_at, mark_ends, no_mark_ends, up_to_run, up_to_more}

-- ---- scalar values

-- the bytes of ASCII beside letters and digits
abbrev marks : List ℕ
marks = bytes "-._~:/?#[]@!$&'()*+,;=%"

module _ (v : ℕ) where
  outside : (low high : ℕ) → (low ≤ v → v ≤ high → ⊥) → within low high v ≡ false
  outside low high n = by_range low high v (λ l h e. absurd (n l h)) (λ e. e)

  -- those beyond ASCII
  iri_high : 0x80 ≤ v → in_ranges ucschar v && not (in_ranges barred v) ≡ is_iri_scalar v
  unfolding is_iri_scalar is_name_byte is_letter is_upper is_lower is_digit elem all
  iri_high h =
      rw (
        above 0x41 0x5A v (omega arith),
        above 0x61 0x7A v (omega arith),
        above 0x30 0x39 v (omega arith),
        elem_apart (leb 0x80) v marks (le-leb 0x80 v h) refl,
      )

  -- a stretch that a range takes and request One's list leaves, one that no range takes, and one that lies in the list
  pub iri_taken : (low high : ℕ) → covered low high ucschar && clear low high barred ≡ true → 0x80 ≤ low → low ≤ v → v ≤ high → true ≡ is_iri_scalar v
  iri_taken low high e k l h =
      let t = both (covered low high ucschar) (clear low high barred) e in
      rw (covered_in low high v l h ucschar t.0, clear_out low high v l h barred t.1) at (iri_high (omega arith))

  pub iri_out : (low high : ℕ) → clear low high ucschar ≡ true → 0x80 ≤ low → low ≤ v → v ≤ high → false ≡ is_iri_scalar v
  iri_out low high e k l h = rw (clear_out low high v l h ucschar e) at (iri_high (omega arith))

  pub iri_barred : (low n : ℕ) → every (in_ranges barred) low n ≡ true → 0x80 ≤ low → low ≤ v → v < low + n → false ≡ is_iri_scalar v
  iri_barred low n e k l h = rw (every_in (in_ranges barred) n low v e l h, and-false (in_ranges ucschar v)) at (iri_high (omega arith))

  -- the first gap: controls, and the first letter of the list
  pub iri_first_gap : 0x80 ≤ v → v ≤ 0xA0 → false ≡ is_iri_scalar v
  unfolding in_ranges
  iri_first_gap l h =
      split (leb v 0x9F) (λ k. iri_out 0x80 0x9F refl (omega arith) l (leb-true v 0x9F k))
      (λ k. iri_barred 0xA0 1 refl (omega arith) (omega (arith, leb-false v 0x9F k)) (omega arith))

  -- from U+10000 on: thirteen planes, and the last range behind them
  planes_only : 0x10000 ≤ v → in_ranges ucschar v ≡ in_ranges (planes 1 13 ((0xE1000, 0xEFFFD) ∷ [])) v
  unfolding in_ranges
  planes_only l = rw (above 0xA0 0xD7FF v (omega arith), above 0xF900 0xFDCF v (omega arith), above 0xFDF0 0xFFEF v (omega arith))

  pub iri_planes : 0x10000 ≤ v → v ≤ 0xDFFFF → leb (v % 0x10000) 0xFFFD ≡ is_iri_scalar v
  iri_planes l h =
      in_planes v ((0xE1000, 0xEFFFD) ∷ []) (clear_out 0x10000 0xDFFFF v l h ((0xE1000, 0xEFFFD) ∷ []) refl) 13 1 l (omega arith)
      ∙ sym (planes_only l)
      ∙ rw (clear_out 0x10000 0xDFFFF v l h barred refl, and-true (in_ranges ucschar v)) at (iri_high (omega arith))

-- ---- bytes of ASCII

agree : Bool → Bool → Bool
agree true q = q
agree false q = not q

agree_same : (p q : Bool) → agree p q ≡ true → p ≡ q
unfolding agree
agree_same true q e = sym e
agree_same false true e = e
agree_same false false e = refl

-- small letters, two ranges, and the bytes outside of them
abbrev in_ascii : ℕ → Bool
in_ascii b = (within (byte "#") (byte ";") b || within (byte "?") (byte "[") b) || (is_lower b || elem b (bytes "!=]_~"))

pub record Outside (b : ℕ) : Type 0 where
  pub first : byte "#" ≤ b → b ≤ byte ";" → ⊥
  pub second : byte "?" ≤ b → b ≤ byte "[" → ⊥
  pub mark : b ≡ byte "!" → ⊥
  pub equals : b ≡ byte "=" → ⊥
  pub square : b ≡ byte "]" → ⊥
  pub under : b ≡ byte "_" → ⊥
  pub tilde : b ≡ byte "~" → ⊥

abbrev Single : ℕ → Type 0
Single b = (b ≡ byte "!") ⊎ ((b ≡ byte "=") ⊎ ((b ≡ byte "]") ⊎ ((b ≡ byte "_") ⊎ (b ≡ byte "~"))))

module _ (b : ℕ) (h : b ≤ 0x7F) where
  in_ascii_lem : in_ascii b ≡ is_iri_scalar b
  unfolding agree is_iri_scalar in_ranges is_name_byte is_letter is_upper is_lower is_digit elem
  in_ascii_lem = agree_same (in_ascii b) (is_iri_scalar b) (every_in (λ b. agree (in_ascii b) (is_iri_scalar b)) 128 0 b refl (omega arith) (omega arith))

  ascii_in : in_ascii b ≡ true → true ≡ is_iri_scalar b
  ascii_in e = sym e ∙ in_ascii_lem

  ascii_first : byte "#" ≤ b → b ≤ byte ";" → true ≡ is_iri_scalar b
  ascii_first l k = ascii_in (rw (inside (byte "#") (byte ";") b l k))

  ascii_second : byte "?" ≤ b → b ≤ byte "[" → true ≡ is_iri_scalar b
  ascii_second l k = ascii_in (rw (outside b (byte "#") (byte ";") (λ p q. omega arith), inside (byte "?") (byte "[") b l k))

  ascii_lower : is_lower b ≡ true → true ≡ is_iri_scalar b
  ascii_lower e = ascii_in (or_right (within (byte "#") (byte ";") b || within (byte "?") (byte "[") b) _ (rw e))

  ascii_single : Single b → true ≡ is_iri_scalar b
  unfolding is_iri_scalar in_ranges is_name_byte is_letter is_upper is_lower is_digit elem
  ascii_single = ⊎_elim (λ q. rw q) (⊎_elim (λ q. rw q) (⊎_elim (λ q. rw q) (⊎_elim (λ q. rw q) (λ q. rw q))))

  ascii_out : is_lower b ≡ false → Outside b → false ≡ is_iri_scalar b
  unfolding elem
  ascii_out e n =
      rw (
        outside b (byte "#") (byte ";") n.first,
        outside b (byte "?") (byte "[") n.second,
        e,
        ne_eqb b (byte "!") n.mark,
        ne_eqb b (byte "=") n.equals,
        ne_eqb b (byte "]") n.square,
        ne_eqb b (byte "_") n.under,
        ne_eqb b (byte "~") n.tilde,
      ) at in_ascii_lem

  ascii_within : (Outside b → ⊥) → true ≡ is_iri_scalar b
  ascii_within n =
      split (is_iri_scalar b) (λ e. sym e)
      (λ e. absurd (n (record {
        first = λ l k. true_false (ascii_first l k ∙ e);
        second = λ l k. true_false (ascii_second l k ∙ e);
        mark = λ q. true_false (ascii_single (inl q) ∙ e);
        equals = λ q. true_false (ascii_single (inr (inl q)) ∙ e);
        square = λ q. true_false (ascii_single (inr (inr (inl q))) ∙ e);
        under = λ q. true_false (ascii_single (inr (inr (inr (inl q)))) ∙ e);
        tilde = λ q. true_false (ascii_single (inr (inr (inr (inr q)))) ∙ e);
      })))

module _ (b : ℕ) where
  pub lower_stands : is_lower b ≡ true → true ≡ stands_ascii b
  unfolding is_lower
  lower_stands e = let h : b ≤ 0x7F = omega (arith, in_range 0x61 0x7A b e) in rw (le-leb b 0x7F h) (ascii_lower b h e)

  pub ascii_stands : b ≤ 0x7F → (Outside b → ⊥) → true ≡ stands_ascii b
  ascii_stands h n = rw (le-leb b 0x7F h) (ascii_within b h n)

  pub ascii_falls : is_lower b ≡ false → Outside b → false ≡ stands_ascii b
  ascii_falls e n = split (leb b 0x7F) (λ k. rw k (ascii_out b (leb-true b 0x7F k) e n)) (λ k. rw k)

-- ---- a body, one scalar value at a time

body_nil : (fuel : ℕ) → is_iri_body fuel [] ≡ true
unfolding is_iri_body
body_nil zero = refl
body_nil (suc fuel) = refl

module _ (fuel b : ℕ) (l : List ℕ) where
  body_fault : (n : ℕ) (left : List ℕ) → scalar (b ∷ l) ≡ fault n left → is_iri_body (suc fuel) (b ∷ l) ≡ false
  unfolding is_iri_body
  body_fault n left e = rw (e, is_iri_body)

  body_bad : (v : ℕ) (left : List ℕ) → scalar (b ∷ l) ≡ found v left → is_iri_scalar v ≡ false → is_iri_body (suc fuel) (b ∷ l) ≡ false
  unfolding is_iri_body
  body_bad v left e f = rw (e, is_iri_body, f)

  body_good : (v : ℕ) (left : List ℕ) → scalar (b ∷ l) ≡ found v left → is_iri_scalar v ≡ true → is_iri_body (suc fuel) (b ∷ l) ≡ is_iri_body fuel left
  unfolding is_iri_body
  body_good v left e f = rw (e, is_iri_body, f)

-- fuel above the length does not matter
body_fuel : (f g : ℕ) (s : List ℕ) → length s ≤ f → length s ≤ g → is_iri_body f s ≡ is_iri_body g s
body_fuel zero g [] h k = body_nil 0 ∙ sym (body_nil g)
body_fuel zero g (b ∷ l) h k = absurd (omega arith)
body_fuel (suc f) g [] h k = body_nil (suc f) ∙ sym (body_nil g)
body_fuel (suc f) zero (b ∷ l) h k = absurd (omega arith)
body_fuel (suc f) (suc g) (b ∷ l) h k = go (scalar (b ∷ l)) refl (λ s. body_fuel f g s)
  where
    go : (x : Found ℕ) → scalar (b ∷ l) ≡ x → ((s : List ℕ) → length s ≤ f → length s ≤ g → is_iri_body f s ≡ is_iri_body g s)
        → is_iri_body (suc f) (b ∷ l) ≡ is_iri_body (suc g) (b ∷ l)
    go (fault n left) e again = body_fault f b l n left e ∙ sym (body_fault g b l n left e)
    go (found v left) e again =
        let less = scalar_shorter (b ∷ l) v left e in
        split (is_iri_scalar v)
        (λ i. body_good f b l v left e i ∙ again left (omega arith) (omega arith) ∙ sym (body_good g b l v left e i))
        (λ i. body_bad f b l v left e i ∙ sym (body_bad g b l v left e i))

-- the body from a place on
abbrev pub body_at : List ℕ → ℕ → Bool
body_at s at = is_iri_body (length (drop at s)) (drop at s)

pub body_whole : (s : List ℕ) (o : Bool) → o ≡ body_at s 0 → (fuel : ℕ) → length s ≤ fuel → o ≡ is_iri_body fuel s
body_whole s o e fuel h = e ∙ body_fuel (length s) fuel s (omega arith) h

module _ (s : List ℕ) (at : ℕ) where
  pub body_ends : Step.End ≡ step_at s at → true ≡ body_at s at
  body_ends e = rw (ended s at e) (sym (body_nil 0))

  -- what begins no sequence
  pub body_broken : Step.Broken ≡ step_at s at → false ≡ body_at s at
  body_broken e =
      let f = failed s at e in
      let r : scalar (get_or s at 0 ∷ drop (at + 1) s) ≡ fault f.number f.left = rw (here s at f.inside) at f.reads in
      rw (here s at f.inside) (sym (body_fault (length (drop (at + 1) s)) _ _ f.number f.left r))

  -- a byte of ASCII is a scalar value
  pub ascii_stepped : at < length s → get_or s at 0 ≤ 0x7F → Stepped s at (get_or s at 0) (at + 1)
  ascii_stepped h k =
      record { ahead = omega arith; inside = omega arith; reads = rw (here s at h) (scalar_one (get_or s at 0) (drop (at + 1) s) (row_one (get_or s at 0) k)) }

  module _ (v next : ℕ) (f : Stepped s at v next) where
    inside_here : at < length s
    inside_here = omega arith

    reads_here : scalar (get_or s at 0 ∷ drop (at + 1) s) ≡ found v (drop next s)
    reads_here = rw (here s at inside_here) at f.reads

    pub body_stops : is_iri_scalar v ≡ false → false ≡ body_at s at
    body_stops e = rw (here s at inside_here) (sym (body_bad (length (drop (at + 1) s)) _ _ v (drop next s) reads_here e))

    pub body_goes : is_iri_scalar v ≡ true → body_at s next ≡ body_at s at
    body_goes e =
        rw (here s at inside_here)
        (body_fuel (length (drop next s)) (length (drop (at + 1) s)) (drop next s) (omega arith) (omega (arith, length-drop (at + 1) s, length-drop next s))
        ∙ sym (body_good (length (drop (at + 1) s)) _ _ v (drop next s) reads_here e))

-- bytes of ASCII that may stand
body_more : (n : ℕ) (s : List ℕ) (at end : ℕ) → at + n ≡ end → end ≤ length s → ((i : ℕ) → at ≤ i → i < end → stands_ascii (get_or s i 0) ≡ true)
    → body_at s end ≡ body_at s at
body_more zero s at end q h each = let e : at ≡ end = omega arith in rw e
body_more (suc n) s at end q h each =
    let e = both (leb (get_or s at 0) 0x7F) (is_iri_scalar (get_or s at 0)) (each at (omega arith) (omega arith)) in
    let step = ascii_stepped s at (omega arith) (leb-true (get_or s at 0) 0x7F e.0) in
    body_more n s (at + 1) end (omega arith) h (λ i l k. each i (omega arith) k) ∙ body_goes s at (get_or s at 0) (at + 1) step e.1

pub body_over : (s : List ℕ) (at end : ℕ) → at ≤ end → end ≤ length s → ((i : ℕ) → at ≤ i → i < end → stands_ascii (get_or s i 0) ≡ true)
    → body_at s end ≡ body_at s at
body_over s at end l = body_more (end - at) s at end (omega arith)

-- ---- the scheme in front

abbrev in_scheme : ℕ → Bool
in_scheme b = is_name_byte b || elem b (bytes "+-.")

colon_apart : (b : ℕ) → in_scheme b ≡ true → is (byte ":") b ≡ false
unfolding is_name_byte is_letter is_upper is_lower is_digit elem
colon_apart b e = apart in_scheme b (byte ":") e refl

letter_in : (b : ℕ) → is_letter b ≡ true → in_scheme b ≡ true
unfolding is_name_byte
letter_in b e = rw e

-- the first byte of a part is that of the whole
no_letter : (mark : ℕ → Bool) (b : ℕ) (l : List ℕ) → is_letter b ≡ false → starts_in is_letter (up_to mark (b ∷ l)) ≡ false
unfolding length_in starts_in
no_letter mark b l e = split (mark b) (λ m. rw (m, length_in)) (λ m. rw (m, length_in) e)

first_letter : (b : ℕ) (l : List ℕ) → is_letter b ≡ true → starts_in is_letter (front in_scheme (b ∷ l)) ≡ true
unfolding length_in starts_in
first_letter b l e = rw (letter_in b e, length_in) e

module _ (w : List ℕ) (n : ℕ) (run : n ≡ length_in in_scheme w) where
  pub iri_no_colon : (1 ≤ length (from w n) → get_or (from w n) 0 0 ≡ byte ":" → ⊥) → false ≡ is_iri w
  unfolding is_iri is_scheme starts_in
  iri_no_colon none =
      let colon = is (byte ":") in
      let e : starts_with (bytes ":") (drop n w) ≡ false = rw (part_rest w n) at (one_missing (byte ":") (from w n) none) in
      split (ends_at colon (behind in_scheme w))
      (λ f. let g : drop n w ≡ [] = no_mark_ends (byte ":") (drop n w) e (rw run f) in
      let o : onward colon w ≡ [] = rw (up_to_run in_scheme colon colon_apart w f, ← run) g in
      rw (o, and-false (is_scheme (up_to colon w))))
      (λ f. rw (up_to_more in_scheme colon colon_apart w f, and-false (starts_in is_letter (up_to colon w))))

  module _ (h : 1 ≤ length (from w n)) where
    pub iri_long : 0 < length w
    iri_long = omega (arith, part_size w n)

    pub iri_no_letter : is_letter (get_or w 0 0) ≡ false → false ≡ is_iri w
    unfolding is_iri is_scheme
    iri_no_letter e =
        rw (here w 0 iri_long, no_letter (is (byte ":")) (get_or w 0 0) (drop 1 w) e)

    pub iri_body : get_or (from w n) 0 0 ≡ byte ":" → is_letter (get_or w 0 0) ≡ true → is_iri_body (length w) (from (from w n) 1) ≡ is_iri w
    unfolding is_iri is_scheme starts_in
    iri_body q l =
        let colon = is (byte ":") in
        let e : starts_with (bytes ":") (drop n w) ≡ true = rw (part_rest w n) at (one_there (byte ":") (from w n) h q) in
        let f : ends_at colon (behind in_scheme w) ≡ true = rw (← run) (mark_ends (byte ":") (drop n w) e) in
        let c : starts_in colon (drop n w) ≡ true = sym (starts_one (byte ":") (drop n w)) ∙ e in
        let s : starts_in is_letter (front in_scheme w) ≡ true = rw (here w 0 iri_long) (first_letter (get_or w 0 0) (drop 1 w) l) in
        rw (part_rest (from w n) 1, part_rest w n, up_to_run in_scheme colon colon_apart w f, s, front_all in_scheme w, ← run, c, drop-drop)
