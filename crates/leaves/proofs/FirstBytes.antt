-- Words by their first byte: which kinds can fit, and tokens. Over plain lists. Assumes nothing.
-- Document 01, "The grammar", Values.
use Prim.Native.Nat.{ℕ, ◌≤◌, ◌<◌}
use mathlib.Core.Path.{◌≡◌, refl, sym, ap, ◌∙◌}
use mathlib.Core.Bool.{true, false, ◌||◌}
use mathlib.Core.List.Memᴰ.{head as first}
use mathlib.Core.List.Memᴰ.{tail as later}
use mathlib.Core.List.{List, [], ◌∷◌, Memᴰ as Among}
use mathlib.Core.Logic.{◌⊎◌, inl, inr, ⊎_elim}
use native.Mathlib.Omega.{arith}
use lib.ListN.{length, get_or}
use lib.Dec.{eqb}
use borrow.Author.Tests.{eqb-true, eq-eqb}
use Rattle.paper.specs.Found.{pick}
use Rattle.paper.specs.Bytes.{byte, bytes, within, is_upper, is_lower, is_digit, is_letter, is_name_byte, is_hex, elem, same, starts_in, length_in}
use Rattle.paper.specs.Values.{is_token, is_uuid, is_iri, word_form}
use Rattle.paper.proofs.Tests.{true_false, either, in_range, up_to}
use Rattle.paper.proofs.WordKinds.{Kind, boolean, integer, decimal, scientific, fraction, pascal, camel, uuid, iri}
use Rattle.paper.proofs.WordKinds.{fits, form_of, first_form, kinds, word_form_lem, by_kind, digit_or, hex_dash, beginning, kind_first, by_first}
use Rattle.text.proofs.Places.{part_rest}
use Rattle.leaves.proofs.Runs.{starts_first, from}
use Rattle.leaves.proofs.Integers.{one_of_two}
use Rattle.leaves.specs.Kinds.{number_form, is_named, lettered_form, numeral_form}
use Rattle.paper.proofs.Lists.{all_run}

-- ---- tokens

pub named_empty : (low high : ℕ) (w : List ℕ) → length w < 1 → false ≡ is_named low high w
unfolding is_named starts_in
named_empty low high [] h = refl
named_empty low high (b ∷ w) h = absurd (omega arith)

module _ (low high : ℕ) (w : List ℕ) (h : 1 ≤ length w) where
  pub named_other : within low high (get_or w 0 0) ≡ false → false ≡ is_named low high w
  unfolding is_named
  named_other e = rw (starts_first (within low high) w h, e)

  pub named_run : (end : ℕ) → end ≡ length_in is_name_byte w → within low high (get_or w 0 0) ≡ true → eqb end (length w) ≡ is_named low high w
  unfolding is_named
  named_run end r e = rw (starts_first (within low high) w h, e, ← all_run is_name_byte w) (ap (λ (k : ℕ). eqb k (length w)) r)

-- ---- the bytes that a class of first bytes has

module _ {X : Type 0} (b : ℕ) where
  by_range_lem : (low high : ℕ) → within low high b ≡ true → (low ≤ b → b ≤ high → X) → X
  by_range_lem low high e so = let h = in_range low high b e in so h.0 h.1

  by_letter : is_letter b ≡ true → (0x41 ≤ b → b ≤ 0x5A → X) → (0x61 ≤ b → b ≤ 0x7A → X) → X
  unfolding is_letter is_upper is_lower
  by_letter e upper lower = either (within 0x41 0x5A b) (within 0x61 0x7A b) e (λ f. by_range_lem 0x41 0x5A f upper) (λ f. by_range_lem 0x61 0x7A f lower)

  by_numeral : digit_or (bytes "+-") b ≡ true → (0x30 ≤ b → b ≤ 0x39 → X) → (b ≡ byte "+" → X) → (b ≡ byte "-" → X) → X
  unfolding is_digit elem
  by_numeral e digit plus minus =
      either (within 0x30 0x39 b) (eqb b (byte "+") || (eqb b (byte "-") || false)) e (λ f. by_range_lem 0x30 0x39 f digit)
      (λ f. either (eqb b (byte "+")) (eqb b (byte "-") || false) f (λ q. plus (eqb-true b (byte "+") q))
      (λ g. either (eqb b (byte "-")) false g (λ q. minus (eqb-true b (byte "-") q)) (λ z. true_false (sym z))))

  by_hex : hex_dash b ≡ true → (0x30 ≤ b → b ≤ 0x39 → X) → (0x41 ≤ b → b ≤ 0x46 → X) → (0x61 ≤ b → b ≤ 0x66 → X) → (b ≡ byte "-" → X) → X
  unfolding is_hex is_digit elem
  by_hex e digit upper lower minus =
      either ((within 0x30 0x39 b || within 0x41 0x46 b) || within 0x61 0x66 b) (eqb b (byte "-") || false) e
      (λ f. either (within 0x30 0x39 b || within 0x41 0x46 b) (within 0x61 0x66 b) f
      (λ g. either (within 0x30 0x39 b) (within 0x41 0x46 b) g (λ r. by_range_lem 0x30 0x39 r digit) (λ r. by_range_lem 0x41 0x46 r upper))
      (λ r. by_range_lem 0x61 0x66 r lower))
      (λ f. either (eqb b (byte "-")) false f (λ q. minus (eqb-true b (byte "-") q)) (λ z. true_false (sym z)))

  by_boolean : elem b (bytes "tf") ≡ true → (b ≡ byte "t" → X) → (b ≡ byte "f" → X) → X
  unfolding elem
  by_boolean e t f =
      either (eqb b (byte "t")) (eqb b (byte "f") || false) e (λ q. t (eqb-true b (byte "t") q))
      (λ g. either (eqb b (byte "f")) false g (λ q. f (eqb-true b (byte "f") q)) (λ z. true_false (sym z)))

-- ---- which kinds can fit

abbrev pub Letter : ℕ → Type 0
Letter b = ((0x41 ≤ b) × (b ≤ 0x5A)) ⊎ ((0x61 ≤ b) × (b ≤ 0x7A))

abbrev pub Numeral : ℕ → Type 0
Numeral b = ((b ≡ byte "+") ⊎ (b ≡ byte "-")) ⊎ ((0x30 ≤ b) × (b ≤ 0x39))

pub letter_of : (b : ℕ) → 0x41 ≤ b → b ≤ 0x7A → (0x5A < b → 0x61 ≤ b) → Letter b
letter_of b l h gap = up_to b 0x5A (λ k. inl (l, k)) (λ k. inr (gap k, h))

pub numeral_of : (b : ℕ) → (b < 0x30 → (b ≡ byte "+" → ⊥) → b ≡ byte "-") → b ≤ 0x39 → Numeral b
numeral_of b signed h = up_to 0x30 b (λ k. inr (k, h)) (λ k. inl (one_of_two b (byte "+") (byte "-") (signed k)))

-- a byte that begins no word
pub record Beginless (b : ℕ) : Type 0 where
  pub pascal : b ≡ byte "$" → ⊥
  pub camel : b ≡ byte "~" → ⊥
  pub plus : b ≡ byte "+" → ⊥
  pub minus : b ≡ byte "-" → ⊥
  pub digit : 0x30 ≤ b → b ≤ 0x39 → ⊥
  pub upper : 0x41 ≤ b → b ≤ 0x5A → ⊥
  pub lower : 0x61 ≤ b → b ≤ 0x7A → ⊥

letter_bounds : (b : ℕ) → Letter b → (0x41 ≤ b) × (b ≤ 0x7A)
letter_bounds b l = ⊎_elim (λ h. omega arith) (λ h. omega arith) l

numeral_bounds : (b : ℕ) → Numeral b → (0x2B ≤ b) × (b ≤ 0x39)
numeral_bounds b n = ⊎_elim (⊎_elim (λ h. omega arith) (λ h. omega arith)) (λ h. omega arith) n

-- what the first bytes of a kind are
letter : (b : ℕ) → is_letter b ≡ true → Letter b
letter b e = by_letter b e (λ l h. inl (l, h)) (λ l h. inr (l, h))

boolean_letter : (b : ℕ) → elem b (bytes "tf") ≡ true → Letter b
boolean_letter b e = by_boolean b e (λ q. inr (omega arith)) (λ q. inr (omega arith))

numeral : (b : ℕ) → digit_or (bytes "+-") b ≡ true → Numeral b
numeral b e = by_numeral b e (λ l h. inr (l, h)) (λ q. inl (inl q)) (λ q. inl (inr q))

hex_either : (b : ℕ) → hex_dash b ≡ true → Letter b ⊎ Numeral b
hex_either b e = by_hex b e (λ l h. inr (inr (l, h))) (λ l h. inl (inl (omega arith))) (λ l h. inl (inr (omega arith))) (λ q. inr (inl (inr q)))

module _ (b : ℕ) where
  letter_kinds : Letter b → (k : Kind) → beginning k b ≡ true → Among k (boolean ∷ uuid ∷ iri ∷ [])
  letter_kinds l boolean e = first refl
  letter_kinds l integer e = absurd (omega (arith, letter_bounds b l, numeral_bounds b (numeral b e)))
  letter_kinds l decimal e = absurd (omega (arith, letter_bounds b l, numeral_bounds b (numeral b e)))
  letter_kinds l scientific e = absurd (omega (arith, letter_bounds b l, numeral_bounds b (numeral b e)))
  letter_kinds l fraction e = absurd (omega (arith, letter_bounds b l, numeral_bounds b (numeral b e)))
  letter_kinds l pascal e = absurd (omega (arith, letter_bounds b l, eqb-true b (byte "$") e))
  letter_kinds l camel e = absurd (omega (arith, letter_bounds b l, eqb-true b (byte "~") e))
  letter_kinds l uuid e = later (first refl)
  letter_kinds l iri e = later (later (first refl))

  numeral_kinds : Numeral b → (k : Kind) → beginning k b ≡ true → Among k (uuid ∷ integer ∷ decimal ∷ scientific ∷ fraction ∷ [])
  numeral_kinds n boolean e = absurd (omega (arith, numeral_bounds b n, letter_bounds b (boolean_letter b e)))
  numeral_kinds n integer e = later (first refl)
  numeral_kinds n decimal e = later (later (first refl))
  numeral_kinds n scientific e = later (later (later (first refl)))
  numeral_kinds n fraction e = later (later (later (later (first refl))))
  numeral_kinds n pascal e = absurd (omega (arith, numeral_bounds b n, eqb-true b (byte "$") e))
  numeral_kinds n camel e = absurd (omega (arith, numeral_bounds b n, eqb-true b (byte "~") e))
  numeral_kinds n uuid e = first refl
  numeral_kinds n iri e = absurd (omega (arith, numeral_bounds b n, letter_bounds b (letter b e)))

  -- a byte that is neither begins at most a token
  no_kinds : (Letter b → ⊥) → (Numeral b → ⊥) → (ks : List Kind) → (eqb b (byte "$") ≡ true → Among pascal ks) → (eqb b (byte "~") ≡ true → Among camel ks)
      → (k : Kind) → beginning k b ≡ true → Among k ks
  no_kinds l n ks p c boolean e = absurd (l (boolean_letter b e))
  no_kinds l n ks p c integer e = absurd (n (numeral b e))
  no_kinds l n ks p c decimal e = absurd (n (numeral b e))
  no_kinds l n ks p c scientific e = absurd (n (numeral b e))
  no_kinds l n ks p c fraction e = absurd (n (numeral b e))
  no_kinds l n ks p c pascal e = p e
  no_kinds l n ks p c camel e = c e
  no_kinds l n ks p c uuid e = ⊎_elim (λ h. absurd (l h)) (λ h. absurd (n h)) (hex_either b e)
  no_kinds l n ks p c iri e = absurd (l (letter b e))

-- ---- the form by the first byte

pub form_empty : (w : List ℕ) → length w ≡ 0 → 0 ≡ word_form w
unfolding starts_in
form_empty [] h = sym (by_kind kinds [] (λ k e q. true_false (sym (kind_first k [] e))) (λ z. word_form_lem [] ∙ z))
form_empty (b ∷ l) h = absurd (omega arith)

pub form_letters : (w : List ℕ) → Letter (get_or w 0 0) → lettered_form w ≡ word_form w
unfolding lettered_form first_form
form_letters [] l = absurd (omega (arith, letter_bounds 0 l))
form_letters (b ∷ w) l = sym (by_first (boolean ∷ uuid ∷ iri ∷ []) b w (letter_kinds b l))

pub form_numerals : (w : List ℕ) → Numeral (get_or w 0 0) → numeral_form w ≡ word_form w
unfolding numeral_form number_form first_form
form_numerals [] n = absurd (omega (arith, numeral_bounds 0 n))
form_numerals (b ∷ w) n = sym (by_first (uuid ∷ integer ∷ decimal ∷ scientific ∷ fraction ∷ []) b w (numeral_kinds b n))

pub form_none : (w : List ℕ) → (1 ≤ length w → Beginless (get_or w 0 0)) → 0 ≡ word_form w
unfolding first_form
form_none [] none = form_empty [] refl
form_none (b ∷ w) none =
    let n = none (omega arith) in
    sym (by_first [] b w (no_kinds b (⊎_elim (λ r. n.upper r.0 r.1) (λ r. n.lower r.0 r.1)) (⊎_elim (⊎_elim n.plus n.minus) (λ r. n.digit r.0 r.1)) []
    (λ e. absurd (n.pascal (eqb-true b (byte "$") e))) (λ e. absurd (n.camel (eqb-true b (byte "~") e)))))

-- a token of a kind that its sign tells
module _ (k : Kind) (sign low high : ℕ) (named : (w : List ℕ) → fits k (sign ∷ w) ≡ is_named low high w)
    (only : (j : Kind) → beginning j sign ≡ true → Among j (k ∷ [])) where
  token_form : (f : ℕ) (w : List ℕ) → 1 ≤ length w → get_or w 0 0 ≡ sign → f ≡ pick (is_named low high (from w 1)) (form_of k) 0 → f ≡ word_form w
  unfolding first_form
  token_form f [] h q e = absurd (omega arith)
  token_form f (b ∷ w) h q e = rw q (e ∙ rw (part_rest (b ∷ w) 1, ← named w) (sym (by_first (k ∷ []) sign w only)))

token_named : (sign low high : ℕ) (w : List ℕ) → is_token sign (within low high) (sign ∷ w) ≡ is_named low high w
unfolding is_token is_named
token_named sign low high w = rw (eq-eqb sign sign refl)

module _ (f : ℕ) (w : List ℕ) (some : 1 ≤ length w) where
  pub form_pascal : get_or w 0 0 ≡ byte "$" → f ≡ pick (is_named 0x41 0x5A (from w 1)) 8 0 → f ≡ word_form w
  unfolding is_upper
  form_pascal =
      token_form pascal (byte "$") 0x41 0x5A (token_named (byte "$") 0x41 0x5A)
      (no_kinds (byte "$") (λ l. omega (arith, letter_bounds (byte "$") l)) (λ n. omega (arith, numeral_bounds (byte "$") n)) _ (λ z. first refl)
      (λ z. true_false (sym z)))
      f w some

  pub form_camel : get_or w 0 0 ≡ byte "~" → f ≡ pick (is_named 0x61 0x7A (from w 1)) 9 0 → f ≡ word_form w
  unfolding is_lower
  form_camel =
      token_form camel (byte "~") 0x61 0x7A (token_named (byte "~") 0x61 0x7A)
      (no_kinds (byte "~") (λ l. omega (arith, letter_bounds (byte "~") l)) (λ n. omega (arith, numeral_bounds (byte "~") n)) _ (λ z. true_false (sym z))
      (λ z. first refl))
      f w some

-- ---- the form of a word that begins with a letter, or with a digit or a sign

module _ (w : List ℕ) where
  pub lettered_true : same w (bytes "true") ≡ true → 3 ≡ lettered_form w
  unfolding lettered_form
  lettered_true e = rw e

  module _ (t : same w (bytes "true") ≡ false) where
    pub lettered_false : same w (bytes "false") ≡ true → 3 ≡ lettered_form w
    unfolding lettered_form
    lettered_false e = rw (t, e)

    module _ (f : same w (bytes "false") ≡ false) where
      pub lettered_uuid : is_uuid w ≡ true → 10 ≡ lettered_form w
      unfolding lettered_form
      lettered_uuid e = rw (t, f, e)

      pub lettered_iri : is_uuid w ≡ false → (form : ℕ) → form ≡ pick (is_iri w) 11 0 → form ≡ lettered_form w
      unfolding lettered_form
      lettered_iri e form q = q ∙ rw (t, f, e)

  pub numeral_uuid : is_uuid w ≡ true → 10 ≡ numeral_form w
  unfolding numeral_form
  numeral_uuid e = rw e

  pub numeral_number : is_uuid w ≡ false → number_form w ≡ numeral_form w
  unfolding numeral_form
  numeral_number e = rw e
