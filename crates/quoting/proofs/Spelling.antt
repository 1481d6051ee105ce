-- Spellings between quotes: which piece stands at a place, and what is put for it. Document 01, "Canonical form". Assumes nothing.
use Prim.Native.Nat.{ℕ, ◌+◌, ◌-◌, ◌≤◌, ◌<◌, ◌/◌, ◌%◌, min}
use mathlib.Core.Path.{◌≡◌, refl, sym, ap, ◌∙◌}
use mathlib.Core.Bool.{true, false, ◌&&◌, ◌||◌}
use mathlib.Core.List.{List, [], ◌∷◌, ◌++◌}
use native.Mathlib.Omega.{arith}
use lib.ListN.{length, take, drop, get_or, length-append, length-drop, drop_of_length-le}
use lib.Seq.{take-append_seam, drop-append_seam, drop-drop}
use lib.Dec.{eqb, leb, ltb}
use borrow.Author.Tests.{ne_eqb, eqb-true, eq-eqb, leb-true, le-leb, lt-leb}
use Rattle.paper.specs.Bytes.{byte, bytes, is_digit, is_hex, is_scalar, all, elem, starts_with, starts_in, length_in, encode, within, lf, cr, tab}
use Rattle.paper.specs.Values.{Piece, direct, escaped, four, braces, piece_onto, pieces_onto, piece_rule, piece_means, pieces_mean, letter_means, hex_value}
use Rattle.paper.specs.Values.{spells_scalar}
use Rattle.paper.specs.Canonical.{hex_onto, byte_onto, bytes_onto}
use Rattle.paper.proofs.Tests.{true_false, split}
use Rattle.text.proofs.Places.{here, front_behind}
use Rattle.paper.proofs.Lists.{both, front_length, front_least, starts_is}
use Rattle.paper.proofs.Scalars.{by_scalar}
use Rattle.paper.proofs.Pieces.{piece_longer}
use Rattle.quoting.specs.declared.page.Page.{Page}
use Rattle.quoting.specs.Page.{Puts}
use Rattle.quoting.proofs.Putting.{puts_then}
use Rattle.quoting.proofs.Sequences.{Sequence, Left, left_all, left_on, left_over}

pub bytes_append : (quote : ℕ) (a b next : List ℕ) → bytes_onto quote (a ++ b) next ≡ bytes_onto quote a (bytes_onto quote b next)
unfolding bytes_onto
bytes_append quote [] b next = refl
bytes_append quote (x ∷ a) b next = ap (byte_onto quote x) (bytes_append quote a b next)

-- ---- a byte between quotes, by its cases

module _ (quote b : ℕ) (next : List ℕ) where
  pub byte_marked : (eqb b quote || eqb b (byte "\\")) ≡ true → byte_onto quote b next ≡ byte "\\" ∷ b ∷ next
  unfolding byte_onto
  byte_marked e = rw e

  module _ (m : (eqb b quote || eqb b (byte "\\")) ≡ false) where
    pub byte_lf : b ≡ lf → byte_onto quote b next ≡ byte "\\" ∷ byte "n" ∷ next
    unfolding byte_onto
    byte_lf e = rw (m, eq-eqb b lf e)

    module _ (l : eqb b lf ≡ false) where
      pub byte_cr : b ≡ cr → byte_onto quote b next ≡ byte "\\" ∷ byte "r" ∷ next
      unfolding byte_onto
      byte_cr e = rw (m, l, eq-eqb b cr e)

      module _ (r : eqb b cr ≡ false) where
        pub byte_tab : b ≡ tab → byte_onto quote b next ≡ byte "\\" ∷ byte "t" ∷ next
        unfolding byte_onto
        byte_tab e = rw (m, l, r, eq-eqb b tab e)

        module _ (t : eqb b tab ≡ false) where
          pub byte_control : (ltb b 32 || eqb b 127) ≡ true → byte_onto quote b next ≡ byte "\\" ∷ byte "u" ∷ byte "{" ∷ hex_onto b (byte "}" ∷ next)
          unfolding byte_onto
          byte_control e = rw (m, l, r, t, e)

          pub byte_direct : (ltb b 32 || eqb b 127) ≡ false → byte_onto quote b next ≡ b ∷ next
          unfolding byte_onto
          byte_direct e = rw (m, l, r, t, e)

-- a scalar value's bytes, by how many they are
module _ (v : ℕ) where
  pub encode_one : v ≤ 0x7F → encode v ≡ v ∷ []
  unfolding encode
  encode_one h = rw (le-leb v 0x7F h)

  pub encode_two : 0x7F < v → v ≤ 0x7FF → encode v ≡ (0xC0 + v / 64) ∷ (0x80 + v % 64) ∷ []
  unfolding encode
  encode_two g h = rw (lt-leb v 0x7F g, le-leb v 0x7FF h)

  pub encode_three : 0x7FF < v → v ≤ 0xFFFF → encode v ≡ (0xE0 + v / 64 / 64) ∷ (0x80 + v / 64 % 64) ∷ (0x80 + v % 64) ∷ []
  unfolding encode
  encode_three g h =
      let f : 0x7F < v = omega arith in
      rw (lt-leb v 0x7F f, lt-leb v 0x7FF g, le-leb v 0xFFFF h)

  pub encode_four : 0xFFFF < v → encode v ≡ (0xF0 + v / 64 / 64 / 64) ∷ (0x80 + v / 64 / 64 % 64) ∷ (0x80 + v / 64 % 64) ∷ (0x80 + v % 64) ∷ []
  unfolding encode
  encode_four g =
      let f : 0x7F < v = omega arith in
      let h : 0x7FF < v = omega arith in
      rw (lt-leb v 0x7F f, lt-leb v 0x7FF h, lt-leb v 0xFFFF g)

-- so many bytes put one after another
pub bytes_one : (quote a : ℕ) {p q : Page} → Puts p (byte_onto quote a) q → Puts p (bytes_onto quote (a ∷ [])) q
unfolding bytes_onto
bytes_one quote a h = h

pub bytes_more : (quote a : ℕ) (l : List ℕ) {p q r : Page} → Puts p (byte_onto quote a) q → Puts q (bytes_onto quote l) r
    → Puts p (bytes_onto quote (a ∷ l)) r
unfolding bytes_onto
bytes_more quote a l h k = puts_then (byte_onto quote a) (bytes_onto quote l) h k

-- ---- which piece stands here

module _ (quote : ℕ) (left : List ℕ) where
  -- a byte that is no backslash stands for itself
  pub itself : (b : ℕ) (l : List ℕ) (p : Piece) → b ∷ l ≡ piece_onto p left → eqb b (byte "\\") ≡ false → (l ≡ left) × (piece_means p ≡ b ∷ [])
  unfolding piece_onto piece_means
  itself b l (direct c) e h = (cc, cc)
  itself b l (escaped c) e h = let z : b ≡ byte "\\" = cc in true_false (sym (eq-eqb b (byte "\\") z) ∙ h)
  itself b l (four digits) e h = let z : b ≡ byte "\\" = cc in true_false (sym (eq-eqb b (byte "\\") z) ∙ h)
  itself b l (braces digits) e h = let z : b ≡ byte "\\" = cc in true_false (sym (eq-eqb b (byte "\\") z) ∙ h)

  module _ (small : quote < byte "\\") where
    no_backslash : {X : Type 0} (c : ℕ) → c ≡ byte "\\" → piece_rule quote (direct c) ≡ true → X
    unfolding piece_rule
    no_backslash c e r =
        let q : eqb (byte "\\") quote ≡ false = ne_eqb (byte "\\") quote (λ z. absurd (omega arith)) in
        true_false (sym (rw (e, q) at r))

    no_u : {X : Type 0} (c : ℕ) → c ≡ byte "u" → piece_rule quote (escaped c) ≡ true → X
    unfolding piece_rule elem
    no_u c e r =
        let q : eqb (byte "u") quote ≡ false = ne_eqb (byte "u") quote (λ z. absurd (omega arith)) in
        true_false (sym (rw (e, q) at r))

    -- a backslash and a byte other than "u"
    pub letter_here : (b : ℕ) (l : List ℕ) (p : Piece) → byte "\\" ∷ b ∷ l ≡ piece_onto p left → piece_rule quote p ≡ true → eqb b (byte "u") ≡ false
        → (l ≡ left) × (piece_means p ≡ letter_means b ∷ [])
    unfolding piece_onto piece_means
    letter_here b l (direct c) e r h = let z : c ≡ byte "\\" = cc in no_backslash c z r
    letter_here b l (escaped c) e r h = (cc, cc)
    letter_here b l (four digits) e r h = let z : b ≡ byte "u" = cc in true_false (sym (eq-eqb b (byte "u") z) ∙ h)
    letter_here b l (braces digits) e r h = let z : b ≡ byte "u" = cc in true_false (sym (eq-eqb b (byte "u") z) ∙ h)

    -- a backslash alone is no piece
    pub no_piece : {X : Type 0} (p : Piece) → byte "\\" ∷ [] ≡ piece_onto p left → piece_rule quote p ≡ true → X
    unfolding piece_onto
    no_piece (direct c) e r = let z : c ≡ byte "\\" = cc in no_backslash c z r
    no_piece (escaped c) e r = absurd (omega (arith, ap length e))
    no_piece (four digits) e r = absurd (omega (arith, ap length e))
    no_piece (braces digits) e r = absurd (omega (arith, ap length e))

    -- digits of an escape with at most so many, and what follows them
    pub record Digits (most : ℕ) (l : List ℕ) (p : Piece) (behind : List ℕ) : Type 0 where
      pub digits : List ℕ
      pub here : l ≡ digits ++ behind
      pub means : piece_means p ≡ encode (hex_value 0 digits)
      pub spells : spells_scalar digits ≡ true
      pub many : min most (length_in is_hex (digits ++ behind)) ≡ length digits

    brace_hex : {X : Type 0} (digits l : List ℕ) → byte "{" ∷ l ≡ digits ++ left → eqb (length digits) 4 && spells_scalar digits ≡ true → X
    unfolding spells_scalar all is_hex is_digit
    brace_hex [] l e r = true_false (sym r)
    brace_hex (d ∷ ds) l e r =
        let z : d ≡ byte "{" = cc in
        true_false (sym (rw z at (both (all is_hex (d ∷ ds)) (is_scalar (hex_value 0 (d ∷ ds))) (both (eqb (length (d ∷ ds)) 4) (spells_scalar (d ∷ ds)) r).1).0))

    pub braces_here : (l : List ℕ) (p : Piece) → byte "\\" ∷ byte "u" ∷ byte "{" ∷ l ≡ piece_onto p left → piece_rule quote p ≡ true
        → Digits 6 l p (byte "}" ∷ left)
    unfolding piece_onto piece_means piece_rule spells_scalar starts_in is_hex is_digit
    braces_here l (direct c) e r = let z : c ≡ byte "\\" = cc in no_backslash c z r
    braces_here l (escaped c) e r = let z : c ≡ byte "u" = cc in no_u c z r
    braces_here l (four digits) e r = let z : byte "{" ∷ l ≡ digits ++ left = cc in brace_hex digits l z r
    braces_here l (braces digits) e r =
        let b = both (within 1 6 (length digits)) (spells_scalar digits) r in
        let h = both (all is_hex digits) (is_scalar (hex_value 0 digits)) b.1 in
        let n = front_length is_hex digits (byte "}" ∷ left) h.0 refl in
        let m : length digits ≤ 6 = in_six (length digits) b.0 in
        record { digits = digits; here = cc; means = refl; spells = b.1; many = rw n (omega arith) }
      where
        in_six : (n : ℕ) → within 1 6 n ≡ true → n ≤ 6
        in_six n e = leb-true n 6 (both (leb 1 n) (leb n 6) e).1

    pub four_here : (l : List ℕ) (p : Piece) → byte "\\" ∷ byte "u" ∷ l ≡ piece_onto p left → piece_rule quote p ≡ true → starts_with (bytes "{") l ≡ false
        → Digits 4 l p left
    unfolding piece_onto piece_means piece_rule spells_scalar starts_with
    four_here l (direct c) e r f = let z : c ≡ byte "\\" = cc in no_backslash c z r
    four_here l (escaped c) e r f = let z : c ≡ byte "u" = cc in no_u c z r
    four_here l (four digits) e r f =
        let b = both (eqb (length digits) 4) (spells_scalar digits) r in
        let h = both (all is_hex digits) (is_scalar (hex_value 0 digits)) b.1 in
        let n = front_least is_hex digits left h.0 in
        let m : length digits ≡ 4 = eqb-true (length digits) 4 b.0 in
        record { digits = digits; here = cc; means = refl; spells = b.1; many = omega arith }
    four_here l (braces digits) e r f =
        let z : l ≡ byte "{" ∷ (digits ++ (byte "}" ∷ left)) = cc in
        true_false (rw z at f)

-- ---- what is left of a spelling

-- pieces one behind the other, put between two of this quote
unfoldable pub piece_run : ℕ → Sequence Piece
unfolding pieces_onto pieces_mean bytes_onto
piece_run quote =
    record {
      spelt = piece_onto;
      all_spelt = pieces_onto;
      rule = piece_rule quote;
      printed = λ p. bytes_onto quote (piece_means p);
      all_printed = λ ps. bytes_onto quote (pieces_mean ps);
      spelt_none = λ next. refl;
      spelt_more = λ p ps next. refl;
      printed_none = λ next. refl;
      printed_more = λ p ps next. bytes_append quote (piece_means p) (pieces_mean ps) next;
      longer = piece_longer;
    }

-- the piece that stands at a place was put, and the spelling goes on at another
abbrev pub Put : ℕ → List ℕ → ℕ → Page → ℕ → Page → Type 0
Put quote w i now n after =
    (p : Piece) (left : List ℕ) → drop i w ≡ piece_onto p left → piece_rule quote p ≡ true
    → (drop n w ≡ left) × Puts now (bytes_onto quote (piece_means p)) after

module _ (quote : ℕ) (w : List ℕ) (before : Page) (ps : List Piece) where
  pub rest_all : w ≡ pieces_onto ps [] → all (piece_rule quote) ps ≡ true → Left (piece_run quote) w before ps 0 before
  unfolding piece_run
  rest_all e r = left_all (piece_run quote) w before ps e r

  module _ (i : ℕ) (now : Page) (so_far : Left (piece_run quote) w before ps i now) where
    pub rest_on : i < length w → (n : ℕ) (after : Page) → Put quote w i now n after → Left (piece_run quote) w before ps n after
    unfolding piece_run
    rest_on h n after f = left_on (piece_run quote) w before ps i now so_far h n after f

    pub rest_over : length w ≤ i → Puts before (bytes_onto quote (pieces_mean ps)) now
    unfolding piece_run
    rest_over h = left_over (piece_run quote) w before ps i now so_far h

-- ---- hex digits

pub spelt_small : (digits : List ℕ) → spells_scalar digits ≡ true → hex_value 0 digits ≤ 0x10FFFF
unfolding spells_scalar
spelt_small digits e = by_scalar (hex_value 0 digits) (both (all is_hex digits) (is_scalar (hex_value 0 digits)) e).1 (λ h. omega arith) (λ l h. h)

-- the digits at a place, put
pub digits_put : (quote : ℕ) (w digits left : List ℕ) (at most : ℕ) {now after : Page} → drop at w ≡ digits ++ left → spells_scalar digits ≡ true
    → min most (length_in is_hex (digits ++ left)) ≡ length digits
    → (end' v : ℕ) → end' ≡ at + min most (length_in is_hex (drop at w)) → v ≡ hex_value 0 (take (end' - at) (drop at w))
    → (v ≤ 0x10FFFF → Puts now (bytes_onto quote (encode v)) after)
    → (drop end' w ≡ left) × Puts now (bytes_onto quote (encode (hex_value 0 digits))) after
digits_put quote w digits left at most e s m n v f g p =
    let size : n ≡ at + length digits = f ∙ ap (λ (l : List ℕ). at + min most (length_in is_hex l)) e ∙ ap (λ (k : ℕ). at + k) m in
    let less : n - at ≡ length digits = omega arith in
    let same : v ≡ hex_value 0 digits =
    g ∙ ap (hex_value 0) (ap (λ (k : ℕ). take k (drop at w)) less ∙ ap (take (length digits)) e ∙ take-append_seam digits left) in
    let small : v ≤ 0x10FFFF = rw same (spelt_small digits s) in (
      ap (λ (k : ℕ). drop k w) size ∙ sym (drop-drop (length digits) at w) ∙ ap (drop (length digits)) e ∙ drop-append_seam digits left,
      rw same at (p small),
    )

-- ---- one piece, put

-- digits at a place were put, and the spelling goes on at another
abbrev pub Spelt : ℕ → List ℕ → ℕ → ℕ → Page → ℕ → Page → Type 0
Spelt quote w at most now n after =
    (digits left : List ℕ) → drop at w ≡ digits ++ left → spells_scalar digits ≡ true → min most (length_in is_hex (digits ++ left)) ≡ length digits
    → (drop n w ≡ left) × Puts now (bytes_onto quote (encode (hex_value 0 digits))) after

no_u_there : (b : ℕ) (l : List ℕ) → starts_with (bytes "\\u") (byte "\\" ∷ b ∷ l) ≡ false → eqb b (byte "u") ≡ false
unfolding starts_with
no_u_there b l e = split (eqb b (byte "u")) (λ q. true_false (rw (q, starts_with) at e)) (λ q. q)

no_brace_there : (l : List ℕ) → starts_with (bytes "\\u{") (byte "\\" ∷ byte "u" ∷ l) ≡ false → starts_with (bytes "{") l ≡ false
unfolding starts_with
no_brace_there l e = e

module _ (quote : ℕ) (w : List ℕ) (at : ℕ) (now after : Page) where
  pub put_itself : at < length w → (get_or w at 0 ≡ byte "\\" → ⊥) → Puts now (byte_onto quote (get_or w at 0)) after
      → Put quote w at now (at + 1) after
  put_itself h n p piece left e r =
      let i = itself quote left (get_or w at 0) (drop (at + 1) w) piece (sym (here w at h) ∙ e) (ne_eqb (get_or w at 0) (byte "\\") n) in
      (i.0, rw i.1 (bytes_one quote (get_or w at 0) p))

  module _ (small : quote < byte "\\") where
    pub put_letter : at + 1 < length w → get_or w at 0 ≡ byte "\\" → starts_with (bytes "\\u") (drop at w) ≡ false → (x : ℕ) → x ≡ letter_means (get_or w (at + 1) 0)
        → Puts now (byte_onto quote x) after → Put quote w at now (at + 2) after
    put_letter h b s x m p piece left e r =
        let h' : at < length w = omega arith in
        let two : at + 1 + 1 ≡ at + 2 = omega arith in
        let front : drop at w ≡ byte "\\" ∷ get_or w (at + 1) 0 ∷ drop (at + 2) w =
        here w at h' ∙ ap (λ (k : ℕ). k ∷ drop (at + 1) w) b
        ∙ ap (λ (l : List ℕ). byte "\\" ∷ l) (here w (at + 1) h ∙ ap (λ (k : ℕ). get_or w (at + 1) 0 ∷ drop k w) two) in
        let i =
        letter_here quote left small (get_or w (at + 1) 0) (drop (at + 2) w) piece (sym front ∙ e) r
        (no_u_there (get_or w (at + 1) 0) (drop (at + 2) w) (rw front at s)) in
        (i.0, rw (i.1, ← m) (bytes_one quote x p))

    pub put_cut : at < length w → length w - at < 2 → get_or w at 0 ≡ byte "\\" → (n : ℕ) → Put quote w at now n after
    put_cut h s b n piece left e r =
        let over : length w ≤ at + 1 = omega arith in
        let front : drop at w ≡ byte "\\" ∷ [] =
        here w at h ∙ ap (λ (k : ℕ). k ∷ drop (at + 1) w) b ∙ ap (λ (l : List ℕ). byte "\\" ∷ l) (drop_of_length-le w over) in
        no_piece quote left small piece (sym front ∙ e) r

    pub put_braces : starts_with (bytes "\\u{") (drop at w) ≡ true → (n : ℕ) → Spelt quote w (at + 3) 6 now n after
        → Put quote w at now (n + 1) after
    put_braces s n f piece left e r =
        let front : drop at w ≡ byte "\\" ∷ byte "u" ∷ byte "{" ∷ drop (at + 3) w =
        starts_is (bytes "\\u{") (drop at w) s ∙ ap (λ (l : List ℕ). byte "\\" ∷ byte "u" ∷ byte "{" ∷ l) (drop-drop 3 at w) in
        let d = braces_here quote left small (drop (at + 3) w) piece (sym front ∙ e) r in
        let got = f d.digits (byte "}" ∷ left) d.here d.spells d.many in
        (sym (front_behind w n (byte "}") left got.0), rw d.means got.1)

    pub put_four : starts_with (bytes "\\u{") (drop at w) ≡ false → starts_with (bytes "\\u") (drop at w) ≡ true → (n : ℕ)
        → Spelt quote w (at + 2) 4 now n after → Put quote w at now n after
    put_four off s n f piece left e r =
        let front : drop at w ≡ byte "\\" ∷ byte "u" ∷ drop (at + 2) w =
        starts_is (bytes "\\u") (drop at w) s ∙ ap (λ (l : List ℕ). byte "\\" ∷ byte "u" ∷ l) (drop-drop 2 at w) in
        let d = four_here quote left small (drop (at + 2) w) piece (sym front ∙ e) r (no_brace_there (drop (at + 2) w) (rw front at off)) in
        let got = f d.digits left d.here d.spells d.many in
        (got.0, rw d.means got.1)

pub starts_size : (p : List ℕ) (w : List ℕ) (at : ℕ) → starts_with p (drop at w) ≡ true → at ≤ length w → at + length p ≤ length w
starts_size p w at e h = omega (arith, ap length (starts_is p (drop at w) e), length-append p (drop (length p) (drop at w)), length-drop at w)
