-- Spellings between quotes in which bytes stand for themselves, read and written: all of them, or a run. Document 01, "Canonical form". Assumes nothing.
use Prim.Native.Nat.{ℕ, zero, suc, ◌+◌, ◌-◌, ◌≤◌}
use mathlib.Core.Path.{◌≡◌, refl, sym, ap, ◌∙◌}
use mathlib.Core.Bool.{Bool, true, false, not, ◌||◌}
use mathlib.Core.List.{List, [], ◌∷◌, ◌++◌}
use native.Mathlib.Omega.{arith}
use lib.ListN.{length, take, drop}
use lib.Seq.{drop-drop}
use lib.Dec.{eqb, ltb}
use borrow.Author.Tests.{ne_eqb, ltb-false}
use Rattle.paper.specs.Bytes.{byte, all, length_in, lf, cr, tab}
use Rattle.paper.specs.Values.{Piece, direct, escaped, four, braces, piece_onto, pieces_onto, piece_rule, piece_means, pieces_mean}
use Rattle.paper.specs.Canonical.{byte_onto, bytes_onto}
use Rattle.paper.proofs.Tests.{true_false, split}
use Rattle.paper.proofs.Lists.{all_head, all_run}
use Rattle.text.proofs.Stretch.{Stretch}
use Rattle.leaves.specs.Plain.{is_plain}
use Rattle.quoting.specs.declared.page.Page.{Page}
use Rattle.quoting.specs.Page.{Puts}
use Rattle.quoting.proofs.Putting.{step_then}
use Rattle.quoting.proofs.Sequences.{Left}
use Rattle.quoting.proofs.Spelling.{byte_direct, piece_run}

-- all bytes are plain where the run of them is as long as they are
pub plain_all : (quote : ℕ) (w : List ℕ) (end : ℕ) → end ≡ 0 + length_in (is_plain quote) w → eqb end (length w) ≡ all (is_plain quote) w
plain_all quote w end e = let q : end ≡ length_in (is_plain quote) w = omega arith in rw q (all_run (is_plain quote) w)

neither : (a b : Bool) → a || b ≡ false → (a ≡ false) × (b ≡ false)
neither true b e = true_false e
neither false b e = (refl, e)

un_not : (a : Bool) → not a ≡ true → a ≡ false
un_not true e = true_false (sym e)
un_not false e = refl

plain_byte : (quote b : ℕ) → is_plain quote b ≡ true → (x : List ℕ) → byte_onto quote b x ≡ b ∷ x
plain_byte quote b e x =
    let n = neither (eqb b quote || eqb b (byte "\\")) (ltb b 32 || eqb b 127) (un_not _ e) in
    let h : 32 ≤ b = ltb-false b 32 (neither (ltb b 32) (eqb b 127) n.1).0 in
    byte_direct quote b x n.0 (ne_eqb b lf (λ z. absurd (omega arith))) (ne_eqb b cr (λ z. absurd (omega arith)))
    (ne_eqb b tab (λ z. absurd (omega arith))) n.1

-- a backslash does not stand for itself
not_plain : {X : Type 0} (quote : ℕ) → is_plain quote (byte "\\") ≡ true → X
not_plain quote e = split (eqb (byte "\\") quote) (λ q. true_false (sym (rw q at e))) (λ q. true_false (sym (rw q at e)))

no_backslash : {X : Type 0} (quote : ℕ) (l : List ℕ) → all (is_plain quote) (byte "\\" ∷ l) ≡ true → X
no_backslash quote l e = not_plain quote (all_head (is_plain quote) (byte "\\") l e).0

-- such pieces are written as they are read
pub plain_pieces : (quote : ℕ) (ps : List Piece) → all (is_plain quote) (pieces_onto ps []) ≡ true → (x : List ℕ)
    → bytes_onto quote (pieces_mean ps) x ≡ pieces_onto ps [] ++ x
unfolding pieces_onto piece_onto pieces_mean piece_means bytes_onto
plain_pieces quote [] e x = refl
plain_pieces quote (direct b ∷ ps) e x =
    let h = all_head (is_plain quote) b (pieces_onto ps []) e in
    plain_byte quote b h.0 (bytes_onto quote (pieces_mean ps) x) ∙ ap (λ (l : List ℕ). b ∷ l) (plain_pieces quote ps h.1 x)
plain_pieces quote (escaped b ∷ ps) e x = no_backslash quote (b ∷ pieces_onto ps []) e
plain_pieces quote (four digits ∷ ps) e x = no_backslash quote (byte "u" ∷ (digits ++ pieces_onto ps [])) e
plain_pieces quote (braces digits ∷ ps) e x = no_backslash quote (byte "u" ∷ byte "{" ∷ (digits ++ (byte "}" ∷ pieces_onto ps []))) e

-- ---- a run of them

-- the pieces behind so many bytes that stand for themselves
record Behind (quote n : ℕ) (l : List ℕ) (ps : List Piece) : Type 0 where
  pub more : List Piece
  pub stands : drop n l ≡ pieces_onto more []
  pub kept : all (piece_rule quote) more ≡ true
  pub same : (next : List ℕ) → bytes_onto quote (pieces_mean ps) next ≡ take n l ++ bytes_onto quote (pieces_mean more) next

-- a byte in front of a run
front_plain : (quote n b : ℕ) (l : List ℕ) → suc n ≤ length_in (is_plain quote) (b ∷ l) → (is_plain quote b ≡ true) × (n ≤ length_in (is_plain quote) l)
unfolding length_in
front_plain quote n b l h =
    split (is_plain quote b) (λ e. (e, omega (arith, rw (e, length_in) at h))) (λ e. absurd (omega (arith, rw (e, length_in) at h)))

no_mark : {X : Type 0} (quote n : ℕ) (l : List ℕ) → suc n ≤ length_in (is_plain quote) (byte "\\" ∷ l) → X
no_mark quote n l h = not_plain quote (front_plain quote n (byte "\\") l h).0

behind : (quote n : ℕ) (ps : List Piece) → n ≤ length_in (is_plain quote) (pieces_onto ps []) → all (piece_rule quote) ps ≡ true → Behind quote n (pieces_onto ps []) ps
unfolding pieces_onto piece_onto pieces_mean piece_means bytes_onto length_in
behind quote zero ps h r = record { more = ps; stands = refl; kept = r; same = λ next. refl }
behind quote (suc n) [] h r = absurd (omega arith)
behind quote (suc n) (direct b ∷ ps) h r =
    let p = front_plain quote n b (pieces_onto ps []) h in
    let rest = behind quote n ps p.1 (all_head (piece_rule quote) (direct b) ps r).1 in
    record {
      more = rest.more;
      stands = rest.stands;
      kept = rest.kept;
      same = λ next. plain_byte quote b p.0 (bytes_onto quote (pieces_mean ps) next) ∙ ap (λ (l : List ℕ). b ∷ l) (rest.same next);
    }
behind quote (suc n) (escaped b ∷ ps) h r = no_mark quote n (b ∷ pieces_onto ps []) h
behind quote (suc n) (four digits ∷ ps) h r = no_mark quote n (byte "u" ∷ (digits ++ pieces_onto ps [])) h
behind quote (suc n) (braces digits ∷ ps) h r = no_mark quote n (byte "u" ∷ byte "{" ∷ (digits ++ (byte "}" ∷ pieces_onto ps []))) h

-- the run that stands at a place was copied, and the spelling goes on behind it
pub rest_plain : (quote : ℕ) (w : List ℕ) (before : Page) (ps : List Piece) (i : ℕ) (now : Page) → Left (piece_run quote) w before ps i now
    → (stop : ℕ) → Stretch (is_plain quote) w i stop → (after : Page) → Puts now (λ next. take (stop - i) (drop i w) ++ next) after
    → Left (piece_run quote) w before ps stop after
unfolding piece_run
rest_plain quote w before ps i now l stop run after p =
    let n : stop - i ≤ length_in (is_plain quote) (drop i w) = omega (arith, run.0) in
    let far : i + (stop - i) ≡ stop = omega (arith, run.1) in
    let b = behind quote (stop - i) l.more (rw l.stands at n) l.kept in
    let front : drop i w ≡ pieces_onto l.more [] = l.stands in
    record {
      more = b.more;
      stands = ap (λ (k : ℕ). drop k w) (sym far) ∙ sym (drop-drop (stop - i) i w) ∙ ap (drop (stop - i)) front ∙ b.stands;
      kept = b.kept;
      put = step_then (λ next. take (stop - i) (drop i w) ++ next) (bytes_onto quote (pieces_mean b.more)) l.put
          (λ next. b.same next ∙ ap (λ (x : List ℕ). take (stop - i) x ++ bytes_onto quote (pieces_mean b.more) next) (sym front)) p;
    }
