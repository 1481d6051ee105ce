-- Spellings between backticks: the byte that stands at a place, and what is left to put behind it.
-- Document 01, "Values", backtick, and "Canonical form". Assumes nothing.
use Prim.Native.Nat.{ℕ, ◌+◌, ◌≤◌, ◌<◌}
use mathlib.Core.Path.{◌≡◌, refl, sym, ap, ◌∙◌}
use mathlib.Core.Bool.{Bool, true, false, not}
use mathlib.Core.List.{List, [], ◌∷◌}
use native.Mathlib.Omega.{arith}
use lib.ListN.{length, drop, get_or, length-drop}
use lib.Seq.{drop-drop, get_or-drop}
use lib.Dec.{eqb}
use borrow.Author.Tests.{eqb-true}
use Rattle.paper.specs.Bytes.{byte, bytes, is_white, starts_with}
use Rattle.paper.specs.Values.{Piece, direct, escaped, four, braces, piece_onto, pieces_onto, piece_means, pieces_mean, letter_means, backtick_rule, collapse}
use Rattle.paper.specs.Canonical.{byte_onto, bytes_onto}
use Rattle.paper.proofs.Tests.{true_false}
use Rattle.paper.proofs.Lists.{both, starts_is}
use Rattle.paper.proofs.Pieces.{piece_longer}
use Rattle.text.proofs.Places.{here}
use Rattle.quoting.specs.declared.page.Page.{Page}
use Rattle.quoting.specs.declared.spaced.Spacing.{Spacing}
use Rattle.quoting.specs.declared.spaced.Spacing.TheVariants.{Start, Word, Gap}
use Rattle.quoting.specs.Page.{Step, Puts}
use Rattle.quoting.specs.Spacing.{widened, gap_onto}
use Rattle.quoting.specs.Ticks.{First}
use Rattle.quoting.proofs.Putting.{step_as, step_then, puts_then}
use Rattle.quoting.proofs.Collapsing.{left, white_left, word_left, none_left}

-- ---- the piece at a place

-- no pieces begin with a bare backtick
no_bare : {X : Type 0} (l : List ℕ) (after : Bool) (qs : List Piece) → byte "`" ∷ l ≡ pieces_onto qs [] → backtick_rule after qs ≡ true → X
unfolding pieces_onto piece_onto backtick_rule
no_bare l after [] e r = let z : ◌≡◌ {A = ℕ} 0 1 = cc in absurd (omega arith)
no_bare l after (direct b ∷ qs) e r = let z : b ≡ byte "`" = cc in true_false (sym (rw z at r))
no_bare l after (escaped b ∷ qs) e r = let z : ◌≡◌ {A = ℕ} (byte "`") (byte "\\") = cc in absurd (omega arith)
no_bare l after (four digits ∷ qs) e r = true_false (sym r)
no_bare l after (braces digits ∷ qs) e r = true_false (sym r)

tick_there : {X : Type 0} (l : List ℕ) → false ≡ starts_with (bytes "\\`") (byte "\\" ∷ byte "`" ∷ l) → X
unfolding starts_with
tick_there l e = true_false (sym e)

module _ (w : List ℕ) (at : ℕ) where
  tick_of : drop at w ≡ byte "\\" ∷ byte "`" ∷ drop (at + 2) w → (after : Bool) (ps : List Piece) → byte "\\" ∷ byte "`" ∷ drop (at + 2) w ≡ pieces_onto ps []
      → backtick_rule after ps ≡ true → First w (at + 1) ps
  unfolding pieces_onto piece_onto backtick_rule pieces_mean piece_means letter_means
  tick_of f after [] e r = let z : ◌≡◌ {A = ℕ} 0 1 = cc in absurd (omega arith)
  tick_of f after (direct b ∷ qs) e r =
      let z : byte "`" ∷ drop (at + 2) w ≡ pieces_onto qs [] = cc in
      no_bare (drop (at + 2) w) (eqb b (byte "\\")) qs z (both (not (eqb b (byte "`"))) (backtick_rule (eqb b (byte "\\")) qs) r).1
  tick_of f after (escaped b ∷ qs) e r =
      let t : b ≡ byte "`" = cc in
      let l : drop (at + 2) w ≡ pieces_onto qs [] = cc in
      let two : at + 1 + 1 ≡ at + 2 = omega arith in
      let g : get_or w (at + 1) 0 ≡ byte "`" = sym (get_or-drop at w 1 0) ∙ ap (λ (x : List ℕ). get_or x 1 0) f in
      record {
        rest = qs;
        after = false;
        means = rw (t, g);
        left = ap (λ (k : ℕ). drop k w) two
            ∙ l;
        rule = (both (eqb b (byte "`")) (backtick_rule false qs) r).1;
      }
  tick_of f after (four digits ∷ qs) e r = true_false (sym r)
  tick_of f after (braces digits ∷ qs) e r = true_false (sym r)

  -- an escaped backtick
  pub first_tick : starts_with (bytes "\\`") (drop at w) ≡ true → (after : Bool) (ps : List Piece) → drop at w ≡ pieces_onto ps []
      → backtick_rule after ps ≡ true → First w (at + 1) ps
  first_tick s after ps e r =
      let front : drop at w ≡ byte "\\" ∷ byte "`" ∷ drop (at + 2) w = starts_is (bytes "\\`") (drop at w) s
      ∙ ap (λ (l : List ℕ). byte "\\" ∷ byte "`" ∷ l) (drop-drop 2 at w) in
      tick_of front after ps (sym front ∙ e) r

  -- any other byte stands for itself
  pub first_self : at < length w → starts_with (bytes "\\`") (drop at w) ≡ false → (after : Bool) (ps : List Piece) → drop at w ≡ pieces_onto ps []
      → backtick_rule after ps ≡ true → First w at ps
  unfolding pieces_onto piece_onto backtick_rule pieces_mean piece_means
  first_self h s after [] e r = absurd (omega (arith, ap length e, length-drop at w))
  first_self h s after (direct b ∷ qs) e r =
      let k : b ∷ pieces_onto qs [] ≡ get_or w at 0 ∷ drop (at + 1) w = sym e ∙ here w at h in
      let i : b ≡ get_or w at 0 = cc in
      record {
        rest = qs;
        after = eqb b (byte "\\");
        means = ap (λ (x : ℕ). x ∷ pieces_mean qs) i;
        left = cc;
        rule = (both (not (eqb b (byte "`")))
            (backtick_rule (eqb b (byte "\\")) qs) r).1;
      }
  first_self h s after (escaped b ∷ qs) e r =
      let t : b ≡ byte "`" = eqb-true b (byte "`") (both (eqb b (byte "`")) (backtick_rule false qs) r).0 in
      tick_there (pieces_onto qs []) (sym (rw (e, t) at s))
  first_self h s after (four digits ∷ qs) e r = true_false (sym r)
  first_self h s after (braces digits ∷ qs) e r = true_false (sym r)

-- ---- what is left to put

abbrev quote : ℕ
quote = byte "\""

pub record Ticks (w : List ℕ) (before : Page) (ps : List Piece) (i : ℕ) (spacing : Spacing) (now : Page) : Type 0 where
  pub rest : List Piece
  pub after : Bool
  pub spelt : drop i w ≡ pieces_onto rest []
  pub rule : backtick_rule after rest ≡ true
  pub put : Step before (bytes_onto quote (collapse (pieces_mean ps))) now (bytes_onto quote (left spacing (pieces_mean rest)))

-- a gap's space is put as it is
gap_bytes : (spacing : Spacing) (b : ℕ) (l next : List ℕ) → bytes_onto quote (gap_onto spacing (b ∷ l)) next ≡ gap_onto spacing (byte_onto quote b (bytes_onto quote l next))
unfolding bytes_onto byte_onto
gap_bytes Start b l next = refl
gap_bytes Word b l next = refl
gap_bytes Gap b l next = refl

module _ (w : List ℕ) (before : Page) (ps : List Piece) (i : ℕ) (spacing : Spacing) (now : Page) (own : ℕ) where
  -- the byte at `own` is the first of what is left
  abbrev pub Next : Type 0
  Next = (after : Bool) (ps : List Piece) → drop i w ≡ pieces_onto ps [] → backtick_rule after ps ≡ true → First w own ps

  pub ticks_white : Ticks w before ps i spacing now → Next → is_white (get_or w own 0) ≡ true → Ticks w before ps (own + 1) (widened spacing) now
  ticks_white t f e =
      let one = f t.after t.rest t.spelt t.rule in
      record {
        rest = one.rest;
        after = one.after;
        spelt = one.left;
        rule = one.rule;
        put = step_as t.put
            (λ next. ap (λ (l : List ℕ). bytes_onto quote l next) (ap (left spacing) one.means ∙ white_left spacing (get_or w own 0) (pieces_mean one.rest) e));
      }

  pub ticks_word : Ticks w before ps i spacing now → Next → is_white (get_or w own 0) ≡ false → {mid after : Page} → Puts now (gap_onto spacing) mid
      → Puts mid (byte_onto quote (get_or w own 0)) after → Ticks w before ps (own + 1) Word after
  ticks_word t f e p q =
      let one = f t.after t.rest t.spelt t.rule in
      let on = left Word (pieces_mean one.rest) in
      record {
        rest = one.rest;
        after = one.after;
        spelt = one.left;
        rule = one.rule;
        put = step_then (λ next. gap_onto spacing (byte_onto quote (get_or w own 0) next)) (bytes_onto quote on) t.put
            (λ next. ap (λ (l : List ℕ). bytes_onto quote l next) (ap (left spacing) one.means ∙ word_left spacing (get_or w own 0) (pieces_mean one.rest) e)
            ∙ gap_bytes spacing (get_or w own 0) on next)
            (puts_then (gap_onto spacing) (byte_onto quote (get_or w own 0)) p q);
      }

  ticks_none : (qs : List Piece) → drop i w ≡ pieces_onto qs []
      → Step before (bytes_onto quote (collapse (pieces_mean ps))) now (bytes_onto quote (left spacing (pieces_mean qs)))
      → length w ≤ i → Puts before (bytes_onto quote (collapse (pieces_mean ps))) now
  unfolding pieces_onto pieces_mean bytes_onto
  ticks_none [] e s h = step_as s (λ next. ap (λ (l : List ℕ). bytes_onto quote l next) (none_left spacing))
  ticks_none (p ∷ qs) e s h = absurd (omega (arith, ap length e, length-drop i w, piece_longer p (pieces_onto qs [])))

  pub ticks_over : Ticks w before ps i spacing now → length w ≤ i → Puts before (bytes_onto quote (collapse (pieces_mean ps))) now
  ticks_over t h = ticks_none t.rest t.spelt t.put h
