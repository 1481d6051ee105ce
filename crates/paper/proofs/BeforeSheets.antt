-- What stands before the first sheet of a roll: only blank lines, or blank lines up to a first byte that none of them has. Assumes nothing.
-- Document 01, "Lines", "Rolls", and refusal 14.
use Prim.Native.Nat.{ℕ, zero, suc, ◌<◌}
use mathlib.Core.Path.{◌≡◌, refl, sym, ap, ◌∙◌}
use mathlib.Core.Bool.{true, false}
use mathlib.Core.List.{List, [], ◌∷◌, ◌++◌}
use native.Mathlib.Omega.{arith}
use lib.ListN.{length}
use lib.Dec.{eqb}
use Rattle.paper.specs.Found.{Found, found, fault, and_then, turn_of, go_on, many, taking}
use Rattle.paper.specs.Bytes.{is_blank, is_line_end, all, starts_in, starts_with, front, behind, lf, cr}
use Rattle.paper.specs.Tree.{LineEnd, Blank}
use Rattle.paper.specs.Grammar.{line_end_onto, blank_onto, blanks_onto, blank_rule}
use Rattle.paper.specs.Reading.{line_end, line_rest, is_blank_line, blank_turn, last_blanks}
use Rattle.paper.specs.Roll.{only_blanks}
use Rattle.paper.proofs.Tests.{split, true_false}
use Rattle.paper.proofs.Lists.{all_nil, all_cons, starts_some, front_all, front_behind, behind_stops, front_of, behind_of}
use Rattle.paper.proofs.Finds.{Reads, then_then}
use Rattle.paper.proofs.Lines.{ReadBlank, rest_reads, rest_complete, blank_line_lem, blanks_complete}

-- lines of spaces and tabs only, in front of what is left; the last of them has no line end
pub record BlankUpTo (w left : List ℕ) : Type 0 where
  pub lines : List Blank
  pub last : List ℕ
  pub covers : w ≡ blanks_onto lines (last ++ left)
  pub rule : all blank_rule lines ≡ true
  pub blank : all is_blank last ≡ true

-- only blank lines, the last of which the end may cut
abbrev pub OnlyBlank : List ℕ → Type 0
OnlyBlank w = BlankUpTo w []

-- blank lines up to a byte that none of them has: it is neither space nor tab, and no line end begins there
pub record FirstOther (w left : List ℕ) : Type 0 where
  pub before : BlankUpTo w left
  pub some : 0 < length left
  pub no_blank : starts_in is_blank left ≡ false
  pub no_end : (e : LineEnd) (rest : List ℕ) → left ≡ line_end_onto e rest → ⊥

-- what is found before the first sheet, and where a fault stands
abbrev pub StandsBefore : List ℕ → Found (List ℕ) → Type 0
StandsBefore w (found last left) = OnlyBlank w
StandsBefore w (fault n left) = FirstOther w left

-- ---- blanks in front, and one blank line more

blanks_here : (w : List ℕ) → BlankUpTo w (behind is_blank w)
unfolding blanks_onto
blanks_here w = record { lines = []; last = front is_blank w; covers = sym (front_behind is_blank w); rule = all_nil blank_rule; blank = front_all is_blank w }

-- a byte behind blanks where no line of blanks ends
other_here : (w : List ℕ) → 0 < length (behind is_blank w) → ((b : Blank) (rest : List ℕ) → blank_rule b ≡ true → w ≡ blank_onto b rest → ⊥)
    → FirstOther w (behind is_blank w)
other_here w some none =
    record {
      before = blanks_here w;
      some = some;
      no_blank = behind_stops is_blank w;
      no_end = λ e rest q. none (record { blanks = front is_blank w; end = e }) rest (front_all is_blank w) (sym (front_behind is_blank w) ∙ rw q);
    }

more_blank : (b : Blank) {w left : List ℕ} → blank_rule b ≡ true → BlankUpTo w left → BlankUpTo (blank_onto b w) left
unfolding blanks_onto
more_blank b r o =
    record { lines = b ∷ o.lines; last = o.last; covers = ap (blank_onto b) o.covers; rule = all_cons blank_rule b o.lines r o.rule; blank = o.blank }

more_before : (b : Blank) (w : List ℕ) → blank_rule b ≡ true → (x : Found (List ℕ)) → StandsBefore w x → StandsBefore (blank_onto b w) x
more_before b w r (found last left) o = more_blank b r o
more_before b w r (fault n left) o = record { before = more_blank b r o.before; some = o.some; no_blank = o.no_blank; no_end = o.no_end }

-- ---- what stands before the first sheet

-- a fault where a line end is due stands there
abbrev StandsAt : List ℕ → Found Blank → Type 0
StandsAt s (found b left) = Unit {0}
StandsAt s (fault n left) = s ≡ left

end_fault : (blanks s : List ℕ) → StandsAt s (line_end blanks s)
unfolding line_end
end_fault blanks [] = refl
end_fault blanks (b ∷ l) =
    split (eqb b lf) (λ e. rw (e, line_end) tt) (λ e. split (starts_with (cr ∷ lf ∷ []) (b ∷ l)) (λ f. rw (e, line_end, f) tt) (λ f. rw (e, line_end, f) refl))

-- behind the blank lines, as `only_blanks` reads it
abbrev last_line : List Blank → List ℕ → Found (List ℕ)
last_line bs left = last_blanks (front is_blank left) (behind is_blank left)

last_line_lem : (w : List ℕ) → is_blank_line w ≡ false → StandsBefore w (last_line [] w)
unfolding last_blanks
last_line_lem w e = go (behind is_blank w) refl
  where
    go : (r : List ℕ) → behind is_blank w ≡ r → StandsBefore w (last_blanks (front is_blank w) r)
    go [] q = rw q at (blanks_here w)
    go (b ∷ l) q = rw q at (other_here w (rw q (omega arith)) (λ k rest r c. true_false (sym (blank_line_lem k rest r) ∙ ap is_blank_line (sym c) ∙ e)))

lines_stand : (fuel room : ℕ) (w : List ℕ) → length w < fuel → StandsBefore w (and_then (many (taking (λ b. 0)) blank_turn fuel room w) last_line)
unfolding many blank_turn
lines_stand zero room w h = absurd (omega arith)
lines_stand (suc fuel) room w h =
    split (is_blank_line w)
    (λ e. rw (e, blank_turn) (by_line e (line_rest w) refl (rest_reads w) (end_fault (front is_blank w) (behind is_blank w))
    (λ b. lines_stand fuel (taking (λ b. 0) room b))))
    (λ e. rw (e, blank_turn) (last_line_lem w e))
  where
    next : Blank → List ℕ → Found (List Blank)
    next b left = many (taking (λ b. 0)) blank_turn fuel (taking (λ b. 0) room b) left

    by_line : is_blank_line w ≡ true → (x : Found Blank) → line_rest w ≡ x → Reads w (λ b left. ReadBlank w b left) x → StandsAt (behind is_blank w) x
        → ((b : Blank) (left : List ℕ) → length left < fuel → StandsBefore left (and_then (next b left) last_line))
        → StandsBefore w (and_then (go_on next (turn_of x)) last_line)
    by_line e (found b left) q r at again =
        rw (then_then (next b left) (λ bs end. found (b ∷ bs) end) last_line, r.1.covers)
        (more_before b left r.1.rule (and_then (next b left) last_line) (again b left (omega (arith, r.1.shorter))))
    by_line e (fault n left) q r at again =
        rw (← at) (other_here w (starts_some is_line_end (behind is_blank w) e) (λ b rest k c. absurd (
        let z : ◌≡◌ {A = Found Blank} (found b rest) (fault n left) = sym (rest_complete b rest k) ∙ ap line_rest (sym c) ∙ q in
        let no : ◌≡◌ {A = ℕ} 0 1 = cc in
        omega arith
        )))

pub stands_before : (w : List ℕ) → StandsBefore w (only_blanks w)
stands_before w = lines_stand (suc (length w)) 0 w (omega arith)

-- where only blank lines stand no fault is met
pub blank_found : (w : List ℕ) (o : OnlyBlank w) → only_blanks w ≡ found o.last []
unfolding last_blanks starts_in
blank_found w o =
    let f = front_of is_blank o.last [] o.blank refl in
    let b = behind_of is_blank o.last [] o.blank refl in
    rw (o.covers, blanks_complete o.lines (o.last ++ []) o.rule (ap (starts_in is_line_end) b), b, last_blanks, f)
