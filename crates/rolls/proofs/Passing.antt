-- Bytes of a roll that are passed over on the way to a boundary, and the sheet that runs to it. Over plain lists. Assumes nothing.
-- Document 01, "Rolls".
use Prim.Native.Nat.{ℕ, zero, suc, ◌+◌, ◌-◌, ◌≤◌, ◌<◌}
use mathlib.Core.Path.{◌≡◌, refl, sym, ap, ◌∙◌}
use mathlib.Core.Bool.{Bool, true, false, ◌&&◌}
use mathlib.Core.List.{List, [], ◌∷◌, ◌++◌, append_assoc, append-nil}
use native.Mathlib.Omega.{arith}
use lib.ListN.{length, get_or, take, drop, length-drop, drop_of_length-le}
use lib.Seq.{drop-drop, take-add, length-take-le}
use lib.Dec.{eqb}
use borrow.Author.Tests.{eq-eqb, ne_eqb}
use Rattle.paper.specs.Bytes.{byte, bytes, is_upper, starts_in, starts_with, lf}
use Rattle.paper.specs.Roll.{is_boundary, ends_line, Parts, parts, in_front, parts_from, parts_of}
use Rattle.paper.proofs.Tests.{split, true_false, up_to}
use Rattle.text.specs.Runs.{AllFrom}
use Rattle.text.proofs.Places.{here}
use Rattle.lines.specs.Parts.{part}
use Rattle.rolls.specs.Boundaries.{sheets_in, led, may_begin, Passes, LineTo, Begins, BoundaryFrom, sheets_from, SheetTo}

-- ---- bytes in front of the parts

led_none : (p : Parts) → led [] p ≡ p
led_none (parts lead sheets) = refl

led_led : (v w : List ℕ) (p : Parts) → led v (led w p) ≡ led (v ++ w) p
led_led v w (parts lead sheets) = rw (append_assoc v w lead)

part_none : (r : List ℕ) (at : ℕ) → part r at at ≡ []
part_none r at = let n : at - at ≡ 0 = omega arith in rw n

part_more : (r : List ℕ) (at mid to : ℕ) → at ≤ mid → mid ≤ to → part r at mid ++ part r mid to ≡ part r at to
part_more r at mid to h k =
    let n : to - at ≡ (mid - at) + (to - mid) = omega arith in
    let m : at + (mid - at) ≡ mid = omega arith in
    rw (n, take-add (mid - at) (to - mid) (drop at r), drop-drop (mid - at) at r, m)

-- ---- passing over

pub passes_none : (fresh : Bool) (r : List ℕ) (at : ℕ) → at ≤ length r → Passes fresh fresh r at at
passes_none fresh r at h =
    record { ahead = omega arith; inside = h; same = rw (part_none r at) (sym (led_none (parts_from fresh (drop at r)))) }

pub passes_then : {fresh mid next : Bool} {r : List ℕ} {at to end : ℕ} → Passes fresh mid r at to → Passes mid next r to end → Passes fresh next r at end
passes_then {fresh} {mid} {next} {r} {at} {to} {end} f g =
    record {
      ahead = omega (arith, f.ahead, g.ahead);
      inside = g.inside;
      same =
          f.same
          ∙ ap (led (part r at to)) g.same
          ∙ led_led (part r at to) (part r to end) (parts_from next (drop end r))
          ∙ ap (λ (w : List ℕ). led w (parts_from next (drop end r))) (part_more r at to end f.ahead g.ahead);
    }

-- at the end of the roll it does not matter whether a line starts
pub passes_end : {fresh next : Bool} (other : Bool) {r : List ℕ} {at to : ℕ} → Passes fresh next r at to → length r ≤ to → Passes fresh other r at to
unfolding parts_from
passes_end {fresh} {next} other {r} {at} {to} f h =
    let over : drop to r ≡ [] = drop_of_length-le r h in
    record { ahead = f.ahead; inside = f.inside; same = f.same ∙ rw over }

-- ---- to the next line

-- one byte in front of the parts
led_one : (b : ℕ) (p : Parts) → in_front false b p ≡ led (b ∷ []) p
led_one b (parts lead sheets) = refl

byte_passes : (r : List ℕ) (at : ℕ) → at < length r → Passes false (ends_line (get_or r at 0)) r at (at + 1)
unfolding parts_from
byte_passes r at h =
    let n : at + 1 - at ≡ 1 = omega arith in
    record {
      ahead = omega arith;
      inside = omega arith;
      same = rw (n, here r at h) (led_one (get_or r at 0) (parts_from (ends_line (get_or r at 0)) (drop (at + 1) r)));
    }

-- an LF does, any other byte does not
pub line_passes : (r : List ℕ) (at : ℕ) → at < length r → get_or r at 0 ≡ lf → Passes false true r at (at + 1)
line_passes r at h e = let t : ends_line (get_or r at 0) ≡ true = eq-eqb (get_or r at 0) lf e in rw t at (byte_passes r at h)

pub other_passes : (r : List ℕ) (at : ℕ) → at < length r → (get_or r at 0 ≡ lf → ⊥) → Passes false false r at (at + 1)
other_passes r at h e = let t : ends_line (get_or r at 0) ≡ false = ne_eqb (get_or r at 0) lf e in rw t at (byte_passes r at h)

-- ---- a boundary

-- "<" and a byte behind it
two_bytes : (b c : ℕ) (l : List ℕ) → is_boundary (b ∷ c ∷ l) ≡ (eqb b (byte "<") && is_upper c)
unfolding is_boundary starts_with starts_in
two_bytes b c l = split (eqb b (byte "<")) (λ e. rw (e, starts_with)) (λ e. rw (e, starts_with))

too_short : (s : List ℕ) → length s < 2 → is_boundary s ≡ false
unfolding is_boundary starts_with starts_in
too_short [] h = refl
too_short (b ∷ []) h = split (starts_with (bytes "<") (b ∷ [])) (λ e. rw e) (λ e. rw e)
too_short (b ∷ c ∷ l) h = absurd (omega arith)

module _ (r : List ℕ) (at : ℕ) where
  pub boundary_short : length r - at < 2 → false ≡ is_boundary (drop at r)
  boundary_short h = sym (too_short (drop at r) (omega (arith, length-drop at r)))

  boundary_two : at + 2 ≤ length r → is_boundary (drop at r) ≡ (eqb (get_or r at 0) (byte "<") && is_upper (get_or r (at + 1) 0))
  boundary_two h =
      rw (here r at (omega arith), here r (at + 1) (omega arith)) (two_bytes (get_or r at 0) (get_or r (at + 1) 0) (drop (at + 1 + 1) r))

  pub boundary_upper : at + 2 ≤ length r → get_or r at 0 ≡ byte "<" → (t : Bool) → t ≡ is_upper (get_or r (at + 1) 0) → t ≡ is_boundary (drop at r)
  boundary_upper h e t f = rw (boundary_two h, eq-eqb (get_or r at 0) (byte "<") e) f

  pub boundary_other : at + 2 ≤ length r → (get_or r at 0 ≡ byte "<" → ⊥) → eqb (get_or r at 0) (byte "<") ≡ is_boundary (drop at r)
  boundary_other h e = rw (boundary_two h, ne_eqb (get_or r at 0) (byte "<") e)

  -- a boundary stands inside the roll
  pub boundary_inside : is_boundary (drop at r) ≡ true → at < length r
  boundary_inside e =
      up_to (length r) at (λ h. true_false (sym e ∙ ap is_boundary (drop_of_length-le r h) ∙ too_short [] (omega arith))) (λ h. h)

-- where no sheet begins it does not matter whether a line starts
no_start : (s : List ℕ) → is_boundary s ≡ false → parts_from true s ≡ parts_from false s
unfolding parts_from
no_start [] e = refl
no_start (b ∷ l) e = rw e

pub no_boundary : {next : Bool} {r : List ℕ} {at to : ℕ} → is_boundary (drop at r) ≡ false → Passes false next r at to → Passes true next r at to
no_boundary {r = r} {at = at} e f = record { ahead = f.ahead; inside = f.inside; same = no_start (drop at r) e ∙ f.same }

-- ---- blocks of bytes in which no sheet begins

other_first : (c : ℕ) (l : List ℕ) → eqb c (byte "<") ≡ false → is_boundary (c ∷ l) ≡ false
unfolding is_boundary starts_with
other_first c l e = rw (e, starts_with)

-- an LF that no "<" follows, or another byte
pub no_begin_passes : (r : List ℕ) (at : ℕ) → at + 1 < length r → may_begin (get_or r at 0) (get_or r (at + 1) 0) ≡ false → Passes false false r at (at + 1)
no_begin_passes r at h e =
    split (ends_line (get_or r at 0))
    (λ t. let other : eqb (get_or r (at + 1) 0) (byte "<") ≡ false = rw t at e in
    let none : is_boundary (drop (at + 1) r) ≡ false = rw (here r (at + 1) h) (other_first (get_or r (at + 1) 0) (drop (at + 1 + 1) r) other) in
    passes_then (rw t at (byte_passes r at (omega arith))) (no_boundary none (passes_none false r (at + 1) (omega arith))))
    (λ t. rw t at (byte_passes r at (omega arith)))

-- bytes over each of which no sheet begins
pub all_pass : {kind : ℕ → Type 0} {r : List ℕ} {at to : ℕ} → AllFrom kind at to → to ≤ length r
    → ((i : ℕ) → at ≤ i → i < to → kind i → Passes false false r i (i + 1)) → Passes false false r at to
all_pass {kind} {r} {at} {to} f h each =
    let end : at + (to - at) ≡ to = omega (arith, f.ahead) in
    rw end at (go (to - at) (omega (arith, f.ahead)))
  where
    go : (n : ℕ) → at + n ≤ to → Passes false false r at (at + n)
    go zero l = let none : at + 0 ≡ at = omega arith in rw none (passes_none false r at (omega arith))
    go (suc n) l =
        let next : at + suc n ≡ at + n + 1 = omega arith in
        rw next (passes_then (go n (omega arith)) (each (at + n) (omega arith) (omega arith) (f.each (at + n) (omega arith) (omega arith))))

-- ---- sheets from a boundary on

-- what stands before the first boundary becomes the first sheet
abbrev opened : Parts → Parts
opened (parts lead sheets) = parts [] (lead ∷ sheets)

opens : (b : ℕ) (p : Parts) → in_front true b p ≡ opened (in_front false b p)
opens b (parts lead sheets) = refl

starts : (s : List ℕ) → is_boundary s ≡ true → parts_of s ≡ opened (parts_from false s)
unfolding parts_from
starts [] e = true_false (sym e ∙ too_short [] (omega arith))
starts (b ∷ l) e = rw e (opens b (parts_from (ends_line b) l))

no_lead : (p : Parts) → opened p ≡ parts [] (sheets_in (opened p))
no_lead (parts lead sheets) = refl

some_sheet : (p : Parts) → 0 < length (sheets_in (opened p))
some_sheet (parts lead sheets) = omega arith

module _ {r : List ℕ} {at : ℕ} (b : Begins r at) where
  -- nothing stands before the sheet that begins there
  pub begins_parts : parts_of (drop at r) ≡ parts [] (sheets_from r at)
  unfolding parts_from
  begins_parts =
      up_to (length r) at
      (λ h. let over : drop at r ≡ [] = drop_of_length-le r h in rw over)
      (λ h. let s = starts (drop at r) (b.boundary h) in s ∙ rw s (no_lead (parts_from false (drop at r))))

  pub begins_some : at < length r → 0 < length (sheets_from r at)
  begins_some h = rw (starts (drop at r) (b.boundary h)) (some_sheet (parts_from false (drop at r)))

  pub begins_none_lem : length r ≤ at → sheets_from r at ≡ []
  unfolding parts_from
  begins_none_lem h = let over : drop at r ≡ [] = drop_of_length-le r h in rw over

pub part_length : (r : List ℕ) (at to : ℕ) → at ≤ to → to ≤ length r → length (part r at to) ≡ to - at
part_length r at to h k = length-take-le (to - at) (drop at r) (omega (arith, length-drop at r))

passed_parts : {fresh : Bool} {r : List ℕ} {at to : ℕ} → Passes fresh true r at to → Begins r to
    → parts_from fresh (drop at r) ≡ parts (part r at to) (sheets_from r to)
passed_parts {fresh} {r} {at} {to} f b = f.same ∙ rw (begins_parts b, append-nil (part r at to))

-- the sheet that begins at a boundary ends at the next one behind its first line
pub sheet_to : {r : List ℕ} {at mid to : ℕ} → is_boundary (drop at r) ≡ true → LineTo r at mid → BoundaryFrom r mid to → SheetTo r at to
sheet_to {r} {at} {mid} {to} e l b =
    record {
      ahead = omega (arith, l.further (boundary_inside r at e), b.passes.ahead);
      begins = b.begins;
      same = rw (starts (drop at r) e, passed_parts (passes_then l.passes b.passes) b.begins);
    }

-- what stands before the first boundary of a roll, and its sheets
pub roll_parts : {r : List ℕ} {first : ℕ} → BoundaryFrom r 0 first → parts_of r ≡ parts (take first r) (sheets_from r first)
roll_parts {r} {first} b = let n : first - 0 ≡ first = omega arith in rw n at (passed_parts b.passes b.begins)
