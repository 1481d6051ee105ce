-- A byte that is due, a name and a line end, read at a place: a law for each way out of src/part.rt.
-- Over plain lists. Assumes nothing.
use Prim.Native.Nat.{ℕ, ◌+◌, ◌-◌, ◌≤◌, ◌<◌}
use mathlib.Core.Path.{◌≡◌, refl, sym, ap, ◌∙◌}
use mathlib.Core.Bool.{Bool, true, false}
use mathlib.Core.List.{List, [], ◌∷◌}
use native.Mathlib.Omega.{arith}
use lib.ListN.{length, get_or, drop, length-drop, drop_of_length-le}
use lib.Seq.{drop-drop, length-take-le}
use lib.Dec.{leb, eqb}
use Rattle.std.specs.Prelude.{Option, Some, None, MatchOption, HoldsAt, Result, Ok}
use borrow.Author.Tests.{eq-eqb, ne_eqb, eqb-true, le-leb, lt-leb}
use Rattle.paper.specs.declared.Refused.{Refused}
use Rattle.paper.specs.Found.{found, fault}
use Rattle.paper.specs.Bytes.{is_upper, is_lower, is_blank, is_name_byte, starts_in, front, starts_with, lf, cr, is}
use Rattle.paper.specs.Names.{run, past_run, is_concept_name, is_trait_name}
use Rattle.paper.specs.Tree.{LF, CRLF, Blank}
use Rattle.paper.specs.Grammar.{blank_onto}
use Rattle.paper.specs.Reading.{due, name_of, name, line_end, line_rest}
use Rattle.paper.proofs.Tests.{split}
use Rattle.paper.proofs.Lines.{ReadBlank, rest_reads}
use Rattle.text.proofs.Places.{here}
use Rattle.text.proofs.Compared.{stands_inside}
use Rattle.names.specs.declared.Run.{Run}
use Rattle.names.specs.Runs.{Measures}
use Rattle.names.proofs.Rule.{ruled}
use Rattle.lines.specs.Parts.{reached, passed, part, rule_of, rule_by}
use Rattle.lines.specs.declared.part.Whose.{Whose}
use Rattle.lines.specs.declared.part.Whose.TheVariants.{Concepts, Traits, Closings}
use Rattle.text.proofs.Stretch.{Stretch, stops, behind_at, front_at, behind_none, behind_some}
use Rattle.lines.proofs.Crossing.{further, reached_at, reaches}

-- ---- a byte that is due

module _ (s : List ℕ) (at b : ℕ) where
  pub due_cut : length s ≤ at → due b (drop at s) ≡ fault 9 []
  unfolding due
  due_cut h = rw (drop_of_length-le s h)

  pub due_other : at < length s → (get_or s at 0 ≡ b → ⊥) → due b (drop at s) ≡ fault 7 (drop at s)
  unfolding due
  due_other h n = rw (here s at h, due, ne_eqb (get_or s at 0) b n)

  pub due_here : at < length s → get_or s at 0 ≡ b → due b (drop at s) ≡ found b (drop (at + 1) s)
  unfolding due
  due_here h e = rw (here s at h, due, eq-eqb (get_or s at 0) b e, e)

-- ---- a name, the run from a place to its end

module _ (rule : List ℕ → Bool) (s : List ℕ) (at end : ℕ) (ends : Stretch is_name_byte s at end) where
  pub name_cut : end ≡ length s → name rule (drop at s) ≡ fault 9 []
  unfolding name_of
  name_cut e = rw (behind_none is_name_byte s at end ends (omega arith))

  module _ (more : end ≡ length s → ⊥) where
    onward : past_run (drop at s) ≡ get_or s end 0 ∷ drop (end + 1) s
    onward = behind_some is_name_byte s at end ends (omega (arith, ends.2))

    long : length (run (drop at s)) ≡ end - at
    long = ap length (front_at is_name_byte s at end ends) ∙ length-take-le (end - at) (drop at s) (omega (arith, length-drop at s, ends.2))

    pub name_none : end ≡ at → name rule (drop at s) ≡ fault 7 (drop at s)
    unfolding name_of
    name_none e = rw (onward, name_of, lt-leb 1 (length (run (drop at s))) (omega (arith, long)))

    module _ (some : end ≡ at → ⊥) where
      same_run : rule (run (drop at s)) ≡ rule (part s at end)
      same_run = ap rule (front_at is_name_byte s at end ends)

      some_run : leb 1 (length (run (drop at s))) ≡ true
      some_run = le-leb 1 (length (run (drop at s))) (omega (arith, long, ends.1))

      pub name_bad : rule (part s at end) ≡ false → name rule (drop at s) ≡ fault 4 (drop at s)
      unfolding name_of
      name_bad n = rw (onward, name_of, some_run, same_run ∙ n)

      pub name_good : rule (part s at end) ≡ true → name rule (drop at s) ≡ found (run (drop at s)) (drop end s)
      unfolding name_of
      name_good n = rw (onward, name_of, some_run, same_run ∙ n) (ap (found (run (drop at s))) (sym (here s end (omega (arith, ends.2)))))

-- a name by whose name it is, from its first byte and what was judged of its run
pub rule_by_lem : (whose : Whose) {s : List ℕ} {at : ℕ} {r : Run} → Measures s at r → (r.end ≡ at → ⊥)
    → rule_by whose (get_or s at 0) r.keeps ≡ rule_of whose (part s at r.end)
rule_by_lem Concepts {s} {at} {r} m some = ruled is_upper m some ∙ ap is_concept_name (front_at is_name_byte s at r.end m.ends)
rule_by_lem Traits {s} {at} {r} m some = ruled is_lower m some ∙ ap is_trait_name (front_at is_name_byte s at r.end m.ends)
rule_by_lem Closings m some = refl

-- ---- a line end

module _ (blanks s : List ℕ) (at : ℕ) where
  pub line_cut : length s ≤ at → line_end blanks (drop at s) ≡ fault 9 []
  unfolding line_end
  line_cut h = rw (drop_of_length-le s h)

  module _ (h : at < length s) where
    pub line_lf : get_or s at 0 ≡ lf → line_end blanks (drop at s) ≡ found (record { blanks = blanks; end = LF }) (drop (at + 1) s)
    unfolding line_end
    line_lf e = rw (here s at h, line_end, eq-eqb (get_or s at 0) lf e)

    module _ (n : get_or s at 0 ≡ lf → ⊥) where
      pub line_crlf : starts_with (cr ∷ lf ∷ []) (drop at s) ≡ true → line_end blanks (drop at s) ≡ found (record { blanks = blanks; end = CRLF }) (drop (at + 2) s)
      unfolding line_end
      line_crlf t =
          let two : at + 1 + 1 ≡ at + 2 = omega arith in
          rw (here s at h, line_end, ne_eqb (get_or s at 0) lf n, rw (here s at h) at t)
          (ap (found (record { blanks = blanks; end = CRLF })) (drop-drop 1 (at + 1) s ∙ ap (λ (k : ℕ). drop k s) two))

      pub line_other : starts_with (cr ∷ lf ∷ []) (drop at s) ≡ false → line_end blanks (drop at s) ≡ fault 7 (drop at s)
      unfolding line_end
      line_other f = rw (here s at h, line_end, ne_eqb (get_or s at 0) lf n, rw (here s at h) at f)

-- the blanks in front of a line end do not matter to what is passed
pub any_blanks : (s v w l : List ℕ) → passed s (line_end v l) ≡ passed s (line_end w l)
unfolding line_end
any_blanks s v w [] = refl
any_blanks s v w (b ∷ l) =
    split (eqb b lf) (λ e. rw (e, line_end)) (λ e. split (starts_with (cr ∷ lf ∷ []) (b ∷ l)) (λ f. rw (e, line_end, f)) (λ f. rw (e, line_end, f)))

-- behind the blanks that stand from a place to their end
pub rest_from : (s : List ℕ) (at end : ℕ) → Stretch is_blank s at end → passed s (line_end [] (drop end s)) ≡ passed s (line_rest (drop at s))
rest_from s at end ends =
    any_blanks s [] (front is_blank (drop at s)) (drop end s)
    ∙ ap (λ (l : List ℕ). passed s (line_end (front is_blank (drop at s)) l)) (sym (behind_at is_blank s at end ends))

-- an answer on the byte at a place, or on none there
pub by_byte : {X : Type 0} {Q : X → Type 0} (byte : X → ℕ) (s : List ℕ) (at : ℕ) (o : Option X) (test : ℕ → Bool) (none r v : Bool)
    → MatchOption o (length s ≤ at) (λ x. (at < length s) × HoldsAt (λ b. byte x ≡ b) s at) → MatchOption o (r ≡ none) Q
    → ((x : X) → Q x → r ≡ test (byte x)) → (length s ≤ at → none ≡ v) → (at < length s → test (get_or s at 0) ≡ v) → r ≡ v
by_byte byte s at None test none r v h e q f g = e ∙ f h
by_byte byte s at (Some x) test none r v h e q f g = q x e ∙ ap test (h.1 0) ∙ g h.0

-- one fixed byte that stands at a place
pub starts_one : (b : ℕ) (l : List ℕ) → starts_with (b ∷ []) l ≡ starts_in (is b) l
unfolding starts_with starts_in
starts_one b [] = refl
starts_one b (c ∷ l) = split (eqb c b) (λ e. rw (e, starts_with)) (λ e. rw (e, starts_with))

pub stands_one : (b : ℕ) (s : List ℕ) (at : ℕ) → starts_with (b ∷ []) (drop at s) ≡ true → (at < length s) × (get_or s at 0 ≡ b)
unfolding starts_in
stands_one b s at e =
    let h : at < length s = omega (arith, stands_inside (b ∷ []) s at e) in
    (h, eqb-true (get_or s at 0) b (rw (here s at h) at (sym (starts_one b (drop at s)) ∙ e)))

-- LF behind the blanks that stand from a place to their end
pub rest_lf : (s : List ℕ) (at end : ℕ) → Stretch is_blank s at end → starts_with (lf ∷ []) (drop end s) ≡ true
    → reached (Ok (end + 1)) ≡ passed s (line_rest (drop at s))
rest_lf s at end ends e =
    let one = stands_one lf s end e in
    reaches s (line_end [] (drop end s)) _ (end + 1) (omega (arith, one.0)) (line_lf [] s end one.0 one.1) ∙ rest_from s at end ends

-- no blanks in front of what is none
pub no_blanks : (b : ℕ) (s : List ℕ) (at : ℕ) → is_blank b ≡ false → starts_with (b ∷ []) (drop at s) ≡ true → Stretch is_blank s at at
no_blanks b s at n e =
    let one = stands_one b s at e in
    (sym (stops is_blank s at one.0 (ap is_blank one.1 ∙ n)), omega arith, omega (arith, one.0))

-- ---- what is read up to an end

-- the blank rest of a line
pub record RestAt (s : List ℕ) (at end : ℕ) : Type 0 where
  pub it : Blank
  pub finds : line_rest (drop at s) ≡ found it (drop end s)
  pub covers : drop at s ≡ blank_onto it (drop end s)
  pub ahead : at < end
  pub inside : end ≤ length s

pub rest_at : (s : List ℕ) (at : ℕ) (r : Result ℕ Refused) (end : ℕ) → at ≤ length s → reached r ≡ passed s (line_rest (drop at s)) → r ≡ Ok end
    → RestAt s at end
rest_at s at r end h e q =
    let f = reached_at (λ b left. ReadBlank (drop at s) b left) s at (line_rest (drop at s)) r end e (rest_reads (drop at s)) h q in
    record { it = f.it; finds = f.finds; covers = f.holds.covers; ahead = further s at end f.holds.shorter; inside = f.inside }
