-- Line ends, blank lines, names and the bytes that are due: what reading them finds, and that it finds what stands there. Assumes nothing.
use Prim.Native.Nat.{ℕ, zero, suc, ◌+◌, ◌≤◌, ◌<◌}
use mathlib.Core.Path.{◌≡◌, refl, sym, ap, ◌∙◌}
use mathlib.Core.Logic.{inl}
use mathlib.Core.Bool.{Bool, true, false, or-true}
use mathlib.Core.List.{List, [], ◌∷◌, ◌++◌}
use native.Mathlib.Omega.{arith}
use lib.ListN.{length, replicate, length-append, length-replicate}
use lib.Seq.{length-take-le}
use lib.Dec.{leb, ltb, eqb}
use borrow.Author.Tests.{eqb-true, eq-eqb, leb-true, le-leb}
use Rattle.paper.specs.Found.{Found, found, fault, taking}
use Rattle.paper.specs.Bytes.{is_name_byte, is_upper, is_letter, is_blank, is_line_end, all, starts_in, length_in, front, behind, starts_with, lf, cr, tab, space, is}
use Rattle.paper.specs.Names.{few_capitals, name_rule, run, past_run}
use Rattle.paper.specs.Tree.{LineEnd, LF, CRLF, Blank}
use Rattle.paper.specs.Grammar.{line_end_onto, blank_onto, blanks_onto, tabs_onto, blank_rule}
use Rattle.paper.specs.Reading.{line_end, line_rest, is_blank_line, blank_turn, blank_lines, is_tab, no_space, tabs_only, name_of, name, due, makes}
use Rattle.paper.proofs.Tests.{split, true_false}
use Rattle.paper.proofs.Lists.{both, and, all_head, front_all, front_behind, front_of, behind_of, front_length, length_in_lem, all_same, same_byte, starts_is}
use Rattle.paper.proofs.Finds.{Tail, whole, past, tail_then, tail_drop, Fault, Reads, Turns, turns_of}
use Rattle.paper.proofs.Runs.{Says, many_reads, Shorter, turns_shorter, run_more, run_over}

-- a fault at the front of what is left
pub fault_here_lem : (s : List ℕ) (n : ℕ) → 4 ≤ n → n ≤ 11 → Fault s n s
fault_here_lem s n l h = record { least = l; most = inl h; tail = whole }

pub fault_end : (s : List ℕ) → Fault s 9 []
fault_end s = record { least = omega arith; most = inl (omega arith); tail = go s }
  where
    go : (s : List ℕ) → Tail s []
    go [] = whole
    go (b ∷ s) = past (go s)

-- ---- line ends

pub record ReadBlank (s : List ℕ) (b : Blank) (left : List ℕ) : Type 0 where
  pub covers : s ≡ blank_onto b left
  pub rule : blank_rule b ≡ true
  pub shorter : length left < length s

pub line_end_reads : (blanks s : List ℕ) → Reads s (λ b left. (b.blanks ≡ blanks) × (s ≡ line_end_onto b.end left)) (line_end blanks s)
unfolding line_end
line_end_reads blanks [] = fault_end []
line_end_reads blanks (b ∷ l) =
    split (eqb b lf) (λ e. rw (e, line_end) (past whole, (refl, ap (λ (c : ℕ). c ∷ l) (eqb-true b lf e))))
    (λ e. split (starts_with (cr ∷ lf ∷ []) (b ∷ l)) (λ f. rw (e, line_end, f) (past (tail_drop 1 l), (refl, starts_is (cr ∷ lf ∷ []) (b ∷ l) f)))
    (λ f. rw (e, line_end, f) (fault_here_lem (b ∷ l) 7 (omega arith) (omega arith))))

pub rest_reads : (s : List ℕ) → Reads s (λ b left. ReadBlank s b left) (line_rest s)
rest_reads s = go (line_rest s) (line_end_reads (front is_blank s) (behind is_blank s))
  where
    end_shorter : (e : LineEnd) (left : List ℕ) → length left < length (line_end_onto e left)
    end_shorter LF left = omega arith
    end_shorter CRLF left = omega arith

    go : (x : Found Blank) → Reads (behind is_blank s) (λ b left. (b.blanks ≡ front is_blank s) × (behind is_blank s ≡ line_end_onto b.end left)) x
        → Reads s (λ b left. ReadBlank s b left) x
    go (fault n left) h = record { least = h.least; most = h.most; tail = tail_then (tail_drop (length_in is_blank s) s) h.tail }
    go (found b left) h =
        let c : s ≡ blank_onto b left = sym (front_behind is_blank s) ∙ rw (h.1.0, ← h.1.1) in (
          tail_then (tail_drop (length_in is_blank s) s) h.0,
          record {
            covers = c;
            rule = rw h.1.0 (front_all is_blank s);
            shorter = omega (arith, ap length c, length-append b.blanks (line_end_onto b.end left), end_shorter b.end left);
          },
        )

-- a line end is no blank
pub ends_blank : (e : LineEnd) (next : List ℕ) → starts_in is_blank (line_end_onto e next) ≡ false
unfolding starts_in is_blank
ends_blank LF next = refl
ends_blank CRLF next = refl

pub line_end_complete : (blanks : List ℕ) (e : LineEnd) (next : List ℕ) → line_end blanks (line_end_onto e next) ≡ found (record { blanks = blanks; end = e }) next
unfolding line_end starts_with
line_end_complete blanks LF next = refl
line_end_complete blanks CRLF next = refl

pub rest_complete : (b : Blank) (next : List ℕ) → blank_rule b ≡ true → line_rest (blank_onto b next) ≡ found b next
rest_complete b next r =
    rw (
      front_of is_blank b.blanks (line_end_onto b.end next) r (ends_blank b.end next),
      behind_of is_blank b.blanks (line_end_onto b.end next) r (ends_blank b.end next),
    )
    (line_end_complete b.blanks b.end next)

-- ---- blank lines

pub blank_line_lem : (b : Blank) (next : List ℕ) → blank_rule b ≡ true → is_blank_line (blank_onto b next) ≡ true
unfolding starts_in is_line_end
blank_line_lem b next r = rw (behind_of is_blank b.blanks (line_end_onto b.end next) r (ends_blank b.end next)) (go b.end)
  where
    go : (e : LineEnd) → starts_in is_line_end (line_end_onto e next) ≡ true
    go LF = refl
    go CRLF = refl

pub record ReadBlanks (s : List ℕ) (bs : List Blank) (left : List ℕ) : Type 0 where
  pub covers : s ≡ blanks_onto bs left
  pub rule : all blank_rule bs ≡ true
  pub stops : is_blank_line left ≡ false

blank_says : Says Blank ℕ
blank_says = record {
  of_turn = λ room s b left. ReadBlank s b left;
  of_end = λ room s left. (s ≡ left) × (is_blank_line s ≡ false);
  of_run = λ room s bs left. ReadBlanks s bs left;
}

blank_turns : (room : ℕ) (s : List ℕ) → Turns s (λ b left. ReadBlank s b left) (λ left. (s ≡ left) × (is_blank_line s ≡ false)) (blank_turn room s)
unfolding blank_turn
blank_turns room s =
    split (is_blank_line s) (λ e. rw (e, blank_turn) (turns_of s (λ b left. ReadBlank s b left) (λ left. (s ≡ left) × (true ≡ false)) (line_rest s) (rest_reads s)))
    (λ e. rw (e, blank_turn) (whole, (refl, refl)))

pub blanks_reads : (s : List ℕ) → Reads s (λ bs left. ReadBlanks s bs left) (blank_lines s)
unfolding blank_says blanks_onto all
blanks_reads s =
    many_reads (taking (λ b. 0)) blank_turn blank_says blank_turns
    (λ room s left e. record { covers = e.0; rule = refl; stops = rw (← e.0) e.1 })
    (λ room s b mid bs left t r. record { covers = t.covers ∙ ap (blank_onto b) r.covers; rule = and t.rule r.rule; stops = r.stops })
    (suc (length s)) 0 s

pub blank_shorter : (room : ℕ) (s : List ℕ) → Shorter s (blank_turn room s)
blank_shorter room s =
    turns_shorter s (λ b left. ReadBlank s b left) (λ left. (s ≡ left) × (is_blank_line s ≡ false)) (λ b left h. h.shorter) (blank_turn room s) (blank_turns room s)

pub blanks_complete : (bs : List Blank) (next : List ℕ) → all blank_rule bs ≡ true → is_blank_line next ≡ false → blank_lines (blanks_onto bs next) ≡ found bs next
unfolding blanks_onto blank_turn
blanks_complete [] next r e = run_over (taking (λ b. 0)) blank_turn blank_shorter 0 next next (rw (e, blank_turn))
blanks_complete (b ∷ bs) next r e =
    let h = all_head blank_rule b bs r in
    run_more (taking (λ b. 0)) blank_turn blank_shorter 0 (blanks_onto (b ∷ bs) next) b (blanks_onto bs next) bs next
    (rw (blank_line_lem b (blanks_onto bs next) h.0, blank_turn, rest_complete b (blanks_onto bs next) h.0))
    (blanks_complete bs next h.1 e)

-- ---- tabs in front

pub tabs_covers : (s : List ℕ) → s ≡ tabs_onto (length_in is_tab s) (behind is_tab s)
tabs_covers s =
    sym (front_behind is_tab s)
    ∙ ap (λ (l : List ℕ). l ++ behind is_tab s) (same_byte tab (front is_tab s) (front_all is_tab s) ∙ ap (λ (n : ℕ). replicate n tab)
    (length-take-le (length_in is_tab s) s (length_in_lem is_tab s)))

pub tabs_length : (n : ℕ) (next : List ℕ) → starts_in is_tab next ≡ false → length_in is_tab (tabs_onto n next) ≡ n
tabs_length n next e = front_length is_tab (replicate n tab) next (all_same tab n) e ∙ length-replicate n tab

pub tabs_behind : (n : ℕ) (next : List ℕ) → starts_in is_tab next ≡ false → behind is_tab (tabs_onto n next) ≡ next
tabs_behind n next e = behind_of is_tab (replicate n tab) next (all_same tab n) e

no_space_lem : (s : List ℕ) (b : ℕ) (l : List ℕ) → Tail s (b ∷ l) → Reads s (λ tabs mark. mark ≡ behind is_tab s) (no_space s (b ∷ l))
unfolding no_space
no_space_lem s b l t =
    split (starts_in (is space) (behind is_tab s))
    (λ e. rw (e, no_space) (record { least = omega arith; most = inl (omega arith); tail = t }))
    (λ e. rw (e, no_space) (tail_drop (length_in is_tab s) s, refl))

pub all_tabs : (n : ℕ) → all is_blank (replicate n tab) ≡ true
unfolding all is_blank
all_tabs zero = refl
all_tabs (suc n) = all_tabs n

pub only_reads : (s : List ℕ) → Reads s (λ tabs mark. mark ≡ behind is_tab s) (tabs_only s)
unfolding no_space
only_reads s = go (behind is_blank s) (tail_drop (length_in is_blank s) s)
  where
    go : (r : List ℕ) → Tail s r → Reads s (λ tabs mark. mark ≡ behind is_tab s) (no_space s r)
    go [] t = fault_end s
    go (b ∷ l) t = no_space_lem s b l t

-- tabs, and then a byte that is neither blank nor a line end
module _ (n b : ℕ) (l : List ℕ) (e : is_blank b ≡ false) where
  no_tab : starts_in is_tab (b ∷ l) ≡ false
  unfolding starts_in is_blank
  no_tab = split (eqb b tab) (λ h. true_false (sym (rw h (or-true (eqb b space))) ∙ e)) (λ h. h)

  no_blanks : behind is_blank (tabs_onto n (b ∷ l)) ≡ b ∷ l
  unfolding starts_in
  no_blanks = behind_of is_blank (replicate n tab) (b ∷ l) (all_tabs n) e

  pub marked_line : is_line_end b ≡ false → is_blank_line (tabs_onto n (b ∷ l)) ≡ false
  unfolding starts_in
  marked_line f = rw no_blanks f

  pub only_complete : tabs_only (tabs_onto n (b ∷ l)) ≡ found n (b ∷ l)
  unfolding no_space starts_in is_blank
  only_complete =
      let t = tabs_behind n (b ∷ l) no_tab in
      rw (no_blanks, no_space, t) (split (eqb b space) (λ h. true_false (sym (rw h) ∙ e)) (λ h. rw (h, t, tabs_length n (b ∷ l) no_tab)))

-- ---- names

-- what the name rule asks: letters and digits, and one of them at least
upper_name : (b : ℕ) → is_upper b ≡ true → is_name_byte b ≡ true
unfolding is_name_byte is_letter
upper_name b e = rw e

few_names : (before : ℕ) (w : List ℕ) → few_capitals before w ≡ true → all is_name_byte w ≡ true
unfolding few_capitals all
few_names before [] e = refl
few_names before (b ∷ w) e =
    split (is_upper b)
    (λ u. split (ltb before 2) (λ f. and (upper_name b u) (few_names (before + 1) w (rw (u, few_capitals, f) at e))) (λ f. true_false (sym (rw (u, few_capitals, f) at e))))
    (λ u. split (is_name_byte b) (λ f. and f (few_names 0 w (rw (u, few_capitals, f) at e))) (λ f. true_false (sym (rw (u, few_capitals, f) at e))))

pub rule_name : (class : ℕ → Bool) (w : List ℕ) → name_rule class w ≡ true → (all is_name_byte w ≡ true) × (0 < length w)
unfolding name_rule starts_in
rule_name class [] e = true_false (sym e)
rule_name class (b ∷ w) e = (few_names 0 (b ∷ w) (both (class b) (few_capitals 0 (b ∷ w)) e).1, omega arith)

pub record ReadName (rule : List ℕ → Bool) (s w left : List ℕ) : Type 0 where
  pub covers : s ≡ w ++ left
  pub kept : rule w ≡ true
  pub some : 0 < length w

pub name_reads : (rule : List ℕ → Bool) (s : List ℕ) → Reads s (λ w left. ReadName rule s w left) (name rule s)
unfolding name_of
name_reads rule s = go (past_run s) refl
  where
    go : (r : List ℕ) → past_run s ≡ r → Reads s (λ w left. ReadName rule s w left) (name_of rule s r)
    go [] e = fault_end s
    go (b ∷ l) e =
        split (leb 1 (length (run s)))
        (λ f. split (rule (run s)) (λ g. rw (f, name_of, g) (
          rw (← e) (tail_drop (length_in is_name_byte s) s),
          record { covers = sym (front_behind is_name_byte s) ∙ ap (λ (r : List ℕ). run s ++ r) e; kept = g; some = leb-true 1 (length (run s)) f },
        ))
        (λ g. rw (f, name_of, g) (fault_here_lem s 4 (omega arith) (omega arith))))
        (λ f. rw (f, name_of) (fault_here_lem s 7 (omega arith) (omega arith)))

pub name_complete : (rule : List ℕ → Bool) (w : List ℕ) (b : ℕ) (next : List ℕ) → all is_name_byte w ≡ true → 0 < length w → rule w ≡ true → is_name_byte b ≡ false
    → name rule (w ++ (b ∷ next)) ≡ found w (b ∷ next)
unfolding name_of starts_in
name_complete rule w b next a l r e =
    let f = front_of is_name_byte w (b ∷ next) a e in
    rw (behind_of is_name_byte w (b ∷ next) a e, name_of, f, le-leb 1 (length w) l, f, r, f)

-- the same, where what follows is only known not to go on with the name
pub name_found : (rule : List ℕ → Bool) (w next : List ℕ) → all is_name_byte w ≡ true → 0 < length w → rule w ≡ true → 0 < length next → starts_in is_name_byte next ≡ false
    → name rule (w ++ next) ≡ found w next
unfolding starts_in
name_found rule w next a l r k e = go next k e
  where
    go : (next : List ℕ) → 0 < length next → starts_in is_name_byte next ≡ false → name rule (w ++ next) ≡ found w next
    go [] k e = absurd (omega arith)
    go (b ∷ next) k e = name_complete rule w b next a l r e

-- ---- a byte that is due, and an entry that is made

pub due_reads : (c : ℕ) (s : List ℕ) → Reads s (λ b left. s ≡ c ∷ left) (due c s)
unfolding due
due_reads c [] = fault_end []
due_reads c (b ∷ l) =
    split (eqb b c) (λ e. rw (e, due) (past whole, ap (λ (d : ℕ). d ∷ l) (eqb-true b c e))) (λ e. rw (e, due) (fault_here_lem (b ∷ l) 7 (omega arith) (omega arith)))

pub due_complete : (c : ℕ) (next : List ℕ) → due c (c ∷ next) ≡ found c next
unfolding due
due_complete c next = rw (eq-eqb c c refl, due)

pub makes_reads : {A : Type 0} (s : List ℕ) (room : ℕ) (at : List ℕ) (a : A) (left : List ℕ) → Tail s at → Tail s left
    → Reads s (λ b end. (0 < room) × (b ≡ a) × (end ≡ left)) (makes room at a left)
unfolding makes
makes_reads s zero at a left t u = record { least = omega arith; most = inl (omega arith); tail = t }
makes_reads s (suc room) at a left t u = (u, (omega arith, refl, refl))

pub makes_complete : {A : Type 0} (room : ℕ) (at : List ℕ) (a : A) (left : List ℕ) → 0 < room → makes room at a left ≡ found a left
unfolding makes
makes_complete zero at a left h = absurd (omega arith)
makes_complete (suc room) at a left h = refl
