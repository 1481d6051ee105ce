-- Annotations: what reading them finds, and that it finds what stands there. Assumes nothing.
use Prim.Native.Nat.{ℕ, suc, ◌-◌, ◌≤◌, ◌<◌}
use mathlib.Core.Path.{◌≡◌, refl, sym, ap, ◌∙◌}
use mathlib.Core.Bool.{true, false, not, ◌||◌}
use mathlib.Core.List.{List, [], ◌∷◌, ◌++◌}
use native.Mathlib.Omega.{arith}
use lib.ListN.{length, drop, length-append}
use lib.Dec.{eqb}
use borrow.Author.Tests.{eqb-true}
use Rattle.paper.specs.Found.{Found, found, fault, and_then, taking}
use Rattle.paper.specs.Bytes.{byte, bytes, is_line_end, all, elem, starts_in, length_in, behind, starts_with}
use Rattle.paper.specs.Tree.{Annotation}
use Rattle.paper.specs.Grammar.{blank_onto, tabs_onto, annotation_onto, annotations_onto, blank_rule, annotation_text, annotation_escape, annotation_rule}
use Rattle.paper.specs.Reading.{line_rest, is_tab, makes, text_of, escape_of, annotation, annotation_turn, annotations}
use Rattle.paper.proofs.Tests.{split, true_false}
use Rattle.paper.proofs.Lists.{both, and, all_head, starts_is, starts_of}
use Rattle.paper.proofs.Finds.{whole, past, tail_length, tail_then, tail_drop, Reads, reads_on, reads_in, Turns, turns_of}
use Rattle.paper.proofs.Runs.{many_reads, Shorter, turns_shorter, run_more, run_over}
use Rattle.paper.proofs.Lines.{fault_here_lem, fault_end, ReadBlank, rest_reads, rest_complete, makes_reads, makes_complete, tabs_covers, tabs_length, tabs_behind}

-- ---- the text

pub record ReadText (s t left : List ℕ) : Type 0 where
  pub covers : s ≡ t ++ (byte "]" ∷ left)
  pub rule : annotation_text t ≡ true

-- one byte in front of the text
text_more : (b : ℕ) (l : List ℕ) (x : Found (List ℕ)) → eqb b (byte "\\") ≡ false → eqb b (byte "]") ≡ false → is_line_end b ≡ false
    → Reads l (λ t left. ReadText l t left) x → Reads (b ∷ l) (λ t left. ReadText (b ∷ l) t left) (and_then x (λ t left. found (b ∷ t) left))
unfolding annotation_text
text_more b l (found t left) e f g h = (past h.0, record { covers = ap (λ (m : List ℕ). b ∷ m) h.1.covers; rule = rw (e, annotation_text, f, g) h.1.rule })
text_more b l (fault n left) e f g h = record { least = h.least; most = h.most; tail = past h.tail }

-- an escape in front of the text
text_escape : (b : ℕ) (l : List ℕ) (x : Found (List ℕ)) → elem b (bytes "]\\") ≡ true → Reads l (λ t left. ReadText l t left) x
    → Reads (byte "\\" ∷ b ∷ l) (λ t left. ReadText (byte "\\" ∷ b ∷ l) t left) (and_then x (λ t left. found (byte "\\" ∷ b ∷ t) left))
unfolding annotation_text
text_escape b l (found t left) e h = (past (past h.0), record { covers = ap (λ (m : List ℕ). byte "\\" ∷ b ∷ m) h.1.covers; rule = and e h.1.rule })
text_escape b l (fault n left) e h = record { least = h.least; most = h.most; tail = past (past h.tail) }

mutual
  unfolding text_of annotation_text

  pub text_reads : (s : List ℕ) → Reads s (λ t left. ReadText s t left) (text_of s)
  text_reads [] = fault_end []
  text_reads (b ∷ l) =
      split (eqb b (byte "]")) (λ e. rw (e, text_of) (past whole, record { covers = ap (λ (c : ℕ). c ∷ l) (eqb-true b (byte "]") e); rule = refl }))
      (λ e. split (eqb b (byte "\\")) (λ f. rw (e, text_of, f) (rw (eqb-true b (byte "\\") f) (escape_reads l)))
      (λ f. split (is_line_end b) (λ g. rw (e, text_of, f, g) (fault_here_lem (b ∷ l) 7 (omega arith) (omega arith))) (λ g. rw (
        e,
        text_of,
        f,
        g,
      ) (text_more b l (text_of l) f e g (text_reads l)))))

  escape_reads : (l : List ℕ) → Reads (byte "\\" ∷ l) (λ t left. ReadText (byte "\\" ∷ l) t left) (escape_of (byte "\\" ∷ l) l)
  escape_reads [] = fault_end (byte "\\" ∷ [])
  escape_reads (b ∷ l) =
      split (elem b (bytes "]\\")) (λ e. rw (e, escape_of) (text_escape b l (text_of l) e (text_reads l)))
      (λ e. rw (e, escape_of) (fault_here_lem (byte "\\" ∷ b ∷ l) 7 (omega arith) (omega arith)))

mutual
  unfolding text_of annotation_text elem

  pub text_complete : (t next : List ℕ) → annotation_text t ≡ true → text_of (t ++ (byte "]" ∷ next)) ≡ found t next
  text_complete [] next e = refl
  text_complete (b ∷ t) next e =
      split (eqb b (byte "\\"))
      (λ f. rw (eqb-true b (byte "\\") f) (escape_complete (byte "\\" ∷ (t ++ (byte "]" ∷ next))) t next (rw (f, annotation_text) at e)))
      (λ f. let h = both (not (eqb b (byte "]") || is_line_end b)) (annotation_text t) (rw (f, annotation_text) at e) in
      split (eqb b (byte "]")) (λ g. true_false (sym h.0 ∙ rw g))
      (λ g. split (is_line_end b) (λ k. true_false (sym h.0 ∙ rw (g, k))) (λ k. rw (g, text_of, f, k, text_complete t next h.1))))

  escape_complete : (back t next : List ℕ) → annotation_escape t ≡ true → escape_of back (t ++ (byte "]" ∷ next)) ≡ found (byte "\\" ∷ t) next
  escape_complete back [] next e = true_false (sym e)
  escape_complete back (b ∷ t) next e = let h = both (elem b (bytes "]\\")) (annotation_text t) e in rw (h.0, escape_of, text_complete t next h.1)

-- ---- one annotation

pub record ReadAnnotation (room : ℕ) (s : List ℕ) (a : Annotation) (left : List ℕ) : Type 0 where
  pub covers : s ≡ annotation_onto a left
  pub rule : annotation_rule a ≡ true
  pub fits : 0 < room
  pub shorter : length left < length s

-- behind its "["
pub record ReadBehind (room tabs : ℕ) (s : List ℕ) (a : Annotation) (left : List ℕ) : Type 0 where
  pub covers : s ≡ a.text ++ (byte "]" ∷ blank_onto a.rest left)
  pub rule : annotation_rule a ≡ true
  pub fits : 0 < room
  pub at : a.tabs ≡ tabs
  pub shorter : length left < length s

pub annotation_reads : (room tabs : ℕ) (s : List ℕ) → Reads s (λ a left. ReadBehind room tabs s a left) (annotation room tabs s)
unfolding annotation annotation_rule
annotation_reads room tabs s =
    reads_on s (λ t left. ReadText s t left) _ _ (text_of s) (text_reads s)
    (λ t mid u r. reads_on s (λ v end. (0 < room) × (v ≡ t) × (end ≡ mid)) _ _ (makes room s t mid) (makes_reads s room s t mid whole u)
    (λ v end u m. reads_on s (λ b left. ReadBlank end b left) _ _ (line_rest end) (reads_in u (λ b left. ReadBlank end b left) (line_rest end) (rest_reads end))
    (λ b left u k.
    let c : s ≡ v ++ (byte "]" ∷ blank_onto b left) = r.covers ∙ rw m.1 (ap (λ (l : List ℕ). t ++ (byte "]" ∷ l)) (sym m.2 ∙ k.covers)) in (
      u,
      record {
        covers = c;
        rule = and {a = annotation_text v} (rw m.1 r.rule) k.rule;
        fits = m.0;
        at = refl;
        shorter = omega (arith, ap length r.covers, length-append t (byte "]" ∷ mid), ap length m.2, k.shorter);
      },
    ))))

-- a line that begins with tabs and "["
turn_reads : (room : ℕ) (s : List ℕ)
    → Turns s (λ a left. ReadAnnotation room s a left) (λ left. (s ≡ left) × (starts_with (bytes "[") (behind is_tab s) ≡ false)) (annotation_turn room s)
unfolding annotation_turn
turn_reads room s =
    split (starts_with (bytes "[") (behind is_tab s))
    (λ e. rw (
      e,
      annotation_turn,
    ) (turns_of s _ _ (annotation room (length_in is_tab s) (drop 1 (behind is_tab s)))
    (go e (annotation room (length_in is_tab s) (drop 1 (behind is_tab s))) (annotation_reads room (length_in is_tab s) (drop 1 (behind is_tab s))))))
    (λ e. rw (e, annotation_turn) (whole, (refl, refl)))
  where
    go : starts_with (bytes "[") (behind is_tab s) ≡ true → (x : Found Annotation)
        → Reads (drop 1 (behind is_tab s)) (λ a left. ReadBehind room (length_in is_tab s) (drop 1 (behind is_tab s)) a left) x
        → Reads s (λ a left. ReadAnnotation room s a left) x
    go e (found a left) h =
        let b : behind is_tab s ≡ byte "[" ∷ drop 1 (behind is_tab s) = starts_is (bytes "[") (behind is_tab s) e in
        let c : s ≡ annotation_onto a left = tabs_covers s ∙ ap (tabs_onto (length_in is_tab s)) (b ∙ ap (λ (l : List ℕ). byte "[" ∷ l) h.1.covers) ∙ rw h.1.at in (
          tail_then (tail_then (tail_drop (length_in is_tab s) s) (tail_drop 1 (behind is_tab s))) h.0,
          record {
            covers = c;
            rule = h.1.rule;
            fits = h.1.fits;
            shorter = omega (arith, h.1.shorter, tail_length (tail_then (tail_drop (length_in is_tab s) s) (tail_drop 1 (behind is_tab s))));
          },
        )
    go e (fault n left) h =
        record { least = h.least; most = h.most; tail = tail_then (tail_then (tail_drop (length_in is_tab s) s) (tail_drop 1 (behind is_tab s))) h.tail }

pub annotation_shorter : (room : ℕ) (s : List ℕ) → Shorter s (annotation_turn room s)
annotation_shorter room s = turns_shorter s _ _ (λ a left h. h.shorter) (annotation_turn room s) (turn_reads room s)

-- ---- the annotations of a Concept

pub record ReadAnnotations (room : ℕ) (s : List ℕ) (notes : List Annotation) (left : List ℕ) : Type 0 where
  pub covers : s ≡ annotations_onto notes left
  pub rule : all annotation_rule notes ≡ true
  pub fits : length notes ≤ room

pub annotations_reads : (room : ℕ) (s : List ℕ) → Reads s (λ notes left. ReadAnnotations room s notes left) (annotations room s)
unfolding annotations_onto all
annotations_reads room s =
    many_reads (taking (λ a. 1)) annotation_turn
    (record {
      of_turn = λ room s a left. ReadAnnotation room s a left;
      of_end = λ room s left. (s ≡ left) × (starts_with (bytes "[") (behind is_tab s) ≡ false);
      of_run = λ room s notes left. ReadAnnotations room s notes left;
    })
    turn_reads
    (λ room s left e. record { covers = e.0; rule = refl; fits = omega arith })
    (λ room s a mid notes left t r. record {
      covers = t.covers ∙ ap (annotation_onto a) r.covers;
      rule = and t.rule r.rule;
      fits = omega (arith, t.fits, r.fits);
    })
    (suc (length s)) room s

-- what follows the annotations begins no other one
pub annotations_complete : (room : ℕ) (notes : List Annotation) (next : List ℕ) → all annotation_rule notes ≡ true → length notes ≤ room
    → starts_with (bytes "[") (behind is_tab next) ≡ false → annotations room (annotations_onto notes next) ≡ found notes next
unfolding annotations_onto annotation_turn annotation_rule annotation starts_in
annotations_complete room [] next r l e = run_over (taking (λ a. 1)) annotation_turn annotation_shorter room next next (rw (e, annotation_turn))
annotations_complete room (a ∷ notes) next r l e =
    let h = all_head annotation_rule a notes r in
    let k = both (annotation_text a.text) (blank_rule a.rest) h.0 in
    let inner = a.text ++ (byte "]" ∷ blank_onto a.rest (annotations_onto notes next)) in
    let f : behind is_tab (annotations_onto (a ∷ notes) next) ≡ byte "[" ∷ inner = tabs_behind a.tabs (byte "[" ∷ inner) refl in
    run_more (taking (λ a. 1)) annotation_turn annotation_shorter room (annotations_onto (a ∷ notes) next) a (annotations_onto notes next) notes next
    (rw (
      f,
      starts_of (bytes "[") inner,
      annotation_turn,
      f,
      tabs_length a.tabs (byte "[" ∷ inner) refl,
      text_complete a.text (blank_onto a.rest (annotations_onto notes next)) k.0,
      makes_complete room inner a.text
          (blank_onto a.rest (annotations_onto notes next)) (omega arith),
      rest_complete a.rest (annotations_onto notes next) k.1,
    ))
    (annotations_complete (room - 1) notes next h.1 (omega arith) e)
