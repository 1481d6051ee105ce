-- Content: what reading its lines and its closing line finds, and that it finds what stands there. Assumes nothing.
use Prim.Native.Nat.{ℕ, zero, suc, ◌<◌}
use mathlib.Core.Path.{◌≡◌, refl, sym, ap, ◌∙◌}
use mathlib.Core.Logic.{inl}
use mathlib.Core.Bool.{Bool, true, false, not}
use mathlib.Core.List.{List, [], ◌∷◌, ◌++◌, append_assoc, append-nil, append_cancel_left, head-eq_of_cons-eq}
use native.Mathlib.Omega.{arith}
use lib.ListN.{length, drop, replicate, length-append, length-replicate}
use lib.Seq.{drop-append_seam}
use lib.Dec.{eqb}
use borrow.Author.Tests.{eq-eqb, not-true}
use Rattle.paper.specs.Found.{Found, found, fault, and_then, more, many_of, taking}
use Rattle.paper.specs.Bytes.{byte, is_blank, is_line_end, all, starts_in, length_in, behind, starts_with, tab, lf, cr, up_to, onward}
use Rattle.paper.specs.Tree.{LineEnd, LF, CRLF, Blank, Line, blank, text, Marker, Concept, content}
use Rattle.paper.specs.Grammar.{line_end_onto, blank_onto, tabs_onto, closing_onto, line_onto, lines_onto, blank_rule, line_rule}
use Rattle.paper.specs.Reading.{line_end, line_rest, is_blank_line, makes, at_line_end, closing_mark, closes_line, text_line, other_line, line_turn, content_of}
use Rattle.paper.proofs.Tests.{split, true_false}
use Rattle.paper.proofs.Lists.{both, and, is_not, all_head, front_all, front_behind, front_of, behind_of, starts_is, starts_of}
use Rattle.paper.proofs.Finds.{Tail, whole, tail_length, tail_then, tail_drop, Reads, reads_on, reads_in, Turns, turns_of}
use Rattle.paper.proofs.Runs.{many_reads, Shorter, turns_shorter, run_more, run_over}
use Rattle.paper.proofs.Lines.{fault_end, ReadBlank, rest_reads, rest_complete, blank_line_lem, line_end_reads, line_end_complete, ends_blank, all_tabs, makes_reads}
use Rattle.paper.proofs.Lines.{makes_complete}

-- ---- the closing line

-- the closing mark in front of what follows
pub mark_onto : (tabs : ℕ) (w next : List ℕ) → tabs_onto tabs (closing_onto w next) ≡ closing_mark tabs w ++ next
mark_onto tabs w next =
    sym (append_assoc (replicate tabs tab) (closing_onto w []) next ∙ ap (λ (l : List ℕ). replicate tabs tab ++ (byte "<" ∷ byte "/" ∷ l))
    (append_assoc w (byte ">" ∷ []) next))

pub closes_is : (tabs : ℕ) (w s : List ℕ) → closes_line tabs w s ≡ true → s ≡ tabs_onto tabs (closing_onto w (drop (length (closing_mark tabs w)) s))
unfolding closes_line
closes_is tabs w s e = starts_is (closing_mark tabs w) s (both (starts_with (closing_mark tabs w) s) _ e).0 ∙ sym (mark_onto tabs w (drop (length (closing_mark tabs w)) s))

pub closes_of : (tabs : ℕ) (w next : List ℕ) → at_line_end (behind is_blank next) ≡ true → closes_line tabs w (tabs_onto tabs (closing_onto w next)) ≡ true
unfolding closes_line
closes_of tabs w next e = rw (mark_onto tabs w next) (and (starts_of (closing_mark tabs w) next) (rw (drop-append_seam (closing_mark tabs w) next) e))

-- one tab more in front
tabs_more : (n : ℕ) (next : List ℕ) → tabs_onto (suc n) next ≡ tabs_onto n (tab ∷ next)
tabs_more zero next = refl
tabs_more (suc n) next = ap (λ (l : List ℕ). tab ∷ l) (tabs_more n next)

-- a blank line, and a line with one tab too many, do not close
not_closes : (tabs : ℕ) (w s : List ℕ) → ((l : List ℕ) → s ≡ tabs_onto tabs (byte "<" ∷ l) → ⊥) → closes_line tabs w s ≡ false
not_closes tabs w s f = split (closes_line tabs w s) (λ e. absurd (f _ (closes_is tabs w s e))) (λ e. e)

other_byte : (a b : ℕ) (l m : List ℕ) → eqb a b ≡ false → a ∷ l ≡ b ∷ m → ⊥
other_byte a b l m e q = true_false (sym (eq-eqb a b (head-eq_of_cons-eq q)) ∙ e)

blank_open : (tabs : ℕ) (w : List ℕ) (b : Blank) (next : List ℕ) → blank_rule b ≡ true → closes_line tabs w (blank_onto b next) ≡ false
unfolding starts_in is_blank
blank_open tabs w b next r =
    not_closes tabs w (blank_onto b next)
    (λ l e. go b.end l (sym (behind_of is_blank b.blanks (line_end_onto b.end next) r (ends_blank b.end next)) ∙ ap (behind is_blank) e ∙ behind_of is_blank
    (replicate tabs tab) (byte "<" ∷ l) (all_tabs tabs) refl))
  where
    go : (e : LineEnd) (l : List ℕ) → line_end_onto e next ≡ byte "<" ∷ l → ⊥
    go LF l q = other_byte lf (byte "<") next l refl q
    go CRLF l q = other_byte cr (byte "<") (lf ∷ next) l refl q

text_open : (tabs : ℕ) (w next : List ℕ) → closes_line tabs w (tabs_onto (suc tabs) next) ≡ false
text_open tabs w next =
    not_closes tabs w (tabs_onto (suc tabs) next) (λ l e. other_byte tab (byte "<") next l refl
    (append_cancel_left (replicate tabs tab) (tab ∷ next) (byte "<" ∷ l) (sym (tabs_more tabs next) ∙ e)))

-- ---- one line

pub record ReadLine (tabs : ℕ) (s : List ℕ) (l : Line) (left : List ℕ) : Type 0 where
  pub covers : s ≡ line_onto tabs l left
  pub rule : line_rule l ≡ true
  pub shorter : length left < length s

-- the text of a line and its line end
pub record ReadText (s : List ℕ) (l : Line) (left : List ℕ) : Type 0 where
  pub written : List ℕ
  pub end : LineEnd
  pub is_text_lem : l ≡ text written end
  pub covers : s ≡ written ++ line_end_onto end left
  pub no_ends : all (λ b. not (is_line_end b)) written ≡ true

text_reads : (s : List ℕ) → Reads s (λ l left. ReadText s l left) (text_line s)
unfolding text_line
text_reads s =
    reads_on s (λ b left. (b.blanks ≡ []) × (onward is_line_end s ≡ line_end_onto b.end left)) _ _ (line_end [] (onward is_line_end s))
    (reads_in (tail_drop (length_in (λ b. not (is_line_end b)) s) s) _ (line_end [] (onward is_line_end s)) (line_end_reads [] (onward is_line_end s)))
    (λ b left u h. (
      u,
      record {
        written = up_to is_line_end s;
        end = b.end;
        is_text_lem = refl;
        covers = sym (front_behind (λ b. not (is_line_end b)) s) ∙ ap (λ (l : List ℕ). up_to is_line_end s ++ l) h.1;
        no_ends = front_all (λ b. not (is_line_end b)) s;
      },
    ))

-- a line end stops the text
stops_text : (e : LineEnd) (next : List ℕ) → starts_in (λ b. not (is_line_end b)) (line_end_onto e next) ≡ false
unfolding starts_in is_line_end
stops_text LF next = refl
stops_text CRLF next = refl

text_complete : (t : List ℕ) (e : LineEnd) (next : List ℕ) → all (λ b. not (is_line_end b)) t ≡ true → text_line (t ++ line_end_onto e next) ≡ found (text t e) next
unfolding text_line
text_complete t e next r =
    rw (
      behind_of (λ b. not (is_line_end b)) t (line_end_onto e next) r (stops_text e next),
      line_end_complete [] e next,
      front_of (λ b. not (is_line_end b)) t (line_end_onto e next) r (stops_text e next),
    )

-- blanks in front of a line end make a blank line
all_append : (class : ℕ → Bool) (v w : List ℕ) → all class v ≡ true → all class w ≡ true → all class (v ++ w) ≡ true
unfolding all
all_append class [] w e f = f
all_append class (b ∷ v) w e f = let h = both (class b) (all class v) e in and h.0 (all_append class v w h.1 f)

blanks_line : (tabs : ℕ) (t : List ℕ) (e : LineEnd) (next : List ℕ) → all is_blank t ≡ true → is_blank_line (tabs_onto (suc tabs) (t ++ line_end_onto e next)) ≡ true
blanks_line tabs t e next r =
    rw (← append_assoc (replicate (suc tabs) tab) t (line_end_onto e next))
    (blank_line_lem (record { blanks = replicate (suc tabs) tab ++ t; end = e }) next (all_append is_blank (replicate (suc tabs) tab) t (all_tabs (suc tabs)) r))

-- tabs in front
starts_tabs : (n : ℕ) (s : List ℕ) → starts_with (tabs_onto n []) s ≡ true → s ≡ tabs_onto n (drop n s)
starts_tabs n s e = starts_is (tabs_onto n []) s e ∙ rw (append-nil (replicate n tab), length-replicate n tab)

pub tabs_start : (n : ℕ) (next : List ℕ) → starts_with (tabs_onto n []) (tabs_onto n next) ≡ true
tabs_start n next = rw (append-nil (replicate n tab)) (starts_of (replicate n tab) next)

-- what stands behind the blanks of a line that is not blank
other_reads : (tabs : ℕ) (s : List ℕ) (E : List ℕ → Type 0) → is_blank_line s ≡ false → (r : List ℕ) → Tail s r
    → Turns s (λ l left. ReadLine tabs s l left) E (other_line tabs s r)
unfolding other_line
other_reads tabs s E e [] u = fault_end s
other_reads tabs s E e (b ∷ r) u =
    split (starts_with (tabs_onto (suc tabs) []) s)
    (λ f. rw (f, other_line) (turns_of s _ _ (text_line (drop (suc tabs) s)) (go f (text_line (drop (suc tabs) s)) (text_reads (drop (suc tabs) s)))))
    (λ f. rw (f, other_line) (record { least = omega arith; most = inl (omega arith); tail = u }))
  where
    go : starts_with (tabs_onto (suc tabs) []) s ≡ true → (x : Found Line) → Reads (drop (suc tabs) s) (λ l left. ReadText (drop (suc tabs) s) l left) x
        → Reads s (λ l left. ReadLine tabs s l left) x
    go f (fault n left) h = record { least = h.least; most = h.most; tail = tail_then (tail_drop (suc tabs) s) h.tail }
    go f (found l left) h =
        let k = h.1 in
        let c : s ≡ line_onto tabs (text k.written k.end) left = starts_tabs (suc tabs) s f ∙ ap (tabs_onto (suc tabs)) k.covers in
        let n : all is_blank k.written ≡ false =
        split (all is_blank k.written) (λ a. true_false (sym (blanks_line tabs k.written k.end left a) ∙ ap is_blank_line (sym c) ∙ e)) (λ a. a) in (
          tail_then (tail_drop (suc tabs) s) h.0,
          rw k.is_text_lem (record {
            covers = c;
            rule = and (is_not n) k.no_ends;
            shorter =
                omega (
                  arith,
                  ap length (starts_tabs (suc tabs) s f),
                  length-append (replicate (suc tabs) tab) (drop (suc tabs) s),
                  length-replicate (suc tabs) tab,
                  tail_length h.0,
                );
          }),
        )

pub line_reads : (tabs : ℕ) (w : List ℕ) (room : ℕ) (s : List ℕ)
    → Turns s (λ l left. ReadLine tabs s l left) (λ left. (s ≡ left) × (closes_line tabs w s ≡ true)) (line_turn tabs w room s)
unfolding line_turn
line_reads tabs w room s =
    split (closes_line tabs w s) (λ e. rw (e, line_turn) (whole, (refl, refl)))
    (λ e. split (is_blank_line s) (λ f. rw (e, line_turn, f) (turns_of s _ _ (and_then (line_rest s) (λ b left. found (blank b) left)) (go (line_rest s) (rest_reads s))))
    (λ f. rw (e, line_turn, f) (other_reads tabs s _ f (behind is_blank s) (tail_drop (length_in is_blank s) s))))
  where
    go : (x : Found Blank) → Reads s (λ b left. ReadBlank s b left) x → Reads s (λ l left. ReadLine tabs s l left) (and_then x (λ b left. found (blank b) left))
    go (found b left) h = (h.0, record { covers = h.1.covers; rule = h.1.rule; shorter = h.1.shorter })
    go (fault n left) h = h

pub line_shorter : (tabs : ℕ) (w : List ℕ) (room : ℕ) (s : List ℕ) → Shorter s (line_turn tabs w room s)
line_shorter tabs w room s = turns_shorter s _ _ (λ l left h. h.shorter) (line_turn tabs w room s) (line_reads tabs w room s)

-- the first byte of text that is no blank
pub record Inked (t : List ℕ) : Type 0 where
  pub blanks : List ℕ
  pub first : ℕ
  pub others : List ℕ
  pub is_text_lem : t ≡ blanks ++ (first ∷ others)
  pub blank_front : all is_blank blanks ≡ true
  pub no_blank : is_blank first ≡ false
  pub no_end : is_line_end first ≡ false

inked : (t : List ℕ) → all is_blank t ≡ false → all (λ b. not (is_line_end b)) t ≡ true → Inked t
unfolding all
inked [] e r = true_false e
inked (b ∷ t) e r =
    let h = all_head (λ b. not (is_line_end b)) b t r in
    split (is_blank b)
    (λ f. let k = inked t (rw f at e) h.1 in
    record {
      blanks = b ∷ k.blanks;
      first = k.first;
      others = k.others;
      is_text_lem = ap (λ (l : List ℕ). b ∷ l) k.is_text_lem;
      blank_front = and f k.blank_front;
      no_blank = k.no_blank;
      no_end = k.no_end;
    })
    (λ f. record { blanks = []; first = b; others = t; is_text_lem = refl; blank_front = refl; no_blank = f; no_end = not-true (is_line_end b) h.0 })

-- a line of text: its first byte that is no blank, and its text behind the tabs
module _ (tabs : ℕ) (t : List ℕ) (e : LineEnd) (next : List ℕ) (k : Inked t) where
  ink_behind : behind is_blank (tabs_onto (suc tabs) (t ++ line_end_onto e next)) ≡ k.first ∷ (k.others ++ line_end_onto e next)
  unfolding starts_in
  ink_behind =
      rw (
        k.is_text_lem,
        append_assoc k.blanks (k.first ∷ k.others) (line_end_onto e next),
        ← append_assoc (replicate (suc tabs) tab) k.blanks (k.first ∷ (k.others ++ line_end_onto e next)),
      )
      (behind_of is_blank (replicate (suc tabs) tab ++ k.blanks) (k.first ∷ (k.others ++ line_end_onto e next))
      (all_append is_blank (replicate (suc tabs) tab) k.blanks (all_tabs (suc tabs)) k.blank_front) k.no_blank)

  ink_line : is_blank_line (tabs_onto (suc tabs) (t ++ line_end_onto e next)) ≡ false
  unfolding starts_in
  ink_line = ap (starts_in is_line_end) ink_behind ∙ k.no_end

drop_tabs : (n : ℕ) (next : List ℕ) → drop n (tabs_onto n next) ≡ next
drop_tabs n next = ap (λ (m : ℕ). drop m (tabs_onto n next)) (sym (length-replicate n tab)) ∙ drop-append_seam (replicate n tab) next

other_complete : (tabs b : ℕ) (r t : List ℕ) (e : LineEnd) (next : List ℕ) → all (λ b. not (is_line_end b)) t ≡ true
    → other_line tabs (tabs_onto (suc tabs) (t ++ line_end_onto e next)) (b ∷ r) ≡ more (text t e) next
unfolding other_line
other_complete tabs b r t e next h =
    rw (tabs_start (suc tabs) (t ++ line_end_onto e next), other_line, drop_tabs (suc tabs) (t ++ line_end_onto e next), text_complete t e next h)

pub line_complete : (tabs : ℕ) (w : List ℕ) (room : ℕ) (l : Line) (next : List ℕ) → line_rule l ≡ true → line_turn tabs w room (line_onto tabs l next) ≡ more l next
unfolding line_turn
line_complete tabs w room (blank b) next r = rw (blank_open tabs w b next r, line_turn, blank_line_lem b next r, rest_complete b next r)
line_complete tabs w room (text t e) next r =
    let h = both (not (all is_blank t)) (all (λ b. not (is_line_end b)) t) r in
    let k = inked t (not-true (all is_blank t) h.0) h.1 in
    rw (text_open tabs w (t ++ line_end_onto e next), line_turn, ink_line tabs t e next k, ink_behind tabs t e next k)
    (other_complete tabs k.first (k.others ++ line_end_onto e next) t e next h.1)

-- ---- all lines

pub record ReadLines (tabs : ℕ) (w s : List ℕ) (lines : List Line) (left : List ℕ) : Type 0 where
  pub covers : s ≡ lines_onto tabs lines left
  pub rule : all line_rule lines ≡ true
  pub closed : closes_line tabs w left ≡ true

pub lines_reads : (tabs : ℕ) (w s : List ℕ) → Reads s (λ lines left. ReadLines tabs w s lines left) (many_of (λ l. 0) (line_turn tabs w) 0 s)
unfolding lines_onto all
lines_reads tabs w s =
    many_reads (taking (λ l. 0)) (line_turn tabs w)
    (record {
      of_turn = λ room s l left. ReadLine tabs s l left;
      of_end = λ room s left. (s ≡ left) × (closes_line tabs w s ≡ true);
      of_run = λ room s lines left. ReadLines tabs w s lines left;
    })
    (line_reads tabs w)
    (λ room s left e. record { covers = e.0; rule = refl; closed = rw (← e.0) e.1 })
    (λ room s l mid lines left t r. record { covers = t.covers ∙ ap (line_onto tabs l) r.covers; rule = and t.rule r.rule; closed = r.closed })
    (suc (length s)) 0 s

pub lines_complete : (tabs : ℕ) (w : List ℕ) (lines : List Line) (next : List ℕ) → all line_rule lines ≡ true → closes_line tabs w next ≡ true
    → many_of (λ l. 0) (line_turn tabs w) 0 (lines_onto tabs lines next) ≡ found lines next
unfolding lines_onto line_turn
lines_complete tabs w [] next r e = run_over (taking (λ l. 0)) (line_turn tabs w) (line_shorter tabs w) 0 next next (rw (e, line_turn))
lines_complete tabs w (l ∷ lines) next r e =
    let h = all_head line_rule l lines r in
    run_more (taking (λ l. 0)) (line_turn tabs w) (line_shorter tabs w) 0 (lines_onto tabs (l ∷ lines) next) l (lines_onto tabs lines next) lines next
    (line_complete tabs w 0 l (lines_onto tabs lines next) h.0) (lines_complete tabs w lines next h.1 e)

-- ---- the Content of a block

pub record ReadContent (tabs room : ℕ) (k : Marker) (s : List ℕ) (c : Concept) (left : List ℕ) : Type 0 where
  pub rest : Blank
  pub lines : List Line
  pub is_content : c ≡ content k rest lines
  pub covers : s ≡ blank_onto rest (lines_onto tabs lines (tabs_onto tabs (closing_onto k.name left)))
  pub rest_rule : blank_rule rest ≡ true
  pub lines_rule : all line_rule lines ≡ true
  pub fits : 0 < room

pub content_reads : (tabs room : ℕ) (k : Marker) (s : List ℕ) → Reads s (λ c left. ReadContent tabs room k s c left) (content_of tabs room k s)
unfolding content_of
content_reads tabs room k s =
    reads_on s (λ b left. ReadBlank s b left) _ _ (line_rest s) (rest_reads s)
    (λ b mid u r. reads_on s (λ v end. (0 < room) × (v ≡ b) × (end ≡ mid)) _ _ (makes room mid b mid) (makes_reads s room mid b mid u u)
    (λ v start u m. reads_on s (λ lines left. ReadLines tabs k.name start lines left) _ _ (many_of (λ l. 0) (line_turn tabs k.name) 0 start)
    (reads_in u _ (many_of (λ l. 0) (line_turn tabs k.name) 0 start) (lines_reads tabs k.name start))
    (λ lines left u q. (
      tail_then u (tail_drop (length (closing_mark tabs k.name)) left),
      record {
        rest = v;
        lines = lines;
        is_content = refl;
        covers = r.covers ∙ ap (blank_onto b) (sym m.2 ∙ q.covers ∙ ap (lines_onto tabs lines) (closes_is tabs k.name left q.closed)) ∙ rw m.1;
        rest_rule = rw m.1 r.rule;
        lines_rule = q.rule;
        fits = m.0;
      },
    ))))

pub content_complete : (tabs room : ℕ) (k : Marker) (rest : Blank) (lines : List Line) (next : List ℕ) → blank_rule rest ≡ true → all line_rule lines ≡ true → 0 < room
    → at_line_end (behind is_blank next) ≡ true
    → content_of tabs room k (blank_onto rest (lines_onto tabs lines (tabs_onto tabs (closing_onto k.name next)))) ≡ found (content k rest lines) next
unfolding content_of
content_complete tabs room k rest lines next r q f e =
    let end = tabs_onto tabs (closing_onto k.name next) in
    rw (
      rest_complete rest (lines_onto tabs lines end) r,
      makes_complete room (lines_onto tabs lines end) rest (lines_onto tabs lines end) f,
      lines_complete tabs k.name lines end q (closes_of tabs k.name next e),
    )
    (ap (found (content k rest lines)) (ap (drop (length (closing_mark tabs k.name))) (mark_onto tabs k.name next) ∙ drop-append_seam (closing_mark tabs k.name)
    next))
