-- The lines of Content up to the closing line, and what is made of them: a law for a turn of the loop of `read_content` (src/content.rt)
-- and for each of its ways out. Over plain lists. Assumes nothing.
use Prim.Native.Nat.{ℕ, ◌+◌, ◌-◌, ◌≤◌, ◌<◌}
use mathlib.Core.Path.{◌≡◌, refl, sym, ap, ◌∙◌}
use mathlib.Core.Bool.{Bool, true, false}
use mathlib.Core.List.{List, [], ◌∷◌}
use native.Mathlib.Omega.{arith}
use lib.ListN.{length, drop, length-append, length-drop}
use lib.Seq.{drop-drop}
use lib.Dec.{leb}
use borrow.Author.Tests.{leb-true, leb-false}
use Rattle.std.specs.Prelude.{Result, Ok, Err}
use Rattle.paper.specs.Answer.{refused_at}
use Rattle.paper.specs.declared.Refused.{Refused}
use Rattle.paper.specs.declared.Refusal.TheVariants.{NoEntryLeft}
use Rattle.paper.specs.Found.{Found, found, fault, and_then, Turn, more, over, stop, turn_of, taking, many_of}
use Rattle.paper.specs.Bytes.{byte}
use Rattle.paper.specs.Tree.{Blank, Line, Marker, Concept, content}
use Rattle.paper.specs.Grammar.{blank_onto, closing_onto, lines_onto}
use Rattle.paper.specs.Entries.{unnamed}
use Rattle.paper.specs.Reading.{line_rest, makes, closing_mark, closes_line, line_turn, content_of}
use Rattle.paper.proofs.Tests.{true_false}
use Rattle.paper.proofs.Finds.{Reads, Turns}
use Rattle.paper.proofs.Lines.{makes_complete}
use Rattle.paper.proofs.Content.{ReadLine, ReadLines, line_reads, line_shorter, lines_reads, closes_is}
use Rattle.entries.specs.Laid.{lay}
use Rattle.lines.specs.Parts.{seen, reached, passed, turned, Makes, content_entries, PassesLine}
use Rattle.lines.specs.declared.part.Part.{Part}
use Rattle.lines.proofs.Crossing.{further, reaches, reached_at, FoundAt, makes_refused, makes_passed, makes_read}
use Rattle.lines.proofs.Ends.{RestAt}
use Rattle.lines.proofs.Lengths.{tabs_long, blank_long, lines_long}
use Rattle.lines.proofs.Turns.{turn_more, turn_over, turn_refused}
use Rattle.lines.proofs.Closing.{mark_length}
use Rattle.lines.proofs.ContentLines.{turned_found}

-- ---- a turn of the loop

-- all lines up to the closing one
abbrev pub lines_of : ℕ → List ℕ → List ℕ → Found (List Line)
lines_of tabs w s = many_of (λ l. 0) (line_turn tabs w) 0 s

-- a line that does not close is found, or is a fault
record Unclosed (tabs : ℕ) (w s : List ℕ) : Type 0 where
  line : Found Line
  is_turn : line_turn tabs w 0 s ≡ turn_of line
  reads : Reads s (λ l left. ReadLine tabs s l left) line

unclosed : (tabs : ℕ) (w s : List ℕ) → closes_line tabs w s ≡ false → Unclosed tabs w s
unclosed tabs w s f = go (line_turn tabs w 0 s) refl (line_reads tabs w 0 s)
  where
    go : (x : Turn Line) → line_turn tabs w 0 s ≡ x → Turns s (λ l left. ReadLine tabs s l left) (λ left. (s ≡ left) × (closes_line tabs w s ≡ true)) x
        → Unclosed tabs w s
    go (more l left) e h = record { line = found l left; is_turn = e; reads = h }
    go (over left) e h = true_false (sym h.1.1 ∙ f)
    go (stop n left) e h = record { line = fault n left; is_turn = e; reads = h }

-- the lines from i on end where those from the start on do
pub record LinesTo (s w : List ℕ) (tabs start i : ℕ) : Type 0 where
  pub ahead : start ≤ i
  pub inside : i ≤ length s
  pub same : passed s (lines_of tabs w (drop i s)) ≡ passed s (lines_of tabs w (drop start s))

pub lines_begin : (s w : List ℕ) (tabs start : ℕ) → start ≤ length s → LinesTo s w tabs start start
lines_begin s w tabs start h = record { ahead = omega arith; inside = h; same = refl }

-- all lines, where the closing one stands at i
abbrev AllLines : List ℕ → List ℕ → ℕ → ℕ → ℕ → Type 0
AllLines s w tabs start i = FoundAt (λ ls. 0) (λ ls. 0) (λ lines left. ReadLines tabs w (drop start s) lines left) s start (lines_of tabs w (drop start s)) i 0 0

module _ (s w : List ℕ) (tabs start i : ℕ) (so_far : LinesTo s w tabs start i) where
  module _ (n : closes_line tabs w (drop i s) ≡ false) where
    this : Unclosed tabs w (drop i s)
    this = unclosed tabs w (drop i s) n

    seen_line : (r : Result ℕ Refused) → PassesLine s i tabs r → reached r ≡ passed s this.line
    seen_line r said = said w n ∙ ap (turned s) this.is_turn ∙ turned_found s this.line

    pub lines_refused : (e : Refused) → PassesLine s i tabs (Err e) → seen (Err e) ≡ passed s (lines_of tabs w (drop start s))
    lines_refused e said =
        turn_refused (taking (λ l. 0)) (line_turn tabs w) (line_shorter tabs w) 0 (drop i s) (λ l. 0) (λ l. 0) s turn_of (λ n left. refl) (λ ls. 0) (λ ls. 0) this.line
        (Err e) e (seen_line (Err e) said) refl this.is_turn
        ∙ so_far.same

    pub lines_on : (end : ℕ) → PassesLine s i tabs (Ok end) → (i < end) × LinesTo s w tabs start end
    lines_on end said =
        let f =
        reached_at (λ l left. ReadLine tabs (drop i s) l left) s i this.line (Ok end) end (seen_line (Ok end) said) this.reads so_far.inside refl in (
          further s i end f.holds.shorter,
          record {
            ahead = omega (arith, so_far.ahead, f.ahead);
            inside = f.inside;
            same =
                turn_more (taking (λ l. 0)) (line_turn tabs w) (line_shorter tabs w) 0 (drop i s) (λ ls. 0) (λ ls. 0) s f.it (drop end s)
                (this.is_turn ∙ ap turn_of f.finds)
                ∙ so_far.same;
          },
        )

  -- the closing line ends inside
  closing_inside : closes_line tabs w (drop i s) ≡ true → i + length (closing_mark tabs w) ≤ length s
  closing_inside n =
      let rest = drop (length (closing_mark tabs w)) (drop i s) in
      omega (
        arith,
        mark_length tabs w,
        ap length (closes_is tabs w (drop i s) n),
        tabs_long tabs (closing_onto w rest),
        length-append w (byte ">" ∷ rest),
        length-drop i s,
        so_far.inside,
      )

  all_lines : closes_line tabs w (drop i s) ≡ true → AllLines s w tabs start i
  unfolding line_turn
  all_lines n =
      let e =
      reaches s (lines_of tabs w (drop i s)) [] i so_far.inside
      (turn_over (taking (λ l. 0)) (line_turn tabs w) (line_shorter tabs w) 0 (drop i s) (drop i s) (rw (n, line_turn))) in
      reached_at (λ lines left. ReadLines tabs w (drop start s) lines left) s start (lines_of tabs w (drop start s)) (Ok i) i
      (e ∙ so_far.same) (lines_reads tabs w (drop start s)) (omega (arith, so_far.ahead, so_far.inside)) refl

-- ---- Content

-- what is made of the lines, and what follows the rest of the marker's line
abbrev made : ℕ → Marker → Blank → List Line → List ℕ → Found Concept
made tabs k rest lines left = found (content k rest lines) (drop (length (closing_mark tabs k.name)) left)

abbrev follows : ℕ → ℕ → Marker → Blank → List ℕ → Found Concept
follows tabs room k rest start = and_then (makes room start rest start) (λ rest start. and_then (lines_of tabs k.name start) (made tabs k rest))

module _ (s cells w : List ℕ) (at tabs next limit parent : ℕ) (k : Marker) (named : k.name ≡ w) (r : Result Part Refused) (after : List ℕ) where
  abbrev Answers : Type 0
  Answers = Makes (λ c. 1) (λ c. 1) (content_entries parent tabs at) s cells next (content_of tabs (limit - next) k (drop at s)) r after

  pub rest_refused : (e : Refused) → seen (Err e) ≡ passed s (line_rest (drop at s)) → r ≡ Err e → Answers
  unfolding content_of
  rest_refused e told q =
      makes_passed _ _ _ _ _ _ _ r after (λ b. 0) (λ b. 0) (λ y. and_then y (follows tabs (limit - next) k)) (λ n left. refl) (line_rest (drop at s)) e told q refl

  module _ (start : ℕ) (rest : RestAt s at start) (full : Bool) (told : full ≡ leb limit next) where
    pub no_room : full ≡ true → r ≡ Err (refused_at NoEntryLeft start) → Answers
    unfolding content_of makes
    no_room f q =
        let none : limit - next ≡ 0 = omega (arith, leb-true limit next (sym told ∙ f)) in
        makes_refused _ _ _ _ _ _ _ r after NoEntryLeft start q rest.inside (rw (rest.finds, none))

    module _ (left : full ≡ false) where
      by_lines : content_of tabs (limit - next) k (drop at s) ≡ and_then (lines_of tabs w (drop start s)) (made tabs k rest.it)
      unfolding content_of
      by_lines =
          let some : 0 < limit - next = omega (arith, leb-false limit next (sym told ∙ left)) in
          rw (rest.finds, makes_complete (limit - next) (drop start s) rest.it (drop start s) some, named)

      pub line_refused : (e : Refused) → seen (Err e) ≡ passed s (lines_of tabs w (drop start s)) → r ≡ Err e → Answers
      line_refused e told q =
          makes_passed _ _ _ _ _ _ _ r after (λ ls. 0) (λ ls. 0) (λ y. and_then y (made tabs k rest.it)) (λ n left. refl) (lines_of tabs w (drop start s)) e told q
          by_lines

      module _ (i : ℕ) (so_far : LinesTo s w tabs start i) (n : closes_line tabs w (drop i s) ≡ true) where
        all : AllLines s w tabs start i
        all = all_lines s w tabs start i so_far n

        found_all : (end : ℕ) → end ≡ i + length (closing_mark tabs w)
            → content_of tabs (limit - next) k (drop at s) ≡ found (content k rest.it all.it) (drop end s)
        found_all end e =
            let behind : drop (length (closing_mark tabs k.name)) (drop i s) ≡ drop end s = rw (named, drop-drop (length (closing_mark tabs w)) i s, e) in
            by_lines ∙ rw all.finds (ap (found (content k rest.it all.it)) behind)

        spans : (unnamed 5 0 parent 0 start i ∷ []) ≡ content_entries parent tabs at (content k rest.it all.it)
        spans =
            let a : at + length (blank_onto rest.it []) ≡ start =
            omega (arith, ap length rest.covers, blank_long rest.it (drop start s), length-drop at s, length-drop start s, rest.ahead, rest.inside) in
            let b : start + length (lines_onto tabs all.it []) ≡ i =
            omega (
              arith,
              ap length all.holds.covers,
              lines_long tabs all.it (drop i s),
              length-drop start s,
              length-drop i s,
              so_far.ahead,
              so_far.inside,
            ) in
            rw (a, b)

        pub entered : (end : ℕ) → end ≡ i + length (closing_mark tabs w) → r ≡ Ok (record { end = end; made = 1; own = 1 })
            → after ≡ lay cells next (unnamed 5 0 parent 0 start i ∷ []) → Answers
        entered end h q l =
            makes_read _ _ _ _ _ _ _ r after (content k rest.it all.it) _ q (omega (arith, closing_inside s w tabs start i so_far n))
            (found_all end h) refl refl
            (l ∙ ap (lay cells next) spans)
