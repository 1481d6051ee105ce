-- Annotations read at a place: a law for each way out of src/annotations.rt.
-- Over plain lists. Assumes nothing.
use Prim.Native.Nat.{ℕ, ◌+◌, ◌-◌, ◌≤◌, ◌<◌}
use mathlib.Core.Path.{◌≡◌, refl, sym, ap, ◌∙◌}
use mathlib.Core.Bool.{Bool, true, false}
use mathlib.Core.List.{List, [], ◌∷◌}
use native.Mathlib.Omega.{arith}
use lib.ListN.{length, get_or, drop, length-drop, length-append, drop_of_length-le}
use lib.Dec.{leb}
use Rattle.std.specs.Prelude.{Result, Ok, Err}
use borrow.Author.Tests.{eq-eqb, ne_eqb, leb-true, leb-false}
use Rattle.paper.specs.Found.{Found, found, fault, and_then}
use Rattle.paper.specs.Bytes.{byte, bytes, is_line_end, elem}
use Rattle.paper.specs.Reading.{line_rest, makes, text_of, escape_of, annotation}
use Rattle.paper.specs.Tree.{Blank, Annotation}
use Rattle.paper.specs.Entries.{unnamed}
use Rattle.paper.specs.Answer.{refused_at}
use Rattle.paper.specs.declared.Refused.{Refused}
use Rattle.paper.specs.declared.Refusal.TheVariants.{Cut, Due, NoEntryLeft}
use Rattle.paper.proofs.Lines.{makes_complete}
use Rattle.paper.proofs.Annotations.{ReadText, text_reads}
use Rattle.text.proofs.Places.{here}
use Rattle.entries.specs.Laid.{lay}
use Rattle.lines.specs.Parts.{seen, reached, passed, Makes, note_entries}
use Rattle.lines.specs.declared.part.Part.{Part}
use Rattle.lines.proofs.Crossing.{says_cut, says_refused, reaches, seen_map, reached_at, makes_refused, makes_passed, makes_read}
use Rattle.lines.proofs.Ends.{RestAt}

-- ---- the text, one byte or escape at a time

-- over the byte b and what follows it
module _ (b : ℕ) (l : List ℕ) where
  ends : b ≡ byte "]" → text_of (b ∷ l) ≡ found [] l
  unfolding text_of
  ends e = rw (eq-eqb b (byte "]") e, text_of)

  module _ (n : b ≡ byte "]" → ⊥) where
    escapes : b ≡ byte "\\" → text_of (b ∷ l) ≡ escape_of (b ∷ l) l
    unfolding text_of
    escapes e = rw (ne_eqb b (byte "]") n, text_of, eq-eqb b (byte "\\") e)

    module _ (m : b ≡ byte "\\" → ⊥) where
      breaks : is_line_end b ≡ true → text_of (b ∷ l) ≡ fault 7 (b ∷ l)
      unfolding text_of
      breaks q = rw (ne_eqb b (byte "]") n, text_of, ne_eqb b (byte "\\") m, q)

      goes_on : is_line_end b ≡ false → text_of (b ∷ l) ≡ and_then (text_of l) (λ t left. found (b ∷ t) left)
      unfolding text_of
      goes_on q = rw (ne_eqb b (byte "]") n, text_of, ne_eqb b (byte "\\") m, q)

-- the text from a place on ends where the text from another on ends
abbrev pub TextFrom : List ℕ → ℕ → ℕ → Type 0
TextFrom s at i = passed s (text_of (drop i s)) ≡ passed s (text_of (drop at s))

module _ (s : List ℕ) (at i : ℕ) (so_far : TextFrom s at i) where
  pub text_cut : length s ≤ i → (r : Result Part Refused) → r ≡ Err (refused_at Cut (length s)) → seen r ≡ passed s (text_of (drop at s))
  unfolding text_of
  text_cut h r e = says_cut _ _ s (text_of (drop i s)) r e (rw (drop_of_length-le s h)) ∙ so_far

  module _ (h : i < length s) where
    of_byte : passed s (text_of (get_or s i 0 ∷ drop (i + 1) s)) ≡ passed s (text_of (drop at s))
    of_byte = rw (here s i h) at so_far

    pub text_over : get_or s i 0 ≡ byte "]" → reached (Ok (i + 1)) ≡ passed s (text_of (drop at s))
    text_over e = reaches s _ [] (i + 1) (omega arith) (ends (get_or s i 0) (drop (i + 1) s) e) ∙ of_byte

    module _ (n : get_or s i 0 ≡ byte "]" → ⊥) where
      -- a backslash
      module _ (e : get_or s i 0 ≡ byte "\\") where
        of_escape : passed s (escape_of (drop i s) (drop (i + 1) s)) ≡ passed s (text_of (drop at s))
        of_escape = rw (here s i h) (sym (ap (passed s) (escapes (get_or s i 0) (drop (i + 1) s) n e)) ∙ of_byte)

        pub escape_cut : length s ≤ i + 1 → (r : Result Part Refused) → r ≡ Err (refused_at Cut (length s)) → seen r ≡ passed s (text_of (drop at s))
        unfolding text_of
        escape_cut k r p = says_cut _ _ s (escape_of (drop i s) (drop (i + 1) s)) r p (rw (drop_of_length-le s k)) ∙ of_escape

        module _ (k : i + 1 < length s) where
          escapes_byte : passed s (escape_of (drop i s) (get_or s (i + 1) 0 ∷ drop (i + 2) s)) ≡ passed s (text_of (drop at s))
          escapes_byte = let two : i + 1 + 1 ≡ i + 2 = omega arith in rw two at (rw (here s (i + 1) k) at of_escape)

          pub escape_bad : elem (get_or s (i + 1) 0) (bytes "]\\") ≡ false → (r : Result Part Refused) → r ≡ Err (refused_at Due i)
              → seen r ≡ passed s (text_of (drop at s))
          unfolding text_of
          escape_bad q r p =
              says_refused _ _ s (escape_of (drop i s) (get_or s (i + 1) 0 ∷ drop (i + 2) s)) r Due i p (omega arith) (rw (q, escape_of)) ∙ escapes_byte

          pub escape_good : elem (get_or s (i + 1) 0) (bytes "]\\") ≡ true → TextFrom s at (i + 2)
          unfolding text_of
          escape_good q =
              sym (rw (q, escape_of) (seen_map (λ t. 0) (λ t. 0) s (λ t. byte "\\" ∷ get_or s (i + 1) 0 ∷ t) (text_of (drop (i + 2) s)))) ∙ escapes_byte

      -- any other byte
      module _ (e : get_or s i 0 ≡ byte "\\" → ⊥) where
        pub text_break : is_line_end (get_or s i 0) ≡ true → (r : Result Part Refused) → r ≡ Err (refused_at Due i) → seen r ≡ passed s (text_of (drop at s))
        text_break q r p =
            says_refused _ _ s _ r Due i p (omega arith) (breaks (get_or s i 0) (drop (i + 1) s) n e q ∙ ap (fault 7) (sym (here s i h))) ∙ of_byte

        pub text_on : is_line_end (get_or s i 0) ≡ false → TextFrom s at (i + 1)
        text_on q =
            let on = goes_on (get_or s i 0) (drop (i + 1) s) n e q in
            sym (ap (passed s) on ∙ seen_map (λ t. 0) (λ t. 0) s (λ t. get_or s i 0 ∷ t) (text_of (drop (i + 1) s))) ∙ of_byte

-- a text that is read up to an end, its "]" too
pub record TextAt (s : List ℕ) (at end : ℕ) : Type 0 where
  pub it : List ℕ
  pub finds : text_of (drop at s) ≡ found it (drop end s)
  pub ends : end ≡ at + length it + 1
  pub inside : end ≤ length s

pub text_at : (s : List ℕ) (at : ℕ) (r : Result ℕ Refused) (end : ℕ) → at ≤ length s → reached r ≡ passed s (text_of (drop at s)) → r ≡ Ok end → TextAt s at end
text_at s at r end h e q =
    let f = reached_at (λ t left. ReadText (drop at s) t left) s at (text_of (drop at s)) r end e (text_reads (drop at s)) h q in
    record {
      it = f.it;
      finds = f.finds;
      ends =
          omega (arith, ap length f.holds.covers, length-append f.it (byte "]" ∷ drop end s), length-drop at s, length-drop end s, f.inside, f.ahead);
      inside = f.inside;
    }

-- ---- one annotation, whose text stands at a place, with so many entries left of a limit

module _ (parent : ℕ) (s cells : List ℕ) (next limit tabs at : ℕ) (r : Result Part Refused) (after : List ℕ) where
  -- what the annotation makes of its text
  abbrev of_text : Found (List ℕ) → Found Annotation
  of_text x =
      and_then x
      (λ t left.
      and_then (makes (limit - next) (drop at s) t left)
      (λ t left. and_then (line_rest left) (λ rest end. found (record { tabs = tabs; text = t; rest = rest }) end)))

  by_text : annotation (limit - next) tabs (drop at s) ≡ of_text (text_of (drop at s))
  unfolding annotation
  by_text = refl

  abbrev Noted : Type 0
  Noted = Makes (λ a. 1) (λ a. 1) (note_entries parent at) s cells next (annotation (limit - next) tabs (drop at s)) r after

  pub note_refused : (e : Refused) → seen (Err e) ≡ passed s (text_of (drop at s)) → r ≡ Err e → Noted
  note_refused e k q = makes_passed _ _ _ _ _ _ _ r after (λ t. 0) (λ t. 0) of_text (λ k left. refl) (text_of (drop at s)) e k q by_text

  module _ (end : ℕ) (text : TextAt s at end) (o : Bool) (asked : o ≡ leb limit next) where
    pub note_full : o ≡ true → at ≤ length s → r ≡ Err (refused_at NoEntryLeft at) → Noted
    unfolding makes
    note_full t h q =
        let none : limit - next ≡ 0 = omega (arith, leb-true limit next (sym asked ∙ t)) in
        makes_refused _ _ _ _ _ _ _ r after NoEntryLeft at q h (by_text ∙ rw (text.finds, none))

    module _ (f : o ≡ false) where
      -- what it makes of the rest of its line
      abbrev of_rest : Found Blank → Found Annotation
      of_rest x = and_then x (λ rest end. found (record { tabs = tabs; text = text.it; rest = rest }) end)

      by_rest : annotation (limit - next) tabs (drop at s) ≡ of_rest (line_rest (drop end s))
      by_rest =
          by_text ∙ rw (text.finds, makes_complete (limit - next) (drop at s) text.it (drop end s) (omega (arith, leb-false limit next (sym asked ∙ f))))

      pub rest_refused : (e : Refused) → seen (Err e) ≡ passed s (line_rest (drop end s)) → r ≡ Err e → Noted
      rest_refused e k q = makes_passed _ _ _ _ _ _ _ r after (λ b. 0) (λ b. 0) of_rest (λ k left. refl) (line_rest (drop end s)) e k q by_rest

      pub note_made : (last : ℕ) (rest : RestAt s end last) → r ≡ Ok (record { end = last; made = 1; own = 1 })
          → after ≡ lay cells next (unnamed 4 0 parent 0 at (end - 1) ∷ []) → Noted
      note_made last rest q l =
          let width : end - 1 ≡ at + length text.it = omega (arith, text.ends) in
          makes_read _ _ _ _ _ _ _ r after (record { tabs = tabs; text = text.it; rest = rest.it }) _ q rest.inside
          (by_rest ∙ ap of_rest rest.finds) refl refl
          (l ∙ ap (λ (to : ℕ). lay cells next (unnamed 4 0 parent 0 at to ∷ [])) width)
