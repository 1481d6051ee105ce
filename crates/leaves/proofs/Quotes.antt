-- Strings, characters and backticks at a place: a law for each way on or out of their functions. Over plain lists. Assumes nothing.
-- Document 01, "The grammar", Values.
use Prim.Native.Nat.{ℕ, suc, ◌+◌, ◌≤◌, ◌<◌}
use mathlib.Core.Path.{◌≡◌, refl, sym, ap, ◌∙◌}
use mathlib.Core.Bool.{Bool, true, false}
use mathlib.Core.List.{List, [], ◌∷◌, map}
use mathlib.Core.Logic.{◌⊎◌, inl, inr, ⊎_elim}
use native.Mathlib.Omega.{arith}
use lib.ListN.{length, get_or, drop, length-drop, drop_of_length-le}
use lib.Seq.{drop-drop}
use lib.Dec.{eqb}
use borrow.Author.Tests.{eqb-true, eqb-false, eq-eqb, ne_eqb}
use Rattle.std.specs.Prelude.{Result, Ok, Err}
use Rattle.paper.specs.declared.Refused.{Refused}
use Rattle.paper.specs.declared.Refusal.TheVariants.{Cut}
use Rattle.paper.specs.declared.forms.Form.{Form}
use Rattle.paper.specs.Answer.{refused_at}
use Rattle.paper.specs.Found.{Found, found, fault, and_then, Turn, more, over, stop, turn_of, taking, many_of}
use Rattle.paper.specs.Bytes.{byte, bytes, lf, cr, is_line_end, starts_with, encode}
use Rattle.paper.specs.Values.{Piece, direct, escaped, Leaf, string, character, backtick, leaf_form}
use Rattle.paper.specs.ReadingValues.{escape, closes, breaks, itself, inside_of, piece_turn, close_character, character_of, backtick_turn}
use Rattle.paper.proofs.Tests.{split, true_false}
use Rattle.paper.proofs.Finds.{Reads}
use Rattle.paper.proofs.Runs.{Shorter, many_turn}
use Rattle.paper.proofs.Pieces.{Stood, escape_reads, turn_closes, turn_escapes, turn_breaks, turn_itself, turn_shorter, tick_closes, tick_itself, tick_shorter}
use Rattle.paper.proofs.Leaves.{close_there, close_not, character_closes, character_breaks, character_escapes, character_itself, character_broken}
use Rattle.text.specs.declared.utf8.Cursor.{Cursor}
use Rattle.text.specs.declared.utf8.Step.{Step}
use Rattle.text.specs.Steps.{step_at}
use Rattle.text.proofs.Places.{here}
use Rattle.text.proofs.Steps.{Stepped, ended, failed}
use Rattle.leaves.specs.declared.judged.Judged.{Judged}
use Rattle.leaves.specs.Shown.{shown_of, Judges, Ends, quoted_of, string_of, backtick_of}
use Rattle.text.proofs.Answers.{FoundTo}
use Rattle.leaves.proofs.Integers.{one_of_two}
use Rattle.leaves.proofs.Showing.{finds, cut_off, stands, passes, moved}

-- ---- what a byte is between two quotes

module _ (quote b : ℕ) where
  inside_closes : b ≡ quote → inside_of quote b ≡ closes
  unfolding inside_of
  inside_closes e = rw (eq-eqb b quote e)

  inside_itself : (b ≡ quote → ⊥) → (b ≡ byte "\\" → ⊥) → (b ≡ lf → ⊥) → (b ≡ cr → ⊥) → inside_of quote b ≡ itself
  unfolding inside_of is_line_end
  inside_itself q k l c = rw (ne_eqb b quote q, ne_eqb b (byte "\\") k, ne_eqb b lf l, ne_eqb b cr c)

-- ---- runs of pieces, by their first turn

-- the pieces do not show in the answer, where each run of them has the same form
more_seen : (make : List Piece → Leaf) (f : ℕ) → ((ps : List Piece) → leaf_form (make ps) ≡ f) → (s : List ℕ) (p : Piece) (x : Found (List Piece))
    → shown_of leaf_form s (and_then x (λ ps left. found (make ps) left))
    ≡ shown_of leaf_form s (and_then (and_then x (λ ps left. found (p ∷ ps) left)) (λ ps left. found (make ps) left))
more_seen make f formed s p (found ps left) = rw (formed ps, formed (p ∷ ps))
more_seen make f formed s p (fault n left) = refl

module _ (turn : ℕ → List ℕ → Turn Piece) (shorter : (room : ℕ) (s : List ℕ) → Shorter s (turn room s)) (make : List Piece → Leaf) where
  run_over : (t left : List ℕ) → turn 0 t ≡ over left → quoted_of turn make t ≡ found (make []) left
  run_over t left e = rw (many_turn (taking (λ p. 0)) turn shorter (suc (length t)) 0 t (omega arith), e)

  run_stop : (n : ℕ) (t left : List ℕ) → turn 0 t ≡ stop n left → quoted_of turn make t ≡ fault n left
  run_stop n t left e = rw (many_turn (taking (λ p. 0)) turn shorter (suc (length t)) 0 t (omega arith), e)

  run_more : (f : ℕ) → ((ps : List Piece) → leaf_form (make ps) ≡ f) → (s t mid : List ℕ) (p : Piece) → turn 0 t ≡ more p mid
      → shown_of leaf_form s (quoted_of turn make mid) ≡ shown_of leaf_form s (quoted_of turn make t)
  run_more f formed s t mid p e = rw (many_turn (taking (λ p. 0)) turn shorter (suc (length t)) 0 t (omega arith), e)
      (more_seen make f formed s p (many_of (λ p. 0) turn 0 mid))

-- ---- an escape that was read

escape_at : (quote : ℕ) (s : List ℕ) (i : ℕ) → i < length s → get_or s i 0
    ≡ byte "\\" → Reads (drop i s) (Stood quote (drop i s)) (escape quote (drop i s) (drop (i + 1) s))
escape_at quote s i h b = rw (here s i h, b) (escape_reads quote (drop (i + 1) s))

module _ (quote : ℕ) (s : List ℕ) (i : ℕ) (h : i < length s) (b : get_or s i 0
    ≡ byte "\\") (q : Result ℕ Refused) (e : Ends s i (escape quote (drop i s) (drop (i + 1) s)) q) where
  escape_stands : (end : ℕ) → q ≡ Ok end → FoundTo (Stood quote (drop i s)) s i (escape quote (drop i s) (drop (i + 1) s)) end
  escape_stands = stands e (Stood quote (drop i s)) (escape_at quote s i h b)

-- ---- strings

pub string_ends : (s : List ℕ) (i : ℕ) → length s ≤ i → string_of (drop i s) ≡ fault 9 []
unfolding piece_turn
string_ends s i h = rw (drop_of_length-le s h) (run_stop piece_turn turn_shorter string 9 [] [] refl)

module _ (s : List ℕ) (i : ℕ) (h : i < length s) where
  piece_at : {X : Turn Piece} → piece_turn 0 (get_or s i 0 ∷ drop (i + 1) s) ≡ X → piece_turn 0 (drop i s) ≡ X
  piece_at e = rw (here s i h) e

  pub string_closes : get_or s i 0 ≡ byte "\"" → string_of (drop i s) ≡ found (string []) (drop (i + 1) s)
  string_closes e = run_over piece_turn turn_shorter string _ _ (piece_at (turn_closes 0 _ _ (inside_closes (byte "\"") (get_or s i 0) e)))

  line_end_lem : (get_or s i 0 ≡ lf) ⊎ (get_or s i 0 ≡ cr) → inside_of (byte "\"") (get_or s i 0) ≡ breaks
  unfolding inside_of is_line_end
  line_end_lem e = ⊎_elim (λ l. rw l) (λ l. rw l) e

  pub string_breaks : (get_or s i 0 ≡ lf) ⊎ (get_or s i 0 ≡ cr) → string_of (drop i s) ≡ fault 6 (drop i s)
  string_breaks e =
      run_stop piece_turn turn_shorter string 6 _ _ (piece_at (turn_breaks 0 _ _ (line_end_lem e)))
      ∙ ap (fault 6) (sym (here s i h))

  pub string_itself : (get_or s i 0 ≡ byte "\"" → ⊥) → (get_or s i 0 ≡ byte "\\" → ⊥) → ((get_or s i 0 ≡ lf) ⊎ (get_or s i 0 ≡ cr) → ⊥) → {r : Result Judged Refused}
      → Judges leaf_form s (i + 1) (string_of (drop (i + 1) s)) r → Judges leaf_form s i (string_of (drop i s)) r
  string_itself q k l e =
      moved e i (string_of (drop i s)) (omega arith)
      (run_more piece_turn turn_shorter string 1 (λ ps. refl) s _ _ _ (piece_at
      (turn_itself 0 _ _ (inside_itself (byte "\"") (get_or s i 0) q k (λ n. l (inl n)) (λ n. l (inr n))))))

  module _ (b : get_or s i 0 ≡ byte "\\") (q : Result ℕ Refused) (e : Ends s i (escape (byte "\"") (drop i s) (drop (i + 1) s)) q) where
    string_escape : piece_turn 0 (drop i s) ≡ turn_of (escape (byte "\"") (drop i s) (drop (i + 1) s))
    unfolding inside_of
    string_escape = piece_at (turn_escapes 0 (get_or s i 0) (drop (i + 1) s) (rw b)) ∙ rw (here s i h)

    pub string_refused : (w : Refused) → q ≡ Err w → Judges leaf_form s i (string_of (drop i s)) (Err w)
    string_refused w p = passes e leaf_form i (string_of (drop i s)) w p
        (λ left x. run_stop piece_turn turn_shorter string _ _ _ (string_escape ∙ ap turn_of x))

    pub string_escaped : (end : ℕ) → q ≡ Ok end → {r : Result Judged Refused} → Judges leaf_form s end (string_of (drop end s)) r
        → Judges leaf_form s i (string_of (drop i s)) r
    string_escaped end p k =
        let x = escape_stands (byte "\"") s i h b q e end p in
        moved k i (string_of (drop i s)) (omega (arith, e.ahead end p))
        (run_more piece_turn turn_shorter string 1 (λ ps. refl) s _ _ _ (string_escape ∙ ap turn_of x.finds))

-- ---- characters

module _ (ps : List Piece) (s : List ℕ) (at : ℕ) where
  pub quote_ends : length s ≤ at → close_character ps (drop at s) ≡ fault 9 []
  unfolding close_character
  quote_ends h = rw (drop_of_length-le s h)

  pub quote_other : at < length s → (get_or s at 0 ≡ byte "'" → ⊥) → close_character ps (drop at s) ≡ fault 6 (drop at s)
  quote_other h e = rw (here s at h) (close_not ps (get_or s at 0) (drop (at + 1) s) (ne_eqb (get_or s at 0) (byte "'") e))

  pub quote_there : at < length s → get_or s at 0 ≡ byte "'" → close_character ps (drop at s) ≡ found (character ps) (drop (at + 1) s)
  quote_there h e = rw (here s at h, e) (close_there ps (drop (at + 1) s))

-- a byte that is no character: a line end, or the quote
abbrev pub Broken : ℕ → Type 0
Broken b = (b ≡ lf) ⊎ ((b ≡ cr) ⊎ (b ≡ byte "'"))

pub broken_of : (b : ℕ) → ((b ≡ lf → ⊥) → (b ≡ cr → ⊥) → b ≡ byte "'") → Broken b
broken_of b h = split (eqb b lf) (λ e. inl (eqb-true b lf e)) (λ e. inr (one_of_two b cr (byte "'") (h (eqb-false b lf e))))

pub unbroken : (b : ℕ) → (b ≡ lf → ⊥) × (b ≡ cr → ⊥) × (b ≡ byte "'" → ⊥) → Broken b → ⊥
unbroken b n = ⊎_elim n.0 (⊎_elim n.1 n.2)

pub character_ends : (s : List ℕ) (at : ℕ) → length s ≤ at → character_of (drop at s) ≡ fault 9 []
unfolding character_of
character_ends s at h = rw (drop_of_length-le s h)

module _ (s : List ℕ) (at : ℕ) (h : at < length s) where
  pub character_none : Broken (get_or s at 0) → character_of (drop at s) ≡ fault 6 (drop at s)
  unfolding inside_of is_line_end
  character_none e =
      rw (here s at h)
      (⊎_elim (λ l. character_breaks _ _ (rw l)) (⊎_elim (λ l. character_breaks _ _ (rw l)) (λ q. character_closes _ _ (rw q))) e)

  module _ (b : get_or s at 0 ≡ byte "\\") (q : Result ℕ Refused) (e : Ends s at (escape (byte "'") (drop at s) (drop (at + 1) s)) q) where
    character_escape : character_of (drop at s) ≡ and_then (escape (byte "'") (drop at s) (drop (at + 1) s)) (λ p left. close_character (p ∷ []) left)
    unfolding inside_of
    character_escape = rw (here s at h) (character_escapes (get_or s at 0) (drop (at + 1) s) (rw b))

    pub character_refused : (w : Refused) → q ≡ Err w → Judges leaf_form s at (character_of (drop at s)) (Err w)
    character_refused w p = passes e leaf_form at (character_of (drop at s)) w p (λ left x. character_escape ∙ rw x)

    pub character_escaped : (end : ℕ) → q ≡ Ok end → {r : Result Judged Refused}
        → ((ps : List Piece) → Judges leaf_form s end (close_character ps (drop end s)) r) → Judges leaf_form s at (character_of (drop at s)) r
    character_escaped end p k =
        let x = escape_stands (byte "'") s at h b q e end p in
        moved (k (x.it ∷ [])) at (character_of (drop at s)) (omega (arith, e.ahead end p)) (rw (character_escape, x.finds))

  module _ (n : Broken (get_or s at 0) → ⊥) (k : get_or s at 0 ≡ byte "\\" → ⊥) where
    stands_itself : inside_of (byte "'") (get_or s at 0) ≡ itself
    stands_itself = inside_itself (byte "'") (get_or s at 0) (λ q. n (inr (inr q))) k (λ l. n (inl l)) (λ l. n (inr (inl l)))

    character_step : (v next : ℕ) → Stepped s at v next → character_of (drop at s) ≡ close_character (map direct (encode v)) (drop next s)
    character_step v next x = rw (here s at h) (character_itself (get_or s at 0) (drop (at + 1) s) v (drop next s) stands_itself (rw (here s at h) at x.reads))

    pub character_direct : (v next : ℕ) → Stepped s at v next → {r : Result Judged Refused}
        → ((ps : List Piece) → Judges leaf_form s next (close_character ps (drop next s)) r) → Judges leaf_form s at (character_of (drop at s)) r
    character_direct v next x c = moved (c (map direct (encode v))) at (character_of (drop at s)) (omega arith) (rw (character_step v next x))

    pub character_unread : (x : Step) → x ≡ step_at s at → ((v : ℕ) (next : Cursor) → x ≡ Step.Scalar v next → ⊥) → character_of (drop at s) ≡ fault 6 (drop at s)
    character_unread (Step.Scalar v next) e z = absurd (z v next refl)
    character_unread Step.Broken e z =
        let f = failed s at e in
        rw (here s at h) (character_broken (get_or s at 0) (drop (at + 1) s) f.number f.left stands_itself (rw (here s at h) at f.reads))
    character_unread Step.End e z = absurd (omega (arith, length-drop at s, ap length (ended s at e)))

-- ---- backticks

pub backtick_ends : (s : List ℕ) (i : ℕ) → length s ≤ i → backtick_of (drop i s) ≡ fault 9 []
unfolding backtick_turn
backtick_ends s i h = rw (drop_of_length-le s h) (run_stop backtick_turn tick_shorter backtick 9 [] [] refl)

module _ (s : List ℕ) (i : ℕ) (h : i < length s) where
  tick_at : {X : Turn Piece} → backtick_turn 0 (get_or s i 0 ∷ drop (i + 1) s) ≡ X → backtick_turn 0 (drop i s) ≡ X
  tick_at e = rw (here s i h) e

  pub backtick_closes : get_or s i 0 ≡ byte "`" → backtick_of (drop i s) ≡ found (backtick []) (drop (i + 1) s)
  backtick_closes e = run_over backtick_turn tick_shorter backtick _ _ (tick_at (rw e (tick_closes 0 (drop (i + 1) s))))

  module _ (n : get_or s i 0 ≡ byte "`" → ⊥) where
    pub backtick_escaped : starts_with (bytes "\\`") (drop i s) ≡ true → {r : Result Judged Refused} → Judges leaf_form s (i + 2) (backtick_of (drop (i + 2) s)) r
        → Judges leaf_form s i (backtick_of (drop i s)) r
    unfolding backtick_turn
    backtick_escaped f e =
        let k : i + 1 + 1 ≡ i + 2 = omega arith in
        let g : starts_with (bytes "\\`") (get_or s i 0 ∷ drop (i + 1) s) ≡ true = rw (here s i h) at f in
        let x : backtick_turn 0 (drop i s) ≡ more (escaped (byte "`")) (drop (i + 2) s) =
        tick_at (rw (ne_eqb (get_or s i 0) (byte "`") n, backtick_turn, g, drop-drop, k)) in
        moved e i (backtick_of (drop i s)) (omega arith) (run_more backtick_turn tick_shorter backtick 1 (λ ps. refl) s (drop i s) _ _ x)

    pub backtick_itself : starts_with (bytes "\\`") (drop i s) ≡ false → {r : Result Judged Refused} → Judges leaf_form s (i + 1) (backtick_of (drop (i + 1) s)) r
        → Judges leaf_form s i (backtick_of (drop i s)) r
    backtick_itself f e =
        moved e i (backtick_of (drop i s)) (omega arith)
        (run_more backtick_turn tick_shorter backtick 1 (λ ps. refl) s _ _ _
        (tick_at (tick_itself 0 (drop (i + 1) s) (get_or s i 0) (ne_eqb (get_or s i 0) (byte "`") n) (rw (here s i h) at f))))

-- what begins with no backslash is no escape
no_mark : (s : List ℕ) (i : ℕ) → i < length s → eqb (get_or s i 0) (byte "\\") ≡ false → starts_with (bytes "\\`") (drop i s) ≡ false
unfolding starts_with
no_mark s i h e = rw (here s i h, starts_with, e)

-- what begins with one is, if a backtick stands behind it
module _ (s : List ℕ) (i next : ℕ) (h : i < length s) (q : i + 1 ≡ next) (e : get_or s i 0 ≡ byte "\\") where
  mark : starts_with (bytes "\\`") (drop i s) ≡ starts_with (bytes "`") (drop next s)
  unfolding starts_with
  mark = rw (here s i h, starts_with, e, q)

  mark_tick : next < length s → get_or s next 0 ≡ byte "`" → starts_with (bytes "\\`") (drop i s) ≡ true
  unfolding starts_with
  mark_tick k b = mark ∙ rw (here s next k, starts_with, b)

  mark_other : next < length s → eqb (get_or s next 0) (byte "`") ≡ false → starts_with (bytes "\\`") (drop i s) ≡ false
  unfolding starts_with
  mark_other k n = mark ∙ rw (here s next k, starts_with, n)

  mark_last : length s ≤ next → starts_with (bytes "\\`") (drop i s) ≡ false
  unfolding starts_with
  mark_last k = mark ∙ rw (drop_of_length-le s k)

-- up to a place all is read, from where a piece begins: there, or at a backslash before it, which is open
pub record Ticked (s : List ℕ) (start i : ℕ) (marked : Bool) : Type 0 where
  pub begins : ℕ
  pub backslash : marked ≡ true → (begins + 1 ≡ i) × (get_or s begins 0 ≡ byte "\\")
  pub fresh : marked ≡ false → begins ≡ i
  pub ahead : start ≤ begins
  pub goes : (r : Result Judged Refused) → Judges leaf_form s begins (backtick_of (drop begins s)) r → Judges leaf_form s start (backtick_of (drop start s)) r

fresh_at : (s : List ℕ) (start i : ℕ) → start ≤ i
    → ((r : Result Judged Refused) → Judges leaf_form s i (backtick_of (drop i s)) r → Judges leaf_form s start (backtick_of (drop start s)) r) → Ticked s start i false
fresh_at s start i h goes = record { begins = i; backslash = λ e. true_false (sym e); fresh = λ e. refl; ahead = h; goes = goes }

module _ (s : List ℕ) (start i : ℕ) where
  goes_fresh : Ticked s start i false → (r : Result Judged Refused) → Judges leaf_form s i (backtick_of (drop i s)) r
      → Judges leaf_form s start (backtick_of (drop start s)) r
  goes_fresh t = rw (t.fresh refl) at t.goes

  -- the backslash before stands for itself
  passed_mark : (t : Ticked s start i true) → i ≤ length s → starts_with (bytes "\\`") (drop t.begins s) ≡ false → Ticked s start i false
  passed_mark t h f =
      let b = t.backslash refl in
      fresh_at s start i (omega (arith, t.ahead))
      (λ r j. t.goes r (backtick_itself s t.begins (omega arith) (λ q. omega arith) f (rw (sym b.0) at j)))

  ticked_byte : i < length s → (get_or s i 0 ≡ byte "`" → ⊥) → Ticked s start i false → Ticked s start (i + 1) (eqb (get_or s i 0) (byte "\\"))
  ticked_byte h n t =
      split (eqb (get_or s i 0) (byte "\\"))
      (λ e. rw e (record {
        begins = i;
        backslash = λ z. (refl, eqb-true (get_or s i 0) (byte "\\") e);
        fresh = λ z. true_false z;
        ahead = omega (arith, t.ahead, t.fresh refl);
        goes = goes_fresh t;
      }))
      (λ e. rw e (fresh_at s start (i + 1) (omega (arith, t.ahead, t.fresh refl)) (λ r j. goes_fresh t r (backtick_itself s i h n (no_mark s i h e) j))))

  -- over a byte that closes nothing
  pub ticked_on : i < length s → (marked : Bool) → Ticked s start i marked → (get_or s i 0 ≡ byte "`" → marked ≡ true)
      → Ticked s start (i + 1) (eqb (get_or s i 0) (byte "\\"))
  ticked_on h false t n = ticked_byte h (λ q. true_false (sym (n q))) t
  ticked_on h true t n =
      let b = t.backslash refl in
      split (eqb (get_or s i 0) (byte "`"))
      (λ e. let q = eqb-true (get_or s i 0) (byte "`") e in
      let far : t.begins + 2 ≡ i + 1 = omega arith in
      rw q (fresh_at s start (i + 1) (omega (arith, t.ahead))
      (λ r j. t.goes r (backtick_escaped s t.begins (omega arith) (λ z. omega arith) (mark_tick s t.begins i (omega arith) b.0 b.1 h q) (rw (sym far) at j)))))
      (λ e. ticked_byte h (eqb-false (get_or s i 0) (byte "`") e) (passed_mark t (omega arith) (mark_other s t.begins i (omega arith) b.0 b.1 h e)))

  pub ticked_closes : i < length s → get_or s i 0 ≡ byte "`" → (marked : Bool) → marked ≡ false → Ticked s start i marked
      → Judges leaf_form s start (backtick_of (drop start s)) (Ok (record { form = Form.String; end = i + 1 }))
  ticked_closes h q marked e t =
      goes_fresh (rw e at t) (Ok (record { form = Form.String; end = i + 1 }))
      (finds leaf_form s i (backtick_of (drop i s)) (record { form = Form.String; end = i + 1 }) (backtick []) (omega arith) (omega arith) refl (backtick_closes s i h q))

  pub ticked_ends : length s ≡ i → (w : Refused) → w ≡ refused_at Cut (length s) → (marked : Bool) → Ticked s start i marked
      → Judges leaf_form s start (backtick_of (drop start s)) (Err w)
  ticked_ends h w v false t = goes_fresh t (Err w) (cut_off leaf_form s i (backtick_of (drop i s)) w v (backtick_ends s i (omega arith)))
  ticked_ends h w v true t =
      let b = t.backslash refl in
      goes_fresh (passed_mark t (omega arith) (mark_last s t.begins i (omega arith) b.0 b.1 (omega arith))) (Err w)
      (cut_off leaf_form s i (backtick_of (drop i s)) w v (backtick_ends s i (omega arith)))
