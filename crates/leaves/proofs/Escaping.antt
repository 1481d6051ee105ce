-- Escapes at a place: a law for each way out of their functions. Over plain lists. Assumes nothing.
-- Document 01, "The grammar", Values: strings and characters.
use Prim.Native.Nat.{ℕ, ◌+◌, ◌-◌, ◌≤◌, ◌<◌}
use mathlib.Core.Path.{◌≡◌, refl, sym, ◌∙◌}
use mathlib.Core.Bool.{Bool, true, false, ◌&&◌}
use mathlib.Core.List.{List, [], ◌∷◌, ◌++◌}
use native.Mathlib.Nat.{add-sub_cancel_left}
use native.Mathlib.Omega.{arith}
use lib.ListN.{length, get_or, take, drop, length-take, length-drop, drop_of_length-le}
use lib.Seq.{drop-drop, length-take-le}
use lib.Dec.{eqb}
use borrow.Author.Tests.{ne_eqb}
use Rattle.std.specs.Prelude.{Result}
use Rattle.std.specs.Bool.{then_some}
use Rattle.std.specs.Option.{ok_or}
use Rattle.paper.specs.declared.Refused.{Refused}
use Rattle.paper.specs.declared.Refusal.TheVariants.{Value}
use Rattle.paper.specs.Answer.{refused_at}
use Rattle.paper.specs.Found.{Found, fault}
use Rattle.paper.specs.Bytes.{byte, bytes, within, is_hex, all, starts_with, length_in}
use Rattle.paper.specs.Values.{Piece, escaped, four, braces, spells_scalar, piece_rule}
use Rattle.paper.specs.ReadingValues.{judged, four_digits, braced_digits, escape}
use Rattle.paper.proofs.Tests.{split, true_false, inside, below}
use Rattle.paper.proofs.Lists.{starts_is}
use Rattle.paper.proofs.Pieces.{judged_keeps, judged_breaks, four_there, four_cut, four_not, braced_long}
use Rattle.paper.proofs.Pieces.{braced_cut, braced_closed, braced_not, escape_four, escape_braces, escape_letter}
use Rattle.text.proofs.Places.{here}
use Rattle.text.proofs.Stretch.{Stretch, front_at, behind_none, behind_some}
use Rattle.leaves.specs.Shown.{Ends, no_form}
use Rattle.leaves.proofs.Showing.{finds, no_value}
use Rattle.leaves.proofs.Runs.{all_front}

-- ---- an escape that is judged by its rule

pub by_rule : (quote : ℕ) (s : List ℕ) (at end : ℕ) (p : Piece) (x : Found Piece) → at < end → end ≤ length s → x ≡ judged quote (drop at s) p (drop end s)
    → (holds : Bool) → holds ≡ piece_rule quote p → (r : Result ℕ Refused) → (w : Refused) → w ≡ refused_at Value at → r ≡ ok_or (then_some holds end) w → Ends s at x r
by_rule quote s at end p x h k e true t r w v q = rw q (finds no_form s at x end p h k refl (e ∙ judged_keeps quote (drop at s) p (drop end s) (sym t)))
by_rule quote s at end p x h k e false t r w v q =
    rw q (no_value no_form s at x w at v (omega arith) (e ∙ judged_breaks quote (drop at s) p (drop end s) (sym t)))

-- ---- hex digits

-- the bytes of the part that is judged are hex digits, and few
pub few_digits : (t : List ℕ) (n : ℕ) → n ≤ length_in is_hex t → n ≤ 6 → (all is_hex (take n t) ≡ true) × (length (take n t) ≤ 6)
few_digits t n h k = (all_front is_hex n t h, omega (arith, length-take n t))

module _ (quote : ℕ) (s : List ℕ) (at start stop : ℕ) (run : Stretch is_hex s start stop) where
  -- four of them
  module _ (short : stop < start + 4) where
    pub four_ends : stop ≡ length s → four_digits quote (drop at s) (drop start s) ≡ fault 9 []
    four_ends e = four_cut quote (drop at s) (drop start s) (omega arith) (behind_none is_hex s start stop run (omega arith))

    pub four_other : stop < length s → four_digits quote (drop at s) (drop start s) ≡ fault 6 (drop at s)
    four_other h = four_not quote (drop at s) (drop start s) _ _ (omega arith) (behind_some is_hex s start stop run h)

  module _ (long : start + 4 ≤ stop) where
    pub four_judged : four_digits quote (drop at s) (drop start s) ≡ judged quote (drop at s) (four (take 4 (drop start s))) (drop (start + 4) s)
    four_judged = four_there quote (drop at s) (drop start s) (omega arith) ∙ rw drop-drop

    pub four_rule : piece_rule quote (four (take 4 (drop start s))) ≡ spells_scalar (take (start + 4 - start) (drop start s))
    unfolding piece_rule
    four_rule = rw (length-take-le 4 (drop start s) (omega (arith, length-drop start s)), add-sub_cancel_left)

  -- one to six of them, and "}"
  pub braced_many : 6 < stop - start → braced_digits quote (drop at s) (drop start s) ≡ fault 6 (drop at s)
  braced_many h = braced_long quote (drop at s) (drop start s) (omega arith)

  module _ (few : stop - start ≤ 6) where
    pub braced_ends : stop ≡ length s → braced_digits quote (drop at s) (drop start s) ≡ fault 9 []
    braced_ends e = braced_cut quote (drop at s) (drop start s) (omega arith) (behind_none is_hex s start stop run (omega arith))

    module _ (h : stop < length s) where
      pub braced_other : (get_or s stop 0 ≡ byte "}" → ⊥) → braced_digits quote (drop at s) (drop start s) ≡ fault 6 (drop at s)
      braced_other e = braced_not quote (drop at s) (drop start s) _ _ (omega arith) (behind_some is_hex s start stop run h)
          (ne_eqb (get_or s stop 0) (byte "}") e)

      module _ (e : get_or s stop 0 ≡ byte "}") where
        pub braced_judged : braced_digits quote (drop at s) (drop start s) ≡ judged quote (drop at s) (braces (take (stop - start) (drop start s)))
            (drop (stop + 1) s)
        braced_judged =
            braced_closed quote (drop at s) (drop start s) (drop (stop + 1) s) (omega arith) (behind_some is_hex s start stop run h ∙ rw e)
            ∙ rw (front_at is_hex s start stop run)

        braced_rule : piece_rule quote (braces (take (stop - start) (drop start s)))
            ≡ (within 1 6 (stop - start) && spells_scalar (take (stop - start) (drop start s)))
        unfolding piece_rule
        braced_rule = rw (length-take-le (stop - start) (drop start s) (omega (arith, length-drop start s)))

        pub braced_none : stop ≡ start → braced_digits quote (drop at s) (drop start s) ≡ fault 6 (drop at s)
        braced_none q = braced_judged ∙ judged_breaks quote (drop at s) _ _ (braced_rule ∙ rw (below 1 6 (stop - start) (omega arith)))

        module _ (some : start < stop) where
          pub braced_spells : piece_rule quote (braces (take (stop - start) (drop start s))) ≡ spells_scalar (take (stop - start) (drop start s))
          braced_spells = braced_rule ∙ rw (inside 1 6 (stop - start) (omega arith) few)

-- ---- behind a backslash

module _ (quote : ℕ) (s : List ℕ) (at : ℕ) (h : at < length s) (b : get_or s at 0 ≡ byte "\\") where
  starts_behind : (part : List ℕ) → starts_with (byte "\\" ∷ part) (drop at s) ≡ starts_with part (drop (at + 1) s)
  unfolding starts_with
  starts_behind part = rw (here s at h, b)

  -- what fixed bytes leave behind the backslash
  behind_part : (part : List ℕ) → starts_with (byte "\\" ∷ part) (drop at s) ≡ true → drop (at + 1) s ≡ part ++ drop (at + 1 + length part) s
  behind_part part e = starts_is part (drop (at + 1) s) (sym (starts_behind part) ∙ e) ∙ rw drop-drop

  pub braced_there : starts_with (bytes "\\u{") (drop at s) ≡ true → escape quote (drop at s) (drop (at + 1) s)
      ≡ braced_digits quote (drop at s) (drop (at + 3) s)
  braced_there e =
      let n : at + 1 + 2 ≡ at + 3 = omega arith in
      rw (behind_part (bytes "u{") e, n) (escape_braces quote (drop at s) (drop (at + 3) s))

  pub four_instead : starts_with (bytes "\\u{") (drop at s) ≡ false → starts_with (bytes "\\u") (drop at s) ≡ true
      → escape quote (drop at s) (drop (at + 1) s) ≡ four_digits quote (drop at s) (drop (at + 2) s)
  unfolding starts_with
  four_instead f e =
      let n : at + 1 + 1 ≡ at + 2 = omega arith in
      let l : drop (at + 1) s ≡ byte "u" ∷ drop (at + 2) s = behind_part (bytes "u") e ∙ rw n in
      let g : starts_with (bytes "{") (drop (at + 2) s) ≡ false = rw l at (sym (starts_behind (bytes "u{")) ∙ f) in
      rw l (escape_four quote (drop at s) (drop (at + 2) s) g)

  pub escape_ends : length s ≤ at + 1 → escape quote (drop at s) (drop (at + 1) s) ≡ fault 9 []
  unfolding escape
  escape_ends k = rw (drop_of_length-le s k)

  module _ (k : at + 1 < length s) (f : starts_with (bytes "\\u") (drop at s) ≡ false) where
    no_u : eqb (get_or s (at + 1) 0) (byte "u") ≡ false
    unfolding starts_with
    no_u = split (eqb (get_or s (at + 1) 0) (byte "u")) (λ e. true_false (rw (here s (at + 1) k, starts_with, e) at (sym (starts_behind (bytes "u")) ∙ f)))
        (λ e. e)

    pub letter_judged : escape quote (drop at s) (drop (at + 1) s) ≡ judged quote (drop at s) (escaped (get_or s (at + 1) 0)) (drop (at + 1 + 1) s)
    letter_judged = rw (here s (at + 1) k) (escape_letter quote _ (get_or s (at + 1) 0) (drop (at + 1 + 1) s) no_u)
