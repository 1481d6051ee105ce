-- Closing markers and the endings of opening ones at a place: a law for each way out. Over plain lists. Assumes nothing.
use Prim.Native.Nat.{ℕ, ◌+◌, ◌≤◌}
use mathlib.Core.Path.{◌≡◌, refl, sym, ap, ◌∙◌}
use mathlib.Core.Bool.{true, false}
use mathlib.Core.List.{List, [], ◌∷◌}
use native.Mathlib.Omega.{arith}
use lib.ListN.{length, drop, length-drop}
use lib.Seq.{drop-drop}
use lib.Dec.{eqb}
use Rattle.std.specs.Prelude.{Result, Ok, Err}
use Rattle.paper.specs.Answer.{refused_at}
use Rattle.paper.specs.declared.Refused.{Refused}
use Rattle.paper.specs.declared.Refusal.TheVariants.{ClosingName}
use Rattle.paper.specs.Found.{Found, found, fault, and_then}
use Rattle.paper.specs.Tree.{self}
use Rattle.paper.specs.Bytes.{byte, bytes, same, starts_with}
use Rattle.paper.specs.Reading.{due, name, ending, closing}
use Rattle.paper.proofs.Tests.{split, true_false, when_true, when_false}
use Rattle.paper.proofs.Finds.{then_then, then_alike}
use Rattle.paper.proofs.Lists.{starts_is}
use Rattle.lines.specs.Parts.{seen, passed, due_all, part}
use Rattle.lines.specs.Endings.{ended, ended_of}
use Rattle.lines.specs.declared.marks.Ending.{Ending}
use Rattle.lines.specs.declared.marks.Ending.TheVariants.{Block, Closed}
use Rattle.text.proofs.Places.{place_back}
use Rattle.lines.specs.declared.part.Part.{Part}
use Rattle.lines.proofs.Crossing.{fault_at, refused_then, says_refused}
use Rattle.lines.proofs.ReadAt.{AllDueAt, NameAt, part_is}

-- ---- a closing marker: "</", its name, ">"; the answer on each is what is known

-- what follows "</"
abbrev closing_rest : List ℕ → List ℕ → Found ℕ
closing_rest w named = and_then (name (λ v. true) named) (λ v left. elim (same w v) [ true ↦ due (byte ">") left | false ↦ fault 8 named ])

by_mark_lem : (w s : List ℕ) → closing w s ≡ and_then (due_all (bytes "</") s) (λ v named. closing_rest w named)
unfolding closing due_all
by_mark_lem w s = sym (then_then (due (byte "<") s) _ _ ∙ then_alike (due (byte "<") s) _ _ (λ b left. then_then (due (byte "/") left) _ _))

one_byte : (b : ℕ) (s l : List ℕ) → passed s (due_all (b ∷ []) l) ≡ passed s (due b l)
unfolding due_all
one_byte b s l = go (due b l)
  where
    go : (x : Found ℕ) → passed s (and_then x (λ c left. due_all [] left)) ≡ passed s x
    go (found c left) = refl
    go (fault n left) = refl

module _ (s w : List ℕ) (at : ℕ) where
  pub no_mark : (r : Result Part Refused) (e : Refused) → seen (Err e) ≡ passed s (due_all (bytes "</") (drop at s)) → r ≡ Err e
      → seen r ≡ passed s (closing w (drop at s))
  no_mark r e k q =
      refused_then (λ v. 0) (λ v. 0) s r (λ b. 0) (λ b. 0) _ (due_all (bytes "</") (drop at s)) e k q ∙ ap (passed s) (sym (by_mark_lem w (drop at s)))

  module _ (start : ℕ) (mark : AllDueAt (bytes "</") s at start) where
    behind_mark : closing w (drop at s) ≡ closing_rest w (drop start s)
    behind_mark = by_mark_lem w (drop at s) ∙ rw mark.finds

    pub no_name : (r : Result Part Refused) (e : Refused) → seen (Err e) ≡ passed s (name (λ v. true) (drop start s)) → r ≡ Err e
        → seen r ≡ passed s (closing w (drop at s))
    no_name r e k q =
        refused_then (λ v. 0) (λ v. 0) s r (λ b. 0) (λ b. 0) _ (name (λ v. true) (drop start s)) e k q ∙ ap (passed s) (sym behind_mark)

    module _ (end : ℕ) (named : NameAt (λ v. true) s start end) where
      -- the name that is read is the part between its places
      name_part : named.it ≡ part s start end
      name_part = sym (part_is s named.it (drop end s) start end named.covers (omega (arith, named.long, named.ahead)))

      by_name : closing w (drop at s) ≡ elim (same w (part s start end)) [ true ↦ due (byte ">") (drop end s) | false ↦ fault 8 (drop start s) ]
      by_name = behind_mark ∙ rw (named.finds, name_part)

      pub other_name : (r : Result Part Refused) → same w (part s start end) ≡ false → r ≡ Err (refused_at ClosingName start) → seen r ≡ passed s (closing w (drop at s))
      other_name r z p =
          says_refused (λ b. 0) (λ b. 0) s (closing w (drop at s)) r ClosingName start p mark.inside (by_name ∙ when_false (same w (part s start end)) _ _ z)

      pub same_name : (r : Result Part Refused) → same w (part s start end) ≡ true → seen r ≡ passed s (due_all (bytes ">") (drop end s))
          → seen r ≡ passed s (closing w (drop at s))
      same_name r z p = p ∙ one_byte (byte ">") s (drop end s) ∙ ap (passed s) (sym (by_name ∙ when_true (same w (part s start end)) _ _ z))

-- ---- the ending of an opening marker

by_closed : (l : List ℕ) → starts_with (bytes ">") l ≡ false → ending l ≡ and_then (due_all (bytes "/>") l) (λ w left. found self left)
unfolding ending due due_all starts_with
by_closed [] e = refl
by_closed (b ∷ l) e =
    split (eqb b (byte ">")) (λ g. true_false (sym (rw (g, starts_with)) ∙ e))
    (λ g.
    rw (g, ending)
    (sym
    (then_then (due (byte "/") (b ∷ l)) _ _ ∙ then_alike (due (byte "/") (b ∷ l)) _ _ (λ c left. then_then (due (byte ">") left) _ _))))

module _ (s : List ℕ) (at : ℕ) where
  pub ends_block : at ≤ length s → starts_with (bytes ">") (drop at s) ≡ true → ended (Ok (Block (at + 1))) ≡ ended_of s (ending (drop at s))
  unfolding ending
  ends_block h e =
      let b : drop at s ≡ byte ">" ∷ drop (at + 1) s = starts_is (bytes ">") (drop at s) e ∙ ap (λ (l : List ℕ). byte ">" ∷ l) (drop-drop 1 at s) in
      let l : at + 1 ≤ length s = omega (arith, ap length b, length-drop at s) in
      rw (b, place_back s (at + 1) l)

  -- where no block opens, "/>" is due
  module _ (n : starts_with (bytes ">") (drop at s) ≡ false) where
    pub ends_refused : (r : Result Ending Refused) (e : Refused) → seen (Err e) ≡ passed s (due_all (bytes "/>") (drop at s)) → r ≡ Err e
        → ended r ≡ ended_of s (ending (drop at s))
    ends_refused r e k q =
        let f = fault_at (λ w. 0) (λ w. 0) s (Err e) (due_all (bytes "/>") (drop at s)) e k refl in
        rw (q, by_closed (drop at s) n, f.faults, f.there)

    pub ends_closed : (end : ℕ) → AllDueAt (bytes "/>") s at end → ended (Ok (Closed end)) ≡ ended_of s (ending (drop at s))
    ends_closed end due = rw (by_closed (drop at s) n, due.finds, place_back s end due.inside)
