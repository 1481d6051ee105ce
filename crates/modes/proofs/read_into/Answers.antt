-- The second section begins where the first ends, and the table ends where the second does; the index lists the names of both.
use Prim.Native.Nat.{ℕ}
use mathlib.Core.Path.{refl}
use mathlib.Core.List.{List}
use native.Mathlib.Omega.{arith}
use lib.ListN.{drop}
use Rattle.std.specs.Prelude.{Ok}
use Rattle.text.proofs.Answers.{passes}
use Rattle.paper.specs.declared.Accepted.{Accepted}
use Rattle.modes.specs.Table.{names_of}
use Rattle.modes.specs.Index.{ReadsSection}
use Rattle.modes.proofs.Tables.{Read, section_read, first_refused, second_refused, table_spare, table_done, table_indexed, first_due, second_due, into_refused}
use Rattle.modes.proofs.read_into.Goals as goal

-- a section that was accepted
accepted : {t x : List ℕ} {at earlier : ℕ} {a : Accepted} → ReadsSection t at earlier (Ok a) x → Read t (names_of earlier (drop 1 t)) at a.place a.count
accepted reads = section_read _ _ _ _ _ reads.answer

pub read_section-requires : goal.read_section-requires
read_section-requires c = first_due _ _ c.requires

pub returns-in_err-first : goal.returns-in_err-first
returns-in_err-first c =
    rw (passes c.from_residual.ensures.1) (into_refused _ _ _ (first_refused _ _ c.in_err-first.ensures.answer))

pub read_section-requires-2 : goal.read_section-requires-2
read_section-requires-2 c =
    let section = c.in_ok-first.ensures in
    second_due _ _ _ _ (accepted section) (section.near _ refl) (section.lists _ refl)

pub returns-in_err-second : goal.returns-in_err-second
returns-in_err-second c =
    let first = accepted c.in_ok-first.ensures in
    rw (passes c.from_residual-in_err-second.ensures.1) (into_refused _ _ _ (second_refused _ _ _ first _ c.in_err-second.ensures.answer))

pub returns-then-second-table : goal.returns-then-second-table
returns-then-second-table c =
    let first = accepted c.in_ok-first.ensures in
    let second = accepted c.in_ok-second.ensures in
    rw c.at.ensures (into_refused _ _ _ (table_spare _ _ _ first _ _ second c.if-second-table.true))

pub overflow_add-result : goal.overflow_add-result
overflow_add-result c =
    let first = accepted c.in_ok-first.ensures in
    let second = accepted c.in_ok-second.ensures in
    omega arith

pub returns : goal.returns
returns c =
    let first = accepted c.in_ok-first.ensures in
    let section = c.in_ok-second.ensures in
    let second = accepted section in
    record {
      answer = table_done _ _ _ first _ _ second c.if-second-table.false;
      indexed = λ a e. table_indexed _ _ _ first _ _ second _ c.if-second-table.false (section.lists _ refl);
    }
