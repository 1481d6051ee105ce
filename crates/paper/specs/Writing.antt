-- Writing the canonical form: for every table, sheet, number of entry cells and output lent, the answer, every byte and every cell at exit.
-- Document 01, "Canonical form", refusal 12, and the answers of "Order".
use Rattle.std.specs.Prelude.{ℕ, ◌+◌, min, Bool, true, false, List, ◌++◌, length, take, drop, replicate, leb}
use Rattle.paper.specs.Answer.{accepted, refused}
use Rattle.paper.specs.declared.Told.{Told}
use Rattle.paper.specs.Found.{Found, found, fault, place_in}
use Rattle.paper.specs.Modes.{mode_table}
use Rattle.paper.specs.Tree.{Sheet}
use Rattle.paper.specs.Limits.{sheet_limit}
use Rattle.paper.specs.Reading.{room_of, sheet_of}
use Rattle.paper.specs.Canonical.{canonical}

-- ---- what every writing begins with

-- the tree of a sheet that reads without refusal, or reading's number and place
pub data Begun : Type 0 where
  tree : Sheet → Begun
  unread : ℕ → ℕ → Begun

abbrev pub begun_by : List ℕ → Found Sheet → Begun
begun_by s (found t left) = tree t
begun_by s (fault n left) = unread n (place_in s left)

unfoldable pub begin : List ℕ → List ℕ → ℕ → Begun
begin table s lent = elim (mode_table table) [ fault n left ↦ unread n (place_in table left) | found m left ↦ begun_by s (sheet_of m (room_of lent) s) ]

-- ---- what it leaves

-- the answer, every byte of the lent output, and every entry cell: these are zero after every answer
pub record Writing : Type 0 where
  pub answer : Told
  pub out : List ℕ
  pub cells : List ℕ

-- a refused writing leaves its output as it came
abbrev pub not_written : ℕ → List ℕ → ℕ → ℕ → Writing
not_written lent out n at = record { answer = refused n at; out = out; cells = replicate lent 0 }

-- these bytes behind the first n, and every other byte as it came; 0, 0 and the bytes that are written now
abbrev pub written_at : ℕ → List ℕ → ℕ → List ℕ → Writing
written_at lent out n w =
    record {
      answer = accepted 0 (n + length w);
      out = take n out ++ (w ++ drop (n + length w) out);
      cells = replicate lent 0;
    }

-- ---- writing a sheet's canonical form

-- the form is no longer than the lent room, and no longer than a sheet
abbrev pub form_fits : List ℕ → List ℕ → Bool
form_fits out form = leb (length form) (min (length out) sheet_limit)

unfoldable pub write_form : ℕ → List ℕ → List ℕ → Writing
write_form lent out form = elim (form_fits out form) [ true ↦ written_at lent out 0 form | false ↦ not_written lent out 12 0 ]

unfoldable pub writing : List ℕ → List ℕ → ℕ → List ℕ → Writing
writing table s lent out = elim (begin table s lent) [ unread n at ↦ not_written lent out n at | tree t ↦ write_form lent out (canonical t) ]
