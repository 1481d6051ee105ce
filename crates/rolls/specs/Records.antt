-- Records laid into cells from a number on, and the record of a sheet that is found and not yet read.
-- Document 01, "Rolls".
use Rattle.std.specs.Prelude.{ℕ, ◌+◌, ◌*◌, List, [], ◌∷◌, length, get_or}
use Rattle.std.proofs.lemmas.List.Edits.{sets}
use Rattle.paper.specs.Answer.{accepted}
use Rattle.paper.specs.declared.Told.{Told}
use Rattle.paper.specs.Roll.{Record, record_cells, all_records, records_of, Parts, parts}
use Rattle.rolls.specs.declared.records.Record.{Record as InCode}

-- a record with this answer
abbrev pub record_with : ℕ → ℕ → Told → Record
record_with start end answer = record { start = start; end = end; answer = answer }

-- the paper's record that the code's is
abbrev pub record_in : InCode → Record
record_in e = record_with e.start e.end (record { number = e.number; place = e.place; count = e.entries })

-- the cells with these records in them, the first of which has number n
unfoldable pub lay_records : List ℕ → ℕ → List Record → List ℕ
lay_records cells n es = sets cells (n * record_cells) (all_records es)

-- a sheet that is found, and sheets, the first of which starts at `at`
abbrev pub unread_of : ℕ → ℕ → Record
unread_of start end = record_with start end (accepted 0 0)

unfoldable pub unread : ℕ → List (List ℕ) → List Record
unread at [] = []
unread at (p ∷ ps) = unread_of at (at + length p) ∷ unread (at + length p) ps

-- where the sheet of record number n starts and ends
abbrev pub start_at : List ℕ → ℕ → ℕ
start_at records n = get_or records (n * record_cells) 0

abbrev pub end_at : List ℕ → ℕ → ℕ
end_at records n = get_or records (n * record_cells + 1) 0

-- the records of a roll's sheets as they are found, and as they are read
abbrev pub unread_in : Parts → List Record
unread_in (parts lead sheets) = unread (length lead) sheets

abbrev pub records_in : List ℕ → ℕ → Parts → List Record
records_in table lent (parts lead sheets) = records_of table lent (length lead) sheets
