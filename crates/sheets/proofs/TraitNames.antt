-- A trait's name and the index of names: it may be sought, and what the search tells of the trait that is read. Document 02, Six.
-- Over plain lists. Assumes nothing.
use Prim.Native.Nat.{ℕ, ◌+◌, ◌≤◌, ◌<◌}
use mathlib.Core.Path.{◌≡◌, sym, ap, ◌∙◌}
use mathlib.Core.Bool.{false}
use mathlib.Core.List.{List}
use native.Mathlib.Omega.{arith}
use lib.ListN.{length, get_or, set}
use Rattle.std.specs.Prelude.{Result, Ok, Err}
use Rattle.paper.specs.declared.Refused.{Refused}
use Rattle.paper.specs.Names.{is_trait_name, among}
use Rattle.names.specs.Runs.{key_of, Measures}
use Rattle.names.specs.declared.Run.{Run}
use Rattle.entries.specs.declared.Slot.{Slot}
use Rattle.lines.specs.Parts.{part}
use Rattle.lines.specs.declared.part.Part.{Part}
use Rattle.lines.proofs.ReadAt.{NameAt}
use Rattle.earlier.specs.Earlier.{Reached, taken_in, Lists, Ready}
use Rattle.earlier.proofs.Listing.{vacant, set_before, listed_new, lists_more}
use Rattle.sheets.specs.Traits.{NamesBefore, MakesBehind, MakesNamed}
use Rattle.sheets.proofs.TraitLaws.{part_run, part_long, part_some, part_letters}

-- ---- a name that is read, and its index

module _ {s : List ℕ} {first at : ℕ} {x : List ℕ} (lies : NamesBefore s (at + 1) x) (behind : first ≤ at) where
  -- it may be sought
  pub may_seek : taken_in first x < length x → {to : ℕ} → NameAt is_trait_name s at to → {run : Run} → Measures s at run → Ready s first x run.key (part s at to)
  may_seek room {to} named measured =
      let free = vacant first x room in
      record {
        keyed = measured.keyed ∙ ap key_of (sym (part_run named));
        some = part_some named;
        letters = part_letters named;
        inside = λ c. omega (arith, lies.before c, part_long named, named.ahead, named.goes_on);
        short = lies.short;
        cell = free.cell;
        within = free.within;
        free = free.free;
      }

  pub still_before : (c : ℕ) → get_or x c 0 ≤ at
  still_before c = omega (arith, lies.before c)

  pub cell_before : (cell c : ℕ) → get_or (set x cell at) c 0 ≤ at
  cell_before cell = set_before x cell at still_before

  -- a trait that is refused is the last
  pub refused_named : {cells : List ℕ} {slot : Slot} {r : Result Part Refused} {after y : List ℕ} {e : Refused} → r ≡ Err e
      → ((c : ℕ) → get_or y c 0 ≤ at) → ((names : List (List ℕ)) → Lists s first x names → MakesBehind s at cells slot names r after)
      → MakesNamed s first at cells slot x r after y
  refused_named q older h = record {
    made = h;
    listed = λ names l p g. let z : ◌≡◌ {A = ℕ} 0 1 = cc in absurd (omega arith);
    before = older;
  }

  -- its name is new, and goes to a cell
  pub new_named : {to cell : ℕ} → NameAt is_trait_name s at to → 0 < length x → Reached s first x (part s at to) cell × (get_or x cell 0 < first)
      → {cells : List ℕ} {slot : Slot} {r : Result Part Refused} {after : List ℕ}
      → ((names : List (List ℕ)) → among names (part s at to) ≡ false → MakesBehind s at cells slot names r after)
      → MakesNamed s first at cells slot x r after (set x cell at)
  new_named {to} {cell} named some free h = record {
    made = λ names l. h names (listed_new l some free.0 free.1);
    listed = λ names l p g.
        let more = lists_more l some free.0 free.1 at behind (sym (part_run named)) in rw (part_run named) at more;
    before = cell_before cell;
  }
