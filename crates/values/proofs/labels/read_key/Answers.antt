-- By the first byte: what a quote begins is read as a value, and only its 6 is told elsewhere; a word is read as a key.
use mathlib.Core.Path.{◌≡◌}
use mathlib.Core.Logic.{◌⊎◌}
use native.Mathlib.Omega.{arith}
use lib.ListN.{get_or}
use Rattle.paper.specs.Bytes.{byte}
use Rattle.leaves.proofs.Showing.{no_value, cut_off}
use Rattle.values.proofs.KeyLaws.{key_none, key_word_lem, quoted_found, quoted_other, quoted_bad}
use Rattle.values.proofs.labels.read_key.Goals.{In-34}
use Rattle.values.proofs.labels.read_key.Goals as goal

-- a quote stands there
quote-there : (c : In-34) → let b = get_or c.args.s.now c.args.at 0 in (b ≡ byte "\"") ⊎ (b ≡ byte "'")
quote-there c = rw (c.in-Some.ensures.lookup.3.1 0) at c.in-34.is

pub returns-in_default : goal.returns-in_default
returns-in_default c = cut_off _ _ _ _ _ c.at.ensures (key_none _ _ _ c.in_default.ensures.lookup.3)

pub returns-in-Ok : goal.returns-in-Ok
returns-in-Ok c =
    let quote = quote-there (goal.at.returns-in-Ok c).In-34 in
    quoted_found _ _ _ c.in-Some.ensures.lookup.3.0 quote _ c.read_leaf.ensures _ c.in-Ok.is

pub returns-in-Value : goal.returns-in-Value
returns-in-Value c =
    let quote = quote-there (goal.at.returns-in-Value c).In-34 in
    let there = c.in-Some.ensures.lookup.3.0 in
    no_value _ _ _ _ _ _ c.at-in-Value.ensures (omega arith) (quoted_bad _ _ _ there quote _ c.read_leaf.ensures _ c.in-Err.is c.in-Value.is)

pub returns-in_default-refusal : goal.returns-in_default-refusal
returns-in_default-refusal c =
    let quote = quote-there (goal.at.returns-in_default-refusal c).In-34 in
    quoted_other _ _ _ c.in-Some.ensures.lookup.3.0 quote _ c.read_leaf.ensures _ c.in-Err.is c.in_default-refusal.not-Value

pub returns-in_default-first : goal.returns-in_default-first
returns-in_default-first c =
    let there = c.in-Some.ensures.lookup.3 in
    key_word_lem _ _ _ there.0 (λ q. grind (arith, there.1 0, c.in-Some.first-is)) _ c.read_key_word.ensures
