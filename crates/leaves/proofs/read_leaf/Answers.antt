-- Each arm is a law of the first byte.
use mathlib.Core.Path.{sym, ◌∙◌}
use native.Mathlib.Omega.{arith}
use Rattle.leaves.proofs.Showing.{cut_off}
use Rattle.leaves.proofs.LeafReads.{leaf_ends, string_leaf, character_leaf, backtick_leaf, time_leaf, word_leaf_lem}
use Rattle.leaves.proofs.read_leaf.Goals as goal

pub returns-in-None : goal.returns-in-None
returns-in-None c = cut_off _ _ _ _ _ c.at.ensures (leaf_ends _ _ _ c.in-None.ensures.lookup.3)

pub returns-in-Some-eq34 : goal.returns-in-Some-eq34
returns-in-Some-eq34 c =
    let got = c.in-Some-eq34.ensures.lookup.3 in
    string_leaf _ _ _ got.0 _ (sym (got.1 0) ∙ c.in-Some-eq34.field-0-test) c.string_end.ensures

pub returns-in-Some-eq39 : goal.returns-in-Some-eq39
returns-in-Some-eq39 c =
    let got = c.in-Some-eq39.ensures.lookup.3 in
    character_leaf _ _ _ got.0 _ (sym (got.1 0) ∙ c.in-Some-eq39.field-0-test) c.character_end.ensures

pub returns-in-Some-eq96 : goal.returns-in-Some-eq96
returns-in-Some-eq96 c =
    let got = c.in-Some-eq96.ensures.lookup.3 in
    backtick_leaf _ _ _ got.0 _ (sym (got.1 0) ∙ c.in-Some-eq96.field-0-test) c.backtick_end.ensures

pub returns-in-Some-eq123 : goal.returns-in-Some-eq123
returns-in-Some-eq123 c =
    let got = c.in-Some-eq123.ensures.lookup.3 in
    time_leaf _ _ _ got.0 _ (sym (got.1 0) ∙ c.in-Some-eq123.field-0-test) c.read_time.ensures

pub returns-in-Some : goal.returns-in-Some
returns-in-Some c =
    let got = c.in-Some.ensures.lookup.3 in
    word_leaf_lem _ _ _ got.0 _ (omega (arith, got.1 0)) (omega (arith, got.1 0)) (omega (arith, got.1 0)) (omega (arith, got.1 0)) c.read_word.ensures
