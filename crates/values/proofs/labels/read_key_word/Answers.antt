-- A law for each way out: a bare name, what is no key as a word, or what is read as a value, of a form that a key may have, of another, or refused.
use mathlib.Core.Path.{sym}
use native.Mathlib.Omega.{arith}
use Rattle.text.proofs.Answers.{passes}
use Rattle.leaves.proofs.Showing.{no_value}
use Rattle.values.proofs.KeyWords.{key_bare, no_key_lem, key_refused, key_formed, key_unfit}
use Rattle.values.proofs.labels.read_key_word.Goals as goal

pub returns-in-Some : goal.returns-in-Some
returns-in-Some c = key_bare _ _ _ c.in-Some.ensures

pub returns-then-is_one_of : goal.returns-then-is_one_of
returns-then-is_one_of c = no_key_lem _ _ c.requires (sym c.if-is_one_of.ensures) _ c.no_key.ensures

pub returns-in_err-read : goal.returns-in_err-read
returns-in_err-read c =
    rw (passes c.from_residual.ensures.1)
    (key_refused _ _ c.requires (sym c.if-is_one_of.ensures) c.in_default.ensures _ c.read_leaf.ensures _ c.in_err-read.was)

pub returns-then-not-is_key_form : goal.returns-then-not-is_key_form
returns-then-not-is_key_form c =
    no_value _ _ _ _ _ _ c.at.ensures (omega arith)
    (key_unfit _ _ c.requires (sym c.if-is_one_of.ensures) c.in_default.ensures _ c.read_leaf.ensures _ c.in_ok-read.was (sym c.if-not-is_key_form.ensures))

pub returns : goal.returns
returns c =
    key_formed _ _ c.requires (sym c.if-is_one_of.ensures) c.in_default.ensures _ c.read_leaf.ensures _ c.in_ok-read.was (sym c.if-not-is_key_form.ensures)
