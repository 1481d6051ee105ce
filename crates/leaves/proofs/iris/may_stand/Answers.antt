-- Each range is a law, and so is each gap between them.
use mathlib.Core.Path.{refl}
use native.Mathlib.Omega.{arith}
use Rattle.paper.specs.Values.{in_ranges}
use Rattle.leaves.proofs.IriParts.{iri_taken, iri_out, iri_barred, iri_first_gap, iri_planes}
use Rattle.leaves.proofs.iris.may_stand.Goals as goal

pub returns-in-65536-to-917503 : goal.returns-in-65536-to-917503
returns-in-65536-to-917503 c = iri_planes _ (omega arith) (omega arith)

pub returns-in-63744-to-64975 : goal.returns-in-63744-to-64975
returns-in-63744-to-64975 c = iri_taken _ 0xF900 0xFDCF refl (omega arith) (omega arith) (omega arith)

pub returns-in-63744-to-64975-2 : goal.returns-in-63744-to-64975-2
returns-in-63744-to-64975-2 c = iri_taken _ 0xFDF0 0xFFEF refl (omega arith) (omega arith) (omega arith)

pub returns-in-63744-to-64975-3 : goal.returns-in-63744-to-64975-3
returns-in-63744-to-64975-3 c = iri_taken _ 0xE1000 0xEFFFD refl (omega arith) (omega arith) (omega arith)

pub returns-in-161-to-1563 : goal.returns-in-161-to-1563
returns-in-161-to-1563 c = iri_taken _ 0xA1 0x61B refl (omega arith) (omega arith) (omega arith)

pub returns-in-161-to-1563-2 : goal.returns-in-161-to-1563-2
returns-in-161-to-1563-2 c = iri_taken _ 0x61D 0x167F refl (omega arith) (omega arith) (omega arith)

pub returns-in-161-to-1563-3 : goal.returns-in-161-to-1563-3
returns-in-161-to-1563-3 c = iri_taken _ 0x1681 0x1FFF refl (omega arith) (omega arith) (omega arith)

pub returns-in-161-to-1563-4 : goal.returns-in-161-to-1563-4
returns-in-161-to-1563-4 c = iri_taken _ 0x200B 0x200D refl (omega arith) (omega arith) (omega arith)

pub returns-in-161-to-1563-5 : goal.returns-in-161-to-1563-5
returns-in-161-to-1563-5 c = iri_taken _ 0x2010 0x2027 refl (omega arith) (omega arith) (omega arith)

pub returns-in-161-to-1563-6 : goal.returns-in-161-to-1563-6
returns-in-161-to-1563-6 c = iri_taken _ 0x2030 0x205E refl (omega arith) (omega arith) (omega arith)

pub returns-in-161-to-1563-7 : goal.returns-in-161-to-1563-7
returns-in-161-to-1563-7 c = iri_taken _ 0x2060 0x2065 refl (omega arith) (omega arith) (omega arith)

pub returns-in-161-to-1563-8 : goal.returns-in-161-to-1563-8
returns-in-161-to-1563-8 c = iri_taken _ 0x206A 0x2FFF refl (omega arith) (omega arith) (omega arith)

pub returns-in-161-to-1563-9 : goal.returns-in-161-to-1563-9
returns-in-161-to-1563-9 c = iri_taken _ 0x3001 0xD7FF refl (omega arith) (omega arith) (omega arith)

pub returns-in_default : goal.returns-in_default
returns-in_default c = iri_first_gap _ (omega arith) (omega arith)

pub returns-in_default-2 : goal.returns-in_default-2
unfolding in_ranges
returns-in_default-2 c = iri_barred _ 0x61C 1 refl (omega arith) (omega arith) (omega arith)

pub returns-in_default-3 : goal.returns-in_default-3
unfolding in_ranges
returns-in_default-3 c = iri_barred _ 0x1680 1 refl (omega arith) (omega arith) (omega arith)

pub returns-in_default-4 : goal.returns-in_default-4
unfolding in_ranges
returns-in_default-4 c = iri_barred _ 0x2000 11 refl (omega arith) (omega arith) (omega arith)

pub returns-in_default-5 : goal.returns-in_default-5
unfolding in_ranges
returns-in_default-5 c = iri_barred _ 0x200E 2 refl (omega arith) (omega arith) (omega arith)

pub returns-in_default-6 : goal.returns-in_default-6
unfolding in_ranges
returns-in_default-6 c = iri_barred _ 0x2028 8 refl (omega arith) (omega arith) (omega arith)

pub returns-in_default-7 : goal.returns-in_default-7
unfolding in_ranges
returns-in_default-7 c = iri_barred _ 0x205F 1 refl (omega arith) (omega arith) (omega arith)

pub returns-in_default-8 : goal.returns-in_default-8
unfolding in_ranges
returns-in_default-8 c = iri_barred _ 0x2066 4 refl (omega arith) (omega arith) (omega arith)

pub returns-in_default-9 : goal.returns-in_default-9
unfolding in_ranges
returns-in_default-9 c = iri_barred _ 0x3000 1 refl (omega arith) (omega arith) (omega arith)

pub returns-in_default-10 : goal.returns-in_default-10
returns-in_default-10 c = iri_out _ 0xD800 0xF8FF refl (omega arith) (omega arith) (omega arith)

pub returns-in_default-11 : goal.returns-in_default-11
returns-in_default-11 c = iri_out _ 0xFDD0 0xFDEF refl (omega arith) (omega arith) (omega arith)

pub returns-in_default-12 : goal.returns-in_default-12
returns-in_default-12 c = iri_out _ 0xFFF0 0xFFFF refl (omega arith) (omega arith) (omega arith)

pub returns-in_default-13 : goal.returns-in_default-13
returns-in_default-13 c = iri_out _ 0xE0000 0xE0FFF refl (omega arith) (omega arith) (omega arith)

pub returns-in_default-14 : goal.returns-in_default-14
returns-in_default-14 c = iri_out _ 0xEFFFE 0xFFFFFFFF refl (omega arith) (omega arith) (omega arith)
