-- An arm is the place of the table that its number names.
use Rattle.word.proofs.Tables.{past}
use Rattle.journal.proofs.Entries.{entry_at, over_12, entry_of_none}
use Rattle.journal.proofs.entry.Goals as goal

pub returns-in-0 : goal.returns-in-0
returns-in-0 c = entry_at _ _ _ _ _ c.ranges.w.fits 0 c.in-0.is (λ P L. c.of_register.ensures)

pub returns-in-1 : goal.returns-in-1
returns-in-1 c = entry_at _ _ _ _ _ c.ranges.w.fits 1 c.in-1.is (λ P L. c.of_register-in-1.ensures)

pub returns-in-2 : goal.returns-in-2
returns-in-2 c = entry_at _ _ _ _ _ c.ranges.w.fits 2 c.in-2.is (λ P L. c.of_register-in-2.ensures)

pub returns-in-3 : goal.returns-in-3
returns-in-3 c = entry_at _ _ _ _ _ c.ranges.w.fits 3 c.in-3.is (λ P L. c.of_register-in-3.ensures)

pub returns-in-4 : goal.returns-in-4
returns-in-4 c = entry_at _ _ _ _ _ c.ranges.w.fits 4 c.in-4.is (λ P L. c.of_word.ensures)

pub returns-in-5 : goal.returns-in-5
returns-in-5 c = entry_at _ _ _ _ _ c.ranges.w.fits 5 c.in-5.is (λ P L. c.of_register-in-5.ensures)

pub returns-in-6 : goal.returns-in-6
returns-in-6 c = entry_at _ _ _ _ _ c.ranges.w.fits 6 c.in-6.is (λ P L. c.of_byte.ensures)

pub returns-in-7 : goal.returns-in-7
returns-in-7 c = entry_at _ _ _ _ _ c.ranges.w.fits 7 c.in-7.is (λ P L. c.of_register-in-7.ensures)

pub returns-in-9 : goal.returns-in-9
returns-in-9 c = entry_at _ _ _ _ _ c.ranges.w.fits 9 c.in-9.is (λ P L. c.of_register-in-9.ensures)

pub returns-in-10 : goal.returns-in-10
returns-in-10 c = entry_at _ _ _ _ _ c.ranges.w.fits 10 c.in-10.is (λ P L. c.at_port.ensures)

pub returns-in-11 : goal.returns-in-11
returns-in-11 c = entry_at _ _ _ _ _ c.ranges.w.fits 11 c.in-11.is (λ P L. c.of_register-in-11.ensures)

pub returns-in-12 : goal.returns-in-12
returns-in-12 c = entry_at _ _ _ _ _ c.ranges.w.fits 12 c.in-12.is (λ P L. c.of_interrupt.ensures)

pub returns-in_default : goal.returns-in_default
returns-in_default c =
    let others = c.in_default.in_default-own.rest in
    let upper = past 8 _ others.0.0.0.0 in
    entry_of_none _ _ _ _ _ c.ranges.w.fits (over_12 _ upper others.0.0.0.1 others.0.0.1 others.0.1 others.1) c.coded.ensures
