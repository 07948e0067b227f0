-- Goals of `record::RecordWords::made` that the search leaves.
use borrow.Author.Tests.{ne_eqb}
use Rattle.record.specs.Record.{command_in}
use Rattle.record.proofs.Uses.{quantity-fits}
use Rattle.record.proofs.RecordWords.made.Goals as goal

pub overflow_cast-result : goal.overflow_cast-result
overflow_cast-result c = record { fits = quantity-fits _ _ c.in-4.is c.requires }

pub returns-in-1 : goal.returns-in-1
unfolding command_in
returns-in-1 c = rw c.in-1.is

pub returns-in-2 : goal.returns-in-2
unfolding command_in
returns-in-2 c = rw c.in-2.is

pub returns-in-3 : goal.returns-in-3
unfolding command_in
returns-in-3 c = rw c.in-3.is

pub returns-in-4 : goal.returns-in-4
unfolding command_in
returns-in-4 c = rw (c.in-4.is, c.from_number.ensures)

pub returns-in-5 : goal.returns-in-5
unfolding command_in
returns-in-5 c = rw (c.in-5.is, c.from_number-in-5.ensures)

pub returns-in-6 : goal.returns-in-6
unfolding command_in
returns-in-6 c = rw c.in-6.is

pub returns-in-8 : goal.returns-in-8
unfolding command_in
returns-in-8 c = rw c.in-8.is

pub returns-in-9 : goal.returns-in-9
unfolding command_in
returns-in-9 c = rw c.in-9.is

pub returns-in-10 : goal.returns-in-10
unfolding command_in
returns-in-10 c = rw (c.in-10.is, c.from_number-in-10.ensures)

pub returns-in-11 : goal.returns-in-11
unfolding command_in
returns-in-11 c = rw c.in-11.is

pub returns-in-12 : goal.returns-in-12
unfolding command_in
returns-in-12 c = rw c.in-12.is

pub returns-in-13 : goal.returns-in-13
unfolding command_in
returns-in-13 c = rw c.in-13.is

pub returns-in-14 : goal.returns-in-14
unfolding command_in
returns-in-14 c = rw (c.in-14.is, c.from_number-in-14.ensures)

pub returns-in_default : goal.returns-in_default
unfolding command_in
returns-in_default c =
    let r = c.in_default.in_default-own.rest in
    rw (
      ne_eqb _ _ r.0.0.0.0.0.0.0.0.0.0.0.0.1,
      ne_eqb _ _ r.0.0.0.0.0.0.0.0.0.0.0.1,
      ne_eqb _ _ r.0.0.0.0.0.0.0.0.0.0.1,
      ne_eqb _ _ r.0.0.0.0.0.0.0.0.0.1,
      ne_eqb _ _ r.0.0.0.0.0.0.0.0.1,
      ne_eqb _ _ r.0.0.0.0.0.0.0.1,
      ne_eqb _ _ r.0.0.0.0.0.0.1,
      ne_eqb _ _ r.0.0.0.0.0.1,
      ne_eqb _ _ r.0.0.0.0.1,
      ne_eqb _ _ r.0.0.0.1,
      ne_eqb _ _ r.0.0.1,
      ne_eqb _ _ r.0.1,
      ne_eqb _ _ r.1,
      c.from_number-in_default.ensures,
    )
