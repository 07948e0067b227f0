-- Goals of `record::used::amount_most` that the search leaves.
use borrow.Author.Tests.{ne_eqb}
use Rattle.record.specs.Used.{amount_most}
use Rattle.record.proofs.used.amount_most.Goals as goal

pub returns-in-4 : goal.returns-in-4
unfolding amount_most
returns-in-4 c = rw c.in-4.is

pub returns-in-9 : goal.returns-in-9
unfolding amount_most
returns-in-9 c = rw c.in-9.is

pub returns-in_default : goal.returns-in_default
unfolding amount_most
returns-in_default c = rw (ne_eqb _ _ c.in_default.in_default-own.rest.0.1, ne_eqb _ _ c.in_default.in_default-own.rest.1)
