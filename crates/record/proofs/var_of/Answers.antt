-- Goals of `record::var_of` that the search leaves.
use Rattle.record.proofs.var_of.Goals as goal

pub returns-in-Var : goal.returns-in-Var
returns-in-Var c = rw c.in-Var.is

pub returns-in-Scope : goal.returns-in-Scope
returns-in-Scope c = rw c.in-Scope.is

pub returns-in-Comment : goal.returns-in-Comment
returns-in-Comment c = rw c.in-Comment.is

pub returns-in-None : goal.returns-in-None
returns-in-None c = rw c.in-None.is
