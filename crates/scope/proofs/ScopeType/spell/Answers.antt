-- Goals of `scope::ScopeType::spell` that the search leaves.
use Rattle.scope.proofs.ScopeType.spell.Goals as goal

pub returns-in-Module : goal.returns-in-Module
returns-in-Module c = rw c.in-Module.is c.spell.ensures

pub returns-in-Task : goal.returns-in-Task
returns-in-Task c = rw c.in-Task.is c.spell-in-Task.ensures

pub returns-in-Function : goal.returns-in-Function
returns-in-Function c = rw c.in-Function.is c.spell-in-Function.ensures

pub returns-in-Begin : goal.returns-in-Begin
returns-in-Begin c = rw c.in-Begin.is c.spell-in-Begin.ensures

pub returns-in-Fork : goal.returns-in-Fork
returns-in-Fork c = rw c.in-Fork.is c.spell-in-Fork.ensures
