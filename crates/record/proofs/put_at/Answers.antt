-- Goals of `record::put_at` that the search leaves.
use mathlib.Core.Path.{refl}
use mathlib.Core.List.{[], ◌∷◌}
use native.Mathlib.Omega.{arith}
use Rattle.record.proofs.Words.{room, stored}
use Rattle.record.specs.Record.{listed}
use Rattle.record.proofs.put_at.Goals as goal

pub bounds-records-at-2 : goal.bounds-records-at-2
bounds-records-at-2 c = let a = c.args in room a.records.now a.at c.requires a.w.kind ([]) 1 (omega arith)

pub bounds-records-at-3 : goal.bounds-records-at-3
bounds-records-at-3 c = let a = c.args in room a.records.now a.at c.requires a.w.kind (a.w.number ∷ []) 2 (omega arith)

pub bounds-records-at-4 : goal.bounds-records-at-4
bounds-records-at-4 c = let a = c.args in room a.records.now a.at c.requires a.w.kind (a.w.number ∷ a.w.amount ∷ []) 3 (omega arith)

pub bounds-records-at-5 : goal.bounds-records-at-5
bounds-records-at-5 c = let a = c.args in room a.records.now a.at c.requires a.w.kind (a.w.number ∷ a.w.amount ∷ a.w.code ∷ []) 4 (omega arith)

pub bounds-records-at-6 : goal.bounds-records-at-6
bounds-records-at-6 c = let a = c.args in room a.records.now a.at c.requires a.w.kind (a.w.number ∷ a.w.amount ∷ a.w.code ∷ a.w.start ∷ []) 5 (omega arith)

pub bounds-records-at-7 : goal.bounds-records-at-7
bounds-records-at-7 c = let a = c.args in room a.records.now a.at c.requires a.w.kind (a.w.number ∷ a.w.amount ∷ a.w.code ∷ a.w.start ∷ a.w.len ∷ []) 6 (omega arith)

pub bounds-records-at-8 : goal.bounds-records-at-8
bounds-records-at-8 c = let a = c.args in room a.records.now a.at c.requires a.w.kind (a.w.number ∷ a.w.amount ∷ a.w.code ∷ a.w.start ∷ a.w.len ∷ a.w.form ∷ []) 7 (omega arith)

pub bounds-records-at-9 : goal.bounds-records-at-9
bounds-records-at-9 c = let a = c.args in room a.records.now a.at c.requires a.w.kind (a.w.number ∷ a.w.amount ∷ a.w.code ∷ a.w.start ∷ a.w.len ∷ a.w.form ∷ a.w.first ∷ []) 8 (omega arith)

pub returns : goal.returns
unfolding listed
returns c = let a = c.args in stored a.records.now a.at c.requires a.w.kind (a.w.number ∷ a.w.amount ∷ a.w.code ∷ a.w.start ∷ a.w.len ∷ a.w.form ∷ a.w.first ∷ a.w.second ∷ []) refl
