-- Goals of `emit_var::emit_var` that the search leaves.
use Prim.Native.Nat.{ℕ, ◌-◌, ◌^◌, ◌≤◌, ◌<◌}
use mathlib.Core.List.{List}
use native.Mathlib.Omega.{arith}
use denote.Enum.Declared.{row}
use denote.Enum.Laws.{vals}
use denote.Laws.{Is}
use lib.ListN.{length}
use lib.Seq.{take_all}
use Rattle.idcode.specs.declared.IdCode.{IdCode}
use Rattle.scope.specs.declared.ReferenceIndex.{ReferenceIndex}
use Rattle.scope.specs.declared.VarType.{VarType}
use Rattle.scope.specs.contracts.ReferenceIndex.{the_type}
use Rattle.scope.proofs.ReferenceIndex.TheLaws.{the_laws}
use Rattle.emit_var.specs.Define.{var_text}
use Rattle.emit_var.proofs.Putting.{var-length, placed}
use Rattle.emit_var.proofs.emit_var.Goals as goal

pub returns-then-out-lt-MOST : goal.returns-then-out-lt-MOST
returns-then-out-lt-MOST c =
    let name = c.args.name.now in
    rw (take_all (length name - 0) name (omega arith)) at c.emit_near.ensures

pub returns-then-out-name : goal.returns-then-out-name
returns-then-out-name c =
    let name = c.args.name.now in
    rw (take_all (length name - 0) name (omega arith)) at c.emit_near-then-out-name.ensures

-- there is room
room : (k : VarType) (n : ℕ) (i : IdCode) (t : List ℕ) (x : ReferenceIndex) (o : List ℕ) → n < 2 ^ 32 → i.0 < 2 ^ 64
    → Is (row the_type) x (vals the_type the_laws x) → 96 ≤ length o → length t ≤ length o - 96 → length (var_text k n i t x) ≤ length o
room k n i t x o hn hi g a b = omega (arith, var-length k n i t x hn hi g)

pub returns : goal.returns
returns c =
    let x = c.args in
    placed _ _
    (room x.t x.width x.id x.name.now x.x x.out.now (omega arith) (omega arith) c.well_formed.1.1.1.1.0 c.if-out-lt-MOST.false c.if-out-name.false)
    c.put_var.ensures

pub put_var-requires : goal.put_var-requires
put_var-requires c =
    let x = c.args in
    room x.t x.width x.id x.name.now x.x x.out.now (omega arith) (omega arith) c.well_formed.1.1.1.1.0 c.if-out-lt-MOST.false c.if-out-name.false
