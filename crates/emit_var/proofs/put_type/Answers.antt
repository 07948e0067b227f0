-- Goals of `emit_var::put_type` that the search leaves.
use Prim.Native.Nat.{ℕ, ◌+◌, ◌≤◌}
use mathlib.Core.Path.{◌≡◌, refl}
use mathlib.Core.Bool.{Bool, true, false}
use mathlib.Core.List.{List, ◌++◌}
use mathlib.Core.Logic.{◌⊎◌, ⊎_elim}
use lib.ListN.{length}
use Rattle.text.specs.Bytes.{bytes}
use Rattle.scope.specs.Types.{var_name}
use Rattle.scope.specs.declared.VarType.{VarType}
use Rattle.text.proofs.Rows.{spelled_text}
use Rattle.emit_var.specs.Define.{usual}
use Rattle.emit_var.proofs.Putting.{Due, due, fits, more}
use Rattle.emit_var.proofs.put_type.Goals as goal

-- `wire` and `reg`
is-usual : (t : VarType) {r : Bool} → (t ≡ VarType.Wire) ⊎ (t ≡ VarType.Reg) → (t ≡ VarType.Wire → r ≡ true) × (t ≡ VarType.Reg → r ≡ false)
    → usual r ≡ bytes (var_name t) ++ bytes " "
is-usual t o e = ⊎_elim (λ q. rw (e.0 q, q)) (λ q. rw (e.1 q, q)) o

pub put_usual-requires : goal.put_usual-requires
put_usual-requires c = rw (is-usual c.args.t c.in-Wire.is c.is_wire.ensures) c.requires

pub returns-in-Wire : goal.returns-in-Wire
returns-in-Wire c = rw (is-usual c.args.t c.in-Wire.is c.is_wire.ensures) at c.put_usual.ensures

-- any other, and what is still to be put of it
whole : (t : VarType) (o : List ℕ) (at : ℕ) → at + length (bytes (var_name t) ++ bytes " ") ≤ length o
    → Due o at (bytes (var_name t) ++ bytes " ") (bytes (var_name t) ++ bytes " ") at o
whole t o at h = due o at _ refl h

pub put-n-requires : goal.put-n-requires
put-n-requires c =
    let x = c.args in
    rw (spelled_text _ c.spell-kind.ensures c.as_bytes.ensures)
    (fits (bytes (var_name x.t)) (bytes " ") (whole x.t x.out.now x.at c.requires))

pub returns-in_default : goal.returns-in_default
returns-in_default c =
    let x = c.args in
    let n = rw (spelled_text _ c.spell-kind.ensures c.as_bytes.ensures) at c.put-n.ensures in
    (more (bytes (var_name x.t)) (bytes " ") (whole x.t x.out.now x.at c.requires) n).done c.put_byte.ensures

pub put_byte-requires : goal.put_byte-requires
put_byte-requires c =
    let x = c.args in
    let n = rw (spelled_text _ c.spell-kind.ensures c.as_bytes.ensures) at c.put-n.ensures in
    (more (bytes (var_name x.t)) (bytes " ") (whole x.t x.out.now x.at c.requires) n).room
