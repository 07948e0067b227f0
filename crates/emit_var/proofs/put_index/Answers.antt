-- Goals of `emit_var::put_index` that the search leaves.
use Prim.Native.Nat.{ℕ}
use mathlib.Core.Path.{◌≡◌, refl, ap}
use mathlib.Core.List.{List, ◌++◌, append_assoc}
use native.Mathlib.Omega.{arith}
use mir.Syntax.{w32}
use mir.Val.{SFits, of_z, to_z}
use mir.ValLaws.{to_z-of_z}
use Rattle.text.specs.Bytes.{bytes}
use Rattle.number.specs.Decimal.{signed_of}
use Rattle.scope.specs.declared.ReferenceIndex.{ReferenceIndex}
use Rattle.emit.proofs.Storing.{stored-none}
use Rattle.emit_var.specs.Define.{indexed}
use Rattle.emit_var.proofs.Putting.{due, more, sized}
use Rattle.emit_var.proofs.put_index.Goals as goal

pub returns-in-None : goal.returns-in-None
returns-in-None c = rw c.in-None.is (omega arith, stored-none _ _)

-- one number, and what is still to be put of its text after each call
pub returns-in-BitSelect : goal.returns-in-BitSelect
returns-in-BitSelect c =
    let x = c.args in
    let a = c.in-BitSelect.a in
    let held : to_z w32 (of_z w32 a) ≡ a = to_z-of_z w32 a (rw c.in-BitSelect.is at (sized x.x c.well_formed.1.1.0)) in
    let whole = due x.out.now x.at (indexed (ReferenceIndex.BitSelect a)) refl (rw c.in-BitSelect.is at c.requires) in
    let digits = signed_of a ++ bytes "]" in
    let space = more (bytes " ") (bytes "[" ++ digits) whole c.put_byte-n.ensures in
    let open_ = more (bytes "[") digits space c.put_byte-n-in-BitSelect.ensures in
    let number = more (signed_of a) (bytes "]") open_ (rw held at c.put_signed-n.ensures) in
    rw c.in-BitSelect.is (number.done c.put_byte.ensures)

-- two numbers
pub returns-in-Range : goal.returns-in-Range
returns-in-Range c =
    let x = c.args in
    let a = c.in-Range.a in
    let b = c.in-Range.b in
    let told : SFits w32 a × SFits w32 b = rw c.in-Range.is at (sized x.x c.well_formed.1.1.0) in
    let first : to_z w32 (of_z w32 a) ≡ a = to_z-of_z w32 a told.0 in
    let second : to_z w32 (of_z w32 b) ≡ b = to_z-of_z w32 b told.1 in
    let whole =
    due x.out.now x.at (indexed (ReferenceIndex.Range a b))
    (ap (λ (l : List ℕ). bytes " [" ++ l) (append_assoc (signed_of a) (bytes ":" ++ signed_of b) (bytes "]")))
    (rw c.in-Range.is at c.requires) in
    let last = signed_of b ++ bytes "]" in
    let pair = signed_of a ++ (bytes ":" ++ last) in
    let space = more (bytes " ") (bytes "[" ++ pair) whole c.put_byte-n-in-Range.ensures in
    let open_ = more (bytes "[") pair space c.put_byte-n-in-Range-2.ensures in
    let one = more (signed_of a) (bytes ":" ++ last) open_ (rw first at c.put_signed-n-in-Range.ensures) in
    let colon = more (bytes ":") last one c.put_byte-n-in-Range-3.ensures in
    let two = more (signed_of b) (bytes "]") colon (rw second at c.put_signed-n-in-Range-2.ensures) in
    rw c.in-Range.is (two.done c.put_byte-in-Range.ensures)
