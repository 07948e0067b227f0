-- Goals of `emit_var::put_usual` that the search leaves.
use Prim.Native.Nat.{ℕ, ◌+◌, ◌≤◌}
use mathlib.Core.Path.{◌≡◌, refl, ◌∙◌}
use mathlib.Core.Bool.{Bool, true, false, cond}
use mathlib.Core.List.{List, [], ◌∷◌}
use native.Mathlib.Omega.{arith}
use lib.ListN.{length}
use Rattle.text.specs.Bytes.{bytes}
use Rattle.emit.specs.Put.{stored}
use Rattle.emit_var.specs.Define.{usual, Puts}
use Rattle.emit_var.proofs.Putting.{both, again}
use Rattle.emit_var.proofs.put_usual.Goals as goal
use Rattle.emit_var.proofs.put_usual.Goals.{After-put_four, Joined-wire, then-wire, else-wire}

-- the four bytes, and where the space goes
abbrev four : Bool → List ℕ
four wire = cond wire 119 114 ∷ cond wire 105 101 ∷ cond wire 114 103 ∷ cond wire 101 32 ∷ []

four-first : (wire : Bool) → 4 ≤ length (usual wire)
four-first true = omega arith
four-first false = omega arith

ends : (c : Joined-wire) → let x = c.args in c.if-wire.end + 1 ≡ x.at + length (usual x.wire)
ends c =
    elim c.if-wire.branch
    [ then-wire w ↦ rw (w.if-wire.true, w.end-is) (omega arith) | else-wire w ↦ rw (w.if-wire.false, w.end-is) (omega arith) ]

-- the space goes after `wire`, and on the one after `reg`
put : (wire : Bool) (o : List ℕ) (at n : ℕ) {r : ℕ} {o' o'' : List ℕ} → at + length (usual wire) ≤ length o
    → n + 1 ≡ at + length (usual wire) → o' ≡ stored o at (four wire) → Puts o' n (bytes " ") r o'' → Puts o at (usual wire) r o''
put true o at n h e p q = both o at (bytes "wire") (bytes " ") refl h (omega (arith, e), p) q
put false o at n h e p q =
    let m : n ≡ at + 3 = omega (arith, e) in
    (omega (arith, q.0), q.1 ∙ rw (m, p) (again o at (bytes "reg") (bytes " ") (omega (arith, h))))

laid : (c : After-put_four) →
    let x = c.args in
    c.put_four.new.out ≡ stored x.out.now x.at (four x.wire)
laid c =
    rw (c.either-4.ensures, c.either-3.ensures, c.either-2.ensures, c.either.ensures)
    at c.put_four.ensures.1

pub returns : goal.returns
returns c =
    put c.args.wire c.args.out.now c.args.at c.if-wire.end c.requires (ends (goal.at.returns c).Joined-wire) (laid (goal.at.returns c).After-put_four) c.put_byte.ensures

pub put_four-requires : goal.put_four-requires
put_four-requires c = omega (arith, four-first c.args.wire)

pub put_byte-requires : goal.put_byte-requires
put_byte-requires c = omega (arith, ends (goal.at.put_byte-requires c).Joined-wire)
