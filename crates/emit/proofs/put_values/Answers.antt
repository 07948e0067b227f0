-- Goals of `emit::put_values` that the search leaves.
use Prim.Native.Nat.{ℕ, ◌+◌, ◌≤◌, ◌<◌}
use mathlib.Core.Path.{◌≡◌, refl, ap, ◌∙◌}
use mathlib.Core.List.{List, [], ◌∷◌, map}
use native.Mathlib.Omega.{arith}
use lib.ListN.{length, set, length-map, length-set}
use Rattle.text.specs.Bytes.{bytes}
use Rattle.value.specs.Values.{lower}
use Rattle.emit.specs.Put.{stored}
use Rattle.emit.proofs.Storing.{stored-byte, stored-length, run-start}
use Rattle.emit.proofs.put_values.Goals as goal

pub put_lower-o-requires : goal.put_lower-o-requires
put_lower-o-requires c = simp length-set (omega arith)

-- no byte more or less
module _ (o v : List ℕ) (h : length v + 2 ≤ length o) where
  long : {out : List ℕ} → out ≡ stored (set o 0 98) 1 (map lower v) → length out ≡ length o
  long e = ap length e ∙ stored-length (set o 0 98) 1 (map lower v) (simp (length-set, length-map) (omega arith)) ∙ simp length-set

  behind : {out : List ℕ} {n : ℕ} → (n ≡ 1 + length (map lower v)) × (out ≡ stored (set o 0 98) 1 (map lower v)) → n < length out
  behind e = omega (arith, long e.1, length-map v lower)

pub bounds-out-o : goal.bounds-out-o
bounds-out-o c = behind c.args.out.now c.args.v.now c.requires c.put_lower-o.ensures

pub shape_of-out : goal.shape_of-out
shape_of-out c = simp length-set (long c.args.out.now c.args.v.now c.requires c.put_lower-o.ensures.1)

pub returns : goal.returns
returns c =
    let x = c.args in
    let p = c.put_lower-o in
    let first : set x.out.now 0 98 ≡ stored x.out.now 0 (bytes "b") = stored-byte x.out.now 0 98 (omega arith) in
    let last = stored-byte p.new.out p.result 32 (behind x.out.now x.v.now c.requires p.ensures) in
    (run-start x.out.now (bytes "b" ∷ map lower x.v.now ∷ bytes " " ∷ []) _ (set p.new.out p.result 32) refl (cc)).1
