-- Goals of `emit::emit_eight` that the search leaves.
use Prim.Native.Nat.{ℕ, ◌/◌, ◌%◌}
use mathlib.Core.Path.{◌≡◌, refl}
use mathlib.Core.List.{List, [], ◌∷◌}
use native.Mathlib.Omega.{arith}
use lib.ListN.{length, set, length-set}
use Rattle.text.specs.Bytes.{bytes}
use Rattle.emit.specs.Put.{stored}
use Rattle.emit.proofs.Storing.{stored-byte, run-start}
use Rattle.emit.proofs.Pairs.{pair, four-pairs}
use Rattle.emit.proofs.emit_eight.Goals as goal

-- no byte more or less: after the first byte, and after the pairs
first : (o : List ℕ) → length (set o 0 35) ≡ length o
first o = simp length-set

pub returns : goal.returns
returns c =
    let x = c.args in
    let left = c.put_pair-4.new.out in
    let high = x.n / 10000 in
    let low = x.n % 10000 in
    let hash : set x.out.now 0 35 ≡ stored x.out.now 0 (bytes "#") = stored-byte x.out.now 0 35 (omega arith) in
    let last : set left 9 10 ≡ stored left 9 (bytes "\n") = stored-byte left 9 10 (omega (arith, first x.out.now)) in
    let words = bytes "#" ∷ pair (high / 100) ∷ pair (high % 100) ∷ pair (low / 100) ∷ pair (low % 100) ∷ bytes "\n" ∷ [] in (
      refl,
      rw (four-pairs x.n (omega arith) (omega arith)) (run-start x.out.now words 10 (set left 9 10) refl (cc)).1,
    )
