-- Goals of `lines::put_wide` that the search leaves.
use Prim.Native.Nat.{ℕ}
use mathlib.Core.List.{[], ◌∷◌, map, append_assoc}
use native.Mathlib.Omega.{arith}
use lib.ListN.{length-map, length-replicate}
use Rattle.emit.proofs.Storing.{run}
use Rattle.text.specs.Bytes.{bytes}
use Rattle.value.specs.Values.{lower, filled_with}
use Rattle.value.specs.declared.Value.{Value}
use Rattle.lines.proofs.put_wide.Goals as goal

pub returns : goal.returns
returns c =
    let x = c.args in
    rw (append_assoc (filled_with Value.V0 x.zeros) (map lower x.value.now) (bytes "\n"))
    (run x.out.now x.at (omega arith) (bytes " " ∷ filled_with Value.V0 x.zeros ∷ map lower x.value.now ∷ bytes "\n" ∷ []) _ _ (omega arith) (cc))

pub put_lower-n-requires : goal.put_lower-n-requires
put_lower-n-requires c = omega (arith, length-replicate {A = ℕ} c.args.zeros 48)

pub put-requires : goal.put-requires
put-requires c = let x = c.args in omega (arith, length-replicate {A = ℕ} x.zeros 48, length-map x.value.now lower)
