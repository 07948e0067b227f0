-- Goals of `emit::emit_scalar` that the search leaves.
use mathlib.Core.Path.{refl}
use mathlib.Core.List.{[], ◌∷◌}
use native.Mathlib.Omega.{arith}
use borrow.Author.Rules.{rules}
use Rattle.idcode.specs.Id.{id_text}
use Rattle.text.specs.Bytes.{bytes}
use Rattle.emit.proofs.Storing.{standing, lay-none}
use Rattle.emit.proofs.Framing.{inside, closed}
use Rattle.emit.proofs.Pairs.{one_byte}
use Rattle.emit.proofs.emit_scalar.Goals as goal

pub returns-then-out-ge3 : goal.returns-then-out-ge3
returns-then-out-ge3 c =
    let x = c.args in
    rw (one_byte x.id.0 (omega arith)) (standing _ x.out.now 3 refl (search rules) c.emit_short.ensures)

pub returns-then-out-lt2 : goal.returns-then-out-lt2
returns-then-out-lt2 c =
    let x = c.args in
    lay-none (x.value ∷ []) (id_text x.id.0 ∷ bytes "\n" ∷ []) x.out.now (omega arith)

pub close-requires : goal.close-requires
close-requires c =
    inside _ c.args.out.now (omega arith) _ c.put.ensures

pub returns : goal.returns
returns c =
    closed _ c.args.out.now (omega arith) _ _ c.put.ensures c.close.ensures
