-- Goals of `emit::emit_time` that the search leaves.
use mathlib.Core.List.{[], ◌∷◌}
use native.Mathlib.Omega.{arith}
use borrow.Author.Rules.{rules}
use Rattle.number.specs.Decimal.{decimal_of}
use Rattle.text.specs.Bytes.{bytes}
use Rattle.emit.specs.Put.{time_text}
use Rattle.emit.proofs.Storing.{standing, lay-none}
use Rattle.emit.proofs.Framing.{inside, closed}
use Rattle.emit.proofs.Pairs.{four-pairs}
use Rattle.emit.proofs.emit_time.Goals as goal

pub returns-then-out-ge10 : goal.returns-then-out-ge10
returns-then-out-ge10 c =
    let x = c.args in
    standing (time_text x.n) x.out.now 10 (rw (four-pairs x.n (search rules) (search rules))) (search rules)
    c.emit_eight.ensures

pub returns-then-out-lt2 : goal.returns-then-out-lt2
returns-then-out-lt2 c = let x = c.args in lay-none (35 ∷ []) (decimal_of x.n ∷ bytes "\n" ∷ []) x.out.now (omega arith)

pub close-requires : goal.close-requires
close-requires c =
    inside _ c.args.out.now (omega arith) _ c.put_decimal.ensures

pub returns : goal.returns
returns c =
    closed _ c.args.out.now (omega arith) _ _ c.put_decimal.ensures c.close.ensures
