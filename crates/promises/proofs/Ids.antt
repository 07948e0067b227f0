-- Ids and accepted texts are paired one to one. Assumes nothing.
use Rattle.std.specs.Prelude.{Ok}
use Prim.Native.Nat.{ℕ, suc, ◌+◌}
use mathlib.Core.Path.{◌≡◌, sym, ap, ◌∙◌}
use mathlib.Core.List.{List}
use native.Mathlib.Nat.{le_refl}
use native.Mathlib.Omega.{arith}
use Rattle.idcode.specs.Id.{parse_id, id_sum}
use Rattle.idcode.specs.declared.IdCode.{IdCode}
use Rattle.idcode.proofs.Laws.{sum-text, text-length}
use Rattle.idcode.proofs.Pairing.{read-written, written_read, id_below}
use Rattle.promises.specs.Stated.{IdsPaired}

sum_of : (s : List ℕ) (i : IdCode) → parse_id s ≡ Ok i → id_sum s ≡ i.0 + 1
sum_of s i e =
    let n : ℕ = suc i.0 in
    let is : id_sum s ≡ n = ap id_sum (sym (written_read s i e)) ∙ sum-text n n (le_refl n) in
    omega arith

pub ids-paired : IdsPaired
ids-paired =
    record {
      read = read-written;
      short = λ code h. text-length code (omega arith);
      only = λ s i e. sym (written_read s i e);
      sum = sum_of;
      below = id_below;
    }
