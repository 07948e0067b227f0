-- Goals of `scope::VarType::spell` that the search leaves.
use Prim.Native.Nat.{ℕ, ◌<◌}
use mathlib.Core.Path.{◌≡◌, ap, sym, ◌∙◌, subst}
use lib.ListN.{take}
use Rattle.text.specs.Texts.{spelled}
use Rattle.scope.specs.Numbers.{var_number}
use Rattle.scope.specs.declared.VarName.{VarName}
use Rattle.scope.specs.declared.VarType.{VarType}
use Rattle.scope.proofs.VarNames.{entry_at, listed, spelt, number-below}
use Rattle.scope.proofs.VarType.spell.Goals as goal

placed : (n : ℕ) (k : VarType) → n ≡ var_number k → n < 18
placed n k e = subst (λ (m : ℕ). m < 18) (sym e) (number-below k)

pub returns : goal.returns
returns c =
    c.spell.ensures
    ∙ ap spelled (ap (λ (e : VarName). take 32 (take e.len e.name)) ((listed _ _ _ c.var_types-list.ensures (placed _ c.args.self c.number.ensures)) ∙ ap entry_at c.number.ensures) ∙ spelt _)
