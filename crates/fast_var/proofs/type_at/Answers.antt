-- Goals of `fast_var::type_at` that the search leaves.
use Rattle.std.proofs.Common.{◌≡◌, ℕ, ◌+◌, Bool, true, false, cond, List, sym, ap, ◌∙◌, arith, ltb-false, Some}
use Rattle.scope.specs.Types.{parse_var_type}
use Rattle.scope.specs.declared.VarType.{VarType}
use Rattle.scope.proofs.Types.{var-names}
use Rattle.fast_var.specs.FastVar.{Names, HitsType}
use Rattle.fast_var.proofs.Places.{word_bytes, odd}
use Rattle.fast_var.proofs.type_at.Goals as goal
use Rattle.fast_var.proofs.type_at.Goals.{Then-is_usual}

-- the two usual types
module _ (s : List ℕ) (at : ℕ) where
  usual-typed : (wire : Bool) {k : VarType} {e : ℕ} → k ≡ cond wire VarType.Wire VarType.Reg → e ≡ at + cond wire 4 3
      → cond wire (Names s at "wire") (Names s at "reg") → HitsType s at (Some (k, e))
  usual-typed true p q w = rw (p, q) (w.0, omega arith, rw w.1 (var-names.back VarType.Wire))
  usual-typed false p q w = rw (p, q) (w.0, omega arith, rw w.1 (var-names.back VarType.Reg))

told : (c : Then-is_usual) {k : VarType} {e : ℕ} → let x = c.args in let wire = odd x.input.now x.at in
    k ≡ cond wire VarType.Wire VarType.Reg → e ≡ x.at + cond wire 4 3 → HitsType x.input.now x.at (Some (k, e))
told c p q =
    let x = c.args in
    usual-typed _ _ (odd x.input.now x.at) p q (c.is_usual.ensures c.if-is_usual.true)

pub returns-then-is_usual : goal.returns-then-is_usual
returns-then-is_usual c = told (goal.at.returns-then-is_usual c).Then-is_usual c.usual_type.ensures c.usual_end.ensures

pub returns : goal.returns
returns c =
    let w = c.word_end-end.ensures c.if-end-at.false in
    let parsed = sym c.from_str.ensures ∙ c.in_ok-k.was in
    (w, omega (arith, ltb-false), ap parse_var_type (sym (word_bytes _ _ _ w)) ∙ parsed)
