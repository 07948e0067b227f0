-- Goals of `scope::VarType::from_str` that the search leaves.
use Rattle.std.specs.Prelude.{Some}
use mathlib.Core.Path.{ap, sym, ◌∙◌}
use native.Mathlib.Omega.{arith}
use borrow.Author.Count.{below_more}
use Rattle.scope.specs.declared.VarName.{VarName}
use Rattle.scope.proofs.VarNames.{sought-found, sought-none, listed, named_there}
use Rattle.scope.proofs.VarType.from_str.Goals as goal

pub returns-then-is_named : goal.returns-then-is_named
returns-then-is_named c =
    ap (λ (e : VarName). Some e.var_type) (listed _ _ _ c.var_types-list.ensures c.loop-e-test.true)
    ∙ sought-found _ _ c.loop-e.invariant c.loop-e-test.true (named_there _ _ _ _ c.var_types-list.ensures c.loop-e-test.true (sym c.is_named.ensures ∙ c.if-is_named.true))

pub loop-e-preserved : goal.loop-e-preserved
loop-e-preserved c =
    below_more _ _ c.loop-e.invariant (named_there _ _ _ _ c.var_types-list.ensures c.loop-e-test.true (sym c.is_named.ensures ∙ c.if-is_named.false))

pub returns : goal.returns
returns c = sought-none c.args.s.now (λ k h. c.loop-e.invariant k (omega (arith, c.loop-e-test.false)))
