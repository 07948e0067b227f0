-- Goals of `rows::peek::var_at` that the search leaves.
use Prim.Native.Nat.{◌/◌, ◌<◌}
use mathlib.Core.Path.{◌≡◌, sym, ap, ◌∙◌}
use native.Mathlib.Omega.{arith}
use lib.ListN.{length}
use Rattle.rows.specs.Rows.{row_at, var_of}
use Rattle.rows.specs.Peek.{kind_of}
use Rattle.rows.proofs.Peeking.{no-var, zeros-var, row-held, var-held}
use borrow.Author.Rules.{rules}
use Rattle.rows.proofs.peek.var_at.Goals as goal
use Rattle.rows.proofs.peek.var_at.Goals.{Else-kind_at-ne-VAR}

-- row i is a variable, and so it stands in the table
var : (c : Else-kind_at-ne-VAR) → kind_of (row_at c.args.rows.now c.args.i) ≡ 2
var c = sym c.kind_at.ensures ∙ c.if-kind_at-ne-VAR.false

inside : (c : Else-kind_at-ne-VAR) → c.args.i < length c.args.rows.now / 10
inside c = (row-held c.args.rows.now c.args.i (λ e. omega (arith, e, var c))).0

pub returns-then-kind_at-ne-VAR : goal.returns-then-kind_at-ne-VAR
returns-then-kind_at-ne-VAR c =
    c.var.ensures ∙ ap var_of c.no_words.ensures ∙ zeros-var
    ∙ sym (no-var _ _ (λ e. c.if-kind_at-ne-VAR.true (c.kind_at.ensures ∙ e)))

pub overflow_mul-i : goal.overflow_mul-i
overflow_mul-i c = let h = inside (goal.at.overflow_mul-i c).Else-kind_at-ne-VAR in search rules

pub words_at-requires : goal.words_at-requires
words_at-requires c = omega (arith, inside (goal.at.words_at-requires c).Else-kind_at-ne-VAR)

pub var-requires-2 : goal.var-requires-2
var-requires-2 c = rw c.words_at.ensures (var-held _ _ (var (goal.at.var-requires-2 c).Else-kind_at-ne-VAR)).0

pub returns : goal.returns
returns c = c.var-2.ensures ∙ ap var_of c.words_at.ensures ∙ sym (var-held _ _ (var (goal.at.returns c).Else-kind_at-ne-VAR)).1
