-- Goals of `header::take_vars` that the search leaves.
use mathlib.Core.Path.{◌≡◌, refl, sym, ◌∙◌}
use native.Mathlib.Omega.{arith}
use Rattle.fast.specs.Fast.{Reads}
use Rattle.parser_part.specs.Plan.{var_def}
use Rattle.parser.proofs.Ahead.{good-valid, command-past}
use Rattle.header.proofs.Levels.{passes_none, passes-more}
use Rattle.header.proofs.take_vars.Goals as goal
use Rattle.header.proofs.take_vars.Goals.{In-Some}

-- what the quick parse_var told
told : (c : In-Some) →
    Reads c.args.input.now c.loop-n.cur.place c.in-Some.end (var_def c.in-Some.v c.in-Some.v.index)
told c = rw c.in-Some.is at c.parse_var.ensures

pub loop-n-init : goal.loop-n-init
loop-n-init c =
    (good-valid _ _ (sym c.placed.ensures ∙ c.if-not-placed.false), refl, passes_none _ _ _ _ _ _ c.requires.0)

pub loop-n-preserved : goal.loop-n-preserved
loop-n-preserved c =
    let i = c.loop-n.invariant in
    let l = c.loop-n-test.true in
    let q = (told (goal.at.loop-n-preserved c).In-Some).reads _ i.0 refl in
    rw c.word_read-cur.ensures (
      (command-past _ _ _ _ q).0.valid,
      c.put_var.auto.rows ∙ i.1,
      rw c.put_var.ensures (passes-more _ _ _ _ _ _ _ _ _ _ _ i.2 q l),
    )

pub returns-in-None : goal.returns-in-None
returns-in-None c = rw c.so_far-in-None.ensures c.loop-n.invariant.2

pub returns : goal.returns
returns c =
    let all : c.loop-n.n ≡ c.args.cap = omega (arith, c.loop-n.auto, c.loop-n-test.false) in
    rw c.so_far-2.ensures (rw all at c.loop-n.invariant.2)
