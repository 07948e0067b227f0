-- Goals of `write_header::write_vars` that the search leaves.
use mathlib.Core.Path.{◌≡◌, refl, sym, ◌∙◌}
use native.Mathlib.Omega.{arith}
use Rattle.std.proofs.lemmas.Result.{err_from_is_err_and}
use Rattle.write_header.proofs.Items.{var-of, moved, one_more, no_more}
use Rattle.write_header.proofs.Places.{var-placed}
use Rattle.write_header.proofs.write_vars.Goals as goal

pub loop-i-init : goal.loop-i-init
loop-i-init c = let p = c.requires in (p.2, refl, λ levels st h k g. (g, refl))

pub returns-then-not-is_var_of : goal.returns-then-not-is_var_of
returns-then-not-is_var_of c =
    let l = c.loop-i in
    let h = moved _ _ _ c.parent_at-me.ensures c.requires.4 l.auto.i (sym c.is_var_of.ensures ∙ c.if-not-is_var_of.true) in
    λ levels. (h, omega (arith, l.auto.i-end, c.requires.0), l.invariant.0, l.invariant.2 levels)

pub write_var-requires : goal.write_var-requires
write_var-requires c =
    let p = c.requires in
    let x = var-of _ _ _ (sym c.is_var_of.ensures ∙ c.if-not-is_var_of.false) in (
      c.loop-i.invariant.0,
      var-placed _ _ _ _ p.3 c.loop-i-test.true c.var_at.ensures x.0,
    )

pub loop-i-preserved : goal.loop-i-preserved
loop-i-preserved c =
    let a = c.args in
    let l = c.loop-i in
    let x = rw c.in_ok-past.was at c.write_var.ensures in (
      x.1,
      c.write_var.auto.out ∙ l.invariant.1,
      rw x.0 at (one_more a.src.now a.rows.now a.n a.from a.out.now a.at a.w l.i l.out l.place l.v
          c.loop-i-test.true c.var_at.ensures
          c.parent_at-me.ensures (sym c.is_var_of.ensures ∙ c.if-not-is_var_of.false) l.invariant.2 _ _ _ _ x),
    )

pub returns-in_err-past : goal.returns-in_err-past
returns-in_err-past c =
    let a = c.args in
    let l = c.loop-i in
    let e = err_from_is_err_and c.from_residual.result c.from_residual.ensures.1 in
    rw (e.1, e.2)
    (no_more a.src.now a.rows.now a.n a.from a.out.now a.at a.w l.i l.out l.place l.v
    c.loop-i-test.true c.var_at.ensures
    c.parent_at-me.ensures (sym c.is_var_of.ensures ∙ c.if-not-is_var_of.false) l.invariant.2 _ _ _ _
    (rw c.in_err-past.was at c.write_var.ensures))

pub returns : goal.returns
returns c =
    let l = c.loop-i in
    let all : l.i ≡ c.args.n = omega (arith, l.auto.i-end, c.loop-i-test.false, c.requires.0) in
    λ levels. (c.requires.0, omega arith, l.invariant.0, rw all at (l.invariant.2 levels))
