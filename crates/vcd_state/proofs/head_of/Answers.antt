-- Goals of `vcd_state::head_of` that the search leaves.
use mathlib.Core.Path.{sym, ◌∙◌}
use borrow.Author.Tests.{eq-eqb, ne_eqb}
use Rattle.vcd_state.specs.State.{head_of}
use Rattle.vcd_state.proofs.Taken.{scale_small}
use Rattle.vcd_state.proofs.head_of.Goals as goal

pub returns-then-w-ne-HEAD : goal.returns-then-w-ne-HEAD
unfolding head_of
returns-then-w-ne-HEAD c = rw (ne_eqb _ _ c.if-w-ne-HEAD.true)

pub returns-then-not-is_kept : goal.returns-then-not-is_kept
unfolding head_of
returns-then-not-is_kept c = rw (eq-eqb _ _ c.if-w-ne-HEAD.false, sym c.is_kept.ensures ∙ c.if-not-is_kept.true)

pub returns-then-not-is_kept-2 : goal.returns-then-not-is_kept-2
unfolding head_of
returns-then-not-is_kept-2 c = rw (eq-eqb _ _ c.if-w-ne-HEAD.false, sym c.is_kept.ensures ∙ c.if-not-is_kept.false, sym c.is_kept-2.ensures ∙ c.if-not-is_kept-2.true)

pub returns-then-not-is_scale : goal.returns-then-not-is_scale
unfolding head_of
returns-then-not-is_scale c =
    rw (
      eq-eqb _ _ c.if-w-ne-HEAD.false,
      sym c.is_kept.ensures ∙ c.if-not-is_kept.false,
      sym c.is_kept-2.ensures ∙ c.if-not-is_kept-2.false,
      sym c.is_scale.ensures ∙ c.if-not-is_scale.true,
    )

pub scale_of-timescale-requires : goal.scale_of-timescale-requires
scale_of-timescale-requires c = scale_small _ _ _ (sym c.is_scale.ensures ∙ c.if-not-is_scale.false)

pub returns : goal.returns
unfolding head_of
returns c =
    rw (
      c.scale_of-timescale.ensures,
      c.text_of-version.ensures,
      c.text_of-date.ensures,
      eq-eqb _ _ c.if-w-ne-HEAD.false,
      sym c.is_kept.ensures ∙ c.if-not-is_kept.false,
      sym c.is_kept-2.ensures ∙ c.if-not-is_kept-2.false,
      sym c.is_scale.ensures ∙ c.if-not-is_scale.false,
    )
