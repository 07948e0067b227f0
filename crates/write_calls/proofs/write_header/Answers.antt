-- Goals of `write_calls::write_header` that the search leaves.
use mathlib.Core.Path.{refl, sym, ◌∙◌}
use Rattle.write_calls.specs.Writing.{write_header_call}
use Rattle.vcd_state.proofs.Taken.{writer-three}
use Rattle.write_calls.proofs.write_header.Goals as goal

pub wrote_header-requires : goal.wrote_header-requires
wrote_header-requires c = writer-three _ c.writer_of.ensures c.in-Some.is

pub returns-in-Some-head_of : goal.returns-in-Some-head_of
unfolding write_header_call
returns-in-Some-head_of c =
    rw (
      sym c.writer_of.ensures ∙ c.in-Some.is,
      sym c.head_of.ensures ∙ c.in-Some-head_of.is,
      ← c.header.ensures.answers,
    ) (record { status = c.wrote_header.ensures.status; writer = c.wrote_header.ensures.writer; out = c.header.ensures.leaves; count = c.wrote_header.ensures.count })

pub returns-in-None-head_of : goal.returns-in-None-head_of
unfolding write_header_call
returns-in-None-head_of c = rw (sym c.writer_of.ensures ∙ c.in-Some.is, sym c.head_of.ensures ∙ c.in-None-head_of.is) (record { status = refl; writer = refl; out = refl; count = refl })

pub returns-in-None : goal.returns-in-None
unfolding write_header_call
returns-in-None c = rw (sym c.writer_of.ensures ∙ c.in-None.is) (record { status = refl; writer = refl; out = refl; count = refl })
