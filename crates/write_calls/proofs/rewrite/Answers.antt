-- Goals of `write_calls::rewrite` that the search leaves.
use mathlib.Core.Path.{refl, sym, ◌∙◌}
use Rattle.write_calls.specs.Writing.{rewrite_call}
use Rattle.vcd_state.proofs.Taken.{cursor-four, writer-three}
use Rattle.write_calls.proofs.rewrite.Goals as goal

pub put_cursor-requires : goal.put_cursor-requires
put_cursor-requires c = cursor-four _ c.cursor_of.ensures c.in-Some.is

pub put_writer-requires : goal.put_writer-requires
put_writer-requires c = writer-three _ c.writer_of.ensures c.in-Some-writer_of.is

pub returns-in-Some-writer_of : goal.returns-in-Some-writer_of
unfolding rewrite_call
returns-in-Some-writer_of c =
    rw (
      sym c.cursor_of.ensures ∙ c.in-Some.is,
      sym c.writer_of.ensures ∙ c.in-Some-writer_of.is,
      c.rewrite_status.ensures.status,
      c.rewrite_status.ensures.line,
      c.put_writer.ensures,
      c.put_cursor.ensures,
      c.rewrite-a.ensures.answer,
    ) (record { status = refl; cursor = refl; writer = refl; out = c.rewrite-a.ensures.bytes; count = refl; line = refl })

pub returns-in-None-writer_of : goal.returns-in-None-writer_of
unfolding rewrite_call
returns-in-None-writer_of c =
    rw (sym c.cursor_of.ensures ∙ c.in-Some.is, sym c.writer_of.ensures ∙ c.in-None-writer_of.is) (record { status = refl; cursor = refl; writer = refl; out = refl; count = refl; line = refl })

pub returns-in-None : goal.returns-in-None
unfolding rewrite_call
returns-in-None c = rw (sym c.cursor_of.ensures ∙ c.in-None.is) (record { status = refl; cursor = refl; writer = refl; out = refl; count = refl; line = refl })
