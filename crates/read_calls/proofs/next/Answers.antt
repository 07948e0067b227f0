-- Goals of `read_calls::next` that the search leaves.
use mathlib.Core.Path.{refl, sym, ◌∙◌}
use borrow.Author.Tests.{eq-eqb}
use Rattle.read_calls.specs.Reading.{next_call}
use Rattle.vcd_state.proofs.Taken.{cursor-four}
use Rattle.read_calls.proofs.OneRead.{one-read}
use Rattle.read_calls.proofs.next.Goals as goal

pub put_cursor-requires : goal.put_cursor-requires
put_cursor-requires c = cursor-four _ c.cursor_of.ensures c.in-Some.is

pub returns-in-Some : goal.returns-in-Some
unfolding next_call
returns-in-Some c =
    rw (
      eq-eqb _ _ c.if-words-ne-WORDS.false,
      sym c.cursor_of.ensures ∙ c.in-Some.is,
      ← one-read _ _ _ c.if-words-ne-WORDS.false,
      c.read_status.ensures,
      c.put_cursor.ensures,
      c.read-a.ensures.answer,
    ) (record { status = refl; cursor = refl; words = c.read-a.ensures.table })
