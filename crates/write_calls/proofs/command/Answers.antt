-- Goals of `write_calls::command` that the search leaves.
use mathlib.Core.Path.{refl, sym, ◌∙◌}
use borrow.Author.Tests.{eq-eqb, ne_eqb}
use Rattle.write_calls.specs.Writing.{command_call}
use Rattle.vcd_state.proofs.Taken.{writer-three}
use Rattle.write_calls.proofs.command.Goals as goal

pub returns-then-words-ne-WORDS : goal.returns-then-words-ne-WORDS
unfolding command_call
returns-then-words-ne-WORDS c = rw (ne_eqb _ _ c.if-words-ne-WORDS.true) (record { status = refl; writer = refl; out = refl; count = refl })

pub wrote-requires : goal.wrote-requires
wrote-requires c = writer-three _ c.writer_of.ensures c.in-Some.is

pub returns-in-Some-record_at : goal.returns-in-Some-record_at
unfolding command_call
returns-in-Some-record_at c =
    rw (
      eq-eqb _ _ c.if-words-ne-WORDS.false,
      sym c.writer_of.ensures ∙ c.in-Some.is,
      sym c.record_at.ensures ∙ c.in-Some-record_at.is,
      ← c.command.ensures.answers,
    ) (record { status = c.wrote.ensures.status; writer = c.wrote.ensures.writer; out = c.command.ensures.leaves; count = c.wrote.ensures.count })

pub returns-in-None-record_at : goal.returns-in-None-record_at
unfolding command_call
returns-in-None-record_at c =
    rw (
      eq-eqb _ _ c.if-words-ne-WORDS.false,
      sym c.writer_of.ensures ∙ c.in-Some.is,
      sym c.record_at.ensures ∙ c.in-None-record_at.is,
    ) (record { status = refl; writer = refl; out = refl; count = refl })

pub returns-in-None : goal.returns-in-None
unfolding command_call
returns-in-None c = rw (eq-eqb _ _ c.if-words-ne-WORDS.false, sym c.writer_of.ensures ∙ c.in-None.is) (record { status = refl; writer = refl; out = refl; count = refl })
