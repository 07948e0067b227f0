-- Goals of `parser::next_command` that the search leaves.
use Prim.Native.Nat.{◌≤◌}
use mathlib.Core.Path.{◌≡◌, sym, ap, ◌∙◌}
use mathlib.Core.Bool.{true}
use native.Mathlib.Omega.{arith}
use borrow.Author.Tests.{lt-ltb, le-ltb}
use lib.ListN.{length, get_or}
use Rattle.token.specs.Read.{Valid, byte_read}
use Rattle.token.proofs.Reading.{valid-step, skip_first}
use Rattle.token.proofs.Tokens.{skipped-valid}
use Rattle.token.proofs.Words.{solid-read}
use Rattle.parser.specs.Next.{is_good, next_of, found, next_from}
use Rattle.parser.proofs.Ahead.{good-valid}
use Rattle.parser.proofs.next_command.Goals as goal
use Rattle.parser.proofs.next_command.Goals.{After-skip-from, After-word_end_read, After-chosen, Else-not-placed}

is-good : (c : Else-not-placed) → is_good c.args.input.now c.args.c ≡ true
is-good c = sym c.placed.ensures ∙ c.if-not-placed.false

start-valid : (c : After-skip-from) → Valid c.args.input.now c.skip-from.result
start-valid c = rw c.skip-from.ensures (skipped-valid _ _ (good-valid _ _ (sym c.placed.ensures ∙ c.if-not-placed.false)))

pub skip-from-requires : goal.skip-from-requires
skip-from-requires c = good-valid _ _ (is-good (goal.at.skip-from-requires c).Else-not-placed)

pub end_read-requires : goal.end_read-requires
end_read-requires c = omega (arith, start-valid (goal.at.end_read-requires c).After-skip-from)

pub returns-then-input-at : goal.returns-then-input-at
unfolding next_from found
returns-then-input-at c =
    let at-end : length c.args.input.now ≤ c.skip-from.result.place = omega arith in
    rw (is-good (goal.at.returns-then-input-at c).Else-not-placed, ← c.skip-from.ensures, le-ltb _ _ at-end, c.end_read.ensures)

pub word_end_read-requires : goal.word_end_read-requires
word_end_read-requires c = omega (arith, start-valid (goal.at.word_end_read-requires c).After-skip-from)

-- the first byte after the blanks is none, so no newline
first_read : (c : After-word_end_read)
    → let s = c.args.input.now in let from = c.skip-from.result in
    c.word_end_read.result ≡ byte_read from (get_or s from.place 0)
first_read c =
    let s = c.args.input.now in
    c.word_end_read.ensures
    ∙ solid-read c.skip-from.result _ (rw c.skip-from.ensures (skip_first s _ (rw c.skip-from.ensures at c.if-input-at.false)))

pub chosen-requires : goal.chosen-requires
chosen-requires c =
    rw (first_read (goal.at.chosen-requires c).After-word_end_read) (valid-step _ _ _ (start-valid (goal.at.chosen-requires c).After-skip-from) c.if-input-at.false)

-- the command, by the first byte
read : (c : After-chosen) → next_from c.args.input.now c.args.c ≡ next_of c.chosen.result
unfolding next_from found
read c =
    rw (is-good (goal.at.After-chosen c).Else-not-placed, ← c.skip-from.ensures, lt-ltb _ _ c.if-input-at.false, ← c.kind_of.ensures, ← first_read (goal.at.After-chosen c).After-word_end_read, ← c.chosen.ensures)

pub returns-in-Ok : goal.returns-in-Ok
returns-in-Ok c = sym (read (goal.at.returns-in-Ok c).After-chosen ∙ ap next_of c.in-Ok.is)

pub returns-in-Err : goal.returns-in-Err
returns-in-Err c = sym (read (goal.at.returns-in-Err c).After-chosen ∙ ap next_of c.in-Err.is)

pub returns-then-not-placed : goal.returns-then-not-placed
unfolding next_from
returns-then-not-placed c = rw (sym c.placed.ensures ∙ c.if-not-placed.true)
