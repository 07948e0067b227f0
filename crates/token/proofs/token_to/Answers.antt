-- Goals of `token::token_to` that the search leaves.
use mathlib.Core.Path.{sym, ◌∙◌}
use Rattle.token.proofs.Words.{here-eof, here-text, here-long}
use Rattle.token.proofs.token_to.Goals as goal

pub returns-then-input-end : goal.returns-then-input-end
returns-then-input-end c = λ n e long. rw c.word_end_read.ensures (here-eof _ _ n _ c.requires.valid long c.if-input-end.true)

pub returns-then-whitespace_byte : goal.returns-then-whitespace_byte
returns-then-whitespace_byte c =
    λ n e long.
    rw c.word_read-next.ensures
    (here-text _ _ n _ c.requires.valid long c.if-input-end.false (sym c.whitespace_byte.ensures ∙ c.if-whitespace_byte.true))

pub returns-else-whitespace_byte : goal.returns-else-whitespace_byte
returns-else-whitespace_byte c =
    λ n e long.
    rw (c.word_read-next.ensures, ← e)
    (here-long _ _ n _ c.requires.valid long c.if-input-end.false (sym c.whitespace_byte.ensures ∙ c.if-whitespace_byte.false))
