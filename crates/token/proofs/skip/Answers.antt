-- Goals of `token::skip` that the search leaves.
use mathlib.Core.Path.{sym, ◌∙◌}
use Rattle.token.proofs.Reading.{blank-item, solid-item, no-item}
use Rattle.token.proofs.skip.Goals as goal

pub returns-then-not-whitespace_byte : goal.returns-then-not-whitespace_byte
returns-then-not-whitespace_byte c =
    let l = c.loop-b in
    sym (solid-item _ c.args.c _ _ l.invariant.0 l.invariant.1 c.loop-b-test.true (sym c.whitespace_byte.ensures ∙ c.if-not-whitespace_byte.true)) ∙ l.invariant.2

pub loop-b-preserved : goal.loop-b-preserved
loop-b-preserved c =
    let l = c.loop-b in
    let x = blank-item _ c.args.c _ _ l.invariant.0 l.invariant.1 c.loop-b-test.true (sym c.whitespace_byte.ensures ∙ c.if-not-whitespace_byte.false) in
    rw c.byte_read-cur.ensures (x.0, x.1, x.2 ∙ l.invariant.2)

pub returns : goal.returns
returns c = let l = c.loop-b in sym (no-item _ c.args.c _ _ l.invariant.0 l.invariant.1 c.loop-b-test.false) ∙ l.invariant.2
