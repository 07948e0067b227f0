-- Goals of `record::RecordWords::command` that the search leaves.
use Rattle.std.specs.Prelude.{Some}
use mathlib.Core.Path.{sym, ap, ◌∙◌}
use borrow.Author.Tests.{eq-eqb, ne_eqb}
use Rattle.rows.specs.Rows.{all_zero}
use Rattle.record.specs.Record.{command_of}
use Rattle.record.proofs.Uses.{used, var-row}
use Rattle.record.proofs.RecordWords.command.Goals as goal
use Rattle.record.proofs.RecordWords.command.Goals.{then-self-ne0-via-then-self-ne0, then-self-ne0-via-else-self-ne0+then-self-ne0-2, then-self-ne0-via-else-self-ne0+else-self-ne0-2+then-self-ne0-3}

pub returns-then-self-eq-VAR : goal.returns-then-self-eq-VAR
returns-then-self-eq-VAR c = c.var_of.ensures ∙ rw (c.row.ensures, c.var_row.ensures) (var-row _ c.if-self-eq-VAR.true)

pub returns-then-self-ne0 : goal.returns-then-self-ne0
unfolding command_of all_zero
returns-then-self-ne0 c =
    let a = c.args.self in
    rw (ne_eqb _ 7 c.if-self-eq-VAR.false) (elim c.then-self-ne0.branch [
      | then-self-ne0-via-then-self-ne0 w ↦ rw (ne_eqb _ 0 w.if-self-ne0.true)
      | then-self-ne0-via-else-self-ne0+then-self-ne0-2 w ↦
          rw (eq-eqb _ 0 w.if-self-ne0.false, ne_eqb a.first 0 w.if-self-ne0-2.true)
      | then-self-ne0-via-else-self-ne0+else-self-ne0-2+then-self-ne0-3 w ↦
          rw (eq-eqb _ 0 w.if-self-ne0.false, eq-eqb a.first 0 w.if-self-ne0-2.false, ne_eqb a.second 0 w.if-self-ne0-3.true)
    ])

pub returns-then-not-is_used : goal.returns-then-not-is_used
unfolding command_of all_zero
returns-then-not-is_used c =
    let a = c.args.self in
    rw (
      ne_eqb _ 7 c.if-self-eq-VAR.false,
      eq-eqb _ 0 c.if-self-ne0.false,
      eq-eqb a.first 0 c.if-self-ne0-2.false,
      eq-eqb a.second 0 c.if-self-ne0-3.false,
      ← c.is_used.ensures,
      c.if-not-is_used.true,
    )

pub made-requires : goal.made-requires
made-requires c = (used _ (sym c.is_used.ensures ∙ c.if-not-is_used.false)).number

pub returns : goal.returns
unfolding command_of all_zero
returns c =
    let a = c.args.self in
    rw (
      ne_eqb _ 7 c.if-self-eq-VAR.false,
      eq-eqb _ 0 c.if-self-ne0.false,
      eq-eqb a.first 0 c.if-self-ne0-2.false,
      eq-eqb a.second 0 c.if-self-ne0-3.false,
      ← c.is_used.ensures,
      c.if-not-is_used.false,
    )
    (ap Some c.made.ensures)
