-- Goals of `write::Writer::command` that the search leaves: commands that have no text.
use mathlib.Core.Path.{refl}
use Rattle.write.proofs.Outcomes.{no_text}
use Rattle.write.proofs.Writer.command.Goals as goal

pub returns-in-Timescale : goal.returns-in-Timescale
returns-in-Timescale c = rw c.in-Timescale.is (no_text _ _ _ _ refl refl refl c.if-src-gt-LIMIT.false c.timescale.ensures)

pub returns-in-Upscope : goal.returns-in-Upscope
returns-in-Upscope c = rw c.in-Upscope.is (no_text _ _ _ _ refl refl refl c.if-src-gt-LIMIT.false c.upscope.ensures)

pub returns-in-Enddefinitions : goal.returns-in-Enddefinitions
returns-in-Enddefinitions c = rw c.in-Enddefinitions.is (no_text _ _ _ _ refl refl refl c.if-src-gt-LIMIT.false c.enddefinitions.ensures)

pub returns-in-Timestamp : goal.returns-in-Timestamp
returns-in-Timestamp c = rw c.in-Timestamp.is (no_text _ _ _ _ refl refl refl c.if-src-gt-LIMIT.false c.timestamp.ensures)

pub returns-in-ChangeScalar : goal.returns-in-ChangeScalar
returns-in-ChangeScalar c = rw c.in-ChangeScalar.is (no_text _ _ _ _ refl refl refl c.if-src-gt-LIMIT.false c.change_scalar.ensures)

pub returns-in-Begin : goal.returns-in-Begin
returns-in-Begin c = rw c.in-Begin.is (no_text _ _ _ _ refl refl refl c.if-src-gt-LIMIT.false c.begin.ensures)

pub returns-in-End : goal.returns-in-End
returns-in-End c = rw c.in-End.is (no_text _ _ _ _ refl refl refl c.if-src-gt-LIMIT.false c.end.ensures)
