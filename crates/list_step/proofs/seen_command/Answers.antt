-- Goals of `list_step::seen_command` that the search leaves.
use Rattle.list_step.proofs.seen_command.Goals as goal

pub returns-in-Timestamp : goal.returns-in-Timestamp
returns-in-Timestamp c = rw c.in-Timestamp.is

pub returns-in-ChangeScalar : goal.returns-in-ChangeScalar
returns-in-ChangeScalar c = rw c.in-ChangeScalar.is c.seen_scalar.ensures

pub returns-in-ChangeVector : goal.returns-in-ChangeVector
returns-in-ChangeVector c = rw c.in-ChangeVector.is c.seen_change.ensures

pub returns-in-ChangeReal : goal.returns-in-ChangeReal
returns-in-ChangeReal c = rw c.in-ChangeReal.is c.seen_change-in-ChangeReal.ensures

pub returns-in-ChangeString : goal.returns-in-ChangeString
returns-in-ChangeString c = rw c.in-ChangeString.is c.seen_change-in-ChangeString.ensures

pub returns-in-Comment : goal.returns-in-Comment
returns-in-Comment c = rw c.in-Comment.is

pub returns-in-Date : goal.returns-in-Date
returns-in-Date c = rw c.in-Date.is

pub returns-in-Version : goal.returns-in-Version
returns-in-Version c = rw c.in-Version.is

pub returns-in-Timescale : goal.returns-in-Timescale
returns-in-Timescale c = rw c.in-Timescale.is

pub returns-in-ScopeDef : goal.returns-in-ScopeDef
returns-in-ScopeDef c = rw c.in-ScopeDef.is

pub returns-in-Upscope : goal.returns-in-Upscope
returns-in-Upscope c = rw c.in-Upscope.is

pub returns-in-VarDef : goal.returns-in-VarDef
returns-in-VarDef c = rw c.in-VarDef.is

pub returns-in-Enddefinitions : goal.returns-in-Enddefinitions
returns-in-Enddefinitions c = rw c.in-Enddefinitions.is

pub returns-in-Begin : goal.returns-in-Begin
returns-in-Begin c = rw c.in-Begin.is

pub returns-in-End : goal.returns-in-End
returns-in-End c = rw c.in-End.is
