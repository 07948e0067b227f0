-- Goals of `record::words_of` that the search leaves.
use Rattle.record.proofs.words_of.Goals as goal

pub returns-in-Comment : goal.returns-in-Comment
returns-in-Comment c = rw c.in-Comment.is c.text_words.ensures

pub returns-in-Date : goal.returns-in-Date
returns-in-Date c = rw c.in-Date.is c.text_words-in-Date.ensures

pub returns-in-Version : goal.returns-in-Version
returns-in-Version c = rw c.in-Version.is c.text_words-in-Version.ensures

pub returns-in-Timescale : goal.returns-in-Timescale
returns-in-Timescale c = rw (c.in-Timescale.is, ← c.number.ensures) c.plain_words.ensures

pub returns-in-ScopeDef : goal.returns-in-ScopeDef
returns-in-ScopeDef c = rw (c.in-ScopeDef.is, ← c.number-in-ScopeDef.ensures) c.text_words-in-ScopeDef.ensures

pub returns-in-Upscope : goal.returns-in-Upscope
returns-in-Upscope c = rw c.in-Upscope.is c.plain_words-in-Upscope.ensures

pub returns-in-VarDef : goal.returns-in-VarDef
returns-in-VarDef c = rw c.in-VarDef.is c.var_words.ensures

pub returns-in-Enddefinitions : goal.returns-in-Enddefinitions
returns-in-Enddefinitions c = rw c.in-Enddefinitions.is c.plain_words-in-Enddefinitions.ensures

pub returns-in-Timestamp : goal.returns-in-Timestamp
returns-in-Timestamp c = rw c.in-Timestamp.is c.timestamp_words.ensures

pub returns-in-ChangeScalar : goal.returns-in-ChangeScalar
returns-in-ChangeScalar c = rw (c.in-ChangeScalar.is, ← c.number-in-ChangeScalar.ensures) c.scalar_words.ensures

pub returns-in-ChangeVector : goal.returns-in-ChangeVector
returns-in-ChangeVector c = rw c.in-ChangeVector.is c.text_words-in-ChangeVector.ensures

pub returns-in-ChangeReal : goal.returns-in-ChangeReal
returns-in-ChangeReal c = rw c.in-ChangeReal.is c.text_words-in-ChangeReal.ensures

pub returns-in-ChangeString : goal.returns-in-ChangeString
returns-in-ChangeString c = rw c.in-ChangeString.is c.text_words-in-ChangeString.ensures

pub returns-in-Begin : goal.returns-in-Begin
returns-in-Begin c = rw (c.in-Begin.is, ← c.number-in-Begin.ensures) c.plain_words-in-Begin.ensures

pub returns-in-End : goal.returns-in-End
returns-in-End c = rw (c.in-End.is, ← c.number-in-End.ensures) c.plain_words-in-End.ensures
