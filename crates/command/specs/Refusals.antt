-- The page's number of each refusal.
use Rattle.std.specs.Prelude.{Result, ℕ}
use Rattle.idcode.specs.declared.InvalidIdCode.{InvalidIdCode}
use Rattle.command.specs.declared.Refusal.{Refusal}

-- how reading many commands ends: as it should, or by a refusal and the line of it
abbrev pub Ended : Type 0
Ended = Result (Unit {0}) (Refusal × ℕ)

abbrev pub number_of : Refusal → ℕ
number_of Refusal.UnexpectedEof = 1
number_of Refusal.InvalidUtf8 = 2
number_of Refusal.UnexpectedCharacter = 3
number_of Refusal.TokenTooLong = 4
number_of Refusal.ExpectedEndCommand = 5
number_of Refusal.UnmatchedEnd = 6
number_of Refusal.UnknownCommand = 7
number_of Refusal.UnexpectedHeaderCommand = 8
number_of Refusal.ParseIntError = 9
number_of Refusal.ParseFloatError = 10
number_of Refusal.InvalidTimescaleUnit = 11
number_of Refusal.InvalidScopeType = 12
number_of Refusal.InvalidVarType = 13
number_of Refusal.InvalidReferenceIndex = 14
number_of Refusal.InvalidValueChar = 15
number_of Refusal.IdEmpty = 16
number_of Refusal.IdInvalidChars = 17
number_of Refusal.IdTooLong = 18
number_of Refusal.TooDeep = 19
number_of Refusal.TableFull = 20
number_of Refusal.NoRoom = 21
number_of Refusal.NotWritable = 22
number_of Refusal.BadTable = 23
number_of Refusal.ListFull = 24
number_of Refusal.BadPlace = 25

-- The refusal of a text that a leaf does not take: as an id, as a unit of time, as a type of a scope or of a variable, as an index.
abbrev pub id_refusal : InvalidIdCode → Refusal
id_refusal InvalidIdCode.Empty = Refusal.IdEmpty
id_refusal InvalidIdCode.InvalidChars = Refusal.IdInvalidChars
id_refusal InvalidIdCode.TooLong = Refusal.IdTooLong

abbrev pub unit_refusal : Refusal
unit_refusal = Refusal.InvalidTimescaleUnit

abbrev pub scope_type_refusal : Refusal
scope_type_refusal = Refusal.InvalidScopeType

abbrev pub var_type_refusal : Refusal
var_type_refusal = Refusal.InvalidVarType

abbrev pub index_refusal : Refusal
index_refusal = Refusal.InvalidReferenceIndex
