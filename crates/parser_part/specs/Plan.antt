-- What a command asks to be read, part by part: a plan. Each part is judged before the next is read.
use Rattle.std.specs.Prelude.{ℕ, ◌+◌, ◌^◌, Bool, true, false, cond, List, [], ◌∷◌, ◌++◌, length, drop, nat_lt, Option, Some, None, Result, Ok, Err}
use Prim.Native.String.{String}
use Rattle.text.specs.Bytes.{bytes, equal, has, starts}
use Rattle.text.specs.Texts.{part}
use Rattle.utf8.specs.Utf8.{valid_utf8}
use Rattle.white_space.specs.WhiteSpace.{trimmed}
use Rattle.text.specs.declared.Text.{Text}
use Rattle.number.specs.Decimal.{parse_below}
use Rattle.real.specs.Real.{digits_in, is_real}
use Rattle.value.specs.Values.{values as value_table}
use Rattle.value.specs.declared.Value.{Value}
use Rattle.idcode.specs.Id.{parse_id}
use Rattle.idcode.specs.declared.IdCode.{IdCode}
use Rattle.idcode.specs.declared.InvalidIdCode.{InvalidIdCode}
use Rattle.timescale.specs.Units.{parse_unit}
use Rattle.timescale.specs.declared.TimescaleUnit.{TimescaleUnit}
use Rattle.scope.specs.Types.{parse_scope_type, parse_var_type}
use Rattle.scope.specs.Index.{parse_index}
use Rattle.scope.specs.declared.Var.{Var}
use Rattle.scope.specs.declared.VarType.{VarType}
use Rattle.scope.specs.declared.ReferenceIndex.{ReferenceIndex}
use Rattle.scope.specs.declared.ScopeType.{ScopeType}
use Rattle.command.specs.Meaning.{Remark, comment, date, version}
use Rattle.command.specs.Refusals.{id_refusal, unit_refusal, scope_type_refusal, var_type_refusal, index_refusal}
use Rattle.command.specs.Words.{word_of, end_mark}
use Rattle.command.specs.declared.Command.{Command}
use Rattle.command.specs.declared.Refusal.{Refusal}
use Rattle.command.specs.declared.SimulationCommand.{SimulationCommand}
use Rattle.token.specs.Read.{Reading, Bound, most, values, unlimited, token, text_from}
use Rattle.token.specs.declared.Cursor.{Cursor}
use Rattle.parser_part.specs.declared.Kind.{Kind}
use Rattle.command.specs.declared.Word.{Word}

pub data Plan : Type 0 where
  answer : Command → Plan  -- nothing more: this is the command
  begins : SimulationCommand → Plan  -- a simulation command opens
  ends : Plan  -- the one that is open ends
  refuse : Refusal → Plan
  a_token : Bound → (Text → List ℕ → Plan) → Plan  -- a token so judged as it is read; then on with its place and its bytes
  a_text : (Text → List ℕ → Plan) → Plan  -- the bytes up to the first `$end`, likewise

abbrev pub with_open : Cursor → Option SimulationCommand → Cursor
with_open c o = record { place = c.place; line = c.line; pending = c.pending; sim = o }

-- a refusal, with the cursor after the last byte read
abbrev pub refused : Refusal → Cursor → Reading Command
refused e c = Err (e, c)

-- on with a token's text and the cursor after it
abbrev pub and_then : (Text → Cursor → Reading Command) → Reading Text → Reading Command
and_then more (Ok (t, d)) = more t d
and_then more (Err (e, d)) = refused e d

-- `$end` names the open simulation command and closes it
abbrev pub ended : Option SimulationCommand → Cursor → Reading Command
ended None c = refused Refusal.UnmatchedEnd c
ended (Some k) c = Ok (Command.End k, with_open c None)

-- carrying a plan out
unfoldable pub run : Plan → List ℕ → Cursor → Reading Command
run (answer k) s c = Ok (k, c)
run (begins k) s c = Ok (Command.Begin k, with_open c (Some k))
run ends s c = ended c.sim c
run (refuse e) s c = refused e c
run (a_token n f) s c = and_then (λ t d. run (f t (part s t)) s d) (token s c n)
run (a_text f) s c = and_then (λ t d. run (f t (part s t)) s d) (text_from s c)

-- ---- judging a part
-- a token that must be UTF-8
abbrev pub a_word : Bound → (Text → List ℕ → Plan) → Plan
a_word n f = a_token n (λ t w. cond (valid_utf8 w) (f t w) (refuse Refusal.InvalidUtf8))

abbrev pub numbered : Option ℕ → (ℕ → Plan) → Plan
numbered (Some v) f = f v
numbered None f = refuse Refusal.ParseIntError

-- a number below the limit
abbrev pub a_number : ℕ → (ℕ → Plan) → Plan
a_number limit f = a_word (most 32) (λ t w. numbered (parse_below limit w) f)

abbrev pub identified : Result IdCode InvalidIdCode → (IdCode → Plan) → Plan
identified (Ok i) f = f i
identified (Err e) f = refuse (id_refusal e)

abbrev pub an_id : (IdCode → Plan) → Plan
an_id f = a_word (most 32) (λ t w. identified (parse_id w) f)

-- ---- commands
-- the closing `$end`
abbrev pub closing : Command → Plan
closing k = a_token (most 8) (λ t w. cond (equal w end_mark) (answer k) (refuse Refusal.ExpectedEndCommand))

-- the place of what trimming leaves of a text
abbrev pub trimmed_in : Text → List ℕ → Text
trimmed_in t w = let p = trimmed w in record { start = t.start + p.start; len = p.len }

abbrev pub remark_of : Remark → Text → Command
remark_of comment t = Command.Comment t
remark_of date t = Command.Date t
remark_of version t = Command.Version t

abbrev pub remark : Remark → Plan
remark k = a_text (λ t w. cond (valid_utf8 w) (answer (remark_of k (trimmed_in t w))) (refuse Refusal.InvalidUtf8))

-- a quantity and a unit, as one token or as two
unfoldable pub is_ascii : List ℕ → Bool
is_ascii [] = true
is_ascii (b ∷ r) = cond (nat_lt b 128) (is_ascii r) false

abbrev pub in_unit : ℕ → Option TimescaleUnit → Plan
in_unit n (Some u) = closing (Command.Timescale n u)
in_unit n None = refuse unit_refusal

abbrev pub scaled : List ℕ → List ℕ → Plan
scaled q u = numbered (parse_below (2 ^ 32) q) (λ n. in_unit n (parse_unit u))

abbrev pub unit_in : List ℕ → List ℕ → Plan
unit_in q [] = a_word (most 8) (λ t u. scaled q u)
unit_in q (b ∷ r) = scaled q (b ∷ r)

abbrev pub timescale : Plan
timescale =
    a_word (most 8)
    (λ t w. cond (is_ascii w) (unit_in (digits_in w) (drop (length (digits_in w)) w)) (refuse unit_refusal))

abbrev pub scope_of : Option ScopeType → Plan
scope_of (Some k) = a_word unlimited (λ t w. closing (Command.ScopeDef k t))
scope_of None = refuse scope_type_refusal

abbrev pub scope : Plan
scope = a_word (most 32) (λ t w. scope_of (parse_scope_type w))

-- a variable: its width, its id, its name, and a token that is an index or the last
abbrev pub var_def : Var → ReferenceIndex → Command
var_def v x = Command.VarDef v.var_type v.size v.code v.reference x

abbrev pub last_of : Command → List ℕ → Plan
last_of k e = cond (equal e end_mark) (answer k) (refuse Refusal.ExpectedEndCommand)

abbrev pub indexed : Var → Option ReferenceIndex → Plan
indexed v (Some x) = a_word (most 32) (λ t w. last_of (var_def v x) w)
indexed v None = refuse index_refusal

abbrev pub after_name : Var → List ℕ → Plan
after_name v w = cond (starts (bytes "[") w) (indexed v (parse_index w)) (last_of (var_def v ReferenceIndex.None) w)

abbrev pub var_end : Var → Plan
var_end v = a_word (most 32) (λ t w. after_name v w)

abbrev pub var_name : VarType → ℕ → IdCode → Plan
var_name k n i =
    a_word unlimited
    (λ t w. var_end (record { var_type = k; size = n; code = i; reference = t; index = ReferenceIndex.None }))

abbrev pub var_id : VarType → ℕ → Plan
var_id k n = an_id (λ i. var_name k n i)

abbrev pub var_of : Option VarType → Plan
var_of (Some k) = a_number (2 ^ 32) (λ n. var_id k n)
var_of None = refuse var_type_refusal

abbrev pub var : Plan
var = a_word (most 32) (λ t w. var_of (parse_var_type w))

-- what the word after `$` asks for
abbrev pub word_plan : Word → Plan
word_plan Word.Comment = remark comment
word_plan Word.Date = remark date
word_plan Word.Version = remark version
word_plan Word.Timescale = timescale
word_plan Word.Scope = scope
word_plan Word.Upscope = closing Command.Upscope
word_plan Word.Var = var
word_plan Word.Enddefinitions = closing Command.Enddefinitions
word_plan (Word.Begin k) = begins k
word_plan Word.End = ends
word_plan Word.Unknown = refuse Refusal.UnknownCommand

abbrev pub dollar : Plan
dollar = a_token (most 16) (λ t w. word_plan (word_of w))

abbrev pub timestamp : Plan
timestamp = a_number (2 ^ 64) (λ v. answer (Command.Timestamp (record { 0 = v })))

abbrev pub scalar : Value → Plan
scalar x = an_id (λ i. answer (Command.ChangeScalar i x))

abbrev pub vector : Plan
vector = a_token values (λ t w. an_id (λ i. answer (Command.ChangeVector i t)))

abbrev pub real : Plan
real =
    a_word (most 32)
    (λ t w. cond (is_real w) (an_id (λ i. answer (Command.ChangeReal i t))) (refuse Refusal.ParseFloatError))

abbrev pub string : Plan
string = a_word unlimited (λ t w. an_id (λ i. answer (Command.ChangeString i t)))

-- what the first byte chooses: the row that has it
abbrev pub scalars : List (String × Value) → List (String × Kind)
scalars [] = []
scalars (e ∷ r) = (e.0, Kind.Scalar e.1) ∷ scalars r

abbrev pub kinds : List (String × Kind)
kinds =
    ("$", Kind.Dollar) ∷ ("#", Kind.Hash) ∷ (scalars value_table ++ (("bB", Kind.Vector) ∷ ("rR", Kind.Real) ∷ ("sS", Kind.Text) ∷ []))

abbrev pub kind_in : List (String × Kind) → ℕ → Kind
kind_in [] b = Kind.Other
kind_in (e ∷ r) b = cond (has (bytes e.0) b) e.1 (kind_in r b)

unfoldable pub kind_of : ℕ → Kind
kind_of b = kind_in kinds b

abbrev pub kind_plan : Kind → Plan
kind_plan Kind.Dollar = dollar
kind_plan Kind.Hash = timestamp
kind_plan (Kind.Scalar x) = scalar x
kind_plan Kind.Vector = vector
kind_plan Kind.Real = real
kind_plan Kind.Text = string
kind_plan Kind.Other = refuse Refusal.UnexpectedCharacter
