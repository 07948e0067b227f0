-- A hit of the fast path over a variable's definition, and what its parts do.
use Rattle.std.specs.Prelude.{◌≡◌, ℕ, ◌+◌, ◌%◌, ◌^◌, ◌<◌, ◌≤◌, true, cond, List, length, drop, ◌==◌, slice_index, slice_index_or, slice_range, Option, Some, None, Ok}
use Prim.Native.String.{String}
use Rattle.text.specs.Bytes.{bytes, starts}
use Rattle.command.specs.Words.{end_mark, word_name}
use Rattle.utf8.specs.Utf8.{valid_utf8}
use Rattle.text.specs.declared.Text.{Text}
use Rattle.number.specs.Decimal.{all_digits, value}
use Rattle.idcode.specs.declared.IdCode.{IdCode}
use Rattle.scope.specs.Index.{parse_index}
use Rattle.scope.specs.Types.{parse_var_type, var_name}
use Rattle.scope.specs.declared.ReferenceIndex.{ReferenceIndex}
use Rattle.scope.specs.declared.Var.{Var}
use Rattle.scope.specs.declared.VarType.{VarType}
use Rattle.command.specs.declared.Command.{Command}
use Rattle.command.specs.declared.Word.{Word}
use Rattle.token.specs.Flat.{word_read}
use Rattle.token.specs.Read.{Valid, word}
use Rattle.token.specs.declared.Cursor.{Cursor}
use Rattle.parser_part.specs.Plan.{Plan, run, var_def}
use Rattle.parser_part.specs.FastWord.{Whole}
use Rattle.fast.specs.Fast.{Reads}

-- the definition that reading from there gives
abbrev pub HitsVar : List ℕ → ℕ → Option (Var × ℕ) → Type 0
HitsVar s at (Some (v, e)) = Reads s at e (var_def v v.index)
HitsVar s at None = Unit {0}

-- ---- places
-- only spaces stand from `at` up to e
pub record Gap (s : List ℕ) (at e : ℕ) : Type 0 where
  pub past : at ≤ e
  pub inside : e ≤ length s
  pub spaces : (i : ℕ) → at ≤ i → i < e → slice_index s i ≡ 32

-- the word that starts at `at` is UTF-8 and ends before e, where a space stands
pub record Worded (s : List ℕ) (at e : ℕ) : Type 0 where
  pub some : at < e
  pub inside : e < length s
  pub long : at + length (word (drop at s)) ≡ e
  pub ended : slice_index_or s e 0 ≡ 32
  pub text : valid_utf8 (word (drop at s)) ≡ true

abbrev pub Four : List ℕ → ℕ → ℕ → ℕ → ℕ → ℕ → Type 0
Four s at a b c d = (slice_index s at ≡ a) × (slice_index s (at + 1) ≡ b) × (slice_index s (at + 2) ≡ c) × (slice_index s (at + 3) ≡ d)

-- the word w stands at `at`, and a space after it
abbrev pub Names : List ℕ → ℕ → String → Type 0
Names s at w = Worded s at (at + length (bytes w)) × (word (drop at s) ≡ bytes w)

-- `$var` and a space
abbrev pub Begins : List ℕ → ℕ → Type 0
Begins s at = (slice_index s at ≡ 36) × Names s (at + 1) (word_name Word.Var)

-- `$end` and a blank
abbrev pub Ends : List ℕ → ℕ → Type 0
Ends s at = Whole s at (at + 4) × (word (drop at s) ≡ end_mark)

-- `wire` or `reg`, as the first byte is odd or even, and a space
abbrev pub Usual : List ℕ → ℕ → Type 0
Usual s at = cond (slice_index s at % 2 == 1) (Names s at (var_name VarType.Wire)) (Names s at (var_name VarType.Reg))

-- ---- parts
-- a type within the limit
abbrev pub HitsType : List ℕ → ℕ → Option (VarType × ℕ) → Type 0
HitsType s at (Some (k, e)) = Worded s at e × (e ≤ at + 32) × (parse_var_type (word (drop at s)) ≡ Some k)
HitsType s at None = Unit {0}

-- digits up to e that mean v
pub record Number (s : List ℕ) (at e v : ℕ) : Type 0 where
  pub some : at < e
  pub inside : e < length s
  pub few : e ≤ at + 9
  pub small : v < 10 ^ 9
  pub digits : all_digits (slice_range s at e) ≡ true
  pub means : value 0 (slice_range s at e) ≡ v

abbrev pub Digits : List ℕ → ℕ → Option (ℕ × ℕ) → Type 0
Digits s at (Some (v, e)) = Number s at e v
Digits s at None = Unit {0}

-- `]` and a space
abbrev pub Closed : List ℕ → ℕ → Type 0
Closed s at = (at + 1 < length s) × (slice_index s at ≡ 93) × (slice_index s (at + 1) ≡ 32)

-- `[`, a number, and a colon
abbrev pub RangeAt : List ℕ → ℕ → ℕ → ℕ → Type 0
RangeAt s at colon a = (slice_index s at ≡ 91) × Number s (at + 1) colon a × (slice_index s colon ≡ 58)

-- an index within the limit
abbrev pub IndexAt : List ℕ → ℕ → Option (ReferenceIndex × ℕ) → Type 0
IndexAt s at (Some (x, e)) =
    Worded s at e × (e ≤ at + 32) × (starts (bytes "[") (word (drop at s)) ≡ true)
    × (parse_index (word (drop at s)) ≡ Some x)
IndexAt s at None = Unit {0}

abbrev pub variable : VarType → ℕ → IdCode → Text → ReferenceIndex → Var
variable k n i t x = record { var_type = k; size = n; code = i; reference = t; index = x }

-- ---- the rest of a plan
-- from every valid cursor at `at` the plan p reads the command k, no newline in it, up to the blank at e
pub record Carries (s : List ℕ) (at e : ℕ) (p : Plan) (k : Command) : Type 0 where
  pub past : at < e
  pub inside : e < length s
  pub reads : (c : Cursor) → Valid s c → c.place ≡ at → run p s c ≡ Ok (k, word_read c e (slice_index s e))

abbrev pub Goes : List ℕ → ℕ → Plan → Option (Var × ℕ) → Type 0
Goes s at p (Some (v, e)) = Carries s at e p (var_def v v.index)
Goes s at p None = Unit {0}
