-- What the code's parts of a command answer: a token that is UTF-8, a number, an id, the closing. Proved to be the plans' own.
use Rattle.std.specs.Prelude.{ℕ, cond, List, Option, Some, None, Result, Ok, Err}
use Rattle.text.specs.Bytes.{equal}
use Rattle.command.specs.Refusals.{id_refusal}
use Rattle.command.specs.Words.{end_mark}
use Rattle.text.specs.Texts.{part}
use Rattle.text.specs.declared.Text.{Text}
use Rattle.utf8.specs.Utf8.{valid_utf8}
use Rattle.number.specs.Decimal.{parse_below}
use Rattle.idcode.specs.Id.{parse_id}
use Rattle.idcode.specs.declared.InvalidIdCode.{InvalidIdCode}
use Rattle.idcode.specs.declared.IdCode.{IdCode}
use Rattle.command.specs.declared.Command.{Command}
use Rattle.command.specs.declared.Refusal.{Refusal}
use Rattle.token.specs.Read.{Reading, Bound, most, token}
use Rattle.token.specs.declared.Cursor.{Cursor}
use Rattle.parser_part.specs.Plan.{refused, trimmed_in}

-- a token that must be UTF-8
abbrev pub judged : List ℕ → Reading Text → Reading Text
judged s (Ok (t, d)) = cond (valid_utf8 (part s t)) (Ok (t, d)) (Err (Refusal.InvalidUtf8, d))
judged s (Err (e, d)) = Err (e, d)

unfoldable pub word_from : List ℕ → Cursor → Bound → Reading Text
word_from s c n = judged s (token s c n)

abbrev pub number_at : Option ℕ → Cursor → Reading ℕ
number_at (Some v) d = Ok (v, d)
number_at None d = Err (Refusal.ParseIntError, d)

abbrev pub number_of_token : List ℕ → ℕ → Reading Text → Reading ℕ
number_of_token s limit (Ok (t, d)) = number_at (parse_below limit (part s t)) d
number_of_token s limit (Err (e, d)) = Err (e, d)

unfoldable pub number_from : List ℕ → Cursor → ℕ → Reading ℕ
number_from s c limit = number_of_token s limit (word_from s c (most 32))

abbrev pub id_at : Result IdCode InvalidIdCode → Cursor → Reading IdCode
id_at (Ok i) d = Ok (i, d)
id_at (Err e) d = Err (id_refusal e, d)

abbrev pub id_of_token : List ℕ → Reading Text → Reading IdCode
id_of_token s (Ok (t, d)) = id_at (parse_id (part s t)) d
id_of_token s (Err (e, d)) = Err (e, d)

unfoldable pub id_from : List ℕ → Cursor → Reading IdCode
id_from s c = id_of_token s (word_from s c (most 32))

-- a text up to `$end`, which must be UTF-8, without the White_Space round it
abbrev pub trimmed_from : List ℕ → Reading Text → Reading Text
trimmed_from s (Ok (t, d)) = cond (valid_utf8 (part s t)) (Ok (trimmed_in t (part s t), d)) (Err (Refusal.InvalidUtf8, d))
trimmed_from s (Err (e, d)) = Err (e, d)

-- the last token, just read
abbrev pub last_at : Cursor → Command → List ℕ → Reading Command
last_at d k w = cond (equal w end_mark) (Ok (k, d)) (refused Refusal.ExpectedEndCommand d)
