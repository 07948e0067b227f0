-- Texts: places in a buffer, short texts by value, and a text put at the start of a buffer.
use Rattle.std.specs.Prelude.{ℕ, ◌+◌, ◌-◌, Bool, cond, not, ◌&&◌, List, ◌++◌, leb, length, take, drop, replicate, Option, Some, None}
use Rattle.text.specs.declared.Spelled.{Spelled}
use Rattle.text.specs.declared.Text.{Text}

-- does the text lie in the buffer s?
unfoldable pub is_within : List ℕ → Text → Bool
is_within s t = leb (t.start + t.len) (length s)

-- the most bytes that an input has
abbrev pub limit : ℕ
limit = 4294967295

-- an input over the limit
unfoldable pub too_long : List ℕ → Bool
too_long s = not (leb (length s) limit)

-- is the input over the limit, or the text outside it?
unfoldable pub outside : List ℕ → Text → Bool
outside s t = not (leb (length s) limit && is_within s t)

-- the bytes of a text; of one that does not lie in the buffer, those that do
unfoldable pub part : List ℕ → Text → List ℕ
part s t = take t.len (drop t.start s)

-- a text of at most 32 bytes by value: its bytes, then zeros
abbrev pub spelled : List ℕ → Spelled
spelled t = record { bytes = t ++ replicate (32 - length t) 0; len = length t }

-- the text of a row
unfoldable pub text_in : Spelled → List ℕ
text_in t = take t.len t.bytes

-- a text at the start of a buffer: the answer, and the buffer then
unfoldable pub put_answer : List ℕ → List ℕ → Option ℕ
put_answer t out = cond (leb (length t) (length out)) (Some (length t)) None

unfoldable pub put_bytes : List ℕ → List ℕ → List ℕ
put_bytes t out = cond (leb (length t) (length out)) (t ++ drop (length t) out) out
