-- Reading: the cursor after bytes are read, and what a token and a text are.
use Rattle.text.specs.declared.Text.{Text}
use Rattle.std.specs.Prelude.{ℕ, suc, ◌+◌, ◌≤◌, Bool, true, false, cond, List, [], ◌∷◌, eqb, ltb, length, take, drop, Result, Ok, Err}
use Rattle.text.specs.Bytes.{is_blank, starts, up_to}
use Rattle.command.specs.Words.{end_mark}
use Rattle.value.specs.Values.{is_value}
use Rattle.command.specs.declared.Refusal.{Refusal}
use Rattle.token.specs.declared.Cursor.{Cursor}
use Rattle.text.specs.Texts.{limit}

-- what was read and the cursor after it; or why not, and the cursor just after the last byte read
abbrev pub Reading : Type 0 → Type 0
Reading A = Result (A × Cursor) (Refusal × Cursor)

abbrev pub bit : Bool → ℕ
bit true = 1
bit false = 0

-- a cursor that may stand in the input s
pub record Valid (s : List ℕ) (c : Cursor) : Type 0 where
  pub short : length s ≤ limit
  pub within : c.place ≤ length s
  pub started : 1 ≤ c.line
  pub counted : c.line + bit c.pending ≤ c.place + 1

-- the line that the next read is on: it rises at the read after a newline
abbrev pub next_line : Cursor → ℕ
next_line c = c.line + bit c.pending

-- the cursor after the byte b was read
unfoldable pub byte_read : Cursor → ℕ → Cursor
byte_read c b = record { place = c.place + 1; line = next_line c; pending = eqb b 10; sim = c.sim }

-- the cursor after a read that found the end
unfoldable pub end_read : Cursor → Cursor
end_read c = record { place = c.place; line = next_line c; pending = false; sim = c.sim }

-- the cursor after some bytes were read
unfoldable pub after : List ℕ → Cursor → Cursor
after [] c = c
after (b ∷ r) c = after r (byte_read c b)

-- what is left to read
abbrev pub rest : List ℕ → Cursor → List ℕ
rest s c = drop c.place s

-- the blanks and the non-blanks that a list begins with
unfoldable pub gap : List ℕ → List ℕ
gap [] = []
gap (b ∷ r) = cond (is_blank b) (b ∷ gap r) []

unfoldable pub word : List ℕ → List ℕ
word [] = []
word (b ∷ r) = cond (is_blank b) [] (b ∷ word r)

-- the cursor after the blanks
unfoldable pub skipped : List ℕ → Cursor → Cursor
skipped s c = after (gap (rest s c)) c

-- what is judged of a token as each byte is read: that there are not too many, that each is a vector's value, or nothing
pub data Bound : Type 0 where
  most : ℕ → Bound
  values : Bound
  unlimited : Bound

-- how many values a list begins with
unfoldable pub values_in : List ℕ → ℕ
values_in [] = 0
values_in (b ∷ r) = cond (is_value b) (suc (values_in r)) 0

-- how many bytes of a word pass before one is refused, and how it is refused
abbrev pub passed : Bound → List ℕ → ℕ
passed (most n) w = n
passed values w = values_in w
passed unlimited w = length w

abbrev pub beyond : Bound → Refusal
beyond (most n) = Refusal.TokenTooLong
beyond values = Refusal.InvalidValueChar
beyond unlimited = Refusal.TokenTooLong

-- the word w that starts here, where r is left to read. It is refused at the first byte that does not pass;
-- a word that the input's end ends is refused; else the blank after it is read too.
unfoldable pub word_token : List ℕ → List ℕ → Cursor → Bound → Reading Text
word_token w r c n =
    cond (ltb (passed n w) (length w)) (Err (beyond n, after (take (passed n w + 1) w) c))
    (cond (eqb (length w) (length r)) (Err (Refusal.UnexpectedEof, end_read (after w c)))
    (Ok (record { start = c.place; len = length w }, after (take (length w + 1) r) c)))

unfoldable pub word_here : List ℕ → Cursor → Bound → Reading Text
word_here s c n = word_token (word (rest s c)) (rest s c) c n

-- a token: the blanks before it are skipped
unfoldable pub token : List ℕ → Cursor → Bound → Reading Text
token s c n = word_here s (skipped s c) n

-- a text l up to the first `$end`, where r is left to read after it; the mark is read too
unfoldable pub text_to : List ℕ → List ℕ → Cursor → Reading Text
text_to l r c =
    cond (starts end_mark r) (Ok (record { start = c.place; len = length l }, after end_mark (after l c)))
    (Err (Refusal.UnexpectedEof, end_read (after l c)))

unfoldable pub text_from : List ℕ → Cursor → Reading Text
text_from s c = let l = up_to end_mark (rest s c) in text_to l (drop (length l) (rest s c)) c
