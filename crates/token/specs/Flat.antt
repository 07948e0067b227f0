-- How the code reads a word, which has no newline: the cursor moves once. Proved to be the byte-by-byte reading of Read.antt.
use Rattle.std.specs.Prelude.{ℕ, ◌+◌, false, List, eqb, take}
use Rattle.token.specs.Read.{next_line, word, Bound, passed}
use Rattle.token.specs.declared.Cursor.{Cursor}

-- after a word up to `end`, and the byte b after it
unfoldable pub word_read : Cursor → ℕ → ℕ → Cursor
word_read c end b = record { place = end + 1; line = next_line c; pending = eqb b 10; sim = c.sim }

-- after a word up to `end`, where the input ends
unfoldable pub word_end_read : Cursor → ℕ → Cursor
word_end_read c end = record { place = end; line = next_line c; pending = false; sim = c.sim }

-- the bytes that pass of the word that a list begins with
unfoldable pub first_passed : Bound → List ℕ → List ℕ
first_passed n r = take (passed n (word r)) (word r)
