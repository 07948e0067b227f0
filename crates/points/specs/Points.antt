-- Document 01's starred points: what is asked, and what must be answered, in the page's numbers.
use Rattle.scope.specs.declared.ReferenceIndex.{ReferenceIndex}
use Rattle.idcode.specs.declared.InvalidIdCode.{InvalidIdCode}
use Rattle.idcode.specs.declared.IdCode.{IdCode}
use Rattle.std.specs.Prelude.{ℕ, ◌≡◌, List, [], ◌∷◌, map, Option, Some, None, Result, Ok, Err}
use Rattle.idcode.specs.Id.{parse_id, id_text}
use Rattle.scope.specs.Index.{parse_index, index_text}
use Rattle.command.specs.Meaning.{Meaning, remark, comment, change, vector}
use Rattle.command.specs.Refusals.{number_of, id_refusal, index_refusal}
use Rattle.parser.specs.Next.{fresh}
use Rattle.parser.specs.All.{Reading, reads, stops, ends, read_all}
use Rattle.text.specs.Bytes.{bytes}

-- an id text, an index, or a dump that is read from a fresh cursor
pub data Asked : Type 0 where
  an_id : List ℕ → Asked
  an_index : List ℕ → Asked
  a_dump : List ℕ → Asked

-- how reading a dump ends: at its end, or by a refusal's number at a line
pub data Ending : Type 0 where
  done : Ending
  refused : ℕ → ℕ → Ending

-- a code and the text that is written for it; the text that is written for an index; a refusal's number; a dump's commands, and its end
pub data Answer : Type 0 where
  code : ℕ → List ℕ → Answer
  index : List ℕ → Answer
  refusal : ℕ → Answer
  dump : List Meaning → Ending → Answer

abbrev pub id_answer : Result IdCode InvalidIdCode → Answer
id_answer (Ok c) = code c.0 (id_text c.0)
id_answer (Err e) = refusal (number_of (id_refusal e))

abbrev pub index_answer : Option ReferenceIndex → Answer
index_answer (Some x) = index (index_text x)
index_answer None = refusal (number_of index_refusal)

abbrev pub commands_of : Reading → List Meaning
commands_of (reads m r) = m ∷ commands_of r
commands_of (stops e n) = []
commands_of ends = []

abbrev pub ending_of : Reading → Ending
ending_of (reads m r) = ending_of r
ending_of (stops e n) = refused (number_of e) n
ending_of ends = done

abbrev pub dump_answer : Reading → Answer
dump_answer r = dump (commands_of r) (ending_of r)

-- what the definitions answer
abbrev pub answer : Asked → Answer
answer (an_id s) = id_answer (parse_id s)
answer (an_index s) = index_answer (parse_index s)
answer (a_dump s) = dump_answer (read_all s fresh)

-- `!` is 0; `~` is 93; `!"` is 188; `~~` is 8,929; `n999999999` is rewritten the same; `n9999999999` is 18; `[7` is 14;
-- `$end` LF, fresh, is 6 at line 1; `b 1` LF `#100` LF is one vector and no timestamp; `$comment a$end` is `a`; `$upscope $end` ending there is 1
abbrev pub points : List (Asked × Answer)
points =
    (an_id (bytes "!"), code 0 (bytes "!"))
    ∷ (an_id (bytes "~"), code 93 (bytes "~"))
    ∷ (an_id (bytes "!\""), code 188 (bytes "!\""))
    ∷ (an_id (bytes "~~"), code 8929 (bytes "~~"))
    ∷ (an_id (bytes "n999999999"), code 14_478_900_916_529_561_927 (bytes "n999999999"))
    ∷ (an_id (bytes "n9999999999"), refusal 18)
    ∷ (an_index (bytes "[7"), refusal 14)
    ∷ (a_dump (bytes "$end\n"), dump [] (refused 6 1))
    ∷ (a_dump (bytes "b 1\n#100\n"), dump (change (record { 0 = 13_432_320 }) (vector (bytes "1")) ∷ []) done)
    ∷ (a_dump (bytes "$comment a$end"), dump (remark comment (bytes "a") ∷ []) done)
    ∷ (a_dump (bytes "$upscope $end"), dump [] (refused 1 1))
    ∷ []

-- An id is read from its last byte. The byte 127 before eleven `~` is never reached, since ten of these already pass 2^64 - 1 (18); before nine it
-- is (17).
abbrev pub from_the_last : List (Asked × Answer)
from_the_last =
    (an_id (127 ∷ bytes "~~~~~~~~~~~"), refusal 18)
    ∷ (an_id (127 ∷ bytes "~~~~~~~~~"), refusal 17)
    ∷ []

abbrev pub Holds : List (Asked × Answer) → Type 0
Holds ps = map (λ (p : Asked × Answer). (p.0, answer p.0)) ps ≡ ps

abbrev pub Starred : Type 0
Starred = Holds points × Holds from_the_last
