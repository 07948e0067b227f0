-- Reading one command.
use Rattle.std.specs.Prelude.{Ok, Err, ℕ, ◌+◌, Bool, true, false, not, cond, ◌&&◌, List, eqb, ltb, leb, length, get_or, None}
use Rattle.command.specs.Refusals.{number_of}
use Rattle.command.specs.declared.Command.{Command}
use Rattle.command.specs.declared.Refusal.{Refusal}
use Rattle.token.specs.Read.{Reading, bit, byte_read, end_read, skipped}
use Rattle.token.specs.declared.Cursor.{Cursor}
use Rattle.parser_part.specs.Plan.{run, kind_of, kind_plan}
use Rattle.parser.specs.declared.Next.{Next}
use Rattle.text.specs.Texts.{limit}

-- may a cursor stand in the input? (25)
unfoldable pub is_good : List ℕ → Cursor → Bool
is_good s c =
    leb (length s) limit && leb c.place (length s) && leb 1 c.line && leb (c.line + bit c.pending) (c.place + 1)

-- what reading a command tells: a refusal has the line of the last byte read
abbrev pub next_of : Reading Command → Next
next_of (Ok (k, d)) = Next.Command k d
next_of (Err (e, d)) = Next.Refused e d.line d

-- the command that begins here, by its first byte, or Done at the end
unfoldable pub found : List ℕ → Cursor → Next
found s c =
    let b = get_or s c.place 0 in
    cond (ltb c.place (length s)) (next_of (run (kind_plan (kind_of b)) s (byte_read c b))) (Next.Done (end_read c))

unfoldable pub next_from : List ℕ → Cursor → Next
next_from s c = cond (is_good s c) (found s (skipped s c)) (Next.Refused Refusal.BadPlace c.line c)

-- before the first byte
abbrev pub fresh : Cursor
fresh = record { place = 0; line = 1; pending = false; sim = None }

-- does an answer hang on no byte after its cursor? Not Done, and not 1
abbrev pub settled : Next → Bool
settled (Next.Command k d) = true
settled (Next.Refused e n d) = not (eqb (number_of e) 1)
settled (Next.Done d) = false
