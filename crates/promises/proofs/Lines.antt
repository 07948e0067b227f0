-- The line that a refusal of reading role_in is that of the cursor it returns. Assumes nothing.
use Rattle.token.specs.Read.{Reading}
use Rattle.std.specs.Prelude.{Ok, Err}
use Rattle.command.specs.declared.Command.{Command}
use Prim.Native.Nat.{ℕ}
use mathlib.Core.Path.{◌≡◌, refl}
use mathlib.Core.List.{List}
use lib.Dec.{ltb}
use lib.ListN.{length, get_or}
use Rattle.parser.specs.Next.{is_good, next_of, found, next_from}
use Rattle.parser_part.specs.Plan.{run, kind_of, kind_plan}
use Rattle.parser.specs.declared.Next.{Next}
use Rattle.text.proofs.Lists.{by-test}
use Rattle.token.specs.Read.{byte_read, skipped}
use Rattle.token.specs.declared.Cursor.{Cursor}
use Rattle.promises.specs.Stated.{RefusalLine}

-- what an answer role_in of its line
abbrev Lined : Next → Type 0
Lined (Next.Command k d) = Unit {0}
Lined (Next.Refused e n d) = n ≡ d.line
Lined (Next.Done d) = Unit {0}

told-lined : (r : Reading Command) → Lined (next_of r)
told-lined (Ok (k, d)) = tt
told-lined (Err (e, d)) = refl

found-lined : (s : List ℕ) (c : Cursor) → Lined (found s c)
unfolding found
found-lined s c =
    by-test (ltb c.place (length s))
    (λ e. rw e (told-lined (run (kind_plan (kind_of (get_or s c.place 0))) s (byte_read c (get_or s c.place 0)))))
    (λ e. rw e tt)

next-lined : (s : List ℕ) (c : Cursor) → Lined (next_from s c)
unfolding next_from
next-lined s c = by-test (is_good s c) (λ e. rw e (found-lined s (skipped s c))) (λ e. rw e refl)

pub refusal-line : RefusalLine
refusal-line s c e n d h = rw h at (next-lined s c)
