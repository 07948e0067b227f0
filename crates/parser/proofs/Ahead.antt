-- Reading only goes ahead, once for every plan: an answer's cursor is valid and not before the one that was given, and a command's is past it.
use Rattle.std.specs.Prelude.{Option, Some, None, Ok, Err}
use Rattle.command.specs.declared.SimulationCommand.{SimulationCommand}
use Prim.Native.Nat.{ℕ, ◌<◌}
use mathlib.Core.Path.{◌≡◌}
use mathlib.Core.Bool.{true}
use mathlib.Core.List.{List}
use native.Mathlib.Omega.{arith}
use borrow.Author.Tests.{ltb-true, leb-true, le-leb}
use lib.Dec.{ltb}
use lib.ListN.{length, get_or}
use Rattle.text.specs.Texts.{part}
use Rattle.text.specs.declared.Text.{Text}
use Rattle.command.specs.declared.Command.{Command}
use Rattle.text.proofs.Lists.{by-test, both}
use Rattle.token.specs.Read.{Reading, Valid, byte_read, skipped, token, text_from}
use Rattle.parser_part.specs.Plan.{Plan, answer, begins, ends, ended, refuse, a_token, a_text, with_open, and_then, run, kind_of, kind_plan}
use Rattle.parser.specs.Next.{is_good, next_of, found, next_from}
use Rattle.token.specs.declared.Cursor.{Cursor}
use Rattle.parser.specs.declared.Next.{Next}
use Rattle.token.proofs.Reading.{From, from_end, from_step, from-trans, place-step}
use Rattle.token.proofs.Tokens.{Kept, skipped-from, token-kept, text-kept}

-- ---- good cursors
pub good-valid : (s : List ℕ) (c : Cursor) → is_good s c ≡ true → Valid s c
unfolding is_good
good-valid s c e =
    let x = both _ _ e in
    let y = both _ _ x.0 in
    let z = both _ _ y.0 in
    record { short = leb-true _ _ z.0; within = leb-true _ _ z.1; started = leb-true _ _ y.1; counted = leb-true _ _ x.1 }

pub valid-good : (s : List ℕ) (c : Cursor) → Valid s c → is_good s c ≡ true
unfolding is_good
valid-good s c v = rw (le-leb _ _ v.short, le-leb _ _ v.within, le-leb _ _ v.started, le-leb _ _ v.counted)

-- what holds of each kind of answer
abbrev pub NextFrom : List ℕ → Cursor → Next → Type 0
NextFrom s c (Next.Command k d) = From s c d
NextFrom s c (Next.Refused e n d) = From s c d
NextFrom s c (Next.Done d) = From s c d

next-trans : (s : List ℕ) (c d : Cursor) (k : Next) → From s c d → NextFrom s d k → NextFrom s c k
next-trans s c d (Next.Command k e) f g = from-trans s c d e f g
next-trans s c d (Next.Refused x n e) f g = from-trans s c d e f g
next-trans s c d (Next.Done e) f g = from-trans s c d e f g

pub valid-open : (s : List ℕ) (c : Cursor) (o : Option SimulationCommand) → Valid s c → Valid s (with_open c o)
valid-open s c o v = record { short = v.short; within = v.within; started = v.started; counted = v.counted }

then-from : (s : List ℕ) (c : Cursor) (more : Text → Cursor → Reading Command) (k : Reading Text) → Kept s c k → ((t : Text) (d : Cursor) → Valid s d → NextFrom s d (next_of (more t d)))
    → NextFrom s c (next_of (and_then more k))
then-from s c more (Ok (t, d)) f g = next-trans s c d (next_of (more t d)) f.0 (g t d f.0.valid)
then-from s c more (Err (e, d)) f g = f

ended-from : (o : Option SimulationCommand) (s : List ℕ) (c : Cursor) → Valid s c → NextFrom s c (next_of (ended o c))
ended-from None s c v = record { valid = v; ahead = omega arith }
ended-from (Some k) s c v = record { valid = valid-open s c None v; ahead = omega arith }

pub run-from : (p : Plan) (s : List ℕ) (c : Cursor) → Valid s c → NextFrom s c (next_of (run p s c))
unfolding run
run-from (answer k) s c v = record { valid = v; ahead = omega arith }
run-from (begins k) s c v = record { valid = valid-open s c (Some k) v; ahead = omega arith }
run-from ends s c v = ended-from c.sim s c v
run-from (refuse e) s c v = record { valid = v; ahead = omega arith }
run-from (a_token n f) s c v = then-from s c _ (token s c n) (token-kept s c n v) (λ t d w. run-from (f t (part s t)) s d w)
run-from (a_text f) s c v = then-from s c _ (text_from s c) (text-kept s c v) (λ t d w. run-from (f t (part s t)) s d w)

-- a command's cursor is past the cursor that was given
abbrev pub Past : List ℕ → Cursor → Next → Type 0
Past s c (Next.Command k d) = From s c d × (c.place < d.place)
Past s c (Next.Refused e n d) = From s c d
Past s c (Next.Done d) = From s c d

past : (s : List ℕ) (c b : Cursor) (k : Next) → From s c b → c.place < b.place → NextFrom s b k → Past s c k
past s c b (Next.Command k d) f h g = (from-trans s c b d f g, omega (arith, g.ahead))
past s c b (Next.Refused e n d) f h g = from-trans s c b d f g
past s c b (Next.Done d) f h g = from-trans s c b d f g

found-past : (s : List ℕ) (c d : Cursor) → From s c d → Past s c (found s d)
unfolding found
found-past s c d f =
    by-test (ltb d.place (length s))
    (λ e.
    let h : d.place < length s = ltb-true _ _ e in
    let b : ℕ = get_or s d.place 0 in
    let g = from_step s d b f.valid h in
    rw e (past s c (byte_read d b) (next_of (run (kind_plan (kind_of b)) s (byte_read d b))) (from-trans s c d (byte_read d b) f g) (omega (arith, f.ahead, place-step d b)) (run-from (kind_plan (kind_of b)) s (byte_read d b) g.valid)))
    (λ e. rw e (from_end s c d f))

pub next_past : (s : List ℕ) (c : Cursor) → Valid s c → Past s c (next_from s c)
unfolding next_from
next_past s c v = rw (valid-good s c v) (found-past s c (skipped s c) (skipped-from s c v))

-- a bad cursor reads no command
pub command-past : (s : List ℕ) (c : Cursor) (k : Command) (d : Cursor) → next_from s c ≡ Next.Command k d → From s c d × (c.place < d.place)
unfolding next_from
command-past s c k d e =
    by-test (is_good s c) (λ g. rw e at (next_past s c (good-valid s c g)))
    (λ g.
    let f = rw g at e in
    let z : ◌≡◌ {A = ℕ} 0 1 = cc in
    absurd (omega arith))
