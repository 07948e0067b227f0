-- Reading on: the fuel hidden. One command more, a refusal, the end.
use Prim.Native.Nat.{ℕ, zero, suc, ◌-◌, ◌<◌}
use mathlib.Core.Path.{◌≡◌, refl, ap, ◌∙◌}
use mathlib.Core.List.{List}
use native.Mathlib.Omega.{arith}
use lib.ListN.{length}
use Rattle.command.specs.Meaning.{Meaning}
use Rattle.command.specs.declared.Command.{Command}
use Rattle.command.specs.declared.Refusal.{Refusal}
use Rattle.parser.specs.Next.{next_from}
use Rattle.parser.specs.All.{command, followed, commands_on, commands, Said, said, refusal, done, says, Reading, reads, stops, ends, reading, read_all}
use Rattle.token.specs.declared.Cursor.{Cursor}
use Rattle.parser.specs.declared.Next.{Next}
use Rattle.parser.proofs.Ahead.{command-past}

-- a command leaves less to read
pub less-left : (s : List ℕ) (c d : Cursor) (k : Command) → next_from s c ≡ Next.Command k d → length s - d.place < length s - c.place
less-left s c d k q =
    let h = command-past s c k d q in
    omega (arith, h.1, h.0.valid.within)

enough : (k m : ℕ) (s : List ℕ) (c : Cursor) → length s - c.place < k → length s - c.place < m → commands_on k s c ≡ commands_on m s c
unfolding commands_on
enough zero m s c p q = absurd (omega arith)
enough (suc k) zero s c p q = absurd (omega arith)
enough (suc k) (suc m) s c p q = go (next_from s c) refl (λ d. enough k m s d)
  where
    go : (x : Next) → next_from s c ≡ x → ((d : Cursor) → length s - d.place < k → length s - d.place < m → commands_on k s d ≡ commands_on m s d)
        → followed (commands_on k s) x ≡ followed (commands_on m s) x
    go (Next.Command j d) e ih =
        let h = less-left s c d j e in
        ap (command j d) (ih d (omega arith) (omega arith))
    go (Next.Refused r l d) e ih = refl
    go (Next.Done d) e ih = refl

-- the commands from a cursor are the next one and those after it
pub commands-step : (s : List ℕ) (c : Cursor) → commands s c ≡ followed (commands s) (next_from s c)
unfolding commands commands_on
commands-step s c = go (next_from s c) refl
  where
    go : (x : Next) → next_from s c ≡ x → followed (commands_on (length s - c.place) s) x ≡ followed (commands s) x
    go (Next.Command j d) e =
        let h = less-left s c d j e in
        ap (command j d) (enough (length s - c.place) (suc (length s - d.place)) s d (omega arith) (omega arith))
    go (Next.Refused r l d) e = refl
    go (Next.Done d) e = refl

-- what reading on says, by what the next answer says
abbrev pub read_next : (Cursor → Reading) → Said → Reading
read_next more (said m d) = reads m (more d)
read_next more (refusal e n d) = stops e n
read_next more (done d) = ends

reading-followed : (s : List ℕ) (x : Next) → reading s (followed (commands s) x) ≡ read_next (read_all s) (says s x)
unfolding reading read_all
reading-followed s (Next.Command k d) = refl
reading-followed s (Next.Refused r n d) = refl
reading-followed s (Next.Done d) = refl

read_step : (s : List ℕ) (c : Cursor) → read_all s c ≡ read_next (read_all s) (says s (next_from s c))
unfolding read_all
read_step s c = ap (reading s) (commands-step s c) ∙ reading-followed s (next_from s c)

pub read-on : (s : List ℕ) (c d : Cursor) (m : Meaning) → says s (next_from s c) ≡ said m d → read_all s c ≡ reads m (read_all s d)
read-on s c d m e = read_step s c ∙ ap (read_next (read_all s)) e

pub read-stop : (s : List ℕ) (c d : Cursor) (r : Refusal) (n : ℕ) → says s (next_from s c) ≡ refusal r n d → read_all s c ≡ stops r n
read-stop s c d r n e = read_step s c ∙ ap (read_next (read_all s)) e

pub read-end : (s : List ℕ) (c d : Cursor) → says s (next_from s c) ≡ done d → read_all s c ≡ ends
read-end s c d e = read_step s c ∙ ap (read_next (read_all s)) e
