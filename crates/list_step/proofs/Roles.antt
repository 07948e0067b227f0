-- What a listing saw, traced back: the command that was read and what it is to the listing, or how reading ended. Assumes nothing.
use Prim.Native.Nat.{ℕ}
use mathlib.Core.Path.{◌≡◌, refl, sym, subst, ◌∙◌}
use mathlib.Core.Bool.{false, true≢false}
use mathlib.Core.List.{List}
use Rattle.command.specs.declared.Command.{Command}
use Rattle.command.specs.declared.Refusal.{Refusal}
use Rattle.idcode.specs.declared.IdCode.{IdCode}
use Rattle.parser.specs.Next.{is_good, next_from}
use Rattle.parser.specs.declared.Next.{Next}
use Rattle.parser.proofs.Ahead.{valid-good, command-past}
use Rattle.parser.proofs.Stated.{next-bad}
use Rattle.token.specs.Read.{Valid}
use Rattle.token.specs.declared.Cursor.{Cursor}
use Rattle.list_step.specs.Step.{role_of, of_code, step_of, step_from}
use Rattle.list_step.specs.declared.Step.{Step}
use Rattle.list_step.specs.declared.Seen.{Seen}

-- a command that was read from c, up to d, and is r to the listing of the code i
pub record Read (s : List ℕ) (i : IdCode) (c d : Cursor) (r : Seen) : Type 0 where
  pub command : Command
  pub next : next_from s c ≡ Next.Command command d
  pub tells : of_code i (role_of s c command) ≡ r

pub read-valid : (s : List ℕ) (i : IdCode) (c d : Cursor) (r : Seen) → Read s i c d r → Valid s d
read-valid s i c d r h = (command-past s c h.command d h.next).0.valid

abbrev pub Saw : List ℕ → IdCode → Cursor → Step → Type 0
Saw s i c (Step.Time d u) = Read s i c d (Seen.Time u)
Saw s i c (Step.Change d k v) = Read s i c d (Seen.Change k v)
Saw s i c (Step.Other d) = Read s i c d Seen.Other
Saw s i c (Step.Refused d e n) = next_from s c ≡ Next.Refused e n d
Saw s i c (Step.Done d) = next_from s c ≡ Next.Done d

pub saw : (s : List ℕ) (i : IdCode) (c : Cursor) (l r : Step) → l ≡ step_from s i c (next_from s c) → l ≡ r → Saw s i c r
saw s i c l r e q = subst (Saw s i c) (sym e ∙ q) (go (next_from s c) refl)
  where
    of : (k : Command) (d : Cursor) → next_from s c ≡ Next.Command k d → (t : Seen) → of_code i (role_of s c k) ≡ t → Saw s i c (step_of t d)
    of k d n (Seen.Time u) t = record { command = k; next = n; tells = t }
    of k d n (Seen.Change x v) t = record { command = k; next = n; tells = t }
    of k d n Seen.Other t = record { command = k; next = n; tells = t }

    go : (x : Next) → next_from s c ≡ x → Saw s i c (step_from s i c x)
    go (Next.Command k d) n = of k d n (of_code i (role_of s c k)) refl
    go (Next.Refused x line d) n = n
    go (Next.Done d) n = n

-- from a bad cursor nothing is read
pub bad-next : (s : List ℕ) (c : Cursor) → is_good s c ≡ false → next_from s c ≡ Next.Refused Refusal.BadPlace c.line c
bad-next s c e = next-bad s c (λ v. true≢false (sym (valid-good s c v) ∙ e))
