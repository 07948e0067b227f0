-- What holds of all commands from a cursor on: no refusal of reading is that of an output without room; each cursor may stand in the
-- input, where the first may, and a refusal's line is its cursor's. Assumes nothing.
use Prim.Native.Nat.{ℕ, zero, suc, ◌≤◌, ◌<◌}
use mathlib.Core.Path.{◌≡◌, refl, sym, ap, ◌∙◌}
use mathlib.Core.Bool.{Bool, true, false, not, ◌&&◌, ◌||◌}
use mathlib.Core.List.{List}
use native.Mathlib.Omega.{arith}
use borrow.Author.Tests.{eqb-true}
use lib.Dec.{eqb, leb}
use lib.ListN.{length}
use Rattle.command.specs.Refusals.{number_of}
use Rattle.command.specs.declared.Command.{Command}
use Rattle.command.specs.declared.Refusal.{Refusal}
use Rattle.parser.specs.All.{Commands, command, stop, finish, followed, commands_on, commands}
use Rattle.parser.specs.Next.{next_from}
use Rattle.parser.proofs.All.{commands-step}
use Rattle.parser.proofs.Ahead.{command-past}
use Rattle.parser.proofs.Ranged.{refusal-reading}
use Rattle.parser.proofs.Stated.{next-valid, refusal-line}
use Rattle.parser.specs.declared.Next.{Next}
use Rattle.text.proofs.Lists.{by-test}
use Rattle.token.specs.Read.{Valid}
use Rattle.token.specs.declared.Cursor.{Cursor}

-- is it that of an output without room?
abbrev pub is_no_room : Refusal → Bool
is_no_room e = eqb (number_of e) (number_of Refusal.NoRoom)

apart : (n : ℕ) → ((leb n 18 || eqb n 25) && (not (eqb n 8) && not (eqb n 16))) ≡ true → eqb n 21 ≡ false
apart n h =
    by-test (eqb n 21)
    (λ q. let e : n ≡ 21 = eqb-true n 21 q in
    let z = rw e at h in
    let y : ◌≡◌ {A = ℕ} 0 1 = cc in absurd (omega arith))
    (λ q. q)

abbrev pub Honest : Commands → Type 0
Honest (command k d more) = Honest more
Honest (stop e n d) = is_no_room e ≡ false
Honest (finish d) = Unit {0}

honest-on : (fuel : ℕ) (s : List ℕ) (c : Cursor) → Honest (commands_on fuel s c)
unfolding commands_on
honest-on zero s c = tt
honest-on (suc fuel) s c = go (next_from s c) refl (honest-on fuel s)
  where
    go : (x : Next) → next_from s c ≡ x → ((d : Cursor) → Honest (commands_on fuel s d)) → Honest (followed (commands_on fuel s) x)
    go (Next.Command k d) q more = more d
    go (Next.Refused e n d) q more = apart (number_of e) (refusal-reading s c q)
    go (Next.Done d) q more = tt

pub honest : (s : List ℕ) (c : Cursor) → Honest (commands s c)
unfolding commands
honest s c = honest-on _ s c

-- ---- lines
abbrev pub Sound : List ℕ → Commands → Type 0
Sound s (command k d more) = Valid s d × Sound s more
Sound s (stop e n d) = Valid s d × (n ≡ d.line)
Sound s (finish d) = Valid s d

sound-on : (fuel : ℕ) (s : List ℕ) (c : Cursor) → Valid s c → Sound s (commands_on fuel s c)
unfolding commands_on
sound-on zero s c v = v
sound-on (suc fuel) s c v = go (next_from s c) refl (sound-on fuel s)
  where
    go : (x : Next) → next_from s c ≡ x → ((d : Cursor) → Valid s d → Sound s (commands_on fuel s d)) → Sound s (followed (commands_on fuel s) x)
    go (Next.Command k d) e more = let w : Valid s d = rw e at (next-valid s c v) in (w, more d w)
    go (Next.Refused r l d) e more = (rw e at (next-valid s c v), refusal-line s c e)
    go (Next.Done d) e more = rw e at (next-valid s c v)

pub sound : (s : List ℕ) (c : Cursor) → Valid s c → Sound s (commands s c)
unfolding commands
sound s c v = sound-on _ s c v

-- ---- what is read after a command is what is read from its cursor on, which is past it
module _ (s : List ℕ) (c d : Cursor) (k : Command) (more : Commands) (e : commands s c ≡ command k d more) where
  by_next : (P : Type 0) → (next_from s c ≡ Next.Command k d → more ≡ commands s d → P) → P
  by_next P p = go (next_from s c) refl
    where
      go : (x : Next) → next_from s c ≡ x → P
      go (Next.Command k' d') q =
          let z : command k d more ≡ command k' d' (commands s d') = sym e ∙ commands-step s c ∙ ap (followed (commands s)) q in
          let ek : k ≡ k' = cc in
          let ed : d ≡ d' = cc in
          p (q ∙ rw (ek, ed)) cc
      go (Next.Refused r n d') q =
          let z : command k d more ≡ stop r n d' = sym e ∙ commands-step s c ∙ ap (followed (commands s)) q in
          let y : ◌≡◌ {A = ℕ} 0 1 = cc in absurd (omega arith)
      go (Next.Done d') q =
          let z : command k d more ≡ finish d' = sym e ∙ commands-step s c ∙ ap (followed (commands s)) q in
          let y : ◌≡◌ {A = ℕ} 0 1 = cc in absurd (omega arith)

  pub later : commands s d ≡ more
  later = by_next (commands s d ≡ more) (λ q r. sym r)

  pub ahead : (c.place < d.place) × (d.place ≤ length s)
  ahead = by_next ((c.place < d.place) × (d.place ≤ length s)) (λ q r. let p = command-past s c k d q in (p.1, p.0.valid.within))
