-- What is rewritten, in closed form: of the commands' meanings those that are taken, laid out one after the other. Assumes nothing.
use Prim.Native.Nat.{ℕ, ◌-◌}
use mathlib.Core.Path.{◌≡◌, refl, ap}
use mathlib.Core.List.{List, ◌++◌}
use lib.Dec.{leb}
use lib.ListN.{length}
use Rattle.text.proofs.Lists.{by-test}
use Rattle.command.specs.Meaning.{Meaning, meaning}
use Rattle.token.specs.declared.Cursor.{Cursor}
use Rattle.parser.specs.All.{Commands, command, stop, finish, commands}
use Rattle.write.specs.Layout.{layout, writable, state_after}
use Rattle.write.specs.Run.{layouts, states_after, taken}
use Rattle.write.specs.declared.Writer.{Writer}
use Rattle.rewrite.specs.Rewrite.{Outcome, meanings_in, rewritten, rewrite_of}

-- the bytes and the state of an outcome are those of these meanings, into so much room
abbrev pub Takes : Writer → ℕ → List Meaning → Outcome → Type 0
Takes w room ms x = (x.bytes ≡ layouts (taken w room ms)) × (x.writer ≡ states_after w (taken w room ms))

takes : (s : List ℕ) (room : ℕ) (w : Writer) (c : Cursor) (ks : Commands) → Takes w room (meanings_in s ks) (rewritten s room w c ks)
unfolding rewritten meanings_in taken layouts states_after
takes s room w c (command k d more) =
    let m : Meaning = meaning s k in
    let next = takes s (room - length (layout m)) (state_after w m) d more in
    by-test (writable w m)
    (λ e.
    by-test (leb (length (layout m)) room)
    (λ f. rw (e, f) (ap (λ (l : List ℕ). layout m ++ l) next.0, next.1))
    (λ f. rw (e, f) (refl, refl)))
    (λ e. rw e (refl, refl))
takes s room w c (stop e n d) = (refl, refl)
takes s room w c (finish d) = (refl, refl)

pub rewrite-takes : (s : List ℕ) (c : Cursor) (w : Writer) (o : List ℕ) → Takes w (length o) (meanings_in s (commands s c)) (rewrite_of s c w o)
unfolding rewrite_of
rewrite-takes s c w o = takes s (length o) w c (commands s c)
