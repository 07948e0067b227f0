-- The turns over the commands join: what one prints, with what is still to come from where it stops, is what was to come; and a turn
-- that prints stops further on. Assumes nothing.
use Rattle.command.specs.Refusals.{Ended}
use Rattle.std.specs.Prelude.{Ok, Err}
use Prim.Native.Nat.{ℕ, ◌+◌, ◌-◌, ◌≤◌, ◌<◌}
use mathlib.Core.Path.{◌≡◌, refl, sym, ap, ◌∙◌}
use mathlib.Core.Bool.{Bool, true, false}
use mathlib.Core.List.{List, ◌++◌, append_assoc}
use native.Mathlib.Omega.{arith}
use borrow.Author.Tests.{le-leb, leb-true}
use lib.Dec.{leb}
use lib.ListN.{length, length-append}
use Rattle.command.specs.Meaning.{Meaning, remark, timescale, scope_def, upscope, var_def, enddefinitions, timestamp, change, begin, end, scalar, vector, real, string, meaning}
use Rattle.command.specs.declared.Refusal.{Refusal}
use Rattle.parser.specs.All.{Commands, command, stop, finish, commands}
use Rattle.rewrite.specs.Rewrite.{Outcome, after as after_bytes, rewritten}
use Rattle.text.proofs.Lists.{by-test}
use Rattle.token.specs.Read.{Valid}
use Rattle.token.specs.declared.Cursor.{Cursor}
use Rattle.write.specs.Layout.{layout, writable, state_after}
use Rattle.write.specs.declared.Writer.{Writer}
use Rattle.reformat_job.specs.Reformat.{Report, ends, refused_at, after, commands_report}
use Rattle.reformat_job.proofs.Reading.{is_no_room, Honest, Sound, later, ahead}

-- stopped for want of room
abbrev pub is_full : Ended → Bool
is_full (Ok tt) = false
is_full (Err (e, n)) = is_no_room e

-- what is left to print after that
abbrev pub last_report : Ended → Report
last_report (Ok tt) = ends true
last_report (Err (e, n)) = refused_at e n

pub after-after : (a b : List ℕ) (r : Report) → after (a ++ b) r ≡ after a (after b r)
after-after a b r = ap (λ (x : List ℕ). record { text = x; whole = r.whole }) (append_assoc a b r.text)

-- what a turn prints, and what it leaves to come: the end, or the rest from its cursor and its state
pub data Joins (s : List ℕ) (room : ℕ) (w : Writer) (cs : Commands) (o : Outcome) : Type 0 where
  over : is_full o.ended ≡ false → after o.bytes (last_report o.ended) ≡ commands_report s room w cs → Joins s room w cs o
  full : is_full o.ended ≡ true → after o.bytes (commands_report s room o.writer (commands s o.cursor)) ≡ commands_report s room w cs
      → Joins s room w cs o

-- a command that is written goes before
before-it : (s : List ℕ) (room : ℕ) (w v : Writer) (cs more : Commands) (b : List ℕ) (o : Outcome)
    → commands_report s room w cs ≡ after b (commands_report s room v more) → Joins s room v more o → Joins s room w cs (after_bytes b o)
before-it s room w v cs more b o e (over f g) = over f (after-after b o.bytes (last_report o.ended) ∙ ap (after b) g ∙ sym e)
before-it s room w v cs more b o e (full f g) =
    full f (after-after b o.bytes (commands_report s room o.writer (commands s o.cursor)) ∙ ap (after b) g ∙ sym e)

-- whatever room is left to a turn, of `room` that is lent
pub joins : (s : List ℕ) (room : ℕ) (cs : Commands) (r : ℕ) (w : Writer) (c : Cursor) → r ≤ room → Honest cs → commands s c ≡ cs
    → Joins s room w cs (rewritten s r w c cs)
unfolding rewritten commands_report
joins s room (finish d) r w c h g e = over refl refl
joins s room (stop x n d) r w c h g e = over g refl
joins s room (command k d more) r w c h g e =
    by-test (writable w m)
    (λ f.
    by-test (leb (length b) r)
    (λ i.
    let short : length b ≤ r = leb-true _ _ i in
    let t : commands_report s room w (command k d more) ≡ after b (commands_report s room (state_after w m) more) = rw (f, le-leb (length b) room (omega arith)) in
    rw (f, i) (before-it s room w (state_after w m) (command k d more) more b (rewritten s (r - length b) (state_after w m) d more) t
    (joins s room more (r - length b) (state_after w m) d (omega arith) g (later s c d k more e))))
    (λ i. rw (f, i) (full refl (ap (commands_report s room w) e))))
    (λ f. let t : commands_report s room w (command k d more) ≡ last_report (Err (Refusal.NotWritable, d.line)) = rw f in
    rw f (over refl (sym t)))
  where
    m : Meaning
    m = meaning s k

    b : List ℕ
    b = layout m

-- ---- every command is a byte long at least, so that a turn that prints none stopped at its first command
layout-some : (m : Meaning) → 0 < length (layout m)
unfolding layout
layout-some (remark k t) = omega arith
layout-some (timescale n u) = omega arith
layout-some (scope_def k t) = omega arith
layout-some upscope = omega arith
layout-some (var_def k n i t x) = omega arith
layout-some enddefinitions = omega arith
layout-some (timestamp n) = omega arith
layout-some (change i (scalar x)) = simp length-append (omega arith)
layout-some (change i (vector v)) = omega arith
layout-some (change i (real t)) = omega arith
layout-some (change i (string t)) = omega arith
layout-some (begin k) = omega arith
layout-some (end k) = omega arith

-- a command that has no room in all that is lent ends it
pub stuck : (s : List ℕ) (room : ℕ) (w : Writer) (c : Cursor) (cs : Commands) → length (rewritten s room w c cs).bytes ≡ 0
    → commands_report s room w cs ≡ last_report (rewritten s room w c cs).ended
unfolding rewritten commands_report
stuck s room w c (finish d) h = refl
stuck s room w c (stop x n d) h = refl
stuck s room w c (command k d more) h =
    by-test (writable w (meaning s k))
    (λ f.
    by-test (leb (length (layout (meaning s k))) room)
    (λ i.
    let l : List ℕ = (rewritten s (room - length (layout (meaning s k))) (state_after w (meaning s k)) d more).bytes in
    let z : length (layout (meaning s k) ++ l) ≡ 0 = rw (f, i) at h in
    absurd (omega (arith, layout-some (meaning s k), length-append (layout (meaning s k)) l)))
    (λ i. rw (f, i)))
    (λ f. rw f)

-- ---- a turn that prints stops further on
abbrev Further : List ℕ → Cursor → Outcome → Type 0
Further s c o = (c.place ≤ o.cursor.place) × (0 < length o.bytes → length s - o.cursor.place < length s - c.place)

pub further : (s : List ℕ) (cs : Commands) (r : ℕ) (w : Writer) (c : Cursor) → Honest cs → commands s c ≡ cs → is_full (rewritten s r w c cs).ended ≡ true
    → Further s c (rewritten s r w c cs)
unfolding rewritten
further s (finish d) r w c g e h = let y : ◌≡◌ {A = ℕ} 0 1 = cc in absurd (omega arith)
further s (stop x n d) r w c g e h = let z : true ≡ false = sym h ∙ g in let y : ◌≡◌ {A = ℕ} 0 1 = cc in absurd (omega arith)
further s (command k d more) r w c g e h =
    by-test (writable w m)
    (λ f.
    by-test (leb (length b) r)
    (λ i.
    let h' : is_full (rewritten s (r - length b) (state_after w m) d more).ended ≡ true = rw (f, i) at h in
    let ih = further s more (r - length b) (state_after w m) d g (later s c d k more e) h' in
    let a = ahead s c d k more e in
    rw (f, i) (omega (arith, ih.0, a.0), λ z. omega (arith, ih.0, a.0, a.1)))
    (λ i. rw (f, i) (omega arith, λ z. absurd (omega arith))))
    (λ f. rw f (omega arith, λ z. absurd (omega arith)))
  where
    m : Meaning
    m = meaning s k

    b : List ℕ
    b = layout m

-- ---- the cursor of a turn may stand in the input, and the line that it ends with is one of the input's
abbrev pub LineIn : List ℕ → Ended → Type 0
LineIn s (Ok tt) = Unit {0}
LineIn s (Err (e, n)) = n ≤ length s + 1

pub line-in : (s : List ℕ) (d : Cursor) → Valid s d → d.line ≤ length s + 1
line-in s d v = omega (arith, v.counted, v.within)

pub stays : (s : List ℕ) (cs : Commands) (r : ℕ) (w : Writer) (c : Cursor) → Valid s c → Sound s cs
    → Valid s (rewritten s r w c cs).cursor × LineIn s (rewritten s r w c cs).ended
unfolding rewritten
stays s (finish d) r w c v x = (x, tt)
stays s (stop e n d) r w c v x = (x.0, rw x.1 (line-in s d x.0))
stays s (command k d more) r w c v x =
    by-test (writable w m)
    (λ f.
    by-test (leb (length b) r)
    (λ i. rw (f, i) (stays s more (r - length b) (state_after w m) d x.0 x.1))
    (λ i. rw (f, i) (v, line-in s d x.0)))
    (λ f. rw f (v, line-in s d x.0))
  where
    m : Meaning
    m = meaning s k

    b : List ℕ
    b = layout m
