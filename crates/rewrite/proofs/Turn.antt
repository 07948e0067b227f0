-- Commands rewritten from one cursor to the next: one command, more after it, and how it ends. Assumes nothing.
use Rattle.command.specs.Refusals.{Ended}
use Rattle.std.specs.Prelude.{Result, Ok, Err}
use Prim.Native.Nat.{ℕ, ◌+◌, ◌-◌, ◌≤◌, ◌<◌}
use mathlib.Core.Path.{◌≡◌, refl, sym, ap, ◌∙◌}
use mathlib.Core.Bool.{true, false}
use mathlib.Core.List.{List, [], ◌++◌, append_assoc, append-nil}
use native.Mathlib.Nat.{sub-zero}
use native.Mathlib.Omega.{arith}
use borrow.Author.Tests.{le-leb, leb-true}
use lib.Dec.{leb}
use lib.ListN.{length, take, drop, get_or, length-append, length-drop, take-append-drop, drop_of_length-le}
use lib.Seq.{take_at, drop_at, drop-drop}
use Rattle.text.specs.Texts.{limit, is_within, put_answer, put_bytes, outside}
use Rattle.text.specs.declared.Text.{Text}
use Rattle.text.proofs.Lists.{by-test, take_rest}
use Rattle.command.specs.Meaning.{Meaning, meaning}
use Rattle.command.specs.declared.Command.{Command}
use Rattle.command.specs.declared.Refusal.{Refusal}
use Rattle.token.specs.Flat.{word_read}
use Rattle.token.specs.Read.{Valid}
use Rattle.token.specs.declared.Cursor.{Cursor}
use Rattle.token.proofs.Tokens.{Within}
use Rattle.parser.specs.All.{followed, commands}
use Rattle.parser.specs.Next.{is_good, next_from}
use Rattle.parser.specs.declared.Next.{Next}
use Rattle.parser.proofs.Ahead.{command-past}
use Rattle.parser.proofs.All.{less-left, commands-step}
use Rattle.parser.proofs.Moved.{Inside as Lies}
use Rattle.parser.proofs.Stated.{command-inside}
use Rattle.write.specs.Call.{Does, written, misplaced, call}
use Rattle.write.specs.Layout.{layout, writable, state_after}
use Rattle.write.specs.declared.Writer.{Writer}
use Rattle.text.proofs.Limit.{not-long, outside-else}
use Rattle.write.proofs.Outcomes.{not-writable, laid_out}
use Rattle.rewrite.specs.Rewrite.{Outcome, ends, after, rewritten, rewrite_of, answer_of, filled, wrote_of, step_of, left_by, as_slow, Inside}
use Rattle.rewrite.specs.declared.Step.{Step}

-- ---- a command that was read is not misplaced
module _ (s : List ℕ) (h : length s ≤ limit) where
  within : (t : Text) → Within s t → outside s t ≡ false
  unfolding is_within
  within t w = rw (outside-else s t h, le-leb (t.start + t.len) (length s) w.inside)

  placed : (k : Command) → Lies s k → misplaced s k ≡ false
  placed (Command.Comment t) i = within t i
  placed (Command.Date t) i = within t i
  placed (Command.Version t) i = within t i
  placed (Command.Timescale n u) i = not-long s h
  placed (Command.ScopeDef k t) i = within t i
  placed Command.Upscope i = not-long s h
  placed (Command.VarDef k n x t y) i = within t i
  placed Command.Enddefinitions i = not-long s h
  placed (Command.Timestamp n) i = not-long s h
  placed (Command.ChangeScalar x v) i = not-long s h
  placed (Command.ChangeVector x t) i = within t i
  placed (Command.ChangeReal x t) i = within t i
  placed (Command.ChangeString x t) i = within t i
  placed (Command.Begin k) i = not-long s h
  placed (Command.End k) i = not-long s h

pub command-placed : (s : List ℕ) (c d : Cursor) (k : Command) → next_from s c ≡ Next.Command k d → misplaced s k ≡ false
command-placed s c d k e = placed s (command-past s c k d e).0.valid.short k (command-inside s c e)

-- ---- what is rewritten from a cursor on, into so much room
abbrev pub ahead : List ℕ → ℕ → Writer → Cursor → Outcome
ahead s room w c = rewritten s room w c (commands s c)

module _ (s : List ℕ) (room : ℕ) (w : Writer) (c : Cursor) where
  ahead-next : (x : Next) → next_from s c ≡ x → ahead s room w c ≡ rewritten s room w c (followed (commands s) x)
  ahead-next x e = ap (rewritten s room w c) (commands-step s c ∙ ap (followed (commands s)) e)

  module _ (k : Command) (d : Cursor) (e : next_from s c ≡ Next.Command k d) where
    abbrev it : Meaning
    it = meaning s k

    ahead-bad : writable w it ≡ false → ahead s room w c ≡ ends w c (Err (Refusal.NotWritable, d.line))
    unfolding rewritten
    ahead-bad p = ahead-next _ e ∙ rw p

    ahead-full : writable w it ≡ true → leb (length (layout it)) room ≡ false → ahead s room w c ≡ ends w c (Err (Refusal.NoRoom, d.line))
    unfolding rewritten
    ahead-full p q = ahead-next _ e ∙ rw (p, q)

    ahead-on : writable w it ≡ true → leb (length (layout it)) room ≡ true
        → ahead s room w c ≡ after (layout it) (ahead s (room - length (layout it)) (state_after w it) d)
    unfolding rewritten
    ahead-on p q = ahead-next _ e ∙ rw (p, q)

  ahead-refused : (e : Refusal) (n : ℕ) (d : Cursor) → next_from s c ≡ Next.Refused e n d → ahead s room w c ≡ ends w d (Err (e, n))
  unfolding rewritten
  ahead-refused e n d q = ahead-next _ q

  ahead-done : (d : Cursor) → next_from s c ≡ Next.Done d → ahead s room w c ≡ ends w d (Ok tt)
  unfolding rewritten
  ahead-done d q = ahead-next _ q

-- ---- from the cursor c and the state w, n bytes were written into the output o, which left `out`; then it goes on from d and v
pub record Writes (s o : List ℕ) (c : Cursor) (w : Writer) (out : List ℕ) (n : ℕ) (v : Writer) (d : Cursor) : Type 0 where
  pub bytes : List ℕ
  pub count : length bytes ≡ n
  pub room : n ≤ length o
  pub left : out ≡ filled bytes o
  pub goes : ahead s (length o) w c ≡ after bytes (ahead s (length o - n) v d)
  pub valid : Valid s d

pub writes-none : (s o : List ℕ) (c : Cursor) (w : Writer) → Valid s c → Writes s o c w o 0 w c
writes-none s o c w v = record { bytes = []; count = refl; room = omega arith; left = refl; goes = rw (sub-zero (length o)); valid = v }

-- ---- one command
-- a command that may be written: only the room is in question
may_write : (w : Writer) (s o : List ℕ) (k : Command) → misplaced s k ≡ false → writable w (meaning s k) ≡ true
    → Does (written (state_after w (meaning s k)) (put_answer (layout (meaning s k)) o)) (put_bytes (layout (meaning s k)) o) (call w s k o)
unfolding call
may_write w s o k p q = laid_out _ _ _ _ _ p q refl (refl, refl) refl refl

may-not : (w : Writer) (s o : List ℕ) (k : Command) → misplaced s k ≡ false → writable w (meaning s k) ≡ false
    → Does (Err Refusal.NotWritable) o (call w s k o)
unfolding call
may-not w s o k p q = not-writable _ _ _ _ _ p q

module _ (s o : List ℕ) (c : Cursor) (w : Writer) where
  -- what an answer, and what it left of the output, say of all that is ahead; for a hit, its `as_slow` does
  abbrev Told : Step → List ℕ → Type 0
  Told (Step.Hit e n) left = Unit {0}
  Told (Step.Wrote d n v) left = Writes s o c w left n v d × (length s - d.place < length s - c.place)
  Told (Step.Ends d e) left = (left ≡ o) × (ahead s (length o) w c ≡ ends w d e)

  told-command : (k : Command) (d : Cursor) → next_from s c ≡ Next.Command k d → Told (step_of s c w o (Next.Command k d)) (left_by s w o (Next.Command k d))
  unfolding put_answer put_bytes
  told-command k d e =
      let m : Meaning = meaning s k in
      let p = command-placed s c d k e in
      by-test (writable w m)
      (λ q.
      let x = may_write w s o k p q in
      by-test (leb (length (layout m)) (length o))
      (λ f. rw (← x.answers, ← x.leaves, f) (
        record {
          bytes = layout m;
          count = refl;
          room = leb-true (length (layout m)) (length o) f;
          left = refl;
          goes = ahead-on s (length o) w c k d e q f;
          valid = (command-past s c k d e).0.valid;
        },
        less-left s c d k e,
      ))
      (λ f. rw (← x.answers, ← x.leaves, f) (refl, ahead-full s (length o) w c k d e q f)))
      (λ q.
      let x = may-not w s o k p q in
      rw (← x.answers, ← x.leaves) (refl, ahead-bad s (length o) w c k d e q))

  told : (x : Next) → next_from s c ≡ x → Told (step_of s c w o x) (left_by s w o x)
  told (Next.Command k d) e = told-command k d e
  told (Next.Refused r n d) e = (refl, ahead-refused s (length o) w c r n d e)
  told (Next.Done d) e = (refl, ahead-done s (length o) w c d e)

-- the answer r to what is read next, and what it left of the output o
abbrev pub Steps : List ℕ → List ℕ → Cursor → Writer → Step → List ℕ → Type 0
Steps s o c w r left = (r ≡ step_of s c w o (next_from s c)) × (left ≡ left_by s w o (next_from s c))

-- the answer r of the fast path
abbrev pub Answers : List ℕ → List ℕ → Cursor → Writer → Step → List ℕ → Type 0
Answers s o c w r left = (as_slow s c w r ≡ step_of s c w o (next_from s c)) × Inside s r × (left ≡ left_by s w o (next_from s c))

pub command-steps : (s o : List ℕ) (c : Cursor) (w : Writer) (k : Command) (d : Cursor) → next_from s c ≡ Next.Command k d → {r : Step} {left : List ℕ} (x : Result (ℕ × Writer) Refusal)
    → r ≡ wrote_of c d x → Does x left (call w s k o) → Steps s o c w r left
command-steps s o c w k d e x q y = rw e (q ∙ ap (wrote_of c d) y.answers, y.leaves)

-- ---- more after what was written
after-after : (a b : List ℕ) (x : Outcome) → after a (after b x) ≡ after (a ++ b) x
after-after a b x = rw (append_assoc a b x.bytes)

module _ (s o : List ℕ) (c : Cursor) (w : Writer) (out : List ℕ) (n : ℕ) (v : Writer) (d : Cursor) (x : Writes s o c w out n v d) where
  first-is : take n out ≡ x.bytes
  first-is = ap (take n) x.left ∙ take_at x.bytes (drop (length x.bytes) o) n x.count

  rest-is : drop n out ≡ drop n o
  rest-is = ap (drop n) x.left ∙ drop_at x.bytes (drop (length x.bytes) o) n x.count ∙ ap (λ (i : ℕ). drop i o) x.count

  pub writes-length : length out ≡ length o
  writes-length = ap length x.left ∙ omega (arith, length-append x.bytes (drop (length x.bytes) o), length-drop (length x.bytes) o, x.count, x.room)

  then-writes : {left out' : List ℕ} {m : ℕ} {u : Writer} {e : Cursor} → out' ≡ take n out ++ left → Writes s (drop n o) d v left m u e → Writes s o c w out' (n + m) u e
  then-writes {left} {out'} {m} {u} {e} q y =
      let long : length (x.bytes ++ y.bytes) ≡ length x.bytes + length y.bytes = length-append x.bytes y.bytes in
      let l : length (drop n o) ≡ length o - n = length-drop n o in
      let b : length o - n - m ≡ length o - (n + m) = omega arith in
      record {
        bytes = x.bytes ++ y.bytes;
        count = omega (arith, x.count, y.count);
        room = omega (arith, x.room, y.room);
        left = q ∙ rw (first-is, y.left, long, ← drop-drop (length y.bytes) (length x.bytes) o, x.count) (sym (append_assoc x.bytes y.bytes (drop (length y.bytes) (drop n o))));
        goes = x.goes ∙ ap (after x.bytes) (rw (l, b) at y.goes) ∙ after-after x.bytes y.bytes (ahead s (length o - (n + m)) u e);
        valid = y.valid;
      }

  -- the answer r of the next step, and what it left of the rest of the output
  module _ (r : Step) (left out' : List ℕ) (back : out' ≡ take n out ++ (left ++ drop (length out - n) (drop n out)))
      (does : Answers s (take (length out - n) (drop n out)) d v r left) where
    rest : take (length out - n) (drop n out) ≡ drop n o
    rest = take_rest out n ∙ rest-is

    joined : out' ≡ take n out ++ left
    joined = back ∙ rw (drop_of_length-le (drop n out) {i = length out - n} (omega (arith, length-drop n out)), append-nil left)

    told-next : Told s (drop n o) d v (as_slow s d v r) left
    told-next = let f = rw rest at does in rw (f.0, f.2) (told s (drop n o) d v (next_from s d) refl)

    abbrev GoesOn : Cursor → ℕ → Writer → Type 0
    GoesOn e m u = Writes s o c w out' (n + m) u e × (length s - e.place < length s - d.place)

    pub goes_on : {m : ℕ} {u : Writer} {e : Cursor} → r ≡ Step.Wrote e m u → GoesOn e m u
    goes_on q = let y = rw q at told-next in (then-writes joined y.0, y.1)

    pub goes-hit : {e m : ℕ} → r ≡ Step.Hit e m → GoesOn (word_read d e (get_or s e 0)) m v
    goes-hit q = let y = rw q at told-next in (then-writes joined y.0, y.1)

    ended : {e : Ended} {f : Cursor} → r ≡ Step.Ends f e → rewrite_of s c w o ≡ after x.bytes (ends v f e)
    unfolding rewrite_of
    ended q = let y = rw q at told-next in x.goes ∙ ap (after x.bytes) (rw (length-drop n o) at y.1)

    unchanged : {e : Ended} {f : Cursor} → r ≡ Step.Ends f e → out' ≡ out
    unchanged q = let y = rw q at told-next in joined ∙ rw (y.0, ← rest-is) (take-append-drop n out)

    pub stops : {e : Ended} {f : Cursor} → r ≡ Step.Ends f e
        → (record { cursor = f; writer = v; count = n; ended = e } ≡ answer_of (rewrite_of s c w o)) × (out' ≡ filled (rewrite_of s c w o).bytes o)
    stops q = rw (ended q, append-nil x.bytes) (rw x.count, unchanged q ∙ x.left)

-- ---- a cursor that may not stand in the input
nothing : (s o : List ℕ) (c : Cursor) (w : Writer) → is_good s c ≡ false → rewrite_of s c w o ≡ ends w c (Err (Refusal.BadPlace, c.line))
unfolding rewrite_of next_from
nothing s o c w e = ahead-refused s (length o) w c _ _ _ (rw e)

pub stops-before : (s o : List ℕ) (c : Cursor) (w : Writer) → is_good s c ≡ false
    → (record { cursor = c; writer = w; count = 0; ended = Err (Refusal.BadPlace, c.line) } ≡ answer_of (rewrite_of s c w o))
    × (o ≡ filled (rewrite_of s c w o).bytes o)
stops-before s o c w e = rw (nothing s o c w e) (refl, refl)
