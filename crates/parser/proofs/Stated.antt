-- What holds of every answer of reading one command, for those who build on it. Assumes nothing.
use Prim.Native.Nat.{ℕ, ◌+◌, ◌≤◌, ◌<◌}
use mathlib.Core.Path.{◌≡◌, refl, ap}
use mathlib.Core.List.{List, ◌++◌}
use native.Mathlib.Omega.{arith}
use borrow.Author.Tests.{lt-ltb, le-ltb, ltb-true, ltb-false}
use lib.Dec.{ltb}
use lib.ListN.{length, get_or, length-append}
use lib.Seq.{get_or-append-add}
use Rattle.text.proofs.Lists.{by-test}
use Rattle.command.specs.declared.Command.{Command}
use Rattle.command.specs.declared.Refusal.{Refusal}
use Rattle.token.specs.Read.{Valid, byte_read, end_read, skipped}
use Rattle.token.specs.declared.Cursor.{Cursor}
use Rattle.token.proofs.Reading.{valid-step}
use Rattle.token.proofs.Tokens.{skipped-valid}
use Rattle.parser_part.specs.Plan.{run, kind_of, kind_plan}
use Rattle.parser.specs.Next.{is_good, next_of, found, next_from}
use Rattle.parser.specs.declared.Next.{Next}
use Rattle.parser.proofs.Ahead.{good-valid, valid-good, Past, next_past, command-past}
use Rattle.parser.proofs.Moved.{moved, moved_next, Inside, Told, kind-same, run-told, byte-moved, end_moved, skipped-moved, run_moved}
use Rattle.text.specs.Texts.{limit}

-- the cursor that an answer hands on
abbrev pub cursor_of : Next → Cursor
cursor_of (Next.Command k d) = d
cursor_of (Next.Refused e n d) = d
cursor_of (Next.Done d) = d

-- what holds of an answer: a command's texts lie in the input, a refusal's line is its cursor's, and Done is at the end
abbrev Tells : List ℕ → Next → Type 0
Tells s (Next.Command k d) = Inside s k
Tells s (Next.Refused e n d) = n ≡ d.line
Tells s (Next.Done d) = d.place ≡ length s

told-tells : (s : List ℕ) (k : Next) → Told s k → Tells s k
told-tells s (Next.Command k d) h = h
told-tells s (Next.Refused e n d) h = h
told-tells s (Next.Done d) h = absurd h

-- an answer stands at a valid cursor, not before the one that was given
past-valid : (s : List ℕ) (c : Cursor) (k : Next) → Past s c k → Valid s (cursor_of k) × (c.place ≤ (cursor_of k).place)
past-valid s c (Next.Command k d) h = (h.0.valid, h.0.ahead)
past-valid s c (Next.Refused e n d) h = (h.valid, h.ahead)
past-valid s c (Next.Done d) h = (h.valid, h.ahead)

-- ---- from a cursor that is not good, and from a good one: the command that begins at the first byte, or the end
by-good : (s : List ℕ) (c : Cursor) (P : Next → Type 0) → (Valid s c → P (next_from s c)) → P (Next.Refused Refusal.BadPlace c.line c) → P (next_from s c)
unfolding next_from
by-good s c P p q = by-test (is_good s c) (λ e. p (good-valid s c e)) (λ e. rw e q)

module _ (s : List ℕ) (c : Cursor) (v : Valid s c) where
  abbrev from : Cursor
  from = skipped s c

  abbrev first : ℕ
  first = get_or s from.place 0

  -- what the first byte asks for
  abbrev asked : Next
  asked = next_of (run (kind_plan (kind_of first)) s (byte_read from first))

  next-first : from.place < length s → next_from s c ≡ asked
  unfolding next_from found
  next-first h = rw (valid-good s c v, lt-ltb _ _ h)

  next-none : length s ≤ from.place → next_from s c ≡ Next.Done (end_read from)
  unfolding next_from found
  next-none h = rw (valid-good s c v, le-ltb _ _ h)

  first-valid : from.place < length s → Valid s (byte_read from first)
  first-valid h = valid-step s from first (skipped-valid s c v) h

  by_first : {A : Type 0} → (from.place < length s → A) → (length s ≤ from.place → A) → A
  by_first p q = by-test (ltb from.place (length s)) (λ e. p (ltb-true _ _ e)) (λ e. q (ltb-false _ _ e))

  -- every cursor that comes out is valid
  pub next-valid : Valid s (cursor_of (next_from s c))
  next-valid = (past-valid s c (next_from s c) (next_past s c v)).0

  valid-tells : Tells s (next_from s c)
  unfolding end_read
  valid-tells =
      by_first (λ h. rw (next-first h) (told-tells s asked (run-told (kind-same 0 s (kind_of first)) (byte_read from first) (first-valid h))))
      (λ h. rw (next-none h) (omega (arith, (skipped-valid s c v).within)))

module _ (s : List ℕ) (c : Cursor) where
  -- a cursor that may not stand in the input is refused, and handed back
  pub next-bad : (Valid s c → ⊥) → next_from s c ≡ Next.Refused Refusal.BadPlace c.line c
  next-bad h = by-good s c (λ k. k ≡ Next.Refused Refusal.BadPlace c.line c) (λ v. absurd (h v)) refl

  -- no answer's cursor is before c, and a command's is past it
  pub next-ahead : c.place ≤ (cursor_of (next_from s c)).place
  next-ahead = by-good s c (λ k. c.place ≤ (cursor_of k).place) (λ v. (past-valid s c (next_from s c) (next_past s c v)).1) (omega arith)

  pub command-ahead : {k : Command} {d : Cursor} → next_from s c ≡ Next.Command k d → c.place < d.place
  command-ahead e = (command-past s c _ _ e).1

  tells : Tells s (next_from s c)
  tells = by-good s c (Tells s) (λ v. valid-tells s c v) refl

  -- Done is at the input's end, and a refusal has its cursor's line
  pub done_end : {d : Cursor} → next_from s c ≡ Next.Done d → d.place ≡ length s
  done_end e = rw e at tells

  pub refusal-line : {r : Refusal} {n : ℕ} {d : Cursor} → next_from s c ≡ Next.Refused r n d → n ≡ d.line
  refusal-line e = rw e at tells

  -- the texts of a command lie in the input
  pub command-inside : {k : Command} {d : Cursor} → next_from s c ≡ Next.Command k d → Inside s k
  command-inside e = rw e at tells

-- bytes that stand before the input do not matter: the answer is the same, so many bytes and lines further on
module _ (pre s : List ℕ) (lines : ℕ) (c : Cursor) (v : Valid s c) where
  pub moved-valid : lines ≤ length pre → length (pre ++ s) ≤ limit → Valid (pre ++ s) (moved (length pre) lines c)
  moved-valid h short =
      let long = length-append pre s in
      record { short = short; within = omega (arith, v.within); started = omega (arith, v.started); counted = omega (arith, v.counted) }

  pub next-moved : Valid (pre ++ s) (moved (length pre) lines c) → next_from (pre ++ s) (moved (length pre) lines c) ≡ moved_next (length pre) lines (next_from s c)
  next-moved u =
      let n : ℕ = length pre in
      let t : List ℕ = pre ++ s in
      let d : Cursor = moved n lines c in
      let f : Cursor = from s c v in
      let b : ℕ = first s c v in
      let long : length t ≡ n + length s = length-append pre s in
      let here : skipped t d ≡ moved n lines f = skipped-moved pre s lines c in
      let at : (skipped t d).place ≡ n + f.place = ap (λ (x : Cursor). x.place) here in
      by_first s c v
      (λ i.
      rw (next-first s c v i, next-first t d u (omega arith), here, get_or-append-add pre s f.place 0, byte-moved pre s lines f b)
      (run_moved pre s lines (kind-same n s (kind_of b)) (byte_read f b) (first-valid s c v i)))
      (λ i. rw (next-none s c v i, next-none t d u (omega arith), here, end_moved pre s lines f))
