-- The usual commands, which hit the fast path: they may be written, change no state, and are laid out as `emit` puts them. Assumes nothing.
use Rattle.std.specs.Prelude.{Option, Some, None, Result, Ok, Err}
use Rattle.command.specs.declared.Refusal.{Refusal}
use Prim.Native.Nat.{ℕ, ◌+◌, ◌-◌, ◌^◌, ◌≤◌, ◌<◌}
use mathlib.Core.Path.{◌≡◌, refl, ap, ◌∙◌}
use mathlib.Core.Bool.{true}
use mathlib.Core.List.{List}
use native.Mathlib.Omega.{arith}
use lib.ListN.{length, drop, get_or, length-drop}
use lib.Seq.{length-take-le}
use Rattle.text.specs.Texts.{part, put_answer, put_bytes}
use Rattle.value.specs.Values.{lower}
use Rattle.value.proofs.Values.{lower-byte}
use Rattle.command.specs.Meaning.{meaning}
use Rattle.command.specs.declared.Command.{Command}
use Rattle.parser.specs.declared.Next.{Next}
use Rattle.token.specs.Flat.{word_read}
use Rattle.token.specs.Read.{Valid}
use Rattle.token.specs.declared.Cursor.{Cursor}
use Rattle.fast.specs.Fast.{Reads, ReadsScalar, values_at, ReadsVector}
use Rattle.emit.specs.Put.{time_text, scalar_text, vector_text}
use Rattle.write_check.proofs.Checks.{vector-some}
use Rattle.write.specs.Call.{written, call}
use Rattle.write.specs.Layout.{is_id, layout, writable, state_after}
use Rattle.write.specs.declared.Writer.{Writer}
use Rattle.write.proofs.Ids.{id-some}
use Rattle.write.proofs.Outcomes.{laid_out}
use Rattle.rewrite.specs.Rewrite.{wrote_of, step_of, as_slow, Inside, laid_of}
use Rattle.rewrite.specs.declared.Step.{Step}
use Rattle.rewrite.proofs.Turn.{command-placed, Steps, Answers, command-steps}

known : (i : ℕ) → i < 2 ^ 64 - 1 → is_id (record { 0 = i }) ≡ true
known i h = id-some (record { 0 = i }) (λ q. omega (arith, q))

-- a vector has a value
some : (s : List ℕ) (at stop e i : ℕ) → ReadsVector s at stop e i → length (part s (values_at at stop)) ≡ 0 → ⊥
unfolding part
some s at stop e i x z =
    let h : stop - (at + 1) ≤ length (drop (at + 1) s) = omega (arith, length-drop (at + 1) s, x.before, x.change.inside) in
    omega (arith, length-take-le (stop - (at + 1)) (drop (at + 1) s) h, x.some)

-- ---- the fast path's answers
-- one that the slow path answered
module _ (s o : List ℕ) (c : Cursor) (w : Writer) where
  abbrev Same : Step → Type 0
  Same r = (as_slow s c w r ≡ r) × Inside s r

  wrote-same : (d : Cursor) (x : Result (ℕ × Writer) Refusal) → Same (wrote_of c d x)
  wrote-same d (Ok (n, v)) = (refl, tt)
  wrote-same d (Err e) = (refl, tt)

  step_same : (x : Next) → Same (step_of s c w o x)
  step_same (Next.Command k d) = wrote-same d (call w s k o).answer
  step_same (Next.Refused e line d) = (refl, tt)
  step_same (Next.Done d) = (refl, tt)

-- one that laid out the bytes l, if they had room
abbrev Laid : List ℕ → List ℕ → Option ℕ → List ℕ → Type 0
Laid l o p left = (p ≡ put_answer l o) × (left ≡ put_bytes l o)

module _ (s : List ℕ) (c : Cursor) (w : Writer) (e : ℕ) where
  laid-after : (p : Option ℕ) → as_slow s c w (laid_of c e (get_or s e 0) p) ≡ wrote_of c (word_read c e (get_or s e 0)) (written w p)
  laid-after (Some n) = refl
  laid-after None = refl

  laid-inside : e < length s → (p : Option ℕ) → Inside s (laid_of c e (get_or s e 0) p)
  laid-inside h (Some n) = h
  laid-inside h None = tt

module _ (s o : List ℕ) (c : Cursor) (w : Writer) (v : Valid s c) (e : ℕ) (r : Step) (p : Option ℕ) (left : List ℕ) (q : r ≡ laid_of c e (get_or s e 0) p) where
  -- the command k was read
  steps : (k : Command) → Reads s c.place e k → {l : List ℕ} → Laid l o p left → writable w (meaning s k) ≡ true → w ≡ state_after w (meaning s k)
      → l ≡ layout (meaning s k) → Answers s o c w r left
  unfolding call
  steps k x put may same is =
      let n = x.reads c v refl in
      let y : Steps s o c w (as_slow s c w r) left =
      command-steps s o c w k (word_read c e (get_or s e 0)) n (written w p) (ap (as_slow s c w) q ∙ laid-after s c w e p)
      (laid_out _ _ _ _ _ (command-placed s c (word_read c e (get_or s e 0)) k n) may refl put same is) in
      (y.0, rw q (laid-inside s c w e x.inside p), y.1)

  pub time-steps : (t : ℕ) → Reads s c.place e (Command.Timestamp (record { 0 = t })) → Laid (time_text t) o p left → Answers s o c w r left
  unfolding state_after layout
  time-steps t x put = steps _ x put refl refl refl

  pub scalar-steps : (i : ℕ) → ReadsScalar s c.place e i → Laid (scalar_text (lower (get_or s c.place 0)) i) o p left → Answers s o c w r left
  unfolding state_after layout
  scalar-steps i x put =
      let name = lower-byte (get_or s c.place 0) x.value x.means in
      steps _ x.change put (rw (known i x.id)) refl (rw (name))

  pub vector-steps : (i stop : ℕ) → ReadsVector s c.place stop e i → Laid (vector_text (part s (values_at c.place stop)) i) o p left → Answers s o c w r left
  unfolding state_after layout
  vector-steps i stop x put =
      let t = values_at c.place stop in
      steps _ x.change put (rw (known i x.id, ← vector-some (part s t) (some s c.place stop e i x), x.values)) refl refl
