-- Commands written one after the other: one of them, and what comes of all.
use Rattle.std.specs.Prelude.{Result, Ok, Err}
use Prim.Native.Nat.{ℕ, suc, ◌+◌, ◌-◌, ◌≤◌}
use mathlib.Core.Path.{◌≡◌, sym, ap, ◌∙◌}
use mathlib.Core.Bool.{true, false, cond}
use mathlib.Core.List.{List, [], ◌∷◌, ◌++◌, append_assoc, append-nil}
use native.Mathlib.Omega.{arith}
use native.Mathlib.Nat.{add-zero, zero-add, add_assoc, sub-zero}
use borrow.Author.Tests.{eq-eqb, ne_eqb, leb-true, eqb-true, eqb-false}
use lib.Dec.{leb, eqb}
use lib.ListN.{length, take, drop, length-append, length-drop, take-append-drop, drop_of_length-le}
use lib.Seq.{drop-drop}
use Rattle.command.specs.Meaning.{Meaning, meaning}
use Rattle.command.specs.declared.Command.{Command}
use Rattle.command.specs.declared.Refusal.{Refusal}
use Rattle.text.specs.Texts.{put_answer, put_bytes}
use Rattle.text.proofs.Lists.{by-test, take_rest}
use Rattle.write.specs.Call.{call, outcome, misplaced, Does}
use Rattle.write.specs.Layout.{layout, writable, state_after}
use Rattle.emit.specs.Put.{stored}
use Rattle.write.specs.Run.{layouts, states_after, taken}
use Rattle.write.specs.declared.Writer.{Writer}
use Rattle.emit.proofs.Storing.{stored-none, stored-length, stored_next}
use Rattle.write_header.specs.Pour.{stop, pour, Writes}
use Rattle.write_header.specs.Written.{Outcome, stopped, poured}

-- ---- one command
module _ (o : List ℕ) (at : ℕ) (w : Writer) (m : Meaning) (ms : List Meaning) where
  pour-bad : writable w m ≡ false → pour o at w (m ∷ ms) ≡ stop Refusal.NotWritable at w o
  unfolding pour
  pour-bad e = rw e

  pour-full : writable w m ≡ true → leb (length (layout m)) (length o - at) ≡ false → pour o at w (m ∷ ms) ≡ stop Refusal.NoRoom at w o
  unfolding pour
  pour-full e f = rw (e, f)

  pour-on : writable w m ≡ true → leb (length (layout m)) (length o - at) ≡ true
      → pour o at w (m ∷ ms) ≡ pour (stored o at (layout m)) (at + length (layout m)) (state_after w m) ms
  unfolding pour
  pour-on e f = rw (e, f)

-- the command k, written to what is left of the output
module _ (o : List ℕ) (at : ℕ) (w : Writer) (s : List ℕ) (k : Command) (p : misplaced s k ≡ false) where
  abbrev it : Meaning
  it = meaning s k

  left-room : leb (length (layout it)) (length (drop at o)) ≡ leb (length (layout it)) (length o - at)
  left-room = rw (length-drop at o)

  -- what was left of the output, after what was not
  kept-end : at ≤ length o → (l : List ℕ) → l ++ drop (length o - at) (drop at o) ≡ l
  kept-end h l = rw (drop_of_length-le (drop at o) {i = length o - at} (omega (arith, length-drop at o)), append-nil l)

  bad : writable w it ≡ false → call w s k (drop at o) ≡ record { answer = Err Refusal.NotWritable; left = drop at o }
  unfolding call outcome
  bad e = rw (p, e)

  full : writable w it ≡ true → leb (length (layout it)) (length o - at) ≡ false
      → call w s k (drop at o) ≡ record { answer = Err Refusal.NoRoom; left = drop at o }
  unfolding call outcome put_answer put_bytes
  full e f = rw (p, e, left-room, f)

  on : writable w it ≡ true → leb (length (layout it)) (length o - at) ≡ true
      → call w s k (drop at o)
      ≡ record { answer = Ok (length (layout it), state_after w it); left = layout it ++ drop (length (layout it)) (drop at o) }
  unfolding call outcome put_answer put_bytes
  on e f = rw (p, e, left-room, f)

  laid : at ≤ length o → take at o ++ ((layout it ++ drop (length (layout it)) (drop at o)) ++ drop (length o - at) (drop at o)) ≡ stored o at (layout it)
  unfolding stored
  laid h = rw (kept-end h (layout it ++ drop (length (layout it)) (drop at o)), drop-drop (length (layout it)) at o)

  kept : at ≤ length o → take at o ++ (drop at o ++ drop (length o - at) (drop at o)) ≡ o
  kept h = rw (kept-end h (drop at o), take-append-drop at o)

  module _ (h : at ≤ length o) where
    -- what an answer tells of the rest
    abbrev Told : List ℕ → Result (ℕ × Writer) Refusal → Type 0
    Told left (Ok (n, v)) =
        (at + n ≤ length o) × (at + n ≤ length left) × ((more : List Meaning) → pour o at w (it ∷ more) ≡ pour left (at + n) v more)
    Told left (Err e) = (more : List Meaning) → pour o at w (it ∷ more) ≡ stop e at w left

    pub told : {l left : List ℕ} {r : Result (ℕ × Writer) Refusal} → left ≡ take at o ++ (l ++ drop (length o - at) (drop at o))
        → Does r l (call w s k (take (length o - at) (drop at o))) → Told left r
    told {l} {left} {r} q x =
        let d = rw (take_rest o at) at x in
        by-test (writable w it)
        (λ e.
        by-test (leb (length (layout it)) (length o - at))
        (λ f.
        let x = on e f in
        let a : r ≡ Ok (length (layout it), state_after w it) = d.answers ∙ rw x in
        let b : left ≡ stored o at (layout it) = q ∙ (rw (d.leaves, x) (laid h)) in
        let n : at + length (layout it) ≤ length o = omega (arith, leb-true (length (layout it)) (length o - at) f) in
        rw (a, b) (n, rw (stored-length o at (layout it) n) n, λ more. pour-on o at w it more e f))
        (λ f.
        let x = full e f in
        let a : r ≡ Err Refusal.NoRoom = d.answers ∙ rw x in
        let b : left ≡ o = q ∙ (rw (d.leaves, x) (kept h)) in
        rw (a, b) (λ more. pour-full o at w it more e f)))
        (λ e.
        let x = bad e in
        let a : r ≡ Err Refusal.NotWritable = d.answers ∙ rw x in
        let b : left ≡ o = q ∙ (rw (d.leaves, x) (kept h)) in
        rw (a, b) (λ more. pour-bad o at w it more e))

-- ---- more after what is written
module _ (o : List ℕ) (at : ℕ) (w : Writer) (o' : List ℕ) (at' : ℕ) (w' : Writer) (a b : List Meaning) where
  pub then-writes : ((more : List Meaning) → pour o at w (a ++ more) ≡ pour o' at' w' more) → (row : ℕ) (r : Result (ℕ × ℕ × Writer) (Refusal × ℕ × Writer)) (left : List ℕ)
      → Writes o' at' w' b row r left → Writes o at w (a ++ b) row r left
  then-writes f row (Ok (i, at'', v)) left x =
      (x.0, x.1, λ more. ap (pour o at w) (append_assoc a b more) ∙ f (b ++ more) ∙ x.2 more)
  then-writes f row (Err (e, at'', v)) left x = λ more. ap (pour o at w) (append_assoc a b more) ∙ f (b ++ more) ∙ x more

-- ---- all of them, in closed form
abbrev Closed : List ℕ → ℕ → Writer → List Meaning → List Meaning → Outcome
Closed o at w all l =
    record {
      answer =
          cond (eqb (length l) (length all))
          (Ok (at + length (layouts l), states_after w l))
          (Err (stopped w (length o - at) all, at + length (layouts l), states_after w l));
      left = stored o at (layouts l);
    }

-- the first of them, and those after it
module _ (w : Writer) (m : Meaning) (ms : List Meaning) (room : ℕ) where
  taken-bad : writable w m ≡ false → taken w room (m ∷ ms) ≡ []
  unfolding taken
  taken-bad e = rw e

  stopped-bad : writable w m ≡ false → stopped w room (m ∷ ms) ≡ Refusal.NotWritable
  unfolding stopped
  stopped-bad e = rw e

  module _ (e : writable w m ≡ true) where
    taken-full : leb (length (layout m)) room ≡ false → taken w room (m ∷ ms) ≡ []
    unfolding taken
    taken-full f = rw (e, f)

    stopped-full : leb (length (layout m)) room ≡ false → stopped w room (m ∷ ms) ≡ Refusal.NoRoom
    unfolding stopped
    stopped-full f = rw (e, f)

    taken-on : leb (length (layout m)) room ≡ true → taken w room (m ∷ ms) ≡ m ∷ taken (state_after w m) (room - length (layout m)) ms
    unfolding taken
    taken-on f = rw (e, f)

    stopped-on : leb (length (layout m)) room ≡ true → stopped w room (m ∷ ms) ≡ stopped (state_after w m) (room - length (layout m)) ms
    unfolding stopped
    stopped-on f = rw (e, f)

eqb-suc : (a b : ℕ) → eqb (suc a) (suc b) ≡ eqb a b
eqb-suc a b =
    by-test (eqb a b)
    (λ e. eq-eqb (suc a) (suc b) (ap suc (eqb-true a b e)) ∙ sym e)
    (λ e. ne_eqb (suc a) (suc b) (λ q. eqb-false a b e (omega (arith, q))) ∙ sym e)

closed_none : (o : List ℕ) (at : ℕ) (w : Writer) (m : Meaning) (ms : List Meaning)
    → Closed o at w (m ∷ ms) [] ≡ stop (stopped w (length o - at) (m ∷ ms)) at w o
unfolding layouts states_after
closed_none o at w m ms =
    let z : eqb (length {A = Meaning} []) (length (m ∷ ms)) ≡ false = ne_eqb 0 (suc (length ms)) (λ q. omega (arith, q)) in
    rw (z, add-zero at, ← stored-none o at)

closed_on : (o : List ℕ) (at : ℕ) (w : Writer) (m : Meaning) (ms l : List Meaning) → at + length (layout m) ≤ length o
    → stopped w (length o - at) (m ∷ ms) ≡ stopped (state_after w m) (length o - at - length (layout m)) ms
    → Closed (stored o at (layout m)) (at + length (layout m)) (state_after w m) ms l ≡ Closed o at w (m ∷ ms) (m ∷ l)
unfolding layouts states_after
closed_on o at w m ms l h e =
    let n = stored-length o at (layout m) h in
    let x : length o - (at + length (layout m)) ≡ length o - at - length (layout m) = omega arith in
    let z : eqb (length (m ∷ l)) (length (m ∷ ms)) ≡ eqb (length l) (length ms) = eqb-suc (length l) (length ms) in
    rw (
      z,
      n,
      x,
      e,
      stored_next o at (omega arith) (layout m) (layouts l),
      length-append (layout m) (layouts l),
      add_assoc at (length (layout m)) (length (layouts l)),
    )

in_all : (ms : List Meaning) (o : List ℕ) (at : ℕ) (w : Writer) → at ≤ length o → pour o at w ms ≡ Closed o at w ms (taken w (length o - at) ms)
unfolding pour taken layouts states_after
in_all [] o at w h = rw (add-zero at, ← stored-none o at)
in_all (m ∷ ms) o at w h = more (in_all ms (stored o at (layout m)) (at + length (layout m)) (state_after w m))
  where
    more : (at + length (layout m) ≤ length (stored o at (layout m))
        → pour (stored o at (layout m)) (at + length (layout m)) (state_after w m) ms
        ≡ Closed (stored o at (layout m)) (at + length (layout m)) (state_after w m) ms
        (taken (state_after w m) (length (stored o at (layout m)) - (at + length (layout m))) ms))
        → pour o at w (m ∷ ms) ≡ Closed o at w (m ∷ ms) (taken w (length o - at) (m ∷ ms))
    more ih =
        by-test (writable w m)
        (λ e.
        by-test (leb (length (layout m)) (length o - at))
        (λ f.
        let r : length (layout m) ≤ length o - at = leb-true (length (layout m)) (length o - at) f in
        let n : length (stored o at (layout m)) ≡ length o = stored-length o at (layout m) (omega arith) in
        let x : length (stored o at (layout m)) - (at + length (layout m)) ≡ length o - at - length (layout m) = omega arith in
        pour-on o at w m ms e f ∙ ih (omega arith)
        ∙ closed_on o at w m ms (taken (state_after w m) (length (stored o at (layout m)) - (at + length (layout m))) ms) (omega arith) (stopped-on w m ms (length o - at) e f)
        ∙ rw (x, taken-on w m ms (length o - at) e f))
        (λ f.
        pour-full o at w m ms e f
        ∙ rw (taken-full w m ms (length o - at) e f) (sym (closed_none o at w m ms ∙ rw (stopped-full w m ms (length o - at) e f)))))
        (λ e. pour-bad o at w m ms e ∙ rw (taken-bad w m ms (length o - at) e) (sym (closed_none o at w m ms ∙ rw (stopped-bad w m ms (length o - at) e))))

pub poured-all : (w : Writer) (ms : List Meaning) (o : List ℕ) → pour o 0 w ms ≡ poured w ms (taken w (length o) ms) o
unfolding stored
poured-all w ms o = in_all ms o 0 w (omega arith) ∙ rw (sub-zero (length o), zero-add)
