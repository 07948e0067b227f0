-- A command that was read, and that the writer accepts, is read again from what was written. Assumes nothing.
use Rattle.text.proofs.Pairs.{first, second, ok_pair}
use Rattle.std.specs.Prelude.{Ok, Result}
use Rattle.command.specs.declared.Refusal.{Refusal}
use Prim.Native.Nat.{ℕ}
use mathlib.Core.Path.{◌≡◌, refl, sym, ap, ◌∙◌}
use mathlib.Core.Bool.{Bool, true, false}
use mathlib.Core.List.{List, ◌++◌}
use native.Mathlib.Omega.{arith}
use lib.Dec.{leb}
use lib.ListN.{length, take, drop}
use lib.Seq.{take-append_seam}
use Rattle.text.specs.Texts.{put_answer, put_bytes}
use Rattle.text.proofs.Lists.{by-test}
use Rattle.command.specs.Meaning.{Meaning, meaning, open_after}
use Rattle.token.proofs.Reading.{sim-after}
use Rattle.write.specs.Call.{outcome, misplaced, call}
use Rattle.write.specs.Layout.{layout, writable, state_after}
use Rattle.write.specs.declared.Writer.{Writer}
use Rattle.promises.specs.Stated.{core, Rewritten, RewrittenCall}
use Rattle.promises.proofs.Numbers.{command-sized}
use Rattle.promises.proofs.WrittenRead.{one-back}

pub rewritten : Rewritten
rewritten s c d k w t g r e q a v o p h = one-back (meaning s k) w t g r e a (command-sized s c d k q) v o p h

-- what an accepted outcome is: it might be written, its bytes stand first in the output, and the state is the next one
record Accepts (ok : Bool) (w v : Writer) (b : List ℕ) (n : ℕ) (left : List ℕ) : Type 0 where
  might : ok ≡ true
  bytes : take n left ≡ b
  state : v ≡ w

accepts : (out ok : Bool) (w v : Writer) (b o : List ℕ) (n : ℕ) → (outcome out ok w b o).answer ≡ Ok (n, v) → Accepts ok w v b n (outcome out ok w b o).left
unfolding outcome put_answer put_bytes
accepts true ok w v b o n e = absurd (let z : ◌≡◌ {A = ℕ} 0 1 = cc in omega arith)
accepts false false w v b o n e = absurd (let z : ◌≡◌ {A = ℕ} 0 1 = cc in omega arith)
accepts false true w v b o n e =
    by-test (leb (length b) (length o))
    (λ q.
    let f : ◌≡◌ {A = Result (ℕ × Writer) Refusal} (Ok (length b, w)) (Ok (n, v)) = rw q at e in
    let long : length b ≡ n = first (ok_pair f) in
    let same : w ≡ v = second (ok_pair f) in
    rw q (record { might = refl; bytes = rw (← long) (take-append_seam b (drop (length b) o)); state = sym same }))
    (λ q. absurd (let f = rw q at e in let z : ◌≡◌ {A = ℕ} 0 1 = cc in omega arith))

pub rewritten-call : RewrittenCall
unfolding call state_after
rewritten-call s c d k w v out n t g r e q a u o p h =
    let m : Meaning = meaning s k in
    let x = accepts (misplaced s k) (writable w m) (state_after w m) v (layout m) out n a in (
      rewritten s c d k w t g r e q x.might u o p (h ∙ ap (λ (l : List ℕ). g ++ (l ++ r)) x.bytes),
      ap (open_after m) (sim-after (g ++ core m) e ∙ o) ∙ sym (ap (λ (y : Writer). y.sim) x.state),
    )
