-- Goals of `fast_var::word_end` that the search leaves.
use Rattle.std.proofs.Common.{◌≡◌, ℕ, ◌+◌, ◌-◌, ◌<◌, ◌≤◌, List, length, get_or, arith}
use Rattle.text.specs.Plain.{Plain}
use Rattle.text.proofs.Printable.{plain-join}
use Rattle.fast_var.specs.FastVar.{Worded}
use Rattle.fast_var.proofs.Places.{plain-worded}
use Rattle.fast_var.proofs.word_end.Goals as goal

-- eight bytes from the word's start, and eight up to its end
ended : (s : List ℕ) (at e : ℕ) → at + 8 ≤ e → e ≤ at + 16 → e < length s → Plain s at (at + 8) → Plain s (e - 8) (e - 8 + 8)
    → get_or s e 0 ≡ 32 → Worded s at e
ended s at e l u h p q b =
    plain-worded s at e (plain-join s at (at + 8) (e - 8) e p (λ i m n. q i m (omega arith)) (omega arith)) (omega arith) h b

pub returns-then-plain_eight-2 : goal.returns-then-plain_eight-2
returns-then-plain_eight-2 c =
    λ h.
    ended _ _ _ (omega arith) (omega arith) (omega arith) (c.plain_eight.ensures c.if-plain_eight.true)
    (c.plain_eight-then-plain_eight.ensures c.if-plain_eight-2.true) c.if-input-end-eq32.true
