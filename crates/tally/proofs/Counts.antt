-- Laws of counting: fuel beyond what is left changes nothing, and one command more.
use Prim.Native.Nat.{ℕ, zero, suc, ◌+◌, ◌-◌, ◌<◌}
use mathlib.Core.Path.{◌≡◌, refl, sym, ◌∙◌}
use mathlib.Core.List.{List}
use native.Mathlib.Omega.{arith}
use native.Mathlib.Numerals.{add-one}
use lib.ListN.{length}
use Rattle.parser.specs.Next.{next_from}
use Rattle.token.specs.declared.Cursor.{Cursor}
use Rattle.command.specs.declared.Command.{Command}
use Rattle.parser.specs.declared.Next.{Next}
use Rattle.parser.proofs.Ahead.{command-past}
use Rattle.tally.specs.Count.{counted, counts}

pub enough : (k m : ℕ) (s : List ℕ) (n : ℕ) (c : Cursor) → length s - c.place < k → length s - c.place < m → counts k s n c ≡ counts m s n c
unfolding counts
enough zero m s n c p q = absurd (omega arith)
enough (suc k) zero s n c p q = absurd (omega arith)
enough (suc k) (suc m) s n c p q = go (next_from s c) refl (λ d. enough k m s (n + 1) d)
  where
    go : (x : Next) → next_from s c ≡ x
        → ((d : Cursor) → length s - d.place < k → length s - d.place < m → counts k s (n + 1) d ≡ counts m s (n + 1) d)
        → counted (counts k s) n x ≡ counted (counts m s) n x
    go (Next.Command j d) e ih =
        let h = command-past s c j d e in
        ih d (omega (arith, h.1, h.0.valid.within)) (omega (arith, h.1, h.0.valid.within))
    go (Next.Refused r l d) e ih = refl
    go (Next.Done d) e ih = refl

module _ (s : List ℕ) (n : ℕ) (c : Cursor) where
  one : (x : Next) → next_from s c ≡ x → counts (length s + 1) s n c ≡ counted (counts (length s) s) n x
  unfolding counts
  one x e = rw (add-one (length s), e)

  pub count-step : (k : Command) (d : Cursor) → next_from s c ≡ Next.Command k d → counts (length s + 1) s (n + 1) d ≡ counts (length s + 1) s n c
  count-step k d e =
      let h = command-past s c k d e in
      enough (length s + 1) (length s) s (n + 1) d (omega arith) (omega (arith, h.1, h.0.valid.within)) ∙ sym (one _ e)
