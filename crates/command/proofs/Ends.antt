-- Laws of the search for the closing mark. Assumes nothing.
use Rattle.std.specs.Option.{MatchOption}
use Rattle.std.specs.Prelude.{Option}
use Rattle.std.specs.Prelude.{Some, None}
use Prim.Native.Nat.{ℕ, zero, suc, ◌+◌, ◌-◌, ◌≤◌, ◌<◌}
use mathlib.Core.Path.{◌≡◌, refl, sym, ap}
use mathlib.Core.Bool.{true, false}
use mathlib.Core.List.{List, [], ◌∷◌}
use native.Mathlib.Omega.{arith}
use borrow.Author.Tests.{ne_eqb}
use lib.ListN.{length, take, drop, get_or, length-drop}
use Rattle.text.specs.Bytes.{equal, starts, holds, up_to}
use Rattle.text.proofs.Equal.{starts-equal, starts-short}
use Rattle.text.proofs.Lists.{drop-step}
use Rattle.command.specs.Words.{end_mark, first_end}

-- ---- the first place at which the mark stands
-- before the place e there is none
abbrev pub NoneBefore : List ℕ → ℕ → Type 0
NoneBefore s e = (k : ℕ) → 0 ≤ k → k < e → starts end_mark (drop k s) ≡ false

none-held : (s : List ℕ) → NoneBefore s (length s) → holds end_mark s ≡ false
unfolding holds starts
none-held [] h = refl
none-held (b ∷ s) h = rw (h 0 (omega arith) (omega arith)) (none-held s (λ k z l. h (suc k) (omega arith) (omega arith)))

first-held : (s : List ℕ) (i : ℕ) → i < length s → starts end_mark (drop i s) ≡ true → NoneBefore s i
    → (holds end_mark s ≡ true) × (length (up_to end_mark s) ≡ i)
unfolding holds up_to
first-held [] i l e h = absurd (omega arith)
first-held (b ∷ s) zero l e h = rw e (refl, refl)
first-held (b ∷ s) (suc i) l e h =
    let r = first-held s i (omega arith) e (λ k z j. h (suc k) (omega arith) (omega arith)) in
    rw (h 0 (omega arith) (omega arith)) (r.0, ap suc r.1)

module _ (s : List ℕ) where
  pub end-none : NoneBefore s (length s) → None ≡ first_end s
  unfolding first_end
  end-none h = rw (none-held s h)

  pub end-first : (i : ℕ) → (0 ≤ i) × (i < length s) × (starts end_mark (drop i s) ≡ true) × NoneBefore s i → Some i ≡ first_end s
  unfolding first_end
  end-first i h = let r = first-held s i h.1 h.2 h.3 in rw (r.0, r.1)

  pub end_found : (r : Option ℕ)
      → MatchOption r (NoneBefore s (length s)) (λ i. (0 ≤ i) × (i < length s) × (starts end_mark (drop i s) ≡ true) × NoneBefore s i)
      → r ≡ first_end s
  end_found None h = end-none h
  end_found (Some i) h = end-first i h

-- ---- whether `$end` stands at i, by how many bytes are left, by its first byte and by the four
pub end-short : (s : List ℕ) (i : ℕ) → length s - i < 4 → starts end_mark (drop i s) ≡ false
end-short s i h = starts-short end_mark (drop i s) (simp length-drop h)

pub end-not : (s : List ℕ) (i : ℕ) → i < length s → (get_or s i 0 ≡ 36 → ⊥) → starts end_mark (drop i s) ≡ false
unfolding starts
end-not s i h n = rw (drop-step s i h, ne_eqb 36 (get_or s i 0) (λ q. n (sym q)))

pub end-equal : (s : List ℕ) (i : ℕ) → equal (take (i + 4 - i) (drop i s)) end_mark ≡ starts end_mark (drop i s)
end-equal s i = let e : i + 4 - i ≡ 4 = omega arith in rw e (sym (starts-equal end_mark (drop i s)))

pub ruleset at_place = (end-short, end-not, end-equal)
