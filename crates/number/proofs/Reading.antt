-- The loop that reads digits from the front, for every largest number.
use Rattle.std.specs.Prelude.{Some, None}
use Prim.Native.Nat.{ℕ, ◌+◌, ◌-◌, ◌*◌, ◌≤◌, ◌<◌}
use mathlib.Core.Path.{◌≡◌, refl, sym, ◌∙◌}
use mathlib.Core.Bool.{false}
use mathlib.Core.List.{List, [], ◌∷◌}
use native.Mathlib.Omega.{arith}
use lib.ListN.{length, get_or, drop, drop_of_length-le}
use Rattle.text.proofs.Lists.{drop-step}
use Rattle.number.specs.Decimal.{is_digit, number_from, digits_below}
use Rattle.number.proofs.Laws.{digit, from_end, from-digit, from-bad, from-large}

-- the bytes before i are digits of v, and the answer is that of v's digits and then the rest
pub record ReadTo (s : List ℕ) (most v i : ℕ) : Type 0 where
  pub within : i ≤ length s
  pub small : v ≤ most
  pub goes : digits_below (most + 1) s ≡ number_from (most + 1) v (drop i s)

pub read_none : (s : List ℕ) (most : ℕ) → length s ≡ 0 → None ≡ digits_below (most + 1) s
unfolding digits_below
read_none [] most h = refl
read_none (b ∷ s) most h = absurd (omega arith)

pub read-start : (s : List ℕ) (most : ℕ) → (length s ≡ 0 → ⊥) → ReadTo s most 0 0
unfolding digits_below
read-start [] most h = absurd (h refl)
read-start (b ∷ s) most h = record { within = omega arith; small = omega arith; goes = refl }

module _ (s : List ℕ) (most v i : ℕ) (r : ReadTo s most v i) where
  next : i < length s → digits_below (most + 1) s ≡ number_from (most + 1) v (get_or s i 0 ∷ drop (i + 1) s)
  next h = rw (← drop-step s i h) r.goes

  pub read-bad : i < length s → is_digit (get_or s i 0) ≡ false → None ≡ digits_below (most + 1) s
  read-bad h e = sym (next h ∙ from-bad (most + 1) v (get_or s i 0) (drop (i + 1) s) e)

  goes_on : i < length s → 48 ≤ get_or s i 0 → get_or s i 0 ≤ 57
      → digits_below (most + 1) s ≡ number_from (most + 1) (v * 10 + (get_or s i 0 - 48)) (drop (i + 1) s)
  goes_on h l u = next h ∙ from-digit (most + 1) v (get_or s i 0) (drop (i + 1) s) (digit (get_or s i 0) l u)

  pub read-large : i < length s → 48 ≤ get_or s i 0 → get_or s i 0 ≤ 57 → most < v * 10 + (get_or s i 0 - 48)
      → None ≡ digits_below (most + 1) s
  read-large h l u g = sym (goes_on h l u ∙ from-large (most + 1) _ (drop (i + 1) s) (omega arith))

  pub read_more : i < length s → 48 ≤ get_or s i 0 → get_or s i 0 ≤ 57 → v * 10 + (get_or s i 0 - 48) ≤ most
      → ReadTo s most (v * 10 + (get_or s i 0 - 48)) (i + 1)
  read_more h l u g = record { within = omega arith; small = g; goes = goes_on h l u }

  pub read_done : length s ≤ i → Some v ≡ digits_below (most + 1) s
  read_done h =
      let e : drop i s ≡ [] = drop_of_length-le s h in
      sym (rw e at r.goes ∙ from_end (most + 1) v (omega arith))
