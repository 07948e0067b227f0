-- Laws of taking an index's text apart: its brackets, the first colon between them, and the numbers at its sides.
use Prim.Native.Nat.{ℕ, ◌+◌, ◌-◌, ◌≤◌, ◌<◌}
use mathlib.Core.Path.{◌≡◌, refl, sym, ◌∙◌, ap}
use mathlib.Core.Logic.{◌≢◌}
use mathlib.Core.List.{List, [], ◌∷◌}
use native.Mathlib.Numerals.{unary_clauses}
use native.Mathlib.Omega.{arith}
use borrow.Author.Tests.{eq-eqb, ne_eqb}
use lib.Dec.{eqb}
use lib.IntN.{ℤ}
use lib.ListN.{length, take, drop, get_or, length-take}
use mir.Syntax.{w32}
use mir.Val.{SFits, of_z, to_z}
use mir.ValLaws.{to_z-of_z}
use Rattle.std.specs.List.{AllWithin, HoldsAt}
use Rattle.std.specs.Option.{MatchOption, unwrap_or}
use Rattle.std.proofs.Common.{Option, Some, None}
use Rattle.std.proofs.lemmas.Iterator.{index_from_first}
use Rattle.text.proofs.Lists.{by-test, and-false, take_rest}
use Rattle.number.proofs.Signs.{signed-accepted}
use Rattle.scope.specs.Index.{padded, bit, range, up_to_byte, parse_inside, parse_index}

-- ---- the bytes before the first x are as many as its place, which r is, says
pub up-length : (x : ℕ) (s : List ℕ) (r : Option ℕ)
    → MatchOption r (AllWithin (λ b. b ≢ x) s 0 (length s)) (λ i. (i < length s) × HoldsAt (λ b. b ≡ x) s i × AllWithin (λ b. b ≢ x) s 0 i)
    → unwrap_or r (length s) ≡ length (up_to_byte x s)
unfolding up_to_byte
up-length x s r h =
    sym (index_from_first (λ l. length (up_to_byte x l)) (λ b. b ≡ x) (λ b. b ≢ x) refl (λ b l e. rw (eq-eqb b x e)) (λ b l e. rw (ne_eqb b x e) (omega arith)) s r h)

-- what stands before it is the front of the text
pub up-front : (x : ℕ) (s : List ℕ) → take (length (up_to_byte x s)) s ≡ up_to_byte x s
unfolding up_to_byte
up-front x [] = refl
up-front x (b ∷ s) = by-test (eqb b x) (λ q. rw q) (λ q. rw q (ap (λ (l : List ℕ). b ∷ l) (up-front x s)))

-- ---- between the brackets, where n is the place of the first colon, and what the numbers at its sides are read as
module _ (s : List ℕ) (n : ℕ) (e : n ≡ length (up_to_byte 58 s)) where
  pub colon-front : n ≡ length (take n s)
  colon-front = rw e (sym (ap length (up-front 58 s)))

  pub colon-within : n ≤ length s
  colon-within = omega (arith, colon-front, length-take n s)

  pub inside-bit : n ≡ length s → (x : Option ℤ) → x ≡ padded s → bit x ≡ parse_inside s
  unfolding parse_inside
  inside-bit h x p = rw (p, eq-eqb (length (up_to_byte 58 s)) (length s) (sym e ∙ h))

  pub inside-range : (n ≡ length s → ⊥) → (x y : Option ℤ) → x ≡ padded (take n s) → y ≡ padded (take (length s - (n + 1)) (drop (n + 1) s))
      → range x y ≡ parse_inside s
  unfolding parse_inside
  inside-range h x y p q =
      rw (p, q, take_rest s (n + 1), e, up-front 58 s, ne_eqb (length (up_to_byte 58 s)) (length s) (λ z. h (e ∙ z)))

pub ruleset at_colon = (colon-front, colon-within)

-- a number that was read has 32 bits, so that the machine holds it as it is
pub padded-fits : (s : List ℕ) (z : ℤ) → padded s ≡ Some z → SFits w32 z
unfolding padded
padded-fits s z e = signed-accepted z _ e

pub padded-held : (s : List ℕ) (z : ℤ) (x : Option ℤ) → x ≡ padded s → x ≡ Some z → Some (to_z w32 (of_z w32 z)) ≡ padded s
padded-held s z x p q = let e = sym p ∙ q in ap Some (to_z-of_z w32 z (padded-fits s z e)) ∙ sym e

-- ---- the brackets
pub index_short : (s : List ℕ) → length s < 2 → None ≡ parse_index s
unfolding parse_index
index_short [] h = refl
index_short (b ∷ []) h = rw (and-false (eqb b 91))
index_short (b ∷ c ∷ s) h = absurd (omega arith)

pub index-unopened : (s : List ℕ) → (get_or s 0 0 ≡ 91 → ⊥) → None ≡ parse_index s
unfolding parse_index
index-unopened [] h = refl
index-unopened (b ∷ s) h = rw (ne_eqb b 91 h)

-- the last byte, with or without the first
last : (b c : ℕ) (s : List ℕ) → get_or (b ∷ c ∷ s) (length (b ∷ c ∷ s) - 1) 0 ≡ get_or (c ∷ s) (length (c ∷ s) - 1) 0
last b c s = simp unary_clauses

pub index-unclosed : (s : List ℕ) → 2 ≤ length s → (get_or s (length s - 1) 0 ≡ 93 → ⊥) → None ≡ parse_index s
unfolding parse_index
index-unclosed [] l h = refl
index-unclosed (b ∷ []) l h = absurd (omega arith)
index-unclosed (b ∷ c ∷ s) l h = rw (ne_eqb _ 93 (rw last at h), and-false (eqb b 91))

pub index-inside : (s : List ℕ) → 2 ≤ length s → get_or s 0 0 ≡ 91 → get_or s (length s - 1) 0 ≡ 93
    → parse_inside (take (length s - 1 - 1) (drop 1 s)) ≡ parse_index s
unfolding parse_index
index-inside [] l p q = absurd (omega arith)
index-inside (b ∷ []) l p q = absurd (omega arith)
index-inside (b ∷ c ∷ s) l p q = rw (eq-eqb b 91 p, eq-eqb _ 93 (rw last at q)) (simp unary_clauses)

pub ruleset brackets = (index_short, index-unopened, index-unclosed, index-inside)
