-- Laws of numbers with a sign: reading them, and that reading their text gives the number.
use Rattle.std.specs.Prelude.{Option, Some, None}
use Prim.Native.Nat.{ℕ, zero, suc, ◌+◌, ◌^◌, ◌≤◌, ◌<◌}
use mathlib.Core.Path.{◌≡◌, refl, sym, ◌∙◌, ap}
use mathlib.Core.List.{List, [], ◌∷◌}
use native.Mathlib.Omega.{arith}
use borrow.Author.Tests.{eq-eqb, ne_eqb}
use lib.Dec.{eqb}
use lib.IntN.{ℤ, pos, negsuc, neg_ℤ}
use lib.ListN.{length, get_or, drop}
use lib.Pow.{pow_pos}
use mir.Syntax.{Width, w32}
use mir.Val.{SFits, hbits}
use Rattle.text.proofs.Lists.{by-test}
use Rattle.number.specs.Decimal.{digits_below, unsigned, parse_below, Below, plain, negated, parse_signed, decimal_of, signed_of}
use Rattle.number.proofs.Laws.{digits-below, parse-below}
use Rattle.number.proofs.Writing.{some, short, digits-written, read-written, unsigned-decimal}

-- ---- the sign
pub signed-minus : (s : List ℕ) → get_or s 0 0 ≡ 45 → negated (digits_below (2 ^ 31 + 1) (drop 1 s)) ≡ parse_signed s
unfolding parse_signed
signed-minus [] h = absurd (omega arith)
signed-minus (b ∷ s) h = rw (eq-eqb b 45 h)

pub signed-plain : (s : List ℕ) → (get_or s 0 0 ≡ 45 → ⊥) → plain (parse_below (2 ^ 31) s) ≡ parse_signed s
unfolding parse_signed parse_below unsigned digits_below
signed-plain [] h = refl
signed-plain (b ∷ s) h = rw (ne_eqb b 45 h)

-- ---- what is accepted has 32 bits
pub neg-fits : (w : Width) (v : ℕ) → v < 2 ^ hbits w + 1 → SFits w (neg_ℤ (pos v))
neg-fits w zero h = record { sfits = pow_pos (hbits w) }
neg-fits w (suc k) h = record { sfits = omega arith }

plain_fits : (z : ℤ) (n : Option ℕ) → Below (2 ^ 31) n → plain n ≡ Some z → SFits w32 z
plain_fits z (Some v) h e = let q : pos v ≡ z = cc in rw (sym q) (record { sfits = h })
plain_fits z None h e = absurd (let z : ◌≡◌ {A = ℕ} 0 1 = cc in omega arith)

negated_fits : (z : ℤ) (n : Option ℕ) → Below (2 ^ 31 + 1) n → negated n ≡ Some z → SFits w32 z
negated_fits z (Some v) h e = let q : neg_ℤ (pos v) ≡ z = cc in rw (sym q) (neg-fits w32 v h)
negated_fits z None h e = absurd (let z : ◌≡◌ {A = ℕ} 0 1 = cc in omega arith)

pub signed-accepted : (z : ℤ) (s : List ℕ) → parse_signed s ≡ Some z → SFits w32 z
unfolding parse_signed
signed-accepted z [] e = absurd (let z : ◌≡◌ {A = ℕ} 0 1 = cc in omega arith)
signed-accepted z (b ∷ s) e =
    by-test (eqb b 45) (λ q. negated_fits z (digits_below (2 ^ 31 + 1) s) (digits-below (2 ^ 31 + 1) s) (rw q at e))
    (λ q. plain_fits z (parse_below (2 ^ 31) (b ∷ s)) (parse-below (2 ^ 31) (b ∷ s)) (rw q at e))

-- ---- what is written for a number of 32 bits has some bytes, at most 11, and is read as that number
pub signed-some : (z : ℤ) → 0 < length (signed_of z)
signed-some (pos n) = some n
signed-some (negsuc n) = omega arith

pub signed-short : (z : ℤ) → SFits w32 z → length (signed_of z) ≤ 11
signed-short (pos n) f = let h : n < 2 ^ 31 = f.sfits in omega (arith, short 9 n (omega arith))
signed-short (negsuc n) f = let h : n < 2 ^ 31 = f.sfits in omega (arith, short 9 (suc n) (omega arith))

pub read-signed : (z : ℤ) → SFits w32 z → parse_signed (signed_of z) ≡ Some z
read-signed (pos n) f =
    sym (signed-plain (decimal_of n) (unsigned-decimal 45 n (omega arith)))
    ∙ ap plain (read-written (2 ^ 31) n f.sfits)
read-signed (negsuc n) f =
    let h : n < 2 ^ 31 = f.sfits in
    sym (signed-minus (signed_of (negsuc n)) refl) ∙ ap negated (digits-written (2 ^ 31 + 1) (suc n) (omega arith))
