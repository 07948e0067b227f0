-- Laws of the four values: which bytes mean one, the byte that each is written as, and lower case.
use Rattle.std.specs.Prelude.{Some, None}
use Prim.Native.Nat.{ℕ, ◌/◌, ◌<◌}
use mathlib.Core.Path.{◌≡◌, refl, ap, ◌∙◌}
use mathlib.Core.Bool.{true, false}
use native.Mathlib.Omega.{arith}
use borrow.Author.Tests.{eqb-true, eqb-false, le-leb}
use lib.Dec.{eqb, leb}
use lib.ListN.{get_or}
use Rattle.text.specs.Bytes.{bytes, has}
use Rattle.text.proofs.Lists.{by-test}
use Rattle.value.specs.Values.{value_of, value_byte, is_value, lower}
use Rattle.value.specs.declared.Value.{Value}
use Rattle.text.proofs.Has.{of-each, each-not}
use Rattle.text.proofs.Orders.{Order, kept, small}
use Rattle.value.specs.Numbers.{value_order, value_number, value_for}

-- what holds of the six bytes holds of each that means a value
pub by_value : (P : ℕ → Type 0) → P 48 → P 49 → P 120 → P 88 → P 122 → P 90 → (b : ℕ) → is_value b ≡ true → P b
unfolding is_value
by_value P zero one x X z Z b e = of-each P (bytes "01xXzZ") b (zero, (one, (x, (X, (z, (Z, tt)))))) e

-- ---- `is_value` holds exactly where a byte means a value, whose byte it is in lower case
pub value-of : (b : ℕ) → is_value b ≡ true → (v : Value) × (value_of b ≡ Some v) × (lower b ≡ value_byte v)
unfolding value_of has lower
value-of =
    by_value (λ b. (v : Value) × (value_of b ≡ Some v) × (lower b ≡ value_byte v))
    (Value.V0, refl, refl) (Value.V1, refl, refl) (Value.X, refl, refl) (Value.X, refl, refl) (Value.Z, refl, refl) (Value.Z, refl, refl)

pub value_none : (b : ℕ) → is_value b ≡ false → value_of b ≡ None
unfolding is_value value_of has
value_none b e =
    let n = each-not (bytes "01xXzZ") b e in
    rw (n.0, n.1.0, n.1.1.0, n.1.1.1.0, n.1.1.1.1.0, n.1.1.1.1.1.0)

module _ (b : ℕ) where
  pub is-value : (v : Value) → value_of b ≡ Some v → is_value b ≡ true
  is-value v e = by-test (is_value b) (λ q. q) (λ q. absurd (let n = value_none b q in let z : ◌≡◌ {A = ℕ} 0 1 = cc in omega arith))

  pub is_none : value_of b ≡ None → is_value b ≡ false
  is_none e = by-test (is_value b) (λ q. absurd (let n = (value-of b q).1 in let z : ◌≡◌ {A = ℕ} 0 1 = cc in omega arith)) (λ q. q)

  pub lower-byte : (v : Value) → value_of b ≡ Some v → lower b ≡ value_byte v
  lower-byte v e = let k = value-of b (is-value v e) in let same : k.0 ≡ v = cc in k.2 ∙ ap value_byte same

-- ---- a value is read back from its byte and from its number
each : (v : Value) → (value_of (value_byte v) ≡ Some v) × (get_or value_order (value_number v) Value.Z ≡ v)
unfolding value_of has
each Value.V0 = (refl, refl)
each Value.V1 = (refl, refl)
each Value.X = (refl, refl)
each Value.Z = (refl, refl)

pub value-byte : (v : Value) → value_of (value_byte v) ≡ Some v
value-byte v = (each v).0

pub value-order : Order value_order Value.Z value_number
value-order = record { back = λ v. (each v).1; each = (refl, (refl, (refl, (refl, tt)))); whole = refl }

-- ---- a value's number is a place of the order and means that value; a place of the order is the number of the value that it means
pub value-back : (k : Value) → (leb (value_number k) 3 ≡ true) × (value_for (value_number k) ≡ k)
unfolding value_for
value-back k = (le-leb (value_number k) 3 (omega (arith, small value-order k)), value-order.back k)

pub value-kept : (n : ℕ) → n < 4 → value_number (value_for n) ≡ n
unfolding value_for
value-kept n h = kept value-order n h

-- ---- `0` and `1` are the bytes whose half is 24
pub by-digit : (P : ℕ → Type 0) → P 48 → P 49 → (b : ℕ) → b / 2 ≡ 24 → P b
by-digit P o i b e =
    by-test (eqb b 48) (λ q. rw (eqb-true b 48 q) o)
    (λ q. let h : b ≡ 49 = omega (arith, e, eqb-false b 48 q) in rw h i)

-- ---- lower case changes `X` and `Z` alone
by-lower : (P : ℕ → ℕ → Type 0) → P 88 120 → P 90 122 → ((b : ℕ) → lower b ≡ b → P b b) → (b : ℕ) → P b (lower b)
unfolding lower
by-lower P x z same b =
    by-test (eqb b 88) (λ e. rw (eqb-true b 88 e) x)
    (λ e. by-test (eqb b 90) (λ f. rw (eqb-true b 90 f) z) (λ f. rw (e, f) (same b (rw (e, f)))))

pub lower-lower : (b : ℕ) → lower (lower b) ≡ lower b
unfolding lower
lower-lower = by-lower (λ b c. lower c ≡ c) refl refl (λ b e. e)

-- a byte in lower case means what it meant
pub lower-means : (b : ℕ) → value_of (lower b) ≡ value_of b
unfolding value_of has
lower-means = by-lower (λ b c. value_of c ≡ value_of b) refl refl (λ b e. refl)

pub lower-is : (b : ℕ) → is_value (lower b) ≡ is_value b
unfolding is_value has
lower-is = by-lower (λ b c. is_value c ≡ is_value b) refl refl (λ b e. refl)
