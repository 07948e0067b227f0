-- Laws of White_Space characters and runs of them (specs/WhiteSpace.antt). Assumes nothing.
use Prim.Native.Nat.{ℕ, zero, suc, pred, ◌+◌, ◌-◌, ◌/◌, ◌%◌, ◌≤◌, ◌<◌, zero-le}
use mathlib.Core.Path.{◌≡◌, refl, sym}
use mathlib.Core.Bool.{Bool, true, false, cond, false≢true}
use mathlib.Core.List.{List, [], ◌∷◌, ◌++◌}
use native.Mathlib.Nat.{add-zero}
use native.Mathlib.Omega.{arith}
use borrow.Author.Tests.{lt-ltb, ltb-true, eqb-true}
use lib.Dec.{ltb, eqb, lit≤}
use lib.ListN.{length, get_or, take, drop}
use lib.Seq.{get_or-drop, drop-cons}
use Rattle.text.specs.Bytes.{starts}
use Rattle.white_space.specs.WhiteSpace.{white_space, encoded, begins_with, blank_at, blanks, Before}
use Rattle.text.proofs.Lists.{by-test, both}

pub cond-le : (t : Bool) {x y k : ℕ} → x ≤ k → y ≤ k → cond t x y ≤ k
cond-le true p q = p
cond-le false p q = q

-- ---- what a text begins with

abbrev pub Prefix : List ℕ → List ℕ → Type 0
Prefix [] s = Unit {0}
Prefix (x ∷ m) [] = ⊥
Prefix (x ∷ m) (b ∷ s) = (x ≡ b) × Prefix m s

prefix : (m s : List ℕ) → starts m s ≡ true → Prefix m s
unfolding starts
prefix [] s e = tt
prefix (x ∷ m) [] e = absurd (false≢true e)
prefix (x ∷ m) (b ∷ s) e = let h = both (eqb x b) (starts m s) e in (eqb-true x b h.0, prefix m s h.1)

prefix-within : (m s : List ℕ) → Prefix m s → length m ≤ length s
prefix-within [] s p = zero-le
prefix-within (x ∷ m) [] p = absurd p
prefix-within (x ∷ m) (b ∷ s) p = omega (arith, prefix-within m s p.1)

prefix-at : (m s : List ℕ) (k : ℕ) → Prefix m s → k < length m → get_or m k 0 ≡ get_or s k 0
prefix-at [] s k p h = absurd (omega arith)
prefix-at (x ∷ m) [] k p h = absurd p
prefix-at (x ∷ m) (b ∷ s) zero p h = p.0
prefix-at (x ∷ m) (b ∷ s) (suc k) p h = prefix-at m s k p.1 (omega arith)

-- what holds of 0, and of the length of each character that the text begins with, holds of what it begins with
begins : (P : ℕ → Type 0) (cs s : List ℕ) → P 0 → ((c : ℕ) → Prefix (encoded c) s → P (length (encoded c))) → P (begins_with cs s)
unfolding begins_with
begins P [] s z f = z
begins P (c ∷ cs) s z f =
    by-test (starts (encoded c) s) (λ q. rw q (f c (prefix (encoded c) s q))) (λ q. rw q (begins P cs s z f))

-- no character of a list begins the text
abbrev pub Missed : List ℕ → List ℕ → Type 0
Missed [] s = Unit {0}
Missed (c ∷ cs) s = (Prefix (encoded c) s → ⊥) × Missed cs s

missed : (cs s : List ℕ) → Missed cs s → begins_with cs s ≡ 0
unfolding begins_with
missed [] s h = refl
missed (c ∷ cs) s h =
    by-test (starts (encoded c) s) (λ q. absurd (h.0 (prefix (encoded c) s q))) (λ q. rw q (missed cs s h.1))

missed-both : (cs ds s : List ℕ) → Missed cs s → Missed ds s → Missed (cs ++ ds) s
missed-both [] ds s h g = g
missed-both (c ∷ cs) ds s h g = (h.0, missed-both cs ds s h.1 g)

-- ---- the bytes of a character

abbrev Follows : ℕ → Type 0
Follows b = (0x80 ≤ b) × (b < 0xC0)

data Encoded : List ℕ → Type 0 where
  one : {x : ℕ} → x < 0x80 → Encoded (x ∷ [])
  two : {x y : ℕ} → 0xC0 ≤ x → Follows y → Encoded (x ∷ y ∷ [])
  three : {x y z : ℕ} → 0xE0 ≤ x → Follows y → Follows z → Encoded (x ∷ y ∷ z ∷ [])

follows : (n : ℕ) → Follows (0x80 + n % 64)
follows n = omega arith

shape : (c : ℕ) → Encoded (encoded c)
shape c =
    by-test (ltb c 0x80) (λ q. rw q (one (ltb-true c 0x80 q)))
    (λ q.
    rw q
    (by-test (ltb c 0x800) (λ p. rw p (two (above 0xC0 (c / 64)) (follows c)))
    (λ p. rw p (three (above 0xE0 (c / 4096)) (follows (c / 64)) (follows c)))))
  where
    above : (k n : ℕ) → k ≤ k + n
    above k n = omega arith

short : {m : List ℕ} → Encoded m → length m ≤ 3
short (one h) = lit≤ tt
short (two h g) = lit≤ tt
short (three h g k) = lit≤ tt

follows-at : {m : List ℕ} (k : ℕ) → Encoded m → 0 < k → k < length m → Follows (get_or m k 0)
follows-at zero e l u = absurd (omega arith)
follows-at (suc zero) (two h g) l u = g
follows-at (suc zero) (three h g i) l u = g
follows-at (suc (suc zero)) (three h g i) l u = i
follows-at (suc k) (one h) l u = absurd (omega arith)
follows-at (suc (suc k)) (two h g) l u = absurd (omega arith)
follows-at (suc (suc (suc k))) (three h g i) l u = absurd (omega arith)

-- a byte that follows begins no character
other : {m : List ℕ} (b : ℕ) (s : List ℕ) → Encoded m → Follows b → Prefix m (b ∷ s) → ⊥
other b s (one h) g p = omega (arith, p.0)
other b s (two h i) g p = omega (arith, p.0)
other b s (three h i j) g p = omega (arith, p.0)

nothing : (b : ℕ) (s : List ℕ) → Follows b → blank_at (b ∷ s) ≡ 0
unfolding blank_at
nothing b s g = begins (λ n. n ≡ 0) white_space (b ∷ s) refl (λ c p. absurd (other b s (shape c) g p))

-- so none begins within another
pub sync : (s : List ℕ) (k : ℕ) → 0 < k → k < blank_at s → blank_at (drop k s) ≡ 0
unfolding blank_at
sync s k l = begins (λ n. k < n → blank_at (drop k s) ≡ 0) white_space s (λ u. absurd (omega arith))
    (λ c p u.
    let m = encoded c in
    let within : length m ≤ length s = prefix-within m s p in
    rw (drop-cons s k 0 (omega arith)) (nothing _ _ (rw (prefix-at m s k p u) at (follows-at k (shape c) l u))))

pub small : (s : List ℕ) → blank_at s ≤ 3
unfolding blank_at
small s = begins (λ n. n ≤ 3) white_space s zero-le (λ c p. short (shape c))

pub inside : (s : List ℕ) → blank_at s ≤ length s
unfolding blank_at
inside s = begins (λ n. n ≤ length s) white_space s zero-le (λ c p. prefix-within (encoded c) s p)

-- ---- which bytes begin one

-- no character of one or two bytes, and none of three
pub blank_none : (s : List ℕ) → Missed (take 8 white_space) s → Missed (drop 8 white_space) s → 0 ≡ blank_at s
unfolding blank_at
blank_none s few more = sym (missed white_space s (missed-both (take 8 white_space) (drop 8 white_space) s few more))

-- past the end stands 0, which no White_Space has
three-bytes : (s : List ℕ) → blank_at s ≡ blank_at (get_or s 0 0 ∷ get_or s 1 0 ∷ get_or s 2 0 ∷ [])
unfolding blank_at begins_with starts
three-bytes [] = refl
three-bytes (a ∷ []) = refl
three-bytes (a ∷ b ∷ []) = refl
three-bytes (a ∷ b ∷ c ∷ s) = refl

-- ---- a run of them

skip : (k : ℕ) (s : List ℕ) → k ≤ length s → blanks k s ≡ k + blanks 0 (drop k s)
unfolding blanks
skip zero s h = omega arith
skip (suc k) [] h = absurd (omega arith)
skip (suc k) (a ∷ s) h = omega (arith, skip k s (omega arith))

pub none : (s : List ℕ) → blank_at s ≡ 0 → blanks 0 s ≡ 0
unfolding blanks
none [] e = refl
none (a ∷ s) e = rw e

pub one_more : (s : List ℕ) (n : ℕ) → blank_at s ≡ n → 0 < n → blanks 0 s ≡ n + blanks 0 (drop n s)
unfolding blanks
one_more s zero e h = absurd (omega arith)
one_more [] (suc k) e h = absurd (omega (arith, inside []))
one_more (a ∷ s) (suc k) e h = rw (e, lt-ltb 0 (suc k) (omega arith)) (omega (arith, skip k s (omega (arith, inside (a ∷ s)))))

within : (k : ℕ) (s : List ℕ) → blanks k s ≤ length s
unfolding blanks
within k [] = zero-le
within (suc k) (a ∷ s) = omega (arith, within k s)
within zero (a ∷ s) = cond-le (ltb 0 (blank_at (a ∷ s))) (omega (arith, within (pred (blank_at (a ∷ s))) s)) zero-le

pub run-within : (s : List ℕ) → blanks 0 s ≤ length s
run-within s = within 0 s

-- ---- at a place of a text

pub at_place : (s : List ℕ) (i : ℕ) {a b c : ℕ} → a ≡ get_or s i 0 → b ≡ get_or s (i + 1) 0 → c ≡ get_or s (i + 2) 0
    → blank_at (a ∷ b ∷ c ∷ []) ≡ blank_at (drop i s)
at_place s i p q r =
    rw (three-bytes (drop i s), get_or-drop i s 0 0, get_or-drop i s 1 0, get_or-drop i s 2 0, add-zero, p, q, r)

pub before-none : (s : List ℕ) (j : ℕ) → (1 ≤ j → blank_at (drop (j - 1) s) ≡ 1 → ⊥) → (2 ≤ j → blank_at (drop (j - 2) s) ≡ 2 → ⊥)
    → (3 ≤ j → blank_at (drop (j - 3) s) ≡ 3 → ⊥) → Before s j 0
before-none s j p q r = record { within = zero-le; found = λ h. absurd (omega arith); missed = λ z. miss }
  where
    miss : (m : ℕ) → 0 < m → m ≤ j → blank_at (drop (j - m) s) ≡ m → ⊥
    miss zero h g e = omega arith
    miss (suc zero) h g e = p g e
    miss (suc (suc zero)) h g e = q g e
    miss (suc (suc (suc zero))) h g e = r g e
    miss (suc (suc (suc (suc m)))) h g e = omega (arith, e, small (drop (j - suc (suc (suc (suc m)))) s))
