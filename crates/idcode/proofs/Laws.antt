-- Laws of the definitions of specs/Id.antt, which the functions' proofs cite. Assumes nothing.
use Prim.Native.Nat.{ℕ, zero, suc, ◌+◌, ◌-◌, ◌*◌, ◌/◌, ◌%◌, ◌^◌, ◌≤◌, ◌<◌}
use mathlib.Core.Path.{◌≡◌, refl, ap}
use mathlib.Core.Bool.{Bool, true, false, cond}
use mathlib.Core.List.{List, [], ◌∷◌}
use native.Mathlib.Nat.{pow-suc, mul_assoc, le_refl}
use native.Mathlib.Omega.{arith}
use borrow.Author.Tests.{leb-true, le-leb, lt-leb}
use lib.Dec.{leb}
use lib.ListN.{length, get_or, drop}
use Rattle.text.proofs.Lists.{cond_both, cond_same}
use Rattle.idcode.specs.Id.{is_id_byte, all_id, id_tail, sum_from, id_sum, text_of, id_text}

-- ---- the sum

sum-shift : (k : ℕ) (s : List ℕ) → sum_from (suc k) s ≡ 94 * sum_from k s
unfolding sum_from
sum-shift k [] = refl
sum-shift k (b ∷ s) =
    let ih = sum-shift (suc k) s in
    let p = mul_assoc (b - 32) (94 ^ k) 94 in
    rw (pow-suc, ih, ← p) (omega arith)

pub sum-cons : (b : ℕ) (s : List ℕ) → id_sum (b ∷ s) ≡ (b - 32) + 94 * id_sum s
unfolding sum_from
sum-cons b s = rw (sum-shift 0 s) (omega arith)

-- ---- bytes

pub id-byte : (b : ℕ) → 33 ≤ b → b ≤ 126 → is_id_byte b ≡ true
unfolding is_id_byte
id-byte b h g = rw (le-leb 33 b h, le-leb b 126 g)

pub low_byte : (b : ℕ) → b < 33 → is_id_byte b ≡ false
unfolding is_id_byte
low_byte b h = rw (lt-leb 33 b h)

pub high_byte : (b : ℕ) → 126 < b → is_id_byte b ≡ false
unfolding is_id_byte
high_byte b h = rw (lt-leb b 126 h) (cond_same (leb 33 b) false)

pub id_range : (b : ℕ) → is_id_byte b ≡ true → (33 ≤ b) × (b ≤ 126)
unfolding is_id_byte
id_range b e =
    let t = cond_both (leb 33 b) (leb b 126) e in
    (leb-true 33 b t.0, leb-true b 126 t.1)

-- ---- the good tail

pub tail-good : (s : List ℕ) → all_id s ≡ true → id_tail s ≡ s
unfolding id_tail
tail-good [] e = refl
tail-good (b ∷ s) e = rw e

-- a bad byte with id bytes alone behind it
pub tail-bad : (s : List ℕ) (j : ℕ) → j < length s → all_id (drop (suc j) s) ≡ true → is_id_byte (get_or s j 0) ≡ false
    → (id_tail s ≡ drop (suc j) s) × (all_id s ≡ false)
unfolding id_tail all_id
tail-bad [] j h e f = absurd (omega arith)
tail-bad (b ∷ s) zero h e f = rw f (tail-good s e, refl)
tail-bad (b ∷ s) (suc j) h e f =
    let ih = tail-bad s j (omega arith) e f in
    rw (ih.1, cond_same (is_id_byte b) false) (ih.0, refl)

-- no end of id bytes alone has a larger sum than the longest
most_step : (b m : ℕ) (s : List ℕ) (t : Bool) → all_id (b ∷ s) ≡ t → m ≤ id_sum (id_tail s) → m ≤ id_sum (cond t (b ∷ s) (id_tail s))
unfolding all_id
most_step b m s true e h =
    let g = rw (tail-good s (cond_both (is_id_byte b) (all_id s) e).1) at h in
    rw (sum-cons b s) (omega arith)
most_step b m s false e h = h

pub tail-most : (s : List ℕ) (j : ℕ) → all_id (drop j s) ≡ true → id_sum (drop j s) ≤ id_sum (id_tail s)
unfolding id_tail
tail-most [] zero e = le_refl _
tail-most [] (suc j) e = le_refl _
tail-most (b ∷ s) zero e = rw e (le_refl _)
tail-most (b ∷ s) (suc j) e = most_step b (id_sum (drop j s)) s (all_id (b ∷ s)) refl (tail-most s j e)

-- ---- the text of a number

-- more room than the number changes nothing
pub text-room : (k l n : ℕ) → n ≤ k → n ≤ l → text_of k n ≡ text_of l n
unfolding text_of
text-room zero zero n h g = refl
text-room zero (suc l) zero h g = refl
text-room zero (suc l) (suc m) h g = absurd (omega arith)
text-room (suc k) zero zero h g = refl
text-room (suc k) zero (suc m) h g = absurd (omega arith)
text-room (suc k) (suc l) zero h g = refl
text-room (suc k) (suc l) (suc m) h g = ap (λ (t : List ℕ). (33 + m % 94) ∷ t) (text-room k l (m / 94) (omega arith) (omega arith))

-- the text means the number
pub sum-text : (k n : ℕ) → n ≤ k → id_sum (text_of k n) ≡ n
unfolding text_of sum_from
sum-text zero n h = omega arith
sum-text (suc k) zero h = refl
sum-text (suc k) (suc m) h =
    let ih = sum-text k (m / 94) (omega arith) in
    rw (sum-cons (33 + m % 94) (text_of k (m / 94)), ih) (omega arith)

pub text-good : (k n : ℕ) → all_id (text_of k n) ≡ true
unfolding text_of all_id
text-good zero n = refl
text-good (suc k) zero = refl
text-good (suc k) (suc m) = rw (id-byte (33 + m % 94) (omega arith) (omega arith)) (text-good k (m / 94))

-- the largest sum of k bytes, plus 1
limit : ℕ → ℕ
limit zero = 1
limit (suc k) = 94 * limit k + 1

text-short : (k room n : ℕ) → n < limit k → length (text_of room n) ≤ k
unfolding text_of limit
text-short k zero n h = omega arith
text-short k (suc room) zero h = omega arith
text-short zero (suc room) (suc m) h = absurd (omega arith)
text-short (suc k) (suc room) (suc m) h =
    let ih = text-short k room (m / 94) (omega arith) in omega arith

pub text-length : (code : ℕ) → code < 2 ^ 64 → (1 ≤ length (id_text code)) × (length (id_text code) ≤ 10)
unfolding text_of limit
text-length code h = (omega arith, text-short 10 (suc code) (suc code) (omega arith))

-- one text for each number
text-step : (k v b n : ℕ) (t : List ℕ) → v ≡ (b - 32) + 94 * n → 33 ≤ b → b ≤ 126 → v ≤ k
    → ((j : ℕ) → n ≤ j → text_of j n ≡ t) → text_of k v ≡ b ∷ t
unfolding text_of
text-step zero v b n t q l u h f = absurd (omega arith)
text-step (suc k) zero b n t q l u h f = absurd (omega arith)
text-step (suc k) (suc m) b n t q l u h f =
    let low : 33 + m % 94 ≡ b = omega arith in
    let high : m / 94 ≡ n = omega arith in
    let rest = f k (omega arith) in
    rw (low, high, rest)

pub text-unique : (s : List ℕ) (k : ℕ) → all_id s ≡ true → id_sum s ≤ k → text_of k (id_sum s) ≡ s
unfolding text_of sum_from all_id
text-unique [] zero e h = refl
text-unique [] (suc k) e h = refl
text-unique (b ∷ s) k e h =
    let t = cond_both (is_id_byte b) (all_id s) e in
    let r = id_range b t.0 in
    text-step k (id_sum (b ∷ s)) b (id_sum s) s (sum-cons b s) r.0 r.1 h (λ j g. text-unique s j t.1 g)
