-- Laws of short commands: digits in a row and what they mean, and an id of one byte. Assumes nothing.
use Rattle.std.proofs.Common.{◌≡◌, ℕ, zero, suc, ◌+◌, ◌-◌, ◌*◌, ◌^◌, ◌<◌, ◌≤◌, true, List, [], ◌∷◌, ◌++◌, length, get_or, take, drop, refl, ap, ◌∙◌, add-zero, arith, length-drop, get_or-drop, take-suc}
use Rattle.text.specs.Bytes.{is_blank}
use Rattle.number.specs.Decimal.{value}
use Rattle.value.specs.Values.{is_value}
use Rattle.command.specs.declared.Command.{Command}
use Rattle.parser_part.specs.Plan.{kind_of}
use Rattle.parser_part.specs.declared.Kind.{Kind}
use Rattle.text.proofs.Counting.{Each}
use Rattle.parser_part.proofs.FastWords.{DigitsTo, digits-start, digits_more, digits-end, id-one}
use Rattle.fast.specs.Fast.{Reads, ReadsScalar, EightDigits}
use Rattle.fast.proofs.Hits.{reads-time, reads-scalar}

-- a digit
abbrev pub Digit : ℕ → Type 0
Digit b = (48 ≤ b) × (b ≤ 57)

-- ---- what k digits in a row mean
abbrev meant : List ℕ → ℕ → ℕ → ℕ
meant s at k = value 0 (take k (drop at s))

-- one more
pub value-snoc : (v b : ℕ) (w : List ℕ) → value v (w ++ b ∷ []) ≡ value v w * 10 + (b - 48)
unfolding value
value-snoc v b [] = refl
value-snoc v b (a ∷ w) = value-snoc (v * 10 + (a - 48)) b w

meant-more : (s : List ℕ) (at k : ℕ) → at + k < length s → meant s at (suc k) ≡ meant s at k * 10 + (get_or s (at + k) 0 - 48)
meant-more s at k h =
    ap (value 0) (take-suc (drop at s) k 0 (omega (arith, length-drop at s)) ∙ rw (get_or-drop at s k 0))
    ∙ value-snoc 0 (get_or s (at + k) 0) (take k (drop at s))

meant-none : (s : List ℕ) (at : ℕ) → meant s at 0 ≡ 0
unfolding value
meant-none s at = refl

row-digits : (s : List ℕ) (at k : ℕ) → k < 9 → at + k < length s → Each Digit s at (at + suc k) → DigitsTo s at (at + suc k) (meant s at (suc k))
row-digits s at zero f h d =
    let here = d at (omega arith) (omega arith) in
    let m : meant s at 1 ≡ get_or s at 0 - 48 = omega (arith, meant-none s at, rw (add-zero at) at (meant-more s at 0 (omega arith))) in
    rw m (digits-start s at (omega arith) here.0 here.1)
row-digits s at (suc k) f h d =
    let here = d (at + suc k) (omega arith) (omega arith) in
    let next : at + suc (suc k) ≡ at + suc k + 1 = omega arith in
    let up = row-digits s at k (omega arith) (omega arith) (λ i l u. d i l (omega arith)) in
    rw (next, meant-more s at (suc k) h) (digits_more s at (at + suc k) _ up h (omega arith) here.0 here.1)

-- ---- eight bytes taken in pairs, and what they make: 48 of each is no part of what they mean
abbrev pub in_pairs : ℕ → ℕ → ℕ → ℕ → ℕ → ℕ → ℕ → ℕ → ℕ
in_pairs a b c d e f g h = ((a * 10 + b) * 100 + (c * 10 + d)) * 10000 + ((e * 10 + f) * 100 + (g * 10 + h))

abbrev pub Makes : List ℕ → ℕ → ℕ → Type 0
Makes s at n = (n ≡ value 0 (take 8 (drop at s)) + 533333328) × (n < 2 ^ 32)

module _ (s : List ℕ) (at : ℕ) (h : at + 8 ≤ length s) (d : EightDigits s at) where
  pub eight-digits : DigitsTo s at (at + 8) (meant s at 8)
  eight-digits = row-digits s at 7 (omega arith) (omega arith) d

  eight-small : meant s at 8 < 10 ^ 8
  eight-small = let n : at + 8 - at ≡ 8 = omega arith in rw n at eight-digits.small

  byte-meant : (k b : ℕ) → k < 8 → b ≡ get_or s (at + k) 0 → meant s at (suc k) + 48 ≡ meant s at k * 10 + b
  byte-meant k b f e =
      let here = d (at + k) (omega arith) (omega arith) in
      omega (arith, here.0, meant-more s at k (omega arith))

  pub eight-makes : (i j k l m n o p : ℕ) → i ≡ get_or s at 0 → j ≡ get_or s (at + 1) 0 → k ≡ get_or s (at + 2) 0 → l ≡ get_or s (at + 3) 0
      → m ≡ get_or s (at + 4) 0 → n ≡ get_or s (at + 5) 0 → o ≡ get_or s (at + 6) 0 → p ≡ get_or s (at + 7) 0 → Makes s at (in_pairs i j k l m n o p)
  eight-makes i j k l m n o p b0 b1 b2 b3 b4 b5 b6 b7 =
      let is : in_pairs i j k l m n o p ≡ meant s at 8 + 533333328 =
      omega (
        arith,
        meant-none s at,
        byte-meant 0 i (omega arith) (rw (add-zero at) b0),
        byte-meant 1 j (omega arith) b1,
        byte-meant 2 k (omega arith) b2,
        byte-meant 3 l (omega arith) b3,
        byte-meant 4 m (omega arith) b4,
        byte-meant 5 n (omega arith) b5,
        byte-meant 6 o (omega arith) b6,
        byte-meant 7 p (omega arith) b7,
      ) in
      (is, omega (arith, is, eight-small))

-- ---- the commands
module _ (s : List ℕ) (at : ℕ) where
  pub time-eight : at + 9 < length s → kind_of (get_or s at 0) ≡ Kind.Hash → EightDigits s (at + 1) → is_blank (get_or s (at + 9) 0) ≡ true
      → Reads s at (at + 9) (Command.Timestamp (record { 0 = value 0 (take 8 (drop (at + 1) s)) }))
  time-eight h is d b =
      let there : at + 1 + 8 ≡ at + 9 = omega arith in
      let w = rw there at (digits-end s (at + 1) (at + 1 + 8) _ (eight-digits s (at + 1) (omega arith) d) (omega arith) (rw there b)) in
      reads-time s at (at + 9) w.0 _ is w.1

  -- the id i has one byte
  pub scalar-one : (i : ℕ) → at + 2 < length s → is_value (get_or s at 0) ≡ true → get_or s (at + 1) 0 ≡ i + 33 → i ≤ 93
      → is_blank (get_or s (at + 2) 0) ≡ true → ReadsScalar s at (at + 2) i
  scalar-one i h is e u b =
      let there : at + 1 + 1 ≡ at + 2 = omega arith in
      let id : get_or s (at + 1) 0 - 33 ≡ i = omega arith in
      let w = rw (there, id) at (id-one s (at + 1) (omega arith) (omega arith) (omega arith) (rw there b)) in
      reads-scalar s at (at + 2) w.0 i is w.1
