-- Laws of the fast path over words: bytes of a word that are passed one by one, and what holds at its end. Assumes nothing.
use Rattle.std.proofs.Common.{◌≡◌, ℕ, suc, ◌+◌, ◌-◌, ◌*◌, ◌^◌, ◌<◌, ◌≤◌, true, cond, List, [], ◌∷◌, length, get_or, drop, sym, refl, ap, ◌∙◌, add-zero, mul-le-mul_right, mul_assoc, mul_comm, pow-suc, mul-zero, mul-add, arith, Some, None, Ok}
use native.Mathlib.Nat.{pow-le-pow_right}
use borrow.Author.Tests.{lt-leb}
use Rattle.text.specs.Bytes.{is_blank}
use Rattle.utf8.specs.Utf8.{valid_utf8}
use Rattle.text.proofs.Blanks.{solid}
use Rattle.text.proofs.Lists.{by-test}
use Rattle.utf8.proofs.WellFormed.{ascii-first, empty-valid}
use Rattle.number.specs.Decimal.{number_from, digits_below, parse_below}
use Rattle.number.proofs.Laws.{digit, from-digit, from_end, sign-no}
use Rattle.idcode.specs.Id.{parse_id, all_id, sum_from, id_sum}
use Rattle.idcode.proofs.Laws.{sum-cons, id-byte, tail-good}
use Rattle.token.specs.Read.{word}
use Rattle.token.proofs.Words.{word-step, word-stop}
use Rattle.parser_part.specs.FastWord.{Whole, FastNumber}

-- ---- the bytes from `at` up to i belong to the word, and are ASCII
pub record Passed (s : List ℕ) (at i : ℕ) : Type 0 where
  pub ahead : at ≤ i
  pub within : i ≤ length s
  pub long : at + length (word (drop at s)) ≡ i + length (word (drop i s))
  pub text : valid_utf8 (word (drop at s)) ≡ valid_utf8 (word (drop i s))

passed_none : (s : List ℕ) (at : ℕ) → at ≤ length s → Passed s at at
passed_none s at h = record { ahead = omega arith; within = h; long = refl; text = refl }

module _ (s : List ℕ) (at i : ℕ) (p : Passed s at i) (h : i < length s) where
  passed-more : 32 < get_or s i 0 → get_or s i 0 < 128 → Passed s at (i + 1)
  passed-more l u =
      let e = word-step s i h (solid (get_or s i 0) l) in
      record { ahead = omega (arith, p.ahead); within = omega arith; long = omega (arith, p.long, ap length e); text = p.text ∙ ap valid_utf8 e ∙ ascii-first (get_or s i 0) (word (drop (i + 1) s)) u }

  passed-end : at < i → i ≤ at + 32 → is_blank (get_or s i 0) ≡ true → Whole s at i
  passed-end some few e =
      let w = word-stop s i h e in
      record { some = some; inside = h; few = few; long = omega (arith, p.long, ap length w); ended = e; text = p.text ∙ ap valid_utf8 w ∙ empty-valid }

-- ---- digits
pub record DigitsTo (s : List ℕ) (at i v : ℕ) : Type 0 where
  pub passed : Passed s at i
  pub some : at < i
  pub few : i ≤ at + 18
  pub small : v < 10 ^ (i - at)
  pub goes : parse_below (2 ^ 64) (word (drop at s)) ≡ number_from (2 ^ 64) v (word (drop i s))

-- the first digit
begins : (b : ℕ) (w : List ℕ) → 48 ≤ b → b ≤ 57 → parse_below (2 ^ 64) (b ∷ w) ≡ number_from (2 ^ 64) (b - 48) w
unfolding digits_below
begins b w l u =
    let e : 0 * 10 + (b - 48) ≡ b - 48 = omega arith in
    sym (sign-no (2 ^ 64) (b ∷ w) (λ q. omega arith)) ∙ rw (← e) (from-digit (2 ^ 64) 0 b w (digit b l u))

pub digits-start : (s : List ℕ) (at : ℕ) → at < length s → 48 ≤ get_or s at 0 → get_or s at 0 ≤ 57 → DigitsTo s at (at + 1) (get_or s at 0 - 48)
digits-start s at h l u =
    let one : at + 1 - at ≡ 1 = omega arith in
    record {
      passed = passed-more s at at (passed_none s at (omega arith)) h (omega arith) (omega arith);
      some = omega arith;
      few = omega arith;
      small = rw one (omega arith);
      goes = rw (word-step s at h (solid (get_or s at 0) (omega arith))) (begins (get_or s at 0) (word (drop (at + 1) s)) l u);
    }

ten : (k : ℕ) → k ≤ 18 → 10 ^ k ≤ 10 ^ 18
ten k h = pow-le-pow_right (omega arith) h

module _ (s : List ℕ) (at i v : ℕ) (d : DigitsTo s at i v) where
  pub digits-fit : v < 10 ^ 18
  digits-fit = omega (arith, d.small, ten (i - at) (omega (arith, d.few)))

  pub digits_more : i < length s → i < at + 18 → 48 ≤ get_or s i 0 → get_or s i 0 ≤ 57 → DigitsTo s at (i + 1) (v * 10 + (get_or s i 0 - 48))
  digits_more h f l u =
      let k : i + 1 - at ≡ suc (i - at) = omega (arith, d.some) in
      record {
        passed = passed-more s at i d.passed h (omega arith) (omega arith);
        some = omega (arith, d.some);
        few = omega arith;
        small = rw (k, pow-suc 10 (i - at)) (omega (arith, d.small));
        goes = d.goes ∙ rw (word-step s i h (solid (get_or s i 0) (omega arith))) (from-digit (2 ^ 64) v (get_or s i 0) (word (drop (i + 1) s)) (digit (get_or s i 0) l u));
      }

  pub digits-end : i < length s → is_blank (get_or s i 0) ≡ true → Whole s at i × (parse_below (2 ^ 64) (word (drop at s)) ≡ Some v)
  digits-end h e = (
    passed-end s at i d.passed h d.some (omega (arith, d.few)) e,
    d.goes ∙ rw (word-stop s i h e) (from_end (2 ^ 64) v (omega (arith, digits-fit))),
  )

  -- a byte that is no digit ends them, or it is a miss
  pub digits-judged : i < length s → FastNumber s at (cond (is_blank (get_or s i 0)) (Some (v, i)) None)
  digits-judged h = by-test (is_blank (get_or s i 0)) (λ e. rw e (digits-end h e)) (λ e. rw e tt)

-- ---- ids
pub record IdTo (s : List ℕ) (at i sum power : ℕ) : Type 0 where
  pub passed : Passed s at i
  pub some : at < i
  pub few : i ≤ at + 9
  pub positive : 1 ≤ sum
  pub size : power ≡ 94 ^ (i - at)
  pub small : sum < 2 * power
  pub ids : all_id (word (drop at s)) ≡ all_id (word (drop i s))
  pub sums : id_sum (word (drop at s)) ≡ sum + power * id_sum (word (drop i s))

all-step : (b : ℕ) (w : List ℕ) → 33 ≤ b → b ≤ 126 → all_id (b ∷ w) ≡ all_id w
unfolding all_id
all-step b w l u = rw (id-byte b l u)

pub id-start : (s : List ℕ) (at : ℕ) → at < length s → 33 ≤ get_or s at 0 → get_or s at 0 ≤ 126 → IdTo s at (at + 1) (get_or s at 0 - 32) 94
id-start s at h l u =
    let one : at + 1 - at ≡ 1 = omega arith in
    let e = word-step s at h (solid (get_or s at 0) (omega arith)) in
    record {
      passed = passed-more s at at (passed_none s at (omega arith)) h (omega arith) (omega arith);
      some = omega arith;
      few = omega arith;
      positive = omega arith;
      size = rw one;
      small = omega arith;
      ids = rw e (all-step (get_or s at 0) (word (drop (at + 1) s)) l u);
      sums = rw e (sum-cons (get_or s at 0) (word (drop (at + 1) s)));
    }

-- one byte more: sum + power × (d + 94 × rest)
spread : (sum power d x : ℕ) → sum + power * (d + 94 * x) ≡ (sum + d * power) + (power * 94) * x
spread sum power d x = rw (mul-add power d (94 * x), ← mul_assoc power 94 x, mul_comm power d) (omega arith)

ninety : (k : ℕ) → k ≤ 8 → 94 ^ k ≤ 94 ^ 8
ninety k h = pow-le-pow_right (omega arith) h

module _ (s : List ℕ) (at i sum power : ℕ) (d : IdTo s at i sum power) where
  pub power-fits : i < at + 9 → power ≤ 94 ^ 8
  power-fits f = rw d.size (ninety (i - at) (omega arith))

  pub product-fits : (b : ℕ) → b ≤ 126 → (b - 32) * power ≤ 94 * power
  product-fits b u = mul-le-mul_right power (omega arith)

  pub id-more : i < length s → i < at + 9 → 33 ≤ get_or s i 0 → get_or s i 0 ≤ 126
      → IdTo s at (i + 1) (sum + (get_or s i 0 - 32) * power) (power * 94)
  id-more h f l u =
      let k : i + 1 - at ≡ suc (i - at) = omega (arith, d.some) in
      let e = word-step s i h (solid (get_or s i 0) (omega arith)) in
      record {
        passed = passed-more s at i d.passed h (omega arith) (omega arith);
        some = omega (arith, d.some);
        few = omega arith;
        positive = omega (arith, d.positive);
        size = rw (k, pow-suc 94 (i - at), d.size);
        small = omega (arith, d.small, product-fits (get_or s i 0) u);
        ids = d.ids ∙ rw e (all-step (get_or s i 0) (word (drop (i + 1) s)) l u);
        sums = d.sums ∙ rw (e, sum-cons (get_or s i 0) (word (drop (i + 1) s))) (spread sum power (get_or s i 0 - 32) (id_sum (word (drop (i + 1) s))));
      }

means : (w : List ℕ) (n : ℕ) → all_id w ≡ true → id_sum w ≡ n → 1 ≤ n → n < 2 ^ 64 → parse_id w ≡ Ok (record { 0 = n - 1 })
unfolding parse_id sum_from
means [] n a e p h = absurd (omega (arith, e))
means (b ∷ w) n a e p h = rw (tail-good (b ∷ w) a, a, e, lt-leb (2 ^ 64) n h)

module _ (s : List ℕ) (at i sum power : ℕ) (d : IdTo s at i sum power) where
  sum_fits : sum < 2 ^ 64
  sum_fits =
      let k : i - at ≤ 9 = omega (arith, d.few) in
      let p : power ≤ 94 ^ 9 = rw d.size (pow-le-pow_right (omega arith) k) in
      omega (arith, d.small)

  pub id-end : i < length s → is_blank (get_or s i 0) ≡ true → Whole s at i × (parse_id (word (drop at s)) ≡ Ok (record { 0 = sum - 1 }))
  unfolding all_id sum_from
  id-end h e =
      let w = word-stop s i h e in
      let total : id_sum (word (drop at s)) ≡ sum = d.sums ∙ rw (w, mul-zero power) (add-zero sum) in (
        passed-end s at i d.passed h d.some (omega (arith, d.few)) e,
        means (word (drop at s)) sum (d.ids ∙ rw w) total d.positive sum_fits,
      )

-- an id of one byte
pub id-one : (s : List ℕ) (at : ℕ) → at + 1 < length s → 33 ≤ get_or s at 0 → get_or s at 0 ≤ 126 → is_blank (get_or s (at + 1) 0) ≡ true
    → Whole s at (at + 1) × (parse_id (word (drop at s)) ≡ Ok (record { 0 = get_or s at 0 - 33 }))
id-one s at h l u e =
    let less : get_or s at 0 - 32 - 1 ≡ get_or s at 0 - 33 = omega arith in
    rw less at (id-end s at (at + 1) (get_or s at 0 - 32) 94 (id-start s at (omega arith) l u) h e)
