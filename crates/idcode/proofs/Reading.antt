-- The steps of reading an id text from its last byte, over the definitions of specs/Id.antt: where it starts, goes on and ends.
-- Assumes nothing.
use Rattle.std.specs.Prelude.{Ok, Err}
use Prim.Native.Nat.{ℕ, zero, suc, ◌+◌, ◌-◌, ◌*◌, ◌^◌, ◌≤◌, ◌<◌}
use mathlib.Core.Path.{◌≡◌, refl, ap}
use mathlib.Core.Bool.{true, false, cond}
use mathlib.Core.List.{List, [], ◌∷◌}
use native.Mathlib.Nat.{le_refl}
use native.Mathlib.Omega.{arith}
use borrow.Author.Tests.{le-leb, lt-leb}
use lib.Dec.{leb}
use lib.ListN.{length, get_or, drop}
use lib.Seq.{drop-cons, drop-length}
use Rattle.text.proofs.Lists.{cond_both}
use Rattle.idcode.specs.declared.InvalidIdCode.TheVariants.{Empty, InvalidChars, TooLong}
use Rattle.idcode.specs.Id.{parse_id, is_id_byte, all_id, id_tail, sum_from, id_sum}
use Rattle.idcode.proofs.Laws.{sum-cons, id-byte, id_range, tail-good, tail-bad, tail-most}

-- what stands from i on is read: id bytes alone, with this sum
pub record ReadFrom (s : List ℕ) (i sum : ℕ) : Type 0 where
  pub within : i ≤ length s
  pub some : 0 < length s
  pub fits : sum < 2 ^ 64
  pub good : all_id (drop i s) ≡ true
  pub means : sum ≡ id_sum (drop i s)

some-text : (s : List ℕ) → 0 < length s → parse_id s ≡
    cond (leb (2 ^ 64) (id_sum (id_tail s))) (Err TooLong) (cond (all_id s) (Ok (record { 0 = id_sum s - 1 })) (Err InvalidChars))
unfolding parse_id
some-text [] h = absurd (omega arith)
some-text (b ∷ s) h = refl

pub read_none : (s : List ℕ) → length s ≡ 0 → Err Empty ≡ parse_id s
unfolding parse_id
read_none [] h = refl
read_none (b ∷ s) h = absurd (omega arith)

pub read-start : (s : List ℕ) → (length s ≡ 0 → ⊥) → ReadFrom s (length s) 0
unfolding all_id sum_from
read-start s h = record { within = le_refl _; some = omega arith; fits = omega arith; good = rw drop-length; means = rw drop-length }

-- the byte before i, and the rest
module _ (s : List ℕ) (i sum : ℕ) (r : ReadFrom s i sum) (h : 0 < i) where
  front : drop (i - 1) s ≡ get_or s (i - 1) 0 ∷ drop i s
  front =
      let inside : i - 1 < length s = omega arith in
      let next : suc (i - 1) ≡ i = omega arith in
      rw next at (drop-cons s (i - 1) 0 inside)

  pub read-bad : is_id_byte (get_or s (i - 1) 0) ≡ false → Err InvalidChars ≡ parse_id s
  read-bad e =
      let inside : i - 1 < length s = omega arith in
      let next : i ≡ suc (i - 1) = omega arith in
      let t = tail-bad s (i - 1) inside (rw next at r.good) e in
      let small : id_sum (id_tail s) < 2 ^ 64 = omega (arith, r.means, r.fits, ap id_sum t.0, ap (λ (k : ℕ). id_sum (drop k s)) next) in
      rw (some-text s r.some, lt-leb (2 ^ 64) (id_sum (id_tail s)) small, t.1)

  more-good : 33 ≤ get_or s (i - 1) 0 → get_or s (i - 1) 0 ≤ 126 → all_id (drop (i - 1) s) ≡ true
  unfolding all_id
  more-good l u = rw (front, id-byte (get_or s (i - 1) 0) l u) r.good

  more-means : sum * 94 + (get_or s (i - 1) 0 - 32) ≡ id_sum (drop (i - 1) s)
  more-means = rw (front, sum-cons (get_or s (i - 1) 0) (drop i s)) (omega (arith, r.means))

  pub read_more : 33 ≤ get_or s (i - 1) 0 → get_or s (i - 1) 0 ≤ 126 → sum * 94 + (get_or s (i - 1) 0 - 32) < 2 ^ 64
      → ReadFrom s (i - 1) (sum * 94 + (get_or s (i - 1) 0 - 32))
  read_more l u f = record { within = omega arith; some = r.some; fits = f; good = more-good l u; means = more-means }

  pub read-long : 33 ≤ get_or s (i - 1) 0 → get_or s (i - 1) 0 ≤ 126 → 2 ^ 64 ≤ sum * 94 + (get_or s (i - 1) 0 - 32)
      → Err TooLong ≡ parse_id s
  read-long l u f =
      let big : 2 ^ 64 ≤ id_sum (id_tail s) = omega (arith, more-means, tail-most s (i - 1) (more-good l u)) in
      rw (some-text s r.some, le-leb (2 ^ 64) (id_sum (id_tail s)) big)

-- at the front, where i is 0
front_read : (s : List ℕ) (i sum : ℕ) → ReadFrom s i sum → i ≤ 0 → ReadFrom s 0 sum
front_read s zero sum r h = r
front_read s (suc i) sum r h = absurd (omega arith)

-- a text that is read whole has a sum of 1 or more
some-sum : (s : List ℕ) → 0 < length s → all_id s ≡ true → 1 ≤ id_sum s
unfolding all_id
some-sum [] h e = absurd (omega arith)
some-sum (b ∷ s) h e = omega (arith, sum-cons b s, (id_range b (cond_both (is_id_byte b) (all_id s) e).0).0)

module _ (s : List ℕ) (i sum : ℕ) (q : ReadFrom s i sum) (h : i ≤ 0) where
  pub read_some : 1 ≤ sum
  read_some = let r = front_read s i sum q h in omega (arith, r.means, some-sum s r.some r.good)

  pub read_done : Ok (record { 0 = sum - 1 }) ≡ parse_id s
  read_done =
      let r = front_read s i sum q h in
      let small : id_sum s < 2 ^ 64 = omega (arith, r.means, r.fits) in
      rw (some-text s r.some, r.means, tail-good s r.good, r.good, lt-leb (2 ^ 64) (id_sum s) small)
