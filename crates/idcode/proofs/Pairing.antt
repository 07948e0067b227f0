-- Codes and texts are paired: what is spelled for a code is read as it, and an accepted text is what its code spells. Assumes nothing.
use Rattle.std.specs.Prelude.{Result, Ok, Err}
use Prim.Native.Nat.{ℕ, suc, ◌-◌, ◌^◌, ◌<◌}
use mathlib.Core.Path.{◌≡◌, refl, ap}
use mathlib.Core.Bool.{Bool, true, false, cond}
use mathlib.Core.List.{List, [], ◌∷◌}
use native.Mathlib.Nat.{le_refl}
use native.Mathlib.Omega.{arith}
use borrow.Author.Tests.{lt-leb, leb-false}
use lib.Dec.{leb}
use Rattle.text.proofs.Lists.{cond_both}
use Rattle.idcode.specs.declared.IdCode.{IdCode}
use Rattle.idcode.specs.declared.InvalidIdCode.{InvalidIdCode}
use Rattle.idcode.specs.declared.InvalidIdCode.TheVariants.{Empty, InvalidChars, TooLong}
use Rattle.idcode.specs.Id.{parse_id, is_id_byte, all_id, id_tail, id_sum, text_of, id_text}
use Rattle.idcode.proofs.Laws.{id_range, sum-cons, tail-good, sum-text, text-good, text-unique}

-- what is written for a code below 2^64 - 1 is read as that code
pub read-written : (code : ℕ) → code < 2 ^ 64 - 1 → parse_id (id_text code) ≡ Ok (record { 0 = code })
unfolding parse_id text_of id_tail
read-written code h =
    let n = suc code in
    let back : suc code - 1 ≡ code = omega arith in
    rw (text-good n n, sum-text n n (le_refl n), lt-leb (2 ^ 64) (suc code) (omega arith), back)

never : {A : Type 0} (r : Result IdCode InvalidIdCode) (e : InvalidIdCode) (code : IdCode) → r ≡ Err e → r ≡ Ok code → A
never r e code p q = absurd (let z : ◌≡◌ {A = ℕ} 0 1 = cc in omega arith)

accepted : (long good : Bool) (v : ℕ) (code : IdCode)
    → cond long (Err TooLong) (cond good (Ok (record { 0 = v })) (Err InvalidChars)) ≡ Ok code
    → (long ≡ false) × (good ≡ true) × (v ≡ code.0)
accepted true good v code e = never _ TooLong code refl e
accepted false false v code e = never _ InvalidChars code refl e
accepted false true v code e =
    let same : ◌≡◌ {A = IdCode} (record { 0 = v }) code = cc in (refl, refl, ap (λ (c : IdCode). c.0) same)

-- the sum of a text that is read, which is one more than its code, fits
module _ (b : ℕ) (s : List ℕ) (code : IdCode) (e : parse_id (b ∷ s) ≡ Ok code) where
  read_as : (leb (2 ^ 64) (id_sum (id_tail (b ∷ s))) ≡ false) × (all_id (b ∷ s) ≡ true) × (id_sum (b ∷ s) - 1 ≡ code.0)
  unfolding parse_id
  read_as = accepted (leb (2 ^ 64) (id_sum (id_tail (b ∷ s)))) (all_id (b ∷ s)) (id_sum (b ∷ s) - 1) code e

  sum_is : id_sum (b ∷ s) ≡ suc code.0
  unfolding all_id
  sum_is = omega (arith, read_as.2, sum-cons b s, (id_range b (cond_both (is_id_byte b) (all_id s) read_as.1).0).0)

  sum_fits : id_sum (b ∷ s) < 2 ^ 64
  sum_fits = rw (tail-good (b ∷ s) read_as.1) at (leb-false (2 ^ 64) (id_sum (id_tail (b ∷ s))) read_as.0)

-- a text that is read as a code is what is written for it
pub written_read : (s : List ℕ) (code : IdCode) → parse_id s ≡ Ok code → id_text code.0 ≡ s
unfolding parse_id
written_read [] code e = never _ Empty code refl e
written_read (b ∷ s) code e = rw (← sum_is b s code e) (text-unique (b ∷ s) (id_sum (b ∷ s)) (read_as b s code e).1 (le_refl _))

-- the largest number is no code that is read
pub id_below : (s : List ℕ) (code : IdCode) → parse_id s ≡ Ok code → code.0 < 2 ^ 64 - 1
unfolding parse_id
id_below [] code e = never _ Empty code refl e
id_below (b ∷ s) code e = omega (arith, sum_is b s code e, sum_fits b s code e)
