-- The loop that writes a number's digits into a row of zeros or a buffer, from the last to the first.
use Rattle.std.specs.Prelude.{Some}
use Prim.Native.Nat.{ℕ, suc, ◌+◌, ◌-◌, ◌/◌, ◌%◌, ◌≤◌, ◌<◌}
use mathlib.Core.Path.{◌≡◌, sym, ◌∙◌, ap}
use mathlib.Core.List.{List, [], ◌∷◌, ◌++◌}
use native.Mathlib.Nat.{le_refl}
use native.Mathlib.Omega.{arith}
use lib.Dec.{ltb}
use lib.ListN.{length, get_or, take, drop, set, replicate, length-append, take-append-drop, get_or-append}
use lib.Seq.{take-suc, take_at, take-length, get_or_at, drop-cons, drop-append_seam, append_snoc, set_at, length-take-le}
use Rattle.std.proofs.lemmas.List.{drop-replicate}
use Rattle.text.specs.Texts.{spelled, put_answer, put_bytes}
use Rattle.text.proofs.Lists.{by-test}
use Rattle.text.proofs.Rows.{row-spelled, copy_done}
use Rattle.number.specs.Decimal.{decimal_of}
use Rattle.number.proofs.Writing.{front, last-digit}

-- where the text of m is the first j + 1 bytes of t, the byte at j is m's last digit, and the bytes before it are what stands before that digit
module _ (t : List ℕ) (j m : ℕ) (h : j < length t) (e : decimal_of m ≡ take (suc j) t) where
  same : front m ++ (48 + m % 10) ∷ [] ≡ take j t ++ get_or t j 0 ∷ []
  same = sym (last-digit m) ∙ e ∙ take-suc t j 0 h

  before : length (take j t) ≡ j
  before = length-take-le j t (omega arith)

  size : length (front m) ≡ j
  size = omega (arith, before, simp length-append at (ap length same))

  cut-last : 48 + m % 10 ≡ get_or t j 0
  cut-last = sym (get_or_at (front m) (48 + m % 10) [] 0 j size) ∙ ap (λ (l : List ℕ). get_or l j 0) same ∙ get_or_at (take j t) (get_or t j 0) [] 0 j before

  cut-front : front m ≡ take j t
  cut-front = sym (take_at (front m) ((48 + m % 10) ∷ []) j size) ∙ ap (take j) same ∙ take_at (take j t) (get_or t j 0 ∷ []) j before

  cut-rest : 0 < j → decimal_of (m / 10) ≡ take j t
  cut-rest g = by-test (ltb m 10) (λ q. absurd (let z = rw q at size in omega arith)) (λ q. rw q at cut-front)

-- the row that a number's text is written into: the text, then what stood there before
abbrev filled : ℕ → List ℕ → List ℕ
filled n old = decimal_of n ++ drop (length (decimal_of n)) old

-- in a row that is `old` up to j + 1, and from there on has the bytes that it is to have, the byte at j is written
fill_step : (old row : List ℕ) (j v : ℕ) → j < length old → j < length row → v ≡ get_or row j 0
    → set (take (suc j) old ++ drop (suc j) row) j v ≡ take j old ++ drop j row
fill_step old row j v g h e =
    rw (
      take-suc old j 0 g,
      append_snoc (take j old) (get_or old j 0) (drop (suc j) row),
      set_at (take j old) (get_or old j 0) (drop (suc j) row) v j (length-take-le j old (omega arith)),
      e,
      drop-cons row j 0 h,
    )

-- ---- the row is written from i on, and the text of `rest` is what is to be written before
pub record Filled (n : ℕ) (old bytes : List ℕ) (rest i : ℕ) : Type 0 where
  pub room : length (decimal_of n) ≤ length old
  pub within : i ≤ length (decimal_of n)
  pub made : bytes ≡ take i old ++ drop i (filled n old)
  pub left : 0 < i → decimal_of rest ≡ take i (decimal_of n)

pub fill_start : (n i : ℕ) (old : List ℕ) → i ≡ length (decimal_of n) → i ≤ length old → Filled n old old n i
fill_start n i old e h =
    let t : List ℕ = decimal_of n in
    record {
      room = omega arith;
      within = omega arith;
      made = rw (e, drop-append_seam t (drop (length t) old)) (sym (take-append-drop (length t) old));
      left = λ g. rw (e, take-length t);
    }

fill_suc : (n : ℕ) (old bytes : List ℕ) (rest j : ℕ) → Filled n old bytes rest (suc j) → Filled n old (set bytes j (48 + rest % 10)) (rest / 10) j
fill_suc n old bytes rest j f =
    let t : List ℕ = decimal_of n in
    let h : j < length t = f.within in
    let part : decimal_of rest ≡ take (suc j) t = f.left (omega arith) in
    let digit : 48 + rest % 10 ≡ get_or (filled n old) j 0 = cut-last t j rest h part ∙ sym (get_or-append t _ 0 j h) in
    record {
      room = f.room;
      within = omega arith;
      made = rw f.made (fill_step old (filled n old) j (48 + rest % 10) (omega (arith, f.room)) (simp length-append (omega arith)) digit);
      left = cut-rest t j rest h part;
    }

module _ (n : ℕ) (old bytes : List ℕ) (rest i : ℕ) (f : Filled n old bytes rest i) where
  pub fill_more : 0 < i → Filled n old (set bytes (i - 1) (48 + rest % 10)) (rest / 10) (i - 1)
  fill_more g = let e : i ≡ suc (i - 1) = omega arith in fill_suc n old bytes rest (i - 1) (rw e at f)

  pub fill_done : i ≤ 0 → bytes ≡ filled n old
  fill_done h = let z : i ≡ 0 = omega arith in rw z at f.made

-- the two ways to hand it over: in a row of zeros, and in the buffer of whoever asks
module _ (n len : ℕ) (bytes : List ℕ) (rest i : ℕ) (e : len ≡ length (decimal_of n)) (h : i ≤ 0) where
  pub fill-spelled : Filled n (replicate 32 0) bytes rest i → record { bytes = bytes; len = len } ≡ spelled (decimal_of n)
  fill-spelled f = row-spelled (decimal_of n) bytes len (sym e) (fill_done n (replicate 32 0) bytes rest i f h ∙ rw (← e, drop-replicate {X = ℕ} len 32 0))

  pub fill-put : (old : List ℕ) → Filled n old bytes rest i → (Some len ≡ put_answer (decimal_of n) old) × (bytes ≡ put_bytes (decimal_of n) old)
  fill-put old f =
      let t : List ℕ = decimal_of n in
      rw e (copy_done t old bytes (length t) (record { room = f.room; within = le_refl _; made = rw (take-length t) (fill_done n old bytes rest i f h) }) (le_refl _))
