-- The steps of trimming a text at its front and at its end (specs/WhiteSpace.antt). Assumes nothing.
use Prim.Native.Nat.{ℕ, zero, suc, ◌+◌, ◌-◌, ◌≤◌, ◌<◌, zero-le}
use mathlib.Core.Path.{◌≡◌, refl, sym, ◌∙◌, ap}
use mathlib.Core.List.{List, [], ◌∷◌}
use native.Mathlib.Nat.{le_refl}
use native.Mathlib.Decide.{dec_lt}
use native.Mathlib.Omega.{arith}
use borrow.Author.Tests.{eq-eqb, ne_eqb}
use lib.Dec.{eqb}
use lib.ListN.{length, take, drop, length-drop}
use lib.Seq.{drop-drop, drop-length}
use Rattle.white_space.specs.WhiteSpace.{blank_at, blanks, all_white, kept_of, Before, trimmed}
use Rattle.white_space.proofs.Blank.{cond-le, inside, sync, none, one_more, run-within}
use Rattle.text.proofs.Lists.{by-test, take_rest}

-- ---- the front

-- the i bytes at the front are White_Space, and whatever run goes on there
pub record Skipped (s : List ℕ) (i : ℕ) : Type 0 where
  pub reach : i ≤ length s
  pub goes : blanks 0 s ≡ i + blanks 0 (drop i s)

pub skip-start : (s : List ℕ) → Skipped s 0
skip-start s = record { reach = omega arith; goes = omega arith }

module _ (s : List ℕ) (i n : ℕ) (k : Skipped s i) (e : n ≡ blank_at (drop i s)) where
  pub skip-room : i + n ≤ length s
  skip-room = omega (arith, inside (drop i s), length-drop i s, k.reach)

  pub skip-more : (n ≡ 0 → ⊥) → Skipped s (i + n)
  skip-more h =
      let m = one_more (drop i s) n (sym e) (omega arith) in
      let d = ap (blanks 0) (drop-drop n i s) in
      record { reach = skip-room; goes = omega (arith, k.goes) }

  pub skip-last : n ≡ 0 → i ≡ blanks 0 s
  skip-last h = omega (arith, k.goes, none (drop i s) (sym e ∙ h))

pub skip_all : (s : List ℕ) (i : ℕ) → Skipped s i → length s ≤ i → i ≡ blanks 0 s
skip_all s i k h =
    omega (arith, k.goes, k.reach, run-within (drop i s), length-drop i s)

-- ---- the end

-- what stands from j on is White_Space alone
abbrev pub Blank : List ℕ → ℕ → Type 0
Blank s j = blanks 0 (drop j s) ≡ length (drop j s)

-- such a run, cut where it is again such a run, has a character that ends at the cut
record Ends (s : List ℕ) (j : ℕ) : Type 0 where
  m : ℕ
  some : 0 < m
  most : m ≤ j
  is : blank_at (drop (j - m) s) ≡ m

first : (s : List ℕ) → 0 < length s → Blank s 0 → 0 < blank_at s
first s h e = go (blank_at s) refl
  where
    go : (n : ℕ) → blank_at s ≡ n → 0 < n
    go zero q = absurd (omega (arith, none s q))
    go (suc n) q = omega arith

rest : (s : List ℕ) → 0 < blank_at s → Blank s 0 → Blank (drop (blank_at s) s) 0
rest s h e = omega (arith, one_more s (blank_at s) refl h, length-drop (blank_at s) s, inside s)

-- drop a, then b: drop their sum, which is j
drops : (s : List ℕ) (a b j : ℕ) → a + b ≡ j → drop b (drop a s) ≡ drop j s
drops s a b j e = rw (← e) (drop-drop b a s)

cut_step : (j n : ℕ) (s : List ℕ) → blank_at s ≡ n → 0 < j → j ≤ length s → Blank s j → (n < j → Ends (drop n s) (j - n))
    → Dec (n < j) → Dec (j < n) → Ends s j
cut_step j n s e h g q ih (yes a) d =
    let r = ih a in
    let m = r.m in
    let place : n + (j - n - m) ≡ j - m = omega (arith, r.most) in
    record { m = m; some = r.some; most = omega (arith, r.most); is = rw (drops s n (j - n - m) (j - m) place) at r.is }
cut_step j n s e h g q ih (no a) (yes b) =
    let z = sync s j h (rw e b) in
    absurd (omega (arith, none (drop j s) z, inside s, length-drop j s))
cut_step j n s e h g q ih (no a) (no b) =
    let z : j - j ≡ 0 = omega arith in
    record { m = j; some = h; most = le_refl j; is = rw z (e ∙ omega arith) }

cut : (fuel j : ℕ) (s : List ℕ) → j ≤ fuel → 0 < j → j ≤ length s → Blank s 0 → Blank s j → Ends s j
cut zero j s f h g e q = absurd (omega arith)
cut (suc fuel) j s f h g e q =
    let n = blank_at s in
    let pos = first s (omega arith) e in
    cut_step j n s refl h g q
    (λ a.
    cut fuel (j - n) (drop n s) (omega (arith, pos)) (omega arith) (omega (arith, length-drop n s)) (rest s pos e)
    (rw (drops s n (j - n) j (omega arith)) q))
    (dec_lt n j) (dec_lt j n)

-- no run that begins before j, where no character ends at j
none_before : (s : List ℕ) (i j : ℕ) → i < j → j ≤ length s → Blank s j → Before s j 0 → Blank s i → ⊥
none_before s i j h g q b e =
    let t = drop i s in
    let r = cut (j - i) (j - i) t (le_refl _) (omega arith) (omega (arith, length-drop i s)) e
    (rw (drops s i (j - i) j (omega arith)) q) in
    let m = r.m in
    let place : i + (j - i - m) ≡ j - m = omega (arith, r.most) in
    b.missed refl m r.some (omega (arith, r.most)) (rw (drops s i (j - i - m) (j - m) place) at r.is)

kept_at : (s : List ℕ) (j : ℕ) → j ≤ length s → Blank s j → ((i : ℕ) → i < j → Blank s i → ⊥) → j ≡ kept_of s
unfolding kept_of all_white
kept_at [] j h q f = omega arith
kept_at (a ∷ s) zero h q f = rw (eq-eqb (blanks 0 (a ∷ s)) (length (a ∷ s)) q)
kept_at (a ∷ s) (suc j) h q f =
    rw (ne_eqb (blanks 0 (a ∷ s)) (length (a ∷ s)) (f 0 (omega arith)))
    (ap suc (kept_at s j (omega arith) q (λ i l. f (suc i) (omega arith))))

-- what stands from j on goes
pub record Cut (s : List ℕ) (j : ℕ) : Type 0 where
  pub reach : j ≤ length s
  pub blank : Blank s j

pub cut-start : (s : List ℕ) → Cut s (length s)
unfolding blanks
cut-start s = record { reach = le_refl _; blank = rw (drop-length s) }

module _ (s : List ℕ) (j n : ℕ) (k : Cut s j) (b : Before s j n) where
  pub cut-more : (n ≡ 0 → ⊥) → Cut s (j - n)
  cut-more h =
      let m = one_more (drop (j - n) s) n (b.found (omega arith)) (omega arith) in
      let d = drops s (j - n) n j (omega (arith, b.within)) in
      record { reach = omega (arith, k.reach); blank = omega (arith, ap (blanks 0) d, k.blank, length-drop j s, length-drop (j - n) s, k.reach, b.within) }

  pub cut-last : n ≡ 0 → j ≡ kept_of s
  cut-last h = kept_at s j k.reach k.blank (λ i l. none_before s i j l k.reach k.blank (rw h at b))

pub cut_all : (s : List ℕ) (j : ℕ) → Cut s j → j ≤ 0 → j ≡ kept_of s
cut_all s j k h = kept_at s j k.reach k.blank (λ i l. absurd (omega arith))

-- ---- both ends

pub start-within : (s : List ℕ) (start : ℕ) → start ≡ blanks 0 s → start ≤ length s
start-within s start p = omega (arith, run-within s)

module _ (s : List ℕ) (start len : ℕ) (p : start ≡ blanks 0 s) (q : len ≡ kept_of (take (length s - start) (drop start s))) where
  left : len ≡ kept_of (drop (blanks 0 s) s)
  left = rw (← p) (q ∙ ap kept_of (take_rest s start))

  pub trim-nothing : len ≡ 0 → record { start = 0; len = 0 } ≡ trimmed s
  trim-nothing h = rw (← left, eq-eqb len 0 h)

  pub trim-some : (len ≡ 0 → ⊥) → record { start = start; len = len } ≡ trimmed s
  trim-some h = rw (← left, ne_eqb len 0 h, p)

pub kept-within : (s : List ℕ) → kept_of s ≤ length s
unfolding kept_of
kept-within [] = zero-le
kept-within (a ∷ s) = cond-le (all_white (a ∷ s)) zero-le (omega (arith, kept-within s))

-- what trimming leaves lies in the text
pub trimmed-within : (s : List ℕ) → (trimmed s).start + (trimmed s).len ≤ length s
trimmed-within s =
    let start = blanks 0 s in
    let len = kept_of (drop start s) in
    by-test (eqb len 0) (λ q. rw q zero-le)
    (λ q. rw q (omega (arith, kept-within (drop start s), length-drop start s, run-within s)))
