-- Laws of words, which have no newline: where one ends, the cursor after it, and the three ways in which it ends.
use Prim.Native.Nat.{ℕ, zero, suc, ◌+◌, ◌-◌, ◌/◌, ◌≤◌, ◌<◌, min}
use mathlib.Core.Path.{◌≡◌, refl, sym, ap, ◌∙◌}
use mathlib.Core.Bool.{true, false, cond, true≢false}
use mathlib.Core.List.{List, [], ◌∷◌}
use native.Mathlib.Nat.{add-zero}
use native.Mathlib.Omega.{arith}
use borrow.Author.Tests.{ltb-true, ltb-false, eqb-true, eqb-false}
use Rattle.std.proofs.Common.{Option, Some, None, Ok, Err}
use Rattle.std.specs.List.{position_or_len}
use lib.Dec.{eqb, ltb}
use lib.ListN.{length, take, drop, get_or, length-take, length-drop, drop_of_length-le}
use lib.Seq.{get_or-drop}
use Rattle.text.specs.Bytes.{is_blank, has}
use Rattle.text.proofs.Lists.{by-test, drop-step}
use Rattle.value.specs.Values.{is_value}
use Rattle.value.proofs.Values.{by_value}
use Rattle.command.specs.declared.Refusal.TheVariants.{UnexpectedEof}
use Rattle.token.specs.Read.{Bound, values, passed, beyond, Valid, byte_read, end_read, after, rest, word, values_in, word_here, token}
use Rattle.token.specs.Flat.{word_read, word_end_read, first_passed}
use Rattle.token.specs.declared.Cursor.{Cursor}
use Rattle.token.proofs.Reading.{word-le, skip_stop}
use Rattle.token.proofs.Tokens.{token-long, token-eof, token-text}

-- ---- one byte of a word, and where it ends
module _ (s : List ℕ) (i : ℕ) where
  pub word-step : i < length s → is_blank (get_or s i 0) ≡ false → word (drop i s) ≡ get_or s i 0 ∷ word (drop (i + 1) s)
  unfolding word
  word-step h e = rw (drop-step s i h, e)

  pub word-stop : i < length s → is_blank (get_or s i 0) ≡ true → word (drop i s) ≡ []
  unfolding word
  word-stop h e = rw (drop-step s i h, e)

-- no byte of a word is a blank
pub word_in : (r : List ℕ) (i : ℕ) → i < length (word r) → is_blank (get_or r i 0) ≡ false
unfolding word
word_in [] i h = absurd (omega arith)
word_in (b ∷ r) zero h = by-test (is_blank b) (λ e. absurd (let k = rw e at h in omega arith)) (λ e. e)
word_in (b ∷ r) (suc i) h =
    by-test (is_blank b) (λ e. absurd (let k = rw e at h in omega arith))
    (λ e. word_in r i (let k = rw e at h in omega arith))

-- the byte after a word is a blank
pub word_out : (r : List ℕ) → length (word r) < length r → is_blank (get_or r (length (word r)) 0) ≡ true
unfolding word
word_out [] h = absurd (omega arith)
word_out (b ∷ r) h = by-test (is_blank b) (λ e. rw (e, e)) (λ e. rw e (word_out r (let k = rw e at h in omega arith)))

-- a word is the front of its list
pub word-front : (r : List ℕ) (n : ℕ) → n ≤ length (word r) → take n (word r) ≡ take n r
unfolding word
word-front r zero h = refl
word-front [] (suc n) h = refl
word-front (b ∷ r) (suc n) h =
    by-test (is_blank b) (λ e. absurd (let k = rw e at h in omega arith))
    (λ e. rw e (ap (λ (l : List ℕ). b ∷ l) (word-front r n (let k = rw e at h in omega arith))))

-- ---- where a word ends, or its first bytes: r is what `position` answered of the blanks in the n bytes from `at` on
first_blank : (l : List ℕ) (n : ℕ) → n ≤ length l → position_or_len is_blank (take n l) ≡ length (take n (word l))
unfolding word
first_blank l zero h = refl
first_blank [] (suc n) h = refl
first_blank (b ∷ l) (suc n) h =
    by-test (is_blank b) (λ e. rw e) (λ e. rw e (omega (arith, first_blank l n (omega arith))))

abbrev pub Blank : List ℕ → ℕ → ℕ → Option ℕ → Type 0
Blank s at n r =
    let l : List ℕ = take n (drop at s) in
    r ≡ cond (ltb (position_or_len is_blank l) (length l)) (Some (position_or_len is_blank l)) None

module _ (s : List ℕ) (at limit stop : ℕ) (h : at ≤ length s) (e : stop ≡ min (length s) (at + limit)) (r : Option ℕ) (q : Blank s at (stop - at) r) where
  blank_size : length (take (stop - at) (drop at s)) ≡ stop - at
  blank_size = simp (length-take, length-drop) (omega arith)

  blank_place : position_or_len is_blank (take (stop - at) (drop at s)) ≡ min (stop - at) (length (word (drop at s)))
  blank_place = first_blank (drop at s) (stop - at) (simp length-drop (omega arith)) ∙ length-take (stop - at) (word (drop at s))

  pub blank-at : (n : ℕ) → r ≡ Some n → (n < stop - at) × (at + n ≡ at + length (take limit (word (drop at s))))
  blank-at n p =
      by-test (ltb (min (stop - at) (length (word (drop at s)))) (stop - at))
      (λ t.
      let k : Some n ≡ Some (min (stop - at) (length (word (drop at s)))) = sym p ∙ rw (blank_place, blank_size, t) at q in
      let same : n ≡ min (stop - at) (length (word (drop at s))) = cc in
      (omega (arith, ltb-true _ _ t), rw length-take (omega (arith, ltb-true _ _ t))))
      (λ t. absurd (let k : Some n ≡ None = sym p ∙ rw (blank_place, blank_size, t) at q in cc))

  pub no-blank : r ≡ None → stop ≡ at + length (take limit (word (drop at s)))
  no-blank p =
      by-test (ltb (min (stop - at) (length (word (drop at s)))) (stop - at))
      (λ t. absurd (let k : None ≡ Some (min (stop - at) (length (word (drop at s)))) = sym p ∙ rw (blank_place, blank_size, t) at q in cc))
      (λ t. rw length-take (omega (arith, ltb-false _ _ t, word-le (drop at s), length-drop at s)))

-- ---- a byte that is no blank is no newline: the cursor moves once
solid : (b : ℕ) → is_blank b ≡ false → eqb b 10 ≡ false
unfolding is_blank
solid b e = by-test (eqb b 10) (λ q. absurd (true≢false (rw (eqb-true b 10 q) at e))) (λ q. q)

pub solid-read : (c : Cursor) (b : ℕ) → is_blank b ≡ false → word_end_read c (c.place + 1) ≡ byte_read c b
unfolding byte_read word_end_read
solid-read c b e = rw (solid b e)

-- the cursor after the first n bytes of a word, and the byte after them
pub behind : (r : List ℕ) (n : ℕ) (c : Cursor) → n ≤ length (word r) → n < length r
    → after (take (n + 1) r) c ≡ word_read c (c.place + n) (get_or r n 0)
unfolding word after byte_read word_read
behind [] n c h k = absurd (omega arith)
behind (b ∷ r) zero c h k = rw (add-zero c.place)
behind (b ∷ r) (suc n) c h k =
    by-test (is_blank b) (λ e. absurd (let z = rw e at h in omega arith))
    (λ e.
    let z = rw e at h in
    let more : suc n + 1 ≡ suc (n + 1) = omega arith in
    let there : c.place + 1 + n ≡ c.place + suc n = omega arith in
    rw more (behind r n (byte_read c b) (omega arith) (omega arith) ∙ rw (solid b e, there, add-zero)))

-- the cursor after a word, where the input ends
pub behind-end : (r : List ℕ) (c : Cursor) → end_read (after (word r) c) ≡ word_end_read c (c.place + length (word r))
unfolding word after byte_read end_read word_end_read
behind-end [] c = rw (add-zero c.place)
behind-end (b ∷ r) c =
    by-test (is_blank b) (λ e. rw (e, add-zero c.place))
    (λ e.
    let there : c.place + 1 + length (word r) ≡ c.place + suc (length (word r)) = omega arith in
    rw e (behind-end r (byte_read c b) ∙ rw (solid b e, there, add-zero)))

-- ---- the three ways out, where the bytes that pass end before `end`
module _ (s : List ℕ) (c : Cursor) (n : Bound) (end : ℕ) (v : Valid s c)
    (long : end ≡ c.place + length (first_passed n (rest s c))) where
  abbrev r : List ℕ
  r = rest s c

  abbrev w : List ℕ
  w = word (rest s c)

  ends : end ≡ c.place + min (passed n w) (length w)
  unfolding first_passed
  ends = long ∙ ap (λ (k : ℕ). c.place + k) (length-take (passed n w) w)

  room : length r ≡ length s - c.place
  room = length-drop c.place s

  pub in-input : Valid s c × ((c.place ≤ end) × (end ≤ length s))
  in-input = (v, (omega (arith, ends), omega (arith, ends, room, word-le r, v.within)))

  -- the byte there
  byte_at : (k : ℕ) → end ≡ c.place + k → get_or s end 0 ≡ get_or r k 0
  byte_at k e = rw e (sym (get_or-drop c.place s k 0))

  -- a blank: the whole word passes. Another byte: it does not
  whole : is_blank (get_or s end 0) ≡ true → length w ≤ passed n w
  whole e =
      by-test (ltb (passed n w) (length w))
      (λ q.
      let k : passed n w < length w = ltb-true _ _ q in
      absurd (true≢false (sym e ∙ ap is_blank (byte_at _ (omega (arith, ends))) ∙ word_in r _ k)))
      (λ q. ltb-false _ _ q)

  cut : end < length s → is_blank (get_or s end 0) ≡ false → passed n w < length w
  cut h e =
      by-test (ltb (passed n w) (length w)) (λ q. ltb-true _ _ q)
      (λ q.
      let k : length w ≤ passed n w = ltb-false _ _ q in
      absurd (true≢false (sym (word_out r (omega (arith, ends, room))) ∙ ap is_blank (sym (byte_at _ (omega (arith, ends)))) ∙ e)))

  pub here-eof : length s ≤ end → Err (UnexpectedEof, word_end_read c end) ≡ word_here s c n
  unfolding word_here
  here-eof h =
      let all : length w ≡ length r = omega (arith, ends, room, word-le r) in
      let there : end ≡ c.place + length w = omega (arith, ends, room) in
      rw (token-eof w r c n (omega (arith, ends, room)) all, behind-end r c, there)

  pub here-text : end < length s → is_blank (get_or s end 0) ≡ true
      → Ok (record { start = c.place; len = end - c.place }, word_read c end (get_or s end 0)) ≡ word_here s c n
  unfolding word_here
  here-text h e =
      let k = whole e in
      let more : length w < length r = omega (arith, ends, room) in
      let there : end ≡ c.place + length w = omega (arith, ends) in
      let len : end - c.place ≡ length w = omega arith in
      rw (len, byte_at _ there, there, token-text w r c n k more, behind r (length w) c (omega arith) more)

  pub here-long : end < length s → is_blank (get_or s end 0) ≡ false
      → Err (beyond n, word_read c end (get_or s end 0)) ≡ word_here s c n
  unfolding word_here
  here-long h e =
      let k = cut h e in
      let there : end ≡ c.place + passed n w = omega (arith, ends) in
      rw (byte_at _ there, there, token-long w r c n k, word-front r (passed n w + 1) (omega arith), behind r (passed n w) c (omega arith) (omega (arith, word-le r)))

-- ---- values
solid-value : (b : ℕ) → is_value b ≡ true → is_blank b ≡ false
unfolding is_blank
solid-value = by_value (λ b. is_blank b ≡ false) refl refl refl refl refl refl

module _ (s : List ℕ) (i : ℕ) where
  pub values-step : i < length s → is_value (get_or s i 0) ≡ true → values_in (drop i s) ≡ suc (values_in (drop (i + 1) s))
  unfolding values_in
  values-step h e = rw (drop-step s i h, e)

  pub values-stop : i < length s → is_value (get_or s i 0) ≡ false → values_in (drop i s) ≡ 0
  unfolding values_in
  values-stop h e = rw (drop-step s i h, e)

  pub values-none : length s ≤ i → values_in (drop i s) ≡ 0
  unfolding values_in
  values-none h = rw (drop_of_length-le s h)

-- `0` and `1`
pub pair-value : (b : ℕ) → b / 2 ≡ 24 → is_value b ≡ true
unfolding is_value has
pair-value b h =
    by-test (eqb b 48) (λ q. rw (eqb-true b 48 q))
    (λ q. let n = eqb-false b 48 q in let e : b ≡ 49 = omega arith in rw e)

-- only values stand from `at` up to i
abbrev pub ValuesTo : List ℕ → ℕ → ℕ → Type 0
ValuesTo s at i = (i ≤ length s) × (at ≤ i) × (at + values_in (drop at s) ≡ i + values_in (drop i s))

pub values-more : (s : List ℕ) (at i : ℕ) → ValuesTo s at i → i < length s → is_value (get_or s i 0) ≡ true → ValuesTo s at (i + 1)
values-more s at i p h e = (omega arith, omega (arith, p.1), omega (arith, p.2, values-step s i h e))

pub values-on : (s : List ℕ) (at i j : ℕ) → ValuesTo s at i → ValuesTo s i j → ValuesTo s at j
values-on s at i j p q = (q.0, omega (arith, p.1, q.1), p.2 ∙ q.2)

pub values-two : (s : List ℕ) (at i : ℕ) → ValuesTo s at i → i + 1 < length s → get_or s i 0 / 2 ≡ 24 → get_or s (i + 1) 0 / 2 ≡ 24
    → ValuesTo s at (i + 2)
values-two s at i p h a b =
    let one : ValuesTo s at (i + 1) = values-more s at i p (omega arith) (pair-value (get_or s i 0) a) in
    let two : i + 1 + 1 ≡ i + 2 = omega arith in
    rw two at (values-more s at (i + 1) one h (pair-value (get_or s (i + 1) 0) b))

-- values are no blanks: they lie in the word
pub values-in : (r : List ℕ) → length (first_passed values r) ≡ values_in r
unfolding first_passed values_in word
values-in [] = refl
values-in (b ∷ r) =
    by-test (is_value b) (λ e. rw (e, solid-value b e, e) (ap suc (values-in r)))
    (λ e. by-test (is_blank b) (λ q. rw (e, q)) (λ q. rw (e, q, e)))

-- values at the cursor, and a blank after them: no blank stands before, so they are the token
module _ (s : List ℕ) (c : Cursor) (end : ℕ) (v : Valid s c) (long : end ≡ c.place + values_in (rest s c)) where
  values-first : c.place < end → c.place < length s → is_blank (get_or s c.place 0) ≡ false
  values-first h k =
      by-test (is_value (get_or s c.place 0)) (λ e. solid-value (get_or s c.place 0) e)
      (λ e. absurd (omega (arith, values-stop s c.place k e)))

  pub values-here : c.place < end → end < length s → is_blank (get_or s end 0) ≡ true
      → Ok (record { start = c.place; len = end - c.place }, word_read c end (get_or s end 0)) ≡ token s c values
  unfolding token
  values-here h k e =
      let passes : end ≡ c.place + length (first_passed values (rest s c)) = omega (arith, values-in (rest s c)) in
      rw (skip_stop s c (omega arith) (values-first h (omega arith))) (here-text s c values end v passes k e)
