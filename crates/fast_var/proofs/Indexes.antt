-- Laws of digits and of indexes in digits: what a run of digits means, and what `[n]` and `[m:n]` are read as. Assumes nothing.
use Rattle.std.proofs.Common.{◌≡◌, ℕ, suc, ◌+◌, ◌-◌, ◌*◌, ◌^◌, ◌<◌, ◌≤◌, true, List, [], ◌∷◌, ◌++◌, length, get_or, take, drop, ℤ, pos, sym, refl, ap, ◌∙◌, append-nil, pow-suc, arith, length-append, length-drop, take-append-drop, length-take, get_or-drop, take-suc, drop-drop, w32, to_z, lt-ltb, eq-eqb, ne_eqb, Some}
use native.Mathlib.Nat.{pow-le-pow_right}
use lib.Seq.{take-length, take-append_seam, get_or-append_seam, drop-append-add}
use mir.ValLaws.{to_z_pos}
use Rattle.text.specs.Bytes.{is_blank, starts, no_blank}
use Rattle.text.specs.Texts.{part}
use Rattle.utf8.specs.Utf8.{valid_utf8}
use Rattle.white_space.specs.WhiteSpace.{blanks, all_white, kept_of}
use Rattle.white_space.proofs.Blank.{blank_none, none as none_here}
use Rattle.text.proofs.Blanks.{solid}
use Rattle.text.proofs.Lists.{cond_both}
use Rattle.utf8.proofs.WellFormed.{ascii-first, empty-valid}
use Rattle.number.specs.Decimal.{is_digit, all_digits, value, number_from, digits_below, parse_below, plain}
use Rattle.number.proofs.Laws.{digit, digit-range, no_sign, sign-no}
use Rattle.number.proofs.Signs.{signed-plain}
use Rattle.scope.specs.Index.{padded, up_to_byte, parse_inside, parse_index}
use Rattle.scope.specs.declared.ReferenceIndex.{ReferenceIndex}
use Rattle.token.specs.Read.{word}
use Rattle.parser_part.specs.FastWord.{Whole}
use Rattle.fast.proofs.Short.{value-snoc}
use Rattle.fast_var.specs.FastVar.{Number, Closed, RangeAt, IndexAt}
use Rattle.fast_var.proofs.Places.{Stands, stands-byte, stands-join, worded, whole}

-- ---- digits that were passed, from `at` up to i
digits-snoc : (b : ℕ) (w : List ℕ) → is_digit b ≡ true → all_digits w ≡ true → all_digits (w ++ b ∷ []) ≡ true
unfolding all_digits
digits-snoc b [] h e = rw h
digits-snoc b (a ∷ w) h e = let t = cond_both (is_digit a) (all_digits w) e in rw t.0 (digits-snoc b w h t.1)

pub record Counted (s : List ℕ) (at i v : ℕ) : Type 0 where
  pub ahead : at ≤ i
  pub within : i ≤ length s
  pub few : i ≤ at + 9
  pub small : v < 10 ^ (i - at)
  pub digits : all_digits (take (i - at) (drop at s)) ≡ true
  pub means : value 0 (take (i - at) (drop at s)) ≡ v

pub counted_none : (s : List ℕ) (at : ℕ) → at ≤ length s → Counted s at at 0
unfolding all_digits value
counted_none s at h =
    let z : at - at ≡ 0 = omega arith in
    record { ahead = omega arith; within = h; few = omega arith; small = rw z (omega arith); digits = rw z; means = rw z }

module _ (s : List ℕ) (at i v : ℕ) (d : Counted s at i v) where
  pub counted-small : v < 10 ^ 9
  counted-small =
      let k : i - at ≤ 9 = omega (arith, d.few) in
      let p : 10 ^ (i - at) ≤ 10 ^ 9 = pow-le-pow_right (omega arith) k in
      omega (arith, d.small)

  -- one byte more
  taken : i < length s → take (i + 1 - at) (drop at s) ≡ take (i - at) (drop at s) ++ get_or s i 0 ∷ []
  taken h =
      let n : i + 1 - at ≡ suc (i - at) = omega (arith, d.ahead) in
      let k : at + (i - at) ≡ i = omega (arith, d.ahead) in
      rw n (take-suc (drop at s) (i - at) 0 (omega (arith, d.ahead, length-drop at s)) ∙ rw (get_or-drop at s (i - at) 0, k))

  pub counted-more : i < length s → i < at + 9 → 48 ≤ get_or s i 0 → get_or s i 0 ≤ 57 → Counted s at (i + 1) (v * 10 + (get_or s i 0 - 48))
  counted-more h f l u =
      let n : i + 1 - at ≡ suc (i - at) = omega (arith, d.ahead) in
      record {
        ahead = omega (arith, d.ahead);
        within = omega arith;
        few = omega arith;
        small = rw (n, pow-suc 10 (i - at)) (omega (arith, d.small));
        digits = rw (taken h) (digits-snoc (get_or s i 0) _ (digit (get_or s i 0) l u) d.digits);
        means = rw (taken h, value-snoc 0 (get_or s i 0) (take (i - at) (drop at s)), d.means);
      }

-- ---- they stand there
digits-solid : (w : List ℕ) → all_digits w ≡ true → (no_blank w ≡ true) × (valid_utf8 w ≡ true)
unfolding all_digits no_blank
digits-solid [] e = (refl, empty-valid)
digits-solid (b ∷ w) e =
    let h = cond_both (is_digit b) (all_digits w) e in
    let r = digit-range b h.0 in
    let k = digits-solid w h.1 in
    (rw (solid b (omega arith)) k.0, ascii-first b w (omega arith) ∙ k.1)

module _ (s : List ℕ) (at e v : ℕ) (d : Number s at e v) where
  abbrev run : List ℕ
  run = take (e - at) (drop at s)

  run_long : length run ≡ e - at
  run_long = omega (arith, length-take (e - at) (drop at s), length-drop at s, d.some, d.inside)

  pub stands-digits : Stands s at e (take (e - at) (drop at s))
  stands-digits =
      let k = digits-solid run d.digits in
      let there : at + (e - at) ≡ e = omega (arith, d.some) in
      record {
        long = omega (arith, run_long, d.some);
        here =
            sym (take-append-drop (e - at) (drop at s))
            ∙ ap (λ (l : List ℕ). run ++ l) (drop-drop (e - at) at s ∙ ap (λ (i : ℕ). drop i s) there);
        solid = k.0;
        text = k.1;
      }

-- ---- what digits are read as
-- nothing of them is trimmed
none_first : (w : List ℕ) → all_digits w ≡ true → blanks 0 w ≡ 0
unfolding blanks all_digits
none_first [] e = refl
none_first (b ∷ w) e =
    let r = digit-range b (cond_both (is_digit b) (all_digits w) e).0 in
    none_here (b ∷ w) (sym (blank_none (b ∷ w) (omega arith) (omega arith)))

all-kept : (w : List ℕ) → all_digits w ≡ true → kept_of w ≡ length w
unfolding kept_of all_white all_digits
all-kept [] e = refl
all-kept (b ∷ w) e =
    let k = all-kept w (cond_both (is_digit b) (all_digits w) e).1 in
    rw (none_first (b ∷ w) e, ne_eqb 0 (suc (length w)) (λ z. omega arith), k)

digits-mean : (limit : ℕ) (w : List ℕ) → 0 < length w → all_digits w ≡ true → value 0 w < limit → digits_below limit w ≡ Some (value 0 w)
unfolding digits_below number_from
digits-mean limit [] some all h = absurd (omega arith)
digits-mean limit (b ∷ w) some all h = rw (all, lt-ltb (value 0 (b ∷ w)) limit h)

-- a run of digits within the limit of an index
record Run (w : List ℕ) : Type 0 where
  some : 0 < length w
  all : all_digits w ≡ true
  small : value 0 w < 10 ^ 9

run-read : (limit : ℕ) (w : List ℕ) → Run w → 10 ^ 9 ≤ limit → parse_below limit w ≡ Some (value 0 w)
run-read limit w r h =
    sym (sign-no limit w (no_sign 43 w (omega arith) r.some r.all))
    ∙ digits-mean limit w r.some r.all (omega (arith, r.small))

number_read : (w : List ℕ) → Run w → padded w ≡ Some (pos (value 0 w))
unfolding padded part
number_read w r =
    let signed = signed-plain w (no_sign 45 w (omega arith) r.some r.all) in
    rw (none_first w r.all, all-kept w r.all, ne_eqb (length w) 0 (λ q. omega (arith, r.some)), take-length w)
    (sym signed ∙ ap plain (run-read (2 ^ 31) w r (omega arith)))

-- ---- in brackets
past : (w r : List ℕ) → all_digits w ≡ true → up_to_byte 58 (w ++ r) ≡ w ++ up_to_byte 58 r
unfolding up_to_byte all_digits
past [] r e = refl
past (b ∷ w) r e =
    let h = cond_both (is_digit b) (all_digits w) e in
    let d = digit-range b h.0 in
    rw (ne_eqb b 58 (λ q. omega arith)) (ap (λ (l : List ℕ). b ∷ l) (past w r h.1))

bracketed : (m : List ℕ) → parse_index (91 ∷ (m ++ 93 ∷ [])) ≡ parse_inside m
unfolding parse_index
bracketed m =
    let n : length (m ++ 93 ∷ []) - 1 ≡ length m = omega (arith, length-append m (93 ∷ [])) in
    rw (n, get_or-append_seam m 93 [] 0, take-append_seam m (93 ∷ []))

parse-bit : (w : List ℕ) → Run w → parse_index (91 ∷ (w ++ 93 ∷ [])) ≡ Some (ReferenceIndex.BitSelect (pos (value 0 w)))
unfolding parse_inside up_to_byte
parse-bit w r =
    let all : up_to_byte 58 w ≡ w = rw append-nil at (past w [] r.all) in
    rw (bracketed w, all, eq-eqb (length w) (length w) refl, number_read w r)

parse-range : (v w : List ℕ) → Run v → Run w
    → parse_index (91 ∷ ((v ++ (58 ∷ w)) ++ 93 ∷ [])) ≡ Some (ReferenceIndex.Range (pos (value 0 v)) (pos (value 0 w)))
unfolding parse_inside up_to_byte
parse-range v w p q =
    let m : List ℕ = v ++ (58 ∷ w) in
    let front : up_to_byte 58 m ≡ v = rw append-nil at (past v (58 ∷ w) p.all) in
    let longer : length v ≡ length m → ⊥ = λ z. omega (arith, length-append v (58 ∷ w)) in
    rw (bracketed m, front, ne_eqb (length v) (length m) longer, drop-append-add v (58 ∷ w) 1, number_read v p, number_read w q)

-- ---- the index that stands at `at`, closed before e
index-here : (s : List ℕ) (at e : ℕ) (m : List ℕ) (x : ReferenceIndex) → get_or s at 0 ≡ 91 → Stands s (at + 1) e m → Closed s e → e < at + 32
    → parse_index (91 ∷ (m ++ 93 ∷ [])) ≡ Some x → IndexAt s at (Some (x, e + 1))
unfolding starts
index-here s at e m x b p k few q =
    let first = stands-byte s at 91 (omega (arith, p.long)) b (omega arith) (omega arith) in
    let last = stands-byte s e 93 (omega arith) k.1 (omega arith) (omega arith) in
    let w = worded s at (e + 1) _ (stands-join first (stands-join p last)) k.0 (omega (arith, p.long)) k.2 in
    (w.0, omega arith, rw w.1, rw w.1 q)

module _ (s : List ℕ) (at e v : ℕ) (d : Number s at e v) where
  run-here : Run (take (e - at) (drop at s))
  run-here = record { some = omega (arith, run_long s at e v d, d.some); all = d.digits; small = rw d.means d.small }

  -- before a blank they are a number that is read
  pub number-whole : is_blank (get_or s e 0) ≡ true → Whole s at e × (parse_below (2 ^ 64) (word (drop at s)) ≡ Some v)
  number-whole b =
      let w = whole s at e _ (stands-digits s at e v d) d.inside d.some (omega (arith, d.few)) b in
      (w.0, rw (w.1, ← d.means) (run-read (2 ^ 64) _ run-here (omega arith)))

  -- the machine holds it as it is
  held : pos (value 0 (take (e - at) (drop at s))) ≡ to_z w32 v
  held = ap pos d.means ∙ sym (to_z_pos w32 v (omega (arith, d.small)))

module _ (s : List ℕ) (at e : ℕ) (k : Closed s e) where
  pub bit-here : (v : ℕ) → get_or s at 0 ≡ 91 → Number s (at + 1) e v → IndexAt s at (Some (ReferenceIndex.BitSelect (to_z w32 v), e + 1))
  bit-here v b d =
      index-here s at e _ _ b (stands-digits s (at + 1) e v d) k (omega (arith, d.few))
      (parse-bit _ (run-here s (at + 1) e v d) ∙ ap (λ (z : ℤ). Some (ReferenceIndex.BitSelect z)) (held s (at + 1) e v d))

  pub range-here : (colon a b : ℕ) → RangeAt s at colon a → Number s (colon + 1) e b
      → IndexAt s at (Some (ReferenceIndex.Range (to_z w32 a) (to_z w32 b), e + 1))
  range-here colon a b r f =
      let d : Number s (at + 1) colon a = r.1 in
      let between = stands-byte s colon 58 d.inside r.2 (omega arith) (omega arith) in
      index-here s at e _ _ r.0 (stands-join (stands-digits s (at + 1) colon a d) (stands-join between (stands-digits s (colon + 1) e b f))) k
      (omega (arith, d.few, f.few))
      (parse-range _ _ (run-here s (at + 1) colon a d) (run-here s (colon + 1) e b f)
      ∙ ap (λ (z : ℤ). Some (ReferenceIndex.Range z (pos (value 0 (take (e - (colon + 1)) (drop (colon + 1) s)))))) (held s (at + 1) colon a d)
      ∙ ap (λ (z : ℤ). Some (ReferenceIndex.Range (to_z w32 a) z)) (held s (colon + 1) e b f))
