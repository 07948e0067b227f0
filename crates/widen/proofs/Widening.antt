-- Laws of widening: each way out of it, and the bytes that it leaves, laid in two parts.
use Rattle.std.specs.Prelude.{Result, Ok, Err}
use Prim.Native.Nat.{ℕ, ◌+◌, ◌-◌, ◌≤◌, ◌<◌}
use mathlib.Core.Path.{◌≡◌, refl, sym, ◌∙◌}
use mathlib.Core.Bool.{true, false}
use mathlib.Core.List.{List, [], ◌∷◌, ◌++◌, append_assoc, append-nil, map}
use native.Mathlib.Omega.{arith}
use borrow.Author.Tests.{le-leb, lt-leb}
use lib.Dec.{leb}
use lib.ListN.{length, take, drop, replicate, length-append, length-drop, length-map, length-replicate}
use lib.Seq.{take_at, drop_at, drop-drop, take-length, drop-length}
use Rattle.command.specs.declared.Refusal.{Refusal}
use Rattle.text.specs.Texts.{outside, part, put_answer, put_bytes}
use Rattle.text.specs.declared.Text.{Text}
use Rattle.text.proofs.Lists.{cond_same}
use Rattle.value.specs.Values.{are_values, lower, lower_bytes, filled_with}
use Rattle.value.specs.declared.Value.{Value}
use Rattle.widen.specs.Widen.{missing, widened, is_widenable, widen_answer, widen_bytes}

-- ---- the parts that are judged
pub widenable-none : (v : List ℕ) → length v ≡ 0 → is_widenable v ≡ false
unfolding is_widenable
widenable-none [] h = refl
widenable-none (b ∷ v) h = absurd (omega arith)

pub widenable-some : (v : List ℕ) → (length v ≡ 0 → ⊥) → is_widenable v ≡ are_values v
unfolding is_widenable
widenable-some [] h = absurd (h refl)
widenable-some (b ∷ v) h = refl

pub widenable-values : (v : List ℕ) → is_widenable v ≡ true → are_values v ≡ true
unfolding is_widenable are_values
widenable-values [] e = refl
widenable-values (b ∷ v) e = e

pub missing-wide : (width n : ℕ) → 1024 < width → missing width n ≡ 0
unfolding missing
missing-wide width n h = rw (lt-leb width 1024 h)

pub missing-narrow : (width n : ℕ) → width ≤ 1024 → missing width n ≡ width - n
unfolding missing
missing-narrow width n h = rw (le-leb width 1024 h)

-- ---- what it comes to: a width of at most the vector's length, or above 1,024, only lower-cases; else the vector has that width
pub widened-narrow : (v : List ℕ) (width : ℕ) → width ≤ length v → widened v width ≡ map lower v
unfolding widened missing
widened-narrow v width h = let z : width - length v ≡ 0 = omega arith in rw (z, cond_same {A = ℕ} (leb width 1024) 0)

pub widened-wide : (v : List ℕ) (width : ℕ) → 1024 < width → widened v width ≡ map lower v
unfolding widened
widened-wide v width h = rw (missing-wide width (length v) h)

pub widened-length : (v : List ℕ) (width : ℕ) → length (widened v width) ≡ missing width (length v) + length v
unfolding widened
widened-length v width =
    let n : ℕ = missing width (length v) in
    omega (arith, length-append (replicate {A = ℕ} n 48) (map lower v), length-replicate {A = ℕ} n 48, length-map v lower)

pub widened-to : (v : List ℕ) (width : ℕ) → width ≤ 1024 → length v ≤ width → length (widened v width) ≡ width
widened-to v width h g = omega (arith, widened-length v width, missing-narrow width (length v) h)

-- ---- a vector written in lower case after n bytes z of a buffer
two-parts : (n : ℕ) (z r v : List ℕ) → length z ≡ n → are_values v ≡ true → length v ≤ length r
    → take n (z ++ r) ++ (lower_bytes v (take (length (z ++ r) - n) (drop n (z ++ r))) ++ drop (length (z ++ r) - n) (drop n (z ++ r)))
    ≡ z ++ (map lower v ++ drop (length v) r)
unfolding lower_bytes
two-parts n z r v e q h =
    let k : length (z ++ r) - n ≡ length r = omega (arith, length-append z r) in
    rw (
      take_at z r n e,
      drop_at z r n e,
      k,
      take-length r,
      drop-length r,
      q,
      le-leb (length v) (length r) h,
      append-nil (map lower v ++ drop (length v) r),
    )

-- ---- the ways out
module _ (s : List ℕ) (t : Text) (width : ℕ) (out : List ℕ) where
  abbrev Leaves : Result ℕ Refusal → List ℕ → Type 0
  Leaves r left = (r ≡ widen_answer s t width out) × (left ≡ widen_bytes s t width out)

  pub widen-outside : outside s t ≡ true → Leaves (Err Refusal.BadPlace) out
  unfolding widen_answer widen_bytes
  widen-outside h = rw h (refl, refl)

  -- the vector v lies in the input
  module _ (v : List ℕ) (h : outside s t ≡ false) (q : v ≡ part s t) where
    pub widen-invalid : is_widenable v ≡ false → Leaves (Err Refusal.InvalidValueChar) out
    unfolding widen_answer widen_bytes
    widen-invalid g = rw (h, sym q, g) (refl, refl)

    pub widen-no-room : is_widenable v ≡ true → length out < missing width (length v) + length v → Leaves (Err Refusal.NoRoom) out
    unfolding widen_answer widen_bytes put_answer put_bytes
    widen-no-room g r =
        rw (h, sym q, g, lt-leb (length (widened v width)) (length out) (omega (arith, widened-length v width))) (refl, refl)

    pub widen-whole : (left : List ℕ) → is_widenable v ≡ true → missing width (length v) + length v ≤ length out
        → left ≡ put_bytes (widened v width) out → Leaves (Ok (missing width (length v) + length v)) left
    unfolding widen_answer widen_bytes put_answer
    widen-whole left g r e =
        let n = widened-length v width in
        rw (h, sym q, g, le-leb (length (widened v width)) (length out) (omega arith), n) (refl, e)

    -- the fill, which leaves o, then p after it
    pub widen-laid : (fill : ℕ) (o p left : List ℕ) → fill ≡ missing width (length v) → is_widenable v ≡ true → fill ≤ length out
        → length v ≤ length out - fill → o ≡ put_bytes (filled_with Value.V0 fill) out → p ≡ lower_bytes v (take (length o - fill) (drop fill o))
        → left ≡ take fill o ++ (p ++ drop (length o - fill) (drop fill o)) → Leaves (Ok (fill + length v)) left
    unfolding put_bytes widened
    widen-laid fill o p left m g a b x y w =
        let z : List ℕ = filled_with Value.V0 fill in
        let r : List ℕ = drop fill out in
        let l : length z ≡ fill = length-replicate {A = ℕ} fill 48 in
        let n : length (z ++ map lower v) ≡ fill + length v = omega (arith, length-append z (map lower v), length-map v lower) in
        let o_is : o ≡ z ++ r = x ∙ rw (l, le-leb fill (length out) a) in
        let all : widened v width ≡ z ++ map lower v = rw (sym m) in
        let laid : left ≡ z ++ (map lower v ++ drop (length v) r) =
        w ∙ rw (y, o_is) (two-parts fill z r v l (widenable-values v g) (omega (arith, length-drop fill out))) in
        let e : left ≡ put_bytes (widened v width) out =
        rw (all, n, le-leb (fill + length v) (length out) (omega arith), append_assoc z (map lower v) (drop (fill + length v) out))
        (laid ∙ rw (drop-drop (length v) fill out)) in
        rw m (widen-whole left g (omega (arith, m)) e)
