-- What std says of slices, in the words of specs/, and for definitions by cases over any predicate.
use Prim.Native.Nat.{ℕ, ◌-◌, ◌+◌, ◌≤◌, ◌<◌}
use mathlib.Core.Path.{◌≡◌, refl, sym, ◌∙◌}
use mathlib.Core.Bool.{Bool, true, false, cond, not, ◌&&◌, false≢true, and-true}
use mathlib.Core.List.{List, [], ◌∷◌, ◌++◌, reverse}
use native.Mathlib.Omega.{arith}
use borrow.Author.Tests.{le-leb, ltb-false, eqb-true, eqb-false}
use Rattle.std.proofs.Common.{Option, Some, None}
use Rattle.std.specs.Option.{unwrap_or}
use Rattle.std.proofs.lemmas.List.{get_or_default, get_or-reverse, length-reverse}
use Rattle.std.specs.Cmp.Lexicographic.{pointwise}
use Rattle.std.specs.List.{list_all, position_or_len}
use lib.Dec.{eqb, ltb}
use Rattle.text.proofs.Lists.{by-test, both}
use lib.ListN.{length, get_or, take, drop, replicate, length-replicate}
use lib.Seq.{length-take-le}
use Rattle.text.specs.Bytes.{equal, starts}
use Rattle.text.specs.Texts.{put_answer, put_bytes}

-- `a == b`
pub equal-pointwise : (a b : List ℕ) → pointwise eqb a b ≡ equal a b
unfolding equal
equal-pointwise [] [] = refl
equal-pointwise [] (y ∷ b) = refl
equal-pointwise (x ∷ a) [] = refl
equal-pointwise (x ∷ a) (y ∷ b) = rw (equal-pointwise a b)

-- for `using`, which takes no name with a dash
pub ruleset compared = (equal-pointwise)

-- `s.starts_with(m)`
pub starts-pointwise : (m s : List ℕ) → pointwise eqb m (take (length m) s) ≡ starts m s
unfolding starts
starts-pointwise [] s = refl
starts-pointwise (x ∷ m) [] = refl
starts-pointwise (x ∷ m) (b ∷ s) = rw (starts-pointwise m s)

-- `out[..t.len()].copy_from_slice(t)`, where made is what stands there then
pub put_copied : (t out made : List ℕ) → length t ≤ length out → made ≡ t
    → (Some (length t) ≡ put_answer t out) × (made ++ drop (length t) out ≡ put_bytes t out)
unfolding put_answer put_bytes
put_copied t out made h e = rw (le-leb (length t) (length out) h, e) (refl, refl)

-- `s.iter().all(..)`, where f says by cases that the test p holds of each element
pub all_cases : {A : Type 0} (p : A → Bool) (f : List A → Bool) → f [] ≡ true → ((x : A) (s : List A) → f (x ∷ s) ≡ (p x && f s))
    → (s : List A) → list_all p s ≡ f s
all_cases p f none more [] = rw none
all_cases p f none more (x ∷ s) = rw (all_cases p f none more s, more x s)

-- `s.iter().position(..)`, where f says by cases what stands before the first element of which the test p holds
pub position_cases : {A : Type 0} (p : A → Bool) (f : List A → List A) → f [] ≡ []
    → ((x : A) (s : List A) → f (x ∷ s) ≡ cond (p x) [] (x ∷ f s)) → (s : List A) → position_or_len p s ≡ length (f s)
position_cases {A} p f none more [] = rw none
position_cases {A} p f none more (x ∷ s) = rw more (first (p x) _ _ (position_cases p f none more s))
  where
    first : (t : Bool) (m : ℕ) (l : List A) → m ≡ length l → cond (not t) (1 + m) 0 ≡ length (cond t [] (x ∷ l))
    first true m l e = refl
    first false m l e = omega arith

-- `out[..n].fill(b)`, where made is what stands there then
pub put_filled : (n b : ℕ) (out made : List ℕ) → n ≤ length out → made ≡ replicate (length (take n out)) b
    → (Some n ≡ put_answer (replicate n b) out) × (made ++ drop n out ≡ put_bytes (replicate n b) out)
put_filled n b out made h e =
    let l : length (take n out) ≡ n = length-take-le n out h in
    let m : length (replicate n b) ≡ n = length-replicate n b in
    rw m at (put_copied (replicate n b) out made (rw m h) (rw l at e))

-- a place that `position` gives lies in the text, or is its end
pub position-within : {A : Type 0} (p : A → Bool) (s : List A) → position_or_len p s ≤ length s
position-within p [] = omega arith
position-within p (x ∷ s) = by-test (p x) (λ q. rw q (omega arith)) (λ q. rw q (omega (arith, position-within p s)))

-- `s.iter().position(..).unwrap_or(s.len())`, where r is what `position` answered
pub position_or_end : {A : Type 0} (p : A → Bool) (s : List A) (r : Option ℕ)
    → r ≡ cond (ltb (position_or_len p s) (length s)) (Some (position_or_len p s)) None → unwrap_or r (length s) ≡ position_or_len p s
position_or_end p s r e =
    rw e
    (by-test (ltb (position_or_len p s) (length s)) (λ q. rw q)
    (λ q. rw q (omega (arith, position-within p s, ltb-false (position_or_len p s) (length s) q))))

-- `s.strip_prefix(&[b])`: what its two answers say of the first byte
pub mark-first : (b : ℕ) (s : List ℕ) → pointwise eqb (take 1 s) (b ∷ []) ≡ true → get_or s 0 0 ≡ b
mark-first b [] e = absurd (false≢true e)
mark-first b (x ∷ s) e = eqb-true x b (both (eqb x b) true e).0

pub mark-other : (b : ℕ) (s : List ℕ) → 0 < b → pointwise eqb (take 1 s) (b ∷ []) ≡ false → get_or s 0 0 ≡ b → ⊥
mark-other b [] h e q = omega arith
mark-other b (x ∷ s) h e q = eqb-false x b (sym (and-true (eqb x b)) ∙ e) q

-- a turn of `for &b in s.iter().rev()` that k others went before, as `YieldsList-turn` gives it
pub reversed : (s : List ℕ) (k x : ℕ) → (k < length (reverse s)) × (x ≡ get_or (reverse s) k x) → (k < length s) × (x ≡ get_or s (length s - k - 1) 0)
reversed s k x h =
    let l : k < length s = rw length-reverse at h.0 in
    let i : length s - 1 - k ≡ length s - k - 1 = omega arith in
    let inside : length s - k - 1 < length s = omega arith in
    (l, h.1 ∙ get_or-reverse s k x l ∙ rw i (get_or_default s (length s - k - 1) x 0 inside))
