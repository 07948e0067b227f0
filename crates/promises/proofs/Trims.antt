-- A trimmed text between blanks, as a comment is laid out: it is UTF-8, and trimming gives the text back. Assumes nothing.
use Prim.Native.Nat.{ℕ, zero, suc, pred, ◌+◌, ◌≤◌}
use mathlib.Core.Path.{◌≡◌, refl, ap, ◌∙◌}
use mathlib.Core.Bool.{true, cond}
use mathlib.Core.List.{List, [], ◌∷◌, ◌++◌}
use native.Mathlib.Omega.{arith}
use borrow.Author.Tests.{eq-eqb, ne_eqb, eqb-true, eqb-false}
use lib.Dec.{eqb, ltb}
use lib.ListN.{length, drop, length-append}
use Rattle.text.specs.Bytes.{bytes, starts}
use Rattle.utf8.specs.Utf8.{lies, due_after, well_formed, valid_utf8}
use Rattle.white_space.specs.WhiteSpace.{begins_with, blank_at, blanks, all_white, kept_of, trimmed}
use Rattle.white_space.proofs.Blank.{run-within}
use Rattle.text.proofs.Lists.{by-test, both}
use Rattle.utf8.proofs.WellFormed.{valid-append}
use Rattle.write_check.specs.Check.{is_trimmed}

-- ---- UTF-8
spaces-valid : valid_utf8 (bytes "    ") ≡ true
unfolding valid_utf8 well_formed due_after lies
spaces-valid = refl

newline-valid : valid_utf8 (bytes "\n") ≡ true
unfolding valid_utf8 well_formed due_after lies
newline-valid = refl

pub framed-valid : (t : List ℕ) → valid_utf8 t ≡ true → valid_utf8 (bytes "    " ++ (t ++ bytes "\n")) ≡ true
framed-valid t e = valid-append (bytes "    ") (t ++ bytes "\n") spaces-valid ∙ valid-append t (bytes "\n") e ∙ newline-valid

-- ---- a newline after
at_snoc : (a : ℕ) (t : List ℕ) → blank_at (a ∷ (t ++ 10 ∷ [])) ≡ blank_at (a ∷ t)
unfolding blank_at begins_with starts
at_snoc a [] = refl
at_snoc a (b ∷ []) = refl
at_snoc a (b ∷ c ∷ t) = refl

-- the run goes on by one where it took all
abbrev more : ℕ → ℕ → ℕ
more x n = cond (eqb x n) (suc n) x

more-suc : (x y n : ℕ) → y ≡ more x n → suc y ≡ more (suc x) (suc n)
more-suc x y n e =
    by-test (eqb x n) (λ q. rw (eq-eqb (suc x) (suc n) (ap suc (eqb-true x n q))) (ap suc (rw q at e)))
    (λ q. let h = eqb-false x n q in rw (ne_eqb (suc x) (suc n) (λ z. h (omega arith))) (ap suc (rw q at e)))

newline : blanks 0 (10 ∷ []) ≡ 1
unfolding blanks blank_at begins_with starts
newline = refl

run-first : (n : ℕ) (t : List ℕ) → ((k : ℕ) → blanks k (t ++ 10 ∷ []) ≡ more (blanks k t) (length t))
    → cond (ltb 0 n) (suc (blanks (pred n) (t ++ 10 ∷ []))) 0 ≡ more (cond (ltb 0 n) (suc (blanks (pred n) t)) 0) (suc (length t))
run-first n t ih =
    by-test (ltb 0 n) (λ q. rw q (more-suc (blanks (pred n) t) (blanks (pred n) (t ++ 10 ∷ [])) (length t) (ih (pred n))))
    (λ q. rw (q, ne_eqb 0 (suc (length t)) (λ z. omega arith)))

run-snoc : (k : ℕ) (t : List ℕ) → blanks k (t ++ 10 ∷ []) ≡ more (blanks k t) (length t)
unfolding blanks
run-snoc zero [] = newline
run-snoc (suc k) [] = refl
run-snoc (suc k) (a ∷ t) = more-suc (blanks k t) (blanks k (t ++ 10 ∷ [])) (length t) (run-snoc k t)
run-snoc zero (a ∷ t) = rw (at_snoc a t) (run-first (blank_at (a ∷ t)) t (λ k. run-snoc k t))

all_snoc : (t : List ℕ) → all_white (t ++ 10 ∷ []) ≡ all_white t
unfolding all_white
all_snoc t =
    let x = blanks 0 t in
    let n = length t in
    let le : x ≤ n = run-within t in
    let one : length (t ++ 10 ∷ []) ≡ suc n = length-append t (10 ∷ []) ∙ omega arith in
    rw (run-snoc 0 t, one)
    (by-test (eqb x n) (λ q. rw q (eq-eqb (suc n) (suc n) refl)) (λ q. rw q (ne_eqb x (suc n) (λ z. omega arith))))

none_kept : kept_of (10 ∷ []) ≡ 0
unfolding kept_of all_white blanks blank_at begins_with starts
none_kept = refl

kept-snoc : (t : List ℕ) → kept_of (t ++ 10 ∷ []) ≡ kept_of t
unfolding kept_of
kept-snoc [] = none_kept
kept-snoc (a ∷ t) = rw (all_snoc (a ∷ t), kept-snoc t)

-- ---- four spaces before
spaces : (t : List ℕ) → blanks 0 (32 ∷ 32 ∷ 32 ∷ 32 ∷ t) ≡ 4 + blanks 0 t
unfolding blanks blank_at begins_with starts
spaces t = omega arith

-- a text that is its own trimmed one has no White_Space at either end
whole : (a : ℕ) (t : List ℕ) → is_trimmed (a ∷ t) ≡ true → (blanks 0 (a ∷ t) ≡ 0) × (kept_of (a ∷ t) ≡ length (a ∷ t))
unfolding is_trimmed
whole a t e =
    let v : List ℕ = a ∷ t in
    let len = kept_of (drop (blanks 0 v) v) in
    by-test (eqb len 0) (λ q. let z : 0 ≡ suc (length t) = eqb-true _ _ (both (eqb 0 0) (eqb 0 (suc (length t))) (rw q at e)).1 in absurd (omega arith))
    (λ q.
    let h = both (eqb (blanks 0 v) 0) (eqb len (length v)) (rw q at e) in
    let none : blanks 0 v ≡ 0 = eqb-true _ _ h.0 in
    let all : kept_of (drop (blanks 0 v) v) ≡ length v = eqb-true _ _ h.1 in
    (none, rw none at all))

-- the place that trimming leaves of the framed text is the text's own
pub framed-trim : (a : ℕ) (t : List ℕ) → is_trimmed (a ∷ t) ≡ true → trimmed (bytes "    " ++ ((a ∷ t) ++ bytes "\n")) ≡ record { start = 4; len = length (a ∷ t) }
framed-trim a t e =
    let h = whole a t e in
    let v : List ℕ = a ∷ t in
    let start : blanks 0 (v ++ 10 ∷ []) ≡ 0 = rw (run-snoc 0 v, h.0, ne_eqb 0 (suc (length t)) (λ z. omega arith)) in
    rw (spaces (v ++ 10 ∷ []), start, kept-snoc v, h.1, ne_eqb (length v) 0 (λ z. omega arith))

pub framed-none : trimmed (bytes "    " ++ ([] ++ bytes "\n")) ≡ record { start = 0; len = 0 }
unfolding blanks blank_at begins_with starts kept_of
framed-none = refl
