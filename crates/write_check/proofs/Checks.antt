-- What 22 asks of texts.
use Rattle.std.specs.Prelude.{Some, None}
use Prim.Native.Nat.{ℕ, suc, ◌≤◌, ◌<◌}
use mathlib.Core.Path.{◌≡◌, refl, sym, ap₂, ◌∙◌}
use mathlib.Core.Bool.{true, false, not, ◌&&◌, and-true, and-false}
use mathlib.Core.List.{List, [], ◌∷◌, map}
use native.Mathlib.Omega.{arith}
use borrow.Author.Tests.{le-leb, lt-leb, eq-eqb, ne_eqb}
use lib.Dec.{eqb}
use lib.ListN.{length}
use Rattle.real.specs.Real.{is_real}
use Rattle.text.specs.Bytes.{bytes, has, holds, no_blank, is_token}
use Rattle.text.specs.Plain.{Plain}
use Rattle.command.specs.Words.{end_mark, first_end}
use Rattle.utf8.specs.Utf8.{valid_utf8}
use Rattle.white_space.specs.WhiteSpace.{trimmed}
use Rattle.text.proofs.Blanks.{solid}
use Rattle.text.proofs.Has.{each-not}
use Rattle.text.proofs.Lists.{by-test}
use Rattle.utf8.proofs.WellFormed.{ascii-first, empty-valid}
use Rattle.value.specs.Values.{is_value, are_values, lower}
use Rattle.value.proofs.Values.{by_value}
use Rattle.write_check.specs.Check.{is_trimmed, is_remark, is_name, are_lower, is_vector, is_short_real}

-- ---- plain bytes
abbrev Clean : List ℕ → Type 0
Clean l = (no_blank l ≡ true) × (valid_utf8 l ≡ true)

pub plain-clean : (s : List ℕ) → Plain s 0 (length s) → Clean s
unfolding no_blank
plain-clean [] p = (refl, empty-valid)
plain-clean (b ∷ s) p =
    let h = p 0 (omega arith) (omega arith) in
    let r = plain-clean s (λ i l g. p (suc i) (omega arith) (omega arith)) in
    (rw (solid b h.0) r.0, ascii-first b s (omega (arith, h.1)) ∙ r.1)

-- ---- names
pub name-none : (s : List ℕ) → length s ≡ 0 → is_name s ≡ false
unfolding is_name is_token
name-none [] h = refl
name-none (b ∷ s) h = absurd (omega arith)

pub name-some : (s : List ℕ) → (length s ≡ 0 → ⊥) → is_name s ≡ (no_blank s && valid_utf8 s)
unfolding is_name is_token
name-some [] h = absurd (h refl)
name-some (b ∷ s) h = refl

pub ruleset names = (name-none, name-some)

-- ---- vectors
module _ (b : ℕ) where
  lower-yes : is_value b ≡ true → has (bytes "01xz") (lower b) ≡ true
  unfolding has lower
  lower-yes = by_value (λ x. has (bytes "01xz") (lower x) ≡ true) refl refl refl refl refl refl b

  lower-same : eqb b 88 ≡ false → eqb b 90 ≡ false → lower b ≡ b
  unfolding lower
  lower-same e f = rw (e, f)

  lower-no : is_value b ≡ false → has (bytes "01xz") (lower b) ≡ false
  unfolding is_value has
  lower-no e =
      let n = each-not (bytes "01xXzZ") b e in
      rw (lower-same n.1.1.1.0 n.1.1.1.1.1.0, n.0, n.1.0, n.1.1.0, n.1.1.1.1.0)

  lower-value : has (bytes "01xz") (lower b) ≡ is_value b
  lower-value = by-test (is_value b) (λ e. lower-yes e ∙ sym e) (λ e. lower-no e ∙ sym e)

are-lower : (s : List ℕ) → are_lower (map lower s) ≡ are_values s
unfolding are_lower are_values
are-lower [] = refl
are-lower (b ∷ s) = ap₂ ◌&&◌ (lower-value b) (are-lower s)

pub vector-none : (s : List ℕ) → length s ≡ 0 → is_vector (map lower s) ≡ false
unfolding is_vector
vector-none [] h = refl
vector-none (b ∷ s) h = absurd (omega arith)

pub vector-some : (s : List ℕ) → (length s ≡ 0 → ⊥) → are_values s ≡ is_vector (map lower s)
unfolding is_vector
vector-some [] h = absurd (h refl)
vector-some (b ∷ s) h = sym (are-lower (b ∷ s))

pub ruleset vectors = (vector-none, vector-some)

-- ---- reals
module _ (s : List ℕ) where
  pub real-long : 32 < length s → is_short_real s ≡ false
  unfolding is_short_real
  real-long h = rw (lt-leb (length s) 32 h, and-false (is_real s))

  pub real-short : length s ≤ 32 → is_real s ≡ is_short_real s
  unfolding is_short_real
  real-short h = rw (le-leb (length s) 32 h, and-true (is_real s))

pub ruleset reals = (real-long, real-short)

-- ---- remarks
module _ (s : List ℕ) where
  pub remark-bytes : valid_utf8 s ≡ false → is_remark s ≡ false
  unfolding is_remark
  remark-bytes e = rw e

  untrimmed : is_trimmed s ≡ false → is_remark s ≡ false
  unfolding is_remark
  untrimmed e = rw (e, and-false (valid_utf8 s))

  pub remark-start : ((trimmed s).start ≡ 0 → ⊥) → is_remark s ≡ false
  unfolding is_trimmed
  remark-start n = untrimmed (rw (ne_eqb (trimmed s).start 0 n))

  pub remark-length : ((trimmed s).len ≡ length s → ⊥) → is_remark s ≡ false
  unfolding is_trimmed
  remark-length n = untrimmed (rw (ne_eqb (trimmed s).len (length s) n) (and-false (eqb (trimmed s).start 0)))

  remark-else : valid_utf8 s ≡ true → (trimmed s).start ≡ 0 → (trimmed s).len ≡ length s → is_remark s ≡ not (holds end_mark s)
  unfolding is_remark is_trimmed
  remark-else v e q = rw (v, eq-eqb (trimmed s).start 0 e, eq-eqb (trimmed s).len (length s) q)

  end-held : (i : ℕ) → first_end s ≡ Some i → holds end_mark s ≡ true
  unfolding first_end
  end-held i e = by-test (holds end_mark s) (λ q. q) (λ q. absurd (let f = rw q at e in let z : ◌≡◌ {A = ℕ} 0 1 = cc in omega arith))

  end_none : first_end s ≡ None → holds end_mark s ≡ false
  unfolding first_end
  end_none e = by-test (holds end_mark s) (λ q. absurd (let f = rw q at e in let z : ◌≡◌ {A = ℕ} 0 1 = cc in omega arith)) (λ q. q)

  module _ (v : valid_utf8 s ≡ true) (e : (trimmed s).start ≡ 0) (q : (trimmed s).len ≡ length s) where
    pub remark-end : (i : ℕ) → first_end s ≡ Some i → is_remark s ≡ false
    remark-end i f = rw (remark-else v e q, end-held i f)

    pub remark-yes : first_end s ≡ None → is_remark s ≡ true
    remark-yes f = rw (remark-else v e q, end_none f)

pub ruleset remarks = (remark-bytes, remark-start, remark-length, remark-end, remark-yes)
