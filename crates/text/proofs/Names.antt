-- Laws of looking a name up in a table, and of types whose values have names.
use Prim.Native.Nat.{ℕ, ◌≤◌, ◌<◌}
use Prim.Native.String.{String}
use mathlib.Core.Path.{◌≡◌, refl, sym, ap, ◌∙◌}
use mathlib.Core.Bool.{Bool, true, false, not, ◌&&◌}
use mathlib.Core.List.{List, [], ◌∷◌, map}
use native.Mathlib.Omega.{arith}
use borrow.Author.Tests.{ltb-true, leb-true}
use lib.Dec.{ltb, leb}
use lib.ListN.{length}
use Rattle.text.specs.Bytes.{bytes, equal, is_blank}
use Rattle.text.specs.Names.{lookup}
use Rattle.text.proofs.Each.{Each}
use Rattle.text.proofs.Lists.{by-test, both, not-swap}
use Rattle.text.proofs.Equal.{equal-true}

module _ {A : Type 0} (name : String) (v : A) (r : List (String × A)) (none : A) (w : List ℕ) where
  pub hit : equal w (bytes name) ≡ true → lookup ((name, v) ∷ r) none w ≡ v
  unfolding lookup
  hit e = rw e

  pub miss : equal w (bytes name) ≡ false → lookup ((name, v) ∷ r) none w ≡ lookup r none w
  unfolding lookup
  miss e = rw e

  -- A chain `if equals(w, NAME) { return V; } ..` in the table's order, where t is what a test answered: each return, and the last one after the
  -- chain, is `search chain depth 8 fits 3000`, for a chain of at most six names.
  pub found : (t : Bool) → t ≡ equal w (bytes name) → t ≡ true → v ≡ lookup ((name, v) ∷ r) none w
  found t e h = sym (hit (sym e ∙ h))

  pub passed : (t : Bool) → t ≡ equal w (bytes name) → t ≡ false → (x : A) → x ≡ lookup r none w → x ≡ lookup ((name, v) ∷ r) none w
  passed t e h x g = g ∙ sym (miss (sym e ∙ h))

pub ended : {A : Type 0} (none : A) (w : List ℕ) → none ≡ lookup [] none w
unfolding lookup
ended none w = refl

pub ruleset chain = (found, passed, ended)

-- ---- what names are like: one to 9 bytes, each of them ASCII and no whitespace
pub record Name (w : List ℕ) : Type 0 where
  pub some : 0 < length w
  pub short : length w ≤ 9
  pub plain : Each (λ b. (b < 0x80) × (is_blank b ≡ false)) w

-- what a name is like, as a test that computes
unfoldable pub is_plain : List ℕ → Bool
is_plain [] = true
is_plain (b ∷ s) = (ltb b 0x80 && not (is_blank b)) && is_plain s

unfoldable pub is_name : List ℕ → Bool
is_name w = (ltb 0 (length w) && leb (length w) 9) && is_plain w

each-plain : (w : List ℕ) → is_plain w ≡ true → Each (λ b. (b < 0x80) × (is_blank b ≡ false)) w
unfolding is_plain
each-plain [] e = tt
each-plain (b ∷ s) e =
    let h = both (ltb b 0x80 && not (is_blank b)) (is_plain s) e in
    let k = both (ltb b 0x80) (not (is_blank b)) h.0 in
    ((ltb-true b 0x80 k.0, not-swap (is_blank b) k.1), each-plain s h.1)

name-is : (w : List ℕ) → is_name w ≡ true → Name w
unfolding is_name
name-is w e =
    let h = both (ltb 0 (length w) && leb (length w) 9) (is_plain w) e in
    let k = both (ltb 0 (length w)) (leb (length w) 9) h.0 in
    record {
      some = ltb-true 0 (length w) k.0;
      short = leb-true (length w) 9 k.1;
      plain = each-plain w h.1;
    }

-- ---- a type whose values have names: each is read back from its name, and what is read as a value is its name
pub record Named (K A : Type 0) (name : K → String) (is : K → A) (parse : List ℕ → A) : Type 0 where
  pub like : (k : K) → Name (bytes (name k))
  pub back : (k : K) → parse (bytes (name k)) ≡ is k
  pub only : (w : List ℕ) (k : K) → parse w ≡ is k → w ≡ bytes (name k)

module _ {K A : Type 0} (name : K → String) (is : K → A) (no : A) (apart : (j k : K) → is j ≡ is k → j ≡ k) (never : (k : K) → no ≡ is k → ◌≡◌ {A = ℕ} 0 1) where
  abbrev entry : K → String × A
  entry k = (name k, is k)

  only-name : (ks : List K) (w : List ℕ) (k : K) → lookup (map entry ks) no w ≡ is k → w ≡ bytes (name k)
  only-name [] w k e = let z = never k (ended no w ∙ e) in absurd (omega arith)
  only-name (j ∷ ks) w k e =
      by-test (equal w (bytes (name j)))
      (λ t. equal-true w (bytes (name j)) t ∙ ap (λ (i : K). bytes (name i)) (apart j k (sym (hit (name j) (is j) (map entry ks) no w t) ∙ e)))
      (λ t. only-name ks w k (sym (miss (name j) (is j) (map entry ks) no w t) ∙ e))

  -- from the values in the table's order, and two tests that compute at each
  pub named : (ks : List K) → ((k : K) → (lookup (map entry ks) no (bytes (name k)) ≡ is k) × (is_name (bytes (name k)) ≡ true))
      → Named K A name is (lookup (map entry ks) no)
  named ks each =
      record {
        like = λ k. name-is (bytes (name k)) (each k).1;
        back = λ k. (each k).0;
        only = only-name ks;
      }
