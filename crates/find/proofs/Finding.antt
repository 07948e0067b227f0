-- Looking up by a path: the names of a path one by one, and the first row that is named.
use Rattle.std.specs.Prelude.{Option, Some, None}
use Prim.Native.Nat.{ℕ, zero, suc, ◌+◌, ◌-◌, ◌/◌, ◌≤◌, ◌<◌, min}
use mathlib.Core.Path.{◌≡◌, refl, sym, ap, ◌∙◌}
use mathlib.Core.Bool.{true, false, cond}
use mathlib.Core.List.{List, [], ◌∷◌}
use native.Mathlib.Decide.{dec_lt}
use native.Mathlib.Omega.{arith}
use borrow.Author.Tests.{ltb-true, lt-ltb, le-ltb}
use lib.Dec.{ltb}
use lib.ListN.{length, take, drop, length-drop}
use lib.Seq.{drop-drop}
use Rattle.scope.specs.Index.{up_to_byte}
use Rattle.scope.proofs.Splitting.{up-front}
use Rattle.text.proofs.Lists.{by-test, take_rest}
use Rattle.find.specs.Find.{is_named, first_named, names_on, names, into, find_from, sought}
use Rattle.rows.specs.Rows.{row_at, rows_from, top, rows_of}
use Rattle.rows.specs.declared.RowNumber.{RowNumber}
use Rattle.find.specs.declared.Kind.{Kind}
use Rattle.rows.specs.declared.Row.{Row}

-- ---- names
abbrev first : List ℕ → List ℕ
first l = up_to_byte 32 l

-- the names of what is left of a path, an empty one too
abbrev pub pieces : List ℕ → List (List ℕ)
pieces l = names_on (suc (length l)) l

enough : (k m : ℕ) (l : List ℕ) → length l < k → length l < m → names_on k l ≡ names_on m l
unfolding names_on
enough zero m l p q = absurd (omega arith)
enough (suc k) zero l p q = absurd (omega arith)
enough (suc k) (suc m) l p q =
    by-test (ltb (length (first l)) (length l))
    (λ e.
    let h : length (first l) < length l = ltb-true _ _ e in
    let d = length-drop (length (first l) + 1) l in
    rw e (ap (λ (r : List (List ℕ)). first l ∷ r) (enough k m (drop (length (first l) + 1) l) (omega arith) (omega arith))))
    (λ e. rw e)

pieces-last : (l : List ℕ) → length l ≤ length (first l) → pieces l ≡ first l ∷ []
unfolding names_on
pieces-last l h = rw (le-ltb (length (first l)) (length l) h)

pieces_more : (l : List ℕ) → length (first l) < length l → pieces l ≡ first l ∷ pieces (drop (length (first l) + 1) l)
unfolding names_on
pieces_more l h =
    let d = length-drop (length (first l) + 1) l in
    rw (lt-ltb (length (first l)) (length l) h)
    (ap (λ (r : List (List ℕ)). first l ∷ r) (enough (length l) (suc (length (drop (length (first l) + 1) l))) (drop (length (first l) + 1) l) (omega arith) (omega arith)))

names-some : (l : List ℕ) → (length l ≡ 0 → ⊥) → names l ≡ pieces l
unfolding names
names-some [] h = absurd (h refl)
names-some (b ∷ l) h = refl

-- the front of a path up to its first space is the name
name-front : (l : List ℕ) (n : ℕ) → n ≡ length (first l) → take n l ≡ first l
name-front l n e = rw e (up-front 32 l)

pub name-count : (l : List ℕ) (n : ℕ) → n ≡ length (first l) → n ≡ length (take n l)
name-count l n e = e ∙ sym (ap length (name-front l n e))

pub sought-none : (s : List ℕ) (kind : Kind) (table : List ℕ) (n : ℕ) (path : List ℕ) → length path ≡ 0 → None ≡ sought s kind table n path
unfolding sought names find_from
sought-none s kind table n [] e = refl
sought-none s kind table n (b ∷ path) e = absurd (omega arith)

pub sought-some : (s : List ℕ) (kind : Kind) (table : List ℕ) (n : ℕ) (path : List ℕ) → (length path ≡ 0 → ⊥)
    → sought s kind table n path ≡ find_from s kind (rows_of table n) top (pieces path)
unfolding sought
sought-some s kind table n path h = ap (find_from s kind (rows_of table n) top) (names-some path h)

-- some names stand there
some : (P : List (List ℕ) → Type 0) (l : List ℕ) → ((a : List ℕ) (r : List (List ℕ)) → P (a ∷ r)) → P (pieces l)
unfolding names_on
some P l f = f _ _

module _ (s : List ℕ) (kind : Kind) (rs : List Row) (p : ℕ) (l : List ℕ) where
  pub find-last : length l ≤ length (first l) → find_from s kind rs p (pieces l) ≡ first_named s kind p (first l) 0 rs
  unfolding find_from
  find-last h = rw (pieces-last l h)

  on : (r : List ℕ) → find_from s kind rs p (first l ∷ pieces r) ≡ into (λ q. find_from s kind rs q (pieces r)) (first_named s Kind.Scope p (first l) 0 rs)
  unfolding find_from
  on r = some (λ x. find_from s kind rs p (first l ∷ x) ≡ into (λ q. find_from s kind rs q x) (first_named s Kind.Scope p (first l) 0 rs)) r (λ a t. refl)

  pub find-on : length (first l) < length l → (x : Option RowNumber) → x ≡ first_named s Kind.Scope p (first l) 0 rs
      → find_from s kind rs p (pieces l) ≡ into (λ q. find_from s kind rs q (pieces (drop (length (first l) + 1) l))) x
  find-on h x e = rw e (ap (find_from s kind rs p) (pieces_more l h) ∙ on (drop (length (first l) + 1) l))

-- ---- what is left of a path is lent as a part of it, and the name as a part of that
module _ (s : List ℕ) (kind : Kind) (rs : List Row) (p : ℕ) (path : List ℕ) (at len : ℕ) (e : len ≡ length (first (take (length path - at) (drop at path)))) where
  abbrev left : List ℕ
  left = take (length path - at) (drop at path)

  name-is : take len left ≡ first (drop at path)
  name-is = name-front left len e ∙ ap first (take_rest path at)

  len_is : len ≡ length (first (drop at path))
  len_is = e ∙ ap (λ (l : List ℕ). length (first l)) (take_rest path at)

  pub left-length : length left ≡ length path - at
  left-length = rw (take_rest path at) (length-drop at path)

  pub last_name : length left ≤ len → (x : Option RowNumber) → x ≡ first_named s kind p (take len left) 0 rs → find_from s kind rs p (pieces (drop at path)) ≡ x
  last_name h x q =
      find-last s kind rs p (drop at path) (omega (arith, len_is, left-length, length-drop at path)) ∙ sym (q ∙ ap (λ (l : List ℕ). first_named s kind p l 0 rs) name-is)

  pub next-name : len < length left → (x : Option RowNumber) → x ≡ first_named s Kind.Scope p (take len left) 0 rs
      → find_from s kind rs p (pieces (drop at path)) ≡ into (λ q. find_from s kind rs q (pieces (drop (at + (len + 1)) path))) x
  next-name h x q =
      find-on s kind rs p (drop at path) (omega (arith, len_is, left-length, length-drop at path)) x (q ∙ ap (λ (l : List ℕ). first_named s Kind.Scope p l 0 rs) name-is)
      ∙ ap (λ (l : List ℕ). into (λ r. find_from s kind rs r (pieces l)) x)
      (ap (λ (j : ℕ). drop (j + 1) (drop at path)) (sym len_is) ∙ drop-drop (len + 1) at path)

pub no_row : (s : List ℕ) (kind : Kind) (p : ℕ) (name : List ℕ) → is_named s kind p name Row.None ≡ false
no_row s Kind.Scope p name = refl
no_row s Kind.Var p name = refl

nameless : (s : List ℕ) (kind : Kind) (p : ℕ) (name table : List ℕ) (i : ℕ) → length table / 10 ≤ i → is_named s kind p name (row_at table i) ≡ false
unfolding row_at
nameless s kind p name table i h = rw (le-ltb i (length table / 10) h) (no_row s kind p name)

pub beyond : (s : List ℕ) (kind : Kind) (p : ℕ) (name table : List ℕ) (k i : ℕ) → length table / 10 ≤ i → first_named s kind p name i (rows_from table i k) ≡ None
unfolding first_named rows_from
beyond s kind p name table zero i h = refl
beyond s kind p name table (suc k) i h = rw (nameless s kind p name table i h) (beyond s kind p name table k (i + 1) (omega arith))

-- ---- the first that is named
module _ (s : List ℕ) (kind : Kind) (p : ℕ) (name table : List ℕ) (count i : ℕ) where
  -- the answer from row i on
  abbrev pub from : Option RowNumber
  from = first_named s kind p name i (rows_from table i (count - i))

  one : (k : ℕ) → first_named s kind p name i (rows_from table i (suc k))
      ≡ cond (is_named s kind p name (row_at table i)) (Some (record { 0 = i })) (first_named s kind p name (i + 1) (rows_from table (i + 1) k))
  unfolding first_named rows_from
  one k = refl

  pub from_start : i ≡ 0 → first_named s kind p name 0 (rows_of table count) ≡ from
  from_start e = let k : count ≡ count - 0 = omega arith in rw e (ap (λ (j : ℕ). first_named s kind p name 0 (rows_from table 0 j)) k)

  pub from-hit : i < count → is_named s kind p name (row_at table i) ≡ true → from ≡ Some (record { 0 = i })
  from-hit h e =
      let k : count - i ≡ suc (count - suc i) = omega arith in
      rw k (one (count - suc i) ∙ rw e)

  pub from_more : i < count → is_named s kind p name (row_at table i) ≡ false → from ≡ first_named s kind p name (i + 1) (rows_from table (i + 1) (count - (i + 1)))
  from_more h e =
      let k : count - i ≡ suc (count - (i + 1)) = omega arith in
      rw k (one (count - (i + 1)) ∙ rw e)

  pub from_end : count ≤ i → from ≡ None
  unfolding first_named rows_from
  from_end h = let k : count - i ≡ 0 = omega arith in rw k

  -- past the rows that are asked for, or those that the table has
  pub from_past : min count (length table / 10) ≤ i → from ≡ None
  from_past h = elim (dec_lt i count) [ yes q ↦ beyond s kind p name table (count - i) i (omega arith) | no q ↦ from_end (omega arith) ]
