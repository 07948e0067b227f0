-- What the words of a row tell of it.
--     row-cases                          words are no row, or a row of one of three kinds
--     is-scope, is-var, is-comment       the row of words, by its kind
--     none-kind, scope-kind, var-kind    what a row is, by its kind
--     no_row, no-var, row-held, var-held     row i by its words: what stands in for it where there is none, and what it is where there is one
use Rattle.std.specs.Prelude.{Option}
use Rattle.rows.specs.declared.RowNumber.{RowNumber}
use Prim.Native.Nat.{ℕ, ◌+◌, ◌*◌, ◌/◌, ◌^◌, ◌<◌}
use mathlib.Core.Path.{◌≡◌, refl, sym, ap}
use mathlib.Core.Bool.{true, ◌&&◌}
use mathlib.Core.List.{List}
use native.Mathlib.Omega.{arith}
use borrow.Author.Tests.{ltb-true, eqb-true}
use lib.Dec.{eqb, ltb, leb}
use lib.ListN.{length, get_or}
use Rattle.rows.specs.Rows.{top, parent_word, parent_of, is_index, index_of, is_plain, text_at, text_of, var_of, text_words, row_of, words_at, row_at}
use Rattle.rows.specs.declared.Row.{Row}
use Rattle.rows.specs.declared.RowWords.{RowWords}
use Rattle.scope.specs.Numbers.{scope_type_of, var_type_of}
use Rattle.scope.specs.declared.ScopeType.{ScopeType}
use Rattle.text.specs.declared.Text.{Text}
use Rattle.text.proofs.Lists.{by-test, both}
use Rattle.rows.specs.Peek.{kind_of, parent_in, no_var, var_in}

-- the word of the parent that a word is
pub word-of : (w : ℕ) → parent_word (parent_of w) ≡ w
unfolding parent_of
word-of w = by-test (eqb w top) (λ e. rw e (sym (eqb-true w top e))) (λ e. rw e)

-- words are no row, or a row of one of three kinds; what is asked of the words stands in front
pub row-cases : (P : Row → Type 0) (w : RowWords)
    → P (Row.Scope (parent_of w.parent) (scope_type_of w.number) (text_of w))
    → (w.width < 2 ^ 32 → is_index w.form w.first w.second ≡ true → P (Row.Var (parent_of w.parent) (var_of w)))
    → P (Row.Comment (parent_of w.parent) (text_of w)) → P Row.None → P (row_of w)
unfolding row_of
row-cases P w x y z none =
    by-test (eqb w.kind 1 && leb w.number 4 && is_plain w) (λ e. rw e x)
    (λ e.
    by-test (eqb w.kind 2 && leb w.number 17 && ltb w.width (2 ^ 32) && is_index w.form w.first w.second)
    (λ q.
    let i = both (eqb w.kind 2 && leb w.number 17 && ltb w.width (2 ^ 32)) (is_index w.form w.first w.second) q in
    let n = both (eqb w.kind 2 && leb w.number 17) (ltb w.width (2 ^ 32)) i.0 in
    rw (e, q) (y (ltb-true w.width (2 ^ 32) n.1) i.1))
    (λ q. by-test (eqb w.kind 3 && eqb w.number 0 && is_plain w) (λ r. rw (e, q, r) z) (λ r. rw (e, q, r) none)))

-- ---- the row of words, by its kind
module _ (w : RowWords) where
  pub is-scope : kind_of (row_of w) ≡ 1 → row_of w ≡ Row.Scope (parent_of w.parent) (scope_type_of w.number) (text_of w)
  is-scope =
      row-cases (λ r. kind_of r ≡ 1 → r ≡ Row.Scope (parent_of w.parent) (scope_type_of w.number) (text_of w)) w
      (λ e. refl) (λ h x e. absurd (omega (arith, e))) (λ e. absurd (omega (arith, e))) (λ e. absurd (omega (arith, e)))

  pub is-var : kind_of (row_of w) ≡ 2 → (w.width < 2 ^ 32) × (is_index w.form w.first w.second ≡ true) × (row_of w ≡ Row.Var (parent_of w.parent) (var_of w))
  is-var =
      row-cases (λ r. kind_of r ≡ 2 → (w.width < 2 ^ 32) × (is_index w.form w.first w.second ≡ true) × (r ≡ Row.Var (parent_of w.parent) (var_of w))) w
      (λ e. absurd (omega (arith, e))) (λ h x e. (h, x, refl)) (λ e. absurd (omega (arith, e))) (λ e. absurd (omega (arith, e)))

  pub is-comment : kind_of (row_of w) ≡ 3 → row_of w ≡ Row.Comment (parent_of w.parent) (text_of w)
  is-comment =
      row-cases (λ r. kind_of r ≡ 3 → r ≡ Row.Comment (parent_of w.parent) (text_of w)) w
      (λ e. absurd (omega (arith, e))) (λ h x e. absurd (omega (arith, e))) (λ e. refl) (λ e. absurd (omega (arith, e)))

  pub is_none : (kind_of (row_of w) ≡ 1 → ⊥) → (kind_of (row_of w) ≡ 2 → ⊥) → (kind_of (row_of w) ≡ 3 → ⊥) → row_of w ≡ Row.None
  is_none =
      row-cases (λ r. (kind_of r ≡ 1 → ⊥) → (kind_of r ≡ 2 → ⊥) → (kind_of r ≡ 3 → ⊥) → r ≡ Row.None) w
      (λ a b c. absurd (a refl)) (λ h x a b c. absurd (b refl)) (λ a b c. absurd (c refl)) (λ a b c. refl)

-- ---- what a row is, by its kind
pub none-kind : (r : Row) → kind_of r ≡ 0 → r ≡ Row.None
none-kind (Row.Scope p k t) e = absurd (omega (arith, e))
none-kind (Row.Var p v) e = absurd (omega (arith, e))
none-kind (Row.Comment p t) e = absurd (omega (arith, e))
none-kind Row.None e = refl

pub scope-kind : (r : Row) → kind_of r ≡ 1 → (p : Option RowNumber) × (k : ScopeType) × (t : Text) × (r ≡ Row.Scope p k t)
scope-kind (Row.Scope p k t) e = (p, k, t, refl)
scope-kind (Row.Var p v) e = absurd (omega (arith, e))
scope-kind (Row.Comment p t) e = absurd (omega (arith, e))
scope-kind Row.None e = absurd (omega (arith, e))

pub var-kind : (r : Row) → kind_of r ≡ 2 → (p : Option RowNumber) × (r ≡ Row.Var p (var_in r))
var-kind (Row.Scope p k t) e = absurd (omega (arith, e))
var-kind (Row.Var p v) e = (p, refl)
var-kind (Row.Comment p t) e = absurd (omega (arith, e))
var-kind Row.None e = absurd (omega (arith, e))

no-var-in : (r : Row) → (kind_of r ≡ 2 → ⊥) → var_in r ≡ no_var
no-var-in (Row.Scope p k t) f = refl
no-var-in (Row.Var p v) f = absurd (f refl)
no-var-in (Row.Comment p t) f = refl
no-var-in Row.None f = refl

-- the variable of words that are all 0
pub zeros-var : var_of (text_words 0 0 0 (text_at 0 0)) ≡ no_var
unfolding var_type_of index_of
zeros-var = refl

-- ---- row i and its words
module _ (table : List ℕ) (i : ℕ) where
  -- where there is none
  pub no_row : kind_of (row_at table i) ≡ 0 → parent_in (row_at table i) ≡ top
  no_row e = ap parent_in (none-kind (row_at table i) e)

  pub no-var : (kind_of (row_at table i) ≡ 2 → ⊥) → var_in (row_at table i) ≡ no_var
  no-var f = no-var-in (row_at table i) f

  -- where there is one
  abbrev words : RowWords
  words = words_at table (10 * i)

  abbrev RowHeld : Row → Type 0
  RowHeld r = (kind_of r ≡ 0 → ⊥) → (i < length table / 10) × (parent_in r ≡ get_or table (10 * i + 1) 0)

  abbrev VarHeld : Row → Type 0
  VarHeld r = kind_of r ≡ 2 → (words.width < 2 ^ 32) × (var_in r ≡ var_of words)

  pub row-held : RowHeld (row_at table i)
  unfolding row_at
  row-held =
      by-test (ltb i (length table / 10))
      (λ e.
      let l = ltb-true i (length table / 10) e in
      let x = word-of words.parent in
      rw e (row-cases RowHeld words (λ _. (l, x)) (λ _ _ _. (l, x)) (λ _. (l, x)) (λ f. absurd (f refl))))
      (λ e. rw e (λ f. absurd (f refl)))

  pub var-held : VarHeld (row_at table i)
  unfolding row_at
  var-held =
      by-test (ltb i (length table / 10))
      (λ e.
      rw e
      (row-cases VarHeld words
      (λ q. absurd (omega (arith, q))) (λ h x _. (h, refl)) (λ q. absurd (omega (arith, q))) (λ q. absurd (omega (arith, q)))))
      (λ e. rw e (λ q. absurd (omega (arith, q))))
