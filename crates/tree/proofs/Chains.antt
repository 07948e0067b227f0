-- The chain of parents in a table as the stack of open scopes, and what is good of a row there.
use Rattle.std.specs.Prelude.{Option, Some, None}
use Rattle.rows.specs.declared.RowNumber.{RowNumber}
use Prim.Native.Nat.{ℕ, zero, suc, ◌+◌, ◌≤◌, ◌<◌}
use mathlib.Core.Path.{◌≡◌, refl, sym, ap, ◌∙◌}
use mathlib.Core.Bool.{Bool, true, false, cond, and-false}
use mathlib.Core.List.{List, [], ◌∷◌}
use native.Mathlib.Omega.{arith}
use native.Mathlib.Numerals.{add-one}
use borrow.Author.Tests.{eq-eqb, ne_eqb, lt-ltb, le-ltb, le-leb, lt-leb, eqb-true, eqb-false}
use lib.Dec.{eqb}
use lib.ListN.{length}
use Rattle.rows.specs.Good.{is_parent, open_to, is_good_from, is_good_table}
use Rattle.rows.specs.Rows.{top, parent_of, row_at, rows_of}
use Rattle.rows.specs.declared.Row.{Row}
use Rattle.text.proofs.Lists.{by-test}
use Rattle.rows.specs.Peek.{kind_of}
use Rattle.rows.proofs.Peeking.{word-of, none-kind, scope-kind}
use Rattle.tree.specs.Chain.{rest, parent_at, chain, base, Under, Unwound, StandsOn}
use Rattle.tree.proofs.Rows.{open-other, scope-parent, var-parent, comment-parent, rest_all, rest-cons, length-rows}

length-chain : (table : List ℕ) (cur d : ℕ) → length (chain table cur d) ≡ d
unfolding chain
length-chain table cur zero = refl
length-chain table cur (suc d) = ap suc (length-chain table (parent_at table cur) d)

-- the word of the innermost
abbrev innermost : List ℕ → ℕ
innermost [] = top
innermost (n ∷ st) = n

inner-chain : (table : List ℕ) (cur d : ℕ) → base table cur d ≡ top → innermost (chain table cur d) ≡ cur
unfolding chain base
inner-chain table cur zero h = sym h
inner-chain table cur (suc d) h = refl

-- a parent stands among the open scopes if it is the innermost of those that stay open
among : (p : ℕ) (st : List ℕ) → is_parent (parent_of p) st ≡ eqb (innermost (open_to (parent_of p) st)) p
unfolding parent_of is_parent open_to
among p st = by-test (eqb p top) (λ e. rw (e, eqb-true p top e)) (λ e. rw e (go e st))
  where
    step : (b : Bool) (n : ℕ) (st : List ℕ) → eqb p n ≡ b → is_parent (Some (record { 0 = p })) st ≡ eqb (innermost (open_to (Some (record { 0 = p })) st)) p
        → cond b true (is_parent (Some (record { 0 = p })) st) ≡ eqb (innermost (cond b (n ∷ st) (open_to (Some (record { 0 = p })) st))) p
    step true n st e ih = sym (eq-eqb n p (sym (eqb-true p n e)))
    step false n st e ih = ih

    go : eqb p top ≡ false → (st : List ℕ) → is_parent (Some (record { 0 = p })) st ≡ eqb (innermost (open_to (Some (record { 0 = p })) st)) p
    go e [] = sym (ne_eqb top p (λ q. eqb-false p top e (sym q)))
    go e (n ∷ st) = step (eqb p n) n st refl (go e st)

-- ---- unwinding: the scope p is found, or none is left, or the innermost is another and is closed
pub next_under : {q : ℕ} (table : List ℕ) (cur d e : ℕ) → q ≡ parent_at table cur → d ≡ suc e → Under table cur d → Under table q e
unfolding Under
next_under table cur d e p s u = rw p (rw s at u).1

open-same : (p : ℕ) (st : List ℕ) → p < top → open_to (parent_of p) (p ∷ st) ≡ p ∷ st
unfolding parent_of open_to
open-same p st h = rw (ne_eqb p top (λ e. omega (arith, e)), eq-eqb p p refl)

pub found : (table : List ℕ) (p cur d : ℕ) → 0 < d → cur ≡ p → Under table cur d → Unwound table p cur d cur d
unfolding chain Under
found table p cur zero h e u = absurd (omega arith)
found table p cur (suc d) h e u =
    record { left = rw (← e) (sym (open-same cur (chain table (parent_at table cur) d) u.0)); same = refl; under = u; fewer = omega arith }

open_none : (p : Option RowNumber) → open_to p [] ≡ []
unfolding open_to
open_none None = refl
open_none (Some n) = refl

pub none_left : (table : List ℕ) (p cur d : ℕ) → d ≡ 0 → Unwound table p cur d cur 0
unfolding chain Under
none_left table p cur d h = rw h (record { left = sym (open_none (parent_of p)); same = refl; under = tt; fewer = omega arith })

pub closed : (table : List ℕ) (p cur d e q cur' d' : ℕ) → d ≡ suc e → (cur ≡ p → ⊥) → q ≡ parent_at table cur
    → Unwound table p q e cur' d' → Unwound table p cur d cur' d'
unfolding chain base
closed table p cur d e q cur' d' s f is u =
    let v = rw is at u in
    rw s
    (record {
      left = v.left ∙ sym (open-other (parent_of p) cur (chain table (parent_at table cur) e) (λ y. f (sym (sym (word-of p) ∙ y))));
      same = v.same;
      under = v.under;
      fewer = omega (arith, v.fewer);
    })

-- ---- there is no row
pub no_row : (table : List ℕ) (i cur d : ℕ) → kind_of (row_at table i) ≡ 0
    → (rs : List Row) → is_good_from i (chain table cur d) (row_at table i ∷ rs) ≡ false
unfolding is_good_from
no_row table i cur d e rs = rw (none-kind (row_at table i) e)

-- ---- row i, where the chain from `cur` is open, and the chain from cur' is what stays open before it
module _ (table : List ℕ) (i cur d cur' d' : ℕ) (ends : base table cur d ≡ top) {q : ℕ} (is : q ≡ parent_at table i)
    (unwound : Unwound table q cur d cur' d') where
  u : Unwound table (parent_at table i) cur d cur' d'
  u = rw is at unwound

  parents : is_parent (parent_of (parent_at table i)) (chain table cur d) ≡ eqb cur' (parent_at table i)
  parents = among (parent_at table i) (chain table cur d) ∙ rw (← u.left, inner-chain table cur' d' (u.same ∙ ends))

  module _ {p : Option RowNumber} (e : parent_of (parent_at table i) ≡ p) where
    parent-no : (cur' ≡ parent_at table i → ⊥) → is_parent p (chain table cur d) ≡ false
    parent-no f = rw (← e) (parents ∙ ne_eqb cur' (parent_at table i) f)

    parent-yes : cur' ≡ parent_at table i → is_parent p (chain table cur d) ≡ true
    parent-yes f = rw (← e) (parents ∙ eq-eqb cur' (parent_at table i) f)

    stays : open_to p (chain table cur d) ≡ chain table cur' d'
    stays = rw (← e) (sym u.left)

  strays : (r : Row) → row_at table i ≡ r → (cur' ≡ parent_at table i → ⊥) → (rs : List Row) → is_good_from i (chain table cur d) (r ∷ rs) ≡ false
  unfolding is_good_from
  strays (Row.Scope p k t) e f rs = rw (parent-no (scope-parent table i e) f)
  strays (Row.Var p v) e f rs = rw (parent-no (var-parent table i e) f)
  strays (Row.Comment p t) e f rs = rw (parent-no (comment-parent table i e) f)
  strays Row.None e f rs = refl

  pub no-parent : (cur' ≡ q → ⊥) → (rs : List Row) → is_good_from i (chain table cur d) (row_at table i ∷ rs) ≡ false
  no-parent f rs = strays (row_at table i) refl (λ e. f (e ∙ sym is)) rs

  module _ (found : cur' ≡ q) where
    f : cur' ≡ parent_at table i
    f = found ∙ is

    -- a scope
    module _ (e : kind_of (row_at table i) ≡ 1) where
      pub too-deep : 64 ≤ d' → (rs : List Row) → is_good_from i (chain table cur d) (row_at table i ∷ rs) ≡ false
      unfolding is_good_from
      too-deep l rs =
          let x = scope-kind (row_at table i) e in
          let q = scope-parent table i x.3 in
          rw (x.3, stays q, length-chain table cur' d', le-ltb d' 64 l, and-false (is_parent x.0 (chain table cur d)))

      pub scope-stands : d' < 64 → i < top → StandsOn table i cur d i (d' + 1)
      unfolding is_good_from base Under chain
      scope-stands l h =
          let x = scope-kind (row_at table i) e in
          let q = scope-parent table i x.3 in
          record {
            ends = rw (add-one d', ← f) (u.same ∙ ends);
            under = rw (add-one d', ← f) (h, u.under);
            deep = omega arith;
            goes = λ rs. rw (x.3, parent-yes q f, stays q, length-chain table cur' d', lt-ltb d' 64 l, add-one d', f);
          }

    -- a variable or a comment
    leaf : (r : Row) → row_at table i ≡ r → (kind_of r ≡ 0 → ⊥) → (kind_of r ≡ 1 → ⊥)
        → (rs : List Row) → is_good_from i (chain table cur d) (r ∷ rs) ≡ is_good_from (i + 1) (chain table cur' d') rs
    unfolding is_good_from
    leaf (Row.Scope p k t) e kn ks rs = absurd (ks refl)
    leaf (Row.Var p v) e kn ks rs = let q = var-parent table i e in rw (parent-yes q f, stays q)
    leaf (Row.Comment p t) e kn ks rs = let q = comment-parent table i e in rw (parent-yes q f, stays q)
    leaf Row.None e kn ks rs = absurd (kn refl)

    pub leaf-stands : (kind_of (row_at table i) ≡ 0 → ⊥) → (kind_of (row_at table i) ≡ 1 → ⊥) → d ≤ 64 → StandsOn table i cur d cur' d'
    leaf-stands kn ks h =
        record { ends = u.same ∙ ends; under = u.under; deep = omega (arith, u.fewer); goes = leaf (row_at table i) refl kn ks }

-- ---- the whole table
pub too_many : (table : List ℕ) (n : ℕ) → 4096 < n → is_good_table (rows_of table n) ≡ false
unfolding is_good_table
too_many table n h = rw (length-rows table 0 n, lt-leb n 4096 h)

pub good_start : (table : List ℕ) (n : ℕ) → n ≤ 4096 → is_good_table (rows_of table n) ≡ is_good_from 0 (chain table top 0) (rest table n 0)
unfolding is_good_table chain
good_start table n h = rw (length-rows table 0 n, le-leb n 4096 h, rest_all table n)

pub base-start : (table : List ℕ) → base table top 0 ≡ top
unfolding base
base-start table = refl

pub under-start : (table : List ℕ) → Under table top 0
unfolding Under
under-start table = tt

-- what is told of row i and any rows after it
module _ (table : List ℕ) (n i cur d : ℕ) (l : i < n) where
  pub row-off : ((rs : List Row) → is_good_from i (chain table cur d) (row_at table i ∷ rs) ≡ false) → is_good_from i (chain table cur d) (rest table n i) ≡ false
  row-off f = rw (rest-cons table n i l) (f (rest table n (i + 1)))

  pub row_on : {cur' d' : ℕ} → StandsOn table i cur d cur' d'
      → is_good_from i (chain table cur d) (rest table n i) ≡ is_good_from (i + 1) (chain table cur' d') (rest table n (i + 1))
  row_on x = rw (rest-cons table n i l) (x.goes (rest table n (i + 1)))
