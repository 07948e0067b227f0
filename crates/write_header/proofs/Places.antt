-- What 25 asks: no text of a header lies outside the source.
use Rattle.std.specs.Prelude.{Option}
use Rattle.rows.specs.declared.RowNumber.{RowNumber}
use Prim.Native.Nat.{ℕ, ◌≤◌, ◌<◌}
use mathlib.Core.Path.{◌≡◌, subst, ◌∙◌}
use mathlib.Core.Bool.{false, not, ◌||◌}
use mathlib.Core.List.{List}
use native.Mathlib.Omega.{arith}
use borrow.Author.Tests.{leb-true, not-false}
use lib.ListN.{length}
use Rattle.rows.specs.Rows.{row_at, rows_of}
use Rattle.header.specs.declared.Header.{Header}
use Rattle.rows.specs.declared.Row.{Row}
use Rattle.scope.specs.declared.ScopeType.{ScopeType}
use Rattle.scope.specs.declared.Var.{Var}
use Rattle.text.specs.Texts.{limit, is_within, too_long, outside}
use Rattle.text.specs.declared.Text.{Text}
use Rattle.text.proofs.Lists.{neither}
use Rattle.rows.specs.Peek.{kind_of, var_in}
use Rattle.rows.proofs.Peeking.{var-kind}
use Rattle.text.proofs.Limit.{outside-else}
use Rattle.tree.specs.Place.{row_outside, some_outside}
use Rattle.tree.proofs.Places.{all_placed}
use Rattle.write_header.specs.Levels.{Inside}
use Rattle.write_header.specs.Written.{kept_outside, misplaced}

-- a source that is not too long
short : (s : List ℕ) → too_long s ≡ false → length s ≤ limit
unfolding too_long
short s e = leb-true (length s) limit (not-false _ e)

pub placed : (s : List ℕ) (t : Text) → too_long s ≡ false → not (is_within s t) ≡ false → outside s t ≡ false
placed s t e h = outside-else s t (short s e) ∙ h

-- ---- the commands of rows
module _ (s table : List ℕ) (n i : ℕ) (x : Inside s table n) (l : i < n) where
  pub scope-placed : {p : Option RowNumber} {k : ScopeType} {t : Text} → row_at table i ≡ Row.Scope p k t → outside s t ≡ false
  scope-placed {t = t} e = placed s t x.short (rw e at (x.placed i l))

  pub var-placed : {v : Var} → v ≡ var_in (row_at table i) → kind_of (row_at table i) ≡ 2 → outside s v.reference ≡ false
  var-placed {v} q e =
      rw q
      (placed s (var_in (row_at table i)).reference x.short
      (subst (λ (r : Row). row_outside s r ≡ false) (var-kind (row_at table i) e).1 (x.placed i l)))

  pub comment-placed : {p : Option RowNumber} {t : Text} → row_at table i ≡ Row.Comment p t → outside s t ≡ false
  comment-placed {t = t} e = placed s t x.short (rw e at (x.placed i l))

-- nothing is misplaced
pub inside : (s : List ℕ) (h : Header) (table : List ℕ) (n : ℕ) → misplaced s h (rows_of table n) ≡ false
    → (kept_outside s h.date ≡ false) × (kept_outside s h.version ≡ false) × Inside s table n
unfolding misplaced
inside s h table n e =
    let a = neither (too_long s || kept_outside s h.date || kept_outside s h.version) (some_outside s (rows_of table n)) e in
    let b = neither (too_long s || kept_outside s h.date) (kept_outside s h.version) a.0 in
    let c = neither (too_long s) (kept_outside s h.date) b.0 in
    (c.1, b.1, record { short = c.0; placed = λ i l. all_placed s table 0 n a.1 i (omega arith) (omega arith) })
