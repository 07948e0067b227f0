-- Row i is written, or variables from it on: what comes of their commands is what comes of the rows from it on.
use Rattle.std.specs.Prelude.{Option, Result, Ok, Err}
use Rattle.rows.specs.declared.RowNumber.{RowNumber}
use Prim.Native.Nat.{ℕ, ◌+◌, ◌-◌, ◌≤◌, ◌<◌}
use mathlib.Core.Path.{◌≡◌, refl, sym, ap, ◌∙◌}
use mathlib.Core.Bool.{true, false, false≢true}
use mathlib.Core.List.{List, [], ◌∷◌}
use native.Mathlib.Omega.{arith}
use native.Mathlib.Decide.{dec_lt}
use borrow.Author.Tests.{eq-eqb, eqb-true}
use lib.Dec.{eqb}
use lib.ListN.{length}
use Rattle.command.specs.Meaning.{Meaning, scope_def, upscope}
use Rattle.command.specs.declared.Refusal.{Refusal}
use Rattle.rows.specs.Good.{is_good_from}
use Rattle.header.specs.Header.{inner}
use Rattle.rows.specs.Rows.{top, parent_of, row_at}
use Rattle.rows.specs.declared.Row.{Row}
use Rattle.scope.specs.declared.ScopeType.{ScopeType}
use Rattle.scope.specs.declared.Var.{Var}
use Rattle.text.specs.Texts.{part}
use Rattle.text.specs.declared.Text.{Text}
use Rattle.text.proofs.Lists.{both}
use Rattle.rows.specs.Peek.{kind_of, var_in}
use Rattle.rows.proofs.Peeking.{var-kind}
use Rattle.write.specs.declared.Writer.{Writer}
use Rattle.tree.specs.Chain.{parent_at, is_var_of, rest}
use Rattle.write_header.specs.Levels.{Where, Goes, Ends, WritesItem, WritesScope, Closes, Fits}
use Rattle.write_header.specs.Meanings.{var_meaning, row_meanings}
use Rattle.write_header.specs.Pour.{pour, stop, Writes}
use Rattle.write_header.specs.Written.{Outcome}
use Rattle.write_header.proofs.Rows.{here-scope, here-var, here-none, pop, scope-inner}

module _ (s table : List ℕ) (n levels i : ℕ) (o : List ℕ) (at : ℕ) (w : Writer) (l : i < n) where
  -- row i is one command and opens no scope
  abbrev pub Leaf : Meaning → Type 0
  Leaf m =
      (st : List ℕ) → inner st ≡ parent_of (parent_at table i) → is_good_from i st (rest table n i) ≡ true
      → (is_good_from (i + 1) st (rest table n (i + 1)) ≡ true)
      × (row_meanings s i st (rest table n i) ≡ m ∷ row_meanings s (i + 1) st (rest table n (i + 1)))

  pub leaf : (m : Meaning) → Leaf m → (r : Result (ℕ × ℕ × Writer) (Refusal × ℕ × Writer)) (left : List ℕ) → Writes o at w (m ∷ []) (i + 1) r left → WritesItem s table n levels i o at w r left
  leaf m f (Ok (j, at', w')) left x =
      rw x.0 (
        omega arith,
        omega arith,
        x.1,
        λ st h k g. let y = f st k g in (y.0, ap (pour o at w) y.1 ∙ x.2 (row_meanings s (i + 1) st (rest table n (i + 1)))),
      )
  leaf m f (Err (e, at', w')) left x =
      λ st h k g. ap (pour o at w) (f st k g).1 ∙ x (row_meanings s (i + 1) st (rest table n (i + 1)))

  pub no_row : row_at table i ≡ Row.None → (x : Outcome) → Ends s table n levels (parent_at table i) i o at w x
  no_row e x = λ st h k g. absurd (here-none s table n i st l k g e)

  -- row i is a scope
  module _ {p : Option RowNumber} {k : ScopeType} {t : Text} (e : row_at table i ≡ Row.Scope p k t) where
    pub no-level : levels ≡ 0 → (x : Outcome) → Ends s table n levels (parent_at table i) i o at w x
    no-level z x = λ st h q g. absurd (omega (arith, (here-scope s table n i st l q g e).0, h, z))

    pub not_opened : (x : Outcome) → ((more : List Meaning) → pour o at w (scope_def k (part s t) ∷ more) ≡ x)
        → Ends s table n levels (parent_at table i) i o at w x
    not_opened x f = λ st h q g. ap (pour o at w) (here-scope s table n i st l q g e).2 ∙ f (row_meanings s (i + 1) (i ∷ st) (rest table n (i + 1)))

    module _ (small : i < top) (some : levels ≡ 0 → ⊥) (o₁ : List ℕ) (at₁ : ℕ) (w₁ : Writer)
        (opens : (more : List Meaning) → pour o at w (scope_def k (part s t) ∷ more) ≡ pour o₁ at₁ w₁ more) where
      first : (st : List ℕ) → inner st ≡ parent_of (parent_at table i) → is_good_from i st (rest table n i) ≡ true
          → pour o at w (row_meanings s i st (rest table n i)) ≡ pour o₁ at₁ w₁ (row_meanings s (i + 1) (i ∷ st) (rest table n (i + 1)))
      first st q g = ap (pour o at w) (here-scope s table n i st l q g e).2 ∙ opens (row_meanings s (i + 1) (i ∷ st) (rest table n (i + 1)))

      -- the items are written, and the scope is closed next
      passed : (i₂ at₂ : ℕ) (w₂ : Writer) (o₂ : List ℕ) → WritesScope s table n (levels - 1) i (i + 1) o₁ at₁ w₁ (Ok (i₂, at₂, w₂)) o₂
          → Where table n levels (parent_at table i) i λ st.
          (is_good_from i₂ st (rest table n i₂) ≡ true)
          × (pour o at w (row_meanings s i st (rest table n i)) ≡ pour o₂ at₂ w₂ (upscope ∷ row_meanings s i₂ st (rest table n i₂)))
      passed i₂ at₂ w₂ o₂ y st h q g =
          let a = y.4 (i ∷ st) (omega (arith, h, some)) (scope-inner i st small) (here-scope s table n i st l q g e).1 in
          let b = pop s table n i₂ st i y.1 y.3 a.0 in
          (b.0, first st q g ∙ a.1 ∙ ap (pour o₂ at₂ w₂) b.1)

      pub nested : (x r : Result (ℕ × ℕ × Writer) (Refusal × ℕ × Writer)) (o₂ left : List ℕ) → WritesScope s table n (levels - 1) i (i + 1) o₁ at₁ w₁ x o₂ → Closes x o₂ r left
          → WritesItem s table n levels i o at w r left
      nested (Ok (i₂, at₂, w₂)) (Ok (i₃, at₃, w₃)) o₂ left y z =
          rw z.0 (
            omega (arith, y.0),
            y.1,
            z.1,
            λ st h q g. let a = passed i₂ at₂ w₂ o₂ y st h q g in (a.0, a.1 ∙ z.2 (row_meanings s i₂ st (rest table n i₂))),
          )
      nested (Ok (i₂, at₂, w₂)) (Err (f, at₃, w₃)) o₂ left y z =
          λ st h q g. (passed i₂ at₂ w₂ o₂ y st h q g).1 ∙ z (row_meanings s i₂ st (rest table n i₂))
      nested (Err (f, at₂, w₂)) r o₂ left y z =
          rw (z.0, z.1)
          (λ st h q g.
          first st q g ∙ y (i ∷ st) (omega (arith, h, some)) (scope-inner i st small) (here-scope s table n i st l q g e).1)

-- ---- the writing goes on from where it stopped, with the same scopes open
module _ (s table : List ℕ) (n levels me i : ℕ) (o : List ℕ) (at : ℕ) (w : Writer) (i₁ : ℕ) (o₁ : List ℕ) (at₁ : ℕ) (w₁ : Writer)
    (x : Goes s table n levels me i o at w i₁ o₁ at₁ w₁) (e : parent_at table i₁ ≡ me) where
  pub goes_on : (i₂ : ℕ) (o₂ : List ℕ) (at₂ : ℕ) (w₂ : Writer) → Goes s table n levels (parent_at table i₁) i₁ o₁ at₁ w₁ i₂ o₂ at₂ w₂
      → Goes s table n levels me i o at w i₂ o₂ at₂ w₂
  goes_on i₂ o₂ at₂ w₂ y st h k g =
      let a = x st h k g in
      let b = y st h (k ∙ ap parent_of (sym e)) a.0 in
      (b.0, a.1 ∙ b.1)

  pub goes-out : (r : Outcome) → Ends s table n levels (parent_at table i₁) i₁ o₁ at₁ w₁ r → Ends s table n levels me i o at w r
  goes-out r y st h k g = let a = x st h k g in a.1 ∙ y st h (k ∙ ap parent_of (sym e)) a.0

-- ---- variables of one scope: row `from` and those after it
pub var-of : (table : List ℕ) (i me : ℕ) → is_var_of table i me ≡ true → (kind_of (row_at table i) ≡ 2) × (parent_at table i ≡ me)
var-of table i me e =
    let a = both (eqb (kind_of (row_at table i)) 2) (eqb (parent_at table i) me) e in
    (eqb-true (kind_of (row_at table i)) 2 a.0, eqb-true (parent_at table i) me a.1)

-- row `from` is a variable of its own scope, so that a row that is none lies after it
pub moved : (table : List ℕ) (from i : ℕ) {me : ℕ} → me ≡ parent_at table from → kind_of (row_at table from) ≡ 2 → from ≤ i → is_var_of table i me ≡ false
    → from < i
moved table from i {me} m k h e = elim (dec_lt from i) [
  | yes l ↦ l
  | no l ↦
      let q : i ≡ from = omega arith in
      absurd (false≢true (sym (rw (q, m, k, eq-eqb (parent_at table from) (parent_at table from) refl) at e)))
]

module _ (s table : List ℕ) (n from : ℕ) (o : List ℕ) (at : ℕ) (w : Writer) where
  -- they are written up to row i, however many levels are left
  abbrev pub Run : ℕ → List ℕ → ℕ → Writer → Type 0
  Run i o₁ at₁ w₁ = (levels : ℕ) → Goes s table n levels (parent_at table from) from o at w i o₁ at₁ w₁

  module _ (i : ℕ) (o₁ : List ℕ) (at₁ : ℕ) (w₁ : Writer) (l : i < n) {v : Var} (q : v ≡ var_in (row_at table i))
      {me : ℕ} (m : me ≡ parent_at table from) (is : is_var_of table i me ≡ true) (x : Run i o₁ at₁ w₁) where
    its : (kind_of (row_at table i) ≡ 2) × (parent_at table i ≡ parent_at table from)
    its = let a = var-of table i me is in (a.0, a.1 ∙ m)

    item : (r : Result (ℕ × ℕ × Writer) (Refusal × ℕ × Writer)) (left : List ℕ) → Writes o₁ at₁ w₁ (var_meaning s v ∷ []) (i + 1) r left
        → (levels : ℕ) → WritesItem s table n levels i o₁ at₁ w₁ r left
    item r left y levels =
        leaf s table n levels i o₁ at₁ w₁ l (var_meaning s (var_in (row_at table i)))
        (λ st k g. here-var s table n i st l k g (var-kind (row_at table i) its.0).1) r left (rw q at y)

    pub one_more : (i₂ at₂ : ℕ) (w₂ : Writer) (left : List ℕ) → Writes o₁ at₁ w₁ (var_meaning s v ∷ []) (i + 1) (Ok (i₂, at₂, w₂)) left
        → Run i₂ left at₂ w₂
    one_more i₂ at₂ w₂ left y levels =
        goes_on s table n levels (parent_at table from) from o at w i o₁ at₁ w₁ (x levels) its.1 i₂ left at₂ w₂
        (item (Ok (i₂, at₂, w₂)) left y levels).3

    pub no_more : (f : Refusal) (at₂ : ℕ) (w₂ : Writer) (left : List ℕ) → Writes o₁ at₁ w₁ (var_meaning s v ∷ []) (i + 1) (Err (f, at₂, w₂)) left
        → (levels : ℕ) → Ends s table n levels (parent_at table from) from o at w (stop f at₂ w₂ left)
    no_more f at₂ w₂ left y levels =
        goes-out s table n levels (parent_at table from) from o at w i o₁ at₁ w₁ (x levels) its.1 (stop f at₂ w₂ left)
        (item (Err (f, at₂, w₂)) left y levels)

-- where the items end lies in the output
pub fits : (s table : List ℕ) (n levels me i : ℕ) (o : List ℕ) (at : ℕ) (w : Writer) (x : Result (ℕ × ℕ × Writer) (Refusal × ℕ × Writer)) (left : List ℕ)
    → WritesScope s table n levels me i o at w x left → Fits x (length left)
fits s table n levels me i o at w (Ok (i₁, at₁, w₁)) left y = y.2
fits s table n levels me i o at w (Err (e, at₁, w₁)) left y = tt
