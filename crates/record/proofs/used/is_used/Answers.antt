-- Goals of `record::used::is_used` that the search leaves.
use Prim.Native.Nat.{ℕ}
use mathlib.Core.Logic.{◌⊎◌, ⊎_elim}
use mathlib.Core.Path.{◌≡◌, sym, ◌∙◌}
use mathlib.Core.Bool.{true, false, ◌&&◌, ◌||◌}
use borrow.Author.Tests.{le-leb, lt-leb, eq-eqb, ne_eqb}
use lib.Dec.{eqb}
use Rattle.record.specs.Used.{has_code, is_used}
use Rattle.record.proofs.used.is_used.Goals as goal
use Rattle.record.proofs.used.is_used.Goals.{then-kind-lt-COMMENT-via-then-kind-lt-COMMENT, then-kind-lt-COMMENT-via-else-kind-lt-COMMENT+then-kind-gt-END}
use Rattle.record.proofs.used.is_used.Goals.{Joined-else-w-ne0, else-w-ne0-via-then-w-ne0+else-not-has_code, else-w-ne0-via-else-w-ne0, then-w-eq0, else-w-eq0}

-- the code is 0, or the kind has one
code : (c : Joined-else-w-ne0) → let w = c.args.w in (eqb w.code 0 || has_code w.kind) ≡ true
code c =
    elim c.else-w-ne0.branch [
      | else-w-ne0-via-then-w-ne0+else-not-has_code w ↦
          rw (ne_eqb _ 0 w.if-w-ne0.true) (sym w.has_code.ensures ∙ w.if-not-has_code.false)
      | else-w-ne0-via-else-w-ne0 w ↦ rw (eq-eqb _ 0 w.if-w-ne0.false)
    ]

-- start and length are not both 0
some : (s l : ℕ) → ((s ≡ 0 × (l ≡ 0 → ⊥)) ⊎ (s ≡ 0 → ⊥)) → (eqb s 0 && eqb l 0) ≡ false
some s l e = ⊎_elim (λ h. rw (eq-eqb s 0 h.0, ne_eqb l 0 h.1)) (λ h. rw (ne_eqb s 0 h)) e

pub returns-then-kind-lt-COMMENT : goal.returns-then-kind-lt-COMMENT
unfolding is_used
returns-then-kind-lt-COMMENT c =
    elim c.then-kind-lt-COMMENT.branch [
      | then-kind-lt-COMMENT-via-then-kind-lt-COMMENT w ↦ rw (lt-leb 1 _ w.if-kind-lt-COMMENT.true)
      | then-kind-lt-COMMENT-via-else-kind-lt-COMMENT+then-kind-gt-END w ↦
          rw (le-leb 1 _ w.if-kind-lt-COMMENT.false, lt-leb _ 15 w.if-kind-gt-END.true)
    ]

pub returns-then-number_most-w : goal.returns-then-number_most-w
unfolding is_used
returns-then-number_most-w c = rw (le-leb 1 _ c.if-kind-lt-COMMENT.false, le-leb _ 15 c.if-kind-gt-END.false, ← c.number_most.ensures, lt-leb _ _ c.if-number_most-w.true)

pub returns-then-amount_most-w : goal.returns-then-amount_most-w
unfolding is_used
returns-then-amount_most-w c =
    rw (
      le-leb 1 _ c.if-kind-lt-COMMENT.false,
      le-leb _ 15 c.if-kind-gt-END.false,
      ← c.number_most.ensures,
      le-leb _ _ c.if-number_most-w.false,
      ← c.amount_most.ensures,
      lt-leb _ _ c.if-amount_most-w.true,
    )

pub returns-then-not-has_code : goal.returns-then-not-has_code
unfolding is_used
returns-then-not-has_code c =
    rw (
      le-leb 1 _ c.if-kind-lt-COMMENT.false,
      le-leb _ 15 c.if-kind-gt-END.false,
      ← c.number_most.ensures,
      le-leb _ _ c.if-number_most-w.false,
      ← c.amount_most.ensures,
      le-leb _ _ c.if-amount_most-w.false,
      ne_eqb _ 0 c.if-w-ne0.true,
      ← c.has_code.ensures,
      c.if-not-has_code.true,
    )

pub returns-then-w-eq0-2 : goal.returns-then-w-eq0-2
unfolding is_used
returns-then-w-eq0-2 c =
    rw (
      le-leb 1 _ c.if-kind-lt-COMMENT.false,
      le-leb _ 15 c.if-kind-gt-END.false,
      ← c.number_most.ensures,
      le-leb _ _ c.if-number_most-w.false,
      ← c.amount_most.ensures,
      le-leb _ _ c.if-amount_most-w.false,
      code (goal.at.returns-then-w-eq0-2 c).Joined-else-w-ne0,
      eq-eqb _ 0 c.if-w-eq0-2.true.0,
      eq-eqb _ 0 c.if-w-eq0-2.true.1,
    )
    (elim c.if-w-eq0.branch [
      | then-w-eq0 w ↦ w.t-11-is ∙ eq-eqb _ 0 c.if-w-eq0-2.true.1
      | else-w-eq0 w ↦ absurd (w.if-w-eq0.false c.if-w-eq0-2.true.0)
    ])

pub returns-else-w-eq0-2 : goal.returns-else-w-eq0-2
unfolding is_used
returns-else-w-eq0-2 c =
    rw (
      le-leb 1 _ c.if-kind-lt-COMMENT.false,
      le-leb _ 15 c.if-kind-gt-END.false,
      ← c.number_most.ensures,
      le-leb _ _ c.if-number_most-w.false,
      ← c.amount_most.ensures,
      le-leb _ _ c.if-amount_most-w.false,
      code (goal.at.returns-else-w-eq0-2 c).Joined-else-w-ne0,
      some c.args.w.start c.args.w.len c.if-w-eq0-2.either,
    )
    c.has_text.ensures
