-- Goals of `fast_var::is_usual` that the search leaves.
use Rattle.std.proofs.Common.{◌≡◌, ℕ, cond, get_or, sym, ap, ◌∙◌, eqb-true}
use borrow.Author.Tests.{eq-eqb, ne_eqb}
use Rattle.fast_var.proofs.Places.{odd, usual-here}
use Rattle.fast_var.proofs.is_usual.Goals as goal
use Rattle.fast_var.proofs.is_usual.Goals.{Joined-wire, then-wire, else-wire}

wanted : (c : Joined-wire) → c.if-wire.want ≡ cond (odd c.args.input.now c.args.at) 1701996919 543647090
wanted c = elim c.if-wire.branch [ then-wire w ↦ rw (eq-eqb _ 1 w.if-wire.true) w.want-is | else-wire w ↦ rw (ne_eqb _ 1 w.if-wire.false) w.want-is ]

pub returns-then-word-want : goal.returns-then-word-want
returns-then-word-want c =
    λ e.
    usual-here c.args.input.now c.args.at (λ i. (c.type_inv.input i).fits) (odd c.args.input.now c.args.at) c.if-input-at.false
    (sym c.quad-word.ensures ∙ c.if-word-want.true ∙ wanted (goal.at.returns-then-word-want c).Joined-wire)
    (ap (λ (i : ℕ). get_or c.args.input.now i 0) (sym c.usual_end.ensures) ∙ eqb-true _ _ e)
