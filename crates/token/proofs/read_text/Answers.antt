-- Goals of `token::read_text` that the search leaves.
use Rattle.std.specs.Prelude.{Some}
use Prim.Native.Nat.{◌+◌, ◌≤◌}
use mathlib.Core.Path.{◌≡◌, sym, ap, ◌∙◌}
use native.Mathlib.Omega.{arith}
use lib.ListN.{length}
use Rattle.command.specs.Words.{first_end}
use Rattle.text.proofs.Lists.{take_rest}
use Rattle.token.specs.Read.{Valid, rest}
use Rattle.token.proofs.Texts.{over-valid, text-found, text-lost}
use Rattle.token.proofs.read_text.Goals as goal
use Rattle.token.proofs.read_text.Goals.{After-find_end-found, In-Some}

-- what the search found
sought : (c : After-find_end-found) → c.find_end-found.result ≡ first_end (rest c.args.input.now c.args.c)
sought c = c.find_end-found.ensures ∙ ap first_end (take_rest c.args.input.now c.args.c.place)

at_mark : (c : In-Some) → Some c.in-Some.len ≡ first_end (rest c.args.input.now c.args.c)
at_mark c = sym c.in-Some.is ∙ c.find_end-found.ensures ∙ ap first_end (take_rest c.args.input.now c.args.c.place)

room : (c : In-Some) → c.args.c.place + c.in-Some.len + 4 ≤ length c.args.input.now
room c = (text-found _ _ c.requires _ (at_mark c)).0

pub overflow_add-end : goal.overflow_add-end
overflow_add-end c = omega (arith, room (goal.at.overflow_add-end c).In-Some)

pub overflow_add-end-in-Some : goal.overflow_add-end-in-Some
overflow_add-end-in-Some c = omega (arith, room (goal.at.overflow_add-end-in-Some c).In-Some)

pub read_over-next-requires : goal.read_over-next-requires
read_over-next-requires c = record { valid = c.requires; place_le_end = (omega arith, omega (arith, room (goal.at.read_over-next-requires c).In-Some)) }

pub end_read-requires : goal.end_read-requires
end_read-requires c =
    let v : Valid c.args.input.now c.read_over-end.result = rw c.read_over-end.ensures (over-valid _ _ _ c.requires) in
    omega arith

pub returns-in-Some : goal.returns-in-Some
returns-in-Some c = rw c.read_over-next.ensures (text-found _ _ c.requires _ (at_mark (goal.at.returns-in-Some c).In-Some)).1

pub returns-in-None : goal.returns-in-None
returns-in-None c =
    rw (c.end_read.ensures, c.read_over-end.ensures)
    (text-lost _ _ c.requires (sym c.in-None.is ∙ sought (goal.at.returns-in-None c).After-find_end-found))
