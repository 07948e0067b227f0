-- Goals of `fast::eight_value` that the search leaves.
use Rattle.std.proofs.Common.{ℕ, ◌+◌, arith}
use Rattle.fast.proofs.Short.{in_pairs, Makes, eight-makes}
use Rattle.fast.proofs.eight_value.Goals as goal
use Rattle.fast.proofs.eight_value.Goals.{After-wide-8}

-- what the eight bytes make in all
abbrev total : After-wide-8 → ℕ
total c =
    in_pairs c.wide.result c.wide-2.result
    c.wide-3.result c.wide-4.result
    c.wide-5.result c.wide-6.result
    c.wide-7.result c.wide-8.result

told : (c : After-wide-8) → Makes c.args.input.now c.args.at (total c)
told c =
    eight-makes _ _ c.requires.0 c.requires.1 _ _ _ _ _ _ _ _
    c.wide.ensures c.wide-2.ensures
    c.wide-3.ensures c.wide-4.ensures
    c.wide-5.ensures c.wide-6.ensures
    c.wide-7.ensures c.wide-8.ensures

pub overflow_mul-a : goal.overflow_mul-a
overflow_mul-a c =
    omega (arith, c.wide.ensures, c.type_inv.input c.args.at)

pub overflow_add-a : goal.overflow_add-a
overflow_add-a c =
    let i = c.args.at in
    let byte = c.type_inv.input in
    omega (arith, c.wide.ensures, c.wide-2.ensures, byte i, byte (i + 1))

pub overflow_mul-b : goal.overflow_mul-b
overflow_mul-b c =
    omega (arith, c.wide-3.ensures, c.type_inv.input (c.args.at + 2))

pub overflow_add-b : goal.overflow_add-b
overflow_add-b c =
    let i = c.args.at in
    let byte = c.type_inv.input in
    omega (arith, c.wide-3.ensures, c.wide-4.ensures, byte (i + 2), byte (i + 3))

pub overflow_mul-c : goal.overflow_mul-c
overflow_mul-c c =
    omega (arith, c.wide-5.ensures, c.type_inv.input (c.args.at + 4))

pub overflow_add-c : goal.overflow_add-c
overflow_add-c c =
    let i = c.args.at in
    let byte = c.type_inv.input in
    omega (arith, c.wide-5.ensures, c.wide-6.ensures, byte (i + 4), byte (i + 5))

pub overflow_mul-d : goal.overflow_mul-d
overflow_mul-d c =
    omega (arith, c.wide-7.ensures, c.type_inv.input (c.args.at + 6))

pub overflow_add-d : goal.overflow_add-d
overflow_add-d c = omega (arith, told (goal.at.overflow_add-d c).After-wide-8)

pub overflow_mul-result : goal.overflow_mul-result
overflow_mul-result c = omega (arith, told (goal.at.overflow_mul-result c).After-wide-8)

pub overflow_add-result : goal.overflow_add-result
overflow_add-result c = omega (arith, told (goal.at.overflow_add-result c).After-wide-8)

pub overflow_mul-result-2 : goal.overflow_mul-result-2
overflow_mul-result-2 c = omega (arith, told (goal.at.overflow_mul-result-2 c).After-wide-8)

pub overflow_mul-result-3 : goal.overflow_mul-result-3
overflow_mul-result-3 c = omega (arith, told (goal.at.overflow_mul-result-3 c).After-wide-8)

pub overflow_add-result-2 : goal.overflow_add-result-2
overflow_add-result-2 c = omega (arith, told (goal.at.overflow_add-result-2 c).After-wide-8)

pub overflow_add-result-3 : goal.overflow_add-result-3
overflow_add-result-3 c = omega (arith, told (goal.at.overflow_add-result-3 c).After-wide-8)

pub overflow_sub-result : goal.overflow_sub-result
overflow_sub-result c = omega (arith, told (goal.at.overflow_sub-result c).After-wide-8)

pub returns : goal.returns
returns c = omega (arith, told (goal.at.returns c).After-wide-8)
