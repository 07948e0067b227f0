-- Goals of `write_header::write_one` that the search leaves.
use mathlib.Core.Path.{refl}
use native.Mathlib.Omega.{arith}
use Rattle.write_header.proofs.Poured.{told}
use Rattle.write_header.proofs.write_one.Goals as goal

pub overflow_add-result : goal.overflow_add-result
overflow_add-result c =
    let a = c.args in
    let x = rw c.in-Ok.is at (told a.out.now a.at a.w a.src.now a.k c.requires.1 c.requires.0 refl c.command.ensures) in
    omega (arith, x.0, c.well_formed.1.1.1.1.0)

pub returns-in-Ok : goal.returns-in-Ok
returns-in-Ok c =
    let a = c.args in
    let x = rw c.in-Ok.is at (told a.out.now a.at a.w a.src.now a.k c.requires.1 c.requires.0 refl c.command.ensures) in
    (refl, x.1, x.2)

pub returns-in-Err : goal.returns-in-Err
returns-in-Err c =
    let a = c.args in
    let x = rw c.in-Err.is at (told a.out.now a.at a.w a.src.now a.k c.requires.1 c.requires.0 refl c.command.ensures) in
    x
