-- Goals of `emit_var::emit_words` that the search leaves.
use Prim.Native.Nat.{ℕ, ◌+◌, ◌-◌, ◌≤◌, ◌<◌}
use mathlib.Core.List.{List}
use native.Mathlib.Omega.{arith}
use lib.ListN.{length}
use Rattle.emit.specs.Put.{concat}
use Rattle.emit.proofs.Storing.{total-is, fits-yes, fits-no}
use Rattle.text.proofs.Rows.{no_room}
use Rattle.emit_var.specs.Define.{definition}
use Rattle.emit_var.proofs.Putting.{placed}
use Rattle.emit_var.proofs.emit_words.Goals as goal

-- how many bytes the five words have, and all of them
abbrev sum : List ℕ → List ℕ → List ℕ → List ℕ → List ℕ → ℕ
sum k n i t x = length k + length n + length i + length t + length x

pub returns-then-out-lt14 : goal.returns-then-out-lt14
returns-then-out-lt14 c =
    let x = c.args in
    no_room (concat (definition x.kind.now x.width.now x.id.now x.name.now x.index.now)) x.out.now (omega (arith, total-is (definition x.kind.now x.width.now x.id.now x.name.now x.index.now) 0))

pub returns-then-not-fits : goal.returns-then-not-fits
returns-then-not-fits c =
    let x = c.args in
    let n = sum x.kind.now x.width.now x.id.now x.name.now x.index.now in
    let h : length x.out.now - 14 < n = fits-no n _ c.fits.ensures c.if-not-fits.true-raw in
    no_room (concat (definition x.kind.now x.width.now x.id.now x.name.now x.index.now)) x.out.now (omega (arith, total-is (definition x.kind.now x.width.now x.id.now x.name.now x.index.now) 0))

pub put_words-requires : goal.put_words-requires
put_words-requires c =
    let x = c.args in
    let n = sum x.kind.now x.width.now x.id.now x.name.now x.index.now in
    let h : n ≤ length x.out.now - 14 = fits-yes n _ c.fits.ensures c.if-not-fits.false-raw in
    omega arith

pub returns : goal.returns
returns c =
    let x = c.args in
    let n = sum x.kind.now x.width.now x.id.now x.name.now x.index.now in
    let h : n ≤ length x.out.now - 14 = fits-yes n _ c.fits.ensures c.if-not-fits.false-raw in
    placed (concat (definition x.kind.now x.width.now x.id.now x.name.now x.index.now)) x.out.now (omega (arith, total-is (definition x.kind.now x.width.now x.id.now x.name.now x.index.now) 0)) c.put_words.ensures
