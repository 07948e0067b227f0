-- Goals of `emit::emit_closed` that the search leaves.
use Prim.Native.Nat.{ℕ, ◌+◌, ◌-◌, ◌≤◌, ◌<◌}
use mathlib.Core.List.{List, [], ◌∷◌}
use native.Mathlib.Omega.{arith}
use lib.ListN.{length}
use Rattle.text.specs.Bytes.{bytes}
use Rattle.command.specs.Words.{end_mark}
use Rattle.emit.proofs.Storing.{fits-yes, fits-no, lay-none, lay_done}
use Rattle.emit.proofs.emit_closed.Goals as goal

-- how many bytes the words have, and how all stand after `$`
abbrev sum : List ℕ → List ℕ → List ℕ → List ℕ → List ℕ → ℕ
sum w g a m b = length w + length g + length a + length m + length b

abbrev tail : List ℕ → List ℕ → List ℕ → List ℕ → List ℕ → ℕ → List (List ℕ)
tail w g a m b l = w ∷ g ∷ a ∷ m ∷ b ∷ (l ∷ []) ∷ end_mark ∷ bytes "\n" ∷ []

pub returns-then-out-lt7 : goal.returns-then-out-lt7
returns-then-out-lt7 c = let x = c.args in lay-none (bytes "$") (tail x.word.now x.gap.now x.a.now x.mid.now x.b.now x.last) x.out.now (omega arith)

pub returns-then-not-fits : goal.returns-then-not-fits
returns-then-not-fits c =
    let x = c.args in
    let n = sum x.word.now x.gap.now x.a.now x.mid.now x.b.now in
    let h : length x.out.now - 7 < n = fits-no n _ c.fits.ensures c.if-not-fits.true-raw in
    lay-none (bytes "$") (tail x.word.now x.gap.now x.a.now x.mid.now x.b.now x.last) x.out.now (omega arith)

pub returns : goal.returns
returns c =
    let x = c.args in
    let n = sum x.word.now x.gap.now x.a.now x.mid.now x.b.now in
    let h : n ≤ length x.out.now - 7 = fits-yes n _ c.fits.ensures c.if-not-fits.false-raw in
    lay_done (bytes "$") (tail x.word.now x.gap.now x.a.now x.mid.now x.b.now x.last) x.out.now (omega arith) c.put_closed.ensures
