-- Commands written one after the other, each at the state that the last one left: the file is the accepted bytes joined.
use Rattle.std.specs.Prelude.{ℕ, ◌-◌, ◌^◌, ◌<◌, ◌≡◌, true, cond, ◌&&◌, List, [], ◌∷◌, ◌++◌, leb, length}
use Rattle.scope.specs.Index.{SizedIndex}
use Rattle.command.specs.Meaning.{Meaning, remark, timescale, scope_def, upscope, var_def, enddefinitions, timestamp, change, begin, end}
use Rattle.write.specs.Layout.{layout, writable, state_after}
use Rattle.write.specs.declared.Writer.{Writer}

-- the layouts of some meanings, joined, and the state after them
unfoldable pub layouts : List Meaning → List ℕ
layouts [] = []
layouts (m ∷ ms) = layout m ++ layouts ms

unfoldable pub states_after : Writer → List Meaning → Writer
states_after w [] = w
states_after w (m ∷ ms) = states_after (state_after w m) ms

-- its numbers are of their types
abbrev pub Sized : Meaning → Type 0
Sized (remark k t) = Unit {0}
Sized (timescale n u) = n < 2 ^ 32
Sized (scope_def k t) = Unit {0}
Sized upscope = Unit {0}
Sized (var_def k n i t x) = (n < 2 ^ 32) × (i.0 < 2 ^ 64) × SizedIndex x
Sized enddefinitions = Unit {0}
Sized (timestamp n) = n < 2 ^ 64
Sized (change i v) = i.0 < 2 ^ 64
Sized (begin k) = Unit {0}
Sized (end k) = Unit {0}

abbrev pub AllSized : List Meaning → Type 0
AllSized [] = Unit {0}
AllSized (m ∷ ms) = Sized m × AllSized ms

-- each may be written at the state that those before it leave
abbrev pub Accepted : Writer → List Meaning → Type 0
Accepted w [] = Unit {0}
Accepted w (m ∷ ms) = (writable w m ≡ true) × Sized m × Accepted (state_after w m) ms

-- of commands in order those that are written: up to the first that may not be, or has no room
unfoldable pub taken : Writer → ℕ → List Meaning → List Meaning
taken w room [] = []
taken w room (m ∷ ms) =
    let more : List Meaning = taken (state_after w m) (room - length (layout m)) ms in
    cond (writable w m && leb (length (layout m)) room) (m ∷ more) []
