-- Goals of `emit_var::put_words` that the search leaves.
use Prim.Native.Nat.{ℕ}
use mathlib.Core.Path.{◌≡◌, ap, ◌∙◌}
use mathlib.Core.List.{List, [], ◌∷◌, ◌++◌}
use native.Mathlib.Omega.{arith}
use Rattle.text.specs.Bytes.{bytes}
use Rattle.command.specs.Words.{end_mark}
use Rattle.emit.specs.Put.{concat}
use Rattle.emit.proofs.Storing.{concat-append, total-is}
use Rattle.emit_var.specs.Define.{definition}
use Rattle.emit_var.proofs.Putting.{due, more}
use Rattle.emit_var.proofs.put_words.Goals as goal

-- the words of each run, and of all
abbrev first : List ℕ → List (List ℕ)
first kind = bytes "$" ∷ bytes "var" ∷ bytes " " ∷ kind ∷ bytes " " ∷ []

abbrev second : List ℕ → List ℕ → List ℕ → List (List ℕ)
second width id name = width ∷ bytes " " ∷ id ∷ bytes " " ∷ name ∷ []

abbrev third : List ℕ → List (List ℕ)
third index = index ∷ bytes " " ∷ end_mark ∷ bytes "\n" ∷ [] ∷ []

parts : (kind width id name index : List ℕ)
    → concat (definition kind width id name index) ≡ concat (first kind) ++ (concat (second width id name) ++ concat (third index))
parts kind width id name index =
    concat-append (first kind) (second width id name ++ third index)
    ∙ ap (λ (l : List ℕ). concat (first kind) ++ l) (concat-append (second width id name) (third index))

pub put_five-n-requires-2 : goal.put_five-n-requires-2
put_five-n-requires-2 c = omega (arith, total-is (first c.args.kind.now) 0)

pub put_five-requires : goal.put_five-requires
put_five-requires c =
    let x = c.args in
    omega (arith, total-is (first x.kind.now) 0, total-is (second x.width.now x.id.now x.name.now) 0)

-- what is still to be put once the first run is, and once the second is
pub returns : goal.returns
returns c =
    let x = c.args in
    let all : List (List ℕ) = definition x.kind.now x.width.now x.id.now x.name.now x.index.now in
    let whole = due x.out.now 0 (concat all) (parts x.kind.now x.width.now x.id.now x.name.now x.index.now) (omega (arith, total-is all 0)) in
    let left = more (concat (first x.kind.now)) _ whole c.put_five-n.ensures in
    (more (concat (second x.width.now x.id.now x.name.now)) _ left c.put_five-n-2.ensures).done c.put_five.ensures
