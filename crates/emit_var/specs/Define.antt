-- The text of a variable's definition, and what the parts put.
use Rattle.std.specs.Prelude.{ℕ, ◌+◌, ◌≡◌, Bool, cond, List, [], ◌∷◌, ◌++◌, length}
use Rattle.text.specs.Bytes.{bytes}
use Rattle.number.specs.Decimal.{decimal_of}
use Rattle.idcode.specs.Id.{id_text}
use Rattle.idcode.specs.declared.IdCode.{IdCode}
use Rattle.scope.specs.Index.{index_text}
use Rattle.scope.specs.Types.{var_name}
use Rattle.scope.specs.declared.ReferenceIndex.{ReferenceIndex}
use Rattle.scope.specs.declared.VarType.{VarType}
use Rattle.command.specs.Words.{spoken, end_mark}
use Rattle.command.specs.declared.Word.{Word}
use Rattle.emit.specs.Put.{concat, stored}

-- an index stands after a space
abbrev pub indexed : ReferenceIndex → List ℕ
indexed ReferenceIndex.None = []
indexed (ReferenceIndex.BitSelect a) = bytes " " ++ index_text (ReferenceIndex.BitSelect a)
indexed (ReferenceIndex.Range a b) = bytes " " ++ index_text (ReferenceIndex.Range a b)

-- the words of a definition, written one after the other: type, width, id, reference and index
abbrev pub definition : List ℕ → List ℕ → List ℕ → List ℕ → List ℕ → List (List ℕ)
definition kind width id name index =
    spoken Word.Var ∷ bytes " " ∷ kind ∷ bytes " " ∷ width ∷ bytes " " ∷ id ∷ bytes " " ∷ name ∷ index ∷ bytes " " ∷ end_mark ∷ bytes "\n" ∷ []

abbrev pub var_words : VarType → ℕ → IdCode → List ℕ → ReferenceIndex → List (List ℕ)
var_words k n i t x = definition (bytes (var_name k)) (decimal_of n) (id_text i.0) t (indexed x)

abbrev pub var_text : VarType → ℕ → IdCode → List ℕ → ReferenceIndex → List ℕ
var_text k n i t x = concat (var_words k n i t x)

-- one of the two usual types, and a space
abbrev pub usual : Bool → List ℕ
usual wire = cond wire (bytes (var_name VarType.Wire) ++ bytes " ") (bytes (var_name VarType.Reg) ++ bytes " ")

-- the text w was put into the output o from `at` on, and r is the place after it
abbrev pub Puts : List ℕ → ℕ → List ℕ → ℕ → List ℕ → Type 0
Puts o at w r o' = (r ≡ at + length w) × (o' ≡ stored o at w)
