-- The types' numbers: places in the crate's order, from 0; numbers past the last mean the last.
use Rattle.std.specs.Prelude.{ℕ, List, [], ◌∷◌, get_or}
use Rattle.scope.specs.declared.ScopeType.{ScopeType}
use Rattle.scope.specs.declared.VarType.{VarType}

abbrev pub scope_order : List ScopeType
scope_order = ScopeType.Module ∷ ScopeType.Task ∷ ScopeType.Function ∷ ScopeType.Begin ∷ ScopeType.Fork ∷ []

abbrev pub scope_number : ScopeType → ℕ
scope_number ScopeType.Module = 0
scope_number ScopeType.Task = 1
scope_number ScopeType.Function = 2
scope_number ScopeType.Begin = 3
scope_number ScopeType.Fork = 4

unfoldable pub scope_type_of : ℕ → ScopeType
scope_type_of n = get_or scope_order n ScopeType.Fork

abbrev pub var_order : List VarType
var_order =
    VarType.Event ∷ VarType.Integer ∷ VarType.Parameter ∷ VarType.Real ∷ VarType.Reg ∷ VarType.Supply0
    ∷ VarType.Supply1 ∷ VarType.Time ∷ VarType.Tri ∷ VarType.TriAnd ∷ VarType.TriOr ∷ VarType.TriReg
    ∷ VarType.Tri0 ∷ VarType.Tri1 ∷ VarType.WAnd ∷ VarType.Wire ∷ VarType.WOr ∷ VarType.String ∷ []

abbrev pub var_number : VarType → ℕ
var_number VarType.Event = 0
var_number VarType.Integer = 1
var_number VarType.Parameter = 2
var_number VarType.Real = 3
var_number VarType.Reg = 4
var_number VarType.Supply0 = 5
var_number VarType.Supply1 = 6
var_number VarType.Time = 7
var_number VarType.Tri = 8
var_number VarType.TriAnd = 9
var_number VarType.TriOr = 10
var_number VarType.TriReg = 11
var_number VarType.Tri0 = 12
var_number VarType.Tri1 = 13
var_number VarType.WAnd = 14
var_number VarType.Wire = 15
var_number VarType.WOr = 16
var_number VarType.String = 17

unfoldable pub var_type_of : ℕ → VarType
var_type_of n = get_or var_order n VarType.String
