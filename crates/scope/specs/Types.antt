-- The types of scopes and of variables: their names, said once for reading and for writing, and what a text names.
use Rattle.std.specs.Prelude.{ℕ, ◌-◌, List, [], ◌∷◌, ◌++◌, get_or, length, replicate, Option, Some, None}
use Prim.Native.String.{String}
use Rattle.text.specs.Bytes.{bytes}
use Rattle.text.specs.Names.{lookup}
use Rattle.scope.specs.Ieee.{var_names as ieee_names}
use Rattle.scope.specs.Numbers.{var_order, var_number}
use Rattle.scope.specs.declared.ScopeType.{ScopeType}
use Rattle.scope.specs.declared.VarName.{VarName}
use Rattle.scope.specs.declared.VarType.{VarType}

abbrev pub scope_name : ScopeType → String
scope_name ScopeType.Module = "module"
scope_name ScopeType.Task = "task"
scope_name ScopeType.Function = "function"
scope_name ScopeType.Begin = "begin"
scope_name ScopeType.Fork = "fork"

abbrev pub named_scope : ScopeType → String × (Option ScopeType)
named_scope k = (scope_name k, Some k)

abbrev pub scope_types : List (String × (Option ScopeType))
scope_types =
    named_scope ScopeType.Module ∷ named_scope ScopeType.Task ∷ named_scope ScopeType.Function ∷ named_scope ScopeType.Begin ∷ named_scope ScopeType.Fork ∷ []

unfoldable pub parse_scope_type : List ℕ → Option ScopeType
parse_scope_type w = lookup scope_types None w

-- the types of variables: those of the standard, in its order, and `string`, which is none of them: simulators write it, and the crate takes it
abbrev pub var_names : List String
var_names = ieee_names ++ ("string" ∷ [])

abbrev pub var_name : VarType → String
var_name k = get_or var_names (var_number k) ""

abbrev pub named_from : List VarType → List String → List (String × (Option VarType))
named_from [] ns = []
named_from (k ∷ ks) [] = []
named_from (k ∷ ks) (n ∷ ns) = (n, Some k) ∷ named_from ks ns

abbrev pub var_types : List (String × (Option VarType))
var_types = named_from var_order var_names

unfoldable pub parse_var_type : List ℕ → Option VarType
parse_var_type w = lookup var_types None w

-- the entry of a type in the code's list: the name's bytes, zeros up to nine, and how many bytes the name has
abbrev pub entry_of : VarType → String → VarName
entry_of k n = record { var_type = k; name = bytes n ++ replicate (9 - length (bytes n)) 0; len = length (bytes n) }

abbrev pub entries_from : List VarType → List String → List VarName
entries_from [] ns = []
entries_from (k ∷ ks) [] = []
entries_from (k ∷ ks) (n ∷ ns) = entry_of k n ∷ entries_from ks ns

-- the list
abbrev pub var_entries : List VarName
var_entries = entries_from var_order var_names
