-- What a row is, without the whole of it.
use Rattle.std.specs.Prelude.{ℕ}
use Rattle.scope.specs.declared.ReferenceIndex.{ReferenceIndex}
use Rattle.scope.specs.declared.Var.{Var}
use Rattle.scope.specs.declared.VarType.{VarType}
use Rattle.rows.specs.Rows.{top, parent_word, text_at}
use Rattle.rows.specs.declared.Row.{Row}

abbrev pub kind_of : Row → ℕ
kind_of (Row.Scope p k t) = 1
kind_of (Row.Var p v) = 2
kind_of (Row.Comment p t) = 3
kind_of Row.None = 0

-- the parent's word, of none as at top
abbrev pub parent_in : Row → ℕ
parent_in (Row.Scope p k t) = parent_word p
parent_in (Row.Var p v) = parent_word p
parent_in (Row.Comment p t) = parent_word p
parent_in Row.None = top

-- the variable of no words, which stands for none
abbrev pub no_var : Var
no_var =
    record { var_type = VarType.Event; size = 0; code = record { 0 = 0 }; reference = text_at 0 0; index = ReferenceIndex.None }

abbrev pub var_in : Row → Var
var_in (Row.Scope p k t) = no_var
var_in (Row.Var p v) = v
var_in (Row.Comment p t) = no_var
var_in Row.None = no_var
