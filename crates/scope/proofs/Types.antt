-- Laws of the names and numbers of scopes' and of variables' types.
use Rattle.std.specs.Prelude.{Option, Some, None}
use Prim.Native.Nat.{ℕ, ◌<◌}
use mathlib.Core.Path.{◌≡◌, refl}
use mathlib.Core.Bool.{true}
use native.Mathlib.Omega.{arith}
use borrow.Author.Tests.{le-leb}
use lib.Dec.{leb}
use lib.ListN.{get_or}
use Rattle.text.specs.Bytes.{bytes, equal, is_blank}
use Rattle.text.specs.Names.{lookup}
use Rattle.text.proofs.Names.{Named, named, is_name, is_plain}
use Rattle.text.proofs.Orders.{Order, kept, small}
use Rattle.scope.specs.Numbers.{scope_order, scope_number, scope_type_of, var_order, var_number, var_type_of}
use Rattle.scope.specs.Types.{scope_name, parse_scope_type, var_name, parse_var_type}
use Rattle.scope.specs.declared.ScopeType.{ScopeType}
use Rattle.scope.specs.declared.VarType.{VarType}

each-scope : (k : ScopeType) → (parse_scope_type (bytes (scope_name k)) ≡ Some k) × (is_name (bytes (scope_name k)) ≡ true) × (get_or scope_order (scope_number k) ScopeType.Fork ≡ k)
unfolding parse_scope_type lookup equal is_name is_plain is_blank
each-scope ScopeType.Module = (refl, refl, refl)
each-scope ScopeType.Task = (refl, refl, refl)
each-scope ScopeType.Function = (refl, refl, refl)
each-scope ScopeType.Begin = (refl, refl, refl)
each-scope ScopeType.Fork = (refl, refl, refl)

pub scope-names : Named ScopeType (Option ScopeType) scope_name Some parse_scope_type
unfolding parse_scope_type
scope-names =
    named scope_name Some None (λ j k e. cc) (λ k e. cc)
    scope_order (λ k. ((each-scope k).0, (each-scope k).1))

pub scope-order : Order scope_order ScopeType.Fork scope_number
scope-order = record { back = λ k. (each-scope k).2; each = (refl, (refl, (refl, (refl, (refl, tt))))); whole = refl }

each-var : (k : VarType) → (parse_var_type (bytes (var_name k)) ≡ Some k) × (is_name (bytes (var_name k)) ≡ true) × (get_or var_order (var_number k) VarType.String ≡ k)
unfolding parse_var_type lookup equal is_name is_plain is_blank
each-var VarType.Event = (refl, refl, refl)
each-var VarType.Integer = (refl, refl, refl)
each-var VarType.Parameter = (refl, refl, refl)
each-var VarType.Real = (refl, refl, refl)
each-var VarType.Reg = (refl, refl, refl)
each-var VarType.Supply0 = (refl, refl, refl)
each-var VarType.Supply1 = (refl, refl, refl)
each-var VarType.Time = (refl, refl, refl)
each-var VarType.Tri = (refl, refl, refl)
each-var VarType.TriAnd = (refl, refl, refl)
each-var VarType.TriOr = (refl, refl, refl)
each-var VarType.TriReg = (refl, refl, refl)
each-var VarType.Tri0 = (refl, refl, refl)
each-var VarType.Tri1 = (refl, refl, refl)
each-var VarType.WAnd = (refl, refl, refl)
each-var VarType.Wire = (refl, refl, refl)
each-var VarType.WOr = (refl, refl, refl)
each-var VarType.String = (refl, refl, refl)

pub var-names : Named VarType (Option VarType) var_name Some parse_var_type
unfolding parse_var_type
var-names =
    named var_name Some None (λ j k e. cc) (λ k e. cc)
    var_order (λ k. ((each-var k).0, (each-var k).1))

pub var-order : Order var_order VarType.String var_number
var-order =
    record {
      back = λ k. (each-var k).2;
      each = (refl, (refl, (refl, (refl, (refl, (refl, (refl, (refl, (refl, (refl, (refl, (refl, (refl, (refl, (refl, (refl, (refl, (refl, tt))))))))))))))))));
      whole = refl;
    }

-- ---- a type's number is a place of the order and means that type; a place of the order is the number of the type that it means
pub scope-back : (k : ScopeType) → (leb (scope_number k) 4 ≡ true) × (scope_type_of (scope_number k) ≡ k)
unfolding scope_type_of
scope-back k = (le-leb (scope_number k) 4 (omega (arith, small scope-order k)), scope-order.back k)

pub scope_kept : (n : ℕ) → n < 5 → scope_number (scope_type_of n) ≡ n
unfolding scope_type_of
scope_kept n h = kept scope-order n h

pub var-back : (k : VarType) → (leb (var_number k) 17 ≡ true) × (var_type_of (var_number k) ≡ k)
unfolding var_type_of
var-back k = (le-leb (var_number k) 17 (omega (arith, small var-order k)), var-order.back k)

pub var-kept : (n : ℕ) → n < 18 → var_number (var_type_of n) ≡ n
unfolding var_type_of
var-kept n h = kept var-order n h
