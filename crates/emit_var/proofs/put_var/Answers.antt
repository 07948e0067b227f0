-- Goals of `emit_var::put_var` that the search leaves.
use Prim.Native.Nat.{ℕ}
use mathlib.Core.Path.{◌≡◌, sym, ap}
use mathlib.Core.List.{List, ◌++◌, append_assoc}
use native.Mathlib.Omega.{arith}
use lib.ListN.{length-append}
use Rattle.text.specs.Bytes.{bytes}
use Rattle.number.specs.Decimal.{decimal_of}
use Rattle.idcode.specs.Id.{id_text}
use Rattle.idcode.specs.declared.IdCode.{IdCode}
use Rattle.scope.specs.declared.ReferenceIndex.{ReferenceIndex}
use Rattle.scope.specs.declared.VarType.{VarType}
use Rattle.scope.specs.Types.{var_name}
use Rattle.command.specs.Words.{spoken, end_mark}
use Rattle.command.specs.declared.Word.{Word}
use Rattle.emit.proofs.Storing.{total-is}
use Rattle.emit_var.specs.Define.{indexed, var_words, var_text}
use Rattle.emit_var.proofs.Putting.{due, more}
use Rattle.emit_var.proofs.put_var.Goals as goal

-- what of the text stands from each word on
module _ (t : VarType) (width : ℕ) (id : IdCode) (name : List ℕ) (x : ReferenceIndex) where
  abbrev from-index : List ℕ
  from-index = indexed x ++ (bytes " " ++ (end_mark ++ bytes "\n"))

  abbrev from-width : List ℕ
  from-width = decimal_of width ++ (bytes " " ++ (id_text id.0 ++ (bytes " " ++ (name ++ from-index))))

  abbrev kind : List ℕ
  kind = bytes (var_name t) ++ bytes " "

  parts : var_text t width id name x ≡ spoken Word.Var ++ (bytes " " ++ (kind ++ from-width))
  parts = ap (λ (l : List ℕ). spoken Word.Var ++ (bytes " " ++ l)) (sym (append_assoc (bytes (var_name t)) (bytes " ") from-width))

pub returns : goal.returns
returns c =
    let s = c.args in
    let whole = due s.out.now 0 (var_text s.t s.width s.id s.name.now s.x) (parts s.t s.width s.id s.name.now s.x) (omega arith) in
    let a = more (spoken Word.Var) _ whole c.put_four-n.ensures in
    let b = more (bytes " ") _ a c.put_byte-n.ensures in
    let d = more (kind s.t s.width s.id s.name.now s.x) _ b c.put_type-n.ensures in
    let e = more (decimal_of s.width) _ d c.put_number-n.ensures in
    let f = more (bytes " ") _ e c.put_byte-n-2.ensures in
    let g = more (id_text s.id.0) _ f c.put_id-n.ensures in
    let h = more (bytes " ") _ g c.put_byte-n-3.ensures in
    let i = more s.name.now _ h c.put-n.ensures in
    let j = more (indexed s.x) _ i c.put_index-n.ensures in
    let k = more (bytes " ") _ j c.put_byte-n-4.ensures in
    (more end_mark _ k c.put_four-n-2.ensures).done c.put_byte.ensures

pub put_byte-n-requires : goal.put_byte-n-requires
put_byte-n-requires c = omega (arith, total-is (var_words c.args.t c.args.width c.args.id c.args.name.now c.args.x) 0, length-append (bytes (var_name c.args.t)) (bytes " "))

pub put_type-n-requires : goal.put_type-n-requires
put_type-n-requires c = omega (arith, total-is (var_words c.args.t c.args.width c.args.id c.args.name.now c.args.x) 0, length-append (bytes (var_name c.args.t)) (bytes " "))

pub put_number-n-requires : goal.put_number-n-requires
put_number-n-requires c = omega (arith, total-is (var_words c.args.t c.args.width c.args.id c.args.name.now c.args.x) 0, length-append (bytes (var_name c.args.t)) (bytes " "))

pub put_byte-n-requires-2 : goal.put_byte-n-requires-2
put_byte-n-requires-2 c = omega (arith, total-is (var_words c.args.t c.args.width c.args.id c.args.name.now c.args.x) 0, length-append (bytes (var_name c.args.t)) (bytes " "))

pub put_id-n-requires : goal.put_id-n-requires
put_id-n-requires c = omega (arith, total-is (var_words c.args.t c.args.width c.args.id c.args.name.now c.args.x) 0, length-append (bytes (var_name c.args.t)) (bytes " "))

pub put_byte-n-requires-3 : goal.put_byte-n-requires-3
put_byte-n-requires-3 c = omega (arith, total-is (var_words c.args.t c.args.width c.args.id c.args.name.now c.args.x) 0, length-append (bytes (var_name c.args.t)) (bytes " "))

pub put-n-requires : goal.put-n-requires
put-n-requires c = omega (arith, total-is (var_words c.args.t c.args.width c.args.id c.args.name.now c.args.x) 0, length-append (bytes (var_name c.args.t)) (bytes " "))

pub put_index-n-requires : goal.put_index-n-requires
put_index-n-requires c = omega (arith, total-is (var_words c.args.t c.args.width c.args.id c.args.name.now c.args.x) 0, length-append (bytes (var_name c.args.t)) (bytes " "))

pub put_byte-n-requires-4 : goal.put_byte-n-requires-4
put_byte-n-requires-4 c = omega (arith, total-is (var_words c.args.t c.args.width c.args.id c.args.name.now c.args.x) 0, length-append (bytes (var_name c.args.t)) (bytes " "))

pub put_four-n-requires-2 : goal.put_four-n-requires-2
put_four-n-requires-2 c = omega (arith, total-is (var_words c.args.t c.args.width c.args.id c.args.name.now c.args.x) 0, length-append (bytes (var_name c.args.t)) (bytes " "))

pub put_byte-requires : goal.put_byte-requires
put_byte-requires c = omega (arith, total-is (var_words c.args.t c.args.width c.args.id c.args.name.now c.args.x) 0, length-append (bytes (var_name c.args.t)) (bytes " "))
