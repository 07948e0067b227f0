-- Goals of `emit::emit_vector` that the search leaves.
use Rattle.std.specs.Prelude.{Option, Some}
use Prim.Native.Nat.{ℕ, ◌+◌, ◌≤◌}
use mathlib.Core.Path.{◌≡◌, refl, ap, ◌∙◌}
use mathlib.Core.List.{List, [], ◌∷◌, ◌++◌, map, append_assoc}
use native.Mathlib.Omega.{arith}
use lib.ListN.{length, set, length-append, length-map}
use Rattle.idcode.specs.Id.{id_text}
use Rattle.text.specs.Bytes.{bytes}
use Rattle.value.specs.Values.{lower}
use Rattle.emit.specs.Put.{stored}
use Rattle.emit.proofs.Storing.{stored-length, lay-none}
use Rattle.emit.proofs.Framing.{Placing, within, spared, framed, unframed}
use Rattle.emit.proofs.emit_vector.Goals as goal

-- what stands before the id
abbrev values : List ℕ → List ℕ
values v = 98 ∷ (map lower v ++ bytes " ")

size : (v : List ℕ) → length v + 2 ≡ length (values v)
size v = simp (length-append, length-map) (omega arith)

pub returns-then-out-lt3 : goal.returns-then-out-lt3
returns-then-out-lt3 c =
    let x = c.args in
    lay-none (bytes "b") (map lower x.v.now ∷ bytes " " ∷ id_text x.id.0 ∷ bytes "\n" ∷ []) x.out.now (omega arith)

pub returns-then-out-v : goal.returns-then-out-v
returns-then-out-v c =
    let x = c.args in
    lay-none (bytes "b") (map lower x.v.now ∷ bytes " " ∷ id_text x.id.0 ∷ bytes "\n" ∷ []) x.out.now (simp length-map (omega arith))

-- what the calls left: room for the newline, and as many bytes as there were
module _ (t v o : List ℕ) (h : length v + 3 ≤ length o) {x : Option ℕ} {ys left : List ℕ} (e : Placing t (length v + 2) o x ys) where
  room : (n : ℕ) → x ≡ Some n → left ≡ stored (within (length v + 2) o ys) 0 (values v)
      → (length v + 2 + n + 1 ≤ length o) × (length left ≡ length o)
  room n q l =
      let y = spared t o (length v + 2) (omega arith) e n q in
      (y.0, ap length l ∙ stored-length _ 0 (values v) (omega (arith, y.1, size v)) ∙ y.1)

pub overflow_add-out : goal.overflow_add-out
overflow_add-out c = omega (arith, room (id_text c.args.id.0) c.args.v.now c.args.out.now (omega arith) c.put.ensures c.in_ok-n.n c.in_ok-n.was c.put_values.ensures)

pub bounds-out-at : goal.bounds-out-at
bounds-out-at c = omega (arith, room (id_text c.args.id.0) c.args.v.now c.args.out.now (omega arith) c.put.ensures c.in_ok-n.n c.in_ok-n.was c.put_values.ensures)

pub returns : goal.returns
returns c =
    let x = c.args in
    let m : ℕ = length x.v.now + 2 + c.in_ok-n.n in
    rw (append_assoc (map lower x.v.now) (bytes " ") (id_text x.id.0 ++ bytes "\n")) at
    (framed (values x.v.now) (id_text x.id.0) x.out.now _ (size x.v.now) (omega arith) c.put.ensures c.in_ok-n.n m c.in_ok-n.was refl
    (ap (λ (l : List ℕ). set l m 10) c.put_values.ensures))

pub returns-in_err-n : goal.returns-in_err-n
returns-in_err-n c =
    let x = c.args in
    let none = rw (append_assoc (map lower x.v.now) (bytes " ") (id_text x.id.0 ++ bytes "\n")) at
    (unframed (values x.v.now) (id_text x.id.0) x.out.now _ (size x.v.now) (omega arith) c.put.ensures c.in_err-n.was refl) in
    (c.from_residual.ensures ∙ none.0, none.1)

pub overflow_add-result : goal.overflow_add-result
overflow_add-result c = omega (arith, room (id_text c.args.id.0) c.args.v.now c.args.out.now (omega arith) c.put.ensures c.in_ok-n.n c.in_ok-n.was c.put_values.ensures)

pub overflow_add-result-2 : goal.overflow_add-result-2
overflow_add-result-2 c = omega (arith, room (id_text c.args.id.0) c.args.v.now c.args.out.now (omega arith) c.put.ensures c.in_ok-n.n c.in_ok-n.was c.put_values.ensures)
