-- A text that ends a line: a call put it into a part of the buffer, and then what stands before it and the newline were stored.
use Rattle.std.specs.Prelude.{Option, Some, None}
use Prim.Native.Nat.{ℕ, ◌+◌, ◌-◌, ◌≤◌}
use mathlib.Core.Path.{◌≡◌, refl, ap, ◌∙◌}
use mathlib.Core.List.{List, [], ◌∷◌, ◌++◌, append_assoc}
use native.Mathlib.Nat.{zero-add}
use native.Mathlib.Omega.{arith}
use borrow.Rule.Slice.PartMut.{put_mid}
use lib.ListN.{length, take, drop, set, length-append}
use Rattle.text.specs.Bytes.{bytes}
use Rattle.text.specs.Texts.{put_answer, put_bytes}
use Rattle.emit.specs.Put.{concat, stored, Inside, closed_answer, closed_bytes}
use Rattle.emit.proofs.Storing.{stored-byte, stored-length, stored-before, stored_next, part-put, part_none, lay-none, lay_done}

-- the bytes from `at` on without the last, the buffer with others in their place, and what a call does that is lent them for the word t
abbrev inner : ℕ → List ℕ → List ℕ
inner at o = take (length o - 1 - at) (drop at o)

abbrev pub within : ℕ → List ℕ → List ℕ → List ℕ
within at o ys = put_mid at (length o - 1 - at) o ys

abbrev pub Placing : List ℕ → ℕ → List ℕ → Option ℕ → List ℕ → Type 0
Placing t at o x ys = (x ≡ put_answer t (inner at o)) × (ys ≡ put_bytes t (inner at o))

module _ (t o : List ℕ) (at : ℕ) (h : at + 1 ≤ length o) {x : Option ℕ} {ys : List ℕ} (e : Placing t at o x ys) where
  pub spared : (n : ℕ) → x ≡ Some n → (at + n + 1 ≤ length o) × (length (within at o ys) ≡ length o)
  spared n q =
      let y = part-put t o at (length o - 1 - at) (omega arith) e n q in
      (omega (arith, y.0, y.1), rw y.2 (stored-length o at t (omega (arith, y.1))))

-- p stands before it
module _ (p t o : List ℕ) (at : ℕ) (a : at ≡ length p) (h : at + 1 ≤ length o) {x : Option ℕ} {ys : List ℕ} (e : Placing t at o x ys) where
  pub framed : (n m : ℕ) → x ≡ Some n → m ≡ at + n → {left : List ℕ} → left ≡ set (stored (within at o ys) 0 p) m 10
      → (Some (m + 1) ≡ put_answer (concat (p ∷ t ∷ bytes "\n" ∷ [])) o) × (left ≡ put_bytes (concat (p ∷ t ∷ bytes "\n" ∷ [])) o)
  framed n m q d l =
      let y = part-put t o at (length o - 1 - at) (omega arith) e n q in
      let both : length (p ++ t) ≡ m = omega (arith, length-append p t, y.0) in
      let long : length (stored o 0 (p ++ t)) ≡ length o = stored-length o 0 (p ++ t) (omega (arith, y.0, y.1)) in
      let first : stored (stored o at t) 0 p ≡ stored o 0 (p ++ t) = rw (zero-add, ← a) at (stored-before o p t 0 (omega arith)) in
      let all : set (stored o 0 (p ++ t)) m 10 ≡ stored o 0 ((p ++ t) ++ bytes "\n") =
      stored-byte _ m 10 (omega (arith, y.0, y.1)) ∙ (rw (zero-add, both) at (stored_next o 0 (omega arith) (p ++ t) (bytes "\n"))) in
      lay_done p (t ∷ bytes "\n" ∷ []) o (omega (arith, y.1)) (
        omega (arith, length-append p (t ++ bytes "\n"), length-append t (bytes "\n"), y.0),
        l ∙ rw (y.2, first, all, append_assoc p t (bytes "\n")),
      )

  pub unframed : x ≡ None → {left : List ℕ} → left ≡ within at o ys
      → (None ≡ put_answer (concat (p ∷ t ∷ bytes "\n" ∷ [])) o) × (left ≡ put_bytes (concat (p ∷ t ∷ bytes "\n" ∷ [])) o)
  unframed q l =
      let y = part_none t o at (length o - 1 - at) (omega arith) e q in
      let z = lay-none p (t ∷ bytes "\n" ∷ []) o (omega (arith, y.0)) in
      (z.0, l ∙ y.1 ∙ z.1)

-- one byte stands before it
module _ (t o : List ℕ) (h : 2 ≤ length o) where
  pub inside : (x : Option ℕ) {ys : List ℕ} → Placing t 1 o x ys → Inside x (length (within 1 o ys))
  inside (Some n) e = let y = spared t o 1 h e n refl in omega (arith, y.0, y.1)
  inside None e = tt

  pub closed : (first : ℕ) (x : Option ℕ) {r : Option ℕ} {ys left : List ℕ} → Placing t 1 o x ys
      → (r ≡ closed_answer x) × (left ≡ closed_bytes first x (within 1 o ys))
      → (r ≡ put_answer (concat ((first ∷ []) ∷ t ∷ bytes "\n" ∷ [])) o) × (left ≡ put_bytes (concat ((first ∷ []) ∷ t ∷ bytes "\n" ∷ [])) o)
  closed first (Some n) {r} {ys} e d =
      let b : set (within 1 o ys) 0 first ≡ stored (within 1 o ys) 0 (first ∷ []) = stored-byte _ 0 first (omega (arith, spared t o 1 h e n refl)) in
      let y = framed (first ∷ []) t o 1 refl h e n (n + 1) refl (omega arith) (d.1 ∙ ap (λ (l : List ℕ). set l (n + 1) 10) b) in
      (d.0 ∙ ap Some (let s : n + 2 ≡ n + 1 + 1 = omega arith in s) ∙ y.0, y.1)
  closed first None e d = let y = unframed (first ∷ []) t o 1 refl h e refl d.1 in (d.0 ∙ y.0, y.1)
