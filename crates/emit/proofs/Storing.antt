-- Words stored in a buffer one after the other from its start are their concatenation at its start; so is one that a call put into a
-- part of the buffer, with what is stored before and after it.
use Rattle.std.specs.Prelude.{Option, Some, None}
use Prim.Native.Nat.{ℕ, suc, ◌+◌, ◌-◌, ◌≤◌, ◌<◌}
use mathlib.Core.Path.{◌≡◌, refl, sym, ap, ◌∙◌}
use mathlib.Core.Bool.{Bool, true, false, not}
use mathlib.Core.List.{List, [], ◌∷◌, ◌++◌, append_assoc, append-nil}
use native.Mathlib.Nat.{add-zero, zero-add, add_assoc}
use native.Mathlib.Numerals.{add-one}
use native.Mathlib.Omega.{arith}
use borrow.Author.Tests.{le-leb, leb-true, leb-false, not-true, not-false}
use lib.Dec.{leb}
use borrow.Rule.Slice.PartMut.{put_mid}
use lib.ListN.{length, take, drop, set, get_or, replicate, length-append, length-drop, length-replicate, take-append-drop}
use lib.Seq.{take-append_seam, take-append-le, take-take, drop-append-le, drop-append-add, drop_at, drop-drop, length-take-le, set_split, paste-suc}
use Rattle.text.specs.Texts.{put_answer, put_bytes}
use Rattle.text.proofs.Lists.{by-test}
use Rattle.text.proofs.Rows.{no_room}
use Rattle.emit.specs.Put.{concat, stored}

-- what the test for room says
module _ {r : Bool} (n room : ℕ) (e : r ≡ leb n room) where
  pub fits-yes : not r ≡ false → n ≤ room
  fits-yes h = leb-true n room (sym e ∙ not-false _ h)

  pub fits-no : not r ≡ true → room < n
  fits-no h = leb-false n room (sym e ∙ not-true _ h)

-- ---- a word, one byte a turn
pub stored-none : (o : List ℕ) (at : ℕ) → o ≡ stored o at []
unfolding stored
stored-none o at = sym (simp (add-zero, take-append-drop))

stored_more : (o w : List ℕ) (at i : ℕ) → at + i < length o → i < length w
    → set (stored o at (take i w)) (at + i) (get_or w i 0) ≡ stored o at (take (i + 1) w)
unfolding stored
stored_more o w at i ho hw =
    let a : length (take i w) ≡ i = length-take-le i w (omega arith) in
    let b : length (take (suc i) w) ≡ suc i = length-take-le (suc i) w hw in
    rw (
      add-one i,
      a,
      b,
      ← append_assoc (take at o) (take i w) (drop (at + i) o),
      ← append_assoc (take at o) (take (suc i) w) (drop (at + suc i) o),
    )
    (paste-suc o at w i 0 ho hw)

-- the byte v goes after the first i bytes
pub stored-step : (o w : List ℕ) (at i : ℕ) {out : List ℕ} {n v : ℕ} → out ≡ stored o at (take i w) → n ≡ at + i → v ≡ get_or w i 0
    → at + i < length o → i < length w → set out n v ≡ stored o at (take (i + 1) w)
stored-step o w at i e p q h g = rw (e, p, q) (stored_more o w at i h g)

-- a word that was copied into the part of its length
pub stored_mid : (o w : List ℕ) (at e : ℕ) {made : List ℕ} → made ≡ w → e ≡ at + length w → put_mid at (e - at) o made ≡ stored o at w
unfolding stored
stored_mid o w at e m h =
    let k : e - at ≡ length w = omega arith in
    rw (m, k) (ap (λ (l : List ℕ). take at o ++ (w ++ l)) (drop-drop (length w) at o))

-- a part of n bytes that was filled with one
pub stored_filled : (o : List ℕ) (at e n b : ℕ) {made : List ℕ} → made ≡ replicate (length (take (e - at) (drop at o))) b → e ≡ at + n → e ≤ length o
    → put_mid at (e - at) o made ≡ stored o at (replicate n b)
stored_filled o at e n b m h k =
    let l : length (take (e - at) (drop at o)) ≡ n = length-take-le (e - at) (drop at o) (simp length-drop (omega arith)) ∙ omega arith in
    stored_mid o (replicate n b) at e (rw l at m) (simp length-replicate h)

-- ---- a run of words, each from where the last one ended: what it leaves, and where it ends
abbrev pub puts : List ℕ → ℕ → List (List ℕ) → List ℕ
puts o at [] = o
puts o at (w ∷ ws) = puts (stored o at w) (at + length w) ws

abbrev pub total : ℕ → List (List ℕ) → ℕ
total n [] = n
total n (w ∷ ws) = total (n + length w) ws

pub total-is : (ws : List (List ℕ)) (n : ℕ) → total n ws ≡ n + length (concat ws)
total-is [] n = sym (add-zero n)
total-is (w ∷ ws) n = total-is ws (n + length w) ∙ rw (length-append w (concat ws)) (add_assoc n (length w) (length (concat ws)))

pub concat-append : (xs ys : List (List ℕ)) → concat (xs ++ ys) ≡ concat xs ++ concat ys
concat-append [] ys = refl
concat-append (x ∷ xs) ys = ap (λ (l : List ℕ). x ++ l) (concat-append xs ys) ∙ sym (append_assoc x (concat xs) (concat ys))

-- a word after the first m bytes, which are q
after_first : (q o w : List ℕ) (m : ℕ) → length q ≡ m
    → take m (q ++ drop m o) ++ (w ++ drop (m + length w) (q ++ drop m o)) ≡ q ++ (w ++ drop (m + length w) o)
after_first q o w m e = rw (← e) (simp (take-append_seam, drop-append-add, drop-drop))

module _ (o : List ℕ) (at : ℕ) (h : at ≤ length o) where
  -- one word, then another
  pub stored_next : (p w : List ℕ) → stored (stored o at p) (at + length p) w ≡ stored o at (p ++ w)
  unfolding stored
  stored_next p w =
      let n : length (take at o ++ p) ≡ at + length p = length-append (take at o) p ∙ rw (length-take-le at o h) in
      rw (← append_assoc (take at o) p (drop (at + length p) o), after_first (take at o ++ p) o w (at + length p) n)
      (simp (append_assoc, length-append, add_assoc))

  chain-from : (ws : List (List ℕ)) (p : List ℕ) → puts (stored o at p) (at + length p) ws ≡ stored o at (p ++ concat ws)
  chain-from [] p = rw append-nil
  chain-from (w ∷ ws) p =
      rw (stored_next p w, add_assoc at (length p) (length w), ← length-append p w, ← append_assoc p w (concat ws)) (chain-from ws (p ++ w))

  pub run : (ws : List (List ℕ)) (n : ℕ) (left : List ℕ) → n ≡ total at ws → left ≡ puts o at ws
      → (n ≡ at + length (concat ws)) × (left ≡ stored o at (concat ws))
  run ws n left e q = (e ∙ total-is ws at, q ∙ (rw (← stored-none o at, add-zero at) at (chain-from ws [])))

-- ---- words at the start: of one run, and of two
module _ (o : List ℕ) where
  pub run-start : (ws : List (List ℕ)) (n : ℕ) (left : List ℕ) → n ≡ total 0 ws → left ≡ puts o 0 ws
      → (n ≡ length (concat ws)) × (left ≡ stored o 0 (concat ws))
  run-start ws n left e q = rw zero-add at (run o 0 (omega arith) ws n left e q)

  pub runs : (xs ys : List (List ℕ)) {n r : ℕ} {mid left : List ℕ} → (n ≡ 0 + length (concat xs)) × (mid ≡ stored o 0 (concat xs))
      → (r ≡ n + length (concat ys)) × (left ≡ stored mid n (concat ys))
      → (r ≡ length (concat (xs ++ ys))) × (left ≡ stored o 0 (concat (xs ++ ys)))
  runs xs ys {n} {r} {mid} {left} a b =
      rw (concat-append xs ys) (
        omega (arith, a.0, b.0, length-append (concat xs) (concat ys)),
        b.1 ∙ rw (a.0, a.1) (stored_next o 0 (omega arith) (concat xs) (concat ys)),
      )

-- ---- how they are answered and left
-- a text of n bytes at the start
pub standing : (t o : List ℕ) (n : ℕ) → length t ≡ n → n ≤ length o → {r : Option ℕ} {left : List ℕ}
    → (r ≡ Some n) × (left ≡ stored o 0 t) → (r ≡ put_answer t o) × (left ≡ put_bytes t o)
unfolding put_answer put_bytes stored
standing t o n l h e = rw (le-leb (length t) (length o) (omega arith)) (e.0 ∙ ap Some (sym l), e.1 ∙ rw (zero-add (length t)))

module _ (w : List ℕ) (ws : List (List ℕ)) (o : List ℕ) where
  pub lay-none : length o < total (length w) ws → (None ≡ put_answer (concat (w ∷ ws)) o) × (o ≡ put_bytes (concat (w ∷ ws)) o)
  lay-none h = no_room (concat (w ∷ ws)) o (omega (arith, total-is ws (length w), length-append w (concat ws)))

  pub lay_done : {n : ℕ} {left : List ℕ} → total (length w) ws ≤ length o → (n ≡ length (concat (w ∷ ws))) × (left ≡ stored o 0 (concat (w ∷ ws)))
      → (Some n ≡ put_answer (concat (w ∷ ws)) o) × (left ≡ put_bytes (concat (w ∷ ws)) o)
  lay_done {n} h e =
      standing (concat (w ∷ ws)) o n (sym e.0) (omega (arith, total-is ws (length w), length-append w (concat ws), e.0)) (refl, e.1)

-- ---- one byte, the length, and a word before another
pub stored-byte : (o : List ℕ) (n v : ℕ) → n < length o → set o n v ≡ stored o n (v ∷ [])
unfolding stored
stored-byte o n v h = set_split o n v h ∙ rw (add-one n)

pub stored-length : (o : List ℕ) (at : ℕ) (w : List ℕ) → at + length w ≤ length o → length (stored o at w) ≡ length o
unfolding stored
stored-length o at w h = simp (length-append, length-drop) (omega (arith, length-take-le at o (omega arith)))

pub stored-before : (o p w : List ℕ) (at : ℕ) → at + length p ≤ length o → stored (stored o (at + length p) w) at p ≡ stored o at (p ++ w)
unfolding stored
stored-before o p w at h =
    let m : ℕ = at + length p in
    let n : length (take m o) ≡ m = length-take-le m o h in
    rw (
      take-append-le at (take m o) (w ++ drop (m + length w) o) (omega arith),
      take-take at m o (omega arith),
      drop_at (take m o) (w ++ drop (m + length w) o) m n,
      length-append p w,
      ← add_assoc at (length p) (length w),
      append_assoc p w (drop (m + length w) o),
    )

-- ---- a word that a call put at the start of the k bytes from `at` on
module _ (t o : List ℕ) (at k : ℕ) (h : at + k ≤ length o) where
  size : length (take k (drop at o)) ≡ k
  size = length-take-le k (drop at o) (simp length-drop (omega arith))

  -- the bytes after it
  rest : length t ≤ k → drop (length t) (take k (drop at o)) ++ drop k (drop at o) ≡ drop (at + length t) o
  rest g =
      sym (drop-append-le (length t) (take k (drop at o)) (drop k (drop at o)) (omega (arith, size)))
      ∙ rw (take-append-drop k (drop at o), drop-drop (length t) at o)

  module _ {x : Option ℕ} {ys : List ℕ} (e : (x ≡ put_answer t (take k (drop at o))) × (ys ≡ put_bytes t (take k (drop at o)))) where
    pub part-put : (n : ℕ) → x ≡ Some n → (n ≡ length t) × (length t ≤ k) × (put_mid at k o ys ≡ stored o at t)
    unfolding put_answer put_bytes stored
    part-put n q =
        by-test (leb (length t) k)
        (λ y. (cc (rw (size, y) at e.0), leb-true _ _ y, rw (e.1, size, y, append_assoc t (drop (length t) (take k (drop at o))) (drop k (drop at o)), rest (leb-true _ _ y))))
        (λ y. absurd (let z : ◌≡◌ {A = ℕ} 0 1 = cc (rw (size, y) at e.0) in omega arith))

    pub part_none : x ≡ None → (k < length t) × (put_mid at k o ys ≡ o)
    unfolding put_answer put_bytes
    part_none q =
        by-test (leb (length t) k)
        (λ y. absurd (let z : ◌≡◌ {A = ℕ} 0 1 = cc (rw (size, y) at e.0) in omega arith))
        (λ y. (leb-false _ _ y, rw (e.1, size, y, take-append-drop k (drop at o), take-append-drop at o)))
