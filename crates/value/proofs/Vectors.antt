-- Laws of a vector in lower case, and of one written so at the start of a buffer.
use Prim.Native.Nat.{ℕ, ◌+◌, ◌≤◌, ◌<◌}
use mathlib.Core.Path.{◌≡◌, refl, sym, ap₂, ◌∙◌}
use mathlib.Core.Bool.{true, false, ◌&&◌}
use mathlib.Core.List.{List, [], ◌∷◌, map}
use native.Mathlib.Omega.{arith}
use borrow.Author.Tests.{le-leb, lt-leb}
use lib.ListN.{length, get_or, set, length-map, get_or-map}
use Rattle.text.proofs.Rows.{Copied, copy_more, copy_done, no_room}
use Rattle.text.specs.Texts.{put_bytes}
use Rattle.value.specs.Values.{are_values, lower, lower_answer, lower_bytes}
use Rattle.value.specs.declared.vector.Written.{Written}
use Rattle.value.proofs.Values.{lower-is}

-- ---- lower case leaves what is a vector, and what is none
pub lower-all : (s : List ℕ) → are_values (map lower s) ≡ are_values s
unfolding are_values
lower-all [] = refl
lower-all (b ∷ s) = ap₂ ◌&&◌ (lower-is b) (lower-all s)

-- ---- a vector written in lower case
pub lower-at : (s : List ℕ) (i : ℕ) → get_or (map lower s) i 0 ≡ lower (get_or s i 0)
unfolding lower
lower-at s i = get_or-map lower s i 0

-- it is written as the text in lower case is put
pub lower-put : (s old : List ℕ) → are_values s ≡ true → lower_bytes s old ≡ put_bytes (map lower s) old
unfolding lower_bytes put_bytes
lower-put s old v = rw (v, length-map s lower)

pub lower-invalid : (s old : List ℕ) → are_values s ≡ false → (Written.InvalidValue ≡ lower_answer s old) × (old ≡ lower_bytes s old)
unfolding lower_answer lower_bytes
lower-invalid s old e = rw e (refl, refl)

pub lower-no-room : (s old : List ℕ) → are_values s ≡ true → length old < length s
    → (Written.NoRoom ≡ lower_answer s old) × (old ≡ lower_bytes s old)
unfolding lower_answer
lower-no-room s old v h =
    let l = length-map s lower in
    (rw (v, lt-leb (length s) (length old) h), (no_room (map lower s) old (omega arith)).1 ∙ sym (lower-put s old v))

-- a buffer that begins with the first i bytes of the vector s in lower case
module _ (s old out : List ℕ) (i : ℕ) (w : Copied (map lower s) old out i) where
  pub lower-more : i < length s → Copied (map lower s) old (set out i (lower (get_or s i 0))) (i + 1)
  lower-more h = rw (lower-at s i) at (copy_more _ _ _ _ w (rw (length-map s lower) h))

  pub lower-done : are_values s ≡ true → length s ≤ i → (Written.Count (length s) ≡ lower_answer s old) × (out ≡ lower_bytes s old)
  unfolding lower_answer
  lower-done v h =
      let l = length-map s lower in (
        rw (v, le-leb (length s) (length old) (omega (arith, w.room))),
        (copy_done _ _ _ _ w (omega arith)).1 ∙ sym (lower-put s old v),
      )
