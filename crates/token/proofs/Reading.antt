-- Laws of reading: cursors that stay valid, blanks, words, texts.
use Prim.Native.Nat.{ℕ, zero, suc, ◌+◌, ◌-◌, ◌≤◌, ◌<◌}
use mathlib.Core.Path.{◌≡◌, refl, sym, ap, ◌∙◌}
use mathlib.Core.Bool.{Bool, true, false}
use mathlib.Core.List.{List, [], ◌∷◌, ◌++◌}
use native.Mathlib.Omega.{arith}
use native.Mathlib.Nat.{add-zero}
use lib.Dec.{eqb}
use lib.ListN.{length, take, drop, get_or, length-drop, drop_of_length-le}
use lib.Seq.{drop-drop, drop-append_seam, take-append_seam, get_or-drop}
use Rattle.text.specs.Bytes.{is_blank, starts, holds, has, up_to, all_blank, no_blank}
use Rattle.text.specs.Texts.{part}
use Rattle.text.proofs.Lists.{by-test, both, neither, drop-step, take_rest}
use Rattle.text.proofs.Equal.{starts-self, starts-cut}
use Rattle.token.specs.Read.{bit, Valid, byte_read, end_read, after, rest, gap, word, skipped}
use Rattle.token.specs.declared.Cursor.{Cursor}

bit_le : (t : Bool) → bit t ≤ 1
bit_le true = omega arith
bit_le false = omega arith

-- ---- one byte, many bytes
pub place-step : (c : Cursor) (b : ℕ) → (byte_read c b).place ≡ c.place + 1
unfolding byte_read
place-step c b = refl

pub valid-step : (s : List ℕ) (c : Cursor) (b : ℕ) → Valid s c → c.place < length s → Valid s (byte_read c b)
unfolding byte_read
valid-step s c b v h = record { short = v.short; within = omega arith; started = omega (arith, v.started); counted = omega (arith, v.counted, bit_le (eqb b 10)) }

pub after-append : (a b : List ℕ) (c : Cursor) → after (a ++ b) c ≡ after b (after a c)
unfolding after
after-append [] b c = refl
after-append (x ∷ a) b c = after-append a b (byte_read c x)

pub place_after : (l : List ℕ) (c : Cursor) → (after l c).place ≡ c.place + length l
unfolding after
place_after [] c = omega arith
place_after (x ∷ l) c = omega (arith, place_after l (byte_read c x), place-step c x)

-- only a command's end changes what is open
pub sim-after : (l : List ℕ) (c : Cursor) → (after l c).sim ≡ c.sim
unfolding after byte_read
sim-after [] c = refl
sim-after (x ∷ l) c = sim-after l (byte_read c x)

pub valid-after : (s l : List ℕ) (c : Cursor) → Valid s c → c.place + length l ≤ length s → Valid s (after l c)
unfolding after
valid-after s [] c v h = v
valid-after s (x ∷ l) c v h =
    valid-after s l (byte_read c x) (valid-step s c x v (omega arith)) (omega (arith, place-step c x))

pub after_none : (c : Cursor) → c ≡ after [] c
unfolding after
after_none c = refl

-- one byte more of those that are read
pub after_next : (l : List ℕ) (k : ℕ) (c : Cursor) → k < length l → byte_read (after (take k l) c) (get_or l k 0) ≡ after (take (k + 1) l) c
unfolding after
after_next [] k c h = absurd (omega arith)
after_next (x ∷ l) zero c h = refl
after_next (x ∷ l) (suc k) c h = let e : suc k + 1 ≡ suc (k + 1) = omega arith in rw e (after_next l k (byte_read c x) (omega arith))

valid-end : (s : List ℕ) (c : Cursor) → Valid s c → Valid s (end_read c)
unfolding end_read
valid-end s c v = record { short = v.short; within = v.within; started = omega (arith, v.started); counted = omega (arith, v.counted) }

-- ---- reading goes ahead: d is valid, and not before c
pub record From (s : List ℕ) (c d : Cursor) : Type 0 where
  pub valid : Valid s d
  pub ahead : c.place ≤ d.place

pub from-after : (s l : List ℕ) (c : Cursor) → Valid s c → c.place + length l ≤ length s → From s c (after l c)
from-after s l c v h = record { valid = valid-after s l c v h; ahead = omega (arith, place_after l c) }

pub from_end : (s : List ℕ) (c d : Cursor) → From s c d → From s c (end_read d)
unfolding end_read
from_end s c d f = record { valid = valid-end s d f.valid; ahead = f.ahead }

pub from_step : (s : List ℕ) (c : Cursor) (b : ℕ) → Valid s c → c.place < length s → From s c (byte_read c b)
from_step s c b v h = record { valid = valid-step s c b v h; ahead = omega (arith, place-step c b) }

pub from-trans : (s : List ℕ) (c d e : Cursor) → From s c d → From s d e → From s c e
from-trans s c d e f g = record { valid = g.valid; ahead = omega (arith, f.ahead, g.ahead) }

-- ---- what is left after some bytes, and the bytes of a text
pub rest-after : (s l r : List ℕ) (c : Cursor) → rest s c ≡ l ++ r → rest s (after l c) ≡ r
rest-after s l r c e = rw (place_after l c, ← drop-drop (length l) c.place s, e, drop-append_seam)

pub part-here : (s w r : List ℕ) (p : ℕ) → drop p s ≡ w ++ r → part s (record { start = p; len = length w }) ≡ w
unfolding part
part-here s w r p e = rw (e, take-append_seam)

pub part_in : (s g w r : List ℕ) (p : ℕ) → drop p s ≡ g ++ (w ++ r) → part s (record { start = p + length g; len = length w }) ≡ w
unfolding part
part_in s g w r p e = rw (← drop-drop (length g) p s, e, drop-append_seam, take-append_seam)

pub head_of : (s r : List ℕ) (p b : ℕ) → drop p s ≡ b ∷ r → get_or s p 0 ≡ b
head_of s r p b e = rw (← add-zero p) (sym (get_or-drop p s 0 0) ∙ ap (λ (l : List ℕ). get_or l 0 0) e)

-- ---- the lengths of blanks, words and texts
pub gap-le : (r : List ℕ) → length (gap r) ≤ length r
unfolding gap
gap-le [] = omega arith
gap-le (b ∷ r) = by-test (is_blank b) (λ e. rw e (omega (arith, gap-le r))) (λ e. rw e (omega arith))

pub word-le : (r : List ℕ) → length (word r) ≤ length r
unfolding word
word-le [] = omega arith
word-le (b ∷ r) = by-test (is_blank b) (λ e. rw e (omega arith)) (λ e. rw e (omega (arith, word-le r)))

pub up_to-le : (m r : List ℕ) → length (up_to m r) ≤ length r
unfolding up_to
up_to-le m [] = omega arith
up_to-le m (b ∷ r) = by-test (starts m (b ∷ r)) (λ e. rw e (omega arith)) (λ e. rw e (omega (arith, up_to-le m r)))

-- ---- blanks are skipped one by one
module _ (s : List ℕ) (c : Cursor) where
  pub skip_step : c.place < length s → is_blank (get_or s c.place 0) ≡ true → skipped s (byte_read c (get_or s c.place 0)) ≡ skipped s c
  unfolding skipped byte_read gap after
  skip_step h e = rw (drop-step s c.place h, e)

  pub skip_stop : c.place < length s → is_blank (get_or s c.place 0) ≡ false → skipped s c ≡ c
  unfolding skipped gap after
  skip_stop h e = rw (drop-step s c.place h, e)

  pub skip-end : length s ≤ c.place → skipped s c ≡ c
  unfolding skipped gap after
  skip-end h = rw (drop_of_length-le s h)

-- the bytes from a cursor on one by one, where d is after k of them
module _ (s : List ℕ) (c d : Cursor) (k : ℕ) (v : Valid s d) (p : d.place ≡ c.place + k) where
  abbrev items : List ℕ
  items = take (length s - c.place) (drop c.place s)

  item_at : k < length items → (d.place < length s) × (get_or items k 0 ≡ get_or s d.place 0)
  item_at h =
      let l : length items ≡ length s - c.place = rw (take_rest s c.place) (length-drop c.place s) in
      (omega arith, rw (p, take_rest s c.place) (get_or-drop c.place s k 0))

  pub blank-item : k < length items → is_blank (get_or items k 0) ≡ true
      → Valid s (byte_read d (get_or items k 0)) × ((byte_read d (get_or items k 0)).place ≡ c.place + (k + 1))
      × (skipped s (byte_read d (get_or items k 0)) ≡ skipped s d)
  blank-item h e =
      let x = item_at h in
      rw x.1 (valid-step s d _ v x.0, omega (arith, place-step d (get_or s d.place 0)), skip_step s d x.0 (rw x.1 at e))

  pub solid-item : k < length items → is_blank (get_or items k 0) ≡ false → skipped s d ≡ d
  solid-item h e = let x = item_at h in skip_stop s d x.0 (rw x.1 at e)

  pub no-item : length items ≤ k → skipped s d ≡ d
  no-item h = skip-end s d (omega (arith, rw (take_rest s c.place) at h, length-drop c.place s))

-- the byte after the blanks is none
gap-out : (r : List ℕ) → length (gap r) < length r → is_blank (get_or r (length (gap r)) 0) ≡ false
unfolding gap
gap-out [] h = absurd (omega arith)
gap-out (b ∷ r) h = by-test (is_blank b) (λ e. rw e (gap-out r (let k = rw e at h in omega arith))) (λ e. rw (e, e))

pub skip_first : (s : List ℕ) (c : Cursor) → (skipped s c).place < length s → is_blank (get_or s (skipped s c).place 0) ≡ false
unfolding skipped
skip_first s c h =
    let r : List ℕ = rest s c in
    let at : (skipped s c).place ≡ c.place + length (gap r) = place_after (gap r) c in
    let k : length (gap r) < length r = omega (arith, at, length-drop c.place s) in
    rw (at, ← get_or-drop c.place s (length (gap r)) 0) (gap-out r k)

-- ---- blanks before, a blank after
pub gap_of : (g : List ℕ) (b : ℕ) (r : List ℕ) → all_blank g ≡ true → is_blank b ≡ false → gap (g ++ b ∷ r) ≡ g
unfolding gap all_blank
gap_of [] b r p q = rw q
gap_of (x ∷ g) b r p q =
    let h = both (is_blank x) (all_blank g) p in
    rw h.0 (ap (λ (l : List ℕ). x ∷ l) (gap_of g b r h.1 q))

pub word-of : (w : List ℕ) (b : ℕ) (r : List ℕ) → no_blank w ≡ true → is_blank b ≡ true → word (w ++ b ∷ r) ≡ w
unfolding word no_blank
word-of [] b r p q = rw q
word-of (x ∷ w) b r p q = by-test (is_blank x)
    (λ e. absurd (let z = rw e at p in let y : ◌≡◌ {A = ℕ} 0 1 = cc in omega arith))
    (λ e. rw e (ap (λ (l : List ℕ). x ∷ l) (word-of w b r (rw e at p) q)))

-- ---- a text without the mark, a byte that the mark does not have, then the mark
at_mark : (m l : List ℕ) → starts m l ≡ true → up_to m l ≡ []
unfolding up_to
at_mark m [] e = refl
at_mark m (b ∷ l) e = rw e

pub up_to-of : (m a : List ℕ) (b : ℕ) (r : List ℕ) → holds m a ≡ false → has m b ≡ false → starts m (b ∷ (m ++ r)) ≡ false
    → up_to m (a ++ b ∷ (m ++ r)) ≡ a ++ b ∷ []
unfolding up_to holds
up_to-of m [] b r p q n = rw n (ap (λ (l : List ℕ). b ∷ l) (at_mark m (m ++ r) (starts-self m r)))
up_to-of m (x ∷ a) b r p q n =
    let h = neither (starts m (x ∷ a)) (holds m a) p in
    rw (starts-cut m (x ∷ a) b (m ++ r) q, h.0) (ap (λ (l : List ℕ). x ∷ l) (up_to-of m a b r h.1 q n))
