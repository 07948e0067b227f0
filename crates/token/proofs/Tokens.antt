-- Laws of tokens and texts: the cases, and that cursors and texts stay within the input.
use Rattle.token.specs.Read.{Reading}
use Rattle.std.specs.Prelude.{Ok, Err}
use Rattle.text.specs.declared.Text.{Text}
use Prim.Native.Nat.{ℕ, ◌+◌, ◌-◌, ◌≤◌, ◌<◌}
use mathlib.Core.Path.{◌≡◌}
use mathlib.Core.List.{List}
use native.Mathlib.Omega.{arith}
use borrow.Author.Tests.{lt-ltb, le-ltb, eq-eqb, ne_eqb, ltb-true, ltb-false, eqb-true, eqb-false}
use lib.Dec.{ltb, eqb}
use lib.ListN.{length, take, drop, length-take, length-drop}
use Rattle.text.specs.Bytes.{starts, up_to}
use Rattle.command.specs.Words.{end_mark}
use Rattle.text.specs.Texts.{limit}
use Rattle.text.specs.declared.Text.{Text as Piece}
use Rattle.command.specs.declared.Refusal.TheVariants.{UnexpectedEof}
use Rattle.text.proofs.Lists.{by-test}
use Rattle.text.proofs.Equal.{starts-long}
use Rattle.token.specs.Read.{Bound, most, unlimited, passed, beyond, Valid, end_read, after, rest, gap, word, skipped, word_token, word_here, token, text_to, text_from}
use Rattle.token.specs.declared.Cursor.{Cursor}
use Rattle.token.proofs.Reading.{place_after, From, from-after, from_end, from-trans, gap-le, word-le, up_to-le}

-- ---- the cases
pub token-long : (w r : List ℕ) (c : Cursor) (n : Bound) → passed n w < length w → word_token w r c n ≡ Err (beyond n, after (take (passed n w + 1) w) c)
unfolding word_token
token-long w r c n h = rw (lt-ltb (passed n w) (length w) h)

pub token-eof : (w r : List ℕ) (c : Cursor) (n : Bound) → length w ≤ passed n w → length w ≡ length r → word_token w r c n ≡ Err (UnexpectedEof, end_read (after w c))
unfolding word_token
token-eof w r c n h e = rw (le-ltb (passed n w) (length w) h, eq-eqb (length w) (length r) e)

pub token-text : (w r : List ℕ) (c : Cursor) (n : Bound) → length w ≤ passed n w → length w < length r → word_token w r c n ≡ Ok (record { start = c.place; len = length w }, after (take (length w + 1) r) c)
unfolding word_token
token-text w r c n h e = rw (le-ltb (passed n w) (length w) h, ne_eqb (length w) (length r) (λ q. omega arith))

-- a word that passes both bounds is the same token by either
word_same : (w r : List ℕ) (c : Cursor) (n m : Bound) → length w ≤ passed n w → length w ≤ passed m w → word_token w r c n ≡ word_token w r c m
unfolding word_token
word_same w r c n m h k = rw (le-ltb (passed n w) (length w) h, le-ltb (passed m w) (length w) k)

-- ---- within the input
pub record Within (s : List ℕ) (t : Piece) : Type 0 where
  pub inside : t.start + t.len ≤ length s

abbrev pub Kept : List ℕ → Cursor → Reading Text → Type 0
Kept s c (Ok (t, d)) = From s c d × Within s t
Kept s c (Err (e, d)) = From s c d

pub skipped-from : (s : List ℕ) (c : Cursor) → Valid s c → From s c (skipped s c)
unfolding skipped
skipped-from s c v = from-after s (gap (rest s c)) c v (omega (arith, gap-le (rest s c), length-drop c.place s, v.within))

pub skipped-valid : (s : List ℕ) (c : Cursor) → Valid s c → Valid s (skipped s c)
skipped-valid s c v = (skipped-from s c v).valid

pub from_front : (s l : List ℕ) (c : Cursor) (k : ℕ) → Valid s c → length l ≤ length (rest s c) → From s c (after (take k l) c)
from_front s l c k v h = from-after s (take k l) c v (omega (arith, length-take k l, length-drop c.place s, v.within))

here-kept : (s : List ℕ) (c : Cursor) (n : Bound) → Valid s c → Kept s c (word_here s c n)
unfolding word_here
here-kept s c n v =
    let w = word (rest s c) in
    let r = rest s c in
    let le : length w ≤ length r = word-le r in
    let room : length r ≡ length s - c.place = length-drop c.place s in
    by-test (ltb (passed n w) (length w))
    (λ q. rw (token-long w r c n (ltb-true _ _ q)) (from_front s w c (passed n w + 1) v le))
    (λ q.
    let fits : length w ≤ passed n w = ltb-false _ _ q in
    by-test (eqb (length w) (length r))
    (λ e. rw (token-eof w r c n fits (eqb-true _ _ e)) (from_end s c _ (from-after s w c v (omega (arith, v.within)))))
    (λ e.
    let ne : length w ≡ length r → ⊥ = eqb-false _ _ e in
    rw (token-text w r c n fits (omega arith))
    (from_front s r c (length w + 1) v (omega arith), record { inside = omega (arith, v.within) })))

-- what is kept from d is kept from any cursor before d
kept_trans : (s : List ℕ) (c d : Cursor) (k : Reading Text) → From s c d → Kept s d k → Kept s c k
kept_trans s c d (Ok (t, e)) f g = (from-trans s c d e f g.0, g.1)
kept_trans s c d (Err (x, e)) f g = from-trans s c d e f g

pub token-kept : (s : List ℕ) (c : Cursor) (n : Bound) → Valid s c → Kept s c (token s c n)
unfolding token
token-kept s c n v =
    let f = skipped-from s c v in
    kept_trans s c (skipped s c) (word_here s (skipped s c) n) f (here-kept s (skipped s c) n f.valid)

pub text-kept : (s : List ℕ) (c : Cursor) → Valid s c → Kept s c (text_from s c)
unfolding text_from text_to
text-kept s c v =
    let l : List ℕ = up_to end_mark (rest s c) in
    let r : List ℕ = drop (length l) (rest s c) in
    let le : length l ≤ length (rest s c) = up_to-le end_mark (rest s c) in
    let room : length (rest s c) ≡ length s - c.place = length-drop c.place s in
    let f = from-after s l c v (omega (arith, v.within)) in
    by-test (starts end_mark r)
    (λ h.
    let long : 4 ≤ length r = starts-long end_mark r h in
    let left = length-drop (length l) (rest s c) in
    rw h (from-trans s c (after l c) _ f (from-after s end_mark (after l c) f.valid (omega (arith, place_after l c, v.within))), record { inside = omega (arith, v.within) }))
    (λ h. rw h (from_end s c (after l c) f))

-- in a valid input no word is longer than the input may be
pub no-limit : (s : List ℕ) (c : Cursor) → Valid s c → token s c unlimited ≡ token s c (most limit)
unfolding token word_here
no-limit s c v =
    let d = skipped s c in
    word_same (word (rest s d)) (rest s d) d unlimited (most limit) (omega arith)
    (omega (arith, word-le (rest s d), length-drop d.place s, v.short))
