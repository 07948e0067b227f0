-- Laws of rows: how many words they are, a row stored after the others, and the row that stored words are. And of a time's two words.
use Rattle.std.specs.Prelude.{Option, Some, None}
use Rattle.command.specs.declared.Time.{Time}
use Prim.Native.Nat.{ℕ, zero, suc, ◌+◌, ◌*◌, ◌/◌, ◌≤◌, ◌<◌}
use mathlib.Core.Path.{◌≡◌, refl, sym, ap, ◌∙◌}
use mathlib.Core.Bool.{Bool, ◌&&◌}
use mathlib.Core.List.{List, [], ◌∷◌, ◌++◌, append_assoc}
use native.Mathlib.Omega.{arith}
use borrow.Author.Tests.{lt-ltb, eqb-true}
use lib.Dec.{eqb}
use lib.ListN.{length, get_or, drop, length-append, length-drop, get_or-append}
use lib.Seq.{take_at, drop-append-add, drop-drop, get_or-append-add}
use Rattle.change.specs.Rows.{kind_of, is_since, since_of, change_words, change_of, change_at, words_of, put, filled, since_in, since_words}
use Rattle.change.specs.declared.Change.{Change}
use Rattle.change.specs.declared.ChangeKind.{ChangeKind}
use Rattle.text.proofs.Lists.{by-test, both}

-- six words each
pub words-length : (r : Change) → length (change_words r) ≡ 6
words-length (Change.Is None n k v) = refl
words-length (Change.Is (Some t) n k v) = refl
words-length Change.None = refl

pub all-length : (rs : List Change) → length (words_of rs) ≡ 6 * length rs
unfolding words_of
all-length [] = refl
all-length (r ∷ rs) = omega (arith, length-append (change_words r) (words_of rs), words-length r, all-length rs)

words-join : (x y : List Change) → words_of (x ++ y) ≡ words_of x ++ words_of y
unfolding words_of
words-join [] y = refl
words-join (r ∷ x) y =
    ap (λ (l : List ℕ). change_words r ++ l) (words-join x y) ∙ sym (append_assoc (change_words r) (words_of x) (words_of y))

pub filled-length : (rs : List Change) (t : List ℕ) → 6 * length rs ≤ length t → length (filled rs t) ≡ length t
filled-length rs t h = omega (arith, length-append (words_of rs) (drop (6 * length rs) t), all-length rs, length-drop (6 * length rs) t)

-- the row after those that are there
pub put_next : (rs : List Change) (r : Change) (t : List ℕ) (n : ℕ) → length rs ≡ n
    → put (filled rs t) n (change_words r) ≡ filled (rs ++ (r ∷ [])) t
unfolding put words_of
put_next rs r t n e =
    let W : List ℕ = words_of rs in
    let w : List ℕ = change_words r in
    let R : List ℕ = drop (6 * length rs) t in
    let l : length W ≡ 6 * n = omega (arith, all-length rs) in
    let k : 6 * n + 6 ≡ length W + 6 = omega arith in
    let m : 6 * length rs + 6 ≡ 6 * length (rs ++ (r ∷ [])) = omega (arith, length-append rs (r ∷ [])) in
    let beyond : drop (6 * n + 6) (W ++ R) ≡ drop (6 * length (rs ++ (r ∷ []))) t = rw (k, drop-append-add W R 6, drop-drop 6 (6 * length rs) t, m) in
    let one : words_of (rs ++ (r ∷ [])) ≡ W ++ (w ++ []) = words-join rs (r ∷ []) in
    rw (take_at W R (6 * n) l, beyond, one)
    (ap (λ (x : List ℕ). W ++ x) (sym (append_assoc w [] (drop (6 * length (rs ++ (r ∷ []))) t)))
    ∙ sym (append_assoc W (w ++ []) (drop (6 * length (rs ++ (r ∷ []))) t)))

-- ---- the words of a row are that row again
abbrev word : Change → ℕ → ℕ
word r j = get_or (change_words r) j 0

pub row_back : (r : Change) → change_of (word r 0) (word r 1) (word r 2) (word r 3) (word r 4) (word r 5) ≡ r
unfolding change_of is_since since_of kind_of
row_back (Change.Is None n ChangeKind.Scalar v) = refl
row_back (Change.Is None n ChangeKind.Vector v) = refl
row_back (Change.Is None n ChangeKind.Real v) = refl
row_back (Change.Is None n ChangeKind.String v) = refl
row_back (Change.Is (Some t) n ChangeKind.Scalar v) = refl
row_back (Change.Is (Some t) n ChangeKind.Vector v) = refl
row_back (Change.Is (Some t) n ChangeKind.Real v) = refl
row_back (Change.Is (Some t) n ChangeKind.String v) = refl
row_back Change.None = refl

word_in : (rs : List Change) (rest : List ℕ) (i j : ℕ) → i < length rs → j < 6
    → get_or (words_of rs ++ rest) (6 * i + j) 0 ≡ word (get_or rs i Change.None) j
unfolding words_of
word_in [] rest i j h g = absurd (omega arith)
word_in (r ∷ rs) rest zero j h g =
    let z : 0 + j ≡ j = omega arith in
    rw (append_assoc (change_words r) (words_of rs) rest, z) (get_or-append (change_words r) (words_of rs ++ rest) 0 j (rw (words-length r) g))
word_in (r ∷ rs) rest (suc i) j h g =
    let e : 6 * suc i + j ≡ length (change_words r) + (6 * i + j) = omega (arith, words-length r) in
    rw (append_assoc (change_words r) (words_of rs) rest, e, get_or-append-add (change_words r) (words_of rs ++ rest) (6 * i + j) 0)
    (word_in rs rest i j (omega arith) g)

-- row i of a table that rows were listed into is the i-th of them
pub row-at : (rs : List Change) (t : List ℕ) (i : ℕ) → i < length rs → change_at (filled rs t) i ≡ get_or rs i Change.None
unfolding change_at
row-at rs t i h =
    let rest : List ℕ = drop (6 * length rs) t in
    let room : i < length (filled rs t) / 6 = omega (arith, length-append (words_of rs) rest, all-length rs) in
    let z : 6 * i ≡ 6 * i + 0 = omega arith in
    let w0 : get_or (filled rs t) (6 * i) 0 ≡ word (get_or rs i Change.None) 0 = rw z (word_in rs rest i 0 h (omega arith)) in
    rw (
      lt-ltb i (length (filled rs t) / 6) room,
      w0,
      word_in rs rest i 1 h (omega arith),
      word_in rs rest i 2 h (omega arith),
      word_in rs rest i 3 h (omega arith),
      word_in rs rest i 4 h (omega arith),
      word_in rs rest i 5 h (omega arith),
    )
    (row_back (get_or rs i Change.None))

-- ---- a time's words are that time again, and two words at all
pub since-back : (t : Option Time) → since_in (since_words t) ≡ Some t
unfolding since_in is_since since_of
since-back None = refl
since-back (Some t) = refl

abbrev Two : List ℕ → Option (Option Time) → Type 0
Two w (Some t) = length w ≡ 2
Two w None = Unit {0}

pub since-two : (w : List ℕ) {r : Option (Option Time)} {t : Option Time} → r ≡ since_in w → r ≡ Some t → length w ≡ 2
unfolding since_in
since-two w e h =
    let a : Bool = eqb (length w) 2 in
    let b : Bool = is_since (get_or w 0 0) (get_or w 1 0) in
    let l : Two w (since_in w) = by-test (a && b) (λ t. rw t (eqb-true (length w) 2 (both a b t).0)) (λ t. rw t tt) in
    rw (sym e ∙ h) at l
