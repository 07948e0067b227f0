-- Laws of tables of records: nine words each, and one record stored after the others.
use Prim.Native.Nat.{ℕ, ◌+◌, ◌*◌, ◌≤◌}
use mathlib.Core.Path.{◌≡◌, refl, sym, ap, ◌∙◌}
use mathlib.Core.List.{List, [], ◌∷◌, ◌++◌, append_assoc, append-nil}
use native.Mathlib.Nat.{add-zero}
use native.Mathlib.Omega.{arith}
use lib.ListN.{length, drop, length-append, length-take, length-drop}
use lib.Seq.{take_at, drop-append-add, drop-drop}
use Rattle.command.specs.declared.Command.{Command}
use Rattle.record.specs.Record.{record_of, record_words, words_of, put_at, put}
use Rattle.record.proofs.Words.{nine}
use Rattle.records.specs.Read.{filled, puts}

pub all-length : (ks : List Command) → length (words_of ks) ≡ 9 * length ks
unfolding words_of
all-length [] = refl
all-length (k ∷ ks) = omega (arith, length-append (record_words k) (words_of ks), nine (record_of k), all-length ks)

words-join : (x y : List Command) → words_of (x ++ y) ≡ words_of x ++ words_of y
unfolding words_of
words-join [] y = refl
words-join (k ∷ x) y =
    ap (λ (l : List ℕ). record_words k ++ l) (words-join x y) ∙ sym (append_assoc (record_words k) (words_of x) (words_of y))

-- the record after those that are there
put_next : (ks : List Command) (k : Command) (t : List ℕ) (n : ℕ) → length ks ≡ n
    → put (filled ks t) n (record_words k) ≡ filled (ks ++ (k ∷ [])) t
unfolding put_at words_of
put_next ks k t n e =
    let W : List ℕ = words_of ks in
    let w : List ℕ = record_words k in
    let R : List ℕ = drop (9 * length ks) t in
    let l : length W ≡ 9 * n = omega (arith, all-length ks) in
    let p : 9 * n + 9 ≡ length W + 9 = omega arith in
    let m : 9 * length ks + 9 ≡ 9 * length (ks ++ (k ∷ [])) = omega (arith, length-append ks (k ∷ [])) in
    let beyond : drop (9 * n + 9) (W ++ R) ≡ drop (9 * length (ks ++ (k ∷ []))) t = rw (p, drop-append-add W R 9, drop-drop 9 (9 * length ks) t, m) in
    let one : words_of (ks ++ (k ∷ [])) ≡ W ++ (w ++ []) = words-join ks (k ∷ []) in
    rw (take_at W R (9 * n) l, beyond, one)
    (ap (λ (x : List ℕ). W ++ x) (sym (append_assoc w [] (drop (9 * length (ks ++ (k ∷ []))) t)))
    ∙ sym (append_assoc W (w ++ []) (drop (9 * length (ks ++ (k ∷ []))) t)))

-- ---- the records of some commands
put-length : (t : List ℕ) (n : ℕ) (k : Command) → 9 * n + 9 ≤ length t → length (put t n (record_words k)) ≡ length t
unfolding put_at
put-length t n k h = simp (length-append, length-take, length-drop) (omega (arith, nine (record_of k)))

pub puts-length : (ks : List Command) (t : List ℕ) (n : ℕ) → 9 * (n + length ks) ≤ length t → length (puts t n ks) ≡ length t
puts-length [] t n h = refl
puts-length (k ∷ ks) t n h =
    let e : length (put t n (record_words k)) ≡ length t = put-length t n k (omega arith) in
    puts-length ks (put t n (record_words k)) (n + 1) (omega arith) ∙ e

pub puts-join : (x y : List Command) (t : List ℕ) (n : ℕ) → puts t n (x ++ y) ≡ puts (puts t n x) (n + length x) y
puts-join [] y t n = rw (add-zero n)
puts-join (k ∷ x) y t n =
    let e : n + 1 + length x ≡ n + length (k ∷ x) = omega arith in
    puts-join x y (put t n (record_words k)) (n + 1) ∙ rw e

puts-next : (x y : List Command) (t : List ℕ) → puts (filled x t) (length x) y ≡ filled (x ++ y) t
puts-next x [] t = rw (append-nil x)
puts-next x (k ∷ y) t =
    let e : length x + 1 ≡ length (x ++ (k ∷ [])) = omega (arith, length-append x (k ∷ [])) in
    rw (put_next x k t (length x) refl, e, ← append_assoc x (k ∷ []) y) (puts-next (x ++ (k ∷ [])) y t)

pub puts-filled : (ks : List Command) (t : List ℕ) → puts t 0 ks ≡ filled ks t
unfolding words_of
puts-filled ks t = puts-next [] ks t
