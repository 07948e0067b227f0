-- A table that rows were stored in one after the other is the rows' words and then the rest as it was.
use Rattle.command.specs.Refusals.{Ended}
use Prim.Native.Nat.{ℕ, suc, ◌+◌, ◌-◌, ◌*◌, ◌≤◌}
use mathlib.Core.Path.{◌≡◌, sym, ap, ◌∙◌}
use mathlib.Core.List.{List, [], ◌∷◌, ◌++◌, append_assoc}
use native.Mathlib.Omega.{arith}
use native.Mathlib.Nat.{add-zero, zero-add}
use lib.ListN.{length, take, drop, length-append, length-drop, take-append-drop}
use lib.Seq.{length-take-le, take_at, drop-append-add, drop-drop}
use Rattle.token.specs.declared.Cursor.{Cursor}
use Rattle.header.specs.Header.{Outcome, answer_of}
use Rattle.header.specs.Level.{final, fill, after}
use Rattle.rows.specs.Rows.{words_in, row_words, words_of, put, filled}
use Rattle.header.specs.declared.Header.{Header}
use Rattle.header.specs.declared.HeaderAnswer.{HeaderAnswer}
use Rattle.rows.specs.declared.Row.{Row}
use Rattle.rows.proofs.Words.{ten}

module _ (m : List ℕ) (n : ℕ) (w : List ℕ) (e : length w ≡ 10) (h : 10 * n + 10 ≤ length m) where
  up_to : length (take (10 * n) m ++ w) ≡ 10 * n + 10
  up_to = omega (arith, length-append (take (10 * n) m) w, length-take-le (10 * n) m (omega arith), e)

  apart : put m n w ≡ (take (10 * n) m ++ w) ++ drop (10 * n + 10) m
  unfolding put
  apart = sym (append_assoc (take (10 * n) m) w (drop (10 * n + 10) m))

  -- what stands up to their end, and what stands after it
  front : take (10 * n + 10) (put m n w) ≡ take (10 * n) m ++ w
  front = rw apart (take_at (take (10 * n) m ++ w) (drop (10 * n + 10) m) (10 * n + 10) up_to)

  back : (j : ℕ) → 10 * n + 10 ≤ j → drop j (put m n w) ≡ drop j m
  back j l =
      let i : j ≡ length (take (10 * n) m ++ w) + (j - (10 * n + 10)) = omega (arith, up_to) in
      let k : 10 * n + 10 + (j - (10 * n + 10)) ≡ j = omega arith in
      ap (drop j) apart
      ∙ ap (λ (x : ℕ). drop x ((take (10 * n) m ++ w) ++ drop (10 * n + 10) m)) i
      ∙ drop-append-add (take (10 * n) m ++ w) (drop (10 * n + 10) m) (j - (10 * n + 10))
      ∙ drop-drop (j - (10 * n + 10)) (10 * n + 10) m
      ∙ ap (λ (x : ℕ). drop x m) k

  length-put : length (put m n w) ≡ length m
  length-put =
      omega (arith, ap length apart, length-append (take (10 * n) m ++ w) (drop (10 * n + 10) m), up_to, length-drop (10 * n + 10) m)

fill-words : (m : List ℕ) (n : ℕ) (rs : List Row) → 10 * (n + length rs) ≤ length m
    → fill m n rs ≡ take (10 * n) m ++ (words_of rs ++ drop (10 * (n + length rs)) m)
unfolding words_of
fill-words m n [] h = rw (add-zero n) (sym (take-append-drop (10 * n) m))
fill-words m n (r ∷ rs) h =
    let e₁ : 10 * (n + 1) ≡ 10 * n + 10 = omega arith in
    let e₂ : 10 * (n + 1 + length rs) ≡ 10 * (n + suc (length rs)) = omega arith in
    let l : 10 * n + 10 ≤ length m = omega arith in
    fill-words (put m n (row_words r)) (n + 1) rs (rw (length-put m n (row_words r) (ten (words_in r)) l) (omega arith))
    ∙ rw (
      e₁,
      e₂,
      front m n (row_words r) (ten (words_in r)) l,
      back m n (row_words r) (ten (words_in r)) l (10 * (n + suc (length rs))) (omega arith),
      append_assoc (take (10 * n) m) (row_words r) (words_of rs ++ drop (10 * (n + suc (length rs))) m),
    )
    (ap (λ (l : List ℕ). take (10 * n) m ++ l) (sym (append_assoc (row_words r) (words_of rs) (drop (10 * (n + suc (length rs))) m))))

pub settled : (m : List ℕ) (o : Outcome) (h : Header) (x : Ended) (d : Cursor) (n : ℕ) (m' : List ℕ) → after m 0 o ≡ final h x d n m' → 10 * n ≤ length m
    → (◌≡◌ {A = HeaderAnswer} (record { cursor = d; count = n; header = h; ended = x }) (answer_of o)) × (m' ≡ filled o.rows m)
settled m o h x d n m' e l =
    let eh : o.kept ≡ h = cc in
    let ex : o.ended ≡ x = cc in
    let ed : o.cursor ≡ d = cc in
    let en : 0 + length o.rows ≡ n = cc in
    let em : fill m 0 o.rows ≡ m' = cc in
    let en' : length o.rows ≡ n = omega arith in (
      λ i. record { cursor = sym ed i; count = sym en' i; header = sym eh i; ended = sym ex i },
      sym em ∙ fill-words m 0 o.rows (omega arith) ∙ ap (λ (k : ℕ). words_of o.rows ++ drop (10 * k) m) (zero-add (length o.rows)),
    )
