-- An answer other than Done and 1 stays the same whatever bytes are appended: once for every plan.
use Rattle.std.specs.Prelude.{Ok, Err}
use Prim.Native.Nat.{ℕ, suc, ◌+◌, ◌≤◌, ◌<◌}
use mathlib.Core.Path.{◌≡◌, refl, ap}
use mathlib.Core.Bool.{Bool, true, not, false≢true}
use mathlib.Core.List.{List, [], ◌∷◌, ◌++◌}
use native.Mathlib.Omega.{arith}
use borrow.Author.Tests.{lt-ltb, ltb-true, ltb-false, eqb-true, eqb-false}
use lib.Dec.{eqb, ltb}
use lib.ListN.{length, drop, get_or, length-append, length-drop, drop_of_length-le, get_or-append}
use lib.Seq.{take-append-le, drop-append-le}
use Rattle.text.specs.Bytes.{is_blank, starts, up_to}
use Rattle.command.specs.Words.{end_mark}
use Rattle.text.specs.Texts.{limit, part}
use Rattle.value.specs.Values.{is_value}
use Rattle.command.specs.Refusals.{number_of}
use Rattle.text.specs.declared.Text.{Text}
use Rattle.command.specs.declared.Command.{Command}
use Rattle.text.proofs.Lists.{by-test}
use Rattle.text.proofs.Equal.{starts-long, starts_more}
use Rattle.token.specs.Read.{Reading, Bound, most, values, unlimited, passed, values_in, Valid, byte_read, after, rest, gap, word, skipped, word_token, word_here, token, text_to, text_from}
use Rattle.parser_part.specs.Plan.{Plan, answer, begins, ends, refuse, a_token, a_text, and_then, run, kind_of, kind_plan}
use Rattle.parser.specs.Next.{next_of, found, next_from, settled}
use Rattle.token.specs.declared.Cursor.{Cursor}
use Rattle.token.proofs.Reading.{place_after, from_step, word-le, up_to-le}
use Rattle.token.proofs.Tokens.{token-long, token-eof, token-text, Within, Kept, skipped-from, token-kept, text-kept}
use Rattle.parser.proofs.Ahead.{valid-good}

-- ---- lists with more after them
gap_same : (r z : List ℕ) → length (gap r) < length r → gap (r ++ z) ≡ gap r
unfolding gap
gap_same [] z h = absurd (omega arith)
gap_same (b ∷ r) z h =
    by-test (is_blank b) (λ e. rw e (ap (λ (l : List ℕ). b ∷ l) (gap_same r z (let k = rw e at h in omega arith)))) (λ e. rw e)

word_same : (r z : List ℕ) → length (word r) < length r → word (r ++ z) ≡ word r
unfolding word
word_same [] z h = absurd (omega arith)
word_same (b ∷ r) z h =
    by-test (is_blank b) (λ e. rw e) (λ e. rw e (ap (λ (l : List ℕ). b ∷ l) (word_same r z (let k = rw e at h in omega arith))))

word_more : (r z : List ℕ) → (x : List ℕ) × (word (r ++ z) ≡ word r ++ x)
unfolding word
word_more [] z = (word z, refl)
word_more (b ∷ r) z =
    let h = word_more r z in
    by-test (is_blank b) (λ e. rw e ([], refl)) (λ e. rw e (h.0, ap (λ (l : List ℕ). b ∷ l) h.1))

up_to-none : (m z : List ℕ) → starts m [] ≡ true → up_to m z ≡ []
unfolding up_to starts
up_to-none [] [] h = refl
up_to-none [] (b ∷ z) h = refl
up_to-none (x ∷ m) z h = absurd (false≢true h)

up_to-same : (m r z : List ℕ) → starts m (drop (length (up_to m r)) r) ≡ true → up_to m (r ++ z) ≡ up_to m r
unfolding up_to
up_to-same m [] z h = up_to-none m z h
up_to-same m (b ∷ r) z h =
    by-test (starts m (b ∷ r)) (λ e. rw (starts_more m (b ∷ r) z (starts-long m (b ∷ r) e), e))
    (λ e.
    let k = rw e at h in
    let long : length m ≤ length (b ∷ r) = omega (arith, starts-long m _ k, length-drop (length (up_to m r)) r) in
    rw (starts_more m (b ∷ r) z long, e) (ap (λ (l : List ℕ). b ∷ l) (up_to-same m r z k)))

-- ---- tokens
-- not ended by the input's end
abbrev Found : Reading Text → Bool
Found (Ok (t, d)) = true
Found (Err (e, d)) = not (eqb (number_of e) 1)

values_same : (w x : List ℕ) → values_in w < length w → values_in (w ++ x) ≡ values_in w
unfolding values_in
values_same [] x h = absurd (omega arith)
values_same (b ∷ w) x h =
    by-test (is_value b) (λ e. rw e (ap suc (values_same w x (let k = rw e at h in omega arith)))) (λ e. rw e)

passed-same : (n : Bound) (w x : List ℕ) → passed n w < length w → passed n (w ++ x) ≡ passed n w
passed-same (most n) w x h = refl
passed-same values w x h = values_same w x h
passed-same unlimited w x h = absurd (omega arith)

word-local : (r z : List ℕ) (c : Cursor) (n : Bound) → Found (word_token (word r) r c n) ≡ true → word_token (word (r ++ z)) (r ++ z) c n ≡ word_token (word r) r c n
word-local r z c n h =
    let w : List ℕ = word r in
    let le : length w ≤ length r = word-le r in
    by-test (ltb (passed n w) (length w))
    (λ q.
    let long : passed n w < length w = ltb-true _ _ q in
    let x = word_more r z in
    let same : passed n (w ++ x.0) ≡ passed n w = passed-same n w x.0 long in
    rw (x.1, token-long w r c n long, token-long (w ++ x.0) (r ++ z) c n (omega (arith, length-append w x.0)), same, take-append-le (passed n w + 1) w x.0 (omega arith)))
    (λ q.
    let fits : length w ≤ passed n w = ltb-false _ _ q in
    by-test (eqb (length w) (length r))
    (λ e. absurd (false≢true (rw (token-eof w r c n fits (eqb-true _ _ e)) at h)))
    (λ e.
    let ne : length w ≡ length r → ⊥ = eqb-false _ _ e in
    let short : length w < length r = omega arith in
    rw (word_same r z short, token-text w r c n fits short, token-text w (r ++ z) c n fits (omega (arith, length-append r z)), take-append-le (length w + 1) r z (omega arith))))

module _ (s z : List ℕ) where
  rest_more : (c : Cursor) → Valid s c → rest (s ++ z) c ≡ rest s c ++ z
  rest_more c v = drop-append-le c.place s z v.within

  skipped-same : (c : Cursor) → Valid s c → length (gap (rest s c)) < length (rest s c) → skipped (s ++ z) c ≡ skipped s c
  unfolding skipped
  skipped-same c v h = rw (rest_more c v, gap_same (rest s c) z h)

  here-local : (c : Cursor) (n : Bound) → Valid s c → Found (word_here s c n) ≡ true → word_here (s ++ z) c n ≡ word_here s c n
  unfolding word_here
  here-local c n v h = rw (rest_more c v) (word-local (rest s c) z c n h)

  -- nothing but blanks: the end
  none_left : (c : Cursor) (n : Bound) → Valid s c → length (rest s c) ≤ length (gap (rest s c)) → Found (word_here s (skipped s c) n) ≡ true → ⊥
  unfolding word_here skipped word
  none_left c n v g h =
      let d : Cursor = after (gap (rest s c)) c in
      let all : length s ≤ d.place = omega (arith, place_after (gap (rest s c)) c, length-drop c.place s, v.within) in
      let e : rest s d ≡ [] = drop_of_length-le s all in
      let k = rw e at h in
      false≢true (rw (token-eof [] [] d n (omega arith) refl) at k)

  token-local : (c : Cursor) (n : Bound) → Valid s c → Found (token s c n) ≡ true → token (s ++ z) c n ≡ token s c n
  unfolding token
  token-local c n v h =
      by-test (ltb (length (gap (rest s c))) (length (rest s c)))
      (λ q. rw (skipped-same c v (ltb-true _ _ q)) (here-local (skipped s c) n (skipped-from s c v).valid h))
      (λ q. absurd (none_left c n v (ltb-false _ _ q) h))

  text-local : (c : Cursor) → Valid s c → Found (text_from s c) ≡ true → text_from (s ++ z) c ≡ text_from s c
  unfolding text_from text_to
  text-local c v h =
      let r : List ℕ = rest s c in
      let l : List ℕ = up_to end_mark r in
      by-test (starts end_mark (drop (length l) r))
      (λ q.
      let same : up_to end_mark (r ++ z) ≡ l = up_to-same end_mark r z q in
      let behind : drop (length l) (r ++ z) ≡ drop (length l) r ++ z = drop-append-le (length l) r z (up_to-le end_mark r) in
      rw (rest_more c v, same, behind, starts_more end_mark (drop (length l) r) z (starts-long end_mark _ q), q))
      (λ q. absurd (false≢true (rw q at h)))

  part_same : (t : Text) → Within s t → part (s ++ z) t ≡ part s t
  unfolding part
  part_same t w =
      rw (drop-append-le t.start s z (omega (arith, w.inside)), take-append-le t.len (drop t.start s) z (omega (arith, w.inside, length-drop t.start s)))

  -- ---- plans
  then-local : (c : Cursor) (f g : Text → Cursor → Reading Command) (x y : Reading Text) → Kept s c x → (Found x ≡ true → y ≡ x)
      → ((t : Text) (d : Cursor) → Valid s d → Within s t → settled (next_of (f t d)) ≡ true → g t d ≡ f t d)
      → settled (next_of (and_then f x)) ≡ true → and_then g y ≡ and_then f x
  then-local c f g (Ok (t, d)) y k e ih h = rw (e refl) (ih t d k.0.valid k.1 h)
  then-local c f g (Err (r, d)) y k e ih h = rw (e h)

  pub run-local : (p : Plan) (c : Cursor) → Valid s c → settled (next_of (run p s c)) ≡ true → run p (s ++ z) c ≡ run p s c
  unfolding run
  run-local (answer k) c v h = refl
  run-local (begins k) c v h = refl
  run-local ends c v h = refl
  run-local (refuse e) c v h = refl
  run-local (a_token n f) c v h =
      then-local c _ _ (token s c n) (token (s ++ z) c n) (token-kept s c n v) (token-local c n v)
      (λ t d u w q. rw (part_same t w) (run-local (f t (part s t)) d u q)) h
  run-local (a_text f) c v h =
      then-local c _ _ (text_from s c) (text_from (s ++ z) c) (text-kept s c v) (text-local c v)
      (λ t d u w q. rw (part_same t w) (run-local (f t (part s t)) d u q)) h

  -- ---- one command
  found_local : (d : Cursor) → Valid s d → settled (found s d) ≡ true → found (s ++ z) d ≡ found s d
  unfolding found
  found_local d v h =
      by-test (ltb d.place (length s))
      (λ q.
      let here : d.place < length s = ltb-true _ _ q in
      let there : d.place < length (s ++ z) = omega (arith, length-append s z) in
      let b : ℕ = get_or s d.place 0 in
      rw (get_or-append s z 0 d.place here, lt-ltb _ _ there, q)
      (ap next_of (run-local (kind_plan (kind_of b)) (byte_read d b) (from_step s d b v here).valid (rw q at h))))
      (λ q. absurd (false≢true (rw q at h)))

  -- an answer that is settled was found before the end
  found_inside : (d : Cursor) → settled (found s d) ≡ true → d.place < length s
  unfolding found
  found_inside d h = by-test (ltb d.place (length s)) (λ q. ltb-true _ _ q) (λ q. absurd (false≢true (rw q at h)))

  skipped-inside : (c : Cursor) → Valid s c → (skipped s c).place < length s → length (gap (rest s c)) < length (rest s c)
  unfolding skipped
  skipped-inside c v h = omega (arith, place_after (gap (rest s c)) c, length-drop c.place s, v.within)

  pub next-local : (c : Cursor) → Valid s c → length (s ++ z) ≤ limit → settled (next_from s c) ≡ true → next_from (s ++ z) c ≡ next_from s c
  unfolding next_from
  next-local c v l h =
      let k = rw (valid-good s c v) at h in
      let u : Valid (s ++ z) c = record { short = l; within = omega (arith, v.within, length-append s z); started = v.started; counted = v.counted } in
      rw (valid-good s c v, valid-good (s ++ z) c u, skipped-same c v (skipped-inside c v (found_inside (skipped s c) k)))
      (found_local (skipped s c) (skipped-from s c v).valid k)
