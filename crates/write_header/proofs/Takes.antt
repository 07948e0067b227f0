-- What a header's call amounts to: some commands of it in order are accepted, and no other.
--     header-takes   their layouts are the bytes, and the answer tells how many, and the state after them
--     header-all     where the answer is `Bytes`, they are all
--     sized-header   the numbers of a header's commands are of their types
use Rattle.std.specs.Prelude.{Option, Some, None, Result, Ok, Err}
use Rattle.timescale.specs.declared.TimescaleUnit.{TimescaleUnit}
use Rattle.text.specs.declared.Text.{Text}
use Prim.Native.Nat.{ℕ, zero, suc, ◌+◌, ◌-◌, ◌*◌, ◌/◌, ◌^◌, ◌<◌}
use mathlib.Core.Path.{◌≡◌, refl, ap}
use mathlib.Core.Bool.{Bool, true, false, cond, not, ◌&&◌, ◌||◌}
use mathlib.Core.List.{List, [], ◌∷◌, ◌++◌}
use native.Mathlib.Omega.{arith}
use borrow.Author.Tests.{ltb-true, ltb-false, eqb-true}
use lib.Dec.{eqb, ltb, leb}
use lib.ListN.{length, get_or, drop, replicate}
use mir.Syntax.{w32}
use mir.Val.{SFits}
use Rattle.command.specs.Meaning.{Meaning, Remark, comment, date, version, remark, scope_def, upscope, enddefinitions}
use Rattle.command.specs.declared.Refusal.{Refusal}
use Rattle.rows.specs.Good.{is_good_table, open_to}
use Rattle.rows.specs.Rows.{signed_of, is_index, index_of, words_at, row_at, rows_from, rows_of}
use Rattle.header.specs.declared.Header.{Header}
use Rattle.rows.specs.declared.Row.{Row}
use Rattle.text.specs.Texts.{part}
use Rattle.text.proofs.Each.{Each}
use Rattle.text.proofs.Lists.{by-test, both}
use Rattle.write.specs.Layout.{layout, writable, state_after}
use Rattle.scope.specs.Index.{SizedIndex}
use Rattle.write.specs.Run.{layouts, states_after, taken, Sized, AllSized}
use Rattle.write.specs.declared.Writer.{Writer}
use Rattle.write_header.specs.Meanings.{remark_of, timescale_of, var_meaning, row_meanings, header_meanings}
use Rattle.write_header.specs.Written.{Outcome, poured, misplaced, header_call}
use Rattle.rows.proofs.Peeking.{row-cases}

-- ---- the accepted commands
abbrev pub count_of : Result (ℕ × Writer) (Refusal × ℕ × Writer) → ℕ
count_of (Ok (n, v)) = n
count_of (Err (e, n, v)) = n

abbrev pub state_of : Result (ℕ × Writer) (Refusal × ℕ × Writer) → Writer
state_of (Ok (n, v)) = v
state_of (Err (e, n, v)) = v

-- the outcome x of a call with the state w and the output o: the commands l were written, and nothing else
pub record Takes (w : Writer) (o : List ℕ) (l : List Meaning) (x : Outcome) : Type 0 where
  pub counts : count_of x.answer ≡ length (layouts l)
  pub state : state_of x.answer ≡ states_after w l
  pub leaves : x.left ≡ layouts l ++ drop (length (layouts l)) o

-- all are refused at once: by 25 or 23
abbrev pub refused : List ℕ → Header → List ℕ → ℕ → Bool
refused s h table n = misplaced s h (rows_of table n) || not (is_good_table (rows_of table n))

abbrev pub accepted : Writer → List ℕ → Header → List ℕ → ℕ → List ℕ → List Meaning
accepted w s h table n o = cond (refused s h table n) [] (taken w (length o) (header_meanings s h (rows_of table n)))

none-taken : (w : Writer) (o : List ℕ) (e : Refusal) → Takes w o [] (record { answer = Err (e, 0, w); left = o })
unfolding layouts states_after
none-taken w o e = record { counts = refl; state = refl; leaves = refl }

poured-taken : (w : Writer) (ms l : List Meaning) (o : List ℕ) → Takes w o l (poured w ms l o)
poured-taken w ms l o =
    by-test (eqb (length l) (length ms))
    (λ e. record { counts = rw e; state = rw e; leaves = refl })
    (λ e. record { counts = rw e; state = rw e; leaves = refl })

module _ (w : Writer) (s : List ℕ) (h : Header) (table : List ℕ) (n : ℕ) (o : List ℕ) where
  pub header-takes : Takes w o (accepted w s h table n o) (header_call w s h table n o)
  unfolding header_call
  header-takes =
      by-test (misplaced s h (rows_of table n))
      (λ e. rw e (none-taken w o Refusal.BadPlace))
      (λ e.
      by-test (is_good_table (rows_of table n))
      (λ g. rw (e, g) (poured-taken w (header_meanings s h (rows_of table n)) _ o))
      (λ g. rw (e, g) (none-taken w o Refusal.BadTable)))

-- ---- all of them
taken-whole : (w : Writer) (room : ℕ) (ms : List Meaning) → length (taken w room ms) ≡ length ms → taken w room ms ≡ ms
unfolding taken
taken-whole w room [] e = refl
taken-whole w room (m ∷ ms) e =
    go (writable w m && leb (length (layout m)) room) (taken-whole (state_after w m) (room - length (layout m)) ms) e
  where
    more : List Meaning
    more = taken (state_after w m) (room - length (layout m)) ms

    go : (t : Bool) → (length more ≡ length ms → more ≡ ms) → length (cond t (m ∷ more) []) ≡ suc (length ms) → cond t (m ∷ more) [] ≡ m ∷ ms
    go true f q = ap (λ (l : List Meaning). m ∷ l) (f (omega (arith, q)))
    go false f q = absurd (omega (arith, q))

poured-whole : (w : Writer) (ms l : List Meaning) (o : List ℕ) (k : ℕ) (v : Writer)
    → (poured w ms l o).answer ≡ Ok (k, v) → length l ≡ length ms
poured-whole w ms l o k v e =
    by-test (eqb (length l) (length ms)) (eqb-true (length l) (length ms))
    (λ q. absurd (let f = rw q at e in let z : ◌≡◌ {A = ℕ} 0 1 = cc in omega arith))

module _ (w : Writer) (s : List ℕ) (h : Header) (table : List ℕ) (n : ℕ) (o : List ℕ) where
  pub header-all : (k : ℕ) (v : Writer) → (header_call w s h table n o).answer ≡ Ok (k, v)
      → accepted w s h table n o ≡ header_meanings s h (rows_of table n)
  unfolding header_call
  header-all k v a =
      by-test (misplaced s h (rows_of table n))
      (λ e. absurd (let f = rw e at a in let z : ◌≡◌ {A = ℕ} 0 1 = cc in omega arith))
      (λ e.
      by-test (is_good_table (rows_of table n))
      (λ g.
      let all = header_meanings s h (rows_of table n) in
      rw (e, g) (taken-whole w (length o) all (poured-whole w all (taken w (length o) all) o k v (rw (e, g) at a))))
      (λ g. absurd (let f = rw (e, g) at a in let z : ◌≡◌ {A = ℕ} 0 1 = cc in omega arith)))

-- ---- numbers of their types
-- each word of a table is of 64 bits
abbrev pub AreWords : List ℕ → Type 0
AreWords table = Each (λ w. w < 2 ^ 64) table

abbrev pub KeptSized : Option (ℕ × TimescaleUnit) → Type 0
KeptSized None = Unit {0}
KeptSized (Some (n, u)) = n < 2 ^ 32

pub word_at : (table : List ℕ) (j : ℕ) → AreWords table → get_or table j 0 < 2 ^ 64
word_at [] j x = omega arith
word_at (w ∷ table) zero x = x.0
word_at (w ∷ table) (suc j) x = word_at table j x.1

signed-fits : (w : ℕ) → w < 2 ^ 32 → SFits w32 (signed_of w)
unfolding signed_of
signed-fits w h =
    by-test (ltb w (2 ^ 31))
    (λ e. rw e (record { sfits = ltb-true w (2 ^ 31) e }))
    (λ e. rw e (record { sfits = omega (arith, h, ltb-false w (2 ^ 31) e) }))

pub index-sized : (f a b : ℕ) → is_index f a b ≡ true → SizedIndex (index_of f a b)
unfolding is_index index_of
index-sized f a b e =
    by-test (eqb f 0) (λ q. rw q tt)
    (λ q.
    by-test (eqb f 1)
    (λ r. rw (q, r) (signed-fits a (ltb-true a (2 ^ 32) (both (ltb a (2 ^ 32)) (eqb b 0) (rw (q, r) at e)).0)))
    (λ r.
    let x = both (eqb f 2 && ltb a (2 ^ 32)) (ltb b (2 ^ 32)) (rw (q, r) at e) in
    let y = both (eqb f 2) (ltb a (2 ^ 32)) x.0 in
    rw (q, r) (signed-fits a (ltb-true a (2 ^ 32) y.1), signed-fits b (ltb-true b (2 ^ 32) x.1))))

unfoldable SizedRow : Row → Type 0
SizedRow (Row.Scope p k t) = Unit {0}
SizedRow (Row.Var p v) = (v.size < 2 ^ 32) × (v.code.0 < 2 ^ 64) × SizedIndex v.index
SizedRow (Row.Comment p t) = Unit {0}
SizedRow Row.None = Unit {0}

sized_row : (table : List ℕ) (i : ℕ) → AreWords table → SizedRow (row_at table i)
unfolding row_at SizedRow
sized_row table i x =
    by-test (ltb i (length table / 10))
    (λ e. rw e (row-cases SizedRow (words_at table (10 * i)) tt (λ h q. (h, word_at table (10 * i + 4) x, index-sized _ _ _ q)) tt tt))
    (λ e. rw e tt)

sized-append : (a b : List Meaning) → AllSized a → AllSized b → AllSized (a ++ b)
sized-append [] b x y = y
sized-append (m ∷ a) b x y = (x.0, sized-append a b x.1 y)

-- a row's command after upscopes
sized-up : (k : ℕ) (m : Meaning) (ms : List Meaning) → Sized m → AllSized ms → AllSized (replicate k upscope ++ (m ∷ ms))
sized-up zero m ms x y = (x, y)
sized-up (suc k) m ms x y = (tt, sized-up k m ms x y)

sized-next : (s : List ℕ) (i : ℕ) (st : List ℕ) (r : Row) (rs : List Row) → SizedRow r
    → ((j : ℕ) (l : List ℕ) → AllSized (row_meanings s j l rs)) → AllSized (row_meanings s i st (r ∷ rs))
unfolding row_meanings SizedRow
sized-next s i st (Row.Scope p k t) rs x f =
    sized-up (length st - length (open_to p st)) (scope_def k (part s t)) (row_meanings s (i + 1) (i ∷ open_to p st) rs) tt (f (i + 1) (i ∷ open_to p st))
sized-next s i st (Row.Var p v) rs x f =
    sized-up (length st - length (open_to p st)) (var_meaning s v) (row_meanings s (i + 1) (open_to p st) rs) x (f (i + 1) (open_to p st))
sized-next s i st (Row.Comment p t) rs x f =
    sized-up (length st - length (open_to p st)) (remark comment (part s t)) (row_meanings s (i + 1) (open_to p st) rs) tt (f (i + 1) (open_to p st))
sized-next s i st Row.None rs x f = f (i + 1) st

sized_rows : (s table : List ℕ) → AreWords table → (i k j : ℕ) (st : List ℕ) → AllSized (row_meanings s j st (rows_from table i k))
unfolding row_meanings rows_from
sized_rows s table x i zero j st = sized-up (length st - 0) enddefinitions [] tt tt
sized_rows s table x i (suc k) j st = sized-next s j st (row_at table i) (rows_from table (i + 1) k) (sized_row table i x) (sized_rows s table x (i + 1) k)

sized-remark : (k : Remark) (s : List ℕ) (t : Option Text) → AllSized (remark_of k s t)
sized-remark k s None = tt
sized-remark k s (Some t) = (tt, tt)

sized-scale : (t : Option (ℕ × TimescaleUnit)) → KeptSized t → AllSized (timescale_of t)
sized-scale None x = tt
sized-scale (Some (n, u)) x = (x, tt)

pub sized-header : (s : List ℕ) (h : Header) (table : List ℕ) (n : ℕ) → AreWords table → KeptSized h.timescale
    → AllSized (header_meanings s h (rows_of table n))
unfolding header_meanings
sized-header s h table n x y =
    let d = remark_of date s h.date in
    let v = remark_of version s h.version in
    let t = timescale_of h.timescale in
    sized-append (d ++ (v ++ t)) (row_meanings s 0 [] (rows_of table n))
    (sized-append d (v ++ t) (sized-remark date s h.date) (sized-append v t (sized-remark version s h.version) (sized-scale h.timescale y)))
    (sized_rows s table x 0 n 0 [])
