-- Laws of well-formed UTF-8 (specs/Utf8.antt). Assumes nothing.
use Prim.Native.Nat.{ℕ, zero, suc, ◌+◌, ◌-◌, ◌≤◌, ◌<◌}
use mathlib.Core.Path.{◌≡◌, refl, sym, ap, ◌∙◌}
use mathlib.Core.Bool.{true, false, false≢true}
use mathlib.Core.List.{List, [], ◌∷◌, ◌++◌}
use native.Mathlib.Numerals.{add-one}
use native.Mathlib.Omega.{arith}
use borrow.Author.Tests.{le-leb, lt-leb, ltb-false}
use lib.Dec.{leb, ltb, eqb, eqb-suc-zero}
use lib.ListN.{length, get_or, drop, replicate, drop_of_length-le}
use lib.Seq.{drop-cons}
use Rattle.utf8.specs.declared.Due.{Due}
use Rattle.utf8.specs.Utf8.{Range, ◌to◌, lies, tail, table37, never, due_after, well_formed, valid_utf8, due_from, due_list}
use Rattle.std.specs.List.{position_or_len}
use Rattle.text.proofs.Lists.{by-test, both, and-false}
use Rattle.text.proofs.Slices.{position-within}

-- ---- ranges

module _ (r : Range) (b : ℕ) where
  pub lies_in : r.low ≤ b → b ≤ r.high → lies r b ≡ true
  unfolding lies
  lies_in p q = rw (le-leb r.low b p, le-leb b r.high q)

  pub lies-below : b < r.low → lies r b ≡ false
  unfolding lies
  lies-below p = rw (lt-leb r.low b p)

  pub lies-above : r.high < b → lies r b ≡ false
  unfolding lies
  lies-above p = rw (lt-leb b r.high p) (and-false (leb r.low b))

-- ---- what is due after one byte more

never-lies : (b : ℕ) → lies never b ≡ false
never-lies zero = lies-below never zero (omega arith)
never-lies (suc b) = lies-above never (suc b) (omega arith)

-- a byte that none is makes no text
never-made : (s : List ℕ) (due : List Range) → well_formed s (never ∷ due) ≡ false
unfolding well_formed
never-made [] due = refl
never-made (b ∷ s) due = rw (never-lies b)

tails : (n : ℕ) → due_from n tail ≡ replicate n tail
unfolding due_from
tails zero = refl
tails (suc n) = refl

-- where `due` was due and b comes, `left` is due then
abbrev pub Leaves : List Range → ℕ → List Range → Type 0
Leaves due b left = (s : List ℕ) → well_formed s left ≡ well_formed (b ∷ s) due

module _ (r : Range) (b : ℕ) {left : List Range} where
  pub next-first : (more : ℕ) → more ≡ 0 → left ≡ due_after table37 b → Leaves (due_from more r) b left
  unfolding well_formed due_from
  next-first more z e s = rw (e, z)

  pub next-refused : (more : ℕ) → (more ≡ 0 → ⊥) → lies r b ≡ false → left ≡ due_from 1 never → Leaves (due_from more r) b left
  unfolding well_formed due_from
  next-refused zero h o e s = absurd (h refl)
  next-refused (suc m) h o e s = rw (e, o) (never-made s [])

  pub next-taken : (more : ℕ) → (more ≡ 0 → ⊥) → lies r b ≡ true → left ≡ due_from (more - 1) tail → Leaves (due_from more r) b left
  unfolding well_formed due_from
  next-taken zero h i e s = absurd (h refl)
  next-taken (suc m) h i e s =
      let z : suc m - 1 ≡ m = omega arith in
      rw (i, e, z) (ap (well_formed s) (tails m))

-- ---- a text read so far

-- behind the first i bytes d is due
pub record Read (s : List ℕ) (d : Due) (i : ℕ) : Type 0 where
  pub within : i ≤ length s
  pub goes : well_formed (drop i s) (due_list d) ≡ valid_utf8 s

-- what stands from i on is judged as the whole is
abbrev pub AsWhole : List ℕ → ℕ → Type 0
AsWhole s i = (i ≤ length s) × (valid_utf8 (drop i s) ≡ valid_utf8 s)

pub read-start : (s : List ℕ) (low high i : ℕ) → AsWhole s i → Read s (record { more = 0; low = low; high = high }) i
unfolding valid_utf8 due_from
read-start s low high i w = record { within = w.0; goes = w.1 }

pub read_more : (s : List ℕ) (d e : Due) (i : ℕ) → Read s d i → i < length s
    → Leaves (due_list d) (get_or s i 0) (due_list e) → Read s e (i + 1)
read_more s d e i r h q =
    record { within = omega arith; goes = rw (add-one i) (q (drop (suc i) s) ∙ (rw (drop-cons s i 0 h) at r.goes)) }

none_left : (m : ℕ) (r : Range) → eqb m 0 ≡ well_formed [] (due_from m r)
unfolding well_formed due_from
none_left zero r = refl
none_left (suc m) r = eqb-suc-zero m

pub read_done : (s : List ℕ) (d : Due) (i : ℕ) → Read s d i → length s ≤ i → eqb d.more 0 ≡ valid_utf8 s
read_done s d i r h = none_left d.more (d.low to d.high) ∙ (rw (drop_of_length-le s h) at r.goes)

-- ---- texts that are valid

-- behind a valid text another stands for itself
well-append : (a b : List ℕ) (due : List Range) → well_formed a due ≡ true → well_formed (a ++ b) due ≡ valid_utf8 b
unfolding well_formed valid_utf8
well-append [] b [] e = refl
well-append [] b (r ∷ due) e = absurd (false≢true e)
well-append (x ∷ a) b [] e = well-append a b (due_after table37 x) e
well-append (x ∷ a) b (r ∷ due) e =
    let h = both (lies r x) (well_formed a due) e in
    rw h.0 (well-append a b due h.1)

pub valid-append : (a b : List ℕ) → valid_utf8 a ≡ true → valid_utf8 (a ++ b) ≡ valid_utf8 b
unfolding valid_utf8
valid-append a b e = well-append a b [] e

-- a byte below 128 is a character
pub ascii-first : (b : ℕ) (s : List ℕ) → b < 0x80 → valid_utf8 (b ∷ s) ≡ valid_utf8 s
unfolding valid_utf8 well_formed due_after
ascii-first b s h = rw (lies_in (0x00 to 0x7F) b (omega arith) (omega arith))

-- what stands from the first other byte on is judged as the whole is
pub ascii-passed : (s : List ℕ) → let i = position_or_len (ltb 127) s in (i ≤ length s) × (valid_utf8 (drop i s) ≡ valid_utf8 s)
ascii-passed s = (position-within (ltb 127) s, same s)
  where
    same : (s : List ℕ) → valid_utf8 (drop (position_or_len (ltb 127) s) s) ≡ valid_utf8 s
    same [] = refl
    same (b ∷ s) = by-test (ltb 127 b) (λ q. rw q) (λ q. let l : b < 0x80 = omega (arith, ltb-false 127 b q) in let e : 1 + position_or_len (ltb 127) s ≡ suc (position_or_len (ltb 127) s) = omega arith in rw (q, e) (same s ∙ sym (ascii-first b s l)))

pub empty-valid : valid_utf8 [] ≡ true
unfolding valid_utf8 well_formed
empty-valid = refl

-- bytes below 128 alone
abbrev pub Ascii : List ℕ → Type 0
Ascii [] = Unit {0}
Ascii (b ∷ s) = (b < 0x80) × Ascii s

pub ascii-valid : (s : List ℕ) → Ascii s → valid_utf8 s ≡ true
ascii-valid [] h = empty-valid
ascii-valid (b ∷ s) h = ascii-first b s h.0 ∙ ascii-valid s h.1
