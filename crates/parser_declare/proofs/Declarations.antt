-- What the declarations' functions test, as their plans have it: ASCII, the parts of a timescale, a trimmed text. Assumes nothing.
use Rattle.std.specs.Prelude.{nat_lt, Option, Some, None, Ok, Err}
use Prim.Native.Nat.{ℕ, zero, suc, ◌+◌, ◌-◌, ◌≤◌, ◌<◌}
use mathlib.Core.Bool.{Bool, true, false}
use mathlib.Core.Path.{◌≡◌, refl, sym, ap, ◌∙◌}
use mathlib.Core.List.{List, [], ◌∷◌}
use native.Mathlib.Omega.{arith}
use lib.ListN.{length, take, drop, get_or, length-drop, drop_of_length-le}
use lib.Seq.{take_all}
use lib.Dec.{ltb}
use Rattle.text.specs.Texts.{part}
use Rattle.white_space.specs.WhiteSpace.{trimmed}
use Rattle.text.specs.declared.Text.{Text}
use Rattle.std.specs.Bool.{MatchBool}
use Rattle.std.specs.Str.{IsAscii, IsNotAscii}
use Rattle.text.proofs.Lists.{by-test, cond_same, take_rest}
use borrow.Author.Tests.{lt-ltb, le-ltb}
use Rattle.text.proofs.Pairs.{ok_pair, first}
use Rattle.text.proofs.Places.{part_length}
use Rattle.white_space.proofs.Trimming.{trimmed-within}
use Rattle.number.specs.Decimal.{is_digit, parse_below}
use Rattle.real.specs.Real.{digits_in}
use Rattle.number.proofs.Laws.{accepted}
use Rattle.token.specs.Read.{Reading, most, Valid, text_from}
use Rattle.token.specs.declared.Cursor.{Cursor}
use Rattle.parser_part.specs.Plan.{a_word, run, is_ascii, scaled, unit_in}
use Rattle.parser_part.specs.Parts.{word_from, number_at, number_of_token, number_from}
use Rattle.parser_part.proofs.Parts.{parts}
use Rattle.parser_part.proofs.Kept.{text-inside}

-- ---- ASCII
ascii-yes : (s : List ℕ) → IsAscii s → true ≡ is_ascii s
unfolding is_ascii
ascii-yes [] h = refl
ascii-yes (b ∷ s) h = let a : b < 128 = h 0 in rw (lt-ltb b 128 a) (ascii-yes s (λ i. h (suc i)))

ascii-no : (s : List ℕ) (i : ℕ) → 128 ≤ get_or s i 0 → false ≡ is_ascii s
unfolding is_ascii
ascii-no [] i h = absurd (omega arith)
ascii-no (b ∷ s) zero h = rw (le-ltb b 128 h)
ascii-no (b ∷ s) (suc i) h = rw (← ascii-no s i h) (sym (cond_same (nat_lt b 128) false))

pub ascii-is : (s : List ℕ) (r : Bool) → MatchBool r (IsAscii s) (IsNotAscii s) → r ≡ is_ascii s
ascii-is s true h = ascii-yes s h
ascii-is s false h = ascii-no s h.0 h.1

-- ---- the quantity and the unit of a timescale
digits-taken : (w : List ℕ) → take (length (digits_in w)) w ≡ digits_in w
unfolding digits_in
digits-taken [] = refl
digits-taken (b ∷ w) = by-test (is_digit b) (λ e. rw e (ap (λ (l : List ℕ). b ∷ l) (digits-taken w))) (λ e. rw e)

unit-some : (q r : List ℕ) → 0 < length r → scaled q r ≡ unit_in q r
unit-some q [] h = absurd (omega arith)
unit-some q (b ∷ r) h = refl

module _ (w : List ℕ) (n : ℕ) (e : n ≡ length (digits_in w)) (s : List ℕ) (c : Cursor) where
  -- the first token w has n digits: what stands after them is the unit
  pub unit_behind : n < length w
      → run (unit_in (digits_in w) (drop (length (digits_in w)) w)) s c ≡ run (scaled (take n w) (take (length w - n) (drop n w))) s c
  unit_behind h =
      rw (take_rest w n, e, digits-taken w)
      (ap (λ p. run p s c) (sym (unit-some (digits_in w) (drop (length (digits_in w)) w) (omega (arith, length-drop (length (digits_in w)) w)))))

  -- only digits: the unit is a token of its own
  pub unit_apart : length w ≤ n → run (unit_in (digits_in w) (drop (length (digits_in w)) w)) s c ≡ run (a_word (most 8) (λ t u. scaled w u)) s c
  unit_apart h =
      let all : w ≡ digits_in w = sym (take_all n w h) ∙ rw e (digits-taken w) in
      let le : length w ≤ length (digits_in w) = omega arith in
      rw (drop_of_length-le w le, ← all)

pub ruleset units = (parts, unit_behind, unit_apart)

-- ---- a number that was read is below its limit
pub number_small : (s : List ℕ) (c : Cursor) (limit : ℕ) {x : ℕ} {d : Cursor} → number_from s c limit ≡ Ok (x, d) → x < limit
unfolding number_from
number_small s c limit {x} {d} e = go (word_from s c (most 32)) e
  where
    at : (n : Option ℕ) (w : List ℕ) (b : Cursor) → parse_below limit w ≡ n → number_at n b ≡ Ok (x, d) → x < limit
    at (Some y) w b p h = let q : y ≡ x = first (ok_pair h) in rw q at (accepted limit y w p)
    at None w b p h = let z : ◌≡◌ {A = ℕ} 0 1 = cc in omega arith

    go : (k : Reading Text) → number_of_token s limit k ≡ Ok (x, d) → x < limit
    go (Ok (t, b)) h = at (parse_below limit (part s t)) (part s t) b refl h
    go (Err (r, b)) h = let z : ◌≡◌ {A = ℕ} 0 1 = cc in omega arith

-- ---- what trimming leaves of a text lies in the input
pub trimmed_inside : {s : List ℕ} {c : Cursor} → Valid s c → {t : Text} {d : Cursor} → text_from s c ≡ Ok (t, d) → t.start + (trimmed (part s t)).start ≤ length s
trimmed_inside {s} {c} v {t} e =
    let inside : t.start + t.len ≤ length s = text-inside s c v e in
    omega (arith, trimmed-within (part s t), part_length s t inside)
