-- What the written parts are to a reader of tokens: names, numbers, ids and indexes are tokens of at most 32 bytes, and ASCII. Assumes nothing.
use Prim.Native.Nat.{ℕ, suc, ◌^◌, ◌≤◌, ◌<◌}
use mathlib.Core.Path.{◌≡◌, refl}
use mathlib.Core.Bool.{true, false}
use mathlib.Core.List.{List, [], ◌∷◌}
use native.Mathlib.Omega.{arith}
use lib.ListN.{length}
use Rattle.text.specs.Bytes.{is_blank, no_blank, is_token}
use Rattle.utf8.specs.Utf8.{valid_utf8}
use Rattle.text.proofs.Blanks.{blank-no}
use Rattle.text.proofs.Lists.{cond_both}
use Rattle.text.proofs.Each.{Each}
use Rattle.text.proofs.Names.{Name}
use Rattle.utf8.proofs.WellFormed.{Ascii, ascii-valid}
use Rattle.number.specs.Decimal.{is_digit, all_digits, decimal_of}
use Rattle.number.proofs.Laws.{digit-range}
use Rattle.number.proofs.Writing.{digits_decimal, short, some}
use Rattle.idcode.specs.Id.{is_id_byte, all_id, id_text}
use Rattle.idcode.proofs.Laws.{id_range, text-good, text-length}

-- ASCII and no whitespace, as the bytes 33 to 126 are
abbrev pub Printed : ℕ → Type 0
Printed b = (b < 0x80) × (is_blank b ≡ false)

pub printed : (b : ℕ) → 33 ≤ b → b ≤ 126 → Printed b
printed b h g = (omega arith, blank-no b (λ q. omega arith) (λ q. omega arith) (λ q. omega arith) (λ q. omega arith))

solid : (w : List ℕ) → Each Printed w → no_blank w ≡ true
unfolding no_blank
solid [] e = refl
solid (b ∷ w) e = rw e.0.1 (solid w e.1)

ascii : (w : List ℕ) → Each Printed w → Ascii w
ascii [] e = tt
ascii (b ∷ w) e = (e.0.0, ascii w e.1)

token-of : (w : List ℕ) → 0 < length w → Each Printed w → is_token w ≡ true
unfolding is_token
token-of [] l e = absurd (omega arith)
token-of (b ∷ w) l e = solid (b ∷ w) e

-- what a reader of words asks for
pub record Plain (w : List ℕ) : Type 0 where
  pub token : is_token w ≡ true
  pub utf8 : valid_utf8 w ≡ true
  pub short : length w ≤ 32

pub plain : (w : List ℕ) → 0 < length w → length w ≤ 32 → Each Printed w → Plain w
plain w l u e = record { token = token-of w l e; utf8 = ascii-valid w (ascii w e); short = u }

pub plain-name : (w : List ℕ) → Name w → Plain w
plain-name w n = plain w n.some (omega (arith, n.short)) n.plain

-- ---- numbers
pub printed-digits : (w : List ℕ) → all_digits w ≡ true → Each Printed w
unfolding all_digits
printed-digits [] e = tt
printed-digits (b ∷ w) e =
    let h = cond_both (is_digit b) (all_digits w) e in
    let r = digit-range b h.0 in
    (printed b (omega (arith, r.0)) (omega (arith, r.1)), printed-digits w h.1)

pub plain-number : (n : ℕ) → n < 2 ^ 64 → Plain (decimal_of n)
plain-number n h = plain (decimal_of n) (some n) (omega (arith, short 19 n (omega arith))) (printed-digits (decimal_of n) (digits_decimal n))

-- ---- ids
printed-ids : (w : List ℕ) → all_id w ≡ true → Each Printed w
unfolding all_id
printed-ids [] e = tt
printed-ids (b ∷ w) e =
    let h = cond_both (is_id_byte b) (all_id w) e in
    let r = id_range b h.0 in
    (printed b r.0 r.1, printed-ids w h.1)

pub plain-id : (i : ℕ) → i < 2 ^ 64 → Plain (id_text i)
plain-id i h =
    let l = text-length i h in
    plain (id_text i) l.0 (omega (arith, l.1)) (printed-ids (id_text i) (text-good (suc i) (suc i)))
