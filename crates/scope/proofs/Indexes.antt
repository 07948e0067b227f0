-- Laws of indexes: the text of one is read back as itself, what that text is like, and what a text can be read as.
use Rattle.std.specs.Prelude.{Option, Some, None}
use Prim.Native.Nat.{ℕ, suc, ◌+◌, ◌-◌, ◌≤◌, ◌<◌}
use mathlib.Core.Path.{◌≡◌, refl, sym, ap}
use mathlib.Core.Bool.{true, false, ◌&&◌}
use mathlib.Core.List.{List, [], ◌∷◌, ◌++◌, append-nil}
use native.Mathlib.Omega.{arith}
use borrow.Author.Tests.{eq-eqb, ne_eqb}
use lib.Dec.{eqb, lit≤}
use lib.IntN.{ℤ, pos, negsuc}
use lib.ListN.{length, take, drop, get_or, length-append}
use lib.Seq.{take-length, take-append_seam, get_or-append_seam, drop-append-add}
use mir.Syntax.{w32}
use mir.Val.{SFits}
use Rattle.text.specs.Bytes.{bytes, is_blank, starts}
use Rattle.text.specs.Texts.{part}
use Rattle.white_space.specs.WhiteSpace.{blanks, all_white, kept_of}
use Rattle.white_space.proofs.Blank.{blank_none, none as none_here}
use Rattle.text.proofs.Blanks.{blank-no}
use Rattle.text.proofs.Lists.{by-test, cond_both}
use Rattle.text.proofs.Each.{Each, each_append, each_map}
use Rattle.number.specs.Decimal.{is_digit, all_digits, signed_of}
use Rattle.number.proofs.Laws.{digit-range}
use Rattle.number.proofs.Writing.{digits_decimal}
use Rattle.number.proofs.Signs.{signed-some, signed-short, read-signed}
use Rattle.scope.specs.Index.{padded, bit, range, up_to_byte, parse_inside, parse_index, index_text, SizedIndex}
use Rattle.scope.specs.declared.ReferenceIndex.{ReferenceIndex}
use Rattle.scope.proofs.Splitting.{padded-fits}

-- an index is given; its numbers have 32 bits
abbrev pub Given : ReferenceIndex → Type 0
Given ReferenceIndex.None = ⊥
Given (ReferenceIndex.BitSelect a) = Unit {0}
Given (ReferenceIndex.Range a b) = Unit {0}

-- ---- each byte of a text
-- the bytes from 33 to 126; those of a number, with or without a sign
abbrev Inked : ℕ → Type 0
Inked b = (33 ≤ b) × (b ≤ 126)

abbrev OfNumber : ℕ → Type 0
OfNumber b = (45 ≤ b) × (b ≤ 57)

digits-each : (w : List ℕ) → all_digits w ≡ true → Each OfNumber w
unfolding all_digits
digits-each [] e = tt
digits-each (b ∷ w) e =
    let h = cond_both (is_digit b) (all_digits w) e in
    let r = digit-range b h.0 in
    (omega arith, digits-each w h.1)

signed-each : (z : ℤ) → Each OfNumber (signed_of z)
signed-each (pos n) = digits-each _ (digits_decimal n)
signed-each (negsuc n) = ((lit≤ tt, lit≤ tt), digits-each _ (digits_decimal (suc n)))

signed-inked : (z : ℤ) → Each Inked (signed_of z)
signed-inked z = each_map OfNumber Inked (λ b h. omega arith) (signed_of z) (signed-each z)

-- ---- a number has nothing to trim
none_first : (w : List ℕ) → Each Inked w → blanks 0 w ≡ 0
unfolding blanks
none_first [] h = refl
none_first (b ∷ s) h = none_here (b ∷ s) (sym (blank_none (b ∷ s) (omega (arith, h.0.0, h.0.1)) (omega (arith, h.0.0, h.0.1))))

all-kept : (w : List ℕ) → Each Inked w → kept_of w ≡ length w
unfolding kept_of all_white
all-kept [] h = refl
all-kept (b ∷ s) h = rw (none_first (b ∷ s) h, ne_eqb 0 (suc (length s)) (λ z. omega arith), all-kept s h.1)

number-back : (z : ℤ) → SFits w32 z → padded (signed_of z) ≡ Some z
unfolding padded part
number-back z f =
    let w : List ℕ = signed_of z in
    let e = signed-inked z in
    rw (none_first w e, all-kept w e, ne_eqb (length w) 0 (λ q. omega (arith, signed-some z)), take-length w) (read-signed z f)

-- ---- the text of an index is read back as itself
past : (x : ℕ) (r a : List ℕ) → Each (λ b. b ≡ x → ⊥) a → up_to_byte x (a ++ r) ≡ a ++ up_to_byte x r
unfolding up_to_byte
past x r [] h = refl
past x r (b ∷ a) h = rw (ne_eqb b x h.0) (ap (λ (l : List ℕ). b ∷ l) (past x r a h.1))

no-colon : (z : ℤ) → Each (λ b. b ≡ 58 → ⊥) (signed_of z)
no-colon z = each_map OfNumber (λ b. b ≡ 58 → ⊥) (λ b h q. omega arith) (signed_of z) (signed-each z)

bracketed : (m : List ℕ) → parse_index (bytes "[" ++ (m ++ bytes "]")) ≡ parse_inside m
unfolding parse_index
bracketed m =
    let n : length (m ++ 93 ∷ []) - 1 ≡ length m = omega (arith, length-append m (93 ∷ [])) in
    rw (n, get_or-append_seam m 93 [] 0, take-append_seam m (93 ∷ []))

pub read-index : (x : ReferenceIndex) → Given x → SizedIndex x → parse_index (index_text x) ≡ Some x
unfolding parse_inside up_to_byte
read-index ReferenceIndex.None g f = absurd g
read-index (ReferenceIndex.BitSelect a) g f =
    let w : List ℕ = signed_of a in
    let all : up_to_byte 58 w ≡ w = rw append-nil at (past 58 [] w (no-colon a)) in
    rw (bracketed w, all, eq-eqb (length w) (length w) refl, number-back a f)
read-index (ReferenceIndex.Range a b) g f =
    let w : List ℕ = signed_of a in
    let m : List ℕ = w ++ (bytes ":" ++ signed_of b) in
    let front : up_to_byte 58 m ≡ w = rw append-nil at (past 58 (58 ∷ signed_of b) w (no-colon a)) in
    let longer : length w ≡ length m → ⊥ = λ z. omega (arith, length-append w (58 ∷ signed_of b)) in
    rw (bracketed m, front, ne_eqb (length w) (length m) longer, drop-append-add w (58 ∷ signed_of b) 1, number-back a f.0, number-back b f.1)

-- ---- what the text of an index is like: at most 25 bytes, each of them ASCII and no whitespace, the first a `[` where there is an index
-- two numbers with the colon between them
abbrev pub pair : ℤ → ℤ → List ℕ
pair a b = signed_of a ++ (bytes ":" ++ signed_of b)

pub pair-length : (a b : ℤ) → SFits w32 a → SFits w32 b → length (pair a b) ≤ 23
pair-length a b f g = omega (arith, length-append (signed_of a) (bytes ":" ++ signed_of b), signed-short a f, signed-short b g)

pub index-length : (x : ReferenceIndex) → SizedIndex x → length (index_text x) ≤ 25
index-length ReferenceIndex.None f = omega arith
index-length (ReferenceIndex.BitSelect a) f = omega (arith, length-append (signed_of a) (bytes "]"), signed-short a f)
index-length (ReferenceIndex.Range a b) f = omega (arith, length-append (pair a b) (bytes "]"), pair-length a b f.0 f.1)

index-inked : (x : ReferenceIndex) → Each Inked (index_text x)
index-inked ReferenceIndex.None = tt
index-inked (ReferenceIndex.BitSelect a) =
    ((lit≤ tt, lit≤ tt), each_append Inked (signed_of a) (bytes "]") (signed-inked a) ((lit≤ tt, lit≤ tt), tt))
index-inked (ReferenceIndex.Range a b) =
    let inside : Each Inked (pair a b) = each_append Inked (signed_of a) (bytes ":" ++ signed_of b) (signed-inked a) ((lit≤ tt, lit≤ tt), signed-inked b) in
    ((lit≤ tt, lit≤ tt), each_append Inked (pair a b) (bytes "]") inside ((lit≤ tt, lit≤ tt), tt))

pub index-plain : (x : ReferenceIndex) → Each (λ b. (b < 0x80) × (is_blank b ≡ false)) (index_text x)
index-plain x =
    each_map Inked (λ b. (b < 0x80) × (is_blank b ≡ false))
    (λ b h. (omega arith, blank-no b (λ q. omega arith) (λ q. omega arith) (λ q. omega arith) (λ q. omega arith)))
    (index_text x) (index-inked x)

pub index-begins : (x : ReferenceIndex) → Given x → starts (bytes "[") (index_text x) ≡ true
unfolding starts
index-begins ReferenceIndex.None g = absurd g
index-begins (ReferenceIndex.BitSelect a) g = refl
index-begins (ReferenceIndex.Range a b) g = refl

-- ---- what a text is read as: an index, and its numbers have 32 bits
one-read : (x : ReferenceIndex) (s : List ℕ) (n : Option ℤ) → padded s ≡ n → bit n ≡ Some x → Given x × SizedIndex x
one-read x s (Some a) p e = let q : ReferenceIndex.BitSelect a ≡ x = cc in rw (sym q) (tt, padded-fits s a p)
one-read x s None p e = absurd (let z : ◌≡◌ {A = ℕ} 0 1 = cc in omega arith)

two-read : (x : ReferenceIndex) (s t : List ℕ) (n m : Option ℤ) → padded s ≡ n → padded t ≡ m → range n m ≡ Some x → Given x × SizedIndex x
two-read x s t (Some a) (Some b) p q e =
    let i : ReferenceIndex.Range a b ≡ x = cc in rw (sym i) (tt, (padded-fits s a p, padded-fits t b q))
two-read x s t (Some a) None p q e = absurd (let z : ◌≡◌ {A = ℕ} 0 1 = cc in omega arith)
two-read x s t None m p q e = absurd (let z : ◌≡◌ {A = ℕ} 0 1 = cc in omega arith)

inside-read : (x : ReferenceIndex) (m : List ℕ) → parse_inside m ≡ Some x → Given x × SizedIndex x
unfolding parse_inside
inside-read x m e =
    by-test (eqb (length (up_to_byte 58 m)) (length m)) (λ q. one-read x m (padded m) refl (rw q at e))
    (λ q. two-read x (up_to_byte 58 m) (drop (length (up_to_byte 58 m) + 1) m) _ _ refl refl (rw q at e))

pub index_read : (x : ReferenceIndex) (s : List ℕ) → parse_index s ≡ Some x → Given x × SizedIndex x
unfolding parse_index
index_read x [] e = absurd (let z : ◌≡◌ {A = ℕ} 0 1 = cc in omega arith)
index_read x (b ∷ r) e =
    by-test (eqb b 91 && eqb (get_or r (length r - 1) 0) 93) (λ q. inside-read x (take (length r - 1) r) (rw q at e))
    (λ q. absurd (let f = rw q at e in let z : ◌≡◌ {A = ℕ} 0 1 = cc in omega arith))
