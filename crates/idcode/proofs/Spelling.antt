-- The steps of writing an id text from its first byte, over the definitions of specs/Id.antt. Assumes nothing.
use Rattle.std.specs.Prelude.{Some}
use Prim.Native.Nat.{ℕ, zero, suc, ◌+◌, ◌-◌, ◌*◌, ◌/◌, ◌%◌, ◌^◌, ◌≤◌, ◌<◌}
use mathlib.Core.Path.{◌≡◌, refl, ◌∙◌, ap}
use mathlib.Core.List.{List, [], ◌∷◌}
use native.Mathlib.Nat.{le_refl}
use native.Mathlib.Numerals.{add-one}
use native.Mathlib.Omega.{arith}
use lib.ListN.{length, get_or, drop, set, length-drop}
use lib.Seq.{drop-cons, take_all}
use Rattle.text.specs.Texts.{spelled, put_answer, put_bytes}
use Rattle.text.proofs.Rows.{Row, row_more, row-end, Copied, copy_more, copy_done}
use Rattle.idcode.specs.Id.{text_of, id_text}
use Rattle.idcode.proofs.Laws.{text-room, text-length}

-- n bytes of the text of code are written, and what is left of it is the text of rest
pub record Spelling (code rest n : ℕ) : Type 0 where
  pub small : rest < 2 ^ 64
  pub short : length (id_text code) ≤ 10
  pub left : drop n (id_text code) ≡ id_text rest

pub spell-start : (code : ℕ) → code < 2 ^ 64 → Spelling code code 0
spell-start code h = record { small = h; short = (text-length code h).1; left = refl }

-- the text of rest: its first byte and the rest
text-first : (rest : ℕ) → id_text rest ≡ (33 + rest % 94) ∷ text_of rest (rest / 94)
unfolding text_of
text-first rest = refl

text-last : (rest : ℕ) → rest < 94 → text_of rest (rest / 94) ≡ []
unfolding text_of
text-last zero h = refl
text-last (suc m) h = let z : suc m / 94 ≡ 0 = omega arith in rw z

text-next : (rest : ℕ) → 94 ≤ rest → text_of rest (rest / 94) ≡ id_text (rest / 94 - 1)
text-next rest h =
    let n : suc (rest / 94 - 1) ≡ rest / 94 = omega arith in
    rw n (text-room rest (rest / 94) (rest / 94) (omega arith) (le_refl _))

-- its length
pub length-one : (rest : ℕ) → rest < 94 → length (id_text rest) ≡ 1
length-one rest h = rw (text-first rest, text-last rest h)

pub length_more : (rest : ℕ) → 94 ≤ rest → length (id_text rest) ≡ suc (length (id_text (rest / 94 - 1)))
length_more rest h = rw (text-first rest, text-next rest h)

module _ (code rest n : ℕ) (s : Spelling code rest n) where
  pub inside : n < length (id_text code)
  inside = let e = ap length (s.left ∙ text-first rest) in omega (arith, length-drop n (id_text code))

  next : drop n (id_text code) ≡ (33 + rest % 94) ∷ text_of rest (rest / 94)
  next = s.left ∙ text-first rest

  after : drop (n + 1) (id_text code) ≡ text_of rest (rest / 94)
  after = rw add-one (let e = drop-cons (id_text code) n 0 inside in cc next)

  here : get_or (id_text code) n 0 ≡ 33 + rest % 94
  here = let e = drop-cons (id_text code) n 0 inside in cc next

  end : rest < 94 → length (id_text code) ≤ n + 1
  end h =
      let none : length (drop (n + 1) (id_text code)) ≡ 0 = rw (after, text-last rest h) in
      omega (arith, none, length-drop (n + 1) (id_text code))

  pub spell-more : 94 ≤ rest → Spelling code (rest / 94 - 1) (n + 1)
  spell-more h = record { small = omega (arith, s.small); short = s.short; left = after ∙ text-next rest h }

  -- into a row
  pub row_next : {bytes : List ℕ} → Row (id_text code) bytes n → Row (id_text code) (set bytes n (33 + rest % 94)) (n + 1)
  row_next r = rw here at (row_more (id_text code) _ n r (omega (arith, inside, s.short)) inside)

  pub row_done : {bytes : List ℕ} → Row (id_text code) bytes n → rest < 94
      → record { bytes = set bytes n (33 + rest % 94); len = n + 1 } ≡ spelled (id_text code)
  row_done r h = row-end (id_text code) _ (n + 1) (row_next r) (end h) ∙ ap spelled (take_all 32 (id_text code) (omega (arith, s.short)))

  -- into a buffer, where the byte is what a division leaves
  left_over : 33 + (rest - 94 * (rest / 94)) ≡ 33 + rest % 94
  left_over = omega arith

  pub copy-next : {old out : List ℕ} → Copied (id_text code) old out n
      → Copied (id_text code) old (set out n (33 + (rest - 94 * (rest / 94)))) (n + 1)
  copy-next r = rw left_over (rw here at (copy_more (id_text code) _ _ n r inside))

  pub copied : {old out : List ℕ} → Copied (id_text code) old out n → rest < 94
      → (Some (n + 1) ≡ put_answer (id_text code) old) × (set out n (33 + (rest - 94 * (rest / 94))) ≡ put_bytes (id_text code) old)
  copied r h = copy_done (id_text code) _ _ (n + 1) (copy-next r) (end h)
