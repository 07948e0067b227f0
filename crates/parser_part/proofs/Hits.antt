-- Where the fast path hits at the cursor, the slow path reads the same: the word, the cursor after its blank, and what it means. Assumes nothing.
use Rattle.std.proofs.Common.{◌≡◌, ℕ, ◌+◌, ◌-◌, ◌^◌, ◌<◌, ◌≤◌, true, false, cond, ltb, List, length, get_or, drop, sym, ap, ◌∙◌, le_refl, add-zero, arith, length-take, get_or-drop, take_all, ltb-true, Some, Ok}
use Rattle.text.specs.Bytes.{is_blank}
use Rattle.text.specs.Texts.{part}
use Rattle.utf8.specs.Utf8.{valid_utf8}
use Rattle.text.specs.declared.Text.{Text}
use Rattle.text.proofs.Lists.{cond_both}
use Rattle.number.specs.Decimal.{parse_below}
use Rattle.idcode.specs.Id.{parse_id}
use Rattle.idcode.specs.declared.IdCode.{IdCode}
use Rattle.token.specs.Read.{Valid, most, rest, word, token}
use Rattle.token.specs.Flat.{word_read, first_passed}
use Rattle.token.specs.declared.Cursor.{Cursor}
use Rattle.token.proofs.Reading.{skip_stop}
use Rattle.token.proofs.Words.{word_in, word-front, here-text}
use Rattle.parser_part.specs.Parts.{word_from, number_from, id_from}
use Rattle.parser_part.specs.FastWord.{Whole, ends_at}

-- some bytes, and a blank after them
pub ends-true : (s : List ℕ) (at e : ℕ) → ends_at s at e ≡ true → (at < e) × (e < length s) × (is_blank (get_or s e 0) ≡ true)
ends-true s at e h =
    let p = cond_both (ltb at e) (cond (ltb e (length s)) (is_blank (get_or s e 0)) false) h in
    let q = cond_both (ltb e (length s)) (is_blank (get_or s e 0)) p.1 in
    (ltb-true at e p.0, ltb-true e (length s) q.0, q.1)

-- ---- a word at the cursor
-- the word that starts at q is UTF-8 and ends before e, where a blank stands
pub record Lone (s : List ℕ) (q e : ℕ) : Type 0 where
  pub some : q < e
  pub inside : e < length s
  pub long : q + length (word (drop q s)) ≡ e
  pub ended : is_blank (get_or s e 0) ≡ true
  pub text : valid_utf8 (word (drop q s)) ≡ true

pub whole-lone : {s : List ℕ} {q e : ℕ} → Whole s q e → Lone s q e
whole-lone w = record { some = w.some; inside = w.inside; long = w.long; ended = w.ended; text = w.text }

abbrev pub text_at : ℕ → ℕ → Text
text_at q e = record { start = q; len = e - q }

-- within a limit
module _ {s : List ℕ} {c : Cursor} (v : Valid s c) {e : ℕ} (w : Lone s c.place e) (n : ℕ) (few : e ≤ c.place + n) where
  -- no blank stands at the cursor
  first : is_blank (get_or s c.place 0) ≡ false
  first =
      let k : is_blank (get_or (rest s c) 0 0) ≡ false = word_in (rest s c) 0 (omega (arith, w.some, w.long)) in
      let p : get_or (rest s c) 0 0 ≡ get_or s c.place 0 = get_or-drop c.place s 0 0 ∙ ap (λ (i : ℕ). get_or s i 0) (add-zero c.place) in
      ap is_blank (sym p) ∙ k

  long : e ≡ c.place + length (first_passed (most n) (rest s c))
  unfolding first_passed
  long = omega (arith, length-take n (word (rest s c)), w.long)

  pub word-here : token s c (most n) ≡ Ok (text_at c.place e, word_read c e (get_or s e 0))
  unfolding token
  word-here =
      let k : c.place < length s = omega (arith, w.some, w.inside) in
      rw (skip_stop s c k first) (sym (here-text s c (most n) e v long w.inside w.ended))

  pub word-part : part s (text_at c.place e) ≡ word (rest s c)
  unfolding part
  word-part =
      let k : e - c.place ≡ length (word (rest s c)) = omega (arith, w.long) in
      rw k
      (sym (word-front (rest s c) (length (word (rest s c))) (le_refl _))
      ∙ take_all (length (word (rest s c))) (word (rest s c)) (le_refl _))

-- ---- a hit
module _ (s : List ℕ) (c : Cursor) (v : Valid s c) (e : ℕ) (w : Whole s c.place e) where
  abbrev t : Text
  t = text_at c.place e

  abbrev d : Cursor
  d = word_read c e (get_or s e 0)

  bytes : word (rest s c) ≡ part s t
  bytes = sym (word-part v (whole-lone w) 32 w.few)

  judged : word_from s c (most 32) ≡ Ok (t, d)
  unfolding word_from
  judged = let u : valid_utf8 (part s t) ≡ true = rw (← bytes) w.text in rw (word-here v (whole-lone w) 32 w.few, u)

  -- what the slow path reads, where `next` is the cursor that the code makes
  module _ (next : Cursor) (n : next ≡ d) where
    pub number_hit : (x : ℕ) → parse_below (2 ^ 64) (word (rest s c)) ≡ Some x → number_from s c (2 ^ 64) ≡ Ok (x, next)
    unfolding number_from
    number_hit x p = rw (n, judged, ← bytes, p)

    pub id_hit : (i : IdCode) → parse_id (word (rest s c)) ≡ Ok i → id_from s c ≡ Ok (i, next)
    unfolding id_from
    id_hit i p = rw (n, judged, ← bytes, p)
