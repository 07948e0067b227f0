-- The cursors after the parts that the code reads are valid, and their texts lie in the input. Assumes nothing.
use Rattle.std.proofs.Common.{◌≡◌, ℕ, ◌+◌, ◌≤◌, List, length, sym, ◌∙◌, Option, Some, None, Result, Ok, Err}
use Rattle.text.specs.Texts.{part}
use Rattle.utf8.specs.Utf8.{valid_utf8}
use Rattle.text.specs.declared.Text.{Text}
use Rattle.text.proofs.Lists.{by-test}
use Rattle.number.specs.Decimal.{parse_below}
use Rattle.idcode.specs.Id.{parse_id}
use Rattle.idcode.specs.declared.IdCode.{IdCode}
use Rattle.idcode.specs.declared.InvalidIdCode.{InvalidIdCode}
use Rattle.token.specs.Read.{Reading, Bound, most, Valid, token, text_from}
use Rattle.token.specs.declared.Cursor.{Cursor}
use Rattle.token.proofs.Reading.{From}
use Rattle.token.proofs.Tokens.{Kept, token-kept, text-kept}
use Rattle.parser_part.specs.Parts.{judged, word_from, number_at, number_of_token, number_from, id_at, id_of_token, id_from}

abbrev NumberKept : List ℕ → Cursor → Reading ℕ → Type 0
NumberKept s c (Ok (v, d)) = From s c d
NumberKept s c (Err (e, d)) = From s c d

abbrev IdKept : List ℕ → Cursor → Reading IdCode → Type 0
IdKept s c (Ok (i, d)) = From s c d
IdKept s c (Err (e, d)) = From s c d

module _ (s : List ℕ) (c : Cursor) (v : Valid s c) where
  pub word_kept : (n : Bound) → Kept s c (word_from s c n)
  unfolding word_from
  word_kept n = go (token s c n) (token-kept s c n v)
    where
      go : (k : Reading Text) → Kept s c k → Kept s c (judged s k)
      go (Ok (t, d)) q = by-test (valid_utf8 (part s t)) (λ e. rw e q) (λ e. rw e q.0)
      go (Err (e, d)) q = q

  number-kept : (limit : ℕ) → NumberKept s c (number_from s c limit)
  unfolding number_from
  number-kept limit = go (word_from s c (most 32)) (word_kept (most 32))
    where
      at : (n : Option ℕ) (d : Cursor) → From s c d → NumberKept s c (number_at n d)
      at (Some x) d f = f
      at None d f = f

      go : (k : Reading Text) → Kept s c k → NumberKept s c (number_of_token s limit k)
      go (Ok (t, d)) q = at (parse_below limit (part s t)) d q.0
      go (Err (e, d)) q = q

  id-kept : IdKept s c (id_from s c)
  unfolding id_from
  id-kept = go (word_from s c (most 32)) (word_kept (most 32))
    where
      at : (p : Result IdCode InvalidIdCode) (d : Cursor) → From s c d → IdKept s c (id_at p d)
      at (Ok i) d f = f
      at (Err e) d f = f

      go : (k : Reading Text) → Kept s c k → IdKept s c (id_of_token s k)
      go (Ok (t, d)) q = at (parse_id (part s t)) d q.0
      go (Err (e, d)) q = q

  pub text-valid : {t : Text} {d : Cursor} → text_from s c ≡ Ok (t, d) → Valid s d
  text-valid e = (rw e at (text-kept s c v)).0.valid

  pub text-inside : {t : Text} {d : Cursor} → text_from s c ≡ Ok (t, d) → t.start + t.len ≤ length s
  text-inside e = (rw e at (text-kept s c v)).1.inside

-- the cursor after a part, from what the code's part answers
module _ {s : List ℕ} {c : Cursor} (v : Valid s c) where
  pub token-next : (n : Bound) {k : Reading Text} → k ≡ token s c n → {t : Text} {d : Cursor} → k ≡ Ok (t, d) → Valid s d
  token-next n q e = (rw (sym q ∙ e) at (token-kept s c n v)).0.valid

  pub word_next : (n : Bound) {k : Reading Text} → k ≡ word_from s c n → {t : Text} {d : Cursor} → k ≡ Ok (t, d) → Valid s d
  word_next n q e = (rw (sym q ∙ e) at (word_kept s c v n)).0.valid

  pub number-next : (limit : ℕ) {k : Reading ℕ} → k ≡ number_from s c limit → {x : ℕ} {d : Cursor} → k ≡ Ok (x, d) → Valid s d
  number-next limit q e = (rw (sym q ∙ e) at (number-kept s c v limit)).valid

  pub id_next : {k : Reading IdCode} → k ≡ id_from s c → {i : IdCode} {d : Cursor} → k ≡ Ok (i, d) → Valid s d
  id_next q e = (rw (sym q ∙ e) at (id-kept s c v)).valid
