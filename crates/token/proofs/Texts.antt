-- Laws of texts: reading over some bytes, and up to the first mark.
use Rattle.std.specs.Prelude.{Some, None, Ok, Err}
use Prim.Native.Nat.{ℕ, ◌+◌, ◌-◌, ◌≤◌, ◌<◌}
use mathlib.Core.Path.{◌≡◌, refl, sym, ap, ◌∙◌}
use mathlib.Core.Bool.{true, false}
use mathlib.Core.List.{List, [], ◌∷◌}
use native.Mathlib.Omega.{arith}
use lib.ListN.{length, take, drop, length-take, length-drop}
use lib.Seq.{take-add, length-take-le}
use Rattle.text.specs.Bytes.{starts, holds, up_to}
use Rattle.text.specs.Texts.{limit}
use Rattle.command.specs.Words.{end_mark}
use Rattle.command.specs.Words.{first_end}
use Rattle.text.proofs.Lists.{by-test, neither, take_rest}
use Rattle.text.proofs.Equal.{starts-equal, starts-long, equal-true}
use Rattle.command.specs.declared.Refusal.TheVariants.{UnexpectedEof}
use Rattle.token.specs.Read.{Valid, end_read, after, rest, text_to, text_from}
use Rattle.token.specs.declared.Cursor.{Cursor}
use Rattle.token.proofs.Reading.{place_after, after-append, valid-after, up_to-le}
use Rattle.token.proofs.Tokens.{from_front}

-- ---- reading up to a place
abbrev pub read_to : List ℕ → Cursor → ℕ → Cursor
read_to s c end = after (take (end - c.place) (rest s c)) c

-- before the next of these bytes
pub over-next : (s : List ℕ) (c d : Cursor) (end k : ℕ) → Valid s c → d ≡ after (take k (take (end - c.place) (rest s c))) c
    → k < length (take (end - c.place) (rest s c)) → (d.place < limit) × (d.line ≤ limit + 1)
over-next s c d end k v e h =
    let l : List ℕ = take (end - c.place) (rest s c) in
    let n : length (take k l) ≡ k = length-take-le k l (omega arith) in
    let room = length-take (end - c.place) (rest s c) in
    let left = length-drop c.place s in
    let x = valid-after s (take k l) c v (omega (arith, v.within)) in
    rw e (omega (arith, x, place_after (take k l) c, v.within), omega (arith, x))

pub over-valid : (s : List ℕ) (c : Cursor) (end : ℕ) → Valid s c → Valid s (read_to s c end)
over-valid s c end v = (from_front s (rest s c) c (end - c.place) v (omega arith)).valid

-- ---- the first mark: it stands after the bytes before it, or they are all
mark-at : (m r : List ℕ) → starts m (drop (length (up_to m r)) r) ≡ holds m r
unfolding up_to holds
mark-at m [] = refl
mark-at m (b ∷ r) = by-test (starts m (b ∷ r)) (λ e. rw (e, e)) (λ e. rw e (mark-at m r))

up_to-front : (m r : List ℕ) → take (length (up_to m r)) r ≡ up_to m r
unfolding up_to
up_to-front m [] = refl
up_to-front m (b ∷ r) =
    by-test (starts m (b ∷ r)) (λ e. rw e) (λ e. rw e (ap (λ (l : List ℕ). b ∷ l) (up_to-front m r)))

up_to-all : (m r : List ℕ) → holds m r ≡ false → up_to m r ≡ r
unfolding up_to holds
up_to-all m [] e = refl
up_to-all m (b ∷ r) e =
    let n = neither (starts m (b ∷ r)) (holds m r) e in
    rw n.0 (ap (λ (l : List ℕ). b ∷ l) (up_to-all m r n.1))

starts-front : (m r : List ℕ) → starts m r ≡ true → take (length m) r ≡ m
starts-front m r e = equal-true (take (length m) r) m (sym (starts-equal m r) ∙ e)

-- ---- what `find_end` answers
module _ (s : List ℕ) (c : Cursor) (v : Valid s c) where
  -- with a mark it is read too, and there is room for it
  pub text-found : (len : ℕ) → Some len ≡ first_end (rest s c)
      → (c.place + len + 4 ≤ length s) × (Ok (record { start = c.place; len = len }, read_to s c (c.place + len + 4)) ≡ text_from s c)
  unfolding first_end text_from text_to
  text-found len e =
      by-test (holds end_mark (rest s c))
      (λ h.
      let l = up_to end_mark (rest s c) in
      let same : len ≡ length l = let f = rw h at e in cc in
      let mark : starts end_mark (drop (length l) (rest s c)) ≡ true = mark-at end_mark (rest s c) ∙ h in
      let all : c.place + length l + 4 - c.place ≡ length l + 4 = omega arith in
      let left = length-drop (length l) (rest s c) in
      let room = length-drop c.place s in
      rw same (
        omega (arith, starts-long end_mark _ mark, up_to-le end_mark (rest s c), v.within),
        rw (mark, all, take-add (length l) 4 (rest s c), up_to-front end_mark (rest s c), starts-front end_mark _ mark, after-append),
      ))
      (λ h. absurd (let f = rw h at e in let z : ◌≡◌ {A = ℕ} 0 1 = cc in omega arith))

  -- with none all is read
  pub text-lost : None ≡ first_end (rest s c) → Err (UnexpectedEof, end_read (read_to s c (length s))) ≡ text_from s c
  unfolding first_end text_from text_to
  text-lost e =
      by-test (holds end_mark (rest s c))
      (λ h. absurd (let f = rw h at e in let z : ◌≡◌ {A = ℕ} 0 1 = cc in omega arith))
      (λ h. rw (mark-at end_mark (rest s c), h, up_to-all end_mark (rest s c) h, take_rest))
