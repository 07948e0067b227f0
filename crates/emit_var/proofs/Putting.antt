-- Texts put one after the other into an output, a text that a call puts into the bytes after a place, and how long a definition is.
-- Assumes nothing.
use Rattle.std.specs.Prelude.{Option, Some, None}
use Prim.Native.Nat.{ℕ, ◌+◌, ◌-◌, ◌/◌, ◌%◌, ◌^◌, ◌≤◌, ◌<◌}
use mathlib.Core.Path.{◌≡◌, refl, sym, ap, subst, ◌∙◌}
use mathlib.Core.List.{List, [], ◌∷◌, ◌++◌, append_assoc}
use native.Mathlib.Nat.{zero-add}
use native.Mathlib.Omega.{arith}
use borrow.Author.Tests.{le-leb}
use borrow.Rule.Slice.PartMut.{put_mid}
use denote.Enum.Declared.{row}
use denote.Enum.Laws.{vals, owed}
use denote.Laws.{Is}
use lib.ListN.{length, take, drop, length-append}
use lib.Seq.{length-take-le, take-append_seam, drop-append_seam, drop-append-add}
use Rattle.text.specs.Texts.{put_answer, put_bytes}
use Rattle.number.specs.Decimal.{decimal_of}
use Rattle.number.proofs.Writing.{one-digit, more-digits, short}
use Rattle.idcode.specs.declared.IdCode.{IdCode}
use Rattle.idcode.proofs.Laws.{text-length}
use Rattle.scope.specs.declared.ReferenceIndex.{ReferenceIndex}
use Rattle.scope.specs.declared.VarType.{VarType}
use Rattle.scope.specs.Index.{SizedIndex}
use Rattle.scope.proofs.Indexes.{index-length}
use Rattle.scope.specs.contracts.ReferenceIndex.{the_type}
use Rattle.scope.proofs.ReferenceIndex.TheLaws.{the_laws}
use Rattle.scope.proofs.Types.{var-names}
use Rattle.emit.specs.Put.{stored}
use Rattle.emit.proofs.Storing.{stored-byte, stored_next, stored-length, total-is, part-put, part_none}
use Rattle.emit_var.specs.Define.{indexed, var_words, var_text, Puts}

-- a text, and another after it
pub both : (o : List ℕ) (at : ℕ) (w v : List ℕ) {u o' o'' : List ℕ} {r r' : ℕ} → w ++ v ≡ u → at + length u ≤ length o → Puts o at w r o'
    → Puts o' r v r' o'' → Puts o at u r' o''
both o at w v {u} {o'} {o''} {r} {r'} e h p q =
    subst (λ (l : List ℕ). Puts o at l r' o'') e
    (omega (arith, p.0, q.0, length-append w v), q.1 ∙ rw (p.0, p.1) (stored_next o at (omega arith) w v))

-- a text whose end is put again where it stands
there : (q w r : List ℕ) → stored (q ++ (w ++ r)) (length q) w ≡ q ++ (w ++ r)
unfolding stored
there q w r = simp (take-append_seam, drop-append-add, drop-append_seam)

parted : (o : List ℕ) (at : ℕ) (p w : List ℕ) → stored o at (p ++ w) ≡ (take at o ++ p) ++ (w ++ drop (at + length (p ++ w)) o)
unfolding stored
parted o at p w = simp append_assoc

pub again : (o : List ℕ) (at : ℕ) (p w : List ℕ) → at ≤ length o → stored (stored o at (p ++ w)) (at + length p) w ≡ stored o at (p ++ w)
again o at p w h =
    let n : length (take at o ++ p) ≡ at + length p = length-append (take at o) p ∙ rw (length-take-le at o h) in
    rw (← n, parted o at p w) (there (take at o ++ p) w (drop (at + length (p ++ w)) o))

-- a number of two digits
pub two_digits : (n : ℕ) → 10 ≤ n → n < 100 → ((48 + n / 10) ∷ []) ++ ((48 + n % 10) ∷ []) ≡ decimal_of n
two_digits n l u = sym (more-digits n l ∙ ap (λ (w : List ℕ). w ++ ((48 + n % 10) ∷ [])) (one-digit (n / 10) (omega arith)))

-- ---- what is still to be put: once `rest` is put after n, `whole` stands from `at` on
pub record Due (o : List ℕ) (at : ℕ) (whole rest : List ℕ) (n : ℕ) (o' : List ℕ) : Type 0 where
  pub room : n + length rest ≤ length o'
  pub done : {r : ℕ} {o'' : List ℕ} → Puts o' n rest r o'' → Puts o at whole r o''

pub due : (o : List ℕ) (at : ℕ) (w : List ℕ) {rest : List ℕ} → w ≡ rest → at + length w ≤ length o → Due o at w rest at o
due o at w e h = subst (λ (l : List ℕ). Due o at w l at o) e (record { room = h; done = λ p. p })

module _ {o whole o' : List ℕ} {at n : ℕ} (w rest : List ℕ) (d : Due o at whole (w ++ rest) n o') where
  pub fits : n + length w ≤ length o'
  fits = omega (arith, d.room, length-append w rest)

  pub more : {r : ℕ} {o'' : List ℕ} → Puts o' n w r o'' → Due o at whole rest r o''
  more p =
      record {
        room = omega (arith, d.room, length-append w rest, p.0, ap length p.1, stored-length o' n w fits);
        done = λ q. d.done (both o' n w rest refl d.room p q);
      }

-- ---- a text that a call puts at the start of the bytes after `at`, where it has room
module _ (t o : List ℕ) (at : ℕ) (h : at + length t ≤ length o) {x : Option ℕ} {ys : List ℕ}
    (e : (x ≡ put_answer t (take (length o - at) (drop at o))) × (ys ≡ put_bytes t (take (length o - at) (drop at o)))) where
  pub part_count : (n : ℕ) → x ≡ Some n → Puts o at t (at + n) (put_mid at (length o - at) o ys)
  part_count n q = let y = part-put t o at (length o - at) (omega arith) e n q in (ap (λ (m : ℕ). at + m) y.0, y.2)

  pub part-full : x ≡ None → {r : ℕ} {left : List ℕ} → Puts o at t r left
  part-full q = absurd (omega (arith, (part_none t o at (length o - at) (omega arith) e q).0))

-- ---- a text put at the start, where it has room
pub placed : {r : ℕ} {o' : List ℕ} (w o : List ℕ) → length w ≤ length o → Puts o 0 w r o'
    → (Some r ≡ put_answer w o) × (o' ≡ put_bytes w o)
unfolding put_answer put_bytes stored
placed w o h p = rw (le-leb (length w) (length o) h) (ap Some (p.0 ∙ zero-add (length w)), p.1 ∙ rw (zero-add (length w)))

-- ---- how long a definition is
-- the numbers of an index have 32 bits by their type
pub sized : (x : ReferenceIndex) → Is (row the_type) x (vals the_type the_laws x) → SizedIndex x
sized ReferenceIndex.None g = tt
sized (ReferenceIndex.BitSelect a) g = record { sfits = (owed the_type the_laws (ReferenceIndex.BitSelect a) _ g).0.1 }
sized (ReferenceIndex.Range a b) g =
    let f = owed the_type the_laws (ReferenceIndex.Range a b) _ g in (record { sfits = f.0.1 }, record { sfits = f.1.0.1 })

indexed-length : (x : ReferenceIndex) → SizedIndex x → length (indexed x) ≤ 26
indexed-length ReferenceIndex.None f = omega arith
indexed-length (ReferenceIndex.BitSelect a) f = omega (arith, index-length (ReferenceIndex.BitSelect a) f)
indexed-length (ReferenceIndex.Range a b) f = omega (arith, index-length (ReferenceIndex.Range a b) f)

pub var-length : (k : VarType) (n : ℕ) (i : IdCode) (t : List ℕ) (x : ReferenceIndex) → n < 2 ^ 32 → i.0 < 2 ^ 64
    → Is (row the_type) x (vals the_type the_laws x) → length (var_text k n i t x) ≤ 96 + length t
var-length k n i t x hn hi g =
    omega (
      arith,
      total-is (var_words k n i t x) 0,
      (var-names.like k).short,
      short 9 n (omega arith),
      (text-length i.0 hi).1,
      indexed-length x (sized x g),
    )

-- what the search takes from here: one byte put, and a text put by a call
pub ruleset byte_put = (stored-byte)

pub ruleset by_part = (part_count)
