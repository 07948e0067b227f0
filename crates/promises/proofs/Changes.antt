-- The layouts of a timestamp and of each change of a value read back: one line for each part. Assumes nothing.
use Rattle.std.specs.Prelude.{Ok}
use Prim.Native.Nat.{ℕ, ◌-◌, ◌^◌, ◌≤◌, ◌<◌}
use mathlib.Core.Path.{◌≡◌, refl, ap, ap₂, ◌∙◌}
use mathlib.Core.Bool.{true, false, false≢true}
use mathlib.Core.List.{List, [], ◌∷◌, ◌++◌, map}
use native.Mathlib.Nat.{le_refl}
use native.Mathlib.Omega.{arith}
use borrow.Author.Tests.{eqb-false}
use lib.ListN.{length}
use Rattle.text.specs.Bytes.{is_blank, bytes, has, all_blank, no_blank, is_token}
use Rattle.utf8.specs.Utf8.{valid_utf8}
use Rattle.text.proofs.Has.{of-each}
use Rattle.text.proofs.Lists.{both, not-swap}
use Rattle.number.specs.Decimal.{decimal_of}
use Rattle.real.specs.Real.{is_real}
use Rattle.number.proofs.Writing.{read-written}
use Rattle.value.specs.Values.{is_value, lower}
use Rattle.value.specs.declared.Value.{Value}
use Rattle.idcode.specs.Id.{id_text, parse_id}
use Rattle.idcode.specs.declared.IdCode.{IdCode}
use Rattle.idcode.proofs.Pairing.{read-written as id-written}
use Rattle.command.specs.Meaning.{Meaning, timestamp, change, scalar, vector, real, string, meaning}
use Rattle.command.specs.declared.Command.{Command}
use Rattle.token.specs.Read.{most, unlimited, values, values_in, Valid}
use Rattle.token.specs.declared.Cursor.{Cursor}
use Rattle.parser_part.specs.Plan.{answer, an_id, run, kind_of}
use Rattle.parser.specs.Next.{next_of}
use Rattle.parser.specs.All.{said, says}
use Rattle.write_check.specs.Check.{is_name, are_lower, is_vector}
use Rattle.write.specs.Layout.{layout, is_id}
use Rattle.promises.proofs.Back.{Before, Back, by_token, by_word, by_first, by_answer}
use Rattle.promises.proofs.Plain.{plain-number, plain-id}
use Rattle.promises.proofs.Reals.{plain-real}

-- ---- values
-- a written value's byte is no blank, is its own lower case, and is one that the reader takes
record IsLower (b : ℕ) : Type 0 where
  solid : is_blank b ≡ false
  low : lower b ≡ b
  taken : is_value b ≡ true

is-lower : (b : ℕ) → has (bytes "01xz") b ≡ true → IsLower b
unfolding is_blank lower is_value has
is-lower b e =
    let z : IsLower 48 = record { solid = refl; low = refl; taken = refl } in
    let o : IsLower 49 = record { solid = refl; low = refl; taken = refl } in
    let x : IsLower 120 = record { solid = refl; low = refl; taken = refl } in
    let y : IsLower 122 = record { solid = refl; low = refl; taken = refl } in
    of-each IsLower (bytes "01xz") b (z, (o, (x, (y, tt)))) e

record Vector (v : List ℕ) : Type 0 where
  solid : no_blank v ≡ true
  low : map lower v ≡ v
  taken : length v ≤ values_in v

vector-is : (v : List ℕ) → are_lower v ≡ true → Vector v
unfolding are_lower no_blank values_in
vector-is [] e = record { solid = refl; low = refl; taken = omega arith }
vector-is (b ∷ v) e =
    let h = both (has (bytes "01xz") b) (are_lower v) e in
    let i = is-lower b h.0 in
    let j = vector-is v h.1 in
    record { solid = rw i.solid j.solid; low = ap₂ (λ (x : ℕ) (l : List ℕ). x ∷ l) i.low j.low; taken = rw i.taken (omega (arith, j.taken)) }

vector-token : (v : List ℕ) → is_vector v ≡ true → Vector v × (is_token v ≡ true)
unfolding is_vector is_token
vector-token [] e = absurd (false≢true e)
vector-token (b ∷ v) e = let h = vector-is (b ∷ v) e in (h, h.solid)

-- ---- ids
pub id-fits : (i : IdCode) → is_id i ≡ true → i.0 < 2 ^ 64 → parse_id (id_text i.0) ≡ Ok i
unfolding is_id
id-fits i e h = let n = eqb-false i.0 (2 ^ 64 - 1) (not-swap _ e) in id-written i.0 (omega arith)

module _ (s g r : List ℕ) (c e : Cursor) (v : Valid s c) (p : all_blank g ≡ true) where
  pub timestamp-back : (n : ℕ) → n < 2 ^ 64 → Back s g r c e (timestamp n)
  unfolding layout kind_of has is_blank
  timestamp-back n z h =
      let w = plain-number n z in
      by_first s r e _ c g 35 (decimal_of n ++ bytes "\n") v h p refl
      λ d a. by_word s r e _ d (most 32) _ (decimal_of n) 10 [] a w.token refl w.short w.utf8
      λ t d q a. rw (read-written (2 ^ 64) n z) (by_answer s r e (timestamp n) (Command.Timestamp (record { 0 = n })) refl d a)

  -- the id that ends a change
  id-last : (i : IdCode) (m : Meaning) (f : IdCode → Command) (d : Cursor) → is_id i ≡ true → i.0 < 2 ^ 64 → meaning s (f i) ≡ m
      → Before s d (id_text i.0 ++ bytes "\n") r e → says s (next_of (run (an_id (λ i. answer (f i))) s d)) ≡ said m e
  unfolding is_blank
  id-last i m f d y z q a =
      let w = plain-id i.0 z in
      by_word s r e _ d (most 32) _ (id_text i.0) 10 [] a w.token refl w.short w.utf8
      λ t d q' a. rw (id-fits i y z) (by_answer s r e m (f i) q d a)

  pub scalar-back : (i : IdCode) (x : Value) → is_id i ≡ true → i.0 < 2 ^ 64 → Back s g r c e (change i (scalar x))
  unfolding layout kind_of has is_blank
  scalar-back i Value.V0 y z h = by_first s r e _ c g 48 (id_text i.0 ++ bytes "\n") v h p refl λ d a. id-last i _ (λ i. Command.ChangeScalar i Value.V0) d y z refl a
  scalar-back i Value.V1 y z h = by_first s r e _ c g 49 (id_text i.0 ++ bytes "\n") v h p refl λ d a. id-last i _ (λ i. Command.ChangeScalar i Value.V1) d y z refl a
  scalar-back i Value.X y z h = by_first s r e _ c g 120 (id_text i.0 ++ bytes "\n") v h p refl λ d a. id-last i _ (λ i. Command.ChangeScalar i Value.X) d y z refl a
  scalar-back i Value.Z y z h = by_first s r e _ c g 122 (id_text i.0 ++ bytes "\n") v h p refl λ d a. id-last i _ (λ i. Command.ChangeScalar i Value.Z) d y z refl a

  pub vector-back : (i : IdCode) (x : List ℕ) → is_id i ≡ true → i.0 < 2 ^ 64 → is_vector x ≡ true → Back s g r c e (change i (vector x))
  unfolding layout kind_of has is_blank
  vector-back i x y z o h =
      let u = vector-token x o in
      by_first s r e _ c g 98 (x ++ 32 ∷ (id_text i.0 ++ bytes "\n")) v h p refl
      λ d a. by_token s r e _ d values _ x 32 (id_text i.0 ++ bytes "\n") a u.1 refl u.0.taken
      λ t d q a. id-last i _ (λ i. Command.ChangeVector i t) d y z (ap (λ (l : List ℕ). change i (vector l)) (ap (map lower) q ∙ u.0.low)) a

  pub real-back : (i : IdCode) (x : List ℕ) → is_id i ≡ true → i.0 < 2 ^ 64 → is_real x ≡ true → length x ≤ 32 → Back s g r c e (change i (real x))
  unfolding layout kind_of has is_blank
  real-back i x y z o l h =
      let w = plain-real x o l in
      by_first s r e _ c g 114 (x ++ 32 ∷ (id_text i.0 ++ bytes "\n")) v h p refl
      λ d a. by_word s r e _ d (most 32) _ x 32 (id_text i.0 ++ bytes "\n") a w.token refl w.short w.utf8
      λ t d q a. rw o (id-last i _ (λ i. Command.ChangeReal i t) d y z (ap (λ (l : List ℕ). change i (real l)) q) a)

  pub string-back : (i : IdCode) (x : List ℕ) → is_id i ≡ true → i.0 < 2 ^ 64 → is_name x ≡ true → Back s g r c e (change i (string x))
  unfolding layout kind_of has is_blank is_name
  string-back i x y z o h =
      let x-is = both (is_token x) (valid_utf8 x) o in
      by_first s r e _ c g 115 (x ++ 32 ∷ (id_text i.0 ++ bytes "\n")) v h p refl
      λ d a. by_word s r e _ d unlimited _ x 32 (id_text i.0 ++ bytes "\n") a x-is.0 refl (le_refl _) x-is.1
      λ t d q a. id-last i _ (λ i. Command.ChangeString i t) d y z (ap (λ (l : List ℕ). change i (string l)) q) a
