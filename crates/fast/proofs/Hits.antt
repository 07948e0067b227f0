-- Reading from a byte that begins a command of the fast path: the kind that it chooses, and the command where the word after it is a hit,
-- by the laws of `parser_part`. Assumes nothing.
use Rattle.std.proofs.Common.{◌≡◌, ℕ, ◌+◌, ◌-◌, ◌/◌, ◌^◌, ◌<◌, true, false, eqb, ◌⊎◌, List, [], ◌∷◌, length, get_or, take, drop, sym, refl, ap, ◌∙◌, ⊎_elim, add-zero, arith, lt-ltb, eqb-true, Some, Ok}
use Rattle.text.specs.Bytes.{has, is_blank}
use Rattle.text.specs.Texts.{part}
use Rattle.text.proofs.Lists.{by-test, either}
use Rattle.number.specs.Decimal.{parse_below}
use Rattle.value.specs.Values.{value_of, is_value, are_values}
use Rattle.value.specs.declared.Value.{Value}
use Rattle.value.proofs.Values.{by_value, by-digit, is-value}
use Rattle.idcode.specs.Id.{parse_id}
use Rattle.idcode.specs.declared.IdCode.{IdCode}
use Rattle.idcode.proofs.Pairing.{id_below}
use Rattle.command.specs.declared.Command.{Command}
use Rattle.token.specs.Flat.{word_read, word_end_read}
use Rattle.token.specs.Read.{Valid, byte_read, skipped, values, values_in, rest, word, token}
use Rattle.token.specs.declared.Cursor.{Cursor}
use Rattle.token.proofs.Reading.{place-step, valid-step, skip_stop}
use Rattle.token.proofs.Words.{solid-read, values-here}
use Rattle.parser.specs.Next.{next_of, found, next_from}
use Rattle.parser_part.specs.Plan.{answer, a_number, an_id, kind_of, kind_plan, run}
use Rattle.parser_part.specs.FastWord.{Whole}
use Rattle.parser_part.specs.declared.Kind.{Kind}
use Rattle.parser.specs.declared.Next.{Next}
use Rattle.parser.proofs.Ahead.{valid-good}
use Rattle.parser_part.proofs.Hits.{number_hit, id_hit}
use Rattle.parser_part.proofs.Kept.{token-next}
use Rattle.parser_part.proofs.Parts.{run-answer, run-token, run-number, run-id}
use Rattle.fast.specs.Fast.{Reads, ReadsScalar, values_at, ReadsVector}

-- ---- the first byte
-- a blank chooses no kind
blank-other : (b : ℕ) → is_blank b ≡ true → kind_of b ≡ Kind.Other
unfolding is_blank kind_of has
blank-other b e =
    either _ (eqb b 9) e
    (λ q. either _ (eqb b 13) q
    (λ r. either (eqb b 32) (eqb b 10) r (λ x. rw (eqb-true b 32 x)) (λ x. rw (eqb-true b 10 x)))
    (λ x. rw (eqb-true b 13 x)))
    (λ x. rw (eqb-true b 9 x))

solid-kind : (b : ℕ) (k : Kind) → kind_of b ≡ k → (Kind.Other ≡ k → ⊥) → is_blank b ≡ false
solid-kind b k e n = by-test (is_blank b) (λ q. absurd (n (sym (blank-other b q) ∙ e))) (λ q. q)

-- the letters that mean a value
pub letter-value : (b : ℕ) → (b ≡ 88) ⊎ ((b ≡ 90) ⊎ ((b ≡ 120) ⊎ (b ≡ 122))) → is_value b ≡ true
unfolding is_value has
letter-value b k = ⊎_elim (λ e. rw e) (λ r. ⊎_elim (λ e. rw e) (λ t. ⊎_elim (λ e. rw e) (λ e. rw e) t) r) k

pub digit_value : (b : ℕ) → b / 2 ≡ 24 → is_value b ≡ true
unfolding is_value has
digit_value = by-digit (λ b. is_value b ≡ true) refl refl

-- the bytes that choose a timestamp and a vector
pub hash-kind : (b : ℕ) → b ≡ 35 → kind_of b ≡ Kind.Hash
unfolding kind_of has
hash-kind b e = rw e

pub vector-kind : (b : ℕ) → (b ≡ 66) ⊎ (b ≡ 98) → kind_of b ≡ Kind.Vector
unfolding kind_of has
vector-kind b k = ⊎_elim (λ e. rw e) (λ e. rw e) k

-- a byte that means a value chooses a scalar of it
value-kind : (b : ℕ) → is_value b ≡ true → (v : Value) × (value_of b ≡ Some v) × (kind_of b ≡ Kind.Scalar v)
unfolding value_of kind_of has
value-kind =
    by_value (λ b. (v : Value) × (value_of b ≡ Some v) × (kind_of b ≡ Kind.Scalar v))
    (Value.V0, refl, refl) (Value.V1, refl, refl) (Value.X, refl, refl) (Value.X, refl, refl) (Value.Z, refl, refl) (Value.Z, refl, refl)

other-scalar : (v : Value) → Kind.Other ≡ Kind.Scalar v → ⊥
other-scalar v e = let z : ◌≡◌ {A = ℕ} 0 1 = cc in omega arith

-- ---- the cursor after bytes that are no newlines
step-word : (c : Cursor) (b e x : ℕ) → is_blank b ≡ false → word_read (byte_read c b) e x ≡ word_read c e x
unfolding word_read word_end_read
step-word c b e x n = rw (← solid-read c b n, add-zero)

pub space-word : (c : Cursor) (m e x : ℕ) → word_read (word_read c m 32) e x ≡ word_read c e x
unfolding word_read
space-word c m e x = rw add-zero

-- ---- a command by its kind
chosen : (s : List ℕ) (c : Cursor) (b : ℕ) → Valid s c → c.place < length s → get_or s c.place 0 ≡ b → is_blank b ≡ false
    → next_from s c ≡ next_of (run (kind_plan (kind_of b)) s (byte_read c b))
unfolding next_from found
chosen s c b v h q n = rw (valid-good s c v, skip_stop s c h (rw q n), lt-ltb c.place (length s) h, q)

module _ (s : List ℕ) (at e : ℕ) (k : Kind) (m : Command) (some : at < e) (inside : e < length s) (is : kind_of (get_or s at 0) ≡ k) (other : Kind.Other ≡ k → ⊥)
    (on : (d : Cursor) → Valid s d → d.place ≡ at + 1 → Ok (m, word_read d e (get_or s e 0)) ≡ run (kind_plan k) s d) where
  first : is_blank (get_or s at 0) ≡ false
  first = solid-kind (get_or s at 0) k is other

  here : (c : Cursor) → Valid s c → c.place ≡ at → next_from s c ≡ next_of (run (kind_plan k) s (byte_read c (get_or s at 0)))
  here c v p = chosen s c (get_or s at 0) v (omega arith) (rw p) first ∙ rw is

  pub reads-kind : Reads s at e m
  reads-kind =
      record {
        past = some;
        inside = inside;
        reads = λ c v p.
            here c v p
            ∙ sym (ap next_of (on (byte_read c (get_or s at 0)) (valid-step s c (get_or s at 0) v (omega arith)) (place-step c (get_or s at 0) ∙ ap (λ (i : ℕ). i + 1) p)))
            ∙ ap (Next.Command m) (step-word c (get_or s at 0) e (get_or s e 0) first);
      }

-- ---- the three commands, by the word after their first byte
module _ (s : List ℕ) (c : Cursor) (v : Valid s c) (e : ℕ) (w : Whole s c.place e) (next : Cursor) (n : next ≡ word_read c e (get_or s e 0)) where
  number-hit : (x : ℕ) → parse_below (2 ^ 64) (word (rest s c)) ≡ Some x → (k : ℕ → Command) → Ok (k x, next) ≡ run (a_number (2 ^ 64) (λ y. answer (k y))) s c
  number-hit x p k = sym (run-number s c (2 ^ 64) (λ y. answer (k y)) ∙ rw (number_hit s c v e w next n x p) (run-answer s next (k x)))

  id-hit : (i : IdCode) → parse_id (word (rest s c)) ≡ Ok i → (k : IdCode → Command) → Ok (k i, next) ≡ run (an_id (λ y. answer (k y))) s c
  id-hit i p k = sym (run-id s c (λ y. answer (k y)) ∙ rw (id_hit s c v e w next n i p) (run-answer s next (k i)))

module _ (s : List ℕ) (at e : ℕ) (w : Whole s (at + 1) e) where
  pub reads-time : (t : ℕ) → kind_of (get_or s at 0) ≡ Kind.Hash → parse_below (2 ^ 64) (word (drop (at + 1) s)) ≡ Some t
      → Reads s at e (Command.Timestamp (record { 0 = t }))
  reads-time t is p =
      reads-kind s at e Kind.Hash _ (omega (arith, w.some)) w.inside is (λ q. let z : ◌≡◌ {A = ℕ} 0 1 = cc in omega arith)
      (λ d v q. number-hit s d v e (rw q w) _ refl t (rw q p) (λ x. Command.Timestamp (record { 0 = x })))

  pub reads-scalar : (i : ℕ) → is_value (get_or s at 0) ≡ true → parse_id (word (drop (at + 1) s)) ≡ Ok (record { 0 = i }) → ReadsScalar s at e i
  reads-scalar i is p =
      let k = value-kind (get_or s at 0) is in
      record {
        value = k.0;
        means = k.1;
        id = id_below _ _ p;
        change =
            reads-kind s at e (Kind.Scalar k.0) _ (omega (arith, w.some)) w.inside k.2 (other-scalar k.0)
            (λ d v q. id-hit s d v e (rw q w) _ refl _ (rw q p) (λ x. Command.ChangeScalar x k.0));
      }

all-values : (r : List ℕ) → are_values (take (values_in r) r) ≡ true
unfolding are_values values_in
all-values [] = refl
all-values (b ∷ r) = let more = all-values r in by-test (is_value b) (λ e. rw (e, e) more) (λ e. rw e)

values-to : (s : List ℕ) (at stop : ℕ) → stop ≡ at + 1 + values_in (drop (at + 1) s) → are_values (part s (values_at at stop)) ≡ true
unfolding part
values-to s at stop long =
    let n : stop - (at + 1) ≡ values_in (drop (at + 1) s) = omega arith in
    rw n (all-values (drop (at + 1) s))

-- values up to `stop`, and a space
module _ (s : List ℕ) (stop e i : ℕ) (space : get_or s stop 0 ≡ 32) (w : Whole s (stop + 1) e)
    (p : parse_id (word (drop (stop + 1) s)) ≡ Ok (record { 0 = i })) where
  module _ (d : Cursor) (v : Valid s d) (long : stop ≡ d.place + values_in (rest s d)) (some : d.place < stop) where
    told : Ok (record { start = d.place; len = stop - d.place }, word_read d stop (get_or s stop 0)) ≡ token s d values
    unfolding is_blank
    told = values-here s d stop v long some (omega (arith, w.some, w.inside)) (rw space)

    vector_on : Ok (Command.ChangeVector (record { 0 = i }) (record { start = d.place; len = stop - d.place }), word_read d e (get_or s e 0)) ≡ run (kind_plan Kind.Vector) s d
    unfolding word_read
    vector_on =
        (id-hit s (word_read d stop (get_or s stop 0)) (token-next v values told refl) e w _ (rw space (sym (space-word d stop e (get_or s e 0)))) _ p (λ x. Command.ChangeVector x (record { start = d.place; len = stop - d.place })))
        ∙ sym (run-token s d values (λ t w. an_id (λ x. answer (Command.ChangeVector x t))) ∙ rw (← told))

  pub reads-vector : (at : ℕ) → kind_of (get_or s at 0) ≡ Kind.Vector → stop ≡ at + 1 + values_in (drop (at + 1) s) → at + 1 < stop → ReadsVector s at stop e i
  reads-vector at is long some =
      record {
        some = some;
        before = omega (arith, w.some);
        values = values-to s at stop long;
        id = id_below _ _ p;
        change =
            reads-kind s at e Kind.Vector _ (omega (arith, w.some)) w.inside is (λ q. let z : ◌≡◌ {A = ℕ} 0 1 = cc in omega arith)
            (λ d v q. rw (← q) (vector_on d v (rw q long) (rw q some)));
      }

-- ---- a scalar is read from its first byte on, over no blanks
pub scalar-first : (s : List ℕ) (c : Cursor) (e i : ℕ) → ReadsScalar s c.place e i → skipped s c ≡ c
scalar-first s c e i r =
    let k = value-kind (get_or s c.place 0) (is-value (get_or s c.place 0) r.value r.means) in
    skip_stop s c (omega (arith, r.change.past, r.change.inside)) (solid-kind (get_or s c.place 0) (Kind.Scalar k.0) k.2 (other-scalar k.0))
