-- The numbers of a command that is read are of their types, and so are those of its meaning; those of a record and of a head too. Assumes nothing.
use Rattle.std.specs.Prelude.{Option, Some, None}
use Rattle.header.specs.declared.Header.{Header}
use Prim.Native.Nat.{ℕ, ◌+◌, ◌*◌, ◌/◌, ◌^◌, ◌≤◌, ◌<◌}
use mathlib.Core.Path.{◌≡◌, refl}
use mathlib.Core.Bool.{true, ◌&&◌}
use mathlib.Core.List.{List, [], ◌∷◌}
use native.Mathlib.Omega.{arith}
use borrow.Author.Tests.{eqb-false, ltb-true}
use lib.Dec.{eqb, leb, ltb}
use lib.ListN.{length, get_or}
use Rattle.text.proofs.Lists.{by-test, both}
use Rattle.command.specs.Meaning.{meaning}
use Rattle.command.specs.declared.Command.{Command}
use Rattle.token.specs.declared.Cursor.{Cursor}
use Rattle.parser.specs.declared.Next.{Next}
use Rattle.parser.specs.Next.{next_from}
use Rattle.parser.proofs.Ranged.{Typed, command-typed}
use Rattle.rows.specs.Rows.{all_zero, is_index}
use Rattle.record.specs.Record.{command_in, command_of, words_at, record_at}
use Rattle.record.specs.Used.{amount_most, is_used}
use Rattle.record.specs.declared.RecordWords.{RecordWords}
use Rattle.record.proofs.ByKind.{by_kind}
use Rattle.record.proofs.Uses.{used}
use Rattle.write.specs.Run.{Sized}
use Rattle.write_header.proofs.Takes.{AreWords, word_at}
use Rattle.write_header.proofs.Takes as takes
use Rattle.vcd_state.specs.State.{is_kept, is_scale, scale_of, head_of}
use Rattle.vcd_state.proofs.Taken.{scale_small}
use Rattle.promises.specs.Runs.{SizedScale}

sized : (s : List ℕ) (k : Command) → Typed k → Sized (meaning s k)
sized s (Command.VarDef k w i t x) z = (z.0, z.1, z.2)
sized s (Command.Comment t) z = tt
sized s (Command.Date t) z = tt
sized s (Command.Version t) z = tt
sized s (Command.Timescale q u) z = z
sized s (Command.ScopeDef k t) z = tt
sized s Command.Upscope z = tt
sized s Command.Enddefinitions z = tt
sized s (Command.Timestamp t) z = z
sized s (Command.ChangeScalar i v) z = z
sized s (Command.ChangeVector i v) z = z
sized s (Command.ChangeReal i v) z = z
sized s (Command.ChangeString i v) z = z
sized s (Command.Begin k) z = tt
sized s (Command.End k) z = tt

pub command-sized : (s : List ℕ) (c d : Cursor) (k : Command) → next_from s c ≡ Next.Command k d → Sized (meaning s k)
command-sized s c d k e = sized s k (command-typed s c e)

-- ---- a record
abbrev pub SizedRecord : List ℕ → Option Command → Type 0
SizedRecord s (Some k) = Sized (meaning s k)
SizedRecord s None = Unit {0}

-- one kind after the other
abbrev OfKind : List ℕ → ℕ → Type 0
OfKind s k =
    (t v c a l f m n : ℕ) → v ≤ amount_most k → v < 2 ^ 64 → c < 2 ^ 64 → (k ≡ 7 → ⊥)
    → Sized (meaning s (command_in (record { kind = k; number = t; amount = v; code = c; start = a; len = l; form = f; first = m; second = n })))

kinds-sized : (s : List ℕ) (k : ℕ) → 1 ≤ k → k ≤ 15 → OfKind s k
unfolding command_in amount_most
kinds-sized s =
    by_kind (OfKind s)
    (λ t v c a l f m n x y z o. tt) (λ t v c a l f m n x y z o. tt) (λ t v c a l f m n x y z o. tt)
    (λ t v c a l f m n x y z o. let h : v ≤ 4294967295 = x in omega arith)
    (λ t v c a l f m n x y z o. tt) (λ t v c a l f m n x y z o. tt) (λ t v c a l f m n x y z o. absurd (o refl))
    (λ t v c a l f m n x y z o. tt)
    (λ t v c a l f m n x y z o. y)
    (λ t v c a l f m n x y z o. z) (λ t v c a l f m n x y z o. z) (λ t v c a l f m n x y z o. z) (λ t v c a l f m n x y z o. z)
    (λ t v c a l f m n x y z o. tt) (λ t v c a l f m n x y z o. tt)

words-sized : (s : List ℕ) (w : RecordWords) → w.amount < 2 ^ 64 → w.code < 2 ^ 64 → SizedRecord s (command_of w)
unfolding command_of
words-sized s w y z =
    by-test (eqb w.kind 7)
    (λ e.
    by-test (leb w.number 17 && ltb w.amount (2 ^ 32) && is_index w.form w.first w.second)
    (λ q.
    let a = both (leb w.number 17 && ltb w.amount (2 ^ 32)) (is_index w.form w.first w.second) q in
    let b = both (leb w.number 17) (ltb w.amount (2 ^ 32)) a.0 in
    rw (e, q) (ltb-true w.amount (2 ^ 32) b.1, z, takes.index-sized w.form w.first w.second a.1))
    (λ q. rw (e, q) tt))
    (λ e.
    by-test (all_zero (w.form ∷ w.first ∷ w.second ∷ []) && is_used w)
    (λ q.
    let u = used w (both (all_zero (w.form ∷ w.first ∷ w.second ∷ [])) (is_used w) q).1 in
    rw (e, q)
    (kinds-sized s w.kind u.least u.most w.number w.amount w.code w.start w.len w.form w.first w.second u.number y z
    (eqb-false w.kind 7 e)))
    (λ q. rw (e, q) tt))

pub sized-record : (s table : List ℕ) (i : ℕ) → AreWords table → SizedRecord s (record_at table i)
unfolding record_at
sized-record s table i x =
    by-test (ltb i (length table / 9))
    (λ e. rw e (words-sized s (words_at table (9 * i)) (word_at table (9 * i + 2) x) (word_at table (9 * i + 3) x)))
    (λ e. rw e tt)

-- ---- a head
abbrev pub SizedHead : Option (Header × ℕ) → Type 0
SizedHead (Some (h, n)) = SizedScale h.timescale
SizedHead None = Unit {0}

scale-sized : (h n u : ℕ) → is_scale h n u ≡ true → SizedScale (scale_of h n u)
unfolding scale_of
scale-sized h n u e = by-test (eqb h 0) (λ q. rw q tt) (λ q. rw q (scale_small h n u e))

pub sized-head : (w : List ℕ) → SizedHead (head_of w)
unfolding head_of
sized-head w =
    let word : ℕ → ℕ = λ j. get_or w j 0 in
    let scale = is_scale (word 7) (word 8) (word 9) in
    let rest = eqb (length w) 10 && is_kept (word 1) (word 2) (word 3) && is_kept (word 4) (word 5) (word 6) in
    by-test (rest && scale) (λ e. rw e (scale-sized (word 7) (word 8) (word 9) (both rest scale e).1)) (λ e. rw e tt)
