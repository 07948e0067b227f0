-- Reading into records on its way: the commands made so far and those still to be taken are all there are, and the table holds the
-- words of the first (`Ran`).
use Prim.Native.Nat.{ℕ, suc, ◌+◌, ◌-◌, ◌*◌, ◌/◌, ◌≤◌, ◌<◌}
use mathlib.Core.Path.{◌≡◌, refl, sym, ap, ◌∙◌}
use mathlib.Core.Bool.{true, false}
use mathlib.Core.List.{List, [], ◌∷◌, ◌++◌, append_assoc, append-nil}
use native.Mathlib.Nat.{zero-add}
use native.Mathlib.Omega.{arith}
use lib.ListN.{length, get_or, length-append}
use Rattle.command.specs.declared.Command.{Command}
use Rattle.command.specs.declared.Refusal.{Refusal}
use Rattle.parser.specs.All.{followed, commands}
use Rattle.parser.specs.Next.{is_good, next_from}
use Rattle.parser.specs.declared.Next.{Next}
use Rattle.parser.proofs.Ahead.{command-past}
use Rattle.parser.proofs.All.{commands-step}
use Rattle.fast.specs.Fast.{Reads}
use Rattle.token.specs.Flat.{word_read}
use Rattle.token.specs.Read.{Valid}
use Rattle.token.specs.declared.Cursor.{Cursor}
use Rattle.record.specs.Record.{record_words, words_of, put_at, put}
use Rattle.records.specs.Read.{Outcome, ends, taken, read_of, answer_of, filled, step_of, as_slow, table_of, joined, Ran}
use Rattle.records.specs.declared.Ended.{Ended}
use Rattle.records.specs.declared.ReadAnswer.{ReadAnswer}
use Rattle.records.specs.declared.Step.{Step}
use Rattle.records.proofs.Table.{puts-length, puts-join, puts-filled}

-- ---- one step
-- what a step says of the answer that it was made of; of a hit, its `as_slow` says it
abbrev pub Stepped : Next → Step → Type 0
Stepped x (Step.Hit e) = Unit {0}
Stepped x (Step.Read d) = (k : Command) × (x ≡ Next.Command k d)
Stepped x (Step.Ends d e) =
    ((s : List ℕ) (c : Cursor) (m : ℕ) → taken (suc m) c (followed (commands s) x) ≡ ends d e) × ((t : List ℕ) (n : ℕ) → table_of x t n ≡ t)

stepped : (x : Next) → Stepped x (step_of x)
unfolding taken
stepped (Next.Command k d) = (k, refl)
stepped (Next.Refused e line d) = (λ s c m. refl, λ t n. refl)
stepped (Next.Done d) = (λ s c m. refl, λ t n. refl)

pub told : (s : List ℕ) (c : Cursor) (x : Next) (r q : Step) → as_slow s c r ≡ step_of x → r ≡ q → Stepped x (as_slow s c q)
told s c x r q e h = rw (sym e ∙ ap (as_slow s c) h) at (stepped x)

-- ---- a run of steps
abbrev ahead : ℕ → List ℕ → Cursor → Outcome
ahead n s c = taken n c (commands s c)

joined-join : (x y : List Command) (o : Outcome) → joined x (joined y o) ≡ joined (x ++ y) o
joined-join x y o = λ i. record { commands = sym (append_assoc x y o.commands) i; cursor = o.cursor; ended = o.ended }

pub ran-start : (s : List ℕ) (c : Cursor) (n : ℕ) (t : List ℕ) → Valid s c → 9 * n ≤ length t → Ran s c n t c n t
ran-start s c n t v h =
    record { made = []; ahead = λ r. rw (zero-add r); count = omega arith; room = h; stored = refl; valid = v; past = omega arith }

module _ (s : List ℕ) (c : Cursor) (n : ℕ) (t : List ℕ) (d : Cursor) (m : ℕ) (u : List ℕ) (l : Ran s c n t d m u) where
  pub ran-length : length u ≡ length t
  ran-length = ap length l.stored ∙ puts-length l.made t n (omega (arith, l.count, l.room))

  -- one run and then another
  pub ran-join : (e : Cursor) (p : ℕ) (v : List ℕ) → Ran s d m u e p v → Ran s c n t e p v
  ran-join e p v q =
      let x : List Command = l.made in
      let y : List Command = q.made in
      record {
        made = x ++ y;
        ahead = λ r.
            let z : length (x ++ y) + r ≡ length x + (length y + r) = omega (arith, length-append x y) in
            rw z (l.ahead (length y + r) ∙ ap (joined x) (q.ahead r) ∙ joined-join x y (ahead r s e));
        count = omega (arith, length-append x y, l.count, q.count);
        room = omega (arith, ran-length, q.room);
        stored = rw (q.stored, l.stored, l.count) (sym (puts-join x y t n));
        valid = q.valid;
        past = omega (arith, l.past, q.past);
      }

  -- one more
  pub ran-next : (k : Command) (e : Cursor) → next_from s d ≡ Next.Command k e → 9 * m + 9 ≤ length t
      → Ran s c n t e (m + 1) (put u m (record_words k))
  unfolding taken
  ran-next k e q h =
      let p = command-past s d k e q in
      ran-join e (m + 1) (put u m (record_words k)) (record {
        made = k ∷ [];
        ahead = λ r. let z : 1 + r ≡ suc r = omega arith in rw (z, commands-step s d, q);
        count = omega arith;
        room = omega (arith, ran-length);
        stored = refl;
        valid = p.0.valid;
        past = omega (arith, p.1);
      })

-- ---- a run of the fast path on its way: `at` is the next record's first word, and what is left of it has room in the table and the input
pub record Runs (s : List ℕ) (c : Cursor) (n : ℕ) (t : List ℕ) (stop : ℕ) (d : Cursor) (at : ℕ) (u : List ℕ) : Type 0 where
  pub count : ℕ
  pub left : ℕ
  pub ran : Ran s c n t d count u
  pub stands : at ≡ 9 * count
  pub stops : stop ≡ 9 * (count + left)
  pub fits : stop ≤ length t
  pub reaches : d.place + 34 * left ≤ length s

module _ (s : List ℕ) (c : Cursor) (n : ℕ) (t : List ℕ) (stop : ℕ) (d : Cursor) (at : ℕ) (u : List ℕ) (l : Runs s c n t stop d at u) where
  pub runs-length : length u ≡ length t
  runs-length = ran-length s c n t d l.count u l.ran

  module _ (h : at < stop) where
    -- one more
    pub runs-next : (e : ℕ) (k : Command) → Reads s d.place e k → e < d.place + 34
        → Runs s c n t stop (word_read d e (get_or s e 0)) (at + 9) (put_at u at (record_words k))
    unfolding word_read
    runs-next e k q g =
        let r = q.reads d l.ran.valid refl in
        record {
          count = l.count + 1;
          left = l.left - 1;
          ran = rw l.stands (ran-next s c n t d l.count u l.ran k (word_read d e (get_or s e 0)) r (omega arith));
          stands = omega arith;
          stops = omega arith;
          fits = l.fits;
          reaches = omega arith;
        }

-- ---- a run from the first record on, where c₀ was good: the cursor is c, and n commands are made
module _ (s : List ℕ) (c₀ : Cursor) (t₀ table : List ℕ) (c : Cursor) (n : ℕ) (l : Ran s c₀ 0 t₀ c n table) where
  pub ran-read : (d : Cursor) → Stepped (next_from s c) (Step.Read d) → (t : List ℕ) → t ≡ table_of (next_from s c) table n → n < length t₀ / 9
      → Ran s c₀ 0 t₀ d (n + 1) t
  ran-read d q t e h = rw (e, q.1) (ran-next s c₀ 0 t₀ c n table l q.0 d q.1 (omega arith))

  -- nothing more is taken: the answer, and the table
  module _ (g : is_good s c₀ ≡ true) where
    abbrev Answered : Ended → Cursor → List ℕ → Type 0
    Answered e d t = (◌≡◌ {A = ReadAnswer} (record { cursor = d; count = n; ended = e }) (answer_of (read_of s c₀ t₀))) × (t ≡ filled (read_of s c₀ t₀).commands t₀)

    ran_ends : (e : Ended) (d : Cursor) → ahead (length t₀ / 9 - n) s c ≡ ends d e → Answered e d table
    unfolding read_of
    ran_ends e d q =
        let z : length t₀ / 9 ≡ length l.made + (length t₀ / 9 - n) = omega (arith, l.count, l.room) in
        let whole : ahead (length t₀ / 9) s c₀ ≡ joined l.made (ends d e) =
        ap (λ (r : ℕ). ahead r s c₀) z ∙ l.ahead (length t₀ / 9 - n) ∙ ap (joined l.made) q in
        let count : n ≡ length l.made = omega (arith, l.count) in
        rw (g, whole, append-nil l.made) (λ i. record { cursor = d; count = count i; ended = e }, l.stored ∙ puts-filled l.made t₀)

    pub ran-full : length t₀ / 9 ≤ n → Answered Ended.Full c table
    unfolding taken
    ran-full h = let z : length t₀ / 9 - n ≡ 0 = omega arith in ran_ends Ended.Full c (rw z)

    pub ran-last : (e : Ended) (d : Cursor) → Stepped (next_from s c) (Step.Ends d e) → n < length t₀ / 9 → Answered e d (table_of (next_from s c) table n)
    ran-last e d q h =
        let m : length t₀ / 9 - n ≡ suc (length t₀ / 9 - (n + 1)) = omega arith in
        rw (q.1 table n) (ran_ends e d (rw (m, commands-step s c) (q.0 s c (length t₀ / 9 - (n + 1)))))

-- from a bad cursor nothing is read
pub read-bad : (s : List ℕ) (c : Cursor) (t₀ : List ℕ) → is_good s c ≡ false
    → (◌≡◌ {A = ReadAnswer} (record { cursor = c; count = 0; ended = Ended.Refused Refusal.BadPlace c.line }) (answer_of (read_of s c t₀))) × (t₀ ≡ filled (read_of s c t₀).commands t₀)
unfolding read_of words_of
read-bad s c t₀ g = rw g (refl, refl)
