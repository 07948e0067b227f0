-- A listing on its way: the entries made so far and those still ahead are all there are, and the table holds the rows of the first.
use Rattle.command.specs.Refusals.{Ended}
use Rattle.std.specs.Prelude.{Option, Some, Ok, Err}
use Rattle.command.specs.declared.Time.{Time}
use Prim.Native.Nat.{ℕ, ◌+◌, ◌/◌, ◌≤◌, ◌<◌}
use mathlib.Core.Path.{◌≡◌, refl, sym, ap, ◌∙◌}
use mathlib.Core.List.{List, [], ◌∷◌, ◌++◌, append_assoc, append-nil, map-append}
use native.Mathlib.Omega.{arith}
use lib.Dec.{eqb}
use lib.ListN.{length, length-append, length-map, drop_of_length-le}
use lib.Seq.{take_at, take_all, drop_at}
use Rattle.command.specs.declared.Command.{Command}
use Rattle.command.specs.declared.Refusal.{Refusal}
use Rattle.idcode.specs.declared.IdCode.{IdCode}
use Rattle.parser.specs.All.{followed, commands}
use Rattle.parser.specs.Next.{next_from}
use Rattle.parser.specs.declared.Next.{Next}
use Rattle.parser.proofs.Ahead.{command-past}
use Rattle.parser.proofs.All.{commands-step}
use Rattle.text.proofs.Lists.{by-test}
use Rattle.text.specs.declared.Text.{Text}
use Rattle.token.specs.Read.{Valid}
use Rattle.token.specs.declared.Cursor.{Cursor}
use Rattle.list_step.specs.Step.{Role, time, change, other, role_of, of_code}
use Rattle.listing.specs.Listing.{Entry, entries, since_after, changes, stop_of, last_of, time_of, Outcome, rows_in, list_in, answer_of, Passes}
use Rattle.change.specs.Rows.{change_words, words_of, put, filled}
use Rattle.list_step.specs.declared.Seen.{Seen}
use Rattle.change.specs.declared.Change.{Change}
use Rattle.change.specs.declared.ChangeKind.{ChangeKind}
use Rattle.list_step.proofs.Roles.{Read}
use Rattle.change.proofs.Table.{put_next}

-- ---- what a command gives, by what it is to the listing of a code
abbrev gives : Cursor → Option Time → ℕ → Seen → List Entry
gives c t n (Seen.Time u) = []
gives c t n (Seen.Change k v) = record { row = Change.Is t n k v; from = c; since = t } ∷ []
gives c t n Seen.Other = []

abbrev pub later : Option Time → Seen → Option Time
later t (Seen.Time u) = Some u
later t (Seen.Change k v) = t
later t Seen.Other = t

entries-are : (i : IdCode) (c : Cursor) (t : Option Time) (n : ℕ) (x : Role) → entries i c t n x ≡ gives c t n (of_code i x)
entries-are i c t n (time u) = refl
entries-are i c t n (change j k v) = by-test (eqb j.0 i.0) (λ e. rw e) (λ e. rw e)
entries-are i c t n other = refl

later-is : (i : IdCode) (t : Option Time) (x : Role) → since_after t x ≡ later t (of_code i x)
later-is i t (time u) = refl
later-is i t (change j k v) = by-test (eqb j.0 i.0) (λ e. rw e) (λ e. rw e)
later-is i t other = refl

-- ---- the entries from a cursor on, one command at a time
abbrev pub ahead : List ℕ → IdCode → Cursor → Option Time → List Entry
ahead s i c t = changes s i c t (commands s c)

read_as : (s : List ℕ) (c : Cursor) (x : Next) → next_from s c ≡ x → commands s c ≡ followed (commands s) x
read_as s c x e = commands-step s c ∙ ap (followed (commands s)) e

module _ (s : List ℕ) (c d : Cursor) (k : Command) (e : next_from s c ≡ Next.Command k d) where
  pub ahead-first : (i : IdCode) (t : Option Time) → ahead s i c t ≡ entries i c t d.line (role_of s c k) ++ ahead s i d (since_after t (role_of s c k))
  unfolding changes
  ahead-first i t = ap (changes s i c t) (read_as s c _ e)

  ahead_step : (i : IdCode) (t : Option Time) (r : Seen) → of_code i (role_of s c k) ≡ r
      → ahead s i c t ≡ gives c t d.line r ++ ahead s i d (later t r)
  ahead_step i t r q = ahead-first i t ∙ rw (entries-are i c t d.line (role_of s c k), later-is i t (role_of s c k), q)

  pub time-first : (t : Option Time) → time_of s c t (commands s c) ≡ time_of s d (since_after t (role_of s c k)) (commands s d)
  unfolding time_of
  time-first t = ap (time_of s c t) (read_as s c _ e)

  time-step : (i : IdCode) (t : Option Time) (r : Seen) → of_code i (role_of s c k) ≡ r
      → time_of s c t (commands s c) ≡ time_of s d (later t r) (commands s d)
  time-step i t r q = time-first t ∙ rw (later-is i t (role_of s c k), q)

  pub stop_step : stop_of (commands s c) ≡ stop_of (commands s d)
  unfolding stop_of
  stop_step = ap stop_of (read_as s c _ e)

  pub last_step : last_of (commands s c) ≡ last_of (commands s d)
  unfolding last_of
  last_step = ap last_of (read_as s c _ e)

-- reading that stops there has nothing ahead
module _ (s : List ℕ) (c d : Cursor) (t : Option Time) where
  -- how it stops, where, and the last time then
  abbrev pub StopsAt : Ended → Type 0
  StopsAt e = (stop_of (commands s c) ≡ e) × (last_of (commands s c) ≡ d) × (time_of s c t (commands s c) ≡ t)

  pub stop-refused : (e : Refusal) (n : ℕ) → next_from s c ≡ Next.Refused e n d → StopsAt (Err (e, n))
  unfolding stop_of last_of time_of
  stop-refused e n q = let r = read_as s c _ q in (ap stop_of r, ap last_of r, ap (time_of s c t) r)

  pub stop-done : next_from s c ≡ Next.Done d → StopsAt (Ok tt)
  unfolding stop_of last_of time_of
  stop-done q = let r = read_as s c _ q in (ap stop_of r, ap last_of r, ap (time_of s c t) r)

pub ahead-refused : (s : List ℕ) (i : IdCode) (c d : Cursor) (t : Option Time) (e : Refusal) (n : ℕ) → next_from s c ≡ Next.Refused e n d → ahead s i c t ≡ []
unfolding changes
ahead-refused s i c d t e n q = ap (changes s i c t) (read_as s c _ q)

pub ahead-done : (s : List ℕ) (i : IdCode) (c d : Cursor) (t : Option Time) → next_from s c ≡ Next.Done d → ahead s i c t ≡ []
unfolding changes
ahead-done s i c d t q = ap (changes s i c t) (read_as s c _ q)

-- ---- over commands that are no changes of the code: none, one more, and two runs
module _ (s : List ℕ) (i : IdCode) where
  pub passes-start : (c : Cursor) (t : Option Time) → Valid s c → Passes s i c t c t
  passes-start c t v = record { same = refl; stops = refl; last = refl; time = refl; valid = v; past = omega arith }

  pub passes-read : (c d : Cursor) (t : Option Time) (r : Seen) → Read s i c d r → gives c t d.line r ≡ [] → Passes s i c t d (later t r)
  passes-read c d t r h g =
      let f = (command-past s c h.command d h.next).0 in
      record {
        same = ahead_step s c d h.command h.next i t r h.tells ∙ rw g;
        stops = stop_step s c d h.command h.next;
        last = last_step s c d h.command h.next;
        time = time-step s c d h.command h.next i t r h.tells;
        valid = f.valid;
        past = f.ahead;
      }

  pub passes_on : (c d e : Cursor) (t u w : Option Time) → Passes s i c t d u → Passes s i d u e w → Passes s i c t e w
  passes_on c d e t u w p q =
      record {
        same = p.same ∙ q.same;
        stops = p.stops ∙ q.stops;
        last = p.last ∙ q.last;
        time = p.time ∙ q.time;
        valid = q.valid;
        past = omega (arith, p.past, q.past);
      }

-- ---- the listing of the code i from c₀, where u₀ was the last time, into the table t₀; the cursor is c, n rows are made, the last time is t
pub record Listed (s : List ℕ) (i : IdCode) (c₀ : Cursor) (u₀ : Option Time) (t₀ table : List ℕ) (c : Cursor) (n : ℕ) (t : Option Time) : Type 0 where
  pub made : List Entry
  pub whole : ahead s i c₀ u₀ ≡ made ++ ahead s i c t
  pub count : length made ≡ n
  pub room : n ≤ length t₀ / 6
  pub stored : table ≡ filled (rows_in made) t₀
  pub stops : stop_of (commands s c₀) ≡ stop_of (commands s c)
  pub lasts : last_of (commands s c₀) ≡ last_of (commands s c)
  pub times : time_of s c₀ u₀ (commands s c₀) ≡ time_of s c t (commands s c)

pub listed_start : (s : List ℕ) (i : IdCode) (c : Cursor) (t : Option Time) (t₀ : List ℕ) → Listed s i c t t₀ t₀ c 0 t
unfolding words_of
listed_start s i c t t₀ =
    record { made = []; whole = refl; count = refl; room = omega arith; stored = refl; stops = refl; lasts = refl; times = refl }

pub rows_join : (x y : List Entry) → rows_in (x ++ y) ≡ rows_in x ++ rows_in y
rows_join x y = map-append (λ (e : Entry). e.row) x y

module _ (s : List ℕ) (i : IdCode) (c₀ : Cursor) (u₀ : Option Time) (t₀ table : List ℕ) (c : Cursor) (n : ℕ) (t : Option Time) (l : Listed s i c₀ u₀ t₀ table c n t) where
  abbrev outcome : Outcome
  outcome = list_in s c₀ u₀ i (length t₀ / 6)

  rows-count : length (rows_in l.made) ≡ n
  rows-count = length-map l.made (λ (e : Entry). e.row) ∙ l.count

  -- commands that are no changes of the code
  pub listed-passes : (d : Cursor) (u : Option Time) → Passes s i c t d u → Listed s i c₀ u₀ t₀ table d n u
  listed-passes d u p =
      record {
        made = l.made;
        whole = l.whole ∙ ap (λ (x : List Entry). l.made ++ x) p.same;
        count = l.count;
        room = l.room;
        stored = l.stored;
        stops = l.stops ∙ p.stops;
        lasts = l.lasts ∙ p.last;
        times = l.times ∙ p.time;
      }

  -- the answer and the table where the rows of the outcome are those that were made
  abbrev Answers : Ended → Cursor → Option Time → Type 0
  Answers e d u = (record { cursor = d; count = n; ended = e; since = u } ≡ answer_of outcome) × (table ≡ filled outcome.rows t₀)

  ends_as : (e : Ended) (d : Cursor) (u : Option Time) → outcome ≡ record { rows = rows_in l.made; ended = e; cursor = d; since = u } → Answers e d u
  ends_as e d u o = rw o (rw rows-count, l.stored)

  -- a change of the code
  module _ (d : Cursor) (kind : ChangeKind) (v : Text) (h : Read s i c d (Seen.Change kind v)) where
    abbrev row : Change
    row = Change.Is t d.line kind v

    abbrev one : Entry
    one = record { row = row; from = c; since = t }

    next-is : ahead s i c₀ u₀ ≡ l.made ++ (one ∷ ahead s i d t)
    next-is = l.whole ∙ ap (λ (x : List Entry). l.made ++ x) (ahead_step s c d h.command h.next i t _ h.tells)

    pub listed-change : n < length t₀ / 6 → Listed s i c₀ u₀ t₀ (put table n (change_words row)) d (n + 1) t
    listed-change more =
        record {
          made = l.made ++ (one ∷ []);
          whole = next-is ∙ sym (append_assoc l.made (one ∷ []) (ahead s i d t));
          count = omega (arith, length-append l.made (one ∷ []), l.count);
          room = omega arith;
          stored = rw (l.stored, rows_join l.made (one ∷ [])) (put_next (rows_in l.made) row t₀ n rows-count);
          stops = l.stops ∙ stop_step s c d h.command h.next;
          lasts = l.lasts ∙ last_step s c d h.command h.next;
          times = l.times ∙ time-step s c d h.command h.next i t _ h.tells;
        }

    -- it finds no row
    pub listed-full : length t₀ / 6 ≤ n → Answers (Err (Refusal.ListFull, c.line)) c t
    unfolding list_in
    listed-full full =
        let cap : length t₀ / 6 ≡ n = omega (arith, l.room) in
        let rest : List Entry = one ∷ ahead s i d t in
        ends_as _ _ _ (rw (cap, next-is, take_at l.made rest n l.count, drop_at l.made rest n l.count))

  -- nothing is ahead
  last-is : (e : Ended) (d : Cursor) → ahead s i c t ≡ [] → StopsAt s c d t e → Answers e d t
  unfolding list_in
  last-is e d a x =
      let all : ahead s i c₀ u₀ ≡ l.made = l.whole ∙ rw a (append-nil l.made) in
      let few : length l.made ≤ length t₀ / 6 = omega (arith, l.count, l.room) in
      ends_as _ _ _ (rw (all, take_all (length t₀ / 6) l.made few, drop_of_length-le l.made few, l.stops, l.lasts, l.times, x.0, x.1, x.2))

  pub listed-refused : (e : Refusal) (line : ℕ) (d : Cursor) → next_from s c ≡ Next.Refused e line d → Answers (Err (e, line)) d t
  listed-refused e line d q = last-is _ _ (ahead-refused s i c d t e line q) (stop-refused s c d t e line q)

  pub listed-done : (d : Cursor) → next_from s c ≡ Next.Done d → Answers (Ok tt) d t
  listed-done d q = last-is _ _ (ahead-done s i c d t q) (stop-done s c d t q)
