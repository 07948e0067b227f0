-- All turns: each comes nearer to the end, and what they print is the text. Assumes nothing.
use Rattle.command.specs.Refusals.{Ended}
use Rattle.std.specs.Prelude.{Ok, Err}
use Prim.Native.Nat.{ℕ, zero, suc, ◌+◌, ◌-◌, ◌≤◌, ◌<◌}
use mathlib.Core.Path.{◌≡◌, refl, sym, ap, subst, ◌∙◌}
use mathlib.Core.Bool.{Bool, true, false, cond}
use mathlib.Core.List.{List, [], ◌∷◌, ◌++◌, append-nil}
use native.Mathlib.Omega.{arith}
use borrow.Author.Tests.{le-leb, ltb-false, eqb-true}
use lib.Dec.{eqb, ltb}
use lib.ListN.{length, length-append}
use Rattle.command.specs.Meaning.{Meaning}
use Rattle.command.specs.Refusals.{number_of}
use Rattle.command.specs.declared.Refusal.{Refusal}
use Rattle.header.specs.Header.{Outcome as Heading, header_of, nothing}
use Rattle.lines.specs.Lines.{taken as input_limit, header_rows, refused_line}
use Rattle.number.specs.Decimal.{decimal_of}
use Rattle.number.proofs.Writing.{short}
use Rattle.parser.specs.All.{commands}
use Rattle.parser.specs.Next.{fresh as fresh_cursor}
use Rattle.rewrite.specs.Rewrite.{Outcome, rewritten}
use Rattle.text.proofs.Lists.{by-test}
use Rattle.token.specs.Read.{Valid}
use Rattle.token.specs.declared.Cursor.{Cursor}
use Rattle.write.specs.Layout.{fresh}
use Rattle.write.specs.Run.{layouts, states_after, taken}
use Rattle.write.specs.declared.Writer.{Writer}
use Rattle.write_header.specs.Meanings.{header_meanings}
use Rattle.write_header.specs.Written.{stopped}
use Rattle.reformat_job.specs.Reformat.{lent_bytes, Report, ends, refused_at, after, commands_report, headed_report, heading, reformatted}
use Rattle.reformat_job.specs.Turns.{Turned, Does, last_of, written_next, opened, begin_turn, goes_on, next_of, commands_turn, turn_of, is_finished, Runs, over, turn, row_words, Prints}
use Rattle.reformat_job.specs.declared.State.{State}
use Rattle.reformat_job.specs.declared.Turn.{Turn}
use Rattle.reformat_job.proofs.Reading.{is_no_room, honest, sound}
use Rattle.reformat_job.proofs.Joining.{is_full, last_report, Joins, over as joins-over, full as joins-full, joins, stuck, further, LineIn, line-in, stays}
use Rattle.reformat_job.proofs.Heading.{HeaderLineIn, header-stops}

-- ---- how many turns are left, at most
abbrev pub left : List ℕ → State → ℕ
left s State.Begin = 3 + length s
left s (State.Commands c w) = 2 + (length s - c.place)
left s (State.Last e n) = 1
left s (State.Finished whole) = 0

near-written : (s : List ℕ) (room : ℕ) (all l : List Meaning) (c : Cursor) → left s (written_next room all l c) < 3 + length s
near-written s room all l c = by-test (eqb (length l) (length all)) (λ e. rw e (omega arith)) (λ e. rw e (omega arith))

near-opened : (s : List ℕ) (room : ℕ) (table : List ℕ) (h : Heading) (x : Ended) → left s (opened s room table h x).next < 3 + length s
near-opened s room table h (Ok tt) = let all : List Meaning = header_meanings s h.kept h.rows in near-written s room all (taken fresh room all) h.cursor
near-opened s room table h (Err (e, n)) = omega arith

near-begin : (s : List ℕ) (room : ℕ) (table : List ℕ) → left s (begin_turn s room table).next < 3 + length s
unfolding begin_turn
near-begin s room table =
    let h : Heading = header_of s fresh_cursor table in
    by-test (ltb input_limit (length s)) (λ e. rw e (omega arith)) (λ e. rw e (near-opened s room table h h.ended))

some_bytes : (n : ℕ) → eqb n 0 ≡ false → 0 < n
some_bytes zero e = let y : ◌≡◌ {A = ℕ} 0 1 = cc in absurd (omega arith)
some_bytes (suc n) e = omega arith

near_next : (s : List ℕ) (c d : Cursor) (w : Writer) (n : ℕ) (x : Ended) → (is_full x ≡ true → 0 < n → length s - d.place < length s - c.place)
    → left s (next_of d w n x) < 2 + (length s - c.place)
near_next s c d w n (Ok tt) f = omega arith
near_next s c d w n (Err (e, l)) f =
    by-test (eqb n 0) (λ q. rw q (omega arith))
    (λ q.
    by-test (is_no_room e)
    (λ r. let g : length s - d.place < length s - c.place = f r (some_bytes n q) in rw (q, r) (omega arith))
    (λ r. rw (q, r) (omega arith)))

near-commands : (s : List ℕ) (room : ℕ) (table : List ℕ) (c : Cursor) (w : Writer) → left s (commands_turn s room table c w).next < 2 + (length s - c.place)
unfolding commands_turn
near-commands s room table c w =
    let o : Outcome = rewritten s room w c (commands s c) in
    near_next s c o.cursor o.writer (length o.bytes) o.ended (λ f. (further s (commands s c) room w c (honest s c) refl f).1)

-- after each turn fewer are left
pub nearer : (s : List ℕ) (room : ℕ) (table : List ℕ) (st : State) → is_finished st ≡ false → left s (turn_of s room table st).next < left s st
nearer s room table State.Begin f = near-begin s room table
nearer s room table (State.Commands c w) f = near-commands s room table c w
nearer s room table (State.Last e n) f = omega arith
nearer s room table (State.Finished whole) f = let z : ◌≡◌ {A = ℕ} 0 1 = cc in absurd (omega arith)

-- and so after a call of one
pub turn_on : {r : Turn} {rows out' : List ℕ} {b : Bool} (s table out : List ℕ) (st : State) → b ≡ is_finished st → b ≡ false
    → Does r rows out' out (turn_of s (length out) table st) → left s r.next < left s st
turn_on s table out st e f d = rw d.next (nearer s (length out) table st (sym e ∙ f))

-- ---- what is still to be printed from a state on, and what holds there: a cursor of the input, a line of it
abbrev rest : List ℕ → State → Report
rest s State.Begin = reformatted s
rest s (State.Commands c w) = commands_report s lent_bytes w (commands s c)
rest s (State.Last e n) = refused_at e n
rest s (State.Finished whole) = ends whole

abbrev Stands : List ℕ → List ℕ → State → Type 0
Stands s table State.Begin = length table ≡ row_words
Stands s table (State.Commands c w) = (length s ≤ input_limit) × Valid s c
Stands s table (State.Last e n) = (length s ≤ input_limit) × (n ≤ length s + 1)
Stands s table (State.Finished whole) = Unit {0}

-- a turn prints what comes first, and leaves the rest
abbrev Goes : List ℕ → State → Turned → Type 0
Goes s st t = Stands s t.rows t.next × (after t.bytes (rest s t.next) ≡ rest s st)

-- the header
module _ (s table : List ℕ) (sized : length table ≡ row_words) where
  heading-is : header_of s fresh_cursor table ≡ heading s
  unfolding heading
  heading-is = rw sized

  module _ (low : length s ≤ input_limit) where
    written-goes : (rows : List ℕ) (all l : List Meaning) (c : Cursor) → Valid s c
        → Stands s rows (written_next lent_bytes all l c)
        × (rest s (written_next lent_bytes all l c)
        ≡ cond (eqb (length l) (length all)) (commands_report s lent_bytes (states_after fresh l) (commands s c)) (refused_at (stopped fresh lent_bytes all) c.line))
    written-goes rows all l c v =
        by-test (eqb (length l) (length all)) (λ e. rw e ((low, v), refl)) (λ e. rw e ((low, line-in s c v), refl))

    opened-goes : (h : Heading) → Valid s h.cursor → (x : Ended) → HeaderLineIn s x
        → let t : Turned = opened s lent_bytes table h x in Stands s t.rows t.next × (after t.bytes (rest s t.next) ≡ headed_report s lent_bytes h x)
    opened-goes h v (Ok tt) y =
        let all : List Meaning = header_meanings s h.kept h.rows in
        let l : List Meaning = taken fresh lent_bytes all in
        let g = written-goes (opened s lent_bytes table h (Ok tt)).rows all l h.cursor v in
        (g.0, ap (after (layouts l)) g.1)
    opened-goes h v (Err (e, n)) y = ((low, y), refl)

    fresh-valid : Valid s fresh_cursor
    fresh-valid = record { short = omega arith; within = omega arith; started = omega arith; counted = omega arith }

    headed-goes : let t : Turned = opened s lent_bytes table (heading s) (heading s).ended in
        Stands s t.rows t.next × (after t.bytes (rest s t.next) ≡ headed_report s lent_bytes (heading s) (heading s).ended)
    unfolding heading
    headed-goes =
        let x = header-stops s header_rows (commands s fresh_cursor) (sound s fresh_cursor fresh-valid) [] 0 nothing in
        opened-goes (heading s) x.0 (heading s).ended x.1

  begin-goes : Goes s State.Begin (begin_turn s lent_bytes table)
  unfolding begin_turn reformatted
  begin-goes =
      by-test (ltb input_limit (length s)) (λ e. rw e (tt, refl))
      (λ e. rw (e, heading-is) (headed-goes (ltb-false input_limit (length s) e)))

-- the commands
module _ (s table : List ℕ) (low : length s ≤ input_limit) (c : Cursor) (w : Writer) (v : Valid s c) where
  abbrev o : Outcome
  o = rewritten s lent_bytes w c (commands s c)

  next-stands : (d : Cursor) (u : Writer) (n : ℕ) (x : Ended) → Valid s d → LineIn s x → Stands s table (next_of d u n x)
  next-stands d u n (Ok tt) y z = tt
  next-stands d u n (Err (e, l)) y z = by-test (goes_on e n) (λ q. rw q (low, y)) (λ q. rw q (low, z))

  -- where it does not go on, the end or a line is left
  next-over : (d : Cursor) (u : Writer) (n : ℕ) (x : Ended) → is_full x ≡ false → rest s (next_of d u n x) ≡ last_report x
  next-over d u n (Ok tt) f = refl
  next-over d u n (Err (e, l)) f = by-test (eqb n 0) (λ q. rw q refl) (λ q. rw (q, f) refl)

  next-none : (d : Cursor) (u : Writer) (x : Ended) → rest s (next_of d u 0 x) ≡ last_report x
  next-none d u (Ok tt) = refl
  next-none d u (Err (e, l)) = refl

  next-full : (d : Cursor) (u : Writer) (n : ℕ) (x : Ended) → is_full x ≡ true → eqb n 0 ≡ false → rest s (next_of d u n x) ≡ commands_report s lent_bytes u (commands s d)
  next-full d u n (Ok tt) f q = let z : ◌≡◌ {A = ℕ} 0 1 = cc in absurd (omega arith)
  next-full d u n (Err (e, l)) f q = rw (q, f) refl

  nothing-first : (b : List ℕ) (r : Report) → length b ≡ 0 → after b r ≡ r
  nothing-first [] r e = refl
  nothing-first (x ∷ b) r e = absurd (omega arith)

  joined : Joins s lent_bytes w (commands s c) o
      → after o.bytes (rest s (next_of o.cursor o.writer (length o.bytes) o.ended)) ≡ commands_report s lent_bytes w (commands s c)
  joined (joins-over f g) = ap (after o.bytes) (next-over o.cursor o.writer (length o.bytes) o.ended f) ∙ g
  joined (joins-full f g) =
      by-test (eqb (length o.bytes) 0)
      (λ i.
      let z : length o.bytes ≡ 0 = eqb-true _ _ i in
      nothing-first o.bytes _ z ∙ ap (λ (n : ℕ). rest s (next_of o.cursor o.writer n o.ended)) z ∙ next-none o.cursor o.writer o.ended
      ∙ sym (stuck s lent_bytes w c (commands s c) z))
      (λ i. ap (after o.bytes) (next-full o.cursor o.writer (length o.bytes) o.ended f i) ∙ g)

  commands-goes : Goes s (State.Commands c w) (commands_turn s lent_bytes table c w)
  unfolding commands_turn
  commands-goes =
      let y = stays s (commands s c) lent_bytes w c v (sound s c v) in
      (next-stands o.cursor o.writer (length o.bytes) o.ended y.0 y.1, joined (joins s lent_bytes (commands s c) lent_bytes w c (omega arith) (honest s c) refl))

-- ---- the last line has room
number_small : (e : Refusal) → number_of e ≤ 25
number_small Refusal.UnexpectedEof = omega arith
number_small Refusal.InvalidUtf8 = omega arith
number_small Refusal.UnexpectedCharacter = omega arith
number_small Refusal.TokenTooLong = omega arith
number_small Refusal.ExpectedEndCommand = omega arith
number_small Refusal.UnmatchedEnd = omega arith
number_small Refusal.UnknownCommand = omega arith
number_small Refusal.UnexpectedHeaderCommand = omega arith
number_small Refusal.ParseIntError = omega arith
number_small Refusal.ParseFloatError = omega arith
number_small Refusal.InvalidTimescaleUnit = omega arith
number_small Refusal.InvalidScopeType = omega arith
number_small Refusal.InvalidVarType = omega arith
number_small Refusal.InvalidReferenceIndex = omega arith
number_small Refusal.InvalidValueChar = omega arith
number_small Refusal.IdEmpty = omega arith
number_small Refusal.IdInvalidChars = omega arith
number_small Refusal.IdTooLong = omega arith
number_small Refusal.TooDeep = omega arith
number_small Refusal.TableFull = omega arith
number_small Refusal.NoRoom = omega arith
number_small Refusal.NotWritable = omega arith
number_small Refusal.BadTable = omega arith
number_small Refusal.ListFull = omega arith
number_small Refusal.BadPlace = omega arith

line-room : (e : Refusal) (n : ℕ) → n ≤ input_limit + 1 → length (refused_line (number_of e) n) ≤ lent_bytes
line-room e n h =
    let a : length (decimal_of (number_of e)) ≤ 2 = short 1 (number_of e) (omega (arith, number_small e)) in
    let b : length (decimal_of n) ≤ 5 = short 4 n (omega arith) in
    simp length-append (omega arith)

last_goes : (s table : List ℕ) (e : Refusal) (n : ℕ) → length s ≤ input_limit → n ≤ length s + 1
    → Goes s (State.Last e n) (last_of lent_bytes table (refused_line (number_of e) n))
last_goes s table e n low h = (tt, rw (le-leb _ _ (line-room e n (omega arith))) (ap (λ (x : List ℕ). record { text = x; whole = false }) (append-nil _)))

-- ---- all turns
module _ (s : List ℕ) where
  abbrev Ran : List ℕ → State → Type 0
  Ran table st = Runs s lent_bytes table st (rest s st).text (rest s st).whole

  abbrev Below : ℕ → Type 0
  Below n = (table : List ℕ) (st : State) → left s st ≤ n → Stands s table st → Ran table st

  step : (n : ℕ) (table : List ℕ) (st : State) → left s st ≤ suc n → is_finished st ≡ false → Goes s st (turn_of s lent_bytes table st) → Below n → Ran table st
  step n table st h f g ih =
      let t : Turned = turn_of s lent_bytes table st in
      let near : left s t.next < left s st = nearer s lent_bytes table st f in
      let r : Report = rest s t.next in
      let run : Runs s lent_bytes table st (t.bytes ++ r.text) r.whole = turn t refl (ih t.rows t.next (omega arith) g.0) in
      subst (λ (x : Report). Runs s lent_bytes table st x.text x.whole) g.1 run

  none : Below 0
  none table (State.Finished whole) h x = over
  none table State.Begin h x = absurd (omega arith)
  none table (State.Commands c w) h x = absurd (omega arith)
  none table (State.Last e n) h x = absurd (omega arith)

  one : (n : ℕ) → Below n → Below (suc n)
  one n ih table (State.Finished whole) h x = over
  one n ih table State.Begin h x = step n table State.Begin h refl (begin-goes s table x) ih
  one n ih table (State.Commands c w) h x = step n table (State.Commands c w) h refl (commands-goes s table x.0 c w x.1) ih
  one n ih table (State.Last e l) h x = step n table (State.Last e l) h refl (last_goes s table e l x.0 x.1) ih

  runs : (n : ℕ) → Below n
  runs zero = none
  runs (suc n) = one n (runs n)

pub prints : Prints
prints s table sized = runs s (left s State.Begin) table State.Begin (omega arith) sized
