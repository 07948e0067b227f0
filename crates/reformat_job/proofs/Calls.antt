-- What a turn's calls come to, each arm by itself. Assumes nothing.
use Rattle.std.specs.Prelude.{Option, Ok, Err}
use Prim.Native.Nat.{ℕ, ◌≤◌, ◌<◌}
use mathlib.Core.Path.{◌≡◌, refl, sym, ap, ◌∙◌}
use mathlib.Core.Bool.{false}
use mathlib.Core.List.{List}
use borrow.Author.Tests.{lt-ltb, le-ltb, eq-eqb}
use lib.Dec.{eqb, leb}
use lib.ListN.{length}
use Rattle.command.specs.Meaning.{Meaning}
use Rattle.command.specs.Refusals.{number_of}
use Rattle.command.specs.declared.Refusal.{Refusal}
use Rattle.header.specs.Header.{Outcome as Heading, header_of, answer_of as header_answer}
use Rattle.header.specs.declared.HeaderAnswer.{HeaderAnswer}
use Rattle.lines.specs.Lines.{taken as input_limit, long_line, refused_line}
use Rattle.parser.specs.Next.{fresh as fresh_cursor}
use Rattle.rewrite.specs.Rewrite.{rewrite_of, answer_of, filled as output_of}
use Rattle.rewrite.specs.declared.Rewritten.{Rewritten}
use Rattle.rows.specs.Rows.{filled}
use Rattle.text.specs.Texts.{put_answer, put_bytes}
use Rattle.text.proofs.Lists.{by-test}
use Rattle.token.specs.declared.Cursor.{Cursor}
use Rattle.write.specs.Layout.{fresh}
use Rattle.write.specs.Run.{taken}
use Rattle.write.specs.declared.Writer.{Writer}
use Rattle.write_header.specs.Meanings.{header_meanings}
use Rattle.write_header.specs.Written.{Outcome, poured, header_call}
use Rattle.reformat_job.specs.Turns.{Does, Leaves, last_of, opened, begin_turn, goes_on, next_of, commands_turn, count_of, headed_turn}
use Rattle.reformat_job.specs.declared.State.{State}
use Rattle.reformat_job.specs.declared.Turn.{Turn}
use Rattle.reformat_job.proofs.Heading.{header-written}

-- ---- after some commands
pub none_first : {n : ℕ} (e : Refusal) → n ≡ 0 → false ≡ goes_on e n
none_first {n} e h = rw (eq-eqb n 0 h)

pub commands-done : {a : Rewritten} {out : List ℕ} {x : State} (s : List ℕ) (c : Cursor) (w : Writer) (out₀ : List ℕ) → a ≡ answer_of (rewrite_of s c w out₀)
    → out ≡ output_of (rewrite_of s c w out₀).bytes out₀ → x ≡ next_of a.cursor a.writer a.count a.ended
    → Leaves (record { count = a.count; next = x }) out out₀ (λ table. commands_turn s (length out₀) table c w)
unfolding commands_turn rewrite_of
commands-done s c w out₀ q o n table = rw (n, q) (record { count = refl; next = refl; table = refl; output = o })

-- ---- a last line
pub last_line : {r : Turn} {p : Option ℕ} {out : List ℕ} (line out₀ table : List ℕ) → r ≡ record { count = count_of p; next = State.Finished false }
    → p ≡ put_answer line out₀ → out ≡ put_bytes line out₀ → Does r table out out₀ (last_of (length out₀) table line)
unfolding put_answer put_bytes
last_line {r} {p} line out₀ table e q o =
    let count : r.count ≡ count_of p = ap (λ (x : Turn). x.count) e in
    let next : r.next ≡ State.Finished false = ap (λ (x : Turn). x.next) e in
    by-test (leb (length line) (length out₀))
    (λ t. rw t (record { count = count ∙ ap count_of q ∙ rw t; next = next; table = refl; output = o ∙ rw t }))
    (λ t. rw t (record { count = count ∙ ap count_of q ∙ rw t; next = next; table = refl; output = o ∙ rw t }))

pub last-refused : {r : Turn} {p : Option ℕ} {out : List ℕ} {n : ℕ} (e : Refusal) (l : ℕ) (out₀ table : List ℕ) → n ≡ number_of e
    → r ≡ record { count = count_of p; next = State.Finished false } → p ≡ put_answer (refused_line n l) out₀ → out ≡ put_bytes (refused_line n l) out₀
    → Does r table out out₀ (last_of (length out₀) table (refused_line (number_of e) l))
last-refused e l out₀ table a z q o =
    last_line (refused_line (number_of e) l) out₀ table z (q ∙ ap (λ (k : ℕ). put_answer (refused_line k l) out₀) a)
    (o ∙ ap (λ (k : ℕ). put_bytes (refused_line k l) out₀) a)

-- ---- the header
pub begin-long : {r : Turn} {p : Option ℕ} {out : List ℕ} (s out₀ table : List ℕ) → input_limit < length s → r ≡ record { count = count_of p; next = State.Finished false }
    → p ≡ put_answer long_line out₀ → out ≡ put_bytes long_line out₀ → Does r table out out₀ (begin_turn s (length out₀) table)
unfolding begin_turn
begin-long s out₀ table h e q o = rw (lt-ltb input_limit (length s) h) (last_line long_line out₀ table e q o)

poured-turn : {r : Turn} {out : List ℕ} (s out₀ table : List ℕ) (h : Heading)
    → let all = header_meanings s h.kept h.rows in let x = poured fresh all (taken fresh (length out₀) all) out₀ in
    r ≡ headed_turn h.cursor x.answer → out ≡ x.left → Does r (filled h.rows table) out out₀ (opened s (length out₀) table h (Ok tt))
poured-turn s out₀ table h e o =
    let all : List Meaning = header_meanings s h.kept h.rows in
    let l : List Meaning = taken fresh (length out₀) all in
    by-test (eqb (length l) (length all))
    (λ t. rw t (record { count = ap (λ (x : Turn). x.count) e ∙ rw t; next = ap (λ (x : Turn). x.next) e ∙ rw t; table = refl; output = o }))
    (λ t. rw t (record { count = ap (λ (x : Turn). x.count) e ∙ rw t; next = ap (λ (x : Turn). x.next) e ∙ rw t; table = refl; output = o }))

module _ (s table out₀ : List ℕ) (low : length s ≤ input_limit) {a : HeaderAnswer} {rows : List ℕ} {c : Cursor} (f : c ≡ fresh_cursor)
    (q : a ≡ header_answer (header_of s c table)) (w : rows ≡ filled (header_of s c table).rows table) where
  abbrev h : Heading
  h = header_of s fresh_cursor table

  answered : a ≡ header_answer h
  answered = q ∙ ap (λ (x : Cursor). header_answer (header_of s x table)) f

  stored : rows ≡ filled h.rows table
  stored = w ∙ ap (λ (x : Cursor). filled (header_of s x table).rows table) f

  ended : a.ended ≡ h.ended
  ended = ap (λ (x : HeaderAnswer). x.ended) answered

  -- the call that writes the header
  abbrev due : Outcome
  due = let all = header_meanings s h.kept h.rows in poured fresh all (taken fresh (length out₀) all) out₀

  called : header_call fresh s a.header rows a.count out₀ ≡ due
  called = rw (answered, stored) (header-written fresh s fresh_cursor table out₀ low)

  pub begin-whole : {r : Turn} {out : List ℕ} → a.ended ≡ (Ok tt) → r ≡ headed_turn a.cursor (header_call fresh s a.header rows a.count out₀).answer
      → out ≡ (header_call fresh s a.header rows a.count out₀).left → Does r rows out out₀ (begin_turn s (length out₀) table)
  unfolding begin_turn
  begin-whole g e o =
      rw (le-ltb input_limit (length s) low, sym ended ∙ g, stored)
      (poured-turn s out₀ table h
      (e ∙ ap (λ (x : Outcome). headed_turn a.cursor x.answer) called ∙ ap (λ (x : HeaderAnswer). headed_turn x.cursor due.answer) answered)
      (o ∙ ap (λ (x : Outcome). x.left) called))

  pub begin-refused : {e : Refusal} {l : ℕ} → a.ended ≡ Err (e, l)
      → Does (record { count = 0; next = State.Last e l }) rows out₀ out₀ (begin_turn s (length out₀) table)
  unfolding begin_turn
  begin-refused g = rw (le-ltb input_limit (length s) low, sym ended ∙ g, stored) (record { count = refl; next = refl; table = refl; output = refl })
