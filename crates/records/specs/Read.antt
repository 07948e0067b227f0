-- Reading into records: the commands from a cursor, in order, as many as have room.
use Rattle.std.specs.Prelude.{ℕ, zero, suc, ◌+◌, ◌*◌, ◌/◌, ◌≤◌, ◌<◌, ◌≡◌, cond, List, [], ◌∷◌, ◌++◌, length, drop, get_or}
use Rattle.command.specs.declared.Command.{Command}
use Rattle.command.specs.declared.Refusal.{Refusal}
use Rattle.parser.specs.All.{Commands, command, stop, finish, commands}
use Rattle.parser.specs.Next.{is_good}
use Rattle.parser.specs.declared.Next.{Next}
use Rattle.token.specs.Flat.{word_read}
use Rattle.token.specs.Read.{Valid}
use Rattle.token.specs.declared.Cursor.{Cursor}
use Rattle.record.specs.Record.{record_words, words_of, put}
use Rattle.records.specs.declared.Ended.{Ended}
use Rattle.records.specs.declared.ReadAnswer.{ReadAnswer}
use Rattle.records.specs.declared.Step.{Step}

pub record Outcome : Type 0 where
  pub commands : List Command
  pub cursor : Cursor
  pub ended : Ended

-- no command, and how it ends
abbrev pub ends : Cursor → Ended → Outcome
ends c e = record { commands = []; cursor = c; ended = e }

abbrev pub after : Command → Outcome → Outcome
after k o = record { commands = k ∷ o.commands; cursor = o.cursor; ended = o.ended }

-- at most n commands; with no room for one more it is not asked whether there is one
unfoldable pub taken : ℕ → Cursor → Commands → Outcome
taken zero c cs = ends c Ended.Full
taken (suc n) c (command k d more) = after k (taken n d more)
taken (suc n) c (stop e line d) = ends d (Ended.Refused e line)
taken (suc n) c (finish d) = ends d Ended.Whole

-- 25 first
unfoldable pub read_of : List ℕ → Cursor → List ℕ → Outcome
read_of s c table =
    cond (is_good s c) (taken (length table / 9) c (commands s c)) (ends c (Ended.Refused Refusal.BadPlace c.line))

abbrev pub answer_of : Outcome → ReadAnswer
answer_of o = record { cursor = o.cursor; count = length o.commands; ended = o.ended }

-- the table then: the commands' words, and the rest as it was
abbrev pub filled : List Command → List ℕ → List ℕ
filled ks table = words_of ks ++ drop (9 * length ks) table

-- ---- what one step of it answers and leaves
abbrev pub step_of : Next → Step
step_of (Next.Command k d) = Step.Read d
step_of (Next.Refused e line d) = Step.Ends d (Ended.Refused e line)
step_of (Next.Done d) = Step.Ends d Ended.Whole

-- a hit answers only the place of the blank that ends the command
abbrev pub as_slow : List ℕ → Cursor → Step → Step
as_slow s c (Step.Hit e) = Step.Read (word_read c e (get_or s e 0))
as_slow s c (Step.Read d) = Step.Read d
as_slow s c (Step.Ends d e) = Step.Ends d e

abbrev pub Inside : List ℕ → Step → Type 0
Inside s (Step.Hit e) = e < length s
Inside s (Step.Read d) = Unit {0}
Inside s (Step.Ends d e) = Unit {0}

abbrev pub table_of : Next → List ℕ → ℕ → List ℕ
table_of (Next.Command k d) table n = put table n (record_words k)
table_of (Next.Refused e line d) table n = table
table_of (Next.Done d) table n = table

-- ---- a run of steps
-- the commands ks, then o
abbrev pub joined : List Command → Outcome → Outcome
joined ks o = record { commands = ks ++ o.commands; cursor = o.cursor; ended = o.ended }

-- the records of the commands ks from n on
abbrev pub puts : List ℕ → ℕ → List Command → List ℕ
puts table n [] = table
puts table n (k ∷ ks) = puts (put table n (record_words k)) (n + 1) ks

-- from c and n records in t reading came to d and m records in u
pub record Ran (s : List ℕ) (c : Cursor) (n : ℕ) (t : List ℕ) (d : Cursor) (m : ℕ) (u : List ℕ) : Type 0 where
  pub made : List Command
  pub ahead : (r : ℕ) → taken (length made + r) c (commands s c) ≡ joined made (taken r d (commands s d))
  pub count : m ≡ n + length made
  pub room : 9 * m ≤ length t
  pub stored : u ≡ puts t n made
  pub valid : Valid s d
  pub past : c.place ≤ d.place
