-- A listing in the words of the demand: the commands that are read from a cursor on, and which of them are changes of a code.
use Rattle.command.specs.Refusals.{Ended}
use Rattle.command.specs.declared.Time.{Time}
use Rattle.std.specs.Prelude.{ℕ, zero, suc, ◌+◌, ◌*◌, ◌≡◌, Bool, false, cond, List, [], ◌∷◌, ◌++◌, eqb, drop, Option, None, Ok, Err}
use Rattle.text.specs.declared.Text.{Text}
use Rattle.idcode.specs.declared.IdCode.{IdCode}
use Rattle.command.specs.Refusals.{number_of}
use Rattle.command.specs.declared.Command.{Command}
use Rattle.token.specs.Read.{bit}
use Rattle.token.specs.declared.Cursor.{Cursor}
use Rattle.parser.specs.Next.{next_from}
use Rattle.parser.specs.declared.Next.{Next}
use Rattle.list_step.specs.Step.{Role, time, change, other, role_of}
use Rattle.listing.specs.Listing.{since_after, Outcome, list_in, list_on_of, answer_of}
use Rattle.change.specs.Rows.{change_at, filled}
use Rattle.change.specs.declared.Change.{Change}
use Rattle.change.specs.declared.ChangeKind.{ChangeKind}

-- a command that is read, with the cursors before and after it
pub record Step : Type 0 where
  pub from : Cursor
  pub what : Command
  pub to : Cursor

-- from c on these are read, one after the other, up to d
abbrev pub Steps : List ℕ → Cursor → List Step → Cursor → Type 0
Steps s c [] d = c ≡ d
Steps s c (x ∷ xs) d = (c ≡ x.from) × (next_from s c ≡ Next.Command x.what x.to) × Steps s x.to xs d

-- there reading stops: at the end, or by a refusal and the line of it
abbrev pub Stops : List ℕ → Cursor → Ended → Cursor → Type 0
Stops s d (Ok tt) f = next_from s d ≡ Next.Done f
Stops s d (Err (e, n)) f = next_from s d ≡ Next.Refused e n f

-- a time, a change with the kind and the place of its value, or nothing to a listing
abbrev pub role_in : List ℕ → Step → Role
role_in s x = role_of s x.from x.what

-- is it a change of the code i, and how many of them are?
abbrev pub is_of : IdCode → Role → Bool
is_of i (time t) = false
is_of i (change j k v) = eqb j.0 i.0
is_of i other = false

abbrev pub count : List ℕ → IdCode → List Step → ℕ
count s i [] = 0
count s i (x ∷ xs) = bit (is_of i (role_in s x)) + count s i xs

-- the last timestamp among them; t, if there is none
abbrev pub last_time : List ℕ → Option Time → List Step → Option Time
last_time s t [] = t
last_time s t (x ∷ xs) = last_time s (since_after t (role_in s x)) xs

-- The listing of the code i from c, where t was the last time, into a table: it holds exactly the changes among xs, and ends as e at f.
pub record HoldsOn (s : List ℕ) (c : Cursor) (t : Option Time) (i : IdCode) (table : List ℕ) (xs : List Step) (e : Ended) (f : Cursor) : Type 0 where
  -- as many rows as changes; and the last timestamp among xs, or t
  pub answer : answer_of (list_on_of s c t i table) ≡ record { cursor = f; count = count s i xs; ended = e; since = last_time s t xs }
  -- each change has the row after those of the changes before it: with the last timestamp before it, or t, and the reader's line just after it
  pub each : (ys zs : List Step) (x : Step) (k : ChangeKind) (v : Text) → xs ≡ ys ++ (x ∷ zs) → role_in s x ≡ change i k v
      → change_at (filled (list_on_of s c t i table).rows table) (count s i ys) ≡ Change.Is (last_time s t ys) x.to.line k v
  -- the words after these rows are as they were
  pub rest : drop (6 * count s i xs) (filled (list_on_of s c t i table).rows table) ≡ drop (6 * count s i xs) table

-- the same of `list`, which starts with no time
abbrev pub Holds : List ℕ → Cursor → IdCode → List ℕ → List Step → Ended → Cursor → Type 0
Holds s c i table xs e f = HoldsOn s c None i table xs e f

-- ---- pages
-- two listings, the second from where the first stopped: the rows of both, and the end of the second
abbrev pub joined : Outcome → Outcome → Outcome
joined a b = record { rows = a.rows ++ b.rows; ended = b.ended; cursor = b.cursor; since = b.since }

-- is it 24?
abbrev pub is_full : Ended → Bool
is_full (Ok tt) = false
is_full (Err (e, line)) = eqb (number_of e) 24

-- a page of n rows and at most k more, each from the cursor and the time that the one before answered, as long as that was full
unfoldable pub paged : List ℕ → IdCode → ℕ → ℕ → Cursor → Option Time → Outcome
paged s i n zero c t = list_in s c t i n
paged s i n (suc k) c t =
    let a : Outcome = list_in s c t i n in
    cond (is_full a.ended) (joined a (paged s i n k a.cursor a.since)) a
