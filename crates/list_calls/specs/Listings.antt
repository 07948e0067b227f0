-- What each listing call answers, and what it leaves in each lent array. An answer is 0 or the page's number of a refusal; 25 with nothing
-- changed, where the words of the cursor or of the time are none.
use Rattle.command.specs.Refusals.{Ended}
use Rattle.command.specs.declared.Time.{Time}
use Rattle.std.specs.Prelude.{ℕ, List, length, Option, Some, None, Ok, Err}
use Rattle.change.specs.Rows.{since_words, since_in, filled}
use Rattle.command.specs.Refusals.{number_of}
use Rattle.listing.specs.Listing.{Outcome, list_on_of}
use Rattle.token.specs.declared.Cursor.{Cursor}
use Rattle.vcd_state.specs.State.{cursor_words, cursor_of}

-- the answer, the cursor's and the time's words, the table, the count
pub record Left : Type 0 where
  pub status : ℕ
  pub cursor : List ℕ
  pub since : List ℕ
  pub table : List ℕ
  pub count : ℕ

abbrev pub status_of : Ended → ℕ
status_of (Ok tt) = 0
status_of (Err (e, line)) = number_of e

abbrev pub listed : List ℕ → Outcome → Left
listed t o =
    record {
      status = status_of o.ended;
      cursor = cursor_words o.cursor;
      since = since_words o.since;
      table = filled o.rows t;
      count = length o.rows;
    }

abbrev pub on_state : (Cursor → Option Time → Left) → Left → Option Cursor → Option (Option Time) → Left
on_state f x (Some c) (Some t) = f c t
on_state f x (Some c) None = x
on_state f x None r = x

-- the input, the words of the cursor and of the time, the code, the table, the count
unfoldable pub list_on_call : List ℕ → List ℕ → List ℕ → ℕ → List ℕ → ℕ → Left
list_on_call s w u i t n =
    on_state (λ c v. listed t (list_on_of s c v (record { 0 = i }) t))
    (record { status = 25; cursor = w; since = u; table = t; count = n })
    (cursor_of w)
    (since_in u)

-- with no time
abbrev pub list_call : List ℕ → List ℕ → ℕ → List ℕ → ℕ → Left
list_call s w i t n = list_on_call s w (since_words None) i t n
