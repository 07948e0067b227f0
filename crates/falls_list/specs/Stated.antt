-- The wrong listings that the public statement rules out. A listing is what it answers and leaves for each input, cursor, code and
-- table; that it meets the statement is the contract of the witness in src/.
use Rattle.command.specs.Refusals.{Ended}
use Rattle.command.specs.declared.Time.{Time}
use Rattle.std.specs.Prelude.{ℕ, ◌+◌, ◌≡◌, List, Option}
use Rattle.idcode.specs.declared.IdCode.{IdCode}
use Rattle.change.specs.Rows.{filled}
use Rattle.listing.specs.Listing.{list_of, answer_of}
use Rattle.listing.specs.declared.ListAnswer.{ListAnswer}
use Rattle.token.specs.declared.Cursor.{Cursor}

-- something for each input, cursor, code and table
abbrev pub OfList : Type 0 → Type 0
OfList A = List ℕ → Cursor → IdCode → List ℕ → A

abbrev pub Lists : OfList ListAnswer → OfList (List ℕ) → Type 0
Lists a l =
    (s : List ℕ) (c : Cursor) (i : IdCode) (t : List ℕ)
    → (a s c i t ≡ answer_of (list_of s c i t)) × (l s c i t ≡ filled (list_of s c i t).rows t)

-- 6: the count is not the input's; or it is one too many
abbrev pub invented : (Cursor → IdCode → List ℕ → ℕ) → OfList Cursor → OfList Ended → OfList (Option Time) → OfList ListAnswer
invented n d e u s c i t = record { cursor = d s c i t; count = n c i t; ended = e s c i t; since = u s c i t }

abbrev pub one_more : OfList ListAnswer
one_more s c i t =
    let a : ListAnswer = answer_of (list_of s c i t) in record { cursor = a.cursor; count = a.count + 1; ended = a.ended; since = a.since }

pub record ListingsFall : Type 0 where
  pub invented-count :
      (n : Cursor → IdCode → List ℕ → ℕ) (d : OfList Cursor) (e : OfList Ended) (u : OfList (Option Time)) (l : OfList (List ℕ)) → Lists (invented n d e u) l → ⊥
  pub one_more_lem : (l : OfList (List ℕ)) → Lists one_more l → ⊥
