-- What the fast path answers of a token. Commands are held to the definitions of Plan.antt and of `parser`; these are only steps to them.
use Rattle.std.specs.Prelude.{◌≡◌, ℕ, ◌+◌, ◌^◌, ◌<◌, ◌≤◌, Bool, true, false, cond, List, length, drop, nat_lt, slice_index, Option, Some, None, Ok}
use Rattle.text.specs.Bytes.{is_blank}
use Rattle.utf8.specs.Utf8.{valid_utf8}
use Rattle.number.specs.Decimal.{parse_below}
use Rattle.idcode.specs.Id.{parse_id}
use Rattle.token.specs.Read.{word}

-- the word that starts at `at` is UTF-8, within the limit, and ends before e, where a blank stands
pub record Whole (s : List ℕ) (at e : ℕ) : Type 0 where
  pub some : at < e
  pub inside : e < length s
  pub few : e ≤ at + 32
  pub long : at + length (word (drop at s)) ≡ e
  pub ended : is_blank (slice_index s e) ≡ true
  pub text : valid_utf8 (word (drop at s)) ≡ true

-- a hit gives the word's end and meaning; a miss says nothing
abbrev pub FastNumber : List ℕ → ℕ → Option (ℕ × ℕ) → Type 0
FastNumber s at (Some (v, e)) = Whole s at e × (parse_below (2 ^ 64) (word (drop at s)) ≡ Some v)
FastNumber s at None = Unit {0}

abbrev pub FastId : List ℕ → ℕ → Option (ℕ × ℕ) → Type 0
FastId s at (Some (v, e)) = Whole s at e × (parse_id (word (drop at s)) ≡ Ok (record { 0 = v }))
FastId s at None = Unit {0}

-- do some bytes stand from `at` to e, and a blank after them?
abbrev pub ends_at : List ℕ → ℕ → ℕ → Bool
ends_at s at e = cond (nat_lt at e) (cond (nat_lt e (length s)) (is_blank (slice_index s e)) false) false
