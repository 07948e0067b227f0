-- Which words of a record a kind uses.
use Rattle.std.specs.Prelude.{ℕ, ◌-◌, ◌^◌, Bool, cond, ◌&&◌, ◌||◌, eqb, leb}
use Rattle.record.specs.declared.RecordWords.{RecordWords}

-- the largest number of each kind's type, and the largest amount; a variable's are judged as a header's row
unfoldable pub number_most : ℕ → ℕ
number_most k = cond (eqb k 4) 5 (cond (eqb k 5) 4 (cond (eqb k 10 || eqb k 14 || eqb k 15) 3 0))

unfoldable pub amount_most : ℕ → ℕ
amount_most k = cond (eqb k 4) (2 ^ 32 - 1) (cond (eqb k 9) (2 ^ 64 - 1) 0)

unfoldable pub has_code : ℕ → Bool
has_code k = leb 10 k && leb k 13

unfoldable pub has_text : ℕ → Bool
has_text k = leb k 3 || eqb k 5 || (leb 11 k && leb k 13)

-- does a kind other than a variable's use type, amount, code and text so?
unfoldable pub is_used : RecordWords → Bool
is_used w =
    leb 1 w.kind && leb w.kind 15 && leb w.number (number_most w.kind) && leb w.amount (amount_most w.kind)
    && (eqb w.code 0 || has_code w.kind) && ((eqb w.start 0 && eqb w.len 0) || has_text w.kind)
