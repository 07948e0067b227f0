-- What the private functions that write rows promise: the rest of the writing, from where they stop, gives the same outcome.
use Rattle.command.specs.declared.Refusal.{Refusal}
use Rattle.std.specs.Prelude.{ℕ, ◌+◌, ◌≤◌, ◌<◌, ◌≡◌, true, false, List, [], ◌∷◌, length, Result, Ok, Err}
use Rattle.scope.specs.Limits.{most_levels}
use Rattle.command.specs.Meaning.{upscope}
use Rattle.rows.specs.Good.{is_good_from}
use Rattle.header.specs.Header.{inner}
use Rattle.rows.specs.Rows.{parent_of, row_at}
use Rattle.text.specs.Texts.{too_long}
use Rattle.write.specs.declared.Writer.{Writer}
use Rattle.tree.specs.Chain.{parent_at, rest}
use Rattle.tree.specs.Place.{row_outside}
use Rattle.write_header.specs.Meanings.{row_meanings}
use Rattle.write_header.specs.Pour.{pour, stop, Writes}
use Rattle.write_header.specs.Written.{Outcome}

-- no text is misplaced
pub record Inside (s table : List ℕ) (n : ℕ) : Type 0 where
  pub short : too_long s ≡ false
  pub placed : (i : ℕ) → i < n → row_outside s (row_at table i) ≡ false

-- where row i is to be written with these scopes open, `me` the innermost: what holds of the writing from there
abbrev pub Where : List ℕ → ℕ → ℕ → ℕ → ℕ → (List ℕ → Type 0) → Type 0
Where table n levels me i P =
    (st : List ℕ) → length st + levels ≡ most_levels → inner st ≡ parent_of me → is_good_from i st (rest table n i) ≡ true → P st

-- the writing goes on with row i' at the place at', with the same scopes open
abbrev pub Goes : List ℕ → List ℕ → ℕ → ℕ → ℕ → ℕ → List ℕ → ℕ → Writer → ℕ → List ℕ → ℕ → Writer → Type 0
Goes s table n levels me i o at w i' o' at' w' =
    Where table n levels me i λ st.
    (is_good_from i' st (rest table n i') ≡ true)
    × (pour o at w (row_meanings s i st (rest table n i)) ≡ pour o' at' w' (row_meanings s i' st (rest table n i')))

-- the writing ends here
abbrev pub Ends : List ℕ → List ℕ → ℕ → ℕ → ℕ → ℕ → List ℕ → ℕ → Writer → Outcome → Type 0
Ends s table n levels me i o at w x = Where table n levels me i λ st. pour o at w (row_meanings s i st (rest table n i)) ≡ x

-- row i, an item of its scope
abbrev pub WritesItem : List ℕ → List ℕ → ℕ → ℕ → ℕ → List ℕ → ℕ → Writer → Result (ℕ × ℕ × Writer) (Refusal × ℕ × Writer) → List ℕ → Type 0
WritesItem s table n levels i o at w (Ok (i', at', w')) o' =
    (i < i') × (i' ≤ n) × (at' ≤ length o') × Goes s table n levels (parent_at table i) i o at w i' o' at' w'
WritesItem s table n levels i o at w (Err (e, at', w')) o' =
    Ends s table n levels (parent_at table i) i o at w (stop e at' w' o')

-- the items of the scope `me` from row i on
abbrev pub WritesScope : List ℕ → List ℕ → ℕ → ℕ → ℕ → ℕ → List ℕ → ℕ → Writer → Result (ℕ × ℕ × Writer) (Refusal × ℕ × Writer) → List ℕ → Type 0
WritesScope s table n levels me i o at w (Ok (i', at', w')) o' =
    (i ≤ i') × (i' ≤ n) × (at' ≤ length o') × (i' < n → parent_at table i' ≡ me → ⊥) × Goes s table n levels me i o at w i' o' at' w'
WritesScope s table n levels me i o at w (Err (e, at', w')) o' = Ends s table n levels me i o at w (stop e at' w' o')

-- a scope's items were written, and then the `$upscope` after them; or they were not
abbrev pub Closes : Result (ℕ × ℕ × Writer) (Refusal × ℕ × Writer) → List ℕ → Result (ℕ × ℕ × Writer) (Refusal × ℕ × Writer) → List ℕ → Type 0
Closes (Ok (i, at, w)) o r o' = Writes o at w (upscope ∷ []) i r o'
Closes (Err (e, at, w)) o r o' = (r ≡ Err (e, at, w)) × (o' ≡ o)

-- the place that they end at lies in an output of n bytes
abbrev pub Fits : Result (ℕ × ℕ × Writer) (Refusal × ℕ × Writer) → ℕ → Type 0
Fits (Ok (i, at, w)) n = at ≤ n
Fits (Err (e, at, w)) n = Unit {0}
