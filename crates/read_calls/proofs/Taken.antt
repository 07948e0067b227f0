-- What is known of rows that are there.
use Prim.Native.Nat.{ℕ, ◌+◌, ◌*◌, ◌/◌, ◌≤◌, ◌<◌}
use mathlib.Core.Path.{◌≡◌, refl, sym, ◌∙◌}
use mathlib.Core.Bool.{Bool, true, false, true≢false}
use mathlib.Core.List.{List}
use native.Mathlib.Omega.{arith}
use borrow.Author.Tests.{ltb-true}
use lib.Dec.{ltb}
use lib.ListN.{length}
use Rattle.text.proofs.Lists.{by-test}
use Rattle.rows.specs.Rows.{row_at}
use Rattle.rows.specs.declared.Row.{Row}
use Rattle.change.specs.Rows.{change_at}
use Rattle.change.specs.declared.Change.{Change}
use Rattle.read_calls.specs.Reading.{is_row, is_change}

-- ---- rows
below : (n i : ℕ) {is : Bool} → is ≡ true → (ltb i n ≡ false → is ≡ false) → i < n
below n i e f = by-test (ltb i n) (λ t. ltb-true i n t) (λ t. absurd (true≢false (sym e ∙ f t)))

pub row_inside : (t : List ℕ) (i : ℕ) {r : Row} → r ≡ row_at t i → is_row r ≡ true → 10 * i + 10 ≤ length t
unfolding row_at
row_inside t i e h = let l : i < length t / 10 = below (length t / 10) i h (λ g. rw (e, g) refl) in omega arith

pub change-inside : (t : List ℕ) (i : ℕ) {r : Change} → r ≡ change_at t i → is_change r ≡ true → 6 * i + 6 ≤ length t
unfolding change_at
change-inside t i e h = let l : i < length t / 6 = below (length t / 6) i h (λ g. rw (e, g) refl) in omega arith
