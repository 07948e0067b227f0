-- The words that a kind uses, told apart; and a variable, which is judged as a header's row of it.
use Prim.Native.Nat.{ℕ, ◌≤◌, ◌<◌, ◌^◌}
use mathlib.Core.Path.{◌≡◌}
use mathlib.Core.Bool.{true, ◌&&◌, ◌||◌}
use native.Mathlib.Omega.{arith}
use borrow.Author.Tests.{leb-true}
use lib.Dec.{eqb, leb, ltb}
use Rattle.text.proofs.Lists.{by-test, both}
use Rattle.rows.specs.Rows.{is_index, row_of}
use Rattle.record.specs.Record.{var_row, var_command, command_of}
use Rattle.record.specs.Used.{number_most, amount_most, has_code, has_text, is_used}
use Rattle.record.specs.declared.RecordWords.{RecordWords}

pub record Used (w : RecordWords) : Type 0 where
  pub least : 1 ≤ w.kind
  pub most : w.kind ≤ 15
  pub type : w.number ≤ number_most w.kind
  pub number : w.amount ≤ amount_most w.kind
  pub code : (eqb w.code 0 || has_code w.kind) ≡ true
  pub text : ((eqb w.start 0 && eqb w.len 0) || has_text w.kind) ≡ true

pub used : (w : RecordWords) → is_used w ≡ true → Used w
unfolding is_used
used w e =
    let a = both _ _ e in
    let b = both _ _ a.0 in
    let d = both _ _ b.0 in
    let f = both _ _ d.0 in
    let g = both _ _ f.0 in
    record {
      least = leb-true 1 w.kind g.0;
      most = leb-true w.kind 15 g.1;
      type = leb-true w.number (number_most w.kind) f.1;
      number = leb-true w.amount (amount_most w.kind) d.1;
      code = b.1;
      text = a.1;
    }

-- a quantity is of 32 bits
pub quantity-fits : (k v : ℕ) → k ≡ 4 → v ≤ amount_most k → v < 2 ^ 32
unfolding amount_most
quantity-fits k v e h = let q : v ≤ 4294967295 = rw e at h in omega arith

-- a variable's words are judged as those of a header's row
pub var-row : (w : RecordWords) → w.kind ≡ 7 → var_command (row_of (var_row w)) ≡ command_of w
unfolding row_of command_of
var-row w k = rw k (by-test (leb w.number 17 && ltb w.amount (2 ^ 32) && is_index w.form w.first w.second) (λ e. rw e) (λ e. rw e))
