-- Goals of `record::used::number_most` that the search leaves.
use Prim.Native.Nat.{ℕ, ◌≤◌, ◌<◌}
use mathlib.Core.Path.{◌≡◌}
use native.Mathlib.Omega.{arith}
use borrow.Author.Tests.{ne_eqb, eqb-true, eqb-false}
use lib.Dec.{eqb}
use Rattle.text.proofs.Lists.{by-test}
use Rattle.record.specs.Used.{number_most}
use Rattle.record.proofs.used.number_most.Goals as goal

late : (k : ℕ) → 14 ≤ k → k < 16 → 3 ≡ number_most k
unfolding number_most
late k l u = by-test (eqb k 14) (λ e. rw (eqb-true k 14 e)) (λ e. let n : k ≡ 14 → ⊥ = eqb-false k 14 e in let is : k ≡ 15 = omega arith in rw is)

other : (k : ℕ) → (k ≡ 4 → ⊥) → (k ≡ 5 → ⊥) → (k ≡ 10 → ⊥) → (k ≡ 14 → ⊥) → (k ≡ 15 → ⊥) → 0 ≡ number_most k
unfolding number_most
other k a b d e f = rw (ne_eqb k 4 a, ne_eqb k 5 b, ne_eqb k 10 d, ne_eqb k 14 e, ne_eqb k 15 f)

pub returns-in-4 : goal.returns-in-4
unfolding number_most
returns-in-4 c = rw c.in-4.is

pub returns-in-5 : goal.returns-in-5
unfolding number_most
returns-in-5 c = rw c.in-5.is

pub returns-in-10 : goal.returns-in-10
unfolding number_most
returns-in-10 c = rw c.in-10.is

pub returns-in-14 : goal.returns-in-14
returns-in-14 c = late _ (omega arith) (omega arith)

pub returns-in_default : goal.returns-in_default
returns-in_default c = other _ (λ e. omega arith) (λ e. omega arith) (λ e. omega arith) (λ e. omega arith) (λ e. omega arith)

pub returns-in_default-2 : goal.returns-in_default-2
returns-in_default-2 c = other _ (λ e. omega arith) (λ e. omega arith) (λ e. omega arith) (λ e. omega arith) (λ e. omega arith)
