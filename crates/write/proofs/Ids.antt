-- An id that may be written.
use mathlib.Core.Path.{◌≡◌}
use mathlib.Core.Bool.{true, false}
use borrow.Author.Tests.{eq-eqb, ne_eqb, le-leb, lt-leb}
use Rattle.idcode.specs.declared.IdCode.{IdCode}
use Rattle.write.specs.Layout.{is_id}

module _ (i : IdCode) where
  pub id-none : i.0 ≡ 18446744073709551615 → is_id i ≡ false
  unfolding is_id
  id-none e = rw (eq-eqb i.0 18446744073709551615 e)

  pub id-some : (i.0 ≡ 18446744073709551615 → ⊥) → is_id i ≡ true
  unfolding is_id
  id-some n = rw (ne_eqb i.0 18446744073709551615 n)

-- which of two ids is the later one
pub ruleset compared = (le-leb, lt-leb)
