-- What 25 asks: the input is not over the limit, and a text lies in it.
use Prim.Native.Nat.{ℕ, ◌≤◌, ◌<◌}
use mathlib.Core.Path.{◌≡◌, refl}
use mathlib.Core.Bool.{true, false, not}
use mathlib.Core.List.{List, []}
use borrow.Author.Tests.{le-leb, lt-leb}
use lib.ListN.{length}
use Rattle.text.specs.Texts.{limit, is_within, too_long, outside}
use Rattle.text.specs.declared.Text.{Text}

module _ (s : List ℕ) where
  pub too_long_lem : limit < length s → too_long s ≡ true
  unfolding too_long
  too_long_lem h = rw (lt-leb (length s) limit h)

  pub not-long : length s ≤ limit → too_long s ≡ false
  unfolding too_long
  not-long h = rw (le-leb (length s) limit h)

  module _ (t : Text) where
    pub outside-long : limit < length s → outside s t ≡ true
    unfolding outside
    outside-long h = rw (lt-leb (length s) limit h)

    pub outside-else : length s ≤ limit → outside s t ≡ not (is_within s t)
    unfolding outside
    outside-else h = rw (le-leb (length s) limit h)

pub none-long : too_long [] ≡ false
unfolding too_long
none-long = refl
