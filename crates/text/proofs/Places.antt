-- Laws of texts as places in a buffer.
use Prim.Native.Nat.{ℕ, ◌+◌, ◌≤◌, ◌<◌}
use mathlib.Core.Path.{◌≡◌}
use mathlib.Core.Bool.{true}
use mathlib.Core.List.{List}
use native.Mathlib.Omega.{arith}
use borrow.Author.Tests.{le-leb, leb-true}
use lib.ListN.{length, drop, get_or, length-take, length-drop}
use lib.Seq.{get_or-take, get_or-drop}
use Rattle.text.specs.Texts.{is_within, part}
use Rattle.text.specs.declared.Text.{Text}

module _ (s : List ℕ) (t : Text) where
  pub within-yes : t.start + t.len ≤ length s → is_within s t ≡ true
  unfolding is_within
  within-yes h = le-leb _ _ h

  pub within-true : is_within s t ≡ true → t.start + t.len ≤ length s
  unfolding is_within
  within-true e = leb-true _ _ e

  pub part_at : (i : ℕ) → i < t.len → get_or (part s t) i 0 ≡ get_or s (t.start + i) 0
  unfolding part
  part_at i h = rw (get_or-take t.len (drop t.start s) i 0 h, get_or-drop)

  pub part_length : t.start + t.len ≤ length s → length (part s t) ≡ t.len
  unfolding part
  part_length h = omega (arith, length-take t.len (drop t.start s), length-drop t.start s)
