-- How the text of an index is put together from short texts.
use Prim.Native.Nat.{ℕ, ◌≤◌}
use mathlib.Core.Path.{◌≡◌, ◌∙◌}
use mathlib.Core.List.{List, ◌++◌}
use native.Mathlib.Omega.{arith}
use lib.IntN.{ℤ}
use lib.ListN.{length, take, length-append}
use mir.Syntax.{w32}
use mir.Val.{SFits, of_z, to_z}
use mir.ValLaws.{to_z-of_z}
use Rattle.text.specs.Bytes.{bytes}
use Rattle.text.specs.Texts.{spelled, text_in}
use Rattle.text.specs.declared.Spelled.{Spelled}
use Rattle.text.proofs.Rows.{joins}
use Rattle.number.specs.Decimal.{signed_of}
use Rattle.number.proofs.Signs.{signed-short}
use Rattle.scope.specs.Index.{index_text}
use Rattle.scope.specs.declared.ReferenceIndex.{ReferenceIndex}
use Rattle.scope.proofs.Indexes.{pair, pair-length}

-- what `text::join` makes of two short texts
abbrev join_of : Spelled → Spelled → Spelled
join_of a b = spelled (take 32 (text_in a ++ text_in b))

joined : {a b r : Spelled} (x y : List ℕ) → length (x ++ y) ≤ 32 → a ≡ spelled x → b ≡ spelled y → r ≡ join_of a b → r ≡ spelled (x ++ y)
joined x y h p q j = (rw (p, q) at j) ∙ joins x y h

-- the text of a number as the machine holds it
abbrev held_text : ℤ → Spelled
held_text z = spelled (signed_of (to_z w32 (of_z w32 z)))

held : (z : ℤ) → SFits w32 z → {a : Spelled} → a ≡ held_text z → a ≡ spelled (signed_of z)
held z f p = rw (to_z-of_z w32 z f) at p

-- the inside, then `]`, and `[` before them
enclosed : {inner close rest front r : Spelled} (m : List ℕ) → length m ≤ 23 → inner ≡ spelled m
    → close ≡ spelled (bytes "]") → rest ≡ join_of inner close → front ≡ spelled (bytes "[") → r ≡ join_of front rest
    → r ≡ spelled (bytes "[" ++ (m ++ bytes "]"))
enclosed m h p q j o k =
    let l = length-append m (bytes "]") in
    joined (bytes "[") (m ++ bytes "]") (omega arith) o (joined m (bytes "]") (omega arith) p q j) k

pub bit-spelled : (a : ℤ) → SFits w32 a → {inner close rest front r : Spelled} → inner ≡ held_text a
    → close ≡ spelled (bytes "]") → rest ≡ join_of inner close → front ≡ spelled (bytes "[") → r ≡ join_of front rest
    → r ≡ spelled (index_text (ReferenceIndex.BitSelect a))
bit-spelled a f p = enclosed (signed_of a) (omega (arith, signed-short a f)) (held a f p)

pub range-spelled : (a b : ℤ) → SFits w32 a → SFits w32 b → {colon second low first inner close rest front r : Spelled}
    → colon ≡ spelled (bytes ":") → second ≡ held_text b → low ≡ join_of colon second → first ≡ held_text a → inner ≡ join_of first low
    → close ≡ spelled (bytes "]") → rest ≡ join_of inner close → front ≡ spelled (bytes "[") → r ≡ join_of front rest
    → r ≡ spelled (index_text (ReferenceIndex.Range a b))
range-spelled a b f g c q j p k =
    let l = pair-length a b f g in
    let low = joined (bytes ":") (signed_of b) (omega (arith, signed-short b g)) c (held b g q) j in
    enclosed (pair a b) l (joined (signed_of a) (bytes ":" ++ signed_of b) (omega arith) (held a f p) low k)
