-- A line is put in two parts: reference, time and line, then the value.
use Rattle.std.specs.Prelude.{Option, Some, None}
use Rattle.command.specs.declared.Time.{Time}
use Prim.Native.Nat.{ℕ, ◌+◌, ◌≤◌}
use mathlib.Core.Path.{◌≡◌, refl}
use mathlib.Core.Bool.{Bool, true, false, not}
use mathlib.Core.List.{List, [], ◌∷◌, ◌++◌, map}
use native.Mathlib.Nat.{zero-add}
use native.Mathlib.Omega.{arith}
use borrow.Author.Tests.{le-leb}
use lib.Dec.{leb}
use lib.ListN.{length, length-append, length-map, length-replicate}
use Rattle.emit.specs.Put.{concat, stored}
use Rattle.emit.proofs.Storing.{total-is, fits-yes, fits-no, runs, lay-none, lay_done}
use Rattle.widen.specs.Widen.{missing, widened}
use Rattle.change.specs.declared.Change.{Change}
use Rattle.change.specs.declared.ChangeKind.{ChangeKind}
use Rattle.number.specs.Decimal.{decimal_of}
use Rattle.text.specs.Bytes.{bytes}
use Rattle.text.specs.Texts.{part, put_answer, put_bytes}
use Rattle.text.specs.declared.Text.{Text}
use Rattle.value.specs.Values.{lower, filled_with}
use Rattle.value.specs.declared.Value.{Value}
use Rattle.lines.specs.Lines.{time_text, value_text, change_line}

-- what is answered and left where a text is put whole or not at all
abbrev pub Laid : List ℕ → List ℕ → Option ℕ → List ℕ → Type 0
Laid t out r left = (r ≡ put_answer t out) × (left ≡ put_bytes t out)

abbrev pub line_of : List ℕ → List ℕ → List ℕ → List ℕ → List ℕ
line_of name time line value = concat (name ∷ bytes " " ∷ time ∷ bytes " " ∷ line ∷ bytes " " ∷ value ∷ bytes "\n" ∷ [])

-- a value in lower case after so many zeros
abbrev pub wide : ℕ → List ℕ → List ℕ
wide zeros v = filled_with Value.V0 zeros ++ map lower v

pub wide-length : (zeros : ℕ) (v : List ℕ) → zeros + length v ≡ length (wide zeros v)
wide-length zeros v = simp (length-append, length-replicate, length-map)

pub wide_is : {zeros : ℕ} (width : ℕ) (v : List ℕ) → zeros ≡ missing width (length v) → wide zeros v ≡ widened v width
unfolding widened
wide_is width v e = rw e

-- ---- the two parts
module _ (name time line value : List ℕ) where
  abbrev start : List (List ℕ)
  start = name ∷ bytes " " ∷ time ∷ bytes " " ∷ line ∷ []

  abbrev end : List (List ℕ)
  end = bytes " " ∷ value ∷ bytes "\n" ∷ []

  abbrev rest : List (List ℕ)
  rest = bytes " " ∷ time ∷ bytes " " ∷ line ∷ end

  -- the bytes of a line, the value as `zeros` and n bytes
  abbrev size : ℕ → ℕ → ℕ
  size zeros n = 4 + (length name + length time + length line + zeros + n)

  -- r says whether they have room
  module _ (out : List ℕ) (zeros n : ℕ) (w : zeros + n ≡ length value) {r : Bool} (e : r ≡ leb (size zeros n) (length out)) where
    pub laid_none : not r ≡ true → Laid (line_of name time line value) out None out
    laid_none h = lay-none name rest out (omega (arith, fits-no (size zeros n) (length out) e h))

    -- for the first part, and for the second after it
    pub room : not r ≡ false → (length name + 1 + length time + 1 + length line ≤ length out) × (length (concat start) + (2 + zeros + n) ≤ length out)
    room h =
        let k = fits-yes (size zeros n) (length out) e h in
        (omega arith, omega (arith, total-is start 0))

    pub laid : not r ≡ false → {k m : ℕ} {mid left : List ℕ} → (k ≡ 0 + length (concat start)) × (mid ≡ stored out 0 (concat start))
        → (m ≡ k + length (concat end)) × (left ≡ stored mid k (concat end)) → Laid (line_of name time line value) out (Some m) left
    laid h a b = lay_done name rest out (omega (arith, fits-yes (size zeros n) (length out) e h)) (runs out start end a b)

-- ---- the line of a change
pub laid-nothing : (out : List ℕ) → Laid [] out (Some 0) out
unfolding put_answer put_bytes
laid-nothing out = rw (le-leb 0 (length out) (omega arith)) (refl, refl)

module _ (s name : List ℕ) (width : ℕ) {since : Option Time} {n : ℕ} {k : ChangeKind} {v : Text} {change : Change} (c : change ≡ Change.Is since n k v) where
  pub laid-change : {time line value : List ℕ} → time ≡ time_text since → line ≡ decimal_of n → value ≡ part s v
      → (kind : ChangeKind) {word : List ℕ} → k ≡ kind → word ≡ value_text width kind value → (out : List ℕ) {r : Option ℕ} {left : List ℕ}
      → Laid (line_of name time line word) out r left → Laid (change_line s name width change) out r left
  laid-change t l p kind q w out e = rw (c, q) (rw (w, p, t, l) at e)

-- what the search takes from here: room for the two parts
pub ruleset laying = (room, wide-length, zero-add)
