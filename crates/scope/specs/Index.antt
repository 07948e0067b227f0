-- A variable's index: what a text means, and its text.
use Rattle.std.specs.Prelude.{ℕ, ◌+◌, ◌-◌, cond, ◌&&◌, List, [], ◌∷◌, ◌++◌, eqb, length, take, drop, get_or, ℤ, Option, Some, None}
use Rattle.std.specs.Int.{w32}
use Rattle.std.proofs.Common.{SFits}
use Rattle.text.specs.Bytes.{bytes}
use Rattle.text.specs.Texts.{part}
use Rattle.white_space.specs.WhiteSpace.{trimmed}
use Rattle.number.specs.Decimal.{signed_of, parse_signed}
use Rattle.scope.specs.declared.ReferenceIndex.{ReferenceIndex}

-- a number with White_Space round it
unfoldable pub padded : List ℕ → Option ℤ
padded l = parse_signed (part l (trimmed l))

abbrev pub bit : Option ℤ → Option ReferenceIndex
bit (Some a) = Some (ReferenceIndex.BitSelect a)
bit None = None

abbrev pub range : Option ℤ → Option ℤ → Option ReferenceIndex
range (Some a) (Some b) = Some (ReferenceIndex.Range a b)
range (Some a) None = None
range None b = None

-- the bytes before the first x, or all where there is none
unfoldable pub up_to_byte : ℕ → List ℕ → List ℕ
up_to_byte x [] = []
up_to_byte x (b ∷ r) = cond (eqb b x) [] (b ∷ up_to_byte x r)

-- inside the brackets: a number, or two split at the first colon
unfoldable pub parse_inside : List ℕ → Option ReferenceIndex
parse_inside m =
    let a = up_to_byte 58 m in
    cond (eqb (length a) (length m)) (bit (padded m)) (range (padded a) (padded (drop (length a + 1) m)))

-- `[`, the inside, `]`
unfoldable pub parse_index : List ℕ → Option ReferenceIndex
parse_index [] = None
parse_index (b ∷ r) =
    cond (eqb b 91 && eqb (get_or r (length r - 1) 0) 93) (parse_inside (take (length r - 1) r)) None

-- the text of an index: `[n]` or `[n:m]`; nothing where there is none
abbrev pub index_text : ReferenceIndex → List ℕ
index_text ReferenceIndex.None = []
index_text (ReferenceIndex.BitSelect a) = bytes "[" ++ (signed_of a ++ bytes "]")
index_text (ReferenceIndex.Range a b) = bytes "[" ++ ((signed_of a ++ (bytes ":" ++ signed_of b)) ++ bytes "]")

-- its numbers are of their type
abbrev pub SizedIndex : ReferenceIndex → Type 0
SizedIndex ReferenceIndex.None = Unit {0}
SizedIndex (ReferenceIndex.BitSelect a) = SFits w32 a
SizedIndex (ReferenceIndex.Range a b) = SFits w32 a × SFits w32 b
