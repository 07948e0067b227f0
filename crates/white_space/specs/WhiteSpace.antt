-- Unicode's White_Space at a text's ends.
use Rattle.std.specs.Prelude.{ℕ, zero, suc, pred, ◌+◌, ◌-◌, ◌/◌, ◌%◌, ◌≤◌, ◌<◌, ◌≡◌, Bool, cond, List, [], ◌∷◌, ltb, eqb, length, drop}
use Rattle.text.specs.Bytes.{starts}
use Rattle.text.specs.declared.Text.{Text}

-- the characters: U+0009 to 000D, 20, 85, A0, 1680, 2000 to 200A, 2028, 2029, 202F, 205F, 3000
abbrev pub white_space : List ℕ
white_space =
    0x0009 ∷ 0x000A ∷ 0x000B ∷ 0x000C ∷ 0x000D ∷ 0x0020 ∷ 0x0085 ∷ 0x00A0 ∷ 0x1680
    ∷ 0x2000 ∷ 0x2001 ∷ 0x2002 ∷ 0x2003 ∷ 0x2004 ∷ 0x2005 ∷ 0x2006 ∷ 0x2007 ∷ 0x2008 ∷ 0x2009 ∷ 0x200A
    ∷ 0x2028 ∷ 0x2029 ∷ 0x202F ∷ 0x205F ∷ 0x3000 ∷ []

-- the UTF-8 of a character below U+10000
abbrev pub encoded : ℕ → List ℕ
encoded c =
    cond (ltb c 0x80) (c ∷ [])
    (cond (ltb c 0x800) ((0xC0 + c / 64) ∷ (0x80 + c % 64) ∷ []) ((0xE0 + c / 4096) ∷ (0x80 + c / 64 % 64) ∷ (0x80 + c % 64) ∷ []))

-- how many bytes the first of the characters cs has that a text begins with, 0 where it begins with none
unfoldable pub begins_with : List ℕ → List ℕ → ℕ
begins_with [] s = 0
begins_with (c ∷ cs) s = cond (starts (encoded c) s) (length (encoded c)) (begins_with cs s)

unfoldable pub blank_at : List ℕ → ℕ
blank_at s = begins_with white_space s

-- how many bytes of White_Space a text begins with, where its first k bytes end such a character
unfoldable pub blanks : ℕ → List ℕ → ℕ
blanks k [] = 0
blanks (suc k) (a ∷ s) = suc (blanks k s)
blanks zero (a ∷ s) = cond (ltb 0 (blank_at (a ∷ s))) (suc (blanks (pred (blank_at (a ∷ s))) s)) 0

unfoldable pub all_white : List ℕ → Bool
all_white s = eqb (blanks 0 s) (length s)

-- how many bytes stand before the longest end that is White_Space alone
unfoldable pub kept_of : List ℕ → ℕ
kept_of [] = 0
kept_of (a ∷ s) = cond (all_white (a ∷ s)) 0 (suc (kept_of s))

-- n is the length of the White_Space character that ends before j, 0 where none does
pub record Before (s : List ℕ) (j n : ℕ) : Type 0 where
  pub within : n ≤ j
  pub found : 0 < n → blank_at (drop (j - n) s) ≡ n
  pub missed : n ≡ 0 → (m : ℕ) → 0 < m → m ≤ j → blank_at (drop (j - m) s) ≡ m → ⊥

-- the place of what is left of a text without the White_Space at both ends; the start where nothing is left
abbrev pub trimmed : List ℕ → Text
trimmed s =
    let start = blanks 0 s in
    let len = kept_of (drop start s) in
    cond (eqb len 0) (record { start = 0; len = 0 }) (record { start = start; len = len })
