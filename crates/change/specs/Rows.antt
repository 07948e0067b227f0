-- A listing's rows: the six words of a row, the row that words are, and a table of rows; and a time alone, as two words.
use Rattle.command.specs.declared.Time.{Time}
use Rattle.std.specs.Prelude.{ℕ, ◌+◌, ◌*◌, ◌/◌, Bool, cond, ◌&&◌, List, [], ◌∷◌, ◌++◌, eqb, leb, ltb, length, get_or, take, drop, Option, Some, None}
use Rattle.change.specs.declared.Change.{Change}
use Rattle.change.specs.declared.ChangeKind.{ChangeKind}

abbrev pub kind_number : ChangeKind → ℕ
kind_number ChangeKind.Scalar = 1
kind_number ChangeKind.Vector = 2
kind_number ChangeKind.Real = 3
kind_number ChangeKind.String = 4

unfoldable pub kind_of : ℕ → ChangeKind
kind_of n =
    cond (eqb n 1) ChangeKind.Scalar
    (cond (eqb n 2) ChangeKind.Vector
    (cond (eqb n 3) ChangeKind.Real
    ChangeKind.String))

-- whether there is a time, and the time
abbrev pub since_words : Option Time → List ℕ
since_words None = 0 ∷ 0 ∷ []
since_words (Some t) = 1 ∷ t.0 ∷ []

unfoldable pub is_since : ℕ → ℕ → Bool
is_since h t = cond (eqb h 0) (eqb t 0) (eqb h 1)

unfoldable pub since_of : ℕ → ℕ → Option Time
since_of h t = cond (eqb h 0) None (Some (record { 0 = t }))

-- the time of two words, no more and no less
unfoldable pub since_in : List ℕ → Option (Option Time)
since_in w =
    cond (eqb (length w) 2 && is_since (get_or w 0 0) (get_or w 1 0)) (Some (since_of (get_or w 0 0) (get_or w 1 0))) None

-- time or none, line, kind, start and length of the value
abbrev pub change_words : Change → List ℕ
change_words (Change.Is since line kind v) = since_words since ++ (line ∷ kind_number kind ∷ v.start ∷ v.len ∷ [])
change_words Change.None = 0 ∷ 0 ∷ 0 ∷ 0 ∷ 0 ∷ 0 ∷ []

-- the row of six words; none, if they are not the words of one
unfoldable pub change_of : (h t n k s l : ℕ) → Change
change_of h t n k s l =
    cond (is_since h t && leb 1 k && leb k 4)
    (Change.Is (since_of h t) n (kind_of k) (record { start = s; len = l }))
    Change.None

-- row i of a table
unfoldable pub change_at : List ℕ → ℕ → Change
change_at table i =
    let at : ℕ = 6 * i in
    let word : ℕ → ℕ = λ j. get_or table (at + j) 0 in
    cond (ltb i (length table / 6)) (change_of (get_or table at 0) (word 1) (word 2) (word 3) (word 4) (word 5)) Change.None

-- the words of some rows
unfoldable pub words_of : List Change → List ℕ
words_of [] = []
words_of (r ∷ rs) = change_words r ++ words_of rs

-- the table with the words w as row n
unfoldable pub put : List ℕ → ℕ → List ℕ → List ℕ
put table n w = take (6 * n) table ++ (w ++ drop (6 * n + 6) table)

-- a table that rows were listed into: their words, and the rest as it was
abbrev pub filled : List Change → List ℕ → List ℕ
filled rs table = words_of rs ++ drop (6 * length rs) table
