-- A table's rows: the words of a row, and the row that words are.
use Rattle.rows.specs.declared.RowNumber.{RowNumber}
use Rattle.std.specs.Prelude.{ℕ, zero, suc, ◌+◌, ◌-◌, ◌*◌, ◌/◌, ◌^◌, Bool, true, cond, ◌&&◌, List, [], ◌∷◌, ◌++◌, eqb, ltb, leb, ℤ, pos, negsuc, length, get_or, take, drop, Option, Some, None}
use Rattle.scope.specs.declared.ReferenceIndex.{ReferenceIndex}
use Rattle.scope.specs.declared.Var.{Var}
use Rattle.text.specs.declared.Text.{Text}
use Rattle.scope.specs.Numbers.{scope_number, scope_type_of, var_number, var_type_of}
use Rattle.rows.specs.declared.Row.{Row}
use Rattle.rows.specs.declared.RowWords.{RowWords}

-- the parent of what stands at top
abbrev pub top : ℕ
top = 2 ^ 64 - 1

abbrev pub parent_word : Option RowNumber → ℕ
parent_word None = top
parent_word (Some n) = n.0

unfoldable pub parent_of : ℕ → Option RowNumber
parent_of w = cond (eqb w top) None (Some (record { 0 = w }))

-- a number of 32 bits by two's complement
abbrev pub word_of : ℤ → ℕ
word_of (pos n) = n
word_of (negsuc n) = 2 ^ 32 - suc n

unfoldable pub signed_of : ℕ → ℤ
signed_of w = cond (ltb w (2 ^ 31)) (pos w) (negsuc (2 ^ 32 - suc w))

-- an index's words: its form, 0 none, 1 `[n]`, 2 `[m:n]`, and its numbers; what a form does not use is 0
abbrev pub index_form : ReferenceIndex → ℕ
index_form ReferenceIndex.None = 0
index_form (ReferenceIndex.BitSelect a) = 1
index_form (ReferenceIndex.Range a b) = 2

abbrev pub index_first : ReferenceIndex → ℕ
index_first ReferenceIndex.None = 0
index_first (ReferenceIndex.BitSelect a) = word_of a
index_first (ReferenceIndex.Range a b) = word_of a

abbrev pub index_second : ReferenceIndex → ℕ
index_second ReferenceIndex.None = 0
index_second (ReferenceIndex.BitSelect a) = 0
index_second (ReferenceIndex.Range a b) = word_of b

abbrev pub index_words : ReferenceIndex → List ℕ
index_words x = index_form x ∷ index_first x ∷ index_second x ∷ []

unfoldable pub is_index : ℕ → ℕ → ℕ → Bool
is_index f a b =
    cond (eqb f 0) (eqb a 0 && eqb b 0)
    (cond (eqb f 1) (ltb a (2 ^ 32) && eqb b 0)
    (eqb f 2 && ltb a (2 ^ 32) && ltb b (2 ^ 32)))

unfoldable pub index_of : ℕ → ℕ → ℕ → ReferenceIndex
index_of f a b =
    cond (eqb f 0) ReferenceIndex.None
    (cond (eqb f 1) (ReferenceIndex.BitSelect (signed_of a))
    (ReferenceIndex.Range (signed_of a) (signed_of b)))

abbrev pub text_at : ℕ → ℕ → Text
text_at s l = record { start = s; len = l }

-- the words of a scope or a comment: kind, parent, type and text; the others are 0
abbrev pub text_words : (kind parent type : ℕ) → Text → RowWords
text_words k p t x =
    record { kind = k; parent = p; number = t; width = 0; code = 0; start = x.start; len = x.len; form = 0; first = 0; second = 0 }

abbrev pub var_words : (parent : ℕ) → Var → RowWords
var_words p v =
    record {
      kind = 2;
      parent = p;
      number = var_number v.var_type;
      width = v.size;
      code = v.code.0;
      start = v.reference.start;
      len = v.reference.len;
      form = index_form v.index;
      first = index_first v.index;
      second = index_second v.index;
    }

-- a row's words; what a kind does not use is 0
abbrev pub words_in : Row → RowWords
words_in (Row.Scope p k t) = text_words 1 (parent_word p) (scope_number k) t
words_in (Row.Var p v) = var_words (parent_word p) v
words_in (Row.Comment p t) = text_words 3 (parent_word p) 0 t
words_in Row.None = text_words 0 0 0 (text_at 0 0)

-- the words in a table's order
unfoldable pub listed : RowWords → List ℕ
listed w =
    w.kind ∷ w.parent ∷ w.number ∷ w.width ∷ w.code ∷ w.start ∷ w.len ∷ w.form ∷ w.first ∷ w.second ∷ []

abbrev pub row_words : Row → List ℕ
row_words r = listed (words_in r)

unfoldable pub all_zero : List ℕ → Bool
all_zero [] = true
all_zero (w ∷ ws) = eqb w 0 && all_zero ws

abbrev pub text_of : RowWords → Text
text_of w = text_at w.start w.len

abbrev pub var_of : RowWords → Var
var_of w =
    record {
      var_type = var_type_of w.number;
      size = w.width;
      code = record { 0 = w.code };
      reference = text_of w;
      index = index_of w.form w.first w.second;
    }

-- are the words 0 that only a variable uses?
abbrev pub is_plain : RowWords → Bool
is_plain w = all_zero (w.width ∷ w.code ∷ w.form ∷ w.first ∷ w.second ∷ [])

-- the row of words; none, if they are not the words of one
unfoldable pub row_of : RowWords → Row
row_of w =
    cond (eqb w.kind 1 && leb w.number 4 && is_plain w) (Row.Scope (parent_of w.parent) (scope_type_of w.number) (text_of w))
    (cond (eqb w.kind 2 && leb w.number 17 && ltb w.width (2 ^ 32) && is_index w.form w.first w.second) (Row.Var (parent_of w.parent) (var_of w))
    (cond (eqb w.kind 3 && eqb w.number 0 && is_plain w) (Row.Comment (parent_of w.parent) (text_of w))
    Row.None))

-- the words from `at` on
abbrev pub words_at : List ℕ → ℕ → RowWords
words_at table at =
    record {
      kind = get_or table at 0;
      parent = get_or table (at + 1) 0;
      number = get_or table (at + 2) 0;
      width = get_or table (at + 3) 0;
      code = get_or table (at + 4) 0;
      start = get_or table (at + 5) 0;
      len = get_or table (at + 6) 0;
      form = get_or table (at + 7) 0;
      first = get_or table (at + 8) 0;
      second = get_or table (at + 9) 0;
    }

-- row i of a table
unfoldable pub row_at : List ℕ → ℕ → Row
row_at table i = cond (ltb i (length table / 10)) (row_of (words_at table (10 * i))) Row.None

-- the words of some rows
unfoldable pub words_of : List Row → List ℕ
words_of [] = []
words_of (r ∷ rs) = row_words r ++ words_of rs

-- the first n rows of a table
unfoldable pub rows_from : List ℕ → ℕ → ℕ → List Row
rows_from table i zero = []
rows_from table i (suc n) = row_at table i ∷ rows_from table (i + 1) n

abbrev pub rows_of : List ℕ → ℕ → List Row
rows_of table n = rows_from table 0 n

-- the table with the words w as row n
unfoldable pub put : List ℕ → ℕ → List ℕ → List ℕ
put table n w = take (10 * n) table ++ (w ++ drop (10 * n + 10) table)

-- the table then: the rows' words, and the rest as it was
abbrev pub filled : List Row → List ℕ → List ℕ
filled rs table = words_of rs ++ drop (10 * length rs) table
