-- Commands as records of nine words: the words of a command, and the command that words are.
use Rattle.std.specs.Prelude.{ℕ, ◌+◌, ◌*◌, ◌/◌, ◌^◌, cond, ◌&&◌, List, [], ◌∷◌, ◌++◌, eqb, leb, ltb, length, get_or, take, drop, Option, Some, None}
use Rattle.command.specs.Numbers.{sim_number, sim_of}
use Rattle.command.specs.declared.Command.{Command}
use Rattle.rows.specs.Rows.{all_zero, index_form, index_first, index_second, is_index, index_of, text_at}
use Rattle.rows.specs.declared.Row.{Row}
use Rattle.rows.specs.declared.RowWords.{RowWords}
use Rattle.scope.specs.Numbers.{scope_number, scope_type_of, var_number, var_type_of}
use Rattle.scope.specs.declared.Var.{Var}
use Rattle.text.specs.declared.Text.{Text}
use Rattle.timescale.specs.Numbers.{unit_number, unit_of}
use Rattle.value.specs.Numbers.{value_number, value_for}
use Rattle.record.specs.Used.{is_used}
use Rattle.record.specs.declared.RecordWords.{RecordWords}

-- the words of a record without a text or an index, and of one with a text
abbrev pub plain_words : (kind number amount code : ℕ) → RecordWords
plain_words k n a c =
    record { kind = k; number = n; amount = a; code = c; start = 0; len = 0; form = 0; first = 0; second = 0 }

abbrev pub text_words : (kind number code : ℕ) → Text → RecordWords
text_words k n c t =
    record { kind = k; number = n; amount = 0; code = c; start = t.start; len = t.len; form = 0; first = 0; second = 0 }

abbrev pub var_words : Var → RecordWords
var_words v =
    record {
      kind = 7;
      number = var_number v.var_type;
      amount = v.size;
      code = v.code.0;
      start = v.reference.start;
      len = v.reference.len;
      form = index_form v.index;
      first = index_first v.index;
      second = index_second v.index;
    }

-- the words of a command; those that it does not use are 0
abbrev pub record_of : Command → RecordWords
record_of (Command.Comment t) = text_words 1 0 0 t
record_of (Command.Date t) = text_words 2 0 0 t
record_of (Command.Version t) = text_words 3 0 0 t
record_of (Command.Timescale n u) = plain_words 4 (unit_number u) n 0
record_of (Command.ScopeDef k t) = text_words 5 (scope_number k) 0 t
record_of Command.Upscope = plain_words 6 0 0 0
record_of (Command.VarDef k n i t x) = var_words (record { var_type = k; size = n; code = i; reference = t; index = x })
record_of Command.Enddefinitions = plain_words 8 0 0 0
record_of (Command.Timestamp t) = plain_words 9 0 t.0 0
record_of (Command.ChangeScalar i v) = plain_words 10 (value_number v) 0 i.0
record_of (Command.ChangeVector i t) = text_words 11 0 i.0 t
record_of (Command.ChangeReal i t) = text_words 12 0 i.0 t
record_of (Command.ChangeString i t) = text_words 13 0 i.0 t
record_of (Command.Begin k) = plain_words 14 (sim_number k) 0 0
record_of (Command.End k) = plain_words 15 (sim_number k) 0 0

-- the words in a table's order
unfoldable pub listed : RecordWords → List ℕ
listed w = w.kind ∷ w.number ∷ w.amount ∷ w.code ∷ w.start ∷ w.len ∷ w.form ∷ w.first ∷ w.second ∷ []

abbrev pub record_words : Command → List ℕ
record_words k = listed (record_of k)

abbrev pub text_of : RecordWords → Text
text_of w = text_at w.start w.len

-- the command of a kind other than a variable's
unfoldable pub command_in : RecordWords → Command
command_in w =
    cond (eqb w.kind 1) (Command.Comment (text_of w))
    (cond (eqb w.kind 2) (Command.Date (text_of w))
    (cond (eqb w.kind 3) (Command.Version (text_of w))
    (cond (eqb w.kind 4) (Command.Timescale w.amount (unit_of w.number))
    (cond (eqb w.kind 5) (Command.ScopeDef (scope_type_of w.number) (text_of w))
    (cond (eqb w.kind 6) Command.Upscope
    (cond (eqb w.kind 8) Command.Enddefinitions
    (cond (eqb w.kind 9) (Command.Timestamp (record { 0 = w.amount }))
    (cond (eqb w.kind 10) (Command.ChangeScalar (record { 0 = w.code }) (value_for w.number))
    (cond (eqb w.kind 11) (Command.ChangeVector (record { 0 = w.code }) (text_of w))
    (cond (eqb w.kind 12) (Command.ChangeReal (record { 0 = w.code }) (text_of w))
    (cond (eqb w.kind 13) (Command.ChangeString (record { 0 = w.code }) (text_of w))
    (cond (eqb w.kind 14) (Command.Begin (sim_of w.number))
    (Command.End (sim_of w.number))))))))))))))

-- a variable is judged as a header's row of it: the words of that row, and the command of it
abbrev pub var_row : RecordWords → RowWords
var_row w =
    record {
      kind = 2;
      parent = 0;
      number = w.number;
      width = w.amount;
      code = w.code;
      start = w.start;
      len = w.len;
      form = w.form;
      first = w.first;
      second = w.second;
    }

abbrev pub var_command : Row → Option Command
var_command (Row.Var p v) = Some (Command.VarDef v.var_type v.size v.code v.reference v.index)
var_command (Row.Scope p k t) = None
var_command (Row.Comment p t) = None
var_command Row.None = None

-- the command of nine words; none, if they are not the words of one
unfoldable pub command_of : RecordWords → Option Command
command_of w =
    cond (eqb w.kind 7)
    (cond (leb w.number 17 && ltb w.amount (2 ^ 32) && is_index w.form w.first w.second)
    (Some (Command.VarDef (var_type_of w.number) w.amount (record { 0 = w.code }) (text_of w) (index_of w.form w.first w.second)))
    None)
    (cond (all_zero (w.form ∷ w.first ∷ w.second ∷ []) && is_used w) (Some (command_in w)) None)

-- the words from `at` on
abbrev pub words_at : List ℕ → ℕ → RecordWords
words_at table at =
    record {
      kind = get_or table at 0;
      number = get_or table (at + 1) 0;
      amount = get_or table (at + 2) 0;
      code = get_or table (at + 3) 0;
      start = get_or table (at + 4) 0;
      len = get_or table (at + 5) 0;
      form = get_or table (at + 6) 0;
      first = get_or table (at + 7) 0;
      second = get_or table (at + 8) 0;
    }

-- record i of a table
unfoldable pub record_at : List ℕ → ℕ → Option Command
record_at table i = cond (ltb i (length table / 9)) (command_of (words_at table (9 * i))) None

-- the words of some commands
unfoldable pub words_of : List Command → List ℕ
words_of [] = []
words_of (k ∷ ks) = record_words k ++ words_of ks

-- the table with the nine words w from `at` on
unfoldable pub put_at : List ℕ → ℕ → List ℕ → List ℕ
put_at table at w = take at table ++ (w ++ drop (at + 9) table)

-- the table with the words w as record n
abbrev pub put : List ℕ → ℕ → List ℕ → List ℕ
put table n w = put_at table (9 * n) w
