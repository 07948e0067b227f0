-- How a command is laid out, when it may be written, and the state after it.
use Rattle.std.specs.Prelude.{ℕ, ◌+◌, ◌-◌, ◌^◌, Bool, true, false, cond, not, ◌&&◌, List, [], ◌∷◌, leb, eqb, Option, Some, None}
use Rattle.scope.specs.Limits.{most_levels}
use Rattle.command.specs.Numbers.{sim_number}
use Rattle.command.specs.Meaning.{Meaning, remark, timescale, scope_def, upscope, var_def, enddefinitions, timestamp, change, begin, end, Change, scalar, vector, real, string, remark_word, open_after}
use Rattle.command.specs.declared.Word.{Word}
use Rattle.command.specs.declared.SimulationCommand.{SimulationCommand}
use Rattle.idcode.specs.Id.{id_text}
use Rattle.idcode.specs.declared.IdCode.{IdCode}
use Rattle.number.specs.Decimal.{decimal_of}
use Rattle.scope.specs.Types.{scope_name}
use Rattle.text.specs.Bytes.{bytes}
use Rattle.command.specs.Words.{spoken, end_mark}
use Rattle.timescale.specs.Ieee.{unit_name}
use Rattle.value.specs.Values.{value_byte}
use Rattle.emit.specs.Put.{concat}
use Rattle.emit_var.specs.Define.{var_words}
use Rattle.write_check.specs.Check.{is_remark, is_name, is_vector, is_short_real}
use Rattle.write.specs.declared.Writer.{Writer}

-- the words of a command, written one after the other
abbrev pub words : Meaning → List (List ℕ)
words (remark k t) = spoken (remark_word k) ∷ bytes "\n    " ∷ t ∷ bytes "\n" ∷ end_mark ∷ bytes "\n" ∷ []
words (timescale n u) =
    spoken Word.Timescale ∷ bytes " " ∷ decimal_of n ∷ bytes " " ∷ bytes (unit_name u) ∷ bytes " " ∷ end_mark ∷ bytes "\n" ∷ []
words (scope_def k t) = spoken Word.Scope ∷ bytes " " ∷ bytes (scope_name k) ∷ bytes " " ∷ t ∷ bytes " " ∷ end_mark ∷ bytes "\n" ∷ []
words upscope = spoken Word.Upscope ∷ bytes " " ∷ end_mark ∷ bytes "\n" ∷ []
words (var_def k n i t x) = var_words k n i t x
words enddefinitions = spoken Word.Enddefinitions ∷ bytes " " ∷ end_mark ∷ bytes "\n" ∷ []
words (timestamp n) = bytes "#" ∷ decimal_of n ∷ bytes "\n" ∷ []
words (change i (scalar x)) = (value_byte x ∷ []) ∷ id_text i.0 ∷ bytes "\n" ∷ []
words (change i (vector v)) = bytes "b" ∷ v ∷ bytes " " ∷ id_text i.0 ∷ bytes "\n" ∷ []
words (change i (real t)) = bytes "r" ∷ t ∷ bytes " " ∷ id_text i.0 ∷ bytes "\n" ∷ []
words (change i (string t)) = bytes "s" ∷ t ∷ bytes " " ∷ id_text i.0 ∷ bytes "\n" ∷ []
words (begin k) = spoken (Word.Begin k) ∷ bytes "\n" ∷ []
words (end k) = end_mark ∷ bytes "\n" ∷ []

unfoldable pub layout : Meaning → List ℕ
layout m = concat (words m)

-- ---- what 22 asks for
-- the largest number is no id
unfoldable pub is_id : IdCode → Bool
is_id i = not (eqb i.0 (2 ^ 64 - 1))

-- is it this one that is open?
unfoldable pub is_open : Option SimulationCommand → SimulationCommand → Bool
is_open None k = false
is_open (Some j) k = eqb (sim_number j) (sim_number k)

abbrev pub is_change : Change → Bool
is_change (scalar x) = true
is_change (vector v) = is_vector v
is_change (real t) = is_short_real t
is_change (string t) = is_name t

abbrev pub writable : Writer → Meaning → Bool
writable w (remark k t) = is_remark t
writable w (timescale n u) = leb n 99999999
writable w (scope_def k t) = is_name t && not (leb most_levels w.depth)
writable w upscope = not (eqb w.depth 0)
writable w (var_def k n i t x) = is_id i && is_name t && not (eqb w.depth 0)
writable w enddefinitions = eqb w.depth 0
writable w (timestamp n) = true
writable w (change i v) = is_id i && is_change v
writable w (begin k) = true
writable w (end k) = is_open w.sim k

-- ---- the state after a command that was written
abbrev pub depth_after : Meaning → ℕ → ℕ
depth_after (remark k t) d = d
depth_after (timescale n u) d = d
depth_after (scope_def k t) d = d + 1
depth_after upscope d = d - 1
depth_after (var_def k n i t x) d = d
depth_after enddefinitions d = d
depth_after (timestamp n) d = d
depth_after (change i v) d = d
depth_after (begin k) d = d
depth_after (end k) d = d

-- a variable's id at or above the next one raises it
unfoldable pub raised : ℕ → ℕ → ℕ
raised i n = cond (leb n i) (i + 1) n

abbrev pub id_after : Meaning → IdCode → IdCode
id_after (remark k t) n = n
id_after (timescale m u) n = n
id_after (scope_def k t) n = n
id_after upscope n = n
id_after (var_def k m i t x) n = record { 0 = raised i.0 n.0 }
id_after enddefinitions n = n
id_after (timestamp m) n = n
id_after (change i v) n = n
id_after (begin k) n = n
id_after (end k) n = n

unfoldable pub state_after : Writer → Meaning → Writer
state_after w m = record { depth = depth_after m w.depth; id = id_after m w.id; sim = open_after m w.sim }

abbrev pub fresh : Writer
fresh = record { depth = 0; id = record { 0 = 0 }; sim = None }
