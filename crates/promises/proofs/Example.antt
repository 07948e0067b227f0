-- A run of eleven calls, three of them refused and a header stopped half-way, computed: what is written and accepted; and that it reads back. Assumes nothing.
use Rattle.std.specs.Prelude.{Some, None}
use Prim.Native.Nat.{ℕ, ◌^◌}
use mathlib.Core.Path.{◌≡◌, refl}
use mathlib.Core.Bool.{Bool, true, ◌&&◌}
use mathlib.Core.List.{List, [], ◌∷◌}
use native.Mathlib.Omega.{arith}
use borrow.Author.Tests.{ltb-true}
use lib.Dec.{ltb}
use lib.IntN.{pos, negsuc}
use lib.ListN.{replicate}
use Rattle.text.specs.Bytes.{bytes, is_blank, no_blank, is_token, has, starts, holds}
use Rattle.text.specs.Texts.{is_within, part, put_answer, put_bytes, too_long, outside}
use Rattle.utf8.specs.Utf8.{lies, due_after, well_formed, valid_utf8}
use Rattle.white_space.specs.WhiteSpace.{begins_with, blank_at, blanks, all_white, kept_of}
use Rattle.text.specs.declared.Text.{Text}
use Rattle.text.proofs.Lists.{both}
use Rattle.number.specs.Decimal.{digits_of}
use Rattle.value.specs.Values.{lower}
use Rattle.idcode.specs.Id.{text_of}
use Rattle.idcode.specs.declared.IdCode.{IdCode}
use Rattle.timescale.specs.declared.TimescaleUnit.{TimescaleUnit}
use Rattle.scope.specs.declared.ReferenceIndex.{ReferenceIndex}
use Rattle.scope.specs.declared.ScopeType.{ScopeType}
use Rattle.scope.specs.declared.VarType.{VarType}
use Rattle.command.specs.Meaning.{Meaning, remark, comment, timescale, scope_def, upscope, var_def, timestamp, change, vector, begin, end, meaning}
use Rattle.command.specs.declared.Command.{Command}
use Rattle.command.specs.declared.SimulationCommand.{SimulationCommand}
use Rattle.parser.specs.Next.{fresh as start}
use Rattle.parser.specs.All.{read_all, exactly}
use Rattle.rows.specs.Good.{is_parent, open_to, is_good_from, is_good_table}
use Rattle.header.specs.Header.{nothing, with_timescale}
use Rattle.rows.specs.Rows.{parent_of, signed_of, is_index, index_of, listed, all_zero, row_of, row_at, words_of, rows_from}
use Rattle.scope.specs.Numbers.{scope_type_of, var_type_of}
use Rattle.header.specs.declared.Header.{Header}
use Rattle.rows.specs.declared.Row.{Row}
use Rattle.write_check.specs.Check.{is_trimmed, is_remark, is_name, are_lower, is_vector}
use Rattle.write.specs.Call.{outcome, call}
use Rattle.write.specs.Layout.{layout, is_id, is_open, raised, state_after, fresh}
use Rattle.write.specs.Run.{layouts, states_after, Sized, taken}
use Rattle.tree.specs.Place.{some_outside}
use Rattle.write_header.specs.Meanings.{row_meanings, header_meanings}
use Rattle.write_header.specs.Written.{misplaced, stopped, header_call}
use Rattle.promises.specs.Runs.{SizedTable, Call, single, adding, header, ran, effect_of, runs}
use Rattle.promises.proofs.Runs.{round_trip}

abbrev source : List ℕ
source = bytes "top data hi x0X"

abbrev at : ℕ → ℕ → Text
at p n = record { start = p; len = n }

abbrev id : ℕ → IdCode
id n = record { 0 = n }

abbrev index : ReferenceIndex
index = ReferenceIndex.Range (pos 1) (negsuc 0)

-- ---- a table
fits : List ℕ → Bool
fits [] = true
fits (w ∷ l) = ltb w (2 ^ 64) && fits l

sized : (l : List ℕ) → fits l ≡ true → SizedTable l
unfolding fits
sized [] e = tt
sized (w ∷ l) e = let x = both (ltb w (2 ^ 64)) (fits l) e in (ltb-true w (2 ^ 64) x.0, sized l x.1)

table : List ℕ
unfolding words_of
table =
    words_of
    (Row.Comment None (at 9 2) ∷ Row.Scope None ScopeType.Module (at 0 3)
    ∷ Row.Var (Some (record { 0 = 1 })) (record { var_type = VarType.Wire; size = 2; code = id 7; reference = at 4 4; index = index }) ∷ [])

abbrev kept : Header
kept = with_timescale nothing 1 TimescaleUnit.NS

-- the first n rows
abbrev rows : ℕ → ℕ → fits table ≡ true → Call
rows n room e = header source kept table n (replicate room 0) (sized table e) (omega arith)

-- ---- the calls
abbrev with : ℕ → (k : Command) → Sized (meaning source k) → Call
with room k z = single k source (replicate room 0) z

pub calls : List Call
unfolding part fits table words_of listed
calls =
    with 60 (Command.End SimulationCommand.Dumpall) tt  -- nothing is open
    ∷ rows 4 200 refl  -- the table has no fourth row
    ∷ rows 3 90 refl  -- the third row has no room
    ∷ adding VarType.Wire 2 (at 4 4) index source (replicate 60 0) (omega arith) (record { sfits = omega arith }, record { sfits = omega arith })
    ∷ with 9 (Command.Comment (at 9 2)) tt  -- no room
    ∷ with 60 (Command.Comment (at 9 2)) tt ∷ with 60 Command.Upscope tt ∷ with 60 (Command.Timestamp (record { 0 = 10 })) (omega arith)
    ∷ with 60 (Command.Begin SimulationCommand.Dumpvars) tt ∷ with 60 (Command.ChangeVector (id 0) (at 12 3)) (omega arith)
    ∷ with 60 (Command.End SimulationCommand.Dumpvars) tt ∷ []

pub file : List ℕ
file =
    bytes "$timescale 1 ns $end\n$comment\n    hi\n$end\n$scope module top $end\n$var wire 2 ! data [1:-1] $end\n$comment\n    hi\n$end\n$upscope $end\n#10\n$dumpvars\nbx0x !\n$end\n"

pub accepted : List Meaning
accepted =
    timescale 1 TimescaleUnit.NS ∷ remark comment (bytes "hi") ∷ scope_def ScopeType.Module (bytes "top")
    ∷ var_def VarType.Wire 2 (id 0) (bytes "data") index ∷ remark comment (bytes "hi") ∷ upscope ∷ timestamp 10
    ∷ begin SimulationCommand.Dumpvars ∷ change (id 0) (vector (bytes "x0x")) ∷ end SimulationCommand.Dumpvars ∷ []

pub written : runs fresh calls ≡ record { file = file; accepted = accepted }
unfolding calls file accepted table fits sized ran effect_of taken layouts states_after call outcome too_long outside is_within put_answer put_bytes layout is_trimmed is_remark is_name are_lower is_vector is_id is_open raised state_after part lower is_token no_blank is_blank has starts holds valid_utf8 well_formed due_after lies begins_with blank_at blanks all_white kept_of digits_of text_of is_parent open_to is_good_from is_good_table parent_of signed_of is_index index_of listed all_zero row_of row_at words_of rows_from scope_type_of var_type_of row_meanings header_meanings some_outside misplaced stopped header_call
written = refl

pub reads_so : read_all file start ≡ exactly accepted
unfolding file accepted
reads_so = rw written at (round_trip calls (rw written (omega arith)))
