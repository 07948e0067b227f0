-- A run of the library's calls, three of them refused, computed: what is written and accepted; and that it reads back. Assumes nothing.
use Prim.Native.Nat.{ℕ}
use mathlib.Core.Path.{◌≡◌, refl}
use mathlib.Core.List.{List, [], ◌∷◌}
use native.Mathlib.Omega.{arith}
use lib.ListN.{replicate}
use Rattle.text.specs.Bytes.{bytes, is_blank, equal, has, starts}
use Rattle.text.specs.Names.{lookup}
use Rattle.text.specs.Texts.{part, put_answer, put_bytes, too_long}
use Rattle.utf8.specs.Utf8.{lies, due_after, well_formed, valid_utf8}
use Rattle.number.specs.Decimal.{is_digit, all_digits, value, number_from, digits_below, unsigned, parse_below, digits_of}
use Rattle.value.specs.declared.Value.{Value}
use Rattle.idcode.specs.Id.{parse_id, is_id_byte, all_id, id_tail, sum_from, text_of}
use Rattle.command.specs.Meaning.{Meaning, timestamp, change, scalar}
use Rattle.token.specs.Read.{byte_read, end_read, after, gap, word, skipped, word_token, word_here, token}
use Rattle.parser_part.specs.Plan.{run, kind_of}
use Rattle.parser.specs.Next.{is_good, found, next_from, fresh as start}
use Rattle.parser.specs.All.{commands_on, commands, read_all, exactly}
use Rattle.rows.specs.Rows.{all_zero}
use Rattle.record.specs.Record.{command_in, command_of, record_at}
use Rattle.record.specs.Used.{number_most, amount_most, has_code, has_text, is_used}
use Rattle.write.specs.Call.{outcome, call}
use Rattle.write.specs.Layout.{layout, is_id, state_after}
use Rattle.write.specs.Run.{taken}
use Rattle.rewrite.specs.Rewrite.{rewritten, rewrite_of, meanings_in}
use Rattle.vcd_state.specs.State.{open_of, cursor_of, writer_of, head_of}
use Rattle.write_calls.specs.Writing.{command_call, write_header_call, rewrite_call}
use Rattle.promises.specs.Runs.{LibraryCall, vcd_command, vcd_write_header, vcd_rewrite, ran, library_effect, library_runs}
use Rattle.promises.specs.Stated.{start_words}
use Rattle.promises.proofs.Runs.{library-round-trip}

-- a timestamp's record
abbrev time : ℕ → List ℕ
time n = 9 ∷ 0 ∷ n ∷ 0 ∷ 0 ∷ 0 ∷ 0 ∷ 0 ∷ 0 ∷ []

abbrev room : ℕ → List ℕ
room n = replicate n 0

abbrev nine : (n : ℕ) → LibraryCall
nine n = vcd_command [] (time 10) (room n) (omega arith, (omega arith, (omega arith, (omega arith, (omega arith, (omega arith, (omega arith, (omega arith, (omega arith, tt)))))))))

pub calls : List LibraryCall
calls =
    nine 3  -- no room
    ∷ nine 4
    ∷ vcd_write_header [] [] [] (room 9) tt  -- no head
    ∷ vcd_rewrite (bytes "1! 0\" q") (0 ∷ 1 ∷ 0 ∷ 0 ∷ []) (room 9) 0  -- the last byte is no command
    ∷ []

pub file : List ℕ
file = bytes "#10\n1!\n0\"\n"

pub accepted : List Meaning
accepted = timestamp 10 ∷ change (record { 0 = 0 }) (scalar Value.V1) ∷ change (record { 0 = 1 }) (scalar Value.V0) ∷ []

pub written : library_runs start_words calls ≡ record { file = file; accepted = accepted }
unfolding calls file accepted ran library_effect command_call write_header_call rewrite_call open_of cursor_of writer_of head_of record_at command_of command_in all_zero is_used number_most amount_most has_code has_text taken rewrite_of rewritten meanings_in commands commands_on call outcome too_long put_answer put_bytes layout is_id state_after next_from is_good found kind_of run lookup skipped gap word after byte_read end_read token word_here word_token is_blank equal has starts part valid_utf8 well_formed due_after lies parse_below unsigned digits_below number_from all_digits value is_digit digits_of parse_id is_id_byte all_id id_tail sum_from text_of
written = refl

pub reads_so : read_all file start ≡ exactly accepted
unfolding file accepted
reads_so = rw written at (library-round-trip calls (rw written (omega arith)))
