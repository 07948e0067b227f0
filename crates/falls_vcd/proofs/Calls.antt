-- Of each one call shows it, computed: a timestamp read, one written, and a byte that begins no command. Assumes nothing.
use Prim.Native.Nat.{ℕ}
use mathlib.Core.Path.{◌≡◌, refl, ◌∙◌}
use mathlib.Core.List.{List, [], ◌∷◌}
use native.Mathlib.Omega.{arith}
use lib.ListN.{replicate}
use Rattle.text.specs.Bytes.{bytes, is_blank, has}
use Rattle.text.specs.Texts.{part, too_long, put_answer}
use Rattle.utf8.specs.Utf8.{lies, due_after, well_formed, valid_utf8}
use Rattle.number.specs.Decimal.{is_digit, all_digits, value, number_from, digits_below, unsigned, parse_below, digits_of}
use Rattle.token.specs.Read.{byte_read, after, gap, word, skipped, word_token, word_here, token}
use Rattle.parser_part.specs.Plan.{run, kind_of}
use Rattle.parser.specs.Next.{is_good, found, next_from}
use Rattle.parser.specs.All.{commands_on, commands}
use Rattle.rows.specs.Rows.{all_zero}
use Rattle.record.specs.Record.{command_in, command_of, record_at}
use Rattle.record.specs.Used.{number_most, amount_most, has_code, has_text, is_used}
use Rattle.write.specs.Call.{outcome, call}
use Rattle.write.specs.Layout.{layout, state_after}
use Rattle.rewrite.specs.Rewrite.{rewritten, rewrite_of}
use Rattle.vcd_state.specs.State.{open_of, cursor_of, writer_of}
use Rattle.read_calls.specs.Reading.{next_call}
use Rattle.write_calls.specs.Writing.{command_call, rewrite_call}
use Rattle.falls_vcd.specs.Stated.{CallsFall}

abbrev zeros : ℕ → List ℕ
zeros n = replicate n 0

-- the words of a fresh cursor, of a fresh writer, and of the timestamp 1
abbrev cursor : List ℕ
cursor = 0 ∷ 1 ∷ 0 ∷ 0 ∷ []

abbrev writer : List ℕ
writer = zeros 3

abbrev time : List ℕ
time = 9 ∷ 0 ∷ 1 ∷ zeros 6

read : (next_call (bytes "#1 ") cursor (zeros 9)).status ≡ 0
unfolding next_call cursor_of open_of next_from is_good found kind_of run skipped gap word after byte_read is_blank has token word_here word_token part valid_utf8 well_formed due_after lies parse_below unsigned digits_below number_from all_digits value is_digit
read = refl

counted : (command_call writer [] time (zeros 3) 0).count ≡ 3
unfolding command_call writer_of open_of record_at command_of command_in all_zero is_used number_most amount_most has_code has_text call outcome too_long layout state_after put_answer digits_of
counted = refl

line_of : (rewrite_call (bytes "q") cursor writer [] 0 0).line ≡ 1
unfolding rewrite_call cursor_of writer_of open_of rewrite_of rewritten commands commands_on next_from is_good found kind_of run skipped gap after byte_read is_blank has
line_of = refl

pub calls-fall : CallsFall
calls-fall =
    record {
      always-done = λ h. let z : ◌≡◌ {A = ℕ} 255 0 = h (bytes "#1 ") cursor (zeros 9) ∙ read in omega arith;
      uncounted = λ h. let z : ◌≡◌ {A = ℕ} 0 3 = h writer [] time (zeros 3) 0 ∙ counted in omega arith;
      line_kept = λ h. let z : ◌≡◌ {A = ℕ} 0 1 = h (bytes "q") cursor writer [] 0 0 ∙ line_of in omega arith;
    }
