-- Of each wrong reader one input shows that it does not meet the statement, computed: two timestamps. Assumes nothing.
use Rattle.std.specs.Prelude.{None}
use Prim.Native.Nat.{ℕ}
use mathlib.Core.Path.{◌≡◌, refl}
use mathlib.Core.Bool.{false}
use mathlib.Core.List.{List}
use native.Mathlib.Omega.{arith}
use Rattle.text.specs.Bytes.{bytes, is_blank, has}
use Rattle.text.specs.Texts.{part}
use Rattle.utf8.specs.Utf8.{lies, due_after, well_formed, valid_utf8}
use Rattle.number.specs.Decimal.{is_digit, all_digits, value, number_from, digits_below, unsigned, parse_below}
use Rattle.command.specs.declared.Command.{Command}
use Rattle.parser_part.specs.Plan.{run, kind_of}
use Rattle.parser.specs.Next.{is_good, found, next_from, fresh}
use Rattle.parser.specs.declared.Next.{Next}
use Rattle.token.specs.Read.{byte_read, skipped, gap, word, after, word_token, word_here, token}
use Rattle.token.specs.declared.Cursor.{Cursor}
use Rattle.falls_read.specs.Stated.{ReadersFall}

abbrev input : List ℕ
input = bytes "#1 #2 "

abbrev at : ℕ → Cursor
at p = record { place = p; line = 1; pending = false; sim = None }

abbrev time : ℕ → Cursor → Next
time n d = Next.Command (Command.Timestamp (record { 0 = n })) d

-- each answer, and from the first one's cursor the second
answers : (next_from input fresh ≡ time 1 (at 3)) × (next_from input (at 3) ≡ time 2 (at 6))
unfolding next_from is_good found kind_of run skipped gap word after byte_read is_blank has token word_here word_token part valid_utf8 well_formed due_after lies parse_below unsigned digits_below number_from all_digits value is_digit
answers = (refl, refl)

pub readers-fall : ReadersFall
readers-fall =
    record {
      refuses-all = λ e n d h. let z : ◌≡◌ {A = ℕ} 0 1 = cc (answers.0, h input fresh) in omega arith;
      always-done = λ d h. let z : ◌≡◌ {A = ℕ} 0 1 = cc (answers.0, h input fresh) in omega arith;
      right-once = λ d h. let z : ◌≡◌ {A = ℕ} 0 1 = cc (answers.1, h input (at 3)) in omega arith;
    }
