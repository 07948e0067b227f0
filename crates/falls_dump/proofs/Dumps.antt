-- Of each one input shows it, by the first word or byte that is left, computed: a comment, a timestamp, and a header without rows.
-- Assumes nothing.
use Prim.Native.Nat.{ℕ}
use mathlib.Core.Path.{◌≡◌, refl, ap, ◌∙◌}
use mathlib.Core.List.{List, []}
use native.Mathlib.Omega.{arith}
use lib.ListN.{replicate, get_or}
use Rattle.text.specs.Bytes.{bytes, is_blank, equal, has, starts, up_to}
use Rattle.text.specs.Names.{lookup}
use Rattle.text.specs.Texts.{part, too_long}
use Rattle.utf8.specs.Utf8.{lies, due_after, well_formed, valid_utf8}
use Rattle.white_space.specs.WhiteSpace.{begins_with, blank_at, blanks, all_white, kept_of}
use Rattle.number.specs.Decimal.{is_digit, all_digits, value, number_from, digits_below, unsigned, parse_below, digits_of}
use Rattle.token.specs.Read.{byte_read, end_read, after, gap, word, skipped, word_token, word_here, token, text_to, text_from}
use Rattle.parser_part.specs.Plan.{run, kind_of}
use Rattle.parser.specs.Next.{is_good, found, next_from, fresh}
use Rattle.parser.specs.All.{commands_on, commands}
use Rattle.rows.specs.Rows.{listed as row_listed, words_of as rows_words, rows_from, filled as rows_filled}
use Rattle.rows.specs.Good.{is_good_table, is_good_from}
use Rattle.header.specs.Header.{nothing, move, read_rows, header_of}
use Rattle.record.specs.Record.{listed as record_listed, words_of as records_words}
use Rattle.records.specs.Read.{taken as records_taken, read_of, filled as records_filled}
use Rattle.write.specs.Layout.{layout, state_after, fresh as fresh_writer}
use Rattle.write.specs.Run.{layouts, taken}
use Rattle.rewrite.specs.Rewrite.{rewritten, rewrite_of, filled as bytes_filled}
use Rattle.write_header.specs.Meanings.{row_meanings, header_meanings}
use Rattle.tree.specs.Place.{some_outside}
use Rattle.write_header.specs.Written.{misplaced, header_call}
use Rattle.falls_dump.specs.Stated.{DumpsFall, DeepFirst}

abbrev zeros : ℕ → List ℕ
zeros n = replicate n 0

abbrev front : List ℕ → ℕ
front l = get_or l 0 0

-- a row of kind 3, in a table with room for it
row : front (rows_filled (header_of (bytes "$comment a $end") fresh (zeros 10)).rows (zeros 10)) ≡ 3
unfolding read_rows move rows_words row_listed commands commands_on next_from is_good found kind_of run lookup skipped gap word after byte_read end_read token word_here word_token text_from text_to is_blank equal has starts up_to part valid_utf8 well_formed due_after lies begins_with blank_at blanks all_white kept_of
row = refl

-- a record of kind 9
record-made : front (records_filled (read_of (bytes "#1 ") fresh (zeros 9)).commands (zeros 9)) ≡ 9
unfolding read_of records_taken records_words record_listed commands commands_on next_from is_good found kind_of run skipped gap word after byte_read is_blank has token word_here word_token part valid_utf8 well_formed due_after lies parse_below unsigned digits_below number_from all_digits value is_digit
record-made = refl

-- a hash
hash : front (bytes_filled (rewrite_of (bytes "#1 ") fresh fresh_writer (zeros 3)).bytes (zeros 3)) ≡ 35
unfolding rewrite_of rewritten layout state_after digits_of commands commands_on next_from is_good found kind_of run skipped gap word after byte_read is_blank has token word_here word_token part valid_utf8 well_formed due_after lies parse_below unsigned digits_below number_from all_digits value is_digit
hash = refl

-- a dollar sign
dollar : front (header_call fresh_writer [] nothing [] 0 (zeros 32)).left ≡ 36
unfolding header_call misplaced some_outside too_long is_good_table is_good_from header_meanings row_meanings rows_from taken layouts layout state_after
dollar = refl

pub dumps-fall : DumpsFall
dumps-fall =
    record {
      header_read = λ h. let z : ◌≡◌ {A = ℕ} 0 3 = ap front (h (bytes "$comment a $end") fresh (zeros 10)) ∙ row in omega arith;
      records-read = λ h. let z : ◌≡◌ {A = ℕ} 0 9 = ap front (h (bytes "#1 ") fresh (zeros 9)) ∙ record-made in omega arith;
      rewritten = λ h. let z : ◌≡◌ {A = ℕ} 0 35 = ap front (h (bytes "#1 ") fresh fresh_writer (zeros 3)) ∙ hash in omega arith;
      header-written = λ h. let z : ◌≡◌ {A = ℕ} 0 36 = ap front (h fresh_writer [] nothing [] 0 (zeros 32)) ∙ dollar in omega arith;
    }

pub deep-first : DeepFirst
unfolding move
deep-first k t h = refl
