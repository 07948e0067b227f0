-- Every answer holds of the reader's definition: one statement, computed. Assumes nothing.
use Prim.Native.Nat.{ℕ}
use mathlib.Core.Path.{◌≡◌, refl}
use mathlib.Core.List.{List, map}
use Rattle.text.specs.Bytes.{is_blank, equal, has, starts}
use Rattle.text.specs.Names.{lookup}
use Rattle.text.specs.Texts.{part}
use Rattle.utf8.specs.Utf8.{lies, due_after, well_formed, valid_utf8}
use Rattle.white_space.specs.WhiteSpace.{begins_with, blank_at, blanks, all_white, kept_of}
use Rattle.number.specs.Decimal.{is_digit, all_digits, value, number_from, digits_below, unsigned, parse_below, parse_signed}
use Rattle.real.specs.Real.{digits_in}
use Rattle.timescale.specs.Units.{parse_unit}
use Rattle.idcode.specs.Id.{parse_id, is_id_byte, all_id, id_tail, sum_from}
use Rattle.scope.specs.Index.{padded, up_to_byte, parse_inside, parse_index}
use Rattle.scope.specs.Types.{parse_scope_type, parse_var_type}
use Rattle.token.specs.Read.{byte_read, end_read, after, gap, word, skipped, word_token, word_here, token}
use Rattle.parser_part.specs.Plan.{run, kind_of, is_ascii}
use Rattle.parser.specs.Next.{is_good, found, next_from}
use Rattle.judged.specs.Judged.{answered, judged}

abbrev pub computed : List ℕ × ℕ → List ℕ × ℕ
computed p = (p.0, answered p.0)

pub holds : map computed judged ≡ judged
unfolding next_from is_good found kind_of run lookup is_ascii digits_in parse_unit skipped gap word after byte_read end_read token word_here word_token is_blank equal has starts part valid_utf8 well_formed due_after lies begins_with blank_at blanks all_white kept_of parse_below unsigned digits_below number_from all_digits value is_digit parse_signed parse_id is_id_byte all_id id_tail sum_from padded up_to_byte parse_inside parse_index parse_scope_type parse_var_type
holds = refl
