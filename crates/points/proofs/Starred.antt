-- Every starred point holds of the definitions: one statement, computed. Assumes nothing.
use mathlib.Core.Path.{refl}
use Rattle.idcode.specs.Id.{parse_id, text_of, is_id_byte, all_id, id_tail, sum_from}
use Rattle.scope.specs.Index.{parse_index}
use Rattle.text.specs.Bytes.{is_blank, equal, has, starts, up_to}
use Rattle.text.specs.Names.{lookup}
use Rattle.text.specs.Texts.{part}
use Rattle.utf8.specs.Utf8.{lies, due_after, well_formed, valid_utf8}
use Rattle.white_space.specs.WhiteSpace.{begins_with, blank_at, blanks, all_white, kept_of}
use Rattle.value.specs.Values.{is_value, lower}
use Rattle.token.specs.Read.{byte_read, end_read, after, gap, word, skipped, values_in, word_token, word_here, token, text_to, text_from}
use Rattle.parser_part.specs.Plan.{run, kind_of}
use Rattle.parser.specs.Next.{is_good, found, next_from}
use Rattle.parser.specs.All.{commands_on, commands, reading, read_all}
use Rattle.points.specs.Points.{Starred}

pub starred : Starred
unfolding parse_id is_id_byte all_id id_tail sum_from text_of parse_index read_all reading commands commands_on next_from is_good found kind_of run lookup skipped gap word after byte_read end_read token word_here word_token text_from text_to values_in is_blank equal has starts up_to part is_value lower valid_utf8 well_formed due_after lies begins_with blank_at blanks all_white kept_of
starred = (refl, refl)
