-- The points on the writer, computed. Assumes nothing.
use Prim.Native.Nat.{◌-◌, ◌^◌}
use mathlib.Core.Path.{refl}
use borrow.Author.Tests.{eq-eqb}
use Rattle.text.specs.Bytes.{is_blank, no_blank, is_token, equal, has, starts}
use Rattle.text.specs.Names.{lookup}
use Rattle.text.specs.Texts.{is_within, part, put_answer, put_bytes, outside}
use Rattle.utf8.specs.Utf8.{lies, due_after, well_formed, valid_utf8}
use Rattle.number.specs.Decimal.{digits_of}
use Rattle.idcode.specs.Id.{parse_id, text_of, is_id_byte, all_id, id_tail, sum_from}
use Rattle.token.specs.Read.{byte_read, end_read, after, gap, word, skipped, word_token, word_here, token}
use Rattle.parser_part.specs.Plan.{run, kind_of}
use Rattle.parser.specs.Next.{is_good, found, next_from}
use Rattle.parser.specs.All.{commands_on, commands, reading, read_all, exactly}
use Rattle.write_check.specs.Check.{is_name}
use Rattle.write.specs.Call.{outcome, call}
use Rattle.write.specs.Layout.{layout, is_id, raised, state_after}
use Rattle.promises.specs.Stated.{WriterPoints}

pub writer-points : WriterPoints
unfolding call outcome outside is_within part layout is_name is_id raised state_after is_token no_blank is_blank valid_utf8 well_formed due_after lies put_answer put_bytes digits_of text_of parse_id is_id_byte all_id id_tail sum_from read_all reading commands commands_on exactly next_from is_good found kind_of run skipped gap word after byte_read end_read token word_here word_token lookup equal has starts
writer-points =
    record {
      last = refl;
      spent = λ w k n t x src out e o. rw (o, eq-eqb w.id.0 (2 ^ 64 - 1) e);
      same = (refl, refl);
      line = (refl, refl);
    }
