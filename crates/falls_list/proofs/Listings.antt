-- Of each wrong listing one or two inputs show that it does not meet the statement, computed: none, and one change. Assumes nothing.
use Prim.Native.Nat.{ℕ, ◌+◌}
use mathlib.Core.Path.{◌≡◌, refl, ap, ◌∙◌}
use mathlib.Core.List.{List, [], ◌∷◌}
use native.Mathlib.Omega.{arith}
use Rattle.text.specs.Bytes.{bytes, is_blank, has}
use Rattle.text.specs.Texts.{part}
use Rattle.utf8.specs.Utf8.{lies, due_after, well_formed, valid_utf8}
use Rattle.idcode.specs.Id.{parse_id, is_id_byte, all_id, id_tail, sum_from}
use Rattle.idcode.specs.declared.IdCode.{IdCode}
use Rattle.token.specs.Read.{byte_read, skipped, gap, word, after, word_token, word_here, token}
use Rattle.parser_part.specs.Plan.{run, kind_of}
use Rattle.parser.specs.Next.{is_good, found, next_from, fresh}
use Rattle.parser.specs.All.{commands_on, commands}
use Rattle.listing.specs.Listing.{changes, list_in, list_of, answer_of}
use Rattle.listing.specs.declared.ListAnswer.{ListAnswer}
use Rattle.falls_list.specs.Stated.{ListingsFall}

abbrev code : IdCode
code = record { 0 = 0 }

-- room for one row
abbrev table : List ℕ
table = 0 ∷ 0 ∷ 0 ∷ 0 ∷ 0 ∷ 0 ∷ []

abbrev count : ListAnswer → ℕ
count a = a.count

none : count (answer_of (list_of [] fresh code table)) ≡ 0
unfolding list_in changes commands commands_on next_from is_good found skipped gap after
none = refl

single : count (answer_of (list_of (bytes "1! ") fresh code table)) ≡ 1
unfolding list_in changes commands commands_on next_from is_good found kind_of run skipped gap word after byte_read is_blank has token word_here word_token part valid_utf8 well_formed due_after lies parse_id is_id_byte all_id id_tail sum_from
single = refl

pub listings-fall : ListingsFall
listings-fall =
    record {
      invented-count = λ n d e u l h.
          let z : n fresh code table ≡ 0 = ap count (h [] fresh code table).0 ∙ none in
          let o : n fresh code table ≡ 1 = ap count (h (bytes "1! ") fresh code table).0 ∙ single in
          omega arith;
      one_more_lem = λ l h.
          let z : count (answer_of (list_of [] fresh code table)) + 1 ≡ count (answer_of (list_of [] fresh code table)) = ap count (h [] fresh code table).0 in
          omega arith;
    }
