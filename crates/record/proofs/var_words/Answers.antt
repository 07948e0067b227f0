-- Goals of `record::var_words` that the search leaves.
use Rattle.record.proofs.var_words.Goals as goal

pub returns : goal.returns
returns c = rw (c.number.ensures, c.index_form.ensures, c.first_word.ensures, c.second_word.ensures)
