-- Goals of `parser_declare::is_ascii` that the search leaves.
use Rattle.parser_declare.proofs.Declarations.{ascii-is}
use Rattle.parser_declare.proofs.is_ascii.Goals as goal

pub returns : goal.returns
returns c = ascii-is _ _ c.is_ascii.ensures.cases
