-- By which refusals reading refuses: the walk over plans in parser/proofs/Ranged.antt. Assumes nothing.
use Rattle.parser.proofs.Ranged.{refusal-reading}
use Rattle.promises.specs.Stated.{ReadingRefusals}

pub reading-refusals : ReadingRefusals
reading-refusals s c e n d q = refusal-reading s c q
