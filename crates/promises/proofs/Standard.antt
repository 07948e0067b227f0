-- The tables are the standard's, up to what is named: computed.
use mathlib.Core.Path.{refl}
use Rattle.text.specs.Bytes.{equal}
use Rattle.idcode.proofs.Laws.{id-byte, id_range}
use Rattle.promises.specs.Standard.{Standard}

pub standard : Standard
unfolding equal
standard =
    record {
      characters = refl;
      ids = id_range;
      all_ids = id-byte;
      scopes = refl;
      variables = refl;
      keywords = refl;
    }
