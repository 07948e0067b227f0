-- Goals of `write_header::write_version` that the search leaves.
use Rattle.write_header.proofs.Places.{placed}
use Rattle.write_header.proofs.write_version.Goals as goal

pub write_one-requires : goal.write_one-requires
write_one-requires c = (c.requires.0, placed _ _ c.requires.1 (rw c.in-Some.is at c.requires.2))
