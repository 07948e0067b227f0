-- What the programs print. Assumes nothing.
use Rattle.list_job.proofs.Rooms as rooms
use Rattle.promises.specs.Stated.{Printed}

pub printed : Printed
printed = rooms.printed
