-- Where the session stands that a reading is of.
use Rattle.dd_read.specs.Standing.{Standing}
use Rattle.dd_read.specs.State.{State, state_by}
use Rattle.dd_read.specs.declared.reading.Reading.{Reading}

abbrev pub state_of : Reading → State
state_of r = state_by r.names r.symbols r.registry

abbrev pub standing_of : Reading → Standing
standing_of r = record { state = state_of r; requests = r.requests; kept = r.kept.items }
