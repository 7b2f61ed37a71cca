-- The number with which the program ends.
use Rattle.std.specs.Prelude.{ℕ}
use Rattle.dd_server.specs.declared.status.Status.{Status}
use Rattle.dd_server.specs.declared.status.Status.TheVariants.{Done, Words, ReadFault, WriteFault, Memory, TooMuch}

abbrev pub number_of_status : Status → ℕ
number_of_status Done = 0
number_of_status Words = 2
number_of_status ReadFault = 3
number_of_status WriteFault = 4
number_of_status Memory = 5
number_of_status TooMuch = 6
