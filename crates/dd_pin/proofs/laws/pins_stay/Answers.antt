use Rattle.dd_pin.proofs.Pins.{stays}
use Rattle.dd_pin.proofs.laws.pins_stay.Goals as goal

pub returns : goal.returns
returns c = stays
