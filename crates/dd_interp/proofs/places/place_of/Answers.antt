use Rattle.dd_interp.proofs.RisingLists.{unplaced}
use Rattle.dd_interp.proofs.places.place_of.Goals as goal

pub returns-in-Err : goal.returns-in-Err
returns-in-Err c = unplaced c.args.elements.now c.args.x c.in-Err.field-0 c.requires c.in-Err.ensures.position
