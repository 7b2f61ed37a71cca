-- A countermodel shows that the query does not follow.
use Rattle.dd_world.specs.World.{CountersRefute}

pub refutes : CountersRefute
refutes p q w c f = c.element.1.lacks_right (f w c.world c.satisfies c.element.0 c.element.1.within c.element.1.has_left)
