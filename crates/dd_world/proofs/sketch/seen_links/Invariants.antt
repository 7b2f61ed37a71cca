use Rattle.std.proofs.Common.{◌≡◌, map, take}
use Rattle.dd_world.specs.Sketches.{seen_link}
use Rattle.dd_world.proofs.sketch.seen_links.Given as goal

abbrev pub invariant-loop-link : goal.invariant-loop-link
invariant-loop-link l = l.links ≡ map (seen_link l.elements) (take l.link-index l.link-items)
