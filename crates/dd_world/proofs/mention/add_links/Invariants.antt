use Rattle.std.proofs.Common.{◌≡◌, ◌++◌, take}
use Rattle.std.specs.List.{flat_map}
use Rattle.dd_world.specs.Mentions.{link_ends}
use Rattle.dd_world.proofs.mention.add_links.Given as goal

abbrev pub invariant-loop-link : goal.invariant-loop-link
invariant-loop-link l = l.elements.items ≡ l.initial.elements.items ++ flat_map (link_ends l.peer) (take l.link-index l.links)
