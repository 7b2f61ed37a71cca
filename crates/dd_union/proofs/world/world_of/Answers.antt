use Rattle.std.proofs.Common.{◌∙◌, ap, subst, sym}
use Rattle.dd_union.specs.Evidence.{ShowsNo}
use Rattle.dd_union.specs.Pieces.{OpenShaped, all_joined}
use Rattle.dd_union.proofs.Shown.{open-shaped, shows-no, tasks-are}
use Rattle.dd_union.proofs.world.world_of.Goals as goal

pub join_all-links-requires-clause-shaped : goal.join_all-links-requires-clause-shaped
join_all-links-requires-clause-shaped c s at =
    subst (OpenShaped s) (sym c.as_slice-2.ensures.value)
    (open-shaped s c.in_ok-places.places.items c.place_all.new.locals.items (c.in_ok-places.ensures.placed s at) (c.sessions-legal.ensures.legal c.args.session s at))

pub returns : goal.returns
returns c s at =
    subst (λ ls. ShowsNo s (record { locals = ls; links = c.in_ok-links.field-0 })) (sym c.from_vec.ensures)
    (shows-no s c.in_ok-places.places.items c.place_all.new.locals.items (c.in_ok-places.ensures.placed s at) (c.sessions-legal.ensures.legal c.args.session s at)
    (c.requires.fit s at) (c.requires.quiet s at) (c.in_ok-places.ensures.count ∙ tasks-are c.args.b.now c.args.session s at)
    c.in_ok-links.field-0 (c.in_ok-links.ensures s at ∙ ap (all_joined s) c.as_slice-2.ensures.value))
