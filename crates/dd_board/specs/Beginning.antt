-- What a session has at its beginning. Private clauses alone cite this.
use Rattle.std.specs.Prelude.{true, List, [], ◌∷◌, None, map}
use Rattle.dd_peer.specs.declared.version.PeerVersion.{PeerVersion}
use Rattle.dd_task.specs.declared.job.Key.TheVariants.{Root}
use Rattle.dd_task.specs.declared.line.Prop.{Prop}
use Rattle.dd_board.specs.declared.event.TaskState.TheVariants as state
use Rattle.dd_board.specs.declared.session.Slot.{Slot}

-- the root, which is due and wanted
abbrev pub root_slots : List Slot
root_slots = record { key = Root; holder = None; state = state.Unknown; is_due = true; is_wanted = true } ∷ []

-- no propagations, for each peer
abbrev pub no_props : List PeerVersion → List (List Prop)
no_props peers = map (λ v. []) peers
