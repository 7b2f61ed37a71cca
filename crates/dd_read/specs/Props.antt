-- One pair of proofs that what is kept is fit.
use Rattle.dd_wire.specs.Replies.{IsPrintable}
use Rattle.dd_wire.specs.declared.reply.Reply.{Reply}
use Rattle.dd_wire.specs.declared.reply.Reply.TheVariants.{Refused, Peers, Put, Decided, RunSpent, VerdictsSpent, Memory, Valid, InvalidLines, InvalidWorld, Unreadable, Versions}
use Rattle.std.proofs.Props.{props}
use Rattle.std.specs.Coded.{Coded-set}
use Rattle.std.specs.Prelude.{List}
use Rattle.dd_peer.specs.contracts.version.Pinned.{the_row}
use Rattle.dd_peer.specs.declared.version.Pinned.{Pinned}
use Rattle.dd_read.specs.Fit.{IsFitKept, IsSound}
use Rattle.dd_read.specs.State.{State}
use Rattle.dd_read.specs.declared.kept.Kept.{Kept}
use Rattle.dd_read.specs.declared.kept.Kept.TheVariants.{Finished, Asked}

-- two pinned sets are equal in at most one way, since each has a code
pinned_set : IsSet Pinned
pinned_set = Coded-set the_row.coded

printable_prop : (r : Reply) → IsProp (IsPrintable r)
printable_prop (Refused id code n) = hlevel props
printable_prop (Peers id count) = hlevel props
printable_prop (Put id put version) = hlevel props
printable_prop (Decided id verdict from pin cert) = hlevel props
printable_prop (RunSpent id count peer from pin) = hlevel props
printable_prop (VerdictsSpent id count from pin) = hlevel props
printable_prop (Memory id from pin) = hlevel props
printable_prop (Valid id) = hlevel props
printable_prop (InvalidLines id at) = hlevel props
printable_prop (InvalidWorld id fault) = hlevel props
printable_prop (Unreadable id what) = hlevel props
printable_prop (Versions id versions) = hlevel props

kept_prop : (s : State) (k : Kept) → IsProp (IsFitKept s k)
kept_prop s (Finished given) = printable_prop given
kept_prop s (Asked ask) = hlevel (props, pinned_set)

pub sound_prop : (s : State) (ks : List Kept) → IsProp (IsSound s ks)
sound_prop s ks = hlevel (props, kept_prop s)
