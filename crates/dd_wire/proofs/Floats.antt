-- No reply has a float.
use Rattle.std.proofs.Common.{◌≡◌, ℕ, false, List, [], ◌∷◌, refl}
use Rattle.std.specs.Prelude.{None, Some, map}
use Rattle.serde_json.specs.Written.{has_float, items_have_float}
use Rattle.dd_wire.specs.Replies.{items_of, whole_number, reply_data, IsPrintable}
use Rattle.dd_wire.specs.declared.reply.Reply.{Reply}
use Rattle.dd_wire.specs.declared.reply.Reply.TheVariants.{Refused, Peers, Put, Decided, RunSpent, VerdictsSpent, Memory, Valid, InvalidLines, InvalidWorld, Unreadable, Versions}
use Rattle.dd_wire.specs.declared.reply.BadWorld.TheVariants as fault
use Rattle.dd_wire.specs.declared.reply.Unread.TheVariants as unread

no_float_in : (ns : List ℕ) → items_have_float (items_of (map whole_number ns)) ≡ false
no_float_in [] = refl
no_float_in (n ∷ ns) = no_float_in ns

pub no_float : (reply : Reply) → IsPrintable reply → has_float (reply_data reply) ≡ false
no_float (Refused id code None) is = refl
no_float (Refused id code (Some n)) is = refl
no_float (Peers id count) is = refl
no_float (Put id put version) is = refl
no_float (Decided id verdict from pin cert) is = rw (is, no_float_in pin.versions)
no_float (RunSpent id count peer from pin) is = rw (no_float_in pin.versions)
no_float (VerdictsSpent id count from pin) is = rw (no_float_in pin.versions)
no_float (Memory id from pin) is = rw (no_float_in pin.versions)
no_float (Valid id) is = refl
no_float (InvalidLines id at) is = refl
no_float (InvalidWorld id fault.Shape) is = refl
no_float (InvalidWorld id fault.NotCounter) is = refl
no_float (InvalidWorld id (fault.Axiom index peer)) is = refl
no_float (InvalidWorld id (fault.Into index peer)) is = refl
no_float (InvalidWorld id (fault.Onto index peer)) is = refl
no_float (Unreadable id (unread.Field field)) is = refl
no_float (Unreadable id (unread.Place place value)) is = refl
no_float (Unreadable id (unread.Text index)) is = refl
no_float (Versions id versions) is = rw (no_float_in versions.versions)
