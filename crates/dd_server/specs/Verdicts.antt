-- What a printed verdict says.
use Rattle.std.specs.Prelude.{◌≡◌, ℕ, Bool, true, false, List, Some, slice_get}
use Rattle.serde_json.specs.declared.value.Value.{Value}
use Rattle.dd_text.specs.Symbols.{SymbolLists}
use Rattle.dd_peer.specs.declared.version.Pin.{Pin}
use Rattle.dd_world.specs.World.{Follows}
use Rattle.dd_wire.specs.declared.reply.Origin.{Origin}
use Rattle.dd_wire.specs.declared.reply.Reply.{Reply}
use Rattle.dd_wire.specs.declared.reply.Reply.TheVariants as reply
use Rattle.dd_read.specs.declared.kept.Ask.{Ask}
use Rattle.dd_read.specs.declared.kept.Kept.{Kept}
use Rattle.dd_read.specs.declared.kept.Kept.TheVariants.{Asked}
use Rattle.dd_server.specs.Finish.{Entries, Finish}

-- yes where it holds, no where it does not
abbrev pub Says : Bool → Type 0 → Type 0
Says true holds = holds
Says false holds = ¬ holds

-- where the reply decides, the query follows under the ask's own pin exactly as it says
abbrev pub IsTrueOf : Ask → Reply → Type 0
IsTrueOf ask given = (id : ℕ) (verdict : Bool) (from : Origin) (pin : Pin) (cert : Value) → given ≡ reply.Decided id verdict from pin cert
    → Says verdict (Follows ask.job.pinned ask.job.query)

-- However a window ends, each reply to an ask that decides says what holds, be it searched for or found in the cache.
abbrev pub VerdictsHold : Type 0
VerdictsHold = (capacity : ℕ) (s : SymbolLists) (kept : List Kept) (old new : Entries) (replies : List Reply) → Finish capacity s kept old new replies
    → (n : ℕ) (ask : Ask) (given : Reply) → slice_get kept n ≡ Some (Asked ask) → slice_get replies n ≡ Some given → IsTrueOf ask given
