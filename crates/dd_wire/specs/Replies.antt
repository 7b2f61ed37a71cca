-- The text of a reply: compact JSON, its members in the byte order of their names.
use Rattle.std.specs.Prelude.{◌≡◌, ℕ, List, [], ◌∷◌, map, Bool, true, false, Option, None, Some, IsTrue, ⊤, codes}
use Rattle.serde_json.specs.Data.{Data, unsigned, number, string, array, object, Items, no_items, item, Members, no_members, member}
use Rattle.serde_json.specs.View.{view}
use Rattle.serde_json.specs.Written.{compact_text, has_float}
use Rattle.dd_text.specs.Names.{names_a_thing}
use Rattle.dd_wire.specs.Refusal.{error_name}
use Rattle.dd_wire.specs.declared.reply.Origin.{Origin}
use Rattle.dd_wire.specs.declared.reply.Origin.TheVariants as origin
use Rattle.dd_wire.specs.declared.reply.BadWorld.{BadWorld}
use Rattle.dd_wire.specs.declared.reply.BadWorld.TheVariants as fault
use Rattle.dd_wire.specs.declared.reply.Unread.{Unread}
use Rattle.dd_wire.specs.declared.reply.Unread.TheVariants as unread
use Rattle.dd_wire.specs.declared.reply.Reply.{Reply}
use Rattle.dd_wire.specs.declared.reply.Reply.TheVariants.{Refused, Peers, Put, Decided, RunSpent, VerdictsSpent, Memory, Valid, InvalidLines, InvalidWorld, Unreadable, Versions}

abbrev pub whole_number : ℕ → Data
whole_number n = number (unsigned n)

abbrev pub items_of : List Data → Items
items_of [] = no_items
items_of (d ∷ ds) = item d (items_of ds)

abbrev pub numbers : List ℕ → Data
numbers ns = array (items_of (map whole_number ns))

-- a member that is there only where it has a value
abbrev pub maybe_number : List ℕ → Option ℕ → Members → Members
maybe_number key None rest = rest
maybe_number key (Some n) rest = member key (whole_number n) rest

abbrev pub verdict_name : Bool → List ℕ
verdict_name true = codes "yes"
verdict_name false = codes "no"

-- where an answer comes from
abbrev pub origin_name : Origin → List ℕ
origin_name origin.Search = codes "search"
origin_name origin.Cache = codes "cache"

-- ---- the replies to asks

-- yes or no, with its certificate
abbrev pub decided_data : ℕ → List ℕ → Origin → List ℕ → Data → Data
decided_data id verdict from pin cert = object (member (codes "cert") cert (member (codes "from") (string (origin_name from))
    (member (codes "id") (whole_number id) (member (codes "pin") (numbers pin) (member (codes "verdict") (string verdict) no_members)))))

-- a run was spent: the run at this peer put so many labels
abbrev pub run_data : ℕ → ℕ → ℕ → Origin → List ℕ → Data
run_data id count peer from pin = object (member (codes "count") (whole_number count) (member (codes "from") (string (origin_name from))
    (member (codes "id") (whole_number id) (member (codes "peer") (whole_number peer) (member (codes "pin") (numbers pin)
    (member (codes "spent") (string (codes "run")) (member (codes "verdict") (string (codes "spent")) no_members)))))))

-- the verdicts were spent: so many were posted
abbrev pub verdicts_data : ℕ → ℕ → Origin → List ℕ → Data
verdicts_data id count from pin = object (member (codes "count") (whole_number count) (member (codes "from") (string (origin_name from))
    (member (codes "id") (whole_number id) (member (codes "pin") (numbers pin)
    (member (codes "spent") (string (codes "verdicts")) (member (codes "verdict") (string (codes "spent")) no_members))))))

-- memory was wanting
abbrev pub memory_data : ℕ → Origin → List ℕ → Data
memory_data id from pin = object (member (codes "from") (string (origin_name from)) (member (codes "id") (whole_number id)
    (member (codes "pin") (numbers pin) (member (codes "verdict") (string (codes "memory")) no_members))))

-- ---- the replies to checks

-- a world's fault, at a place where it has one
abbrev pub plain_fault : List ℕ → ℕ → Data
plain_fault name id = object (member (codes "check") (string (codes "invalid")) (member (codes "fault") (string name)
    (member (codes "id") (whole_number id) no_members)))

abbrev pub placed_fault : List ℕ → ℕ → ℕ → ℕ → Data
placed_fault name id index peer = object (member (codes "check") (string (codes "invalid")) (member (codes "fault") (string name)
    (member (codes "id") (whole_number id) (member (codes "index") (whole_number index) (member (codes "peer") (whole_number peer) no_members)))))

abbrev pub fault_data : ℕ → BadWorld → Data
fault_data id fault.Shape = plain_fault (codes "shape") id
fault_data id fault.NotCounter = plain_fault (codes "not_counter") id
fault_data id (fault.Axiom index peer) = placed_fault (codes "axiom") id index peer
fault_data id (fault.Into index peer) = placed_fault (codes "into") id index peer
fault_data id (fault.Onto index peer) = placed_fault (codes "onto") id index peer

-- where a certificate cannot be read: a number that is too large, with its place, or the place of a text
abbrev pub unread_number : ℕ → ℕ → ℕ → Data
unread_number place value id = object (member (codes "check") (string (codes "unreadable")) (member (codes "id") (whole_number id)
    (member (codes "place") (whole_number place) (member (codes "value") (whole_number value) no_members))))

abbrev pub unread_text : ℕ → ℕ → Data
unread_text index id = object (member (codes "check") (string (codes "unreadable")) (member (codes "id") (whole_number id)
    (member (codes "text") (whole_number index) no_members)))

-- where a certificate cannot be read
abbrev pub unread_data : ℕ → Unread → Data
unread_data id (unread.Field field) = object (member (codes "check") (string (codes "unreadable")) (member (codes "field") (string field.now)
    (member (codes "id") (whole_number id) no_members)))
unread_data id (unread.Place place value) = unread_number place value id
unread_data id (unread.Text index) = unread_text index id

-- ---- all replies

abbrev pub reply_data : Reply → Data
reply_data (Refused id code n) = object (member (codes "code") (whole_number code) (member (codes "error") (string (error_name code))
    (member (codes "id") (whole_number id) (maybe_number (codes "n") n no_members))))
reply_data (Peers id count) = object (member (codes "id") (whole_number id) (member (codes "peers") (whole_number count) no_members))
reply_data (Put id put version) = object (member (codes "id") (whole_number id) (member (codes "put") (string put)
    (member (codes "version") (whole_number version) no_members)))
reply_data (Decided id verdict from pin cert) = decided_data id (verdict_name verdict) from pin.versions (view cert)
reply_data (RunSpent id count peer from pin) = run_data id count peer from pin.versions
reply_data (VerdictsSpent id count from pin) = verdicts_data id count from pin.versions
reply_data (Memory id from pin) = memory_data id from pin.versions
reply_data (Valid id) = object (member (codes "check") (string (codes "valid")) (member (codes "id") (whole_number id) no_members))
reply_data (InvalidLines id at) = object (member (codes "at") (whole_number at) (member (codes "check") (string (codes "invalid"))
    (member (codes "id") (whole_number id) no_members)))
reply_data (InvalidWorld id fault) = fault_data id fault
reply_data (Unreadable id what) = unread_data id what
reply_data (Versions id versions) = object (member (codes "id") (whole_number id) (member (codes "versions") (numbers versions.versions) no_members))

-- the text of a reply, which has no line feed
abbrev pub reply_text : Reply → List ℕ
reply_text reply = compact_text (reply_data reply)

-- a peer's name is one, and no number of a certificate has a fraction
abbrev pub IsPrintable : Reply → Type 0
IsPrintable (Put id put version) = IsTrue (names_a_thing put)
IsPrintable (Decided id verdict from pin cert) = has_float (view cert) ≡ false
IsPrintable reply = ⊤
