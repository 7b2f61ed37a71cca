-- Where the session stands that a server is of.
use Rattle.dd_read.specs.ReadingState.{standing_of}
use Rattle.dd_server.specs.Session.{Standing}
use Rattle.dd_server.specs.declared.server.Server.{Server}

abbrev pub session_of : Server → Standing
session_of s = record { reading = standing_of s.reading; entries = s.cache.list }
