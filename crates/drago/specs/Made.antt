-- What is given of the requests that are made from three numbers.
use Rattle.std.specs.Prelude.{◌≡◌, ℕ, List, [], ◌∷◌, ◌++◌, Option}
use Rattle.std.specs.List.{flat_map}
use Rattle.dd_gen.specs.Made.{lines_of_make}
use Rattle.dd_lines.specs.Outside.{Gives, GivesFront}
use Rattle.dd_server.specs.declared.status.Status.{Status}
use Rattle.dd_server.specs.declared.status.Status.TheVariants as status
use Rattle.dd_words.specs.declared.command.Generated.{Generated}

-- the lines as they are written, each with a line feed
abbrev pub text_of : List (List ℕ) → List ℕ
text_of lines = flat_map (λ line. line ++ 10 ∷ []) lines

-- the requests that are made from these numbers, as they are written
abbrev pub made_text : Generated → List ℕ
made_text g = text_of (lines_of_make g.seed g.peers g.size)

-- With Done all of it was given, with WriteFault a front of it, and else nothing. Nothing is read, so no status tells of the input.
abbrev pub GivesMade : Generated → Status → (before given : Option (List ℕ)) → Type 0
GivesMade g status.Done before given = Gives before given (made_text g)
GivesMade g status.Words before given = given ≡ before
GivesMade g status.ReadFault before given = ⊥
GivesMade g status.WriteFault before given = GivesFront before given (made_text g)
GivesMade g status.Memory before given = given ≡ before
GivesMade g status.TooMuch before given = ⊥
