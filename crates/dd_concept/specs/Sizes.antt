-- How large a concept may be.
use Rattle.std.specs.Prelude.{ℕ}

-- the most nodes of a concept in a request, and how deep it may be
abbrev pub most_nodes : ℕ
most_nodes = 1000

abbrev pub most_depth : ℕ
most_depth = 64

-- the same of a concept in a certificate, where normal forms stand
abbrev pub most_normal_nodes : ℕ
most_normal_nodes = 2000

abbrev pub most_normal_depth : ℕ
most_normal_depth = 65
