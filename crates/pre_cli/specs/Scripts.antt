-- The files that are read.
use Rattle.std.specs.Prelude.{ℕ}

-- the greatest length of a file, in octets
abbrev pub max_file : ℕ
max_file = 16777216
