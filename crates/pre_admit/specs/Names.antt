-- Names that are taken.
use Rattle.std.specs.Prelude.{ℕ, Bool, List}
use Rattle.std.specs.List.{list_any}
use Rattle.std.specs.Str.{bytes_eq}
use Rattle.pre_streams.specs.declared.rows.Row.{Row}

-- a row has this name
abbrev pub has_name : List Row → List ℕ → Bool
has_name rows name = list_any (λ r. bytes_eq name r.name) rows
