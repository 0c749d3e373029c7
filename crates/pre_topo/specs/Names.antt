-- The names of nodes and arcs.
use Rattle.std.specs.Prelude.{ℕ, List, [], ◌∷◌, ◌++◌, slice_get, Option, position}
use Rattle.std.specs.Option.{option_map_or}
use Rattle.std.specs.Str.{bytes_eq}
use Rattle.pre_topo.specs.declared.nodes.Node.{Node}
use Rattle.pre_topo.specs.declared.arcs.Arc.{Arc}

-- the name of a node, and nothing where there is no such node
abbrev pub name_of_node : List Node → ℕ → List ℕ
name_of_node nodes node = option_map_or (λ n. n.name) (slice_get nodes node) []

-- the name of an arc: those of its ends, with > between
abbrev pub name_of_arc : List Node → Arc → List ℕ
name_of_arc nodes a = name_of_node nodes a.from.0 ++ 62 ∷ name_of_node nodes a.to.0

-- the place of the first arc with this name
abbrev pub place_of_arc : List Node → List Arc → List ℕ → Option ℕ
place_of_arc nodes arcs word = position (λ a. bytes_eq (name_of_arc nodes a) word) arcs
