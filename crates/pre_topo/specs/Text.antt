-- The text of a network's file: a part for the top and the timing, one for each node, and one for each link.
use Rattle.std.specs.Prelude.{ℕ, List, [], ◌∷◌, ◌++◌, codes, slice_index}
use Rattle.std.specs.Fmt.{decimal}
use Rattle.std.specs.List.{concat, flat_map}
use Rattle.pre_topo.specs.declared.arcs.Arc.{Arc}
use Rattle.pre_topo.specs.declared.arcs.Mode.{Mode}
use Rattle.pre_topo.specs.declared.arcs.Mode.TheVariants as mode
use Rattle.pre_topo.specs.declared.arcs.Policy.{Policy}
use Rattle.pre_topo.specs.declared.arcs.Policy.TheVariants as policy
use Rattle.pre_topo.specs.declared.nodes.Node.{Node}
use Rattle.pre_topo.specs.declared.nodes.NodeKind.{NodeKind}
use Rattle.pre_topo.specs.declared.nodes.NodeKind.TheVariants.{Station, Bridge}
use Rattle.pre_topo.specs.declared.nodes.Timing.{Timing}
use Rattle.pre_topo.specs.Names.{name_of_node}

abbrev pub kind_word : NodeKind → List ℕ
kind_word Station = codes "station"
kind_word Bridge = codes "bridge"

abbrev pub mode_word : Mode → List ℕ
mode_word mode.Off = codes "off"
mode_word mode.On = codes "on"
mode_word mode.Negotiate = codes "negotiate"

abbrev pub policy_word : Policy → List ℕ
policy_word policy.Pass = codes "pass"
policy_word policy.Quiet = codes "quiet"

-- the least express priority, and the table of times
unfoldable pub head_text : ℕ → Timing → List ℕ
head_text express_from t =
    concat (
    codes "express_from = " ∷ decimal express_from
    ∷ codes "\n\n[timing]\ninterval = " ∷ decimal t.interval
    ∷ codes "\nttl = " ∷ decimal t.ttl
    ∷ codes "\nunit = " ∷ decimal t.unit
    ∷ codes "\nverify = " ∷ decimal t.verify
    ∷ codes "\n" ∷ []
    )

unfoldable pub node_text : Node → List ℕ
node_text n =
    concat (codes "\n[[node]]\nname = \"" ∷ n.name ∷ codes "\"\nkind = \"" ∷ kind_word n.kind ∷ codes "\"\nlatency = " ∷ decimal n.latency ∷ codes "\n" ∷ [])

abbrev pub ring_text : Arc → ℕ → List ℕ
ring_text a prio = decimal (slice_index a.rings prio)

-- a link's ends, times and way to preempt
unfoldable pub link_head : List Node → Arc → List ℕ
link_head nodes a =
    concat (
    codes "\n[[link]]\nends = [\"" ∷ name_of_node nodes a.from.0
    ∷ codes "\", \"" ∷ name_of_node nodes a.to.0
    ∷ codes "\"]\ncost = " ∷ decimal a.cost
    ∷ codes "\ndelay = " ∷ decimal a.delay
    ∷ codes "\nmode = \"" ∷ mode_word a.mode
    ∷ codes "\"\npolicy = \"" ∷ policy_word a.policy
    ∷ codes "\"\nadd_frag = " ∷ decimal a.add_frag
    ∷ []
    )

-- its rings, its least express priority and its greatest preemptable frame
unfoldable pub link_rest : Arc → List ℕ
link_rest a =
    concat (
    codes "\nrings = [" ∷ ring_text a 0
    ∷ codes ", " ∷ ring_text a 1
    ∷ codes ", " ∷ ring_text a 2
    ∷ codes ", " ∷ ring_text a 3
    ∷ codes ", " ∷ ring_text a 4
    ∷ codes ", " ∷ ring_text a 5
    ∷ codes ", " ∷ ring_text a 6
    ∷ codes ", " ∷ ring_text a 7
    ∷ codes "]\nexpress_from = " ∷ decimal a.express_from
    ∷ codes "\nlargest = " ∷ decimal a.largest
    ∷ codes "\n" ∷ []
    )

-- a link, by its arc from the first end to the second
unfoldable pub link_text : List Node → Arc → List ℕ
link_text nodes a = link_head nodes a ++ link_rest a

abbrev pub nodes_text : List Node → List ℕ
nodes_text nodes = flat_map node_text nodes

-- of the arcs, the first of each two
abbrev pub firsts : List Arc → List Arc
firsts [] = []
firsts (a ∷ []) = []
firsts (a ∷ b ∷ arcs) = a ∷ firsts arcs

-- arcs 2i and 2i + 1 are the two of link i
abbrev pub links_text : List Node → List Arc → List ℕ
links_text nodes arcs = flat_map (link_text nodes) (firsts arcs)
