-- The first line at which each clause fails.
use Rattle.std.specs.Prelude.{ℕ, ◌+◌, ◌-◌, ◌^◌, min, not, Bool, List, [], ◌∷◌, length, Option, None, Some, position}
use Rattle.std.specs.Option.{option_map}
use Rattle.pre_topo.specs.declared.network.Network.{Network}
use Rattle.pre_streams.specs.declared.rows.Row.{Row}
use Rattle.pre_base.specs.declared.numbers.StreamId.{StreamId}
use Rattle.pre_bound.specs.declared.rows.ArcRow.{ArcRow}
use Rattle.pre_bound.specs.declared.rows.PortRow.{PortRow}
use Rattle.pre_bound.specs.declared.rows.HopRow.{HopRow}
use Rattle.pre_check.specs.declared.verdicts.Verdict.{Verdict}
use Rattle.pre_check.specs.declared.verdicts.Verdict.TheVariants.{Accepted, Rejected}
use Rattle.pre_check.specs.Tests.{rank_rises, load_fits, burst_begins, block_covers, work_covers, delay_covers, growth_covers, size_covers, ring_fits, bound_covers, largest_covers}

-- lines are counted up to the last number of 64 bits
abbrev pub later : ℕ → ℕ → ℕ
later from place = min (from + place) (2 ^ 64 - 1)

-- the place of the first row that fails
abbrev pub fails_at : {X : Type 0} → (X → Bool) → List X → Option ℕ
fails_at test rows = position (λ row. not (test row)) rows

-- and its line, of rows whose lines begin here
abbrev pub fails_from : {X : Type 0} → ℕ → (X → Bool) → List X → Option ℕ
fails_from from test rows = option_map (later from) (fails_at test rows)

abbrev pub port_lines : List ArcRow → ℕ
port_lines arcs = later 2 (length arcs)

abbrev pub hop_lines : List ArcRow → List PortRow → ℕ
hop_lines arcs ports = later (port_lines arcs) (length ports)

abbrev pub bound_lines : List ArcRow → List PortRow → List HopRow → ℕ
bound_lines arcs ports hops = later (hop_lines arcs ports) (length hops)

-- clause by clause
abbrev pub breaches : Network → List Row → List ArcRow → List PortRow → List HopRow → List (StreamId × ℕ) → List (Option ℕ)
breaches net rows arcs ports hops bounds =
    fails_from (hop_lines arcs ports) (rank_rises rows arcs) hops
    ∷ fails_from 2 (load_fits net rows) arcs
    ∷ fails_from (hop_lines arcs ports) (burst_begins rows) hops
    ∷ fails_from (port_lines arcs) (block_covers net rows arcs) ports
    ∷ fails_from (port_lines arcs) (work_covers net rows hops) ports
    ∷ fails_from (port_lines arcs) (delay_covers net) ports
    ∷ fails_from (hop_lines arcs ports) (growth_covers net rows ports hops) hops
    ∷ fails_from (port_lines arcs) (size_covers rows hops) ports
    ∷ fails_from (port_lines arcs) (ring_fits net) ports
    ∷ fails_from (bound_lines arcs ports hops) (bound_covers net rows ports) bounds
    ∷ fails_from 2 (largest_covers net rows) arcs
    ∷ []

-- the first clause that fails, from this number on
abbrev pub first_from : ℕ → List (Option ℕ) → Verdict
first_from clause [] = Accepted
first_from clause (None ∷ further) = first_from (clause + 1) further
first_from clause (Some line ∷ further) = Rejected clause line
