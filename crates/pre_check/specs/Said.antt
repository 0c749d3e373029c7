-- The numbers that a certificate says, looked up in its rows.
use Rattle.std.specs.Prelude.{ℕ, ◌==◌, ◌&&◌, List, is_some, unwrap_or}
use Rattle.std.specs.Option.{option_map_or}
use Rattle.std.specs.List.{find, list_all}
use Rattle.pre_base.specs.declared.numbers.StreamId.{StreamId}
use Rattle.pre_bound.specs.declared.rows.ArcRow.{ArcRow}
use Rattle.pre_bound.specs.declared.rows.PortRow.{PortRow}
use Rattle.pre_bound.specs.declared.rows.HopRow.{HopRow}
use Rattle.pre_bound.specs.declared.certificate.Certificate.{Certificate}
use Rattle.pre_bound.specs.Values.{Values}
use Rattle.std.specs.Prelude.{Bool}

abbrev pub of_arc : (ArcRow → ℕ) → List ArcRow → ℕ → ℕ
of_arc number rows arc = option_map_or number (find (λ row. row.arc.0 == arc) rows) 0

abbrev pub of_port : (PortRow → ℕ) → List PortRow → ℕ → ℕ → ℕ
of_port number rows arc prio = option_map_or number (find (λ row. row.arc.0 == arc && row.prio == prio) rows) 0

abbrev pub rank_in : List ArcRow → ℕ → ℕ
rank_in rows arc = of_arc (λ row. unwrap_or row.rank 0) rows arc

abbrev pub largest_in : List ArcRow → ℕ → ℕ
largest_in rows arc = of_arc (λ row. row.largest) rows arc

abbrev pub delay_in : List PortRow → ℕ → ℕ → ℕ
delay_in rows arc prio = of_port (λ row. row.delay) rows arc prio

abbrev pub burst_in : List HopRow → ℕ → ℕ → ℕ
burst_in rows stream hop = option_map_or (λ row. row.burst) (find (λ row. row.stream.0 == stream && row.hop == hop) rows) 0

abbrev pub bound_in : List (StreamId × ℕ) → ℕ → ℕ
bound_in rows stream = option_map_or (λ row. row.1) (find (λ row. row.0.0 == stream) rows) 0

-- each arc has a rank
abbrev pub are_ranked : List ArcRow → Bool
are_ranked rows = list_all (λ row. is_some row.rank) rows

abbrev pub values_in : Certificate → Values
values_in c = record {
  ranked = are_ranked c.arcs;
  rank = rank_in c.arcs;
  largest = largest_in c.arcs;
  block = of_port (λ row. row.block) c.ports;
  work = of_port (λ row. row.work) c.ports;
  rate = of_port (λ row. row.rate) c.ports;
  delay = delay_in c.ports;
  size = of_port (λ row. row.size) c.ports;
  burst = burst_in c.hops;
  bound = bound_in c.bounds;
}
