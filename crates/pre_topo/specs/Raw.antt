-- The raw rows of a network file: what stands at its keys, or the first row with a key that is missing, unknown or
-- of another kind.
use Rattle.std.specs.Prelude.{ℕ, List, [], ◌∷◌, codes, replicate, Option, Some, None, Result, Ok}
use Rattle.toml.specs.Data.{Data, Members, no_members, as_str, as_table}
use Rattle.pre_base.specs.declared.numbers.FileRow.{FileRow}
use Rattle.pre_base.specs.declared.numbers.FileRow.TheVariants.{Top, Timing, Node, Link}
use Rattle.pre_table.specs.declared.values.Whole.{Whole}
use Rattle.pre_table.specs.declared.values.Whole.TheVariants.{Natural}
use Rattle.pre_table.specs.Documents.{has_only}
use Rattle.pre_table.specs.Values.{given, kept, number_or, number_or_none, read_or, as_whole, as_tables, as_two_texts, as_numbers}
use Rattle.pre_table.specs.Rows.{rows_of, in_row, rows_in, in_rows}
use Rattle.pre_topo.specs.declared.raw.RawNetwork.{RawNetwork}
use Rattle.pre_topo.specs.declared.raw.RawTiming.{RawTiming}
use Rattle.pre_topo.specs.declared.raw.RawNode.{RawNode}
use Rattle.pre_topo.specs.declared.raw.RawLink.{RawLink}

abbrev pub timing_keys : List (List ℕ)
timing_keys = codes "interval" ∷ codes "ttl" ∷ codes "unit" ∷ codes "verify" ∷ []

abbrev pub timing_of : Members → Option RawTiming
timing_of ms =
    kept (has_only timing_keys ms)
    (given (number_or 30000000000 (codes "interval") ms) (λ interval.
    given (number_or 120 (codes "ttl") ms) (λ ttl.
    given (number_or 1000000000 (codes "unit") ms) (λ unit.
    given (number_or 10000000 (codes "verify") ms) (λ verify.
    Some (record { interval = interval; ttl = ttl; unit = unit; verify = verify }))))))

abbrev pub node_keys : List (List ℕ)
node_keys = codes "name" ∷ codes "kind" ∷ codes "latency" ∷ []

abbrev pub node_of : Members → Option RawNode
node_of ms =
    kept (has_only node_keys ms)
    (given (read_or as_str None (codes "name") ms) (λ name.
    given (read_or as_str None (codes "kind") ms) (λ kind.
    given (number_or 0 (codes "latency") ms) (λ latency.
    Some (record { name = name; kind = kind; latency = latency })))))

abbrev pub link_keys : List (List ℕ)
link_keys = codes "ends" ∷ codes "cost" ∷ codes "delay" ∷ codes "mode" ∷ codes "policy" ∷ codes "add_frag" ∷ codes "rings" ∷ codes "express_from" ∷ codes "largest" ∷ []

-- the capacity of a ring, where the file says none
abbrev pub default_ring : Whole
default_ring = Natural 16

abbrev pub link_of : Members → Option RawLink
link_of ms =
    kept (has_only link_keys ms)
    (given (read_or as_two_texts None (codes "ends") ms) (λ ends.
    given (read_or as_whole None (codes "cost") ms) (λ cost.
    given (number_or 0 (codes "delay") ms) (λ delay.
    given (read_or as_str (Some (codes "off")) (codes "mode") ms) (λ mode.
    given (read_or as_str (Some (codes "quiet")) (codes "policy") ms) (λ policy.
    given (number_or 0 (codes "add_frag") ms) (λ add_frag.
    given (read_or (as_numbers 8) (Some (replicate 8 default_ring)) (codes "rings") ms) (λ rings.
    given (number_or_none (codes "express_from") ms) (λ express_from.
    given (number_or 1522 (codes "largest") ms) (λ largest.
    Some (record {
      first = ends.0;
      second = ends.1;
      cost = cost;
      delay = delay;
      mode = mode;
      policy = policy;
      add_frag = add_frag;
      rings = rings;
      express_from = express_from;
      largest = largest;
    })))))))))))

-- the fields of the whole table; a table without `timing` has an empty one
pub record TopRow : Type 0 where
  pub express_from : Whole
  pub timing : Members
  pub nodes : List Data
  pub links : List Data

abbrev pub top_keys : List (List ℕ)
top_keys = codes "express_from" ∷ codes "timing" ∷ codes "node" ∷ codes "link" ∷ []

abbrev pub top_of : Members → Option TopRow
top_of ms =
    kept (has_only top_keys ms)
    (given (number_or 4 (codes "express_from") ms) (λ express_from.
    given (read_or as_table (Some no_members) (codes "timing") ms) (λ timing.
    given (read_or as_tables None (codes "node") ms) (λ nodes.
    given (read_or as_tables None (codes "link") ms) (λ links.
    Some (record { express_from = express_from; timing = timing; nodes = nodes; links = links }))))))

-- the raw rows, or the first row with a fault
abbrev pub raw_of : Members → Result RawNetwork FileRow
raw_of ms =
    in_row Top (top_of ms) (λ top.
    in_row Timing (timing_of top.timing) (λ timing.
    in_rows (rows_in Node (rows_of node_of top.nodes)) (λ nodes.
    in_rows (rows_in Link (rows_of link_of top.links)) (λ links.
    Ok (record { express_from = top.express_from; timing = timing; nodes = nodes; links = links })))))
