-- The raw rows of a stream file: what stands at its keys, or the first row with a key that is missing, unknown or of
-- another kind.
use Rattle.std.specs.Prelude.{ℕ, List, [], ◌∷◌, ◌++◌, codes, map, Option, Some, None, Result, Ok}
use Rattle.toml.specs.Data.{Data, Members, as_str}
use Rattle.pre_base.specs.declared.numbers.FileRow.{FileRow}
use Rattle.pre_base.specs.declared.numbers.FileRow.TheVariants.{Top, Stream, Flow}
use Rattle.pre_table.specs.Documents.{has_only}
use Rattle.pre_table.specs.Values.{given, kept, read_or, as_whole, as_tables, as_texts}
use Rattle.pre_table.specs.Rows.{rows_of, in_row, rows_in, in_rows}
use Rattle.pre_streams.specs.declared.raw.RawStreams.{RawStreams}
use Rattle.pre_streams.specs.declared.raw.RawStream.{RawStream}
use Rattle.pre_streams.specs.declared.raw.RawFlow.{RawFlow}

-- the fields that streams and flows have
abbrev pub fields_of : Members → Option RawFlow
fields_of ms =
    given (read_or as_str None (codes "name") ms) (λ name.
    given (read_or as_whole None (codes "vid") ms) (λ vid.
    given (read_or as_whole None (codes "prio") ms) (λ prio.
    given (read_or as_texts None (codes "route") ms) (λ route.
    given (read_or as_whole None (codes "max") ms) (λ max.
    Some (record { name = name; vid = vid; prio = prio; route = route; max = max }))))))

abbrev pub flow_keys : List (List ℕ)
flow_keys = codes "name" ∷ codes "vid" ∷ codes "prio" ∷ codes "route" ∷ codes "max" ∷ []

abbrev pub flow_of : Members → Option RawFlow
flow_of ms = kept (has_only flow_keys ms) (fields_of ms)

abbrev pub stream_keys : List (List ℕ)
stream_keys = codes "name" ∷ codes "vid" ∷ codes "prio" ∷ codes "route" ∷ codes "max" ∷ codes "burst" ∷ codes "rate" ∷ []

abbrev pub stream_of : Members → Option RawStream
stream_of ms =
    kept (has_only stream_keys ms)
    (given (read_or as_whole None (codes "burst") ms) (λ burst.
    given (read_or as_whole None (codes "rate") ms) (λ rate.
    given (fields_of ms) (λ flow.
    Some (record { flow = flow; curve = record { burst = burst; rate = rate } })))))

-- the tables of each kind, of which there may be none
pub record TopRow : Type 0 where
  pub streams : List Data
  pub flows : List Data

abbrev pub top_keys : List (List ℕ)
top_keys = codes "stream" ∷ codes "flow" ∷ []

abbrev pub top_of : Members → Option TopRow
top_of ms =
    kept (has_only top_keys ms)
    (given (read_or as_tables (Some []) (codes "stream") ms) (λ streams.
    given (read_or as_tables (Some []) (codes "flow") ms) (λ flows.
    Some (record { streams = streams; flows = flows }))))

-- streams first, and then flows; the streams' curves stand beside
abbrev pub joined : List RawStream → List RawFlow → RawStreams
joined streams flows = record { rows = map (λ s. s.flow) streams ++ flows; curves = map (λ s. s.curve) streams }

-- the raw rows, or the first row with a fault
abbrev pub raw_of : Members → Result RawStreams FileRow
raw_of ms =
    in_row Top (top_of ms) (λ top.
    in_rows (rows_in Stream (rows_of stream_of top.streams)) (λ streams.
    in_rows (rows_in Flow (rows_of flow_of top.flows)) (λ flows.
    Ok (joined streams flows))))
