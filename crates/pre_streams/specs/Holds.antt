-- What holds of raw rows without a fault.
use Rattle.std.specs.Prelude.{◌≡◌, ◌+◌, ◌<◌, ◌≤◌, ℕ, true, false, None, length, slice_index_or, slice_get, All, AllPairs, IsTrue}
use Rattle.std.specs.Option.{option_map_or}
use Rattle.std.specs.Str.{bytes_eq}
use Rattle.pre_text.specs.Words.{is_name}
use Rattle.pre_table.specs.FirstFaults.{first_row}
use Rattle.pre_topo.specs.declared.network.Network.{Network}
use Rattle.pre_streams.specs.declared.raw.RawStreams.{RawStreams}
use Rattle.pre_streams.specs.declared.raw.RawFlow.{RawFlow}
use Rattle.pre_streams.specs.FileRules.{entry_breaks, other_route, class_breaks, row_in_range, curve_in_range, is_carried, burst_breaks}

pub record Holds (net : Network) (raw : RawStreams) : Type 0 where
  pub names : All (λ r. IsTrue (is_name r.name)) raw.rows
  pub apart : AllPairs (λ q r. bytes_eq q.name r.name ≡ false) raw.rows
  pub entries : All (λ r. first_row (entry_breaks net r.route) r.route ≡ None) raw.rows
  pub routes : All (λ r. other_route raw.rows r ≡ None) raw.rows
  pub class : (k : ℕ) (d : RawFlow) → k < length raw.rows → class_breaks net raw.curves k (slice_index_or raw.rows k d) ≡ false
  pub rows : All (λ r. IsTrue (row_in_range r)) raw.rows
  pub curves : (k : ℕ) → k < length raw.rows → IsTrue (option_map_or curve_in_range (slice_get raw.curves k) true)
  pub carried : (k : ℕ) (d : RawFlow) → k < length raw.rows → IsTrue (is_carried net raw.curves k (slice_index_or raw.rows k d))
  pub bursts : (k : ℕ) (d : RawFlow) → k < length raw.rows → burst_breaks raw.curves k (slice_index_or raw.rows k d) ≡ false
  pub streams_count : length raw.curves ≤ 256
  pub flows_count : length raw.rows ≤ length raw.curves + 256
