-- The picture of a run, of the whole of it or from one tick to another.
use Rattle.std.specs.Prelude.{ℕ, List, Option, Some, None}
use Rattle.pre_topo.specs.declared.network.Network.{Network}
use Rattle.pre_picture.specs.declared.scales.Scale.{Scale}
use Rattle.pre_picture.specs.declared.traces.Seen.{Seen}
use Rattle.pre_picture.specs.Traces.{last_tick}
use Rattle.pre_picture.specs.Runs.{run_text}

-- a scale of ticks beside the names of the lanes
abbrev pub scale_from : (from to : ℕ) → Scale
scale_from from to = record { from = from; to = to; left = 2000; width = 7400 }

-- of the whole run where no range is asked for
abbrev pub scale_of : Option (ℕ × ℕ) → List Seen → Scale
scale_of None events = scale_from 0 (last_tick events)
scale_of (Some range) events = scale_from range.0 range.1

abbrev pub run_picture : Option (ℕ × ℕ) → Network × List Seen → List ℕ
run_picture range x = run_text x.0 (scale_of range x.1) x.1
