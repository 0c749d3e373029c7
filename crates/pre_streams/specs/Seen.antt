-- What the fields of the whole table stand for.
use Rattle.std.specs.Prelude.{map}
use Rattle.toml.specs.View.{view}
use Rattle.pre_streams.specs.declared.fields.TopFields.{TopFields}
use Rattle.pre_streams.specs.Raw.{TopRow}

abbrev pub top_seen : TopFields → TopRow
top_seen f = record { streams = map view f.streams.now; flows = map view f.flows.now }
