-- What the lines of a certificate have said so far.
use Rattle.std.specs.Prelude.{ℕ, ◌+◌, List, [], ◌∷◌, ◌++◌}
use Rattle.pre_base.specs.declared.numbers.StreamId.{StreamId}
use Rattle.pre_bound.specs.declared.rows.ArcRow.{ArcRow}
use Rattle.pre_bound.specs.declared.rows.PortRow.{PortRow}
use Rattle.pre_bound.specs.declared.rows.HopRow.{HopRow}
use Rattle.pre_bound.specs.declared.certificate.Certificate.{Certificate}
use Rattle.pre_check.specs.declared.drafts.Draft.{Draft}
use Rattle.pre_check.specs.declared.saying.Said.{Said}
use Rattle.pre_check.specs.declared.saying.Said.TheVariants as said

-- the rows of a certificate
pub record Rows : Type 0 where
  pub arcs : List ArcRow
  pub ports : List PortRow
  pub hops : List HopRow
  pub bounds : List (StreamId × ℕ)

abbrev pub rows_in : Certificate → Rows
rows_in c = record { arcs = c.arcs; ports = c.ports; hops = c.hops; bounds = c.bounds }

-- the version read, how many of the lines due were read, and their rows
pub record Seen : Type 0 where
  pub version : ℕ
  pub place : ℕ
  pub rows : Rows

abbrev pub seen : Draft → Seen
seen d = record { version = d.version; place = d.place; rows = record { arcs = d.arcs; ports = d.ports; hops = d.hops; bounds = d.bounds } }

abbrev pub no_rows : Rows
no_rows = record { arcs = []; ports = []; hops = []; bounds = [] }

-- where the first line isn't one of a version, words are counted as in version 2
abbrev pub nothing_seen : Seen
nothing_seen = record { version = 2; place = 0; rows = no_rows }

abbrev pub with_rows : Seen → Rows → Seen
with_rows seen rows = record { version = seen.version; place = seen.place + 1; rows = rows }

-- one more line
abbrev pub with_said : Seen → Said → Seen
with_said seen (said.First version) = record { version = version; place = seen.place + 1; rows = seen.rows }
with_said seen (said.Arc row) = with_rows seen (record { arcs = seen.rows.arcs ++ row ∷ []; ports = seen.rows.ports; hops = seen.rows.hops; bounds = seen.rows.bounds })
with_said seen (said.Port row) = with_rows seen (record { arcs = seen.rows.arcs; ports = seen.rows.ports ++ row ∷ []; hops = seen.rows.hops; bounds = seen.rows.bounds })
with_said seen (said.Hop row) = with_rows seen (record { arcs = seen.rows.arcs; ports = seen.rows.ports; hops = seen.rows.hops ++ row ∷ []; bounds = seen.rows.bounds })
with_said seen (said.Bound stream bound) = with_rows seen (record { arcs = seen.rows.arcs; ports = seen.rows.ports; hops = seen.rows.hops; bounds = seen.rows.bounds ++ (stream, bound) ∷ [] })
with_said seen said.End = with_rows seen seen.rows
