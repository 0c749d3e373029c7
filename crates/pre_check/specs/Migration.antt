-- Texts of version 1, and the clauses that their certificates were made by.
use Rattle.std.specs.Prelude.{◌≡◌, ℕ, ◌+◌, ◌*◌, ◌<◌, ◌≤◌, ◌↔◌, Bool, false, not, List, [], ◌∷◌, length}
use Rattle.std.specs.Prelude.{slice_get, codes, filter, map, Some, Ok, if◌then◌else◌, IsTrue, Contains}
use Rattle.std.specs.Option.{option_map_or}
use Rattle.pre_base.specs.declared.limits.TheConstants.{OVERHEAD}
use Rattle.pre_text.specs.Lines.{lines_of, words_of}
use Rattle.pre_topo.specs.declared.network.Network.{Network}
use Rattle.pre_streams.specs.declared.rows.Row.{Row}
use Rattle.pre_streams.specs.declared.rows.Streams.{Streams}
use Rattle.pre_streams.specs.Fits.{Fits}
use Rattle.pre_bound.specs.declared.certificate.Certificate.{Certificate}
use Rattle.pre_bound.specs.Uses.{TakesAt, is_on, has_arc, has_flow, cost_at, cuts, fragment_octets, largest_at}
use Rattle.pre_bound.specs.Values.{Values}
use Rattle.pre_bound.specs.Clauses.{Load, FirstBurst, Work, Delay, Growth, Size, Ring, Bound}
use Rattle.pre_bound.specs.Good.{AtPorts, AtStreams, AreInOrder}
use Rattle.pre_bound.specs.Settled.{PriosBelow}
use Rattle.pre_bound.specs.Listed.{Says, GoodCertificate}
use Rattle.pre_check.specs.Seen.{rows_in}
use Rattle.pre_text.specs.Words.{is_comment}
use Rattle.pre_check.specs.Reading.{certificate_of}

-- a line that isn't skipped
abbrev pub is_kept : List (List ℕ) → Bool
is_kept [] = false
is_kept (first ∷ words) = not (is_comment first)

-- the first line that isn't skipped is that of version 1
abbrev pub IsVersionOne : List ℕ → Type 0
IsVersionOne text = slice_get (filter is_kept (map words_of (lines_of text))) 0 ≡ Some (codes "certificate" ∷ codes "1" ∷ [])

-- The octets for which preemptable frames could hold an arc by the older rules, which knew frames of up to 1522 octets
-- alone: where a flow uses the arc, a fragment that can't be cut, or such a frame with its preamble and gap.
abbrev pub old_preemptable : Network → List Row → ℕ → ℕ
old_preemptable net rows arc = if has_flow rows arc then option_map_or (λ a. if cuts a.mode a.policy then fragment_octets a else 1542) (slice_get net.arcs arc) 0 else 0

-- the older clause on blocks
pub record OldBlock (net : Network) (rows : List Row) (v : Values) (arc prio : ℕ) : Type 0 where
  pub frame : cost_at net arc * 84 ≤ v.block arc prio
  pub lower : (r : Row) → Contains rows r → IsTrue (is_on arc 0 prio r) → cost_at net arc * (r.max + OVERHEAD) ≤ v.block arc prio
  pub preemptable : cost_at net arc * old_preemptable net rows arc ≤ v.block arc prio

-- the ten clauses of the older rules
pub record WereGood (net : Network) (rows : List Row) (v : Values) : Type 0 where
  pub order : AreInOrder rows v
  pub load : (arc : ℕ) → arc < length net.arcs → Load net rows arc
  pub first_burst : AtStreams rows (FirstBurst v)
  pub block : AtPorts net rows (OldBlock net rows v)
  pub work : AtPorts net rows (Work net rows v)
  pub delay : AtPorts net rows (Delay net v)
  pub growth : AtStreams rows (λ stream r. (hop arc next : ℕ) → TakesAt r hop arc → TakesAt r (hop + 1) next → Growth net v stream r hop arc)
  pub size : AtPorts net rows (Size rows v)
  pub ring : AtPorts net rows (Ring net v)
  pub bound : AtStreams rows (Bound net v)

-- no arc that both a stream and a flow use carries preemptable frames above 1522 octets
abbrev pub OldFramesFit : Network → List Row → Type 0
OldFramesFit net rows = (arc : ℕ) → arc < length net.arcs → IsTrue (has_arc rows arc) → IsTrue (has_flow rows arc) → largest_at net arc ≤ 1522

-- A text of version 1 whose numbers met the older clauses is read as a good certificate exactly where these frames fit.
abbrev pub Migrates : Type 0
Migrates = (net : Network) (streams : Streams) (text : List ℕ) (c : Certificate) (v : Values)
    → Fits net streams → PriosBelow streams.rows → IsVersionOne text → certificate_of net streams text ≡ Ok (rows_in c)
    → Says net streams.rows c v → WereGood net streams.rows v → (GoodCertificate net streams c ↔ OldFramesFit net streams.rows)
