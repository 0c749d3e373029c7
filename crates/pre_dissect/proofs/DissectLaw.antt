-- The dissection of what is recorded of a legal history, by the laws that it stands on.
use Rattle.std.proofs.Common.{ℕ, ◌≡◌, ◌<◌, List, length, map, arith, Option, Some}
use Rattle.std.specs.Prelude.{slice_get, All}
use Rattle.std.specs.List.{AllByRecursion as Every}
use Rattle.pre_mpacket.specs.Arrivals.{Given, Gives}
use Rattle.pre_pcap.specs.Captures.{IsCapture}
use Rattle.pre_pcap.specs.Records.{PacketRecord}
use Rattle.pre_pcap.specs.Written.{Stamped, CanBeWritten, stamped_record, capture_octets}
use Rattle.pre_history.specs.Scenario.{Scenario}
use Rattle.pre_history.specs.History.{Arrive, History}
use Rattle.pre_history.specs.Legal.{Legal, LegalUpTo, FirstAliasAt, last_moment}
use Rattle.pre_history.specs.Octets.{Air}
use Rattle.pre_history.specs.Queries.{Arrivals}
use Rattle.pre_history.specs.ArrivalResults.{Result}
use Rattle.pre_dissect.specs.Captured.{Recorded}
use Rattle.pre_dissect.specs.Fronts.{FilesFit, IsUpTo}
use Rattle.pre_dissect.proofs.Closed.{Tells, whole_tells}
use Rattle.pre_dissect.proofs.Sized.{all_fit}
use Rattle.pre_dissect.proofs.ToldResults.{text_tells}
use Rattle.pre_dissect.proofs.Within.{all_up_to, alias_front}

pub record LowerLaws : Type 0 where
  pub one_given : (A : List (Option (List ℕ))) (i : ℕ) (g k : Given) → Gives A i g → Gives A i k → g ≡ k
  pub results : (w : Scenario) (n : ℕ) (h : History) (a : ℕ) → a < length w.net.arcs → LegalUpTo w n h → (i : ℕ) (x : Arrive) → slice_get (Arrivals h a) i ≡ Some x → Result (Air w h a) i x.result
  pub one_capture : (octets : List ℕ) (one other : List PacketRecord) → IsCapture one octets → IsCapture other octets → one ≡ other
  pub read : (all : List Stamped) → All CanBeWritten all → IsCapture (map stamped_record all) (capture_octets all)

module _ (lower : LowerLaws) (w : Scenario) (a : ℕ) (lt : a < length w.net.arcs) (fits : FilesFit w) where
  tells : (n : ℕ) (h : History) → LegalUpTo w n h → Every (IsUpTo w.script.until.0) h → Tells w h a
  tells n h legal up_to =
      let fit = all_fit w fits n h legal up_to a lt in
      (fit, text_tells w n h a lt legal lower.one_given (lower.results w n h a lt legal) lower.one_capture (lower.read (Recorded w h a) fit))

  pub legal_tells : (h : History) → Legal w h → Tells w h a
  legal_tells h legal = whole_tells w h a (λ body so_far. tells (last_moment w) body so_far.0 (all_up_to w w.script.until.0 (last_moment w) body (omega arith) so_far.0)) legal

  pub alias_tells : (h : History) (t b i : ℕ) → FirstAliasAt w h t b i → Tells w h a
  alias_tells h t b i first = tells _ h first.2.0 (alias_front w h t b i first).within
