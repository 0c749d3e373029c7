-- What is answered: the numbers of the first settled round, and each fault where it has its cause.
use Rattle.std.specs.Prelude.{◌≡◌, ◌⊎◌, ℕ, Bool, true, false, List, All, IsNone}
use Rattle.pre_topo.specs.declared.network.Network.{Network}
use Rattle.pre_streams.specs.declared.rows.Row.{Row}
use Rattle.pre_streams.specs.declared.rows.Streams.{Streams}
use Rattle.pre_bound.specs.declared.certificate.Certificate.{Certificate}
use Rattle.pre_bound.specs.Good.{AtPorts}
use Rattle.pre_bound.specs.Listed.{Says, GoodCertificate}
use Rattle.pre_certify.specs.Loads.{NoOverload}
use Rattle.pre_rounds.specs.Rounds.{round_bursts, round_values}
use Rattle.pre_rounds.specs.Passing.{is_short}
use Rattle.pre_rounds.specs.Settling.{SettlesAt}
use Rattle.pre_rounds.specs.Causes.{Cause, NoneWide, round_delays}
use Rattle.pre_rounds.specs.declared.faults.RoundsFault.{RoundsFault}
use Rattle.pre_rounds.specs.declared.faults.RoundsFault.TheVariants.{Overload, Large, Unsettled, Wide, Ring, Memory}

-- the certificate says the numbers of the first settled round, the bounds and the rings' rooms of which fit
pub record IsOfSettled (net : Network) (rows : List Row) (c : Certificate) : Type 0 where
  pub round : ℕ
  pub settles : SettlesAt net rows round
  pub load : NoOverload net rows
  pub narrow : NoneWide net rows (round_delays net rows round)
  pub rings : AtPorts net rows (λ arc prio. is_short net rows (round_bursts net rows round) arc prio ≡ false)
  pub says : Says net rows c (round_values net rows round)

-- no arc has a rank
abbrev pub HasNoRanks : Certificate → Type 0
HasNoRanks c = All (λ row. IsNone row.rank) c.arcs

-- no fault has a cause; want of memory is none
abbrev pub NoneCaused : Network → List Row → Type 0
NoneCaused net rows = (e : RoundsFault) → Cause net rows e → e ≡ Memory

-- no fault but this one has a cause
abbrev pub IsAlone : Network → List Row → RoundsFault → Type 0
IsAlone net rows e = (f : RoundsFault) → Cause net rows f → (f ≡ Memory) ⊎ (f ≡ e)

-- the streams have a good certificate, with ranks or without
abbrev pub HasGoodCertificate : Network → Streams → Type 0
HasGoodCertificate net streams = (c : Certificate) × GoodCertificate net streams c

-- the fault tells nothing of good certificates: there were too few rounds, or too little memory
abbrev pub leaves_open : RoundsFault → Bool
leaves_open (Unsettled arc prio) = true
leaves_open Memory = true
leaves_open _ = false
