-- What the command that certifies reads, answers and leaves.
use Rattle.std.specs.Prelude.{◌≡◌, ◌≢◌, ◌⊎◌, ℕ, List, ◌++◌, slice_get, Option, Some, None, true, false}
use Rattle.pre_base.specs.Faults.{Rose}
use Rattle.pre_base.specs.Told.{WhereTold}
use Rattle.pre_base.specs.Shelves.{Told, Files}
use Rattle.pre_base.specs.Sinks.{Taken}
use Rattle.pre_base.specs.Sinks.{TakesFront}
use Rattle.pre_base.specs.declared.numbers.ArcId.{ArcId}
use Rattle.pre_topo.specs.declared.network.Network.{Network}
use Rattle.pre_streams.specs.declared.rows.Row.{Row}
use Rattle.pre_streams.specs.declared.rows.Streams.{Streams}
use Rattle.pre_streams.specs.declared.faults.StreamFault.TheVariants as stream
use Rattle.pre_bound.specs.declared.certificate.Certificate.{Certificate}
use Rattle.pre_bound.specs.Good.{IsStream}
use Rattle.pre_bound.specs.Listed.{HasRanks}
use Rattle.pre_bound.specs.Least.{Least}
use Rattle.pre_certify.specs.declared.unfit.Unfit.{Unfit}
use Rattle.pre_certify.specs.declared.unfit.Unfit.TheVariants as unfit
use Rattle.pre_certify.specs.Causes.{Cause}
use Rattle.pre_certify.specs.Refusals.{NoneRefuses, IsAlone, names_cycle}
use Rattle.pre_certify.specs.Text.{certificate_text}
use Rattle.pre_rounds.specs.declared.faults.RoundsFault.{RoundsFault}
use Rattle.pre_rounds.specs.declared.faults.RoundsFault.TheVariants as rounds
use Rattle.pre_rounds.specs.Causes as of_rounds
use Rattle.pre_rounds.specs.Answers.{IsOfSettled, HasNoRanks, NoneCaused}
use Rattle.pre_rounds.specs.Answers as rounds_answers
use Rattle.pre_cli.specs.declared.statuses.Status.{Status}
use Rattle.pre_cli.specs.declared.statuses.Status.TheVariants as status
use Rattle.pre_cli.specs.Answers.{Outside}
use Rattle.pre_cli.specs.Files.{pair_network, pair_streams, text_named, OfFiles, IsNetIn, NetRefused, AreStreamsIn, StreamsRefused}

-- ---- the certificate of a network and streams

-- the certificate has ranks, and is the least one with them
pub record IsLeastRanked (net : Network) (streams : Streams) (c : Certificate) : Type 0 where
  pub least : Least net streams c
  pub ranked : HasRanks c

-- there is such a certificate, and no refusal has a cause
pub record HasLeast (net : Network) (streams : Streams) : Type 0 where
  pub certificate : Certificate
  pub least : IsLeastRanked net streams certificate
  pub none : NoneRefuses net streams.rows

-- want of memory is no cause of its own
abbrev pub unfit_status : Unfit → Status
unfit_status (unfit.Overload arc) = status.Unfit (unfit.Overload arc)
unfit_status (unfit.Cycle arcs) = status.Unfit (unfit.Cycle arcs)
unfit_status (unfit.Large arc prio) = status.Unfit (unfit.Large arc prio)
unfit_status (unfit.Ring arc prio need) = status.Unfit (unfit.Ring arc prio need)
unfit_status unfit.Memory = status.Memory

-- the refusal has a cause, and no other has, and there is no good certificate with ranks; want of memory is no cause of its own
pub record UnfitCause (cause : Unfit) (net : Network) (streams : Streams) : Type 0 where
  pub refusal : cause ≢ unfit.Memory
  pub here : Cause net streams.rows cause
  pub alone : IsAlone net streams cause

-- ---- where routes go round, certificates have no ranks

-- the routes of the streams have a cycle, and that alone refuses a certificate with ranks
pub record HaveCycle (net : Network) (streams : Streams) : Type 0 where
  pub arcs : List ArcId
  pub cycle : UnfitCause (unfit.Cycle arcs) net streams

-- the certificate has no ranks, is the least one without them, and has the numbers of the first settled round
pub record IsLeastUnranked (net : Network) (streams : Streams) (c : Certificate) : Type 0 where
  pub least : Least net streams c
  pub unranked : HasNoRanks c
  pub settled : IsOfSettled net streams.rows c

-- the routes have a cycle, there is such a certificate, and no fault of the rounds has a cause
pub record HasLeastUnranked (net : Network) (streams : Streams) : Type 0 where
  pub cycle : HaveCycle net streams
  pub certificate : Certificate
  pub least : IsLeastUnranked net streams certificate
  pub none : NoneCaused net streams.rows

-- the port at a hop of a stream's route
pub record IsPortAt (rows : List Row) (stream hop : ℕ) (arc : ArcId) (prio : ℕ) : Type 0 where
  pub row : Row
  pub is : IsStream rows stream row
  pub arc_is : slice_get row.arcs hop ≡ Some arc
  pub prio_is : prio ≡ row.prio

-- the answer to a fault of the rounds: a bound that passes the limit is told by the port at which it does
abbrev pub IsAnswerTo : RoundsFault → List Row → Status → Type 0
IsAnswerTo (rounds.Overload arc) rows s = s ≡ status.Unfit (unfit.Overload arc)
IsAnswerTo (rounds.Large arc prio) rows s = s ≡ status.Unfit (unfit.Large arc prio)
IsAnswerTo (rounds.Unsettled arc prio) rows s = s ≡ status.Unsettled arc prio
IsAnswerTo (rounds.Wide stream hop) rows s = (arc : ArcId) × (prio : ℕ) × IsPortAt rows stream.0 hop arc prio × (s ≡ status.Unfit (unfit.Large arc prio))
IsAnswerTo (rounds.Ring arc prio need) rows s = s ≡ status.Unfit (unfit.Ring arc prio need)
IsAnswerTo rounds.Memory rows s = s ≡ status.Memory

-- the routes have a cycle; a fault of the rounds has a cause, no other has, and this is the answer to it
pub record RoundsCause (s : Status) (net : Network) (streams : Streams) : Type 0 where
  pub cycle : HaveCycle net streams
  pub fault : RoundsFault
  pub refusal : fault ≢ rounds.Memory
  pub here : of_rounds.Cause net streams.rows fault
  pub alone : rounds_answers.IsAlone net streams.rows fault
  pub answer : IsAnswerTo fault streams.rows s

-- ---- with ranks or without

-- the least certificate with ranks, or where the routes have a cycle the least one without them
abbrev pub IsLeastOfBoth : Network → Streams → Certificate → Type 0
IsLeastOfBoth net streams c = IsLeastRanked net streams c ⊎ (HaveCycle net streams × IsLeastUnranked net streams c)

-- there is one
abbrev pub HasCertificate : Network → Streams → Type 0
HasCertificate net streams = HasLeast net streams ⊎ HasLeastUnranked net streams

-- a refusal has its cause, but a cycle; or the routes have a cycle, and a fault of the rounds has its cause
abbrev pub RefusalCause : Unfit → Network → Streams → Type 0
RefusalCause cause net streams = ((names_cycle cause ≡ false) × UnfitCause cause net streams) ⊎ RoundsCause (status.Unfit cause) net streams

-- there is no certificate, and this is the answer
abbrev pub HasNone : Status → Network → Streams → Type 0
HasNone s net streams = ((cause : Unfit) × (names_cycle cause ≡ false) × UnfitCause cause net streams × (s ≡ status.Unfit cause)) ⊎ RoundsCause s net streams

abbrev pub CertifiedCause : Status → Network → Streams → ℕ → ℕ → Type 0
CertifiedCause status.Done net streams before now = HasCertificate net streams
CertifiedCause status.WriteFault net streams before now = Rose before now × HasCertificate net streams
CertifiedCause (status.Unfit cause) net streams before now = RefusalCause cause net streams
CertifiedCause status.Memory net streams before now = Unit {0}
CertifiedCause (status.Unsettled arc prio) net streams before now = RoundsCause (status.Unsettled arc prio) net streams
CertifiedCause _ net streams before now = ⊥

-- all of the text was taken and flushed
abbrev pub TakesFlushed : List ℕ → Taken → Taken → Type 0
TakesFlushed text old new = (new.octets ≡ old.octets ++ text) × (new.flushed ≡ true)

-- the text of the least certificate, with ranks or without, flushed, or a front of it where writing failed, and else nothing
abbrev pub CertifiedLeaves : Status → Network → Streams → Option Taken → Option Taken → Type 0
CertifiedLeaves status.Done net streams old new = (c : Certificate) × IsLeastOfBoth net streams c × WhereTold old new (TakesFlushed (certificate_text net streams.rows c))
CertifiedLeaves status.WriteFault net streams old new = (c : Certificate) × IsLeastOfBoth net streams c × WhereTold old new (TakesFront (certificate_text net streams.rows c))
CertifiedLeaves _ net streams old new = new ≡ old

-- ---- the command

-- the words stand for this network, and these streams for it
abbrev pub AreBothIn : List ℕ → List ℕ → Network → Streams → Files → Type 0
AreBothIn net_word streams_word net streams files = IsNetIn net_word net files × AreStreamsIn streams_word net streams files

-- the network is refused; or it's read, and the streams are; or both are read, and there is no certificate
abbrev pub RefusedIn : List ℕ → List ℕ → Status → Files → Type 0
RefusedIn net_word streams_word s files =
    NetRefused net_word s files
    ⊎ ((net : Network) × IsNetIn net_word net files × StreamsRefused streams_word net s files)
    ⊎ ((net : Network) × (streams : Streams) × AreBothIn net_word streams_word net streams files × HasNone s net streams)

-- the network's text isn't there; or it's read, and the streams' text isn't there
abbrev pub GoneIn : List ℕ → List ℕ → Option Told → Type 0
GoneIn net_word streams_word None = ⊥
GoneIn net_word streams_word (Some told) =
    (text_named pair_network net_word told.files ≡ None)
    ⊎ ((net : Network) × IsNetIn net_word net told.files × (text_named pair_streams streams_word told.files ≡ None))

-- the words stand for a network and streams that have a certificate
abbrev pub HasBoth : List ℕ → List ℕ → Outside → Type 0
HasBoth net_word streams_word o =
    (net : Network) × (streams : Streams) × WhereTold o.told_before o.told_after (OfFiles (AreBothIn net_word streams_word net streams)) × HasCertificate net streams

-- the cause of each answer; want of memory is free
abbrev pub CertifyingCause : Status → List ℕ → List ℕ → Outside → Type 0
CertifyingCause status.Done net_word streams_word o = HasBoth net_word streams_word o
CertifyingCause status.WriteFault net_word streams_word o = Rose o.sink_before o.sink_after × HasBoth net_word streams_word o
CertifyingCause status.ReadFault net_word streams_word o = GoneIn net_word streams_word o.told_before ⊎ Rose o.shelf_before o.shelf_after
CertifyingCause (status.Form kind line rule) net_word streams_word o = WhereTold o.told_before o.told_after (OfFiles (RefusedIn net_word streams_word (status.Form kind line rule)))
CertifyingCause (status.Rules kind row rule) net_word streams_word o = WhereTold o.told_before o.told_after (OfFiles (RefusedIn net_word streams_word (status.Rules kind row rule)))
CertifyingCause (status.Unfit cause) net_word streams_word o = WhereTold o.told_before o.told_after (OfFiles (RefusedIn net_word streams_word (status.Unfit cause)))
CertifyingCause status.Memory net_word streams_word o = Unit {0}
CertifyingCause (status.Unsettled arc prio) net_word streams_word o = WhereTold o.told_before o.told_after (OfFiles (RefusedIn net_word streams_word (status.Unsettled arc prio)))
CertifyingCause _ net_word streams_word o = ⊥

-- the sink took this of what the two texts give
abbrev pub OfBoth : List ℕ → List ℕ → Outside → (Network → Streams → Type 0) → Type 0
OfBoth net_word streams_word o Takes =
    (net : Network) × (streams : Streams) × WhereTold o.told_before o.told_after (OfFiles (AreBothIn net_word streams_word net streams)) × Takes net streams

-- What the sink took, by the answer: the text of the least certificate, flushed; a front of it; or nothing.
abbrev pub CertifyingLeaves : Status → List ℕ → List ℕ → Outside → Type 0
CertifyingLeaves status.Done net_word streams_word o = OfBoth net_word streams_word o (λ net streams. CertifiedLeaves status.Done net streams o.taken_before o.taken_after)
CertifyingLeaves status.WriteFault net_word streams_word o = OfBoth net_word streams_word o (λ net streams. CertifiedLeaves status.WriteFault net streams o.taken_before o.taken_after)
CertifyingLeaves _ net_word streams_word o = o.taken_after ≡ o.taken_before
