-- What is answered to a network and streams that are to be certified: the causes leave no other answer.
use Rattle.std.specs.Prelude.{◌≡◌, ◌≢◌, ◌⊎◌, ℕ, List, None, false}
use Rattle.pre_base.specs.Faults.{Rose}
use Rattle.pre_base.specs.Shelves.{Told}
use Rattle.pre_base.specs.declared.numbers.ArcId.{ArcId}
use Rattle.pre_topo.specs.declared.network.Network.{Network}
use Rattle.pre_streams.specs.declared.rows.Streams.{Streams}
use Rattle.pre_bound.specs.Listed.{HasGood}
use Rattle.pre_certify.specs.Causes.{Cause}
use Rattle.pre_certify.specs.Refusals.{SameRefusal, names_cycle}
use Rattle.pre_certify.specs.declared.unfit.Unfit.{Unfit}
use Rattle.pre_certify.specs.declared.unfit.Unfit.TheVariants as unfit
use Rattle.pre_rounds.specs.declared.faults.RoundsFault.{RoundsFault}
use Rattle.pre_rounds.specs.declared.faults.RoundsFault.TheVariants as rounds
use Rattle.pre_rounds.specs.Causes as of_rounds
use Rattle.pre_rounds.specs.Answers.{NoneCaused}
use Rattle.pre_cli.specs.declared.statuses.Status.{Status}
use Rattle.pre_cli.specs.declared.statuses.Status.TheVariants as status
use Rattle.pre_cli.specs.Answers.{Outside}
use Rattle.pre_cli.specs.Due.{TellsFiles, GivesUp}
use Rattle.pre_cli.specs.Files.{pair_network, pair_streams, text_named, IsNetIn, AreStreamsIn, NetRefused, StreamsRefused}
use Rattle.pre_cli.specs.Certifying.{HasCertificate, HasNone, IsAnswerTo, CertifyingCause}

-- ---- answers

abbrev pub IsFaultOrMemory : Status → Type 0
IsFaultOrMemory s = (s ≡ status.ReadFault) ⊎ (s ≡ status.Memory)

-- all was done, or the sink failed
abbrev pub IsCertified : Outside → Status → Type 0
IsCertified o s = (s ≡ status.Done) ⊎ ((s ≡ status.WriteFault) × Rose o.sink_before o.sink_after)

-- it is refused like this, but for the choice of a cycle
abbrev pub RefusesAs : Unfit → Status → Type 0
RefusesAs e s = (u : Unfit) × SameRefusal u e × (s ≡ status.Unfit u)

-- there is a certificate, or why there is none, or neither memory nor the shelf serves
abbrev pub IsDueForBoth : Outside → Network → Streams → Status → Type 0
IsDueForBoth o net streams s = (IsCertified o s × HasCertificate net streams) ⊎ HasNone s net streams ⊎ GivesUp o s

-- ---- where the shelf tells its files, the answers to two words: the network's text isn't there, or is refused

abbrev pub MissingNetwork : Type 0
MissingNetwork = (s : Status) (net_word streams_word : List ℕ) (o : Outside) (told : Told) → TellsFiles o told
    → text_named pair_network net_word told.files ≡ None → CertifyingCause s net_word streams_word o → IsFaultOrMemory s

abbrev pub RefusedNetwork : Type 0
RefusedNetwork = (s due : Status) (net_word streams_word : List ℕ) (o : Outside) (told : Told) → TellsFiles o told
    → NetRefused net_word due told.files → CertifyingCause s net_word streams_word o → (s ≡ due) ⊎ GivesUp o s

-- ---- the network is read, and the streams' text isn't there, or is refused

abbrev pub MissingStreams : Type 0
MissingStreams = (s : Status) (net_word streams_word : List ℕ) (o : Outside) (told : Told) (net : Network) → TellsFiles o told → IsNetIn net_word net told.files
    → text_named pair_streams streams_word told.files ≡ None → CertifyingCause s net_word streams_word o → IsFaultOrMemory s

abbrev pub RefusedStreams : Type 0
RefusedStreams = (s due : Status) (net_word streams_word : List ℕ) (o : Outside) (told : Told) (net : Network) → TellsFiles o told → IsNetIn net_word net told.files
    → StreamsRefused streams_word net due told.files → CertifyingCause s net_word streams_word o → (s ≡ due) ⊎ GivesUp o s

-- ---- both are read

abbrev pub BothRead : Type 0
BothRead = (s : Status) (net_word streams_word : List ℕ) (o : Outside) (told : Told) (net : Network) (streams : Streams)
    → TellsFiles o told → IsNetIn net_word net told.files → AreStreamsIn streams_word net streams told.files
    → CertifyingCause s net_word streams_word o → IsDueForBoth o net streams s

-- and have a good certificate with ranks
abbrev pub GoodIsCertified : Type 0
GoodIsCertified = (s : Status) (net_word streams_word : List ℕ) (o : Outside) (told : Told) (net : Network) (streams : Streams)
    → TellsFiles o told → IsNetIn net_word net told.files → AreStreamsIn streams_word net streams told.files
    → HasGood net streams → CertifyingCause s net_word streams_word o → IsCertified o s ⊎ GivesUp o s

-- or a cause to be refused that is no cycle
abbrev pub CauseIsAnswered : Type 0
CauseIsAnswered = (s : Status) (net_word streams_word : List ℕ) (o : Outside) (told : Told) (net : Network) (streams : Streams) (e : Unfit)
    → TellsFiles o told → IsNetIn net_word net told.files → AreStreamsIn streams_word net streams told.files
    → e ≢ unfit.Memory → names_cycle e ≡ false → Cause net streams.rows e → CertifyingCause s net_word streams_word o → RefusesAs e s ⊎ GivesUp o s

-- or routes with a cycle, and no fault of the rounds has a cause
abbrev pub SettledIsCertified : Type 0
SettledIsCertified = (s : Status) (net_word streams_word : List ℕ) (o : Outside) (told : Told) (net : Network) (streams : Streams) (arcs : List ArcId)
    → TellsFiles o told → IsNetIn net_word net told.files → AreStreamsIn streams_word net streams told.files
    → Cause net streams.rows (unfit.Cycle arcs) → NoneCaused net streams.rows → CertifyingCause s net_word streams_word o → IsCertified o s ⊎ GivesUp o s

-- or one has
abbrev pub FaultIsAnswered : Type 0
FaultIsAnswered = (s : Status) (net_word streams_word : List ℕ) (o : Outside) (told : Told) (net : Network) (streams : Streams) (arcs : List ArcId) (e : RoundsFault)
    → TellsFiles o told → IsNetIn net_word net told.files → AreStreamsIn streams_word net streams told.files
    → Cause net streams.rows (unfit.Cycle arcs) → e ≢ rounds.Memory → of_rounds.Cause net streams.rows e → CertifyingCause s net_word streams_word o
    → IsAnswerTo e streams.rows s ⊎ GivesUp o s
