-- The cause of an answer leaves no other, where a file of mPackets is to be listed.
use Rattle.std.proofs.Common.{◌≡◌, ◌⊎◌, inl, inr, ℕ, List, Option, Some, None, refl, sym, ◌∙◌, subst, arith}
use Rattle.std.proofs.lemmas.Option.{none-some}
use Rattle.pre_base.specs.Told.{WhereTold}
use Rattle.pre_base.specs.Shelves.{Told, IsMissing}
use Rattle.pre_cli.specs.declared.statuses.Status.{Status}
use Rattle.pre_cli.specs.declared.statuses.Status.TheVariants as status
use Rattle.pre_cli.specs.PacketFiles.{IsPacketDue}
use Rattle.pre_cli.specs.Answers.{Outside}
use Rattle.pre_cli.specs.Due.{GivesUp, TellsFiles}
use Rattle.pre_cli.specs.Listed.{HasPackets, ListingCause}
use Rattle.pre_cli.specs.DueListings.{TellsPackets, IsListingDue}
use Rattle.pre_cli.proofs.DueReadings.{told_as}
use Rattle.pre_cli.proofs.Texts.{some_same}

-- the first fault is one
one_fault : (octets : List ℕ) (f g : Option (ℕ × ℕ)) → IsPacketDue octets f → IsPacketDue octets g → f ≡ g
one_fault octets f g (inl p) (inl q) = p.1 ∙ sym q.1
one_fault octets f g (inl p) (inr q) = absurd (omega (arith, p.0, q.0))
one_fault octets f g (inr p) (inl q) = absurd (omega (arith, p.0, q.0))
one_fault octets f g (inr p) (inr q) = sym p.1 ∙ q.1

same_fault : (o : Outside) (name : List ℕ) (f g : Option (ℕ × ℕ)) → TellsPackets o name f → WhereTold o.told_before o.told_after (HasPackets name g) → f ≡ g
same_fault o name f g (told, octets, tells, at, has) cause =
    let found = told_as o told (HasPackets name g) tells cause in
    let same : octets ≡ found.1.0 = some_same octets found.1.0 (sym at ∙ found.1.1) in
    one_fault octets f g has (subst (λ (l : List ℕ). IsPacketDue l g) (sym same) found.1.2)

not_missing : (o : Outside) (name : List ℕ) (g : Option (ℕ × ℕ)) (told : Told) → TellsFiles o told → IsMissing (Some told) name → WhereTold o.told_before o.told_after (HasPackets name g) → ⊥
not_missing o name g told tells missing cause =
    let found = told_as o told (HasPackets name g) tells cause in
    none-some found.1.0 (sym missing ∙ found.1.1)

there : (o : Outside) (name : List ℕ) (f : Option (ℕ × ℕ)) → TellsPackets o name f → IsMissing o.told_before name → ⊥
there o name f (told, octets, tells, at, has) missing =
    let gone : IsMissing (Some told) name = subst (λ a. IsMissing a name) tells.0 missing in
    none-some octets (sym gone ∙ at)

pub missing_packets : (s : Status) (name : List ℕ) (o : Outside) (told : Told) → TellsFiles o told → IsMissing (Some told) name → ListingCause s name o → (s ≡ status.ReadFault) ⊎ (s ≡ status.Memory)
missing_packets status.ReadFault name o told tells missing cause = inl refl
missing_packets status.Memory name o told tells missing cause = inr refl
missing_packets status.Words name o told tells missing cause = absurd cause
missing_packets (status.Rejected clause row) name o told tells missing cause = absurd cause
missing_packets (status.Unruly line) name o told tells missing cause = absurd cause
missing_packets (status.Unsettled arc prio) name o told tells missing cause = absurd cause
missing_packets status.NoArc name o told tells missing cause = absurd cause
missing_packets (status.Alias arc ordinal) name o told tells missing cause = absurd cause
missing_packets (status.Rules kind row rule) name o told tells missing cause = absurd cause
missing_packets (status.Unfit unfit) name o told tells missing cause = absurd cause
missing_packets status.Done name o told tells missing cause = absurd (not_missing o name None told tells missing cause)
missing_packets status.WriteFault name o told tells missing cause = absurd (not_missing o name None told tells missing cause.1)
missing_packets (status.Form kind line rule) name o told tells missing cause = absurd (not_missing o name (Some (line, rule)) told tells missing cause.1)

gave_up : (o : Outside) (name : List ℕ) (f : Option (ℕ × ℕ)) → TellsPackets o name f → ListingCause status.ReadFault name o → GivesUp o status.ReadFault
gave_up o name f tells (inl missing) = absurd (there o name f tells missing)
gave_up o name f tells (inr rose) = inr (refl, rose)

pub packets_answer : (s : Status) (name : List ℕ) (fault : Option (ℕ × ℕ)) (o : Outside) → TellsPackets o name fault → ListingCause s name o → IsListingDue o fault s
packets_answer status.Words name fault o tells cause = absurd cause
packets_answer (status.Rejected clause row) name fault o tells cause = absurd cause
packets_answer (status.Unruly line) name fault o tells cause = absurd cause
packets_answer (status.Unsettled arc prio) name fault o tells cause = absurd cause
packets_answer status.NoArc name fault o tells cause = absurd cause
packets_answer (status.Alias arc ordinal) name fault o tells cause = absurd cause
packets_answer (status.Rules kind row rule) name fault o tells cause = absurd cause
packets_answer (status.Unfit unfit) name fault o tells cause = absurd cause
packets_answer status.Done name None o tells cause = inl refl
packets_answer status.Done name (Some place) o tells cause = absurd (none-some place (sym (same_fault o name (Some place) None tells cause)))
packets_answer status.WriteFault name None o tells cause = inr (inl (refl, cause.0))
packets_answer status.WriteFault name (Some place) o tells cause = absurd (none-some place (sym (same_fault o name (Some place) None tells cause.1)))
packets_answer status.ReadFault name None o tells cause = inr (inr (gave_up o name None tells cause))
packets_answer status.ReadFault name (Some place) o tells cause = inr (gave_up o name (Some place) tells cause)
packets_answer status.Memory name None o tells cause = inr (inr (inl refl))
packets_answer status.Memory name (Some place) o tells cause = inr (inl refl)
packets_answer (status.Form kind line rule) name None o tells cause = absurd (none-some (line, rule) (same_fault o name None (Some (line, rule)) tells cause.1))
packets_answer (status.Form kind line rule) name (Some place) o tells cause =
    let same : place ≡ (line, rule) = some_same place (line, rule) (same_fault o name (Some place) (Some (line, rule)) tells cause.1) in
    inl (λ k. status.Form (cause.0 k) (sym same k).0 (sym same k).1)
