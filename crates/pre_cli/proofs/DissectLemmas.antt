-- Lemmas: what the dissection of a capture file answers and leaves.
use Rattle.std.proofs.Common.{◌≡◌, ◌⊎◌, inl, inr, ℕ, ◌≤◌, ◌++◌, List, [], Option, Some, None, true, refl, sym, ◌∙◌, ap, subst, arith}
use Rattle.std.proofs.lemmas.List.{append-nil}
use Rattle.pre_base.specs.Faults.{Rose}
use Rattle.pre_base.specs.Told.{WhereTold, WhereTold-join, WhereTold-map}
use Rattle.pre_base.specs.Shelves.{Told}
use Rattle.pre_base.specs.Sinks.{Taken}
use Rattle.pre_base.specs.Sinks.{TakesWhole, TakesFront}
use Rattle.pre_pcap.specs.declared.faults.PcapFault.{PcapFault}
use Rattle.pre_pcap.specs.Records.{PacketRecord}
use Rattle.pre_pcap.specs.Captures.{IsCapture, IsCutBehind, IsFirstFault, IsHeaderFault}
use Rattle.pre_dissect.specs.Dissections.{IsDissected, DissectText, FaultText, BeginsWith}
use Rattle.pre_cli.specs.declared.statuses.FileWord.TheVariants as file
use Rattle.pre_cli.specs.declared.statuses.Status.{Status}
use Rattle.pre_cli.specs.declared.statuses.Status.TheVariants as status
use Rattle.pre_cli.specs.Answers.{Outside}
use Rattle.pre_cli.specs.Files.{OfFiles, IsFileIn, IsLongFile}
use Rattle.pre_cli.specs.Dissecting.{fault_status, DissectedCause, FirstLines, DissectedLeaves, IsUnread, DissectingCause, DissectingLeaves}
use Rattle.pre_cli.specs.Runs.{FlushEnds}

-- a capture begins with all its records, and a file that is cut off with those before the cut
begins_capture : (records : List PacketRecord) (octets : List ℕ) → IsCapture records octets → BeginsWith records octets
begins_capture records octets is = record { order = is.order; header = is.header; rest = []; in_order = is.in_order }

begins_cut : (records : List PacketRecord) (e : PcapFault) (octets : List ℕ) → IsCutBehind records e octets → BeginsWith records octets
begins_cut records e octets is = record { order = is.order; header = is.header; rest = is.rest; in_order = is.in_order }

first_of_all : (octets text : List ℕ) → DissectText octets text → FirstLines octets text
first_of_all octets text (records, is, lines) = inl (records, begins_capture records octets is, lines)

first_of_fault : (e : PcapFault) (octets text : List ℕ) → FaultText e octets text → FirstLines octets text
first_of_fault e octets text (inl (header, none)) = inr (e, header, none)
first_of_fault e octets text (inr (records, cut, lines)) = inl (records, begins_cut records e octets cut, lines)

first_of_some : (octets text : List ℕ) (records : List PacketRecord) → BeginsWith records octets → IsDissected records text → FirstLines octets text
first_of_some octets text records begins lines = inl (records, begins, lines)

-- all of a text is a front of it
whole_front : (text : List ℕ) (x y z : Taken) → TakesWhole text x y → z.octets ≡ y.octets → TakesFront text x z
whole_front text x y z took same = ([], (text, sym (append-nil text), same ∙ took))

-- ---- the octets of a file

pub all_cause : (s : Status) (octets : List ℕ) (a b : Option Taken) (before between now : ℕ) → before ≤ between → (records : List PacketRecord) → IsCapture records octets → FlushEnds status.Done s a b between now
    → DissectedCause s octets before now
all_cause s octets a b before between now sooner records is (inl (done, told, later)) = subst (λ (t : Status). DissectedCause t octets before now) (sym done) (records, is)
all_cause s octets a b before between now sooner records is (inr (torn, told, later, rose)) = subst (λ (t : Status). DissectedCause t octets before now) (sym torn) (omega (arith, sooner, rose))

pub fault_cause : (s : Status) (e : PcapFault) (octets : List ℕ) (a b : Option Taken) (before between now : ℕ) → before ≤ between → IsFirstFault e octets → FlushEnds (fault_status e) s a b between now
    → DissectedCause s octets before now
fault_cause s e octets a b before between now sooner is (inl (done, told, later)) = subst (λ (t : Status). DissectedCause t octets before now) (sym done) (e, is, refl)
fault_cause s e octets a b before between now sooner is (inr (torn, told, later, rose)) = subst (λ (t : Status). DissectedCause t octets before now) (sym torn) (omega (arith, sooner, rose))

pub all_leaves : (s : Status) (octets : List ℕ) (a b d : Option Taken) (between now : ℕ) → WhereTold a b (λ x y. (text : List ℕ) × DissectText octets text × TakesWhole text x y) → FlushEnds status.Done s b d between now
    → DissectedLeaves s octets a d
all_leaves s octets a b d between now took (inl (done, told, later)) =
    subst (λ (t : Status). DissectedLeaves t octets a d) (sym done)
    (WhereTold-join a b d _ _ _ (λ x y z p q. ((p.0, p.1, q.0 ∙ p.2), q.1)) took told)
all_leaves s octets a b d between now took (inr (torn, told, later, rose)) =
    subst (λ (t : Status). DissectedLeaves t octets a d) (sym torn)
    (WhereTold-join a b d _ _ _ (λ x y z p q. (p.0, first_of_all octets p.0 p.1, whole_front p.0 x y z p.2 q)) took told)

pub fault_leaves : (s : Status) (e : PcapFault) (octets : List ℕ) (a b d : Option Taken) (between now : ℕ) → WhereTold a b (λ x y. (text : List ℕ) × FaultText e octets text × TakesWhole text x y)
    → FlushEnds (fault_status e) s b d between now → DissectedLeaves s octets a d
fault_leaves s e octets a b d between now took (inl (done, told, later)) =
    subst (λ (t : Status). DissectedLeaves t octets a d) (sym done)
    (WhereTold-join a b d _ _ _ (λ x y z p q. ((e, p.0, refl, p.1, q.0 ∙ p.2), q.1)) took told)
fault_leaves s e octets a b d between now took (inr (torn, told, later, rose)) =
    subst (λ (t : Status). DissectedLeaves t octets a d) (sym torn)
    (WhereTold-join a b d _ _ _ (λ x y z p q. (p.0, first_of_fault e octets p.0 p.1, whole_front p.0 x y z p.2 q)) took told)

pub torn_leaves : (octets : List ℕ) (a b : Option Taken) → WhereTold a b (λ x y. (records : List PacketRecord) × (text : List ℕ) × BeginsWith records octets × IsDissected records text × TakesFront text x y)
    → DissectedLeaves status.WriteFault octets a b
torn_leaves octets a b took = WhereTold-map a b _ _ (λ x y p. (p.1, first_of_some octets p.1 p.0 p.2 p.3, p.4)) took

-- ---- a file

module _ (name octets : List ℕ) (o : Outside) (read : WhereTold o.told_before o.told_after (OfFiles (IsFileIn name octets))) where
  pub read_cause : (s : Status) → DissectedCause s octets o.sink_before o.sink_after → DissectingCause s name o
  read_cause status.Done cause = WhereTold-map o.told_before o.told_after _ _ (λ x y p. ((octets, p.0, cause), p.1)) read
  read_cause status.WriteFault cause = (cause, WhereTold-map o.told_before o.told_after _ _ (λ x y p. ((octets, p.0), p.1)) read)
  read_cause (status.Form kind line rule) cause = WhereTold-map o.told_before o.told_after _ _ (λ x y p. (inr (octets, p.0, cause), p.1)) read
  read_cause status.Memory cause = tt
  read_cause status.ReadFault cause = absurd cause
  read_cause status.Words cause = absurd cause
  read_cause (status.Rules kind row rule) cause = absurd cause
  read_cause (status.Unfit u) cause = absurd cause
  read_cause (status.Rejected clause row) cause = absurd cause
  read_cause (status.Unruly line) cause = absurd cause
  read_cause (status.Unsettled arc prio) cause = absurd cause
  read_cause status.NoArc cause = absurd cause
  read_cause (status.Alias arc ordinal) cause = absurd cause

  pub read_leaves : (s : Status) → DissectedLeaves s octets o.taken_before o.taken_after → DissectingLeaves s name o
  read_leaves status.Done took = (octets, read, took)
  read_leaves status.WriteFault took = (octets, read, took)
  read_leaves (status.Form kind line rule) took = inr (octets, read, took)
  read_leaves status.Memory took = took
  read_leaves status.ReadFault took = took
  read_leaves status.Words took = took
  read_leaves (status.Rules kind row rule) took = took
  read_leaves (status.Unfit u) took = took
  read_leaves (status.Rejected clause row) took = took
  read_leaves (status.Unruly line) took = took
  read_leaves (status.Unsettled arc prio) took = took
  read_leaves status.NoArc took = took
  read_leaves (status.Alias arc ordinal) took = took

module _ (name : List ℕ) (o : Outside) where
  pub unread_cause : (s : Status) → IsUnread s name o.shelf_before o.shelf_after o.told_before o.told_after → DissectingCause s name o
  unread_cause status.ReadFault cause = cause
  unread_cause (status.Form kind line rule) cause = WhereTold-map o.told_before o.told_after _ _ (λ x y p. (inl p.0, p.1)) cause
  unread_cause status.Memory cause = tt
  unread_cause (status.Rules kind row rule) cause = absurd cause
  unread_cause status.Done cause = absurd cause
  unread_cause status.WriteFault cause = absurd cause
  unread_cause status.Words cause = absurd cause
  unread_cause (status.Unfit u) cause = absurd cause
  unread_cause (status.Rejected clause row) cause = absurd cause
  unread_cause (status.Unruly line) cause = absurd cause
  unread_cause (status.Unsettled arc prio) cause = absurd cause
  unread_cause status.NoArc cause = absurd cause
  unread_cause (status.Alias arc ordinal) cause = absurd cause

  pub unread_leaves : (s : Status) → IsUnread s name o.shelf_before o.shelf_after o.told_before o.told_after → o.taken_after ≡ o.taken_before → DissectingLeaves s name o
  unread_leaves status.ReadFault cause same = same
  unread_leaves (status.Form kind line rule) cause same = inl (cause, same)
  unread_leaves status.Memory cause same = same
  unread_leaves (status.Rules kind row rule) cause same = absurd cause
  unread_leaves status.Done cause same = absurd cause
  unread_leaves status.WriteFault cause same = absurd cause
  unread_leaves status.Words cause same = absurd cause
  unread_leaves (status.Unfit u) cause same = absurd cause
  unread_leaves (status.Rejected clause row) cause same = absurd cause
  unread_leaves (status.Unruly line) cause same = absurd cause
  unread_leaves (status.Unsettled arc prio) cause same = absurd cause
  unread_leaves status.NoArc cause same = absurd cause
  unread_leaves (status.Alias arc ordinal) cause same = absurd cause
