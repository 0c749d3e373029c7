use Rattle.std.proofs.Common.{◌≡◌, [], ◌∷◌, ◌++◌, length, refl, sym, ◌∙◌, Some, None, rules}
use Rattle.pre_mpacket.specs.declared.reading.MFault.{MFault}
use Rattle.pre_mpacket.specs.Spelling.{IsFirstFault, plain}
use Rattle.pre_mpacket.specs.Arrivals.{IsOpenBefore}
use Rattle.pre_receive.specs.declared.outcomes.Outcome.TheVariants as outcome
use Rattle.pre_receive.proofs.Places.{last_get, held_open, held_shut}
use Rattle.pre_receive.proofs.Counting.{tells_by, packet_told, fault_told, counts_after}
use Rattle.pre_receive.proofs.Joins.{spelled}
use Rattle.pre_receive.proofs.Sorts.{sorted_taken, sorted_holds}
use Rattle.pre_receive.proofs.Faulty.{unspelled, fault_taken, fault_holds}
use Rattle.pre_receive.proofs.PacketLaws.{packet_laws}
use Rattle.pre_receive.proofs.Checked.{sorted_checked}
use Rattle.pre_receive.proofs.receivers.Receiver.receive.Goals as goal

pub returns-in-Err-clause-stands : goal.returns-in-Err-clause-stands
returns-in-Err-clause-stands c = λ A s.
    let laws = packet_laws in
    let old = c.args.self.now in
    let a = c.args.arrived.now in
    let e = c.in-Err.fault in
    let only : (d : MFault) → IsFirstFault d a → d ≡ e = λ d first. cc (c.in-Err.ensures.fault_due d first) in
    let gone = unspelled laws A a e c.in-Err.ensures.fault only c.in-Err.ensures.spelled_due in
    record {
      holds = fault_holds laws A a e c.in-Err.ensures.fault only c.in-Err.ensures.spelled_due old.opened old.octets.items s.holds;
      counts = counts_after laws A (Some a) None c.is_some-was_open.result (outcome.Nothing c.cause_of.result) old.counters c.counted-self.result
          (fault_told (A ++ Some a ∷ []) (length A) c.is_some-was_open.result (outcome.Nothing c.cause_of.result) gone (a, last_get A (Some a))) c.counted-self.ensures s.counts;
    }

pub returns-in-Err-clause-taken : goal.returns-in-Err-clause-taken
returns-in-Err-clause-taken c = λ A s.
    let a = c.args.arrived.now in
    let e = c.in-Err.fault in
    let only : (d : MFault) → IsFirstFault d a → d ≡ e = λ d first. cc (c.in-Err.ensures.fault_due d first) in
    let taken = fault_taken packet_laws A a e c.in-Err.ensures.fault only c.in-Err.ensures.spelled_due in
    rw c.cause_of.ensures taken

pub returns-in-Ok-clause-stands : goal.returns-in-Ok-clause-stands
returns-in-Ok-clause-stands c = λ A s.
    let laws = packet_laws in
    let old = c.args.self.now in
    let new = c.sorted-outcome.new.self in
    let o = c.sorted-outcome.result in
    let a = c.args.arrived.now in
    let m = plain c.in-Ok.packet in
    let sound : (d : MFault) → ¬ IsFirstFault d a = λ d first. cc (c.in-Ok.ensures.fault_due d first) in
    let taken = sorted_taken laws A a m c.in-Ok.ensures.spelled sound c.in-Ok.packet.kind refl old new o s.holds c.sorted-outcome.ensures.sorted in
    let was = c.is_some-was_open.result in
    let shown = tells_by was (IsOpenBefore (A ++ Some a ∷ []) (length A))
    (λ is. held_open laws A (Some a ∷ []) old.opened old.octets.items s.holds (sym c.is_some-was_open.ensures ∙ is))
    (λ is. held_shut laws A (Some a ∷ []) old.opened old.octets.items s.holds (sym c.is_some-was_open.ensures ∙ is)) in
    record {
      holds = sorted_holds laws A a m c.in-Ok.ensures.spelled sound c.in-Ok.packet.kind refl old new o s.holds c.sorted-outcome.ensures.sorted;
      counts = counts_after laws A (Some a) (Some c.in-Ok.packet.kind) was o old.counters c.counted-self-in-Ok.result
          (packet_told laws (A ++ Some a ∷ []) (length A) m (spelled laws A a m c.in-Ok.ensures.spelled sound) (a, last_get A (Some a)) was shown new o taken c.in-Ok.packet.kind refl)
          (rw c.sorted-outcome.ensures.counters at c.counted-self-in-Ok.ensures) s.counts;
    }

pub returns-in-Ok-clause-taken : goal.returns-in-Ok-clause-taken
returns-in-Ok-clause-taken c = λ A s.
    let a = c.args.arrived.now in
    let new = c.sorted-outcome.new.self in
    let o = c.sorted-outcome.result in
    let sound : (d : MFault) → ¬ IsFirstFault d a = λ d first. cc (c.in-Ok.ensures.fault_due d first) in
    sorted_taken packet_laws A a (plain c.in-Ok.packet) c.in-Ok.ensures.spelled sound c.in-Ok.packet.kind refl c.args.self.now new o s.holds c.sorted-outcome.ensures.sorted

pub returns-in-Ok-clause-check : goal.returns-in-Ok-clause-check
returns-in-Ok-clause-check c = sorted_checked c.in-Ok.packet.kind c.sorted-outcome.result _ _ c.args.self.now c.sorted-outcome.new.self (search rules) c.sorted-outcome.ensures.sorted
