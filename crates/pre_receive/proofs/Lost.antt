-- A lost arrival leaves a receiver as it was.
use Rattle.std.proofs.Common.{ℕ, List, [], ◌∷◌, ◌++◌, length, refl, Option, Some, None, false, Bool}
use Rattle.pre_mpacket.specs.declared.packets.Kind.{Kind}
use Rattle.pre_mpacket.specs.declared.packets.Kind.TheVariants as kind
use Rattle.pre_mpacket.specs.Arrivals.{is_fragment, HasCome, HasKind}
use Rattle.pre_receive.specs.declared.opened.Opened.{Opened}
use Rattle.pre_receive.specs.declared.outcomes.Outcome.TheVariants as outcome
use Rattle.pre_receive.specs.declared.receivers.Receiver.{Receiver}
use Rattle.pre_receive.specs.Held.{HoldsOpened}
use Rattle.pre_receive.specs.Receivers.{Stands}
use Rattle.pre_receive.proofs.PacketLaws.{PacketLaws}
use Rattle.pre_receive.proofs.Places.{last_get, last_spelled}
use Rattle.pre_receive.proofs.Counting.{lost_told, counts_after}

module _ (laws : PacketLaws) (A : List (Option (List ℕ))) where
  has_none : (test : Kind → Bool) → ¬ HasKind (A ++ None ∷ []) test (length A)
  has_none test (m, at, is) = let gone = last_spelled A None in cc (gone, at)

  not_come : ¬ HasCome (A ++ None ∷ []) (length A)
  not_come (octets, at) = let gone = last_get A None in cc (gone, at)

  holds_lost : (w : Option Opened) (octets : List ℕ) → HoldsOpened w octets A → HoldsOpened w octets (A ++ None ∷ [])
  holds_lost None octets shut = λ d n xs o. shut d n xs ((laws.other_opens A None d n xs (has_none is_fragment)).0 o)
  holds_lost (Some w) octets h = ((laws.other_opens A None w.frame_count w.next octets (has_none is_fragment)).1 h.0, h.1)

pub stands_lost : PacketLaws → (r : Receiver) (A : List (Option (List ℕ))) → Stands r A → Stands r (A ++ None ∷ [])
stands_lost laws r A s = record {
  holds = holds_lost laws A r.opened r.octets.items s.holds;
  counts = counts_after laws A None (Some kind.Verify) false outcome.Verify r.counters r.counters
      (lost_told (A ++ None ∷ []) (length A) (has_none laws A) (not_come laws A)) (record { ass_error = refl; smd_error = refl; ass_ok = refl; frag_rx = refl }) s.counts;
}
