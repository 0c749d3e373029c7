-- What is answered to an arrival doesn't change with later ones.
use Rattle.std.proofs.Common.{ℕ, ◌≡◌, ◌≤◌, ◌<◌, List, ◌++◌, length, take, sym, ◌∙◌, arith, subst, inl, inr, Option}
use Rattle.std.specs.Prelude.{◌↔◌, slice_get}
use Rattle.std.proofs.lemmas.List.{take-append-le}
use Rattle.pre_mpacket.specs.declared.packets.Kind.{Kind}
use Rattle.pre_mpacket.specs.declared.packets.Kind.TheVariants as kind
use Rattle.pre_mpacket.specs.declared.reading.MFault.{MFault}
use Rattle.pre_mpacket.specs.declared.reading.MFault.TheVariants as fault
use Rattle.pre_mpacket.specs.Spelling.{PlainPacket}
use Rattle.pre_mpacket.specs.Arrivals.{Given, Spelled, Gives, IsOpenBefore}
use Rattle.pre_mpacket.specs.Open.{IsOpen}
use Rattle.pre_receive.specs.declared.taken.Cause.{Cause}
use Rattle.pre_receive.specs.Causes.{Reason, no_delimiter, no_fragment_count, short, no_open_frame, other_frame_count, other_fragment_count, long}
use Rattle.pre_receive.specs.Causes.{other_check, Breaks, MeetsOpen, IsLong, HasReason, IsCause}
use Rattle.pre_receive.specs.Takings.{Taking, gave, gave_nothing, IsTaken}
use Rattle.pre_receive.proofs.PacketLaws.{PacketLaws}
use Rattle.pre_receive.proofs.Places.{earlier_get, earlier_spelled}

-- two lists that agree up to place i
record Agree (X Y : List (Option (List ℕ))) (i : ℕ) : Type 0 where
  get : slice_get X i ≡ slice_get Y i
  spelled : Spelled X i ≡ Spelled Y i
  front : take i X ≡ take i Y
  opens : IsOpenBefore X i → IsOpenBefore Y i
  shuts : IsOpenBefore Y i → IsOpenBefore X i

agree_back : (X Y : List (Option (List ℕ))) (i : ℕ) → Agree X Y i → Agree Y X i
agree_back X Y i a = record { get = sym a.get; spelled = sym a.spelled; front = sym a.front; opens = a.shuts; shuts = a.opens }

breaks_like : (X Y : List (Option (List ℕ))) (i : ℕ) (e : MFault) → Agree X Y i → Breaks X i e → Breaks Y i e
breaks_like X Y i e a (octets, at, first) = (octets, sym a.get ∙ at, first)

meets_like : (X Y : List (Option (List ℕ))) (i c n d e : ℕ) → Agree X Y i → MeetsOpen X i c n d e → MeetsOpen Y i c n d e
meets_like X Y i c n d e a (m, before, at, is, opened) = (m, before, sym a.spelled ∙ at, is, subst (λ l. IsOpen l d e before) a.front opened)

long_like : (X Y : List (Option (List ℕ))) (i : ℕ) (m : PlainPacket) (k : Kind) → Agree X Y i → IsLong X i m k → IsLong Y i m k
long_like X Y i m kind.Express a h = h
long_like X Y i m kind.Verify a h = h
long_like X Y i m kind.Respond a h = h
long_like X Y i m (kind.Start c) a h = h
long_like X Y i m (kind.Continue c n) a (d, e, before, opened, over) = (d, e, before, subst (λ l. IsOpen l d e before) a.front opened, over)

reason_like : (X Y : List (Option (List ℕ))) (i : ℕ) (r : Reason) → Agree X Y i → HasReason X i r → HasReason Y i r
reason_like X Y i no_delimiter a (inl h) = inl (breaks_like X Y i fault.Smd a h)
reason_like X Y i no_delimiter a (inr h) = inr (breaks_like X Y i fault.Preamble a h)
reason_like X Y i no_fragment_count a h = breaks_like X Y i fault.Fragment a h
reason_like X Y i short a h = breaks_like X Y i fault.Short a h
reason_like X Y i no_open_frame a ((m, at, is), shut) = ((m, sym a.spelled ∙ at, is), λ o. shut (a.shuts o))
reason_like X Y i other_frame_count a (c, n, d, e, meets, other) = (c, n, d, e, meets_like X Y i c n d e a meets, other)
reason_like X Y i other_fragment_count a (c, n, d, e, meets, other) = (c, n, d, e, meets_like X Y i c n d e a meets, other)
reason_like X Y i long a (m, at, over) = (m, sym a.spelled ∙ at, long_like X Y i m m.kind a over)
reason_like X Y i other_check a h = tt

cause_like : (X Y : List (Option (List ℕ))) (i : ℕ) (c : Cause) → Agree X Y i → IsCause X i c → IsCause Y i c
cause_like X Y i c a p = record {
  reason = p.reason;
  named = p.named;
  here = reason_like X Y i p.reason a p.here;
  none_before = λ r lt h. p.none_before r lt (reason_like Y X i r (agree_back X Y i a) h);
}

taken_like : (X Y : List (Option (List ℕ))) (i : ℕ) → Agree X Y i → ((g : Given) → Gives X i g ↔ Gives Y i g) → (t : Taking) → IsTaken X i t → IsTaken Y i t
taken_like X Y i a same (gave g) h = (same g).0 h
taken_like X Y i a same (gave_nothing c) (none, cause) = (λ g h. none g ((same g).1 h), cause_like X Y i c a cause)

open_more_at : PacketLaws → (A B : List (Option (List ℕ))) (i : ℕ) → i ≤ length A → IsOpenBefore A i → IsOpenBefore (A ++ B) i
open_more_at laws A B i le (j, lt, gives, none) =
    (j, lt, (laws.later_given A B j Given.part (omega (arith, lt, le))).1 gives, λ k past before m at. none k past before m (sym (earlier_spelled A B k (omega (arith, before, le))) ∙ at))

open_less_at : PacketLaws → (A B : List (Option (List ℕ))) (i : ℕ) → i ≤ length A → IsOpenBefore (A ++ B) i → IsOpenBefore A i
open_less_at laws A B i le (j, lt, gives, none) =
    (j, lt, (laws.later_given A B j Given.part (omega (arith, lt, le))).0 gives, λ k past before m at. none k past before m (earlier_spelled A B k (omega (arith, before, le)) ∙ at))

agree_later : PacketLaws → (A B : List (Option (List ℕ))) (i : ℕ) → i < length A → Agree (A ++ B) A i
agree_later laws A B i lt = record {
  get = earlier_get A B i lt;
  spelled = earlier_spelled A B i lt;
  front = take-append-le i A B (omega (arith, lt));
  opens = open_less_at laws A B i (omega (arith, lt));
  shuts = open_more_at laws A B i (omega (arith, lt));
}

pub taken_later : PacketLaws → (A B : List (Option (List ℕ))) (i : ℕ) (t : Taking) → i < length A → IsTaken (A ++ B) i t ↔ IsTaken A i t
taken_later laws A B i t lt = (
  taken_like (A ++ B) A i (agree_later laws A B i lt) (λ g. laws.later_given A B i g lt) t,
  taken_like A (A ++ B) i (agree_back (A ++ B) A i (agree_later laws A B i lt)) (λ g. let h = laws.later_given A B i g lt in (h.1, h.0)) t,
)
