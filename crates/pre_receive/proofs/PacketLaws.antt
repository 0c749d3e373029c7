-- What holds of mPackets and of lists of arrivals, as it is used here.
use Rattle.std.proofs.Common.{ap}
use Rattle.std.specs.Prelude.{◌≡◌, ◌≢◌, ◌↔◌, ℕ, ◌+◌, ◌%◌, ◌<◌, ◌≤◌, List, [], ◌∷◌, ◌++◌, length, Option, Some}
use Rattle.pre_base.specs.declared.limits.TheConstants.{GREATEST_DATA}
use Rattle.pre_crc.specs.Checks.{Fcs, Mcrc}
use Rattle.pre_mpacket.specs.declared.packets.Kind.TheVariants as kind
use Rattle.pre_mpacket.specs.Spelling.{PlainPacket, Spells, mpacket_of}
use Rattle.pre_mpacket.specs.Arrivals.{Given, is_fragment, Gives, EndsChain, HasKind, IsOpenBefore}
use Rattle.pre_mpacket.specs.Open.{IsOpen}
use Rattle.pre_mpacket.specs.Counters.{CountersOf}
use Rattle.pre_mpacket.proofs.Spelled.{spelled_given, given_spells}
use Rattle.pre_mpacket.proofs.Chains.{gives_one}
use Rattle.pre_mpacket.proofs.Later.{gives_more}
use Rattle.pre_mpacket.proofs.Opened.{joins_start, joins_continuation, opens_start, opens_continuation}
use Rattle.pre_mpacket.proofs.OneOpen.{opens_other, open_one, opened, open_before}
use Rattle.pre_mpacket.proofs.Counted.{counters_more}
use Rattle.pre_crc.proofs.CheckFacts.{Fcs-differs}

pub record PacketLaws : Type 0 where
  pub spelled : (m : PlainPacket) (octets : List ℕ) → (mpacket_of octets ≡ Some m) ↔ Spells m octets
  pub one_given : (A : List (Option (List ℕ))) (i : ℕ) (g h : Given) → Gives A i g → Gives A i h → g ≡ h
  pub later_given : (A B : List (Option (List ℕ))) (i : ℕ) (g : Given) → i < length A → Gives (A ++ B) i g ↔ Gives A i g
  pub start_joins : (A : List (Option (List ℕ))) (octets all : List ℕ) (m : PlainPacket) (c : ℕ)
      → Spells m octets → m.kind ≡ kind.Start c
      → EndsChain (A ++ Some octets ∷ []) (length A) all ↔ ((all ≡ m.mdata) × (length all ≤ GREATEST_DATA))
  pub continuation_joins : (A : List (Option (List ℕ))) (octets all : List ℕ) (m : PlainPacket) (c n : ℕ)
      → Spells m octets → m.kind ≡ kind.Continue c n
      → EndsChain (A ++ Some octets ∷ []) (length A) all
      ↔ ((before : List ℕ) × IsOpen A c n before × (all ≡ before ++ m.mdata) × (length all ≤ GREATEST_DATA))
  pub start_opens : (A : List (Option (List ℕ))) (octets all : List ℕ) (m : PlainPacket) (c d n : ℕ)
      → Spells m octets → m.kind ≡ kind.Start c
      → IsOpen (A ++ Some octets ∷ []) d n all
      ↔ ((d ≡ c) × (n ≡ 0) × EndsChain (A ++ Some octets ∷ []) (length A) all × (m.check ≡ Mcrc all))
  pub continuation_opens : (A : List (Option (List ℕ))) (octets all : List ℕ) (m : PlainPacket) (c i d n : ℕ)
      → Spells m octets → m.kind ≡ kind.Continue c i
      → IsOpen (A ++ Some octets ∷ []) d n all
      ↔ ((d ≡ c) × (n ≡ (i + 1) % 4) × EndsChain (A ++ Some octets ∷ []) (length A) all × (m.check ≡ Mcrc all))
  pub other_opens : (A : List (Option (List ℕ))) (arrival : Option (List ℕ)) (d n : ℕ) (all : List ℕ)
      → ¬ HasKind (A ++ arrival ∷ []) is_fragment (length A)
      → IsOpen (A ++ arrival ∷ []) d n all ↔ IsOpen A d n all
  pub one_open : (A : List (Option (List ℕ))) (c d m n : ℕ) (xs ys : List ℕ)
      → IsOpen A c m xs → IsOpen A d n ys → (c ≡ d) × (m ≡ n) × (xs ≡ ys)
  pub open_before : (A : List (Option (List ℕ)))
      → IsOpenBefore A (length A) ↔ ((c : ℕ) × (n : ℕ) × (octets : List ℕ) × IsOpen A c n octets)
  pub later_counts : (A B : List (Option (List ℕ))) (n a b c d : ℕ)
      → n ≤ length A → CountersOf (A ++ B) n a b c d ↔ CountersOf A n a b c d
  pub checks_differ : (octets : List ℕ) → Fcs octets ≢ Mcrc octets

pub packet_laws : PacketLaws
packet_laws = record {
  spelled = λ m octets. (given_spells m octets, spelled_given m octets);
  one_given = gives_one;
  later_given = gives_more;
  start_joins = λ A octets all m f s is. joins_start A (Some octets) m (spelled_given m octets s) (ap is_fragment is) f all is;
  continuation_joins = λ A octets all m f i s is. joins_continuation A (Some octets) m (spelled_given m octets s) (ap is_fragment is) f i all is;
  start_opens = λ A octets all m f d n s is. opens_start A (Some octets) m (spelled_given m octets s) (ap is_fragment is) f d n all is;
  continuation_opens = λ A octets all m f i d n s is. opens_continuation A (Some octets) m (spelled_given m octets s) (ap is_fragment is) f i d n all is;
  other_opens = opens_other;
  one_open = open_one;
  open_before = λ A. (opened A, λ o. open_before A o.0 o.1 o.2 o.3);
  later_counts = counters_more;
  checks_differ = Fcs-differs;
}
