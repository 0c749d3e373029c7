-- A dissection grows by a line for each record.
use Rattle.std.proofs.Common.{◌≡◌, ℕ, suc, ◌+◌, ◌<◌, List, [], ◌∷◌, ◌++◌, length, Option, Some, None, Result, Ok, Err}
use Rattle.std.proofs.Common.{refl, sym, ◌∙◌, ap, subst, inl, inr, arith, append_assoc, length-append}
use Rattle.std.specs.Prelude.{◌↔◌}
use Rattle.std.specs.Result.{IsErr, IsErrAnd}
use Rattle.std.proofs.lemmas.Bool.{false≢true}
use Rattle.std.proofs.lemmas.List.{append-nil, length-map}
use Rattle.pre_base.specs.Told.{WhereTold, WhereTold-join, WhereTold-map}
use Rattle.pre_base.specs.Sinks.{Taken}
use Rattle.pre_base.specs.Sinks.{TakesWhole, TakesFront}
use Rattle.pre_history.proofs.Lists.{at_end, within}
use Rattle.pre_pcap.specs.declared.reading.Capture.{Capture}
use Rattle.pre_pcap.specs.declared.reading.Record as declared
use Rattle.pre_pcap.specs.Views.{packet_record}
use Rattle.pre_pcap.specs.declared.faults.PcapFault.{PcapFault}
use Rattle.pre_pcap.specs.Records.{PacketRecord}
use Rattle.pre_pcap.specs.Captures as captures
use Rattle.pre_receive.specs.declared.receivers.Receiver.{Receiver}
use Rattle.pre_receive.specs.Receivers as receivers
use Rattle.pre_receive.specs.Takings.{Taking, IsTaken}
use Rattle.pre_dissect.specs.declared.faults.DissectFault.{DissectFault}
use Rattle.pre_dissect.specs.declared.faults.DissectFault.TheVariants as fault
use Rattle.pre_dissect.specs.Dissections.{arrivals_in, record_line, lines_from, AreTaken, IsDissected, DissectText, FaultText, BeginsWith}
use Rattle.pre_dissect.specs.Answers.{IsDue, Leaves, TakesRecord}

-- the text of these records was taken
abbrev pub TakesText : List PacketRecord → Taken → Taken → Type 0
TakesText records x y = (text : List ℕ) × IsDissected records text × TakesWhole text x y

-- These records were lent, and their lines taken.
pub record SoFar (octets : List ℕ) (capture : Capture) (receiver : Receiver) (place : ℕ) (before after : Option Taken) : Type 0 where
  pub records : List PacketRecord
  pub capture_stands : captures.Stands capture octets records
  pub receiver_stands : receivers.Stands receiver (arrivals_in records)
  pub count : place ≡ length records
  pub took : WhereTold before after (TakesText records)

pub LaterTakings : Type 0
LaterTakings = (A B : List (Option (List ℕ))) (i : ℕ) (t : Taking) → i < length A → IsTaken (A ++ B) i t ↔ IsTaken A i t

pub later : ((A B : List (Option (List ℕ))) (i : ℕ) (t : Taking) → i < length A → IsTaken (A ++ B) i t ↔ IsTaken A i t) → LaterTakings
unfolding LaterTakings
later law = law

pub arrivals-push : (rs : List PacketRecord) (r : PacketRecord) → arrivals_in (rs ++ r ∷ []) ≡ arrivals_in rs ++ Some r.octets ∷ []
arrivals-push [] r = refl
arrivals-push (q ∷ rs) r = ap (λ (l : List (Option (List ℕ))). Some q.octets ∷ l) (arrivals-push rs r)

pub taken_push : LaterTakings → (A : List (Option (List ℕ))) (a : Option (List ℕ)) (ts : List Taking) (t : Taking)
    → AreTaken A ts → IsTaken (A ++ a ∷ []) (length A) t → AreTaken (A ++ a ∷ []) (ts ++ t ∷ [])
unfolding LaterTakings
taken_push law A a ts t are taken = record {
  count = omega (arith, are.count, length-append A (a ∷ []), length-append ts (t ∷ []));
  each = λ i x at. elim (at_end ts t x i at) [
    | inl old ↦ (law A (a ∷ []) i x (omega (arith, within ts i x old, are.count))).1 (are.each i x old)
    | inr end ↦ subst (IsTaken (A ++ a ∷ []) i) end.1 (subst (λ (k : ℕ). IsTaken (A ++ a ∷ []) k t) (sym (end.0 ∙ are.count)) taken)
  ];
}

lines-push : (i : ℕ) (rs : List PacketRecord) (r : PacketRecord) (ts : List Taking) (t : Taking) → length rs ≡ length ts
    → lines_from i (rs ++ r ∷ []) (ts ++ t ∷ []) ≡ lines_from i rs ts ++ record_line (i + length rs) r t
lines-push i [] r [] t same = append-nil (record_line i r t) ∙ ap (λ (k : ℕ). record_line k r t) (omega arith)
lines-push i [] r (x ∷ ts) t same = absurd (omega (arith, same))
lines-push i (p ∷ rs) r [] t same = absurd (omega (arith, same))
lines-push i (p ∷ rs) r (x ∷ ts) t same =
    let count : suc i + length rs ≡ i + suc (length rs) = omega arith in
    ap (λ (l : List ℕ). record_line i p x ++ l) (lines-push (suc i) rs r ts t (omega (arith, same)) ∙ ap (λ (k : ℕ). lines_from (suc i) rs ts ++ record_line k r t) count)
    ∙ sym (append_assoc (record_line i p x) (lines_from (suc i) rs ts) (record_line (i + suc (length rs)) r t))

pub dissected_push : LaterTakings → (rs : List PacketRecord) (r : PacketRecord) (text : List ℕ) (t : Taking) → IsDissected rs text → IsTaken (arrivals_in rs ++ Some r.octets ∷ []) (length (arrivals_in rs)) t
    → IsDissected (rs ++ r ∷ []) (text ++ record_line (length rs) r t)
dissected_push law rs r text t (ts, are, is) taken =
    let same : length rs ≡ length ts = omega (arith, are.count, length-map rs (λ (r : PacketRecord). Some r.octets)) in (
      ts ++ t ∷ [],
      subst (λ (A : List (Option (List ℕ))). AreTaken A (ts ++ t ∷ [])) (sym (arrivals-push rs r)) (taken_push law (arrivals_in rs) (Some r.octets) ts t are taken),
      ap (λ (l : List ℕ). l ++ record_line (length rs) r t) is
          ∙ (ap (λ (k : ℕ). lines_from 0 rs ts ++ record_line k r t) (omega arith) ∙ sym (lines-push 0 rs r ts t same)),
    )

goes : LaterTakings → (rs : List PacketRecord) (r : PacketRecord) (t : Taking) → IsTaken (arrivals_in rs ++ Some r.octets ∷ []) (length (arrivals_in rs)) t → (x y z : Taken)
    → TakesText rs x y → TakesWhole (record_line (length rs) r t) y z → TakesText (rs ++ r ∷ []) x z
goes law rs r t taken x y z (text, is, took) line = (
  text ++ record_line (length rs) r t,
  dissected_push law rs r text t is taken,
  line ∙ (ap (λ (l : List ℕ). l ++ record_line (length rs) r t) took ∙ append_assoc x.octets text (record_line (length rs) r t)),
)

tears : LaterTakings → (rs : List PacketRecord) (r : PacketRecord) (t : Taking) → IsTaken (arrivals_in rs ++ Some r.octets ∷ []) (length (arrivals_in rs)) t → (x y z : Taken)
    → TakesText rs x y → TakesFront (record_line (length rs) r t) y z → (text : List ℕ) × IsDissected (rs ++ r ∷ []) text × TakesFront text x z
tears law rs r t taken x y z (text, is, took) (rest, (front, whole, more)) = (
  text ++ record_line (length rs) r t,
  dissected_push law rs r text t is taken,
  (
    rest,
    (
      text ++ front,
      ap (λ (l : List ℕ). text ++ l) whole ∙ sym (append_assoc text front rest),
      more ∙ (ap (λ (l : List ℕ). l ++ front) took ∙ append_assoc x.octets text front),
    ),
  ),
)

-- nothing is written yet
none_taken : (a : Option Taken) → WhereTold a a (TakesText [])
none_taken None = tt
none_taken (Some x) = ([], ([], record { count = refl; each = λ i t at. absurd (cc at) }, refl), sym (append-nil x.octets))

pub at_first : (octets : List ℕ) (capture : Capture) (receiver : Receiver) (a : Option Taken) → captures.Stands capture octets [] → receivers.Stands receiver [] → SoFar octets capture receiver 0 a a
at_first octets capture receiver a stands holds = record { records = []; capture_stands = stands; receiver_stands = holds; count = refl; took = none_taken a }

-- one more record
pub goes_on : LaterTakings → (octets : List ℕ) (capture next : Capture) (receiver now : Receiver) (place : ℕ) (r : PacketRecord) (a b c : Option Taken)
    → (s : SoFar octets capture receiver place a b) → captures.Stands next octets (s.records ++ r ∷ []) → TakesRecord {T = Unit {0}} {E = Unit {0}} (Ok tt) receiver now place r b c → SoFar octets next now (place + 1) a c
goes_on law octets capture next receiver now place r a b c s stands (holds, (t, taken, line)) =
    let here : IsTaken (arrivals_in s.records ++ Some r.octets ∷ []) (length (arrivals_in s.records)) t = taken (arrivals_in s.records) s.receiver_stands in
    record {
      records = s.records ++ r ∷ [];
      capture_stands = stands;
      receiver_stands = subst (λ (A : List (Option (List ℕ))). receivers.Stands now A) (sym (arrivals-push s.records r)) (holds (arrivals_in s.records) s.receiver_stands);
      count = omega (arith, s.count, length-append s.records (r ∷ []));
      took = WhereTold-join a b c (TakesText s.records) (TakesWhole (record_line (length s.records) r t)) (TakesText (s.records ++ r ∷ [])) (goes law s.records r t here) s.took
          (subst (λ (k : ℕ). WhereTold b c (TakesWhole (record_line k r t))) s.count line);
    }

begins_with : (octets : List ℕ) (capture : Capture) (records : List PacketRecord) → captures.Stands capture octets records → BeginsWith records octets
begins_with octets capture records stands = record { order = capture.order; header = stands.header; rest = capture.rest.now; in_order = stands.in_order }

-- the sink failed at a line
pub breaks : LaterTakings → (octets : List ℕ) (capture next : Capture) (receiver now : Receiver) (place : ℕ) (r : PacketRecord) (a b c : Option Taken)
    → (s : SoFar octets capture receiver place a b) → captures.Stands next octets (s.records ++ r ∷ []) → TakesRecord {T = Unit {0}} {E = Unit {0}} (Err tt) receiver now place r b c
    → Leaves {T = Unit {0}} (Err fault.Failed) octets a c
breaks law octets capture next receiver now place r a b c s stands (holds, (t, taken, line)) =
    let here : IsTaken (arrivals_in s.records ++ Some r.octets ∷ []) (length (arrivals_in s.records)) t = taken (arrivals_in s.records) s.receiver_stands in
    WhereTold-join a b c (TakesText s.records) (TakesFront (record_line (length s.records) r t)) (λ x y. (records : List PacketRecord) × (text : List ℕ) × BeginsWith records octets × IsDissected records text × TakesFront text x y)
    (λ x y z p q. let torn = tears law s.records r t here x y z p q in (s.records ++ r ∷ [], torn.0, begins_with octets next (s.records ++ r ∷ []) stands, torn.1, torn.2)) s.took
    (subst (λ (k : ℕ). WhereTold b c (TakesFront (record_line k r t))) s.count line)

-- the file has a fault behind the records
pub is_cut : (octets : List ℕ) (capture : Capture) (receiver : Receiver) (place : ℕ) (a b : Option Taken) (e : PcapFault)
    → (s : SoFar octets capture receiver place a b) → captures.IsCutBehind s.records e octets → Leaves {T = Unit {0}} (Err (fault.Pcap e)) octets a b
is_cut octets capture receiver place a b e s cut =
    WhereTold-map a b (TakesText s.records) (λ x y. (text : List ℕ) × FaultText e octets text × TakesWhole text x y) (λ x y p. (p.0, inr (s.records, cut, p.1), p.2)) s.took

-- and here it ends
pub is_whole : (octets : List ℕ) (capture : Capture) (receiver : Receiver) (place : ℕ) (a b : Option Taken)
    → (s : SoFar octets capture receiver place a b) → captures.IsCapture s.records octets → Leaves {T = Unit {0}} (Ok tt) octets a b
is_whole octets capture receiver place a b s whole =
    WhereTold-map a b (TakesText s.records) (λ x y. (text : List ℕ) × DissectText octets text × TakesWhole text x y) (λ x y p. (p.0, (s.records, whole, p.1), p.2)) s.took

-- a fault of the header has no record before it
pub no_lines : (octets : List ℕ) (a : Option Taken) (e : PcapFault) → captures.IsHeaderFault e octets → Leaves {T = Unit {0}} (Err (fault.Pcap e)) octets a a
no_lines octets None e here = tt
no_lines octets (Some x) e here = ([], inl (here, refl), sym (append-nil x.octets))

-- ---- an answer by its parts

pub lent_one : (o : Option declared.Record) (r : declared.Record) (capture : Capture) (octets : List ℕ) (records : List PacketRecord) → o ≡ Some r
    → captures.Answers (Ok o) capture octets records → captures.Stands capture octets (records ++ packet_record r ∷ [])
lent_one (Some q) r capture octets records is answers = let same : q ≡ r = cc is in subst (λ (x : declared.Record). captures.Stands capture octets (records ++ packet_record x ∷ [])) same answers
lent_one None r capture octets records is answers = absurd (cc is)

pub lent_none : (o : Option declared.Record) (capture : Capture) (octets : List ℕ) (records : List PacketRecord) → o ≡ None
    → captures.Answers (Ok o) capture octets records → captures.IsCapture records octets
lent_none (Some q) capture octets records is answers = absurd (cc is)
lent_none None capture octets records is answers = answers.1

pub fault_due : {T : Type 0} (r : Result T DissectFault) (e first : PcapFault) → IsErr r → IsErrAnd r (λ d. d ≡ fault.Pcap e) → e ≡ first → IsDue r first
fault_due (Ok x) e first err is same = absurd (false≢true err)
fault_due (Err d) e first err is same = subst (λ (x : DissectFault). IsDue {T = Unit {0}} (Err x) first) (sym is) same

pub failed_leaves : {T : Type 0} (r : Result T DissectFault) (octets : List ℕ) (a b : Option Taken) → IsErr r → IsErrAnd r (λ d. d ≡ fault.Failed) → Leaves {T = Unit {0}} (Err fault.Failed) octets a b
    → Leaves r octets a b
failed_leaves (Ok x) octets a b err is leaves = absurd (false≢true err)
failed_leaves (Err d) octets a b err is leaves = subst (λ (x : DissectFault). Leaves {T = Unit {0}} (Err x) octets a b) (sym is) leaves
