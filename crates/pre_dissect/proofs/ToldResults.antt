-- What a receiver of a capture answers is what the history tells.
use Rattle.std.proofs.Common.{ℕ, zero, suc, ◌≡◌, ◌+◌, ◌<◌, ◌≤◌, Bool, true, false, List, [], ◌∷◌, length, refl, sym}
use Rattle.std.proofs.Common.{◌∙◌, ap, inl, inr, arith, subst, Option, Some, None, filter_map, map}
use Rattle.std.specs.Prelude.{◌⊎◌, if◌then◌else◌, slice_get, option_map, codes}
use Rattle.pre_lldp.specs.LldpLayout.{is_lldp_frame}
use Rattle.pre_dissect.specs.PacketWords.{result_word}
use Rattle.std.specs.List.{cons_option}
use Rattle.std.proofs.lemmas.List.{length-map}
use Rattle.pre_mpacket.specs.Arrivals.{Given, Gives}
use Rattle.pre_pcap.specs.Written.{Stamped, stamped_record}
use Rattle.pre_pcap.specs.Captures.{IsCapture}
use Rattle.pre_pcap.specs.Records.{PacketRecord}
use Rattle.pre_receive.specs.Takings.{Taking, gave, gave_nothing, IsTaken}
use Rattle.pre_history.specs.declared.events.Outcome.{Outcome}
use Rattle.pre_history.specs.declared.events.Outcome.TheVariants as outcome
use Rattle.pre_history.specs.Scenario.{Scenario, arc}
use Rattle.pre_history.specs.History.{Begin, Ended, Arrive, History}
use Rattle.pre_history.specs.Queries.{Begins, Ends, Arrivals, Packets, packet, end_of}
use Rattle.pre_history.specs.Octets.{Air, Arrived, Damaged, SentOctets, is_lost}
use Rattle.pre_history.specs.ArrivalResults.{Result, result_of}
use Rattle.pre_history.specs.Legal.{LegalUpTo}
use Rattle.pre_history.specs.Ordered.{IsOrdered}
use Rattle.pre_history.proofs.Lists.{there, within}
use Rattle.pre_history.proofs.Undamaged.{air_at}
use Rattle.pre_history.proofs.InOrder.{steady}
use Rattle.pre_laws.proofs.Runs.{end_is}
use Rattle.pre_dissect.specs.Captured.{recorded, recorded_of, Recorded, CaptureOf}
use Rattle.pre_dissect.specs.Dissections.{arrivals_in, AreTaken, DissectText, lines_from}
use Rattle.pre_dissect.specs.Results.{kept, came_before, told_result, StoreCapture, TellResults, shown, TextTells}
use Rattle.pre_dissect.proofs.Keeping.{gives_kept, kept_gives, kept_place, gave_came}

abbrev octets_in : Option Stamped → Option (List ℕ)
octets_in o = option_map (λ s. s.octets) o

-- a selection of some elements, beside a list that has what each selects
kept_beside : {E : Type 0} (f : E → Option Stamped) (xs : List E) (ys : List (Option (List ℕ)))
    → ((i : ℕ) (e : E) → slice_get xs i ≡ Some e → slice_get ys i ≡ Some (octets_in (f e)))
    → ((i : ℕ) (o : Option (List ℕ)) → length xs ≤ i → slice_get ys i ≡ Some o → o ≡ None)
    → map (λ (s : Stamped). Some s.octets) (filter_map f xs) ≡ kept ys
kept_beside f [] [] same none = refl
kept_beside f [] (None ∷ ys) same none = kept_beside f [] ys (λ i e at. absurd (cc at)) (λ i o le at. none (suc i) o (omega arith) at)
kept_beside f [] (Some y ∷ ys) same none = absurd (cc (none zero (Some y) (omega arith) refl))
kept_beside f (x ∷ xs) [] same none = absurd (cc (same zero x refl))
kept_beside f (x ∷ xs) (y ∷ ys) same none = go (f x) refl (kept_beside f xs ys (λ i e at. same (suc i) e at) (λ i o le at. none (suc i) o (omega (arith, le)) at))
  where
    here : y ≡ octets_in (f x)
    here = cc (same zero x refl)

    go : (o : Option Stamped) → f x ≡ o → map (λ (s : Stamped). Some s.octets) (filter_map f xs) ≡ kept ys → map (λ (s : Stamped). Some s.octets) (cons_option (f x) (filter_map f xs)) ≡ kept (y ∷ ys)
    go None is more = ap (λ o. map (λ (s : Stamped). Some s.octets) (cons_option o (filter_map f xs))) is ∙ (more ∙ sym (ap (λ (z : Option (List ℕ)). kept (z ∷ ys)) (here ∙ ap octets_in is)))
    go (Some s) is more = ap (λ o. map (λ (s : Stamped). Some s.octets) (cons_option o (filter_map f xs))) is ∙ (ap (λ l. Some s.octets ∷ l) more ∙ sym (ap (λ (z : Option (List ℕ)). kept (z ∷ ys)) (here ∙ ap octets_in is)))

stamped_octets : (o : Option (List ℕ)) (t : ℕ) → octets_in (option_map (λ octets. record { tick = t; octets = octets }) o) ≡ o
stamped_octets None t = refl
stamped_octets (Some x) t = refl

some_each : (records : List PacketRecord) (all : List Stamped) → map (λ r. r.octets) records ≡ map (λ s. s.octets) all → arrivals_in records ≡ map (λ (s : Stamped). Some s.octets) all
some_each [] [] same = refl
some_each [] (s ∷ all) same = absurd (cc same)
some_each (r ∷ records) [] same = absurd (cc same)
some_each (r ∷ records) (s ∷ all) same =
    let first : r.octets ≡ s.octets = cc same in
    let rest : map (λ (r : PacketRecord). r.octets) records ≡ map (λ (s : Stamped). s.octets) all = cc same in
    let more = some_each records all rest in
    λ i. Some (first i) ∷ more i

word_shown : (t : Taking) → result_word t ≡ shown (told_result t)
word_shown (gave (Given.frame octets)) = go (is_lldp_frame octets)
  where
    go : (b : Bool) → codes "frame" ≡ shown (if b then outcome.Lldp else outcome.Frame)
    go true = refl
    go false = refl
word_shown (gave Given.part) = refl
word_shown (gave Given.verify) = refl
word_shown (gave Given.respond) = refl
word_shown (gave_nothing c) = refl

module _ (w : Scenario) (n : ℕ) (h : History) (a : ℕ) (a_lt : a < length w.net.arcs) (legal : LegalUpTo w n h) where
  ordered : IsOrdered w h a
  ordered = (steady w n h a a_lt legal).ordered

  recorded_beside : (i : ℕ) (e : Ended) → slice_get (Ends h a) i ≡ Some e → slice_get (Air w h a) i ≡ Some (octets_in (recorded w h a e))
  recorded_beside i e at =
      let few = ordered.ends_begun in
      let lt = within (Ends h a) i e at in
      let b = there (Begins h a) i (omega (arith, few, lt)) in
      let over : end_of h a b.0.ord ≡ Some e = end_is w n h legal a a_lt i b.0 b.1 ∙ at in
      let place : e.ord ≡ i = ordered.end_places i e at in
      let one : recorded w h a e ≡ recorded_of w h a (Some b.0) e = ap (λ (o : Option Begin). recorded_of w h a o e) (ap (slice_get (Begins h a)) place ∙ b.1) in
      air_at w h a i b.0 b.1
      ∙ (ap (λ (o : Option Ended). Some (Arrived w h (record { begin = b.0; ended = o }))) over
      ∙ ap Some (sym (ap octets_in one ∙ stamped_octets (Arrived w h (record { begin = b.0; ended = Some e })) (e.tick + (arc w a).delay))))

  unended : (b : Begin) → end_of h a b.ord ≡ None → Arrived w h (packet h a b) ≡ None
  unended b none = ap (λ (o : Option Ended). Arrived w h (record { begin = b; ended = o })) none ∙ go (is_lost w b)
    where
      go : (x : Bool) → (if x then None else option_map (Damaged w b) (option_map (SentOctets w h b) None)) ≡ None
      go true = refl
      go false = refl

  air_long : length (Air w h a) ≡ length (Begins h a)
  unfolding Air Packets
  air_long = length-map (Packets h a) (Arrived w h) ∙ length-map (Begins h a) (packet h a)

  past_end : (xs : List Ended) (i : ℕ) → length xs ≤ i → slice_get xs i ≡ None
  past_end [] i le = refl
  past_end (x ∷ xs) zero le = absurd (omega (arith, le))
  past_end (x ∷ xs) (suc i) le = past_end xs i (omega (arith, le))

  none_beside : (i : ℕ) (o : Option (List ℕ)) → length (Ends h a) ≤ i → slice_get (Air w h a) i ≡ Some o → o ≡ None
  none_beside i o le at =
      let lt = within (Air w h a) i o at in
      let b = there (Begins h a) i (omega (arith, lt, air_long)) in
      let none : end_of h a b.0.ord ≡ None = end_is w n h legal a a_lt i b.0 b.1 ∙ past_end (Ends h a) i le in
      let here : Some o ≡ Some (Arrived w h (packet h a b.0)) = sym at ∙ air_at w h a i b.0 b.1 in
      let same : o ≡ Arrived w h (packet h a b.0) = cc here in
      same ∙ unended b.0 none

  captured : (records : List PacketRecord) → StoreCapture w h a records → arrivals_in records ≡ kept (Air w h a)
  captured records store = some_each records (Recorded w h a) store ∙ kept_beside (recorded w h a) (Ends h a) (Air w h a) recorded_beside none_beside

  module _ (one_given : (A : List (Option (List ℕ))) (i : ℕ) (g k : Given) → Gives A i g → Gives A i k → g ≡ k)
      (results : (i : ℕ) (x : Arrive) → slice_get (Arrivals h a) i ≡ Some x → Result (Air w h a) i x.result)
      (records : List PacketRecord) (takings : List Taking) (store : StoreCapture w h a records) (taken : AreTaken (arrivals_in records) takings) where
    answer : (i : ℕ) (o : List ℕ) → slice_get (Air w h a) i ≡ Some (Some o)
        → (t : Taking) × (slice_get takings (came_before (Air w h a) i) ≡ Some t) × IsTaken (kept (Air w h a)) (came_before (Air w h a) i) t
    answer i o at =
        let k = came_before (Air w h a) i in
        let same = captured records store in
        let lt = within (kept (Air w h a)) k (Some o) (kept_place (Air w h a) i o at) in
        let count = taken.count in
        let long = ap length same in
        let t = there takings k (omega (arith, lt, count, long)) in
        (t.0, t.1, subst (λ A. IsTaken A k t.0) same (taken.each k t.0 t.1))

    tells : (i : ℕ) (x : Outcome) (o : List ℕ) (t : Taking) → slice_get (Air w h a) i ≡ Some (Some o) → ((g : Given) × Gives (Air w h a) i g × (x ≡ result_of g)) ⊎ (((g : Given) → ¬ Gives (Air w h a) i g) × (x ≡ outcome.Nothing))
        → IsTaken (kept (Air w h a)) (came_before (Air w h a) i) t → told_result t ≡ x
    tells i x o (gave g) at (inl (k, gives, is)) holds = let same : g ≡ k = one_given (Air w h a) i g k (kept_gives (Air w h a) i o g at holds) gives in ap result_of same ∙ sym is
    tells i x o (gave g) at (inr (none, is)) holds = absurd (none g (kept_gives (Air w h a) i o g at holds))
    tells i x o (gave_nothing c) at (inl (k, gives, is)) holds = absurd (holds.0 k (gives_kept (Air w h a) i o k at gives))
    tells i x o (gave_nothing c) at (inr (none, is)) holds = sym is

    came : (i : ℕ) (x : Arrive) → slice_get (Arrivals h a) i ≡ Some x → ¬ (slice_get (Air w h a) i ≡ Some None) → (o : List ℕ) × (slice_get (Air w h a) i ≡ Some (Some o))
    came i x at kept_it =
        let lt = within (Arrivals h a) i x at in
        let few = ordered.arrivals_ended in
        let begun = ordered.ends_begun in
        let y = there (Air w h a) i (omega (arith, lt, few, begun, air_long)) in
        go y.0 y.1
      where
        go : (o : Option (List ℕ)) → slice_get (Air w h a) i ≡ Some o → (o : List ℕ) × (slice_get (Air w h a) i ≡ Some (Some o))
        go None at = absurd (kept_it at)
        go (Some o) at = (o, at)

    pub tell_results : TellResults w h a takings
    tell_results i x at kept_it = elim (results i x at) [
      | inl (lost, is) ↦ absurd (kept_it is)
      | inr (inl (g, gives, is)) ↦
          let o = gave_came (Air w h a) i g gives in
          let t = answer i o.0 o.1 in
          let same = tells i x.result o.0 t.0 o.1 (inl (g, gives, is)) t.2 in
          (t.0, t.1, same, word_shown t.0 ∙ ap shown same)
      | inr (inr (arrived, none, is)) ↦
          let o = came i x at arrived in
          let t = answer i o.0 o.1 in
          let same = tells i x.result o.0 t.0 o.1 (inr (none, is)) t.2 in
          (t.0, t.1, same, word_shown t.0 ∙ ap shown same)
    ]

octets_stamped : (all : List Stamped) → map (λ (r : PacketRecord). r.octets) (map stamped_record all) ≡ map (λ (s : Stamped). s.octets) all
octets_stamped [] = refl
octets_stamped (s ∷ all) = ap (λ l. s.octets ∷ l) (octets_stamped all)

-- the text of the capture of an arc
pub text_tells : (w : Scenario) (n : ℕ) (h : History) (a : ℕ) → a < length w.net.arcs → LegalUpTo w n h
    → ((A : List (Option (List ℕ))) (i : ℕ) (g k : Given) → Gives A i g → Gives A i k → g ≡ k)
    → ((i : ℕ) (x : Arrive) → slice_get (Arrivals h a) i ≡ Some x → Result (Air w h a) i x.result)
    → ((octets : List ℕ) (one other : List PacketRecord) → IsCapture one octets → IsCapture other octets → one ≡ other)
    → IsCapture (map stamped_record (Recorded w h a)) (CaptureOf w h a) → (text : List ℕ) → DissectText (CaptureOf w h a) text → TextTells w h a text
text_tells w n h a a_lt legal one_given results one_capture read text (records, capture, (takings, taken, is)) =
    let same : records ≡ map stamped_record (Recorded w h a) = one_capture (CaptureOf w h a) records (map stamped_record (Recorded w h a)) capture read in
    let store : StoreCapture w h a records = ap (map (λ (r : PacketRecord). r.octets)) same ∙ octets_stamped (Recorded w h a) in
    (takings, tell_results w n h a a_lt legal one_given results records takings store taken, is ∙ ap (λ rs. lines_from 0 rs takings) same)
