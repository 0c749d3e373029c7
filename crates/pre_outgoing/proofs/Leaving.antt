-- The mPacket that ends at a tick, by the answers of its sending end.
use Rattle.std.proofs.Common.{ℕ, ◌≡◌, ◌+◌, ◌-◌, ◌<◌, ◌==◌, Bool, true, List, [], ◌∷◌, ◌++◌, length, take, drop}
use Rattle.std.proofs.Common.{refl, sym, ◌∙◌, ap, ap₂, arith, subst, Option, Some, None}
use Rattle.std.specs.Prelude.{slice_get, count_by, IsTrue, ◌↔◌}
use Rattle.std.proofs.lemmas.Bool.Decides.{nat_tests}
use Rattle.std.proofs.lemmas.List.{length-append, append-nil}
use Rattle.std.proofs.lemmas.List.Elements.{filter_map-append}
use Rattle.std.proofs.lemmas.List.Sums.{fold-append}
use Rattle.pre_mpacket.specs.Arrivals.{is_continue}
use Rattle.pre_mpacket.specs.Spelling.{PlainPacket, head_of}
use Rattle.pre_mpacket.specs.declared.packets.Kind.{Kind}
use Rattle.pre_send.specs.declared.choices.Sent.{Sent}
use Rattle.pre_send.specs.Calls.{Chosen, express, whole, first, rest, verify, respond, lldp, ended, Told, tells}
use Rattle.pre_send.specs.Sendings.{Sending, Part, interrupted, IsSending}
use Rattle.pre_send.specs.Answers.{PlannedEnd}
use Rattle.pre_send.specs.Endings.{Ends, plans_end, done_by}
use Rattle.pre_send.specs.Frames.{frame_by}
use Rattle.pre_send.specs.Owned.{frames_of}
use Rattle.pre_send.specs.Packets.{packet_after}
use Rattle.pre_send.specs.Senders.{Stands, kind_under_way}
use Rattle.pre_send.proofs.Ending.{with_end, follows_still}
use Rattle.pre_send.proofs.OneSending.{one_list}
use Rattle.pre_history.specs.declared.events.What.{What}
use Rattle.pre_history.specs.Scenario.{Scenario, arc}
use Rattle.pre_history.specs.Moments.{Phase}
use Rattle.pre_history.specs.History.{PlainEvent, History, Begin, Ended}
use Rattle.pre_history.specs.Selected.{begin_on, ended_on}
use Rattle.pre_history.specs.Queries.{Begins, Ends as EndsOf}
use Rattle.pre_history.specs.Octets.{WholeOf}
use Rattle.pre_history.specs.Rules.{OneOrNone, EndDue, HappensIn}
use Rattle.pre_history.specs.Legal.{LegalUpTo}
use Rattle.pre_history.specs.Placed.{number}
use Rattle.pre_history.proofs.Deciding.{one_or_none, each}
use Rattle.pre_history.proofs.Lists.{at_last, within}
use Rattle.pre_history.proofs.Sizes.{end_one}
use Rattle.pre_outgoing.specs.declared.outgoing.Finished.{Finished}
use Rattle.pre_outgoing.specs.declared.outgoing.Outgoing.{Outgoing}
use Rattle.pre_outgoing.specs.Matching.{Matches, IsStored, Fits, EndsFit, Agree, what_of}
use Rattle.pre_outgoing.proofs.Readings.{OtherIs}
use Rattle.pre_outgoing.specs.Sends.{AreStored, HandsBack, HasEnded, IsNewest, Leaves, Sends, ends_frame, lent_by, next_end}
use Rattle.pre_outgoing.proofs.Agreeing.{same_packets, newest, lldp_length}
use Rattle.pre_outgoing.proofs.Carried.{right_data, same_kind, is_last}
use Rattle.pre_outgoing.proofs.Fields.{planned_at, lends_advert, stored_going, tick_of}
use Rattle.pre_outgoing.proofs.Happening.{ends_due}
use Rattle.pre_outgoing.proofs.Stepping.{ending}

-- the newest mPacket, where it is under way
newest_there : (w : Scenario) (past : History) (a : ℕ) (p : Sending) (older : List Sending) → Agree w (p ∷ older) (Begins past a) (EndsOf past a) → p.told.end ≡ None
    → (b : Begin) × IsNewest past a b × Fits w p older b
newest_there w past a p older (front, b, before, bs_is, ends, same_length, fits, others) none =
    let ends_are : EndsOf past a ≡ before = subst (λ o. EndsFit w p older o before (EndsOf past a)) none ends in
    (b, ap (slice_get (Begins past a)) (ap length ends_are ∙ same_length) ∙ (ap (λ xs. slice_get xs (length front)) bs_is ∙ at_last front b), fits)

-- what happens when an arc's ends come is decided
ends_decided : (w : Scenario) (past : History) (t a : ℕ) (es fs : History) → HappensIn w past t (Phase.ends a) es → HappensIn w past t (Phase.ends a) fs → es ≡ fs
unfolding HappensIn
ends_decided w past t a es fs h k = each (λ b gs. OneOrNone (EndDue w past t b) gs) (λ b. one_or_none (EndDue w past t b) (end_one w past t b)) (Begins past a) es fs h k

module _ (w : Scenario) (past : History) (t a : ℕ) (o : Outgoing) (a_lt : a < length w.net.arcs) (legal : LegalUpTo w (number (length w.net.arcs) t (1 + a)) past)
    (sends : Sends w past a t true o) (store : List (Option (List ℕ))) (stored : AreStored w store (frames_of o.sender)) (due : plans_end o.sender ≡ Some t)
    (p : Sending) (older : List Sending) (sending : IsSending (arc w a).cost (arc w a).add_frag sends.calls (p ∷ older)) where
  abbrev cost : ℕ
  cost = (arc w a).cost

  abbrev add_frag : ℕ
  add_frag = (arc w a).add_frag

  plan : PlannedEnd cost (p ∷ older) (Some (tick_of t))
  plan = planned_at o.sender cost add_frag sends.calls (p ∷ older) t sends.stands sending due

  agree : Agree w (p ∷ older) (Begins past a) (EndsOf past a)
  agree = subst (λ ps. Agree w ps (Begins past a) (EndsOf past a)) (same_packets w past a t true sends.calls (p ∷ older) sends.matches sending) sends.matches.agree

  its_store : IsStored w (frame_by p.told.chosen (interrupted older)) store
  its_store = stored_going o.sender cost add_frag sends.calls p older sends.stands sending plan.0 w store stored

  its_begin : (b : Begin) × IsNewest past a b × Fits w p older b
  its_begin = newest_there w past a p older agree plan.0

  happens : (other : List ℕ) → OtherIs p.told.chosen other (WholeOf w past its_begin.0)
      → HappensIn w past t (Phase.ends a) (PlainEvent.ended (record { tick = t; arc = a; ord = length (EndsOf past a); size = p.size; check = (packet_after older p store other).check }) ∷ [])
  happens other others = ends_due w past t a true sends.calls a_lt legal sends.matches p older its_begin.0 store other sending (plan.0, plan.1) its_begin.1 its_store others

  lent_is : (zeros : List ℕ) → OtherIs p.told.chosen (lent_by (kind_under_way o.sender) zeros o.advert) (WholeOf w past its_begin.0)
  lent_is zeros = go p.told.chosen refl
    where
      go : (ch : Chosen) → p.told.chosen ≡ ch → OtherIs ch (lent_by (kind_under_way o.sender) zeros o.advert) (WholeOf w past its_begin.0)
      go lldp is =
          lends_advert o.sender cost add_frag sends.calls p older sends.stands sending plan.0 zeros o.advert is
          ∙ (sends.newest its_begin.0 its_begin.1).advert (its_begin.2.carries ∙ ap (λ c. what_of c (interrupted older)) is)
      go (express f) is = tt
      go (whole f) is = tt
      go (first f) is = tt
      go rest is = tt
      go verify is = tt
      go respond is = tt

  pub leaves : (zeros : List ℕ) (m : PlainPacket) → m ≡ packet_after older p store (lent_by (kind_under_way o.sender) zeros o.advert) → Leaves w past t a m
  leaves zeros m given =
      let other = lent_by (kind_under_way o.sender) zeros o.advert in
      let fits = its_begin.2 in
      let kind_is : m.kind ≡ its_begin.0.kind
      = ap (λ (x : PlainPacket). x.kind) given ∙ (same_kind w past p older its_begin.0 fits cost add_frag store other its_store (lent_is zeros) ∙ fits.kind) in
      let mdata_is : m.mdata ≡ take (p.size - 4) (drop its_begin.0.from (WholeOf w past its_begin.0))
      = ap (λ (x : PlainPacket). x.mdata) given ∙ right_data w past p older its_begin.0 fits cost add_frag store other its_store (lent_is zeros) sending.sent.0 in
      let check_is : m.check ≡ (packet_after older p store other).check = ap (λ (x : PlainPacket). x.check) given in
      record {
        begin = its_begin.0;
        newest = its_begin.1;
        size = p.size;
        happens =
            subst (λ xs. HappensIn w past t (Phase.ends a) (PlainEvent.ended (next_end w past t a p.size xs) ∷ [])) (sym check_is) (happens other (lent_is zeros));
        kind = kind_is;
        mdata = mdata_is;
        sent = ap₂ (λ (k : Kind) (xs : List ℕ). head_of k ++ xs ++ m.check) kind_is mdata_is;
      }

  -- ---- what it was

  -- the LLDP frame as the history says it
  told_whole : OtherIs p.told.chosen (WholeOf w past its_begin.0) (WholeOf w past its_begin.0)
  told_whole = go p.told.chosen
    where
      go : (ch : Chosen) → OtherIs ch (WholeOf w past its_begin.0) (WholeOf w past its_begin.0)
      go lldp = refl
      go (express f) = tt
      go (whole f) = tt
      go (first f) = tt
      go rest = tt
      go verify = tt
      go respond = tt

  abbrev event : Ended
  event = record { tick = t; arc = a; ord = length (EndsOf past a); size = p.size; check = (packet_after older p store (WholeOf w past its_begin.0)).check }

  one_event : (e : Ended) → HappensIn w past t (Phase.ends a) (PlainEvent.ended e ∷ []) → e ≡ event
  one_event e is =
      let same : PlainEvent.ended e ∷ [] ≡ PlainEvent.ended event ∷ []
      = ends_decided w past t a (PlainEvent.ended e ∷ []) (PlainEvent.ended event ∷ []) is (happens (WholeOf w past its_begin.0) told_whole) in
      cc same

  -- what the sender answers to the end
  answered : (sent : Sent) → Ends cost add_frag (sends.calls ++ ended t store ∷ []) sent
      → (sent.kind ≡ p.kind) × (sent.size ≡ p.size) × (sent.done ≡ done_by p.told.chosen (interrupted older) p)
  unfolding with_end
  answered sent (q, older', sending', kind_is, from_is, size_is, done_is) =
      let r = with_end p (record { tick = t; store = store }) in
      let told = fold-append tells [] sends.calls (ended t store ∷ []) ∙ ap (λ (l : List Told). tells l (ended t store)) sending.told in
      let one : q ∷ older' ≡ r ∷ older = one_list cost add_frag (q ∷ older') (r ∷ older) (sym sending'.told ∙ told) sending'.sent
      (follows_still cost add_frag p.told.chosen older p (record { tick = t; store = store }) sending.sent.0, sending.sent.1) in
      let head : q ≡ r = cc one in
      let tail : older' ≡ older = cc one in (
        kind_is ∙ ap (λ (x : Sending). x.kind) head,
        size_is ∙ ap (λ (x : Sending). x.size) head,
        done_is ∙ (ap₂ (λ (x : Sending) (ps : List Sending). done_by x.told.chosen (interrupted ps) x) head tail ∙ by_choice p.told.chosen (interrupted older)),
      )
    where
      by_choice : (ch : Chosen) (before : Option Part) → done_by ch before (with_end p (record { tick = t; store = store })) ≡ done_by ch before p
      by_choice (express f) before = refl
      by_choice (whole f) before = refl
      by_choice (first f) before = refl
      by_choice rest None = refl
      by_choice rest (Some x) = refl
      by_choice verify before = refl
      by_choice respond before = refl
      by_choice lldp before = refl

  after : Matches w (past ++ PlainEvent.ended event ∷ []) a t true (sends.calls ++ ended t store ∷ [])
  after = ending w past a t t true true sends.calls p older event store sends.matches sending plan.0 refl refl its_store

  sends_after : (new : Outgoing) → Stands new.sender cost add_frag (sends.calls ++ ended t store ∷ []) → new.begun ≡ o.begun → new.continued ≡ o.continued
      → Sends w (past ++ PlainEvent.ended event ∷ []) a t true new
  sends_after new stands begun continued =
      let es = PlainEvent.ended event ∷ [] in
      let bs : Begins (past ++ es) a ≡ Begins past a = filter_map-append (begin_on a) past es ∙ append-nil (Begins past a) in
      let one : EndsOf es a ≡ event ∷ [] = rw (is_eq a) refl in
      let ends : EndsOf (past ++ es) a ≡ EndsOf past a ++ event ∷ [] = filter_map-append (ended_on a) past es ∙ ap (λ xs. EndsOf past a ++ xs) one in
      let last_one = newest w past (number (length w.net.arcs) t (1 + a)) a t true sends.calls p older its_begin.0 a_lt legal sends.matches sending plan.0 its_begin.1 in
      let long : length (Begins past a) ≡ length (EndsOf past a) + 1 = ap length last_one.1 ∙ (length-append last_one.0 (its_begin.0 ∷ []) ∙ ap (λ n. n + 1) (sym last_one.2)) in
      record {
        calls = sends.calls ++ ended t store ∷ [];
        stands = stands;
        matches = after;
        begun = begun ∙ (sends.begun ∙ ap length (sym bs));
        continued = continued ∙ (sends.continued ∙ ap (count_by (λ (b : Begin). is_continue b.kind)) (sym bs));
        newest = λ b here.
            let inside = within (Begins (past ++ es) a) (length (EndsOf (past ++ es) a)) b here in
            absurd (omega (arith, inside, ap length bs, long, ap length ends, length-append (EndsOf past a) (event ∷ [])));
      }
    where
      is_eq : (m : ℕ) → (m == m) ≡ true
      is_eq m = grind (arith, nat_tests)

  -- the ordinal of the last one begun
  its_ord : (n : ℕ) → n ≡ o.begun - 1 → n ≡ length (EndsOf past a)
  its_ord n is =
      let last_one = newest w past (number (length w.net.arcs) t (1 + a)) a t true sends.calls p older its_begin.0 a_lt legal sends.matches sending plan.0 its_begin.1 in
      let long : length (Begins past a) ≡ length (EndsOf past a) + 1 = ap length last_one.1 ∙ (length-append last_one.0 (its_begin.0 ∷ []) ∙ ap (λ n. n + 1) (sym last_one.2)) in
      omega (arith, is, sends.begun, long)

  has_ended : (new : Outgoing) (e : Ended) (f : Finished) (sent : Sent) → HappensIn w past t (Phase.ends a) (PlainEvent.ended e ∷ [])
      → Stands new.sender cost add_frag (sends.calls ++ ended t store ∷ []) → new.begun ≡ o.begun → new.continued ≡ o.continued
      → Ends cost add_frag (sends.calls ++ ended t store ∷ []) sent
      → f.ord ≡ o.begun - 1 → f.kind ≡ sent.kind → f.what ≡ o.carried → f.size ≡ sent.size → f.is_last ≡ ends_frame o.carried sent.done → f.done ≡ sent.done
      → HasEnded w past t a e f new
  has_ended new e f sent is stands begun continued ends ord kind_is carries size last done =
      let b = its_begin.0 in
      let what_is : o.carried ≡ b.what = (sends.newest b its_begin.1).carried in
      let k = answered sent ends in
      let length' = lldp_length w past (number (length w.net.arcs) t (1 + a)) a t true sends.calls p older b a_lt legal sends.matches sending plan.0 its_begin.1 in
      let says = is_last w past p older b its_begin.2 cost add_frag length' sending.sent.0 in
      let done_is : f.done ≡ done_by p.told.chosen (interrupted older) p = done ∙ k.2 in
      let last_is : f.is_last ≡ ends_frame b.what (done_by p.told.chosen (interrupted older) p) = last ∙ ap₂ ends_frame what_is k.2 in
      let what_same : f.what ≡ b.what = carries ∙ what_is in
      let made : HasEnded w past t a event f new = record {
        begin = b;
        newest = its_begin.1;
        ord = its_ord f.ord ord;
        kind = kind_is ∙ (k.0 ∙ its_begin.2.kind);
        carries = what_same;
        size = size ∙ k.1;
        last = subst (λ (x : Bool). IsTrue x ↔ (b.from + p.size ≡ length (WholeOf w past b))) (sym last_is) says.0;
        done =
            subst (λ (x : What). HandsBack x f.is_last f.done) (sym what_same)
            (subst (λ (x : Bool). HandsBack b.what x f.done) (sym last_is) (subst (λ d. HandsBack b.what (ends_frame b.what (done_by p.told.chosen (interrupted older) p)) d) (sym done_is) says.1));
        sends = sends_after new stands begun continued;
      } in
      subst (λ (x : Ended). HasEnded w past t a x f new) (sym (one_event e is)) made

pub finished : (w : Scenario) (past : History) (t a : ℕ) (o new : Outgoing) (e : Ended) (f : Finished) (sent : Sent) (store : List (Option (List ℕ))) → a < length w.net.arcs
    → LegalUpTo w (number (length w.net.arcs) t (1 + a)) past → (sends : Sends w past a t true o) → AreStored w store (frames_of o.sender) → plans_end o.sender ≡ Some t
    → HappensIn w past t (Phase.ends a) (PlainEvent.ended e ∷ []) → Stands new.sender (arc w a).cost (arc w a).add_frag (sends.calls ++ ended t store ∷ [])
    → new.begun ≡ o.begun → new.continued ≡ o.continued → Ends (arc w a).cost (arc w a).add_frag (sends.calls ++ ended t store ∷ []) sent
    → f.ord ≡ o.begun - 1 → f.kind ≡ sent.kind → f.what ≡ o.carried → f.size ≡ sent.size → f.is_last ≡ ends_frame o.carried sent.done → f.done ≡ sent.done → HasEnded w past t a e f new
finished w past t a o new e f sent store a_lt legal sends stored due is stands begun continued ends ord kind_is carries size last done = go sends.matches.packets sends.matches.sending
  where
    go : (packets : List Sending) → IsSending (arc w a).cost (arc w a).add_frag sends.calls packets → HasEnded w past t a e f new
    go [] sending = absurd (planned_at o.sender (arc w a).cost (arc w a).add_frag sends.calls [] t sends.stands sending due)
    go (p ∷ older) sending =
        has_ended w past t a o a_lt legal sends store stored due p older sending new e f sent is stands begun continued ends ord kind_is carries size last done
