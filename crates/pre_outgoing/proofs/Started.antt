-- The mPacket that begins at a tick, by the answers of its sending end.
use Rattle.std.proofs.Common.{ℕ, zero, suc, ◌≡◌, ◌==◌, ◌+◌, ◌*◌, ◌^◌, ◌<◌, ◌≤◌, Bool, true, false, List, []}
use Rattle.std.proofs.Common.{◌∷◌, ◌++◌, length, refl, sym, ◌∙◌, ap, ap₂, arith, subst, Option, Some, None, filter_map}
use Rattle.std.specs.Prelude.{slice_get, count_by, cond, unwrap_or}
use Rattle.std.proofs.lemmas.Bool.Decides.{nat_tests}
use Rattle.std.proofs.lemmas.List.{length-append, append-nil}
use Rattle.std.proofs.lemmas.List.Elements.{filter_map-append}
use Rattle.std.proofs.lemmas.List.Sums.{sum_by-append, count_by-le-length}
use Rattle.pre_mpacket.specs.Arrivals.{is_continue}
use Rattle.pre_lldp.specs.LldpLayout.{lldp_frame}
use Rattle.pre_send.specs.declared.choices.Choice.{Choice}
use Rattle.pre_send.specs.declared.choices.Choice.TheVariants as choice
use Rattle.pre_send.specs.Calls.{Chosen, express, whole, first, rest, verify, respond, lldp, begun}
use Rattle.pre_send.specs.Sendings.{Sending, Part, interrupted, IsSending, IsFree}
use Rattle.pre_send.specs.Answers.{NewestIs, IsUnderWayAs, kept_part}
use Rattle.pre_send.specs.Senders.{Stands, chosen}
use Rattle.pre_history.specs.declared.events.What.TheVariants as what
use Rattle.pre_base.specs.Last.{last}
use Rattle.pre_history.specs.Scenario.{Scenario, arc}
use Rattle.pre_history.specs.History.{PlainEvent, History, Begin}
use Rattle.pre_history.specs.Selected.{active_on, begin_on}
use Rattle.pre_history.specs.Queries.{Begins, Ends}
use Rattle.pre_history.specs.Octets.{AdvertAt, ToldActive, whole_of}
use Rattle.pre_history.specs.Ordered.{IsOrdered}
use Rattle.pre_history.specs.Starts.{Choice as Start, StartRule}
use Rattle.pre_history.specs.Legal.{LegalUpTo}
use Rattle.pre_history.specs.Placed.{number}
use Rattle.pre_history.proofs.InOrder.{steady}
use Rattle.pre_history.proofs.Lists.{at_last, one_at, there, within}
use Rattle.pre_history.proofs.Steady.{costs}
use Rattle.pre_outgoing.specs.declared.outgoing.Begun.{Begun}
use Rattle.pre_outgoing.specs.declared.outgoing.Outgoing.{Outgoing}
use Rattle.pre_outgoing.specs.Matching.{Matches, Fits, EndsFit, Agree, IsTold, what_of}
use Rattle.pre_outgoing.specs.Sends.{Carries, HasBegun, IsLldp, IsNewest, Sends, next_begin, next_count}
use Rattle.pre_outgoing.proofs.Agreeing.{begun_early, same_packets}
use Rattle.pre_outgoing.proofs.Ahead.{begun_ahead}
use Rattle.pre_outgoing.proofs.Beginning.{begins, free_then}
use Rattle.pre_outgoing.proofs.Fields.{kept_free, planned_at}
use Rattle.pre_outgoing.proofs.Keeping.{whole_same}
use Rattle.pre_outgoing.proofs.Starting.{before_it, chosen_is}

-- ---- of mPackets that take a tick at least, no more begin than there are ticks

begins_apart : (w : Scenario) (h : History) (a : ℕ) → IsOrdered w h a → 1 ≤ (arc w a).cost → (i : ℕ) (b : Begin) → slice_get (Begins h a) i ≡ Some b → i ≤ b.tick
begins_apart w h a order cost zero b at = omega arith
begins_apart w h a order cost (suc i) b at =
    let lt : suc i < length (Begins h a) = within (Begins h a) (suc i) b at in
    let c = there (Begins h a) i (omega (arith, lt)) in
    let e = there (Ends h a) i (omega (arith, lt, order.few_open)) in
    let before : i ≤ c.0.tick = begins_apart w h a order cost i c.0 c.1 in
    omega (arith, before, order.spans i c.0 e.0 c.1 e.1, order.apart i e.0 b e.1 at, cost)

few_begins : (w : Scenario) (h : History) (t a : ℕ) → IsOrdered w h a → 1 ≤ (arc w a).cost → ((i : ℕ) (b : Begin) → slice_get (Begins h a) i ≡ Some b → b.tick < t) → length (Begins h a) ≤ t
few_begins w h t a order cost early = go (length (Begins h a)) refl
  where
    go : (n : ℕ) → length (Begins h a) ≡ n → length (Begins h a) ≤ t
    go zero is = omega (arith, is)
    go (suc n) is =
        let b = there (Begins h a) n (omega (arith, is)) in
        omega (arith, is, begins_apart w h a order cost n b.0 b.1, early n b.0 b.1)

-- ---- the counts

-- a count that is below its last number
counted : (n : ℕ) → n ≤ 10 ^ 18 → next_count n true ≡ n + 1
counted n le = omega (arith, le)

continued_more : (xs : List Begin) (b : Begin) → length xs ≤ 10 ^ 18
    → next_count (count_by (λ (b : Begin). is_continue b.kind) xs) (is_continue b.kind) ≡ count_by (λ (b : Begin). is_continue b.kind) (xs ++ b ∷ [])
continued_more xs b few = by_kind (is_continue b.kind) refl
  where
    total : count_by (λ (b : Begin). is_continue b.kind) (xs ++ b ∷ []) ≡ count_by (λ (b : Begin). is_continue b.kind) xs + (0 + cond (is_continue b.kind) 1 0)
    total = sum_by-append (λ (x : Begin). cond (is_continue x.kind) 1 0) xs (b ∷ [])

    by_kind : (v : Bool) → is_continue b.kind ≡ v → next_count (count_by (λ (b : Begin). is_continue b.kind) xs) v ≡ count_by (λ (b : Begin). is_continue b.kind) (xs ++ b ∷ [])
    by_kind true is =
        let more = total ∙ ap (λ v. count_by (λ (b : Begin). is_continue b.kind) xs + (0 + cond v 1 0)) is in
        omega (arith, more, count_by-le-length (λ (b : Begin). is_continue b.kind) xs, few)
    by_kind false is =
        let more = total ∙ ap (λ v. count_by (λ (b : Begin). is_continue b.kind) xs + (0 + cond v 1 0)) is in omega (arith, more)

-- an LLDP frame is carried only where it was chosen
lldp_chosen : (ch : Chosen) (before : Option Part) → what_of ch before ≡ what.Lldp → ch ≡ lldp
lldp_chosen (express f) before is = absurd (cc is)
lldp_chosen (whole f) before is = absurd (cc is)
lldp_chosen (first f) before is = absurd (cc is)
lldp_chosen rest None is = absurd (cc is)
lldp_chosen rest (Some x) is = absurd (cc is)
lldp_chosen verify before is = absurd (cc is)
lldp_chosen respond before is = absurd (cc is)
lldp_chosen lldp before is = refl

pub no_lldp : (choice : Choice) → ¬ IsLldp choice → ¬ (chosen choice ≡ lldp)
no_lldp (choice.Express f) other is = absurd (cc is)
no_lldp (choice.Whole f) other is = absurd (cc is)
no_lldp (choice.First f) other is = absurd (cc is)
no_lldp choice.Rest other is = absurd (cc is)
no_lldp choice.Verify other is = absurd (cc is)
no_lldp choice.Respond other is = absurd (cc is)
no_lldp choice.Lldp other is = absurd (other tt)

-- ---- the begin

module _ (w : Scenario) (past : History) (t a n : ℕ) (settled : Bool) (o new : Outgoing) (ch : Chosen) (c : Start) (b : Begun) (a_lt : a < length w.net.arcs)
    (legal : LegalUpTo w (number (length w.net.arcs) t (2 + 3 * length w.net.arcs + a)) past) (sends : Sends w past a n settled o) (rule : StartRule w past a t c) (is_told : IsTold w ch c)
    (stands : Stands new.sender (arc w a).cost (arc w a).add_frag (sends.calls ++ begun t ch ∷ [])) where
  abbrev cost : ℕ
  cost = (arc w a).cost

  abbrev add_frag : ℕ
  add_frag = (arc w a).add_frag

  abbrev event : Begin
  event = next_begin past t a c

  abbrev es : History
  es = PlainEvent.begin event ∷ []

  after : Matches w (past ++ es) a (t + 1) true (sends.calls ++ begun t ch ∷ [])
  after = begins w past t a n (length (Begins past a)) settled sends.calls ch c a_lt legal sends.matches rule is_told

  bs : Begins (past ++ es) a ≡ Begins past a ++ event ∷ []
  bs = let one : Begins es a ≡ event ∷ [] = rw (is_eq a) refl in filter_map-append (begin_on a) past es ∙ ap (λ xs. Begins past a ++ xs) one
    where
      is_eq : (m : ℕ) → (m == m) ≡ true
      is_eq m = grind (arith, nat_tests)

  -- the newest mPacket is this one
  newest_is : (p : Sending) (older : List Sending) → IsSending cost add_frag (sends.calls ++ begun t ch ∷ []) (p ∷ older) → p.told.end ≡ None → IsNewest (past ++ es) a event × Fits w p older event
  newest_is p older sending none =
      let same = same_packets w (past ++ es) a (t + 1) true (sends.calls ++ begun t ch ∷ []) (p ∷ older) after sending in
      go (subst (λ ps. Agree w ps (Begins (past ++ es) a) (Ends (past ++ es) a)) same after.agree)
    where
      go : Agree w (p ∷ older) (Begins (past ++ es) a) (Ends (past ++ es) a) → IsNewest (past ++ es) a event × Fits w p older event
      go (front, x, before, bs_is, ends, same_length, fits, others) =
          let long : length front ≡ length (Begins past a) = omega (arith, ap length bs_is, ap length bs, length-append front (x ∷ []), length-append (Begins past a) (event ∷ [])) in
          let at_x : slice_get (Begins (past ++ es) a) (length front) ≡ Some x = ap (λ xs. slice_get xs (length front)) bs_is ∙ at_last front x in
          let at_event : slice_get (Begins (past ++ es) a) (length front) ≡ Some event = ap₂ (λ (xs : List Begin) (i : ℕ). slice_get xs i) bs long ∙ at_last (Begins past a) event in
          let one : x ≡ event = one_at (Begins (past ++ es) a) (length front) x event at_x at_event in
          let ends_are : Ends (past ++ es) a ≡ before = subst (λ o. EndsFit w p older o before (Ends (past ++ es) a)) none ends in
          (ap (slice_get (Begins (past ++ es) a)) (ap length ends_are ∙ same_length) ∙ at_event, subst (Fits w p older) one fits)

  told_active : (u : ℕ) → ToldActive w (past ++ es) a u ≡ ToldActive w past a u
  told_active u = ap (λ (vs : List Bool). unwrap_or (last vs) false) (filter_map-append (active_on a u) past es ∙ append-nil (filter_map (active_on a u) past))

  pub has_begun : t ≤ 10 ^ 18 → IsUnderWayAs cost add_frag (sends.calls ++ begun t ch ∷ []) (Some (b.kind, b.from))
      → ((packets : List Sending) → IsSending cost add_frag sends.calls packets → b.what ≡ what_of ch (kept_part packets))
      → b.ord ≡ o.begun → new.begun ≡ next_count o.begun true → new.continued ≡ next_count o.continued (is_continue b.kind) → new.carried ≡ b.what
      → (ch ≡ lldp → new.advert ≡ lldp_frame (arc w a).from.0 a (AdvertAt w past a t)) → HasBegun w past t a c b new
  has_begun small (packets, sending, is) carries ord begun_is continued_is carried_is advert = go packets sending is
    where
      go : (packets : List Sending) → IsSending cost add_frag (sends.calls ++ begun t ch ∷ []) packets → NewestIs packets (Some (b.kind, b.from)) → HasBegun w past t a c b new
      go [] sending is = absurd is
      go (p ∷ older) sending (none, kind_is, from_is) =
          let fit = newest_is p older sending none in
          let fits = fit.1 in
          let before = before_it cost add_frag t sends.calls ch p older sending in
          let free = free_then w past t a n settled sends.calls c a_lt legal sends.matches rule in
          let kept : kept_part older ≡ interrupted older = kept_free cost t older (subst (λ l. IsFree cost l t) before.told free) in
          let by_choice : what_of ch (interrupted older) ≡ c.what = ap (λ x. what_of x (interrupted older)) (sym (chosen_is cost add_frag t sends.calls ch p older sending)) ∙ sym fits.carries in
          let carries_is : b.what ≡ c.what = carries older before ∙ (ap (what_of ch) kept ∙ by_choice) in
          let few = few_begins w past t a (steady w (number (length w.net.arcs) t (2 + 3 * length w.net.arcs + a)) past a a_lt legal).ordered (costs w a a_lt) (begun_early w past t a legal) in
          let carried : Carries w (past ++ es) (t + 1) new event = record {
            carried = carried_is ∙ carries_is;
            earlier = omega arith;
            advert = λ is. advert (lldp_chosen ch (interrupted older) (by_choice ∙ is)) ∙ sym (whole_same w past (past ++ es) event (told_active t) ∙ ap (whole_of w past event) is);
          } in
          record {
            ord = ord ∙ sends.begun;
            kind = kind_is ∙ fits.kind;
            carries = carries_is;
            from = from_is ∙ fits.from;
            sends = record {
              calls = sends.calls ++ begun t ch ∷ [];
              stands = stands;
              matches = after;
              begun = begun_is
                  ∙ (ap (λ n. next_count n true) sends.begun ∙ (counted (length (Begins past a)) (omega (arith, few, small)) ∙ sym (ap length bs ∙ length-append (Begins past a) (event ∷ []))));
              continued = continued_is
                  ∙ (ap₂ next_count sends.continued (ap is_continue (kind_is ∙ fits.kind))
                  ∙ (continued_more (Begins past a) event (omega (arith, few, small)) ∙ ap (count_by (λ (b : Begin). is_continue b.kind)) (sym bs)));
              newest = λ x here.
                  let one : x ≡ event = one_at (Begins (past ++ es) a) (length (Ends (past ++ es) a)) x event here fit.0 in
                  subst (λ (y : Begin). Carries w (past ++ es) (t + 1) new y) (sym one) carried;
            };
            ahead = λ due is'.
                let plan = planned_at new.sender cost add_frag (sends.calls ++ begun t ch ∷ []) (p ∷ older) due stands sending is' in
                subst (λ n. t < n) (sym plan.1) (begun_ahead cost add_frag t sends.calls ch p older (costs w a a_lt) sending);
          }
