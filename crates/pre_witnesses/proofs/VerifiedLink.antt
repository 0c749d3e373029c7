-- The moments of the run in which a link is verified, one after another, up to the end.
use Rattle.std.proofs.Common.{ℕ, zero, suc, ◌≡◌, ◌==◌, ◌+◌, ◌-◌, ◌*◌, ◌<◌, ◌≤◌, nat_le, Bool, true, false, []}
use Rattle.std.proofs.Common.{◌∷◌, ◌++◌, length, take, replicate, refl, sym, ◌∙◌, ap, inl, inr, arith, subst, Some, drop}
use Rattle.std.proofs.Common.{length-append}
use Rattle.std.specs.Prelude.{if◌then◌else◌, slice_get}
use Rattle.std.proofs.lemmas.Bool.Decides.{nat_tests}
use Rattle.pre_crc.specs.Checks.{Mcrc}
use Rattle.pre_crc.proofs.CheckFacts.{length-Mcrc}
use Rattle.pre_lldp.specs.LldpLayout.{is_lldp_frame}
use Rattle.pre_lldp.proofs.ReadBack.{sent-length, sent-lldp}
use Rattle.pre_mpacket.specs.declared.packets.Kind.{Kind}
use Rattle.pre_mpacket.specs.declared.packets.Kind.TheVariants as kind
use Rattle.pre_mpacket.specs.Spelling.{PlainPacket}
use Rattle.pre_mpacket.specs.Arrivals.{Given, Gives, Spelled, IsBare}
use Rattle.pre_topo.specs.Arcs.{reverse_of}
use Rattle.pre_history.specs.declared.events.What.TheVariants as what
use Rattle.pre_history.specs.declared.events.Outcome.TheVariants as outcome
use Rattle.pre_history.specs.Scenario.{Scenario, arc}
use Rattle.pre_history.specs.Moments.{Phase}
use Rattle.pre_history.specs.History.{PlainEvent, History, Begin, Ended}
use Rattle.pre_history.specs.Queries.{Begins, Ends, Arrivals, Packets, Occupied}
use Rattle.pre_history.specs.Octets.{BareOctets, WholeOf, Air}
use Rattle.pre_history.specs.LinkState.{LldpReceived, VerifiesBefore, RespondTicks}
use Rattle.pre_history.specs.Starts.{SizeOf}
use Rattle.pre_history.specs.Comings.{Comings, EntriesOf}
use Rattle.pre_history.specs.Rules.{EndDue, Arriving, StartDue, Expiry, HappensIn, CheckOf, last_four}
use Rattle.pre_history.specs.Legal.{LegalUpTo}
use Rattle.pre_laws.proofs.Reassembled.{told, spelled}
use Rattle.pre_witnesses.specs.VerifiedLink.{ends, advert_check, zeros_check, first_advert, advert_begins, advert_ends, advert_arrives}
use Rattle.pre_witnesses.specs.VerifiedLink.{verify_begins, verify_ends, verify_arrives, respond_begins, respond_ends, respond_arrives}
use Rattle.pre_witnesses.specs.VerifiedLink.{turns_active}
use Rattle.pre_witnesses.proofs.Steps.{step, ends_now, arrives_now, Within, IsNotDue, turn, quiet}
use Rattle.pre_witnesses.proofs.Occupation.{busy, occupied_quiet}
use Rattle.pre_witnesses.proofs.NegotiatingPair.{Negotiating, scenario_of, routed, HasHeard, advert_from, advert_begin, advert_end, advert_arrival}
use Rattle.pre_witnesses.proofs.NegotiatingPair.{advert_given, no_change, rises_now, advert_starts, verify_starts, respond_starts}

-- ---- the history so far

abbrev pub advert_on : History
advert_on = advert_begins 0 ∷ []

abbrev pub adverts_on : History
adverts_on = advert_on ++ advert_begins 1 ∷ []

abbrev pub advert_over : History
advert_over = adverts_on ++ advert_ends 0 ∷ []

abbrev pub adverts_over : History
adverts_over = advert_over ++ advert_ends 1 ∷ []

abbrev pub advert_there : History
advert_there = adverts_over ++ advert_arrives 0 ∷ []

abbrev pub adverts_there : History
adverts_there = advert_there ++ advert_arrives 1 ∷ []

abbrev pub verify_on : History
verify_on = adverts_there ++ verify_begins 0 ∷ []

abbrev pub verifies_on : History
verifies_on = verify_on ++ verify_begins 1 ∷ []

abbrev pub verify_over : History
verify_over = verifies_on ++ verify_ends 0 ∷ []

abbrev pub verifies_over : History
verifies_over = verify_over ++ verify_ends 1 ∷ []

abbrev pub verify_there : History
verify_there = verifies_over ++ verify_arrives 0 ∷ []

abbrev pub verifies_there : History
verifies_there = verify_there ++ verify_arrives 1 ∷ []

abbrev pub respond_on : History
respond_on = verifies_there ++ respond_begins 0 ∷ []

abbrev pub responds_on : History
responds_on = respond_on ++ respond_begins 1 ∷ []

abbrev pub respond_over : History
respond_over = responds_on ++ respond_ends 0 ∷ []

abbrev pub responds_over : History
responds_over = respond_over ++ respond_ends 1 ∷ []

abbrev pub respond_there : History
respond_there = responds_over ++ respond_arrives 0 ∷ []

abbrev pub responds_there : History
responds_there = respond_there ++ respond_arrives 1 ∷ []

abbrev pub one_active : History
one_active = responds_there ++ turns_active 0 ∷ []

abbrev pub both_active : History
both_active = one_active ++ turns_active 1 ∷ []

abbrev pub bare_begin : (tick ord : ℕ) → Kind → ℕ → Begin
bare_begin tick ord kind arc = record { tick = tick; arc = arc; ord = ord; kind = kind; what = what.Nothing; from = 0 }

abbrev pub bare_end : (tick ord : ℕ) → ℕ → Ended
bare_end tick ord arc = record { tick = tick; arc = arc; ord = ord; size = 64; check = zeros_check }

module _ (g : Negotiating) where
  abbrev w : Scenario
  w = scenario_of g

  cost : (a : ℕ) → a < 2 → (arc w a).cost ≡ 1
  cost zero lt = refl
  cost (suc zero) lt = refl
  cost (suc (suc a)) lt = absurd (omega (arith, lt))

  no_delay : (a : ℕ) → a < 2 → (arc w a).delay ≡ 0
  no_delay zero lt = refl
  no_delay (suc zero) lt = refl
  no_delay (suc (suc a)) lt = absurd (omega (arith, lt))

  -- ---- ends: an mPacket of 64 octets ends 72 ticks after its begin, and at no tick before

  due_later : (tick cost size r : ℕ) → cost ≡ 1 → size ≡ 64 → tick + cost * (size + 8) ≡ r → tick + 72 ≡ r
  due_later tick cost size r one long due = subst (λ c. tick + c * (64 + 8) ≡ r) one (subst (λ n. tick + cost * (n + 8) ≡ r) long due)

  due_now : (tick a : ℕ) → a < 2 → tick + (arc w a).cost * (64 + 8) ≡ tick + 72
  due_now tick a lt = ap (λ c. tick + c * (64 + 8)) (cost a lt)

  advert_long : (a : ℕ) → a < 2 → length (advert_from a) ≡ 64
  advert_long a lt = sent-length a a first_advert (omega (arith, lt))

  advert_later : (h : History) (a r : ℕ) → a < 2 → WholeOf w h (advert_begin a) ≡ advert_from a → r < 72 → (e : PlainEvent) → ¬ EndDue w h r (advert_begin a) e
  advert_later h a r lt whole early e (size, sized, due, is) =
      let at : 0 + 72 ≡ r = due_later 0 (arc w a).cost size r (cost a lt) (sized ∙ (ap length whole ∙ advert_long a lt)) due in
      omega (arith, at, early)

  advert_due : (h : History) (a : ℕ) → a < 2 → WholeOf w h (advert_begin a) ≡ advert_from a → EndDue w h 72 (advert_begin a) (advert_ends a)
  advert_due h a lt whole =
      let long = advert_long a lt in
      let check : CheckOf w h (advert_begin a) 64 ≡ advert_check a
      = ap (λ l. if 64 == length l then last_four l else Mcrc (take 60 l)) whole ∙ ap (λ n. if 64 == n then last_four (advert_from a) else Mcrc (take 60 (advert_from a))) long in
      (64, sym (ap length whole ∙ long), due_now 0 a lt, ap (λ x. ends 72 0 x a) (sym check))

  bare_long : length BareOctets ≡ 64
  bare_long = omega (arith, length-append (replicate 60 0) (Mcrc (replicate 60 0)), length-Mcrc (replicate 60 0))

  bare_later : (h : History) (tick ord a r : ℕ) (k : Kind) → a < 2 → ((size : ℕ) → SizeOf w h k (bare_begin tick ord k a) size → size ≡ length BareOctets) → r < tick + 72 → (e : PlainEvent)
      → ¬ EndDue w h r (bare_begin tick ord k a) e
  bare_later h tick ord a r k lt whole early e (size, sized, due, is) =
      let at : tick + 72 ≡ r = due_later tick (arc w a).cost size r (cost a lt) (whole size sized ∙ bare_long) due in
      omega (arith, at, early)

  bare_check : (h : History) (tick ord a : ℕ) (k : Kind) → CheckOf w h (bare_begin tick ord k a) 64 ≡ zeros_check
  bare_check h tick ord a k = ap (λ n. if 64 == n then drop (n - 4) BareOctets else Mcrc (take 60 BareOctets)) bare_long

  bare_due : (h : History) (tick ord a : ℕ) (k : Kind) → a < 2 → SizeOf w h k (bare_begin tick ord k a) 64 → EndDue w h (tick + 72) (bare_begin tick ord k a) (ends (tick + 72) ord zeros_check a)
  bare_due h tick ord a k lt sized = (64, sized, due_now tick a lt, ap (λ x. ends (tick + 72) ord x a) (sym (bare_check h tick ord a k)))

  -- ---- arrivals

  advert_lands : (n : ℕ) (h : History) → LegalUpTo w n h → (a : ℕ) → a < 2 → slice_get (Begins h a) 0 ≡ Some (advert_begin a) → slice_get (Ends h a) 0 ≡ Some (advert_end a)
      → WholeOf w h (advert_begin a) ≡ advert_from a → Arriving w h 72 a (advert_end a) (advert_arrives a ∷ [])
  advert_lands n h legal a lt at over whole =
      let now : 72 + (arc w a).delay ≡ 72 = omega (arith, no_delay a lt) in
      let result : outcome.Lldp ≡ (if is_lldp_frame (advert_from a) then outcome.Lldp else outcome.Frame)
      = ap (λ (b : Bool). if b then outcome.Lldp else outcome.Frame) (sym (sent-lldp a a first_advert)) in
      inl (now, (outcome.Lldp, inr (inl (Given.frame (advert_from a), advert_given g n h legal a lt at over whole, result)), refl))

  -- a verify or respond is received as it was sent
  bare_given : (n : ℕ) (h : History) → LegalUpTo w n h → (a i tick : ℕ) → a < 2 → (k : Kind) → slice_get (Begins h a) i ≡ Some (bare_begin tick i k a)
      → slice_get (Ends h a) i ≡ Some (bare_end (tick + 72) i a)
      → (m : PlainPacket) × (Spelled (Air w h a) i ≡ Some m) × IsBare m k
  bare_given n h legal a i tick lt k at over = (
    told w (routed g) n h legal a lt i (bare_begin tick i k a) (bare_end (tick + 72) i a) at over,
    spelled w (routed g) n h legal a lt i (bare_begin tick i k a) (bare_end (tick + 72) i a) at over (refl, refl),
    (refl, refl, refl),
  )

  verify_lands : (n : ℕ) (h : History) → LegalUpTo w n h → (a : ℕ) → a < 2 → slice_get (Begins h a) 1 ≡ Some (bare_begin 84 1 kind.Verify a) → slice_get (Ends h a) 1 ≡ Some (bare_end 156 1 a)
      → Arriving w h 156 a (bare_end 156 1 a) (verify_arrives a ∷ [])
  verify_lands n h legal a lt at over =
      let now : 156 + (arc w a).delay ≡ 156 = omega (arith, no_delay a lt) in
      inl (now, (outcome.Verify, inr (inl (Given.verify, bare_given n h legal a 1 84 lt kind.Verify at over, refl)), refl))

  respond_lands : (n : ℕ) (h : History) → LegalUpTo w n h → (a : ℕ) → a < 2 → slice_get (Begins h a) 2 ≡ Some (bare_begin 168 2 kind.Respond a) → slice_get (Ends h a) 2 ≡ Some (bare_end 240 2 a)
      → Arriving w h 240 a (bare_end 240 2 a) (respond_arrives a ∷ [])
  respond_lands n h legal a lt at over =
      let now : 240 + (arc w a).delay ≡ 240 = omega (arith, no_delay a lt) in
      inl (now, (outcome.Respond, inr (inl (Given.respond, bare_given n h legal a 2 168 lt kind.Respond at over, refl)), refl))

  -- ---- stretches in which nothing happens, while both arcs are occupied

  idle : (h : History) (n m : ℕ) → length (Ends h 0) ≤ length (Arrivals h 0) → length (Ends h 1) ≤ length (Arrivals h 1)
      → ((r : ℕ) → Within n m r 1 → IsNotDue w h r (turn h 0))
      → ((r : ℕ) → Within n m r 2 → IsNotDue w h r (turn h 1))
      → ((a r : ℕ) → a < 2 → Within n m r (5 + a) → RespondTicks h a ≡ []) → ((r : ℕ) → Comings w h r ≡ [])
      → ((r : ℕ) → Within n m r 8 → Occupied w h 0 r) → ((r : ℕ) → Within n m r 9 → Occupied w h 1 r) → n ≤ m → LegalUpTo w n h → LegalUpTo w m h
  idle h n m settled settled' no_end no_end' responds comings on on' le legal =
      quiet w refl refl h n m (record {
        settled = all_settled;
        no_end = none_due;
        no_change = λ a r lt within before. no_change g h a r lt (responds a r lt within);
        no_entry = λ r within. ap (EntriesOf w r h) (comings r);
        no_start = none_begins;
      }) le legal
    where
      all_settled : (a : ℕ) → a < 2 → length (Ends h a) ≤ length (Arrivals h a)
      all_settled zero lt = settled
      all_settled (suc zero) lt = settled'
      all_settled (suc (suc a)) lt = absurd (omega (arith, lt))

      none_due : (a r : ℕ) → a < 2 → Within n m r (1 + a) → IsNotDue w h r (turn h a)
      none_due zero r lt within = no_end r within
      none_due (suc zero) r lt within = no_end' r within
      none_due (suc (suc a)) r lt within = absurd (omega (arith, lt))

      none_begins : (a r : ℕ) → a < 2 → Within n m r (8 + a) → (e : PlainEvent) → ¬ StartDue w h r a e
      none_begins zero r lt within = occupied_quiet w h 0 r (on r within)
      none_begins (suc zero) r lt within = occupied_quiet w h 1 r (on' r within)
      none_begins (suc (suc a)) r lt within = absurd (omega (arith, lt))

  no_responds : (h : History) → RespondTicks h 0 ≡ [] → RespondTicks h 1 ≡ [] → (a : ℕ) → a < 2 → RespondTicks h a ≡ []
  no_responds h none none' zero lt = none
  no_responds h none none' (suc zero) lt = none'
  no_responds h none none' (suc (suc a)) lt = absurd (omega (arith, lt))

  -- ---- moment by moment

  heard : (n : ℕ) (h : History) → LegalUpTo w n h → (a b : ℕ) → b < 2 → reverse_of a ≡ b → slice_get (Begins h b) 0 ≡ Some (advert_begin b) → slice_get (Ends h b) 0 ≡ Some (advert_end b)
      → WholeOf w h (advert_begin b) ≡ advert_from b → ((t : ℕ) → nat_le 72 t ≡ true → LldpReceived h a t ≡ advert_arrival b ∷ []) →
      ((t : ℕ) → nat_le 72 t ≡ false → LldpReceived h a t ≡ []) → HasHeard g h a
  heard n h legal a b lt reverse at over whole received none = record {
    received = λ t from. let by : nat_le 72 t ≡ true = grind (arith, nat_tests) in received t by ∙ ap (λ x. advert_arrival x ∷ []) (sym reverse);
    none_before = λ t early. let off : nat_le 72 t ≡ false = grind (arith, nat_tests) in none t off;
    given = subst (λ x. Gives (Air w h x) 0 (Given.frame (advert_from x))) (sym reverse) (advert_given g n h legal b lt at over whole);
  }

  up_to_adverts : LegalUpTo w 10 adverts_on
  up_to_adverts =
      let l8 : LegalUpTo w 8 []
      = idle [] 0 8 (omega arith) (omega arith) (λ r within. tt) (λ r within. tt) (λ a r lt within. no_responds [] refl refl a lt) (λ r. refl) (λ r within. absurd (omega (arith, within.1)))
      (λ r within. absurd (omega (arith, within.1))) (omega arith) refl in
      let l9 : LegalUpTo w 9 advert_on = step w refl 8 [] advert_on l8 (advert_starts g [] 0 (omega arith) (λ p. refl) tt refl) in
      step w refl 9 advert_on (advert_begins 1 ∷ []) l9 (advert_starts g advert_on 1 (omega arith) (λ p. refl) tt refl)

  adverts_ended : LegalUpTo w 723 adverts_over
  adverts_ended =
      let l721 : LegalUpTo w 721 adverts_on
      = idle adverts_on 10 721 (omega arith) (omega arith) (λ r within. advert_later adverts_on 0 r (omega arith) refl (omega (arith, within.1)))
      (λ r within. advert_later adverts_on 1 r (omega arith) refl (omega (arith, within.1))) (λ a r lt within. no_responds adverts_on refl refl a lt) (λ r. refl)
      (λ r within. busy w adverts_on 0 r 0 (advert_begin 0) refl (omega (arith, within.0), tt)) (λ r within. busy w adverts_on 1 r 0 (advert_begin 1) refl (omega (arith, within.0), tt))
      (omega arith) up_to_adverts in
      let l722 : LegalUpTo w 722 advert_over
      = step w refl 721 adverts_on (advert_ends 0 ∷ []) l721 (ends_now w refl adverts_on 72 0 (omega arith) l721 (advert_begin 0) (advert_ends 0) refl (advert_due adverts_on 0 (omega arith) refl)) in
      step w refl 722 advert_over (advert_ends 1 ∷ []) l722 (ends_now w refl advert_over 72 1 (omega arith) l722 (advert_begin 1) (advert_ends 1) refl (advert_due advert_over 1 (omega arith) refl))

  adverts_arrived : LegalUpTo w 725 adverts_there
  adverts_arrived =
      let l723 = adverts_ended in
      let l724 : LegalUpTo w 724 advert_there
      = step w refl 723 adverts_over (advert_arrives 0 ∷ []) l723
      (arrives_now w refl adverts_over 72 0 (omega arith) l723 (advert_arrives 0 ∷ []) (advert_end 0) refl (advert_lands 723 adverts_over l723 0 (omega arith) refl refl refl)) in
      step w refl 724 advert_there (advert_arrives 1 ∷ []) l724
      (arrives_now w refl advert_there 72 1 (omega arith) l724 (advert_arrives 1 ∷ []) (advert_end 1) refl (advert_lands 724 advert_there l724 1 (omega arith) refl refl refl))

  no_verifies : (VerifiesBefore adverts_there 0 84 ≡ []) × (VerifiesBefore verify_on 1 84 ≡ [])
  unfolding Packets
  no_verifies = (refl, refl)

  verifies_begun : LegalUpTo w 850 verifies_on
  verifies_begun =
      let l848 : LegalUpTo w 848 adverts_there
      = idle adverts_there 725 848 (omega arith) (omega arith) (λ r within. tt) (λ r within. tt) (λ a r lt within. no_responds adverts_there refl refl a lt) (λ r. refl)
      (λ r within. busy w adverts_there 0 r 0 (advert_begin 0) refl (omega (arith, within.0), omega (arith, within.1)))
      (λ r within. busy w adverts_there 1 r 0 (advert_begin 1) refl (omega (arith, within.0), omega (arith, within.1))) (omega arith) adverts_arrived in
      let has = heard 848 adverts_there l848 0 1 (omega arith) refl refl refl refl (λ t by. rw by refl) (λ t off. rw off refl) in
      let l849 : LegalUpTo w 849 verify_on
      = step w refl 848 adverts_there (verify_begins 0 ∷ []) l848
      (verify_starts g adverts_there 0 (omega arith) (λ p. refl) ((λ on. absurd (omega (arith, on.1))), tt) ((λ e. absurd (cc e)), tt) has refl no_verifies.0) in
      let has' = heard 849 verify_on l849 1 0 (omega arith) refl refl refl refl (λ t by. rw by refl) (λ t off. rw off refl) in
      step w refl 849 verify_on (verify_begins 1 ∷ []) l849
      (verify_starts g verify_on 1 (omega arith) (λ p. refl) ((λ on. absurd (omega (arith, on.1))), tt) ((λ e. absurd (cc e)), tt) has' refl no_verifies.1)

  verifies_ended : LegalUpTo w 1563 verifies_over
  verifies_ended =
      let l1561 : LegalUpTo w 1561 verifies_on
      = idle verifies_on 850 1561 (omega arith) (omega arith) (λ r within. bare_later verifies_on 84 1 0 r kind.Verify (omega arith) (λ size sized. sized) (omega (arith, within.1)))
      (λ r within. bare_later verifies_on 84 1 1 r kind.Verify (omega arith) (λ size sized. sized) (omega (arith, within.1))) (λ a r lt within. no_responds verifies_on refl refl a lt) (λ r. refl)
      (λ r within. busy w verifies_on 0 r 1 (bare_begin 84 1 kind.Verify 0) refl (omega (arith, within.0), tt))
      (λ r within. busy w verifies_on 1 r 1 (bare_begin 84 1 kind.Verify 1) refl (omega (arith, within.0), tt)) (omega arith) verifies_begun in
      let l1562 : LegalUpTo w 1562 verify_over
      = step w refl 1561 verifies_on (verify_ends 0 ∷ []) l1561
      (ends_now w refl verifies_on 156 0 (omega arith) l1561 (bare_begin 84 1 kind.Verify 0) (verify_ends 0) refl (bare_due verifies_on 84 1 0 kind.Verify (omega arith) (sym bare_long))) in
      step w refl 1562 verify_over (verify_ends 1 ∷ []) l1562
      (ends_now w refl verify_over 156 1 (omega arith) l1562 (bare_begin 84 1 kind.Verify 1) (verify_ends 1) refl (bare_due verify_over 84 1 1 kind.Verify (omega arith) (sym bare_long)))

  verifies_arrived : LegalUpTo w 1565 verifies_there
  verifies_arrived =
      let l1563 = verifies_ended in
      let l1564 : LegalUpTo w 1564 verify_there
      = step w refl 1563 verifies_over (verify_arrives 0 ∷ []) l1563
      (arrives_now w refl verifies_over 156 0 (omega arith) l1563 (verify_arrives 0 ∷ []) (bare_end 156 1 0) refl (verify_lands 1563 verifies_over l1563 0 (omega arith) refl refl)) in
      step w refl 1564 verify_there (verify_arrives 1 ∷ []) l1564
      (arrives_now w refl verify_there 156 1 (omega arith) l1564 (verify_arrives 1 ∷ []) (bare_end 156 1 1) refl (verify_lands 1564 verify_there l1564 1 (omega arith) refl refl))

  responds_begun : LegalUpTo w 1690 responds_on
  responds_begun =
      let l1688 : LegalUpTo w 1688 verifies_there
      = idle verifies_there 1565 1688 (omega arith) (omega arith) (λ r within. tt) (λ r within. tt) (λ a r lt within. no_responds verifies_there refl refl a lt) (λ r. refl)
      (λ r within. busy w verifies_there 0 r 1 (bare_begin 84 1 kind.Verify 0) refl (omega (arith, within.0), omega (arith, within.1)))
      (λ r within. busy w verifies_there 1 r 1 (bare_begin 84 1 kind.Verify 1) refl (omega (arith, within.0), omega (arith, within.1))) (omega arith) verifies_arrived in
      let l1689 : LegalUpTo w 1689 respond_on
      = step w refl 1688 verifies_there (respond_begins 0 ∷ []) l1688
      (respond_starts g verifies_there 0 (omega arith) (λ p. refl) ((λ on. absurd (omega (arith, on.1))), ((λ on. absurd (omega (arith, on.1))), tt)) refl
      ((λ e. absurd (cc e)), ((λ e. absurd (cc e)), tt))) in
      step w refl 1689 respond_on (respond_begins 1 ∷ []) l1689
      (respond_starts g respond_on 1 (omega arith) (λ p. refl) ((λ on. absurd (omega (arith, on.1))), ((λ on. absurd (omega (arith, on.1))), tt)) refl
      ((λ e. absurd (cc e)), ((λ e. absurd (cc e)), tt)))

  responds_ended : LegalUpTo w 2403 responds_over
  responds_ended =
      let l2401 : LegalUpTo w 2401 responds_on
      = idle responds_on 1690 2401 (omega arith) (omega arith) (λ r within. bare_later responds_on 168 2 0 r kind.Respond (omega arith) (λ size sized. sized) (omega (arith, within.1)))
      (λ r within. bare_later responds_on 168 2 1 r kind.Respond (omega arith) (λ size sized. sized) (omega (arith, within.1))) (λ a r lt within. no_responds responds_on refl refl a lt) (λ r. refl)
      (λ r within. busy w responds_on 0 r 2 (bare_begin 168 2 kind.Respond 0) refl (omega (arith, within.0), tt))
      (λ r within. busy w responds_on 1 r 2 (bare_begin 168 2 kind.Respond 1) refl (omega (arith, within.0), tt)) (omega arith) responds_begun in
      let l2402 : LegalUpTo w 2402 respond_over
      = step w refl 2401 responds_on (respond_ends 0 ∷ []) l2401
      (ends_now w refl responds_on 240 0 (omega arith) l2401 (bare_begin 168 2 kind.Respond 0) (respond_ends 0) refl (bare_due responds_on 168 2 0 kind.Respond (omega arith) (sym bare_long))) in
      step w refl 2402 respond_over (respond_ends 1 ∷ []) l2402
      (ends_now w refl respond_over 240 1 (omega arith) l2402 (bare_begin 168 2 kind.Respond 1) (respond_ends 1) refl (bare_due respond_over 168 2 1 kind.Respond (omega arith) (sym bare_long)))

  responds_arrived : LegalUpTo w 2405 responds_there
  responds_arrived =
      let l2403 = responds_ended in
      let l2404 : LegalUpTo w 2404 respond_there
      = step w refl 2403 responds_over (respond_arrives 0 ∷ []) l2403
      (arrives_now w refl responds_over 240 0 (omega arith) l2403 (respond_arrives 0 ∷ []) (bare_end 240 2 0) refl (respond_lands 2403 responds_over l2403 0 (omega arith) refl refl)) in
      step w refl 2404 respond_there (respond_arrives 1 ∷ []) l2404
      (arrives_now w refl respond_there 240 1 (omega arith) l2404 (respond_arrives 1 ∷ []) (bare_end 240 2 1) refl (respond_lands 2404 respond_there l2404 1 (omega arith) refl refl))

  one_verify : (VerifiesBefore responds_there 0 240 ≡ record { began = 84; ended = Some 156 } ∷ []) × (VerifiesBefore one_active 1 240 ≡ record { began = 84; ended = Some 156 } ∷ [])
  unfolding Packets
  one_verify = (refl, refl)

  change : (h : History) (a : ℕ) (es : History) → Expiry w h 240 a es → HappensIn w h 240 (Phase.expiries a) es
  unfolding HappensIn
  change h a es is = is

  pub up_to_end : LegalUpTo w 2410 both_active
  up_to_end =
      let l2405 = responds_arrived in
      let has = heard 2405 responds_there l2405 0 1 (omega arith) refl refl refl refl (λ t by. rw by refl) (λ t off. rw off refl) in
      let l2406 : LegalUpTo w 2406 one_active
      = step w refl 2405 responds_there (turns_active 0 ∷ []) l2405 (change responds_there 0 (turns_active 0 ∷ []) (rises_now g responds_there 0 (omega arith) has one_verify.0 refl)) in
      let has' = heard 2406 one_active l2406 1 0 (omega arith) refl refl refl refl (λ t by. rw by refl) (λ t off. rw off refl) in
      let l2407 : LegalUpTo w 2407 both_active
      = step w refl 2406 one_active (turns_active 1 ∷ []) l2406 (change one_active 1 (turns_active 1 ∷ []) (rises_now g one_active 1 (omega arith) has' one_verify.1 refl)) in
      idle both_active 2407 2410 (omega arith) (omega arith) (λ r within. tt) (λ r within. tt) (λ a r lt within. absurd (omega (arith, lt, within.0, within.1))) (λ r. refl)
      (λ r within. busy w both_active 0 r 2 (bare_begin 168 2 kind.Respond 0) refl (omega (arith, within.0), omega (arith, within.1)))
      (λ r within. busy w both_active 1 r 2 (bare_begin 168 2 kind.Respond 1) refl (omega (arith, within.0), omega (arith, within.1))) (omega arith) l2407
