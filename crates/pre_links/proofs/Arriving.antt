-- What is heard of a partner by one arrival.
use Rattle.std.proofs.Common.{ℕ, suc, ◌≡◌, ◌+◌, ◌<◌, ◌≤◌, false, List, [], ◌∷◌, ◌++◌, length, refl, sym, ◌∙◌, ap, inl, inr, arith, subst, Option, Some, filter}
use Rattle.std.specs.Prelude.{slice_get, option_map}
use Rattle.std.specs.List.{AllZip}
use Rattle.std.proofs.lemmas.List.{append-nil}
use Rattle.std.proofs.lemmas.List.Elements.{filter_map-append}
use Rattle.pre_lldp.specs.declared.adverts.Advert.{Advert}
use Rattle.pre_lldp.specs.Ages.{Heard}
use Rattle.pre_lldp.specs.LldpLayout.{advert_of}
use Rattle.pre_lldp.specs.Neighbours as neighbours
use Rattle.pre_mpacket.specs.Arrivals.{Given, Gives}
use Rattle.pre_history.specs.declared.events.Outcome.{Outcome}
use Rattle.pre_history.specs.declared.events.Outcome.TheVariants as outcome
use Rattle.pre_history.specs.Scenario.{Scenario}
use Rattle.pre_history.specs.History.{History, Arrive}
use Rattle.pre_history.specs.Selected.{arrive_on, is_lldp_result}
use Rattle.pre_history.specs.Queries.{Arrivals, Ends}
use Rattle.pre_history.specs.Octets.{Air}
use Rattle.pre_history.specs.Rules.{arrival}
use Rattle.pre_history.specs.Placed.{number}
use Rattle.pre_history.specs.Legal.{LegalUpTo}
use Rattle.pre_history.proofs.Lists.{any_at, at_last, at_end, found_at}
use Rattle.pre_history.specs.Placed.{AllWithin}
use Rattle.pre_history.proofs.AirStays.{gives_stays}
use Rattle.pre_links.specs.Listening.{Hears, IsLatest, LldpArrivals, ReceivedOn, SaysOn}
use Rattle.pre_links.specs.declared.partners.Partner.{Partner}
use Rattle.pre_links.proofs.Early.{arrived_by}
use Rattle.pre_links.proofs.Latest.{latest_like}
use Rattle.pre_links.proofs.Listened.{zip_push, still_say, lldp_arrivals, not_received}
use Rattle.pre_links.proofs.Numbers.{is_eq}

abbrev arrived : ℕ → ℕ → ℕ → Outcome → Arrive
arrived t b i r = record { tick = t; arc = b; ord = i; result = r }

alone : (t b i : ℕ) (r : Outcome) → Arrivals (arrival t b i r ∷ []) b ≡ arrived t b i r ∷ []
alone t b i r = rw (is_eq b) refl

module _ (w : Scenario) (t : ℕ) (h : History) (b i : ℕ) (r : Outcome) (b_lt : b < length w.net.arcs) (legal : LegalUpTo w (number (length w.net.arcs) t (1 + length w.net.arcs + b)) h) where
  abbrev here : ℕ
  here = number (length w.net.arcs) t (1 + length w.net.arcs + b)

  pub at_here : AllWithin (length w.net.arcs) here (suc here) (arrival t b i r ∷ [])
  at_here = ((here, omega arith, omega arith, (b_lt, refl)), tt)

  pub grown : Arrivals (h ++ arrival t b i r ∷ []) b ≡ Arrivals h b ++ arrived t b i r ∷ []
  grown = filter_map-append (arrive_on b) h (arrival t b i r ∷ []) ∙ ap (λ xs. Arrivals h b ++ xs) (alone t b i r)

  -- the result is received at this tick, and nothing later
  received_now : ReceivedOn (h ++ arrival t b i r ∷ []) b r t
  received_now = any_at (λ (x : Arrive). (x.result ≡ r) × (x.tick ≡ t)) (Arrivals (h ++ arrival t b i r ∷ []) b) (length (Arrivals h b)) (arrived t b i r)
      (ap (λ xs. slice_get xs (length (Arrivals h b))) grown ∙ at_last (Arrivals h b) (arrived t b i r)) (refl, refl)

  received_by : (s : ℕ) → ReceivedOn (h ++ arrival t b i r ∷ []) b r s → s ≤ t
  received_by s (k, x, lt, is, (result, tick)) =
      elim (at_end (Arrivals h b) (arrived t b i r) x k (ap (λ xs. slice_get xs k) (sym grown) ∙ found_at (Arrivals (h ++ arrival t b i r ∷ []) b) k x lt is)) [
        | inl old ↦ let by = arrived_by w t (1 + length w.net.arcs + b) h b legal (omega (arith, b_lt)) k x old in omega (arith, by, tick)
        | inr (last, same) ↦ let now : t ≡ x.tick = ap (λ (x : Arrive). x.tick) same in omega (arith, now, tick)
      ]

  pub latest_now : IsLatest (ReceivedOn (h ++ arrival t b i r ∷ []) b r) (Some t)
  latest_now = (received_now, received_by)

  pub others_kept : (q : Outcome) → ¬ (r ≡ q) → (o : Option ℕ) → IsLatest (ReceivedOn h b q) o → IsLatest (ReceivedOn (h ++ arrival t b i r ∷ []) b q) o
  others_kept q other o latest =
      latest_like (ReceivedOn h b q) (ReceivedOn (h ++ arrival t b i r ∷ []) b q) o
      (not_received w here (suc here) h (arrival t b i r ∷ []) b b_lt legal at_here q (λ j x at is. other (none j x (ap (λ xs. slice_get xs j) (sym (alone t b i r)) ∙ at) ∙ is))) latest
    where
      none : (j : ℕ) (x : Arrive) → slice_get (arrived t b i r ∷ []) j ≡ Some x → r ≡ x.result
      none j x at = elim (at_end [] (arrived t b i r) x j at) [
        | inl old ↦ absurd (cc old)
        | inr (last, same) ↦ ap (λ (x : Arrive). x.result) same
      ]

  pub adverts_kept : is_lldp_result r ≡ false → (calls : List Heard) → AllZip (SaysOn w h b) (LldpArrivals h b) calls
      → AllZip (SaysOn w (h ++ arrival t b i r ∷ []) b) (LldpArrivals (h ++ arrival t b i r ∷ []) b) calls
  adverts_kept nay calls z =
      let none : filter (λ (x : Arrive). is_lldp_result x.result) (Arrivals (arrival t b i r ∷ []) b) ≡ [] = ap (filter (λ (x : Arrive). is_lldp_result x.result)) (alone t b i r) ∙ rw nay refl in
      subst (λ xs. AllZip (SaysOn w (h ++ arrival t b i r ∷ []) b) xs calls)
      (sym (lldp_arrivals w here (suc here) h (arrival t b i r ∷ []) b b_lt legal at_here ∙ ap (λ xs. LldpArrivals h b ++ xs) none ∙ append-nil (LldpArrivals h b)))
      (still_say w here (suc here) h (arrival t b i r ∷ []) b b_lt legal at_here calls z)

module _ (w : Scenario) (t : ℕ) (h : History) (b : ℕ) (b_lt : b < length w.net.arcs) (legal : LegalUpTo w (number (length w.net.arcs) t (1 + length w.net.arcs + b)) h) where
  pub hears_verify : (old new : Partner) → new.neighbour ≡ old.neighbour → option_map (λ t. t.0) new.verify ≡ Some t → new.respond ≡ old.respond
      → Hears w h b old → Hears w (h ++ arrival t b (length (Arrivals h b)) outcome.Verify ∷ []) b new
  hears_verify old new neighbour verify respond s = record {
    calls = s.calls;
    stands = subst (λ x. neighbours.Stands x w.net.timing.unit s.calls) (sym neighbour) s.stands;
    adverts = adverts_kept w t h b (length (Arrivals h b)) outcome.Verify b_lt legal refl s.calls s.adverts;
    verify = subst (IsLatest (ReceivedOn (h ++ arrival t b (length (Arrivals h b)) outcome.Verify ∷ []) b outcome.Verify)) (sym verify)
        (latest_now w t h b (length (Arrivals h b)) outcome.Verify b_lt legal);
    respond = others_kept w t h b (length (Arrivals h b)) outcome.Verify b_lt legal outcome.Respond (λ e. absurd (cc e)) _
        (subst (λ o. IsLatest (ReceivedOn h b outcome.Respond) (option_map (λ t. t.0) o)) (sym respond) s.respond);
  }

  pub hears_respond : (old new : Partner) → new.neighbour ≡ old.neighbour → new.verify ≡ old.verify → option_map (λ t. t.0) new.respond ≡ Some t
      → Hears w h b old → Hears w (h ++ arrival t b (length (Arrivals h b)) outcome.Respond ∷ []) b new
  hears_respond old new neighbour verify respond s = record {
    calls = s.calls;
    stands = subst (λ x. neighbours.Stands x w.net.timing.unit s.calls) (sym neighbour) s.stands;
    adverts = adverts_kept w t h b (length (Arrivals h b)) outcome.Respond b_lt legal refl s.calls s.adverts;
    verify = others_kept w t h b (length (Arrivals h b)) outcome.Respond b_lt legal outcome.Verify (λ e. absurd (cc e)) _
        (subst (λ o. IsLatest (ReceivedOn h b outcome.Verify) (option_map (λ t. t.0) o)) (sym verify) s.verify);
    respond = subst (IsLatest (ReceivedOn (h ++ arrival t b (length (Arrivals h b)) outcome.Respond ∷ []) b outcome.Respond)) (sym respond)
        (latest_now w t h b (length (Arrivals h b)) outcome.Respond b_lt legal);
  }

  pub hears_lldp : (old new : Partner) (octets : List ℕ) (says : Advert) → length (Arrivals h b) < length (Ends h b) → new.verify ≡ old.verify → new.respond ≡ old.respond
      → (s : Hears w h b old) → neighbours.Stands new.neighbour w.net.timing.unit (s.calls ++ record { tick = t; says = says } ∷ [])
      → Gives (Air w h b) (length (Arrivals h b)) (Given.frame octets) → advert_of octets ≡ Some says
      → Hears w (h ++ arrival t b (length (Arrivals h b)) outcome.Lldp ∷ []) b new
  hears_lldp old new octets says ended verify respond s stands gives read =
      let i : ℕ = length (Arrivals h b) in
      let x : Arrive = arrived t b i outcome.Lldp in
      let es = arrival t b i outcome.Lldp ∷ [] in
      let m = here w t h b i outcome.Lldp b_lt legal in
      let within = at_here w t h b i outcome.Lldp b_lt legal in
      let grows : LldpArrivals (h ++ es) b ≡ LldpArrivals h b ++ x ∷ []
      = lldp_arrivals w m (suc m) h es b b_lt legal within ∙ ap (λ xs. LldpArrivals h b ++ filter (λ (x : Arrive). is_lldp_result x.result) xs) (alone t b i outcome.Lldp) in
      let now : SaysOn w (h ++ es) b x (record { tick = t; says = says }) = (refl, (octets, (gives_stays w m (suc m) h es legal within b b_lt i ended (Given.frame octets)).1 gives, read)) in
      record {
        calls = s.calls ++ record { tick = t; says = says } ∷ [];
        stands = stands;
        adverts = subst (λ xs. AllZip (SaysOn w (h ++ es) b) xs (s.calls ++ record { tick = t; says = says } ∷ [])) (sym grows)
            (zip_push (SaysOn w (h ++ es) b) (LldpArrivals h b) s.calls x (record { tick = t; says = says }) (still_say w m (suc m) h es b b_lt legal within s.calls s.adverts) now);
        verify = others_kept w t h b i outcome.Lldp b_lt legal outcome.Verify (λ e. absurd (cc e)) _
            (subst (λ o. IsLatest (ReceivedOn h b outcome.Verify) (option_map (λ t. t.0) o)) (sym verify) s.verify);
        respond = others_kept w t h b i outcome.Lldp b_lt legal outcome.Respond (λ e. absurd (cc e)) _
            (subst (λ o. IsLatest (ReceivedOn h b outcome.Respond) (option_map (λ t. t.0) o)) (sym respond) s.respond);
      }
