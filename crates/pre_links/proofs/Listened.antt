-- What was heard of a partner, as events follow.
use Rattle.std.proofs.Common.{ℕ, suc, ◌≡◌, ◌<◌, false, List, [], ◌∷◌, ◌++◌, length, refl, sym, ◌∙◌, ap, arith, subst, Some, filter}
use Rattle.std.specs.Prelude.{◌↔◌, slice_get}
use Rattle.std.specs.List.{AllZip, AllByRecursion as Every}
use Rattle.std.proofs.lemmas.List.{append-nil}
use Rattle.std.proofs.lemmas.List.Elements.{filter_map-append, filter-append}
use Rattle.pre_lldp.specs.Ages.{Heard}
use Rattle.pre_mpacket.specs.Arrivals.{Given}
use Rattle.pre_history.specs.declared.events.Outcome.{Outcome}
use Rattle.pre_history.specs.declared.events.Outcome.TheVariants as outcome
use Rattle.pre_history.specs.Scenario.{Scenario}
use Rattle.pre_history.specs.History.{History, Arrive}
use Rattle.pre_history.specs.Selected.{arrive_on, is_lldp_result}
use Rattle.pre_history.specs.Queries.{Arrivals, Ends}
use Rattle.pre_history.specs.Legal.{LegalUpTo}
use Rattle.pre_history.proofs.Lists.{every_weaker, filter_nil, within as place_within}
use Rattle.pre_history.proofs.Chosen.{from_filter}
use Rattle.pre_history.proofs.InOrder.{steady}
use Rattle.pre_history.specs.Placed.{AllWithin}
use Rattle.pre_history.proofs.AirStays.{gives_stays}
use Rattle.pre_history.proofs.Zips.{any_stays}
use Rattle.pre_links.specs.Listening.{Hears, IsSilent, LldpArrivals, ReceivedOn, SaysOn}
use Rattle.pre_links.specs.declared.partners.Partner.{Partner}
use Rattle.pre_links.proofs.Latest.{latest_like}
use Rattle.pre_history.proofs.Lists.{every_at}

-- lists that agree one by one agree by another relation that each pair of them has too
zip_weaker : {X Y : Type 0} (R S : X → Y → Type 0) (xs : List X) (ys : List Y) → ((i : ℕ) (x : X) (y : Y) → slice_get xs i ≡ Some x → R x y → S x y) → AllZip R xs ys → AllZip S xs ys
zip_weaker R S [] [] says z = tt
zip_weaker R S [] (y ∷ ys) says z = absurd z
zip_weaker R S (x ∷ xs) [] says z = absurd z
zip_weaker R S (x ∷ xs) (y ∷ ys) says (here, more) = (says 0 x y refl here, zip_weaker R S xs ys (λ i z v at. says (suc i) z v at) more)

pub zip_push : {X Y : Type 0} (R : X → Y → Type 0) (xs : List X) (ys : List Y) (x : X) (y : Y) → AllZip R xs ys → R x y → AllZip R (xs ++ x ∷ []) (ys ++ y ∷ [])
zip_push R [] [] x y z r = (r, tt)
zip_push R [] (v ∷ ys) x y z r = absurd z
zip_push R (u ∷ xs) [] x y z r = absurd z
zip_push R (u ∷ xs) (v ∷ ys) x y (here, more) r = (here, zip_push R xs ys x y more r)

module _ (w : Scenario) (m n : ℕ) (h es : History) (b : ℕ) (b_lt : b < length w.net.arcs) (legal : LegalUpTo w m h) (within : AllWithin (length w.net.arcs) m n es) where
  -- what frames heard before say stays
  pub still_says : (i : ℕ) (x : Arrive) (heard : Heard) → slice_get (LldpArrivals h b) i ≡ Some x → SaysOn w h b x heard → SaysOn w (h ++ es) b x heard
  still_says i x heard at (tick, (octets, gives, says)) =
      let p = from_filter (λ (x : Arrive). is_lldp_result x.result) (Arrivals h b) i x at in
      let o = (steady w m h b b_lt legal).ordered in
      let ord : x.ord ≡ p.0 = o.arrival_places p.0 x p.1 in
      let lt : x.ord < length (Ends h b) = omega (arith, ord, place_within (Arrivals h b) p.0 x p.1, o.arrivals_ended) in
      (tick, (octets, (gives_stays w m n h es legal within b b_lt x.ord lt (Given.frame octets)).1 gives, says))

  pub still_say : (calls : List Heard) → AllZip (SaysOn w h b) (LldpArrivals h b) calls → AllZip (SaysOn w (h ++ es) b) (LldpArrivals h b) calls
  still_say calls z = zip_weaker (SaysOn w h b) (SaysOn w (h ++ es) b) (LldpArrivals h b) calls still_says z

  pub lldp_arrivals : LldpArrivals (h ++ es) b ≡ LldpArrivals h b ++ filter (λ (x : Arrive). is_lldp_result x.result) (Arrivals es b)
  lldp_arrivals = ap (filter (λ (x : Arrive). is_lldp_result x.result)) (filter_map-append (arrive_on b) h es) ∙ filter-append (λ (x : Arrive). is_lldp_result x.result) (Arrivals h b) (Arrivals es b)

  -- a result that doesn't come
  pub not_received : (r : Outcome) → ((j : ℕ) (x : Arrive) → slice_get (Arrivals es b) j ≡ Some x → ¬ (x.result ≡ r)) → (t : ℕ) → ReceivedOn (h ++ es) b r t ↔ ReceivedOn h b r t
  not_received r none t =
      any_stays (λ (x : Arrive). (x.result ≡ r) × (x.tick ≡ t)) (Arrivals (h ++ es) b) (Arrivals h b) (Arrivals es b) (filter_map-append (arrive_on b) h es) (λ j x at p. none j x at p.0)

no_lldp : (r : Outcome) → ¬ (r ≡ outcome.Lldp) → is_lldp_result r ≡ false
no_lldp outcome.Lldp other = absurd (other refl)
no_lldp outcome.Frame other = refl
no_lldp outcome.Part other = refl
no_lldp outcome.Verify other = refl
no_lldp outcome.Respond other = refl
no_lldp outcome.Lost other = refl
no_lldp outcome.Nothing other = refl

pub unheard_events : (w : Scenario) (m n : ℕ) (h es : History) (b : ℕ) (partner : Partner) → b < length w.net.arcs → LegalUpTo w m h → AllWithin (length w.net.arcs) m n es
    → Every (λ (x : Arrive). IsSilent x.result) (Arrivals es b) → Hears w h b partner → Hears w (h ++ es) b partner
unheard_events w m n h es b partner b_lt legal within silent s =
    let each : (j : ℕ) (x : Arrive) → slice_get (Arrivals es b) j ≡ Some x → IsSilent x.result = λ j x at. every_at (λ (x : Arrive). IsSilent x.result) (Arrivals es b) j x silent at in
    let none : filter (λ (x : Arrive). is_lldp_result x.result) (Arrivals es b) ≡ []
    = filter_nil (λ (x : Arrive). is_lldp_result x.result) (Arrivals es b)
    (every_weaker (λ (x : Arrive). IsSilent x.result) (λ x. is_lldp_result x.result ≡ false) (λ x q. no_lldp x.result q.no_lldp) (Arrivals es b) silent) in
    let same : LldpArrivals (h ++ es) b ≡ LldpArrivals h b = lldp_arrivals w m n h es b b_lt legal within ∙ ap (λ xs. LldpArrivals h b ++ xs) none ∙ append-nil (LldpArrivals h b) in
    record {
      calls = s.calls;
      stands = s.stands;
      adverts = subst (λ xs. AllZip (SaysOn w (h ++ es) b) xs s.calls) (sym same) (still_say w m n h es b b_lt legal within s.calls s.adverts);
      verify = latest_like (ReceivedOn h b outcome.Verify) (ReceivedOn (h ++ es) b outcome.Verify) _
          (not_received w m n h es b b_lt legal within outcome.Verify (λ j x at. (each j x at).no_verify)) s.verify;
      respond = latest_like (ReceivedOn h b outcome.Respond) (ReceivedOn (h ++ es) b outcome.Respond) _
          (not_received w m n h es b b_lt legal within outcome.Respond (λ j x at. (each j x at).no_respond)) s.respond;
    }
