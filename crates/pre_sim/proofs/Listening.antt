-- What an arrival says of the link partner.
use Rattle.std.proofs.Common.{ℕ, suc, ◌≡◌, ◌+◌, ◌<◌, List, [], ◌∷◌, ◌++◌, length, refl, sym, arith, subst}
use Rattle.std.specs.Prelude.{IsSome}
use Rattle.std.specs.List.{AllByRecursion as Every}
use Rattle.pre_mpacket.specs.Arrivals.{Given, Gives}
use Rattle.pre_lldp.specs.LldpLayout.{advert_of}
use Rattle.pre_history.specs.declared.events.Outcome.{Outcome}
use Rattle.pre_history.specs.declared.events.Outcome.TheVariants as outcome
use Rattle.pre_history.specs.Scenario.{Scenario}
use Rattle.pre_history.specs.History.{Arrive, History}
use Rattle.pre_history.specs.Queries.{Arrivals, Ends}
use Rattle.pre_history.specs.Octets.{Air}
use Rattle.pre_history.specs.Rules.{arrival}
use Rattle.pre_history.specs.Placed.{AllWithin, number}
use Rattle.pre_history.specs.Legal.{LegalUpTo}
use Rattle.pre_incoming.specs.declared.landings.Landed.{Landed}
use Rattle.pre_incoming.specs.declared.landings.Landed.TheVariants as landed
use Rattle.pre_incoming.specs.Landings.{result_of}
use Rattle.pre_links.specs.declared.partners.Partner.{Partner}
use Rattle.pre_links.specs.Listening.{Hears, IsSilent}
use Rattle.pre_links.proofs.Listened.{unheard_events}
use Rattle.pre_sim.specs.Arriving.{Listens}
use Rattle.pre_sim.proofs.GivenEnded.{given_ended}
use Rattle.pre_sim.proofs.NumberTests.{is_eq}

pub alone : (t a i : ℕ) (r : Outcome) → Arrivals (arrival t a i r ∷ []) a ≡ record { tick = t; arc = a; ord = i; result = r } ∷ []
alone t a i r = rw (is_eq a a refl) refl

-- by these results nothing is heard
pub lost_silent : IsSilent outcome.Lost
lost_silent = record { no_lldp = λ e. cc e; no_verify = λ e. cc e; no_respond = λ e. cc e }

pub frame_silent : IsSilent outcome.Frame
frame_silent = record { no_lldp = λ e. cc e; no_verify = λ e. cc e; no_respond = λ e. cc e }

pub part_silent : IsSilent outcome.Part
part_silent = record { no_lldp = λ e. cc e; no_verify = λ e. cc e; no_respond = λ e. cc e }

pub nothing_silent : IsSilent outcome.Nothing
nothing_silent = record { no_lldp = λ e. cc e; no_verify = λ e. cc e; no_respond = λ e. cc e }

-- the partner stays
pub listens_silent : (t : ℕ) (given : Landed) (octets : List ℕ) (partner : Partner) → IsSilent (result_of given) → Listens t given octets partner partner
listens_silent t given octets partner silent w h a a_lt legal heard advert =
    let here = number (length w.net.arcs) t (1 + length w.net.arcs + a) in
    let told = arrival t a (length (Arrivals h a)) (result_of given) in
    let at : AllWithin (length w.net.arcs) here (suc here) (told ∷ []) = ((here, omega arith, omega arith, (a_lt, refl)), tt) in
    unheard_events w here (suc here) h (told ∷ []) a partner a_lt legal at
    (subst (Every (λ (x : Arrive). IsSilent x.result)) (sym (alone t a (length (Arrivals h a)) (result_of given))) (silent, tt)) heard

-- an LLDP frame is heard that has ended
pub listens_lldp : (t : ℕ) (octets : List ℕ) (old new : Partner)
    → ((w : Scenario) (h : History) (a : ℕ) → a < length w.net.arcs → LegalUpTo w (number (length w.net.arcs) t (1 + length w.net.arcs + a)) h → Hears w h a old
    → length (Arrivals h a) < length (Ends h a) → Gives (Air w h a) (length (Arrivals h a)) (Given.frame octets) → IsSome (advert_of octets)
    → Hears w (h ++ arrival t a (length (Arrivals h a)) outcome.Lldp ∷ []) a new)
    → Listens t landed.Lldp octets old new
listens_lldp t octets old new hears w h a a_lt legal heard (gives, says) =
    hears w h a a_lt legal heard (given_ended w (number (length w.net.arcs) t (1 + length w.net.arcs + a)) h a a_lt legal (length (Arrivals h a)) (Given.frame octets) gives) gives says
