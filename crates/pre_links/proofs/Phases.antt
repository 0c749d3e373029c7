-- The events of a phase, for an arc that it isn't of.
use Rattle.std.proofs.Common.{ℕ, suc, ◌<◌, [], ◌++◌, length, arith, subst, sym}
use Rattle.std.specs.Prelude.{◌≢◌}
use Rattle.std.specs.List.{AllByRecursion as Every}
use Rattle.pre_history.specs.Scenario.{Scenario}
use Rattle.pre_history.specs.History.{Arrive, History}
use Rattle.pre_history.specs.Moments.{Phase, moments, place_of}
use Rattle.pre_history.specs.Placed.{AllAt, AllWithin, HasPlace, IsAt, IsWithin, moment_of}
use Rattle.pre_history.specs.Rules.{HappensIn}
use Rattle.pre_history.specs.Legal.{LegalUpTo}
use Rattle.pre_history.proofs.Lists.{every_weaker}
use Rattle.pre_history.proofs.Placing.{phase_events}
use Rattle.pre_history.proofs.Turns.{same_arrivals, same_begins, same_ends}
use Rattle.pre_links.specs.Listening.{Hears, IsSilent}
use Rattle.pre_links.specs.Standing.{AreOver, LinkStands}
use Rattle.pre_links.specs.declared.links.Link.{Link}
use Rattle.pre_links.specs.declared.partners.Partner.{Partner}
use Rattle.pre_links.proofs.Elsewhere.{elsewhere}
use Rattle.pre_links.proofs.Listened.{unheard_events}

-- each place is one of the tick's moments
pub place_within : (arcs : ℕ) (p : Phase) → HasPlace arcs (place_of arcs p) p → place_of arcs p < moments arcs
place_within arcs Phase.sets place = omega arith
place_within arcs (Phase.ends a) (lt, place) = omega (arith, lt)
place_within arcs (Phase.arrivals a) (lt, place) = omega (arith, lt)
place_within arcs (Phase.expiries a) (lt, place) = omega (arith, lt)
place_within arcs Phase.entries place = omega arith
place_within arcs (Phase.starts a) (lt, place) = omega (arith, lt)

module _ (w : Scenario) (t : ℕ) (p : Phase) (h es : History) (a : ℕ) (a_lt : a < length w.net.arcs) (place : HasPlace (length w.net.arcs) (place_of (length w.net.arcs) p) p)
    (legal : LegalUpTo w (moment_of w t p) h) (happens : HappensIn w h t p es) where
  abbrev k : ℕ
  k = place_of (length w.net.arcs) p

  at : AllAt (length w.net.arcs) (moment_of w t p) es
  at = phase_events w h t k p es place happens

  within : AllWithin (length w.net.arcs) (moment_of w t p) (suc (moment_of w t p)) es
  within = every_weaker (IsAt (length w.net.arcs) (moment_of w t p)) (IsWithin (length w.net.arcs) (moment_of w t p) (suc (moment_of w t p)))
      (λ e here. (moment_of w t p, omega arith, omega arith, here)) es at

  pub still_hears : (partner : Partner) → k ≢ place_of (length w.net.arcs) (Phase.arrivals a) → Hears w h a partner → Hears w (h ++ es) a partner
  still_hears partner other heard =
      unheard_events w (moment_of w t p) (suc (moment_of w t p)) h es a partner a_lt legal within
      (subst (Every (λ (x : Arrive). IsSilent x.result)) (sym (same_arrivals (length w.net.arcs) t k a (place_within (length w.net.arcs) p place) a_lt [] es other at)) tt) heard

  pub still_stands : (n : ℕ) (link : Link) → AreOver w n (moment_of w t p) → k ≢ place_of (length w.net.arcs) (Phase.ends a) → k ≢ place_of (length w.net.arcs) (Phase.starts a)
      → LinkStands w h a n link → LinkStands w (h ++ es) a n link
  still_stands n link over no_end no_start s =
      elsewhere w (moment_of w t p) (suc (moment_of w t p)) h es a n link a_lt legal within over
      (same_begins (length w.net.arcs) t k a (place_within (length w.net.arcs) p place) a_lt [] es no_start at)
      (same_ends (length w.net.arcs) t k a (place_within (length w.net.arcs) p place) a_lt [] es no_end at) s
