-- What a tick told leaves of the relation.
use Rattle.std.proofs.Common.{ℕ, ◌≡◌, ◌+◌, ◌*◌, ◌<◌, ◌≤◌, Bool, true, false, List, [], ◌∷◌, ◌++◌, length, refl, sym, subst, arith, Option, Some, None}
use Rattle.std.specs.Prelude.{IsSome}
use Rattle.pre_send.specs.declared.senders.Sender.{Sender}
use Rattle.pre_send.specs.Calls.{waited}
use Rattle.pre_send.specs.Sendings.{Sending, IsSending}
use Rattle.pre_send.specs.Endings.{plans_end}
use Rattle.pre_send.specs.Senders.{Stands}
use Rattle.pre_history.specs.Scenario.{Scenario, arc}
use Rattle.pre_history.specs.History.{History}
use Rattle.pre_history.specs.Starts.{ExpressWaits}
use Rattle.pre_history.specs.Legal.{LegalUpTo}
use Rattle.pre_history.specs.Placed.{number}
use Rattle.pre_outgoing.specs.declared.outgoing.Outgoing.{Outgoing}
use Rattle.pre_outgoing.specs.Sends.{Sends}
use Rattle.pre_outgoing.proofs.Ahead.{waited_ahead}
use Rattle.pre_outgoing.proofs.Fields.{planned_at}
use Rattle.pre_outgoing.proofs.Keeping.{with_sender}
use Rattle.pre_outgoing.proofs.Telling.{told, untold}

module _ (w : Scenario) (past : History) (t a : ℕ) (o new : Outgoing) (a_lt : a < length w.net.arcs) (legal : LegalUpTo w (number (length w.net.arcs) t (2 + 3 * length w.net.arcs + a)) past)
    (sends : Sends w past a t false o) where
  pub settles_waiting : ExpressWaits w past a t → Stands new.sender (arc w a).cost (arc w a).add_frag (sends.calls ++ waited t ∷ [])
      → new.begun ≡ o.begun → new.continued ≡ o.continued → new.carried ≡ o.carried → new.advert ≡ o.advert → Sends w past a (t + 1) true new
  settles_waiting waits stands begun continued carried advert =
      with_sender w past past a t (t + 1) false true o new (omega arith) refl refl (λ u lt. refl) sends (sends.calls ++ waited t ∷ []) stands
      (told w past t a a_lt legal sends.calls sends.matches waits) begun continued carried advert

pub settles_quiet : (w : Scenario) (past : History) (t a : ℕ) (o : Outgoing) → a < length w.net.arcs → LegalUpTo w (number (length w.net.arcs) t (2 + 3 * length w.net.arcs + a)) past
    → Sends w past a t false o → (¬ ExpressWaits w past a t) → Sends w past a (t + 1) true o
settles_quiet w past t a o a_lt legal sends quiet =
    with_sender w past past a t (t + 1) false true o o (omega arith) refl refl (λ u lt. refl) sends sends.calls sends.stands
    (untold w past t a a_lt legal sends.calls sends.matches quiet) refl refl refl refl

-- it still ends later
pub still_ahead : (w : Scenario) (past : History) (t a n due : ℕ) (settled : Bool) (o : Outgoing) (new : Sender) → 1 ≤ (arc w a).cost → (sends : Sends w past a n settled o)
    → Stands new (arc w a).cost (arc w a).add_frag (sends.calls ++ waited t ∷ []) → plans_end o.sender ≡ Some due → (IsSome (plans_end o.sender) → IsSome (plans_end new)) → t < due
    → (later : ℕ) × (plans_end new ≡ Some later) × (t < later)
still_ahead w past t a n due settled o new some sends stands is some_end lt = by_end (plans_end new) refl (some_end (subst (λ e. IsSome e) (sym is) refl))
  where
    by_packets : (later : ℕ) → plans_end new ≡ Some later → (ps qs : List Sending) → IsSending (arc w a).cost (arc w a).add_frag sends.calls ps
        → IsSending (arc w a).cost (arc w a).add_frag (sends.calls ++ waited t ∷ []) qs → t < later
    by_packets later is' [] qs old next = absurd (planned_at o.sender (arc w a).cost (arc w a).add_frag sends.calls [] due sends.stands old is)
    by_packets later is' (p ∷ older) [] old next = absurd (planned_at new (arc w a).cost (arc w a).add_frag (sends.calls ++ waited t ∷ []) [] later stands next is')
    by_packets later is' (p ∷ older) (q ∷ more) old next =
        let plan = planned_at o.sender (arc w a).cost (arc w a).add_frag sends.calls (p ∷ older) due sends.stands old is in
        let plan' = planned_at new (arc w a).cost (arc w a).add_frag (sends.calls ++ waited t ∷ []) (q ∷ more) later stands next is' in
        let ahead = waited_ahead (arc w a).cost (arc w a).add_frag t sends.calls p q older more some old plan.0 next (subst (λ n. t < n) plan.1 lt) in
        subst (λ n. t < n) (sym plan'.1) ahead

    by_end : (e : Option ℕ) → plans_end new ≡ e → IsSome e → (later : ℕ) × (plans_end new ≡ Some later) × (t < later)
    by_end None is' some' = absurd (cc some')
    by_end (Some later) is' some' = (later, is', by_packets later is' sends.matches.packets stands.packets sends.matches.sending stands.sending)
