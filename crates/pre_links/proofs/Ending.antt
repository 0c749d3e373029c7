-- A link as an mPacket ends on its arc.
use Rattle.std.proofs.Common.{ℕ, suc, ◌≡◌, ◌+◌, ◌<◌, List, [], ◌∷◌, ◌++◌, length, refl, sym, ◌∙◌, ap, arith, subst, true, false}
use Rattle.std.specs.Prelude.{option_map}
use Rattle.std.specs.Bool.{Decides}
use Rattle.std.proofs.lemmas.List.{append-nil}
use Rattle.pre_lldp.specs.LinkState as link
use Rattle.pre_mpacket.specs.declared.packets.Kind.TheVariants as kind
use Rattle.pre_verify.specs.Calls.{Call, ended, end_last, good_of, is_going, responds_of, verifies_of}
use Rattle.pre_verify.specs.Verifiers as verifiers
use Rattle.pre_verify.proofs.Runs.{good_of-push, verifies_of-push, responds_of-push}
use Rattle.pre_history.specs.Scenario.{Scenario}
use Rattle.pre_history.specs.History.{History, Ended, PlainEvent}
use Rattle.pre_history.specs.Queries.{Begins, Ends}
use Rattle.pre_history.specs.LinkState.{Began}
use Rattle.pre_history.specs.Placed.{number}
use Rattle.pre_history.specs.Legal.{LegalUpTo}
use Rattle.pre_history.proofs.InOrder.{steady}
use Rattle.pre_history.specs.Placed.{AllWithin}
use Rattle.pre_links.specs.Listening.{IsLatest}
use Rattle.pre_links.specs.Standing.{AreOver, LinkStands, LldpDue, Verifies}
use Rattle.pre_links.specs.declared.links.Link.{Link}
use Rattle.pre_links.proofs.Early.{before}
use Rattle.pre_links.proofs.Going.{goes_on, lldp_kept, responded_kept}
use Rattle.pre_links.proofs.Verifying.{ending, ended_going, ended_calm}

module _ (w : Scenario) (h : History) (a t : ℕ) (e : Ended) (a_lt : a < length w.net.arcs) (legal : LegalUpTo w (number (length w.net.arcs) t (1 + a)) h)
    (arc_is : e.arc ≡ a) (tick : e.tick ≡ t) (ord : e.ord ≡ length (Ends h a)) (open' : length (Ends h a) < length (Begins h a)) where
  abbrev here : ℕ
  here = number (length w.net.arcs) t (1 + a)

  abbrev after : History
  after = h ++ PlainEvent.ended e ∷ []

  at_here : AllWithin (length w.net.arcs) here (suc here) (PlainEvent.ended e ∷ [])
  at_here = (
    (
      here,
      omega arith,
      omega arith,
      (subst (λ x. x < length w.net.arcs) (sym arc_is) a_lt, ap (λ s. number (length w.net.arcs) s (1 + a)) (sym tick) ∙ ap (λ x. number (length w.net.arcs) e.tick (1 + x)) (sym arc_is)),
    ),
    tt,
  )

  over : AreOver w t here
  over i lt = before (length w.net.arcs) i t (1 + a) lt

  step : (state next : Link) (s : LinkStands w h a t state) (calls : List Call) → verifiers.Stands next.verifier w.net.timing.verify calls
      → ((i : ℕ) → good_of calls i ≡ good_of s.calls i) → verifies_of calls ≡ Verifies after a → responds_of calls ≡ responds_of s.calls
      → next.setting ≡ state.setting → next.active ≡ state.active → next.wants_lldp ≡ state.wants_lldp → next.responded ≡ state.responded → LinkStands w after a t next
  step state next s calls stands good verifies responds setting active wants responded =
      goes_on w here (suc here) h (PlainEvent.ended e ∷ []) a t a_lt legal at_here over state next s calls stands good verifies responds setting active
      (lldp_kept w here (suc here) h (PlainEvent.ended e ∷ []) a t a_lt legal at_here over next.wants_lldp (λ j b at. absurd (cc at)) (subst (λ x. Decides x (LldpDue w h a t)) (sym wants) s.lldp))
      (responded_kept w here (suc here) h (PlainEvent.ended e ∷ []) a t a_lt legal at_here over _ (λ j b at. absurd (cc at))
      (subst (λ o. IsLatest (Began h a kind.Respond) (option_map (λ t. t.0) o)) (sym responded) s.responded))

  -- the verify under way ends
  pub verify_ends : (state next : Link) (s : LinkStands w h a t state) → is_going (link.last_verify (verifies_of s.calls)) ≡ true
      → verifiers.Stands next.verifier w.net.timing.verify (s.calls ++ ended t ∷ [])
      → next.setting ≡ state.setting → next.active ≡ state.active → next.wants_lldp ≡ state.wants_lldp → next.responded ≡ state.responded → LinkStands w after a t next
  verify_ends state next s going stands setting active wants responded =
      let r = ending w h a e (steady w here h a a_lt legal).ordered arc_is ord open' in
      let goes : is_going (link.last_verify (Verifies h a)) ≡ true = ap (λ vs. is_going (link.last_verify vs)) (sym s.verifies) ∙ going in
      step state next s (s.calls ++ ended t ∷ []) stands (λ i. good_of-push s.calls (ended t) i)
      (verifies_of-push s.calls (ended t) ∙ ap (end_last t) s.verifies ∙ sym (ended_going t (Verifies h a) (Verifies after a) r.others r.last e r.before r.after tick r.over goes))
      (responds_of-push s.calls (ended t) ∙ append-nil (responds_of s.calls)) setting active wants responded

  -- another mPacket ends
  pub other_ends : (state : Link) (s : LinkStands w h a t state) → is_going (link.last_verify (verifies_of s.calls)) ≡ false → LinkStands w after a t state
  other_ends state s calm =
      let r = ending w h a e (steady w here h a a_lt legal).ordered arc_is ord open' in
      let rests : is_going (link.last_verify (Verifies h a)) ≡ false = ap (λ vs. is_going (link.last_verify vs)) (sym s.verifies) ∙ calm in
      step state state s s.calls s.stands (λ i. refl) (s.verifies ∙ sym (ended_calm (Verifies h a) (Verifies after a) r.others r.last e r.before r.after rests)) refl refl refl refl refl
