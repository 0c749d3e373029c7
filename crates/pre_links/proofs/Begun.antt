-- A link as an mPacket begins on its arc.
use Rattle.std.proofs.Common.{ℕ, suc, ◌≡◌, ◌+◌, ◌*◌, ◌<◌, ◌≤◌, [], ◌∷◌, ◌++◌, length, refl, sym, ◌∙◌, ap, inl, inr, arith, subst, Some, None, true, false}
use Rattle.std.specs.Prelude.{if◌then◌else◌, slice_get, option_map, Any}
use Rattle.std.specs.Bool.{Decides}
use Rattle.std.proofs.lemmas.List.{append-nil}
use Rattle.pre_mpacket.specs.declared.packets.Kind.{Kind}
use Rattle.pre_mpacket.specs.declared.packets.Kind.TheVariants as kind
use Rattle.pre_verify.specs.Calls.{begun, responds_of, verifies_of}
use Rattle.pre_verify.specs.Verifiers as verifiers
use Rattle.pre_verify.proofs.Runs.{good_of-push, verifies_of-push, responds_of-push}
use Rattle.pre_history.specs.declared.events.What.TheVariants as what
use Rattle.pre_history.specs.Scenario.{Scenario}
use Rattle.pre_history.specs.History.{History, Begin}
use Rattle.pre_history.specs.Selected.{is_verify}
use Rattle.pre_history.specs.Queries.{Begins}
use Rattle.pre_history.specs.LinkState.{Began}
use Rattle.pre_history.specs.Starts.{Choice}
use Rattle.pre_history.specs.Placed.{number}
use Rattle.pre_history.specs.Legal.{LegalUpTo}
use Rattle.pre_history.proofs.Lists.{any_at, at_end, at_last, found_at}
use Rattle.pre_history.proofs.InOrder.{steady}
use Rattle.pre_history.specs.Placed.{AllWithin}
use Rattle.pre_links.specs.Listening.{IsLatest}
use Rattle.pre_links.specs.Standing.{AreOver, IsOther, LinkStands, LldpDue, Verifies, begin_of}
use Rattle.pre_links.specs.declared.links.Link.{Link}
use Rattle.pre_links.proofs.Early.{behind, begun_early}
use Rattle.pre_links.proofs.Going.{goes_on, lldp_kept, responded_kept}
use Rattle.pre_links.proofs.Verifying.{begins_grow, one_begins, verifies_begun}

no_verify : (k : Kind) → ¬ (k ≡ kind.Verify) → is_verify k ≡ false
no_verify kind.Verify other = absurd (other refl)
no_verify kind.Express other = refl
no_verify kind.Respond other = refl
no_verify (kind.Start c) other = refl
no_verify (kind.Continue c n) other = refl

module _ (w : Scenario) (h : History) (a t : ℕ) (c : Choice) (a_lt : a < length w.net.arcs) (legal : LegalUpTo w (number (length w.net.arcs) t (2 + 3 * length w.net.arcs + a)) h) where
  abbrev here : ℕ
  here = number (length w.net.arcs) t (2 + 3 * length w.net.arcs + a)

  abbrev after : History
  after = h ++ begin_of h a t c ∷ []

  at_here : AllWithin (length w.net.arcs) here (suc here) (begin_of h a t c ∷ [])
  at_here = ((here, omega arith, omega arith, (a_lt, refl)), tt)

  over : AreOver w (t + 1) here
  over i lt = behind (length w.net.arcs) i t (2 + 3 * length w.net.arcs + a) (omega arith) lt

  abbrev begin : Begin
  begin = record { tick = t; arc = a; ord = length (Begins h a); kind = c.kind; what = c.what; from = c.from }

  began_now : (P : Begin → Type 0) → P begin → Any P (Begins after a)
  began_now P p = any_at P (Begins after a) (length (Begins h a)) begin (ap (λ xs. slice_get xs (length (Begins h a))) (begins_grow h a t c) ∙ at_last (Begins h a) begin) p

  begun_by : (i : ℕ) (b : Begin) → slice_get (Begins after a) i ≡ Some b → b.tick ≤ t
  begun_by i b at = elim (at_end (Begins h a) begin b i (ap (λ xs. slice_get xs i) (sym (begins_grow h a t c)) ∙ at)) [
    | inl old ↦ let lt = begun_early w t (2 + 3 * length w.net.arcs + a) h a legal (omega arith) i b old in omega (arith, lt)
    | inr (last, same) ↦ let now : t ≡ b.tick = ap (λ (b : Begin). b.tick) same in omega (arith, now)
  ]

  verifies_now : Verifies after a ≡ Verifies h a ++ (if is_verify c.kind then record { began = t; ended = None } ∷ [] else [])
  verifies_now = verifies_begun w h a t c (steady w here h a a_lt legal).ordered

  wants_kept : (state next : Link) (s : LinkStands w h a (t + 1) state) → ¬ (c.what ≡ what.Lldp) → next.wants_lldp ≡ state.wants_lldp → Decides next.wants_lldp (LldpDue w after a (t + 1))
  wants_kept state next s other wants =
      lldp_kept w here (suc here) h (begin_of h a t c ∷ []) a (t + 1) a_lt legal at_here over next.wants_lldp
      (λ j b at is. other (ap (λ (b : Begin). b.what) (one_begins h a t c j b at) ∙ is)) (subst (λ x. Decides x (LldpDue w h a (t + 1))) (sym wants) s.lldp)

  respond_kept : (state next : Link) (s : LinkStands w h a (t + 1) state) → ¬ (c.kind ≡ kind.Respond) → next.responded ≡ state.responded
      → IsLatest (Began after a kind.Respond) (option_map (λ t. t.0) next.responded)
  respond_kept state next s other responded =
      responded_kept w here (suc here) h (begin_of h a t c ∷ []) a (t + 1) a_lt legal at_here over _
      (λ j b at is. other (ap (λ (b : Begin). b.kind) (one_begins h a t c j b at) ∙ is)) (subst (λ o. IsLatest (Began h a kind.Respond) (option_map (λ t. t.0) o)) (sym responded) s.responded)

  pub verify_begins : (state next : Link) (s : LinkStands w h a (t + 1) state) → is_verify c.kind ≡ true → ¬ (c.kind ≡ kind.Respond) → ¬ (c.what ≡ what.Lldp)
      → verifiers.Stands next.verifier w.net.timing.verify (s.calls ++ begun t ∷ [])
      → next.setting ≡ state.setting → next.active ≡ state.active → next.wants_lldp ≡ state.wants_lldp → next.responded ≡ state.responded → LinkStands w after a (t + 1) next
  verify_begins state next s verify no_respond no_lldp stands setting active wants responded =
      goes_on w here (suc here) h (begin_of h a t c ∷ []) a (t + 1) a_lt legal at_here over state next s (s.calls ++ begun t ∷ []) stands (λ i. good_of-push s.calls (begun t) i)
      (verifies_of-push s.calls (begun t) ∙ ap (λ vs. vs ++ record { began = t; ended = None } ∷ []) s.verifies
      ∙ sym (verifies_now ∙ ap (λ b. Verifies h a ++ (if b then record { began = t; ended = None } ∷ [] else [])) verify))
      (responds_of-push s.calls (begun t) ∙ append-nil (responds_of s.calls)) setting active (wants_kept state next s no_lldp wants) (respond_kept state next s no_respond responded)

  -- what isn't a verify leaves the verifier
  same_verifies : (state : Link) (s : LinkStands w h a (t + 1) state) → is_verify c.kind ≡ false → verifies_of s.calls ≡ Verifies after a
  same_verifies state s none = s.verifies ∙ sym (verifies_now ∙ ap (λ b. Verifies h a ++ (if b then record { began = t; ended = None } ∷ [] else [])) none ∙ append-nil (Verifies h a))

  pub respond_begins : (state next : Link) (s : LinkStands w h a (t + 1) state) → c.kind ≡ kind.Respond → ¬ (c.what ≡ what.Lldp)
      → next.verifier ≡ state.verifier → next.setting ≡ state.setting → next.active ≡ state.active → next.wants_lldp ≡ state.wants_lldp
      → option_map (λ t. t.0) next.responded ≡ Some t → LinkStands w after a (t + 1) next
  respond_begins state next s respond no_lldp verifier setting active wants responded =
      goes_on w here (suc here) h (begin_of h a t c ∷ []) a (t + 1) a_lt legal at_here over state next s s.calls
      (subst (λ v. verifiers.Stands v w.net.timing.verify s.calls) (sym verifier) s.stands) (λ i. refl)
      (same_verifies state s (ap is_verify respond)) refl setting active (wants_kept state next s no_lldp wants)
      (subst (IsLatest (Began after a kind.Respond)) (sym responded) (
        began_now (λ b. (b.kind ≡ kind.Respond) × (b.tick ≡ t)) (respond, refl),
        λ i (k, b, lt, is, (same, tick)). let by = begun_by k b (found_at (Begins after a) k b lt is) in omega (arith, by, tick),
      ))

  pub lldp_begins_now : (state next : Link) (s : LinkStands w h a (t + 1) state) → is_verify c.kind ≡ false → ¬ (c.kind ≡ kind.Respond) → c.what ≡ what.Lldp
      → next.verifier ≡ state.verifier → next.setting ≡ state.setting → next.active ≡ state.active → next.wants_lldp ≡ false → next.responded ≡ state.responded → LinkStands w after a (t + 1) next
  lldp_begins_now state next s none no_respond lldp verifier setting active wants responded =
      goes_on w here (suc here) h (begin_of h a t c ∷ []) a (t + 1) a_lt legal at_here over state next s s.calls
      (subst (λ v. verifiers.Stands v w.net.timing.verify s.calls) (sym verifier) s.stands) (λ i. refl)
      (same_verifies state s none) refl setting active
      (subst (λ x. Decides x (LldpDue w after a (t + 1))) (sym wants) (
        (λ e. absurd (cc e)),
        λ (x, lt, cause, since). absurd (since t (omega (arith, lt)) (began_now (λ b. (b.what ≡ what.Lldp) × (b.tick ≡ t)) (lldp, refl))),
      )) (respond_kept state next s no_respond responded)

  pub other_begin : (state : Link) (s : LinkStands w h a (t + 1) state) → IsOther c → LinkStands w after a (t + 1) state
  other_begin state s other =
      goes_on w here (suc here) h (begin_of h a t c ∷ []) a (t + 1) a_lt legal at_here over state state s s.calls s.stands (λ i. refl)
      (same_verifies state s (no_verify c.kind other.no_verify)) refl refl refl
      (wants_kept state state s other.no_lldp refl) (respond_kept state state s other.no_respond refl)
