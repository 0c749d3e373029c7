-- A link at the expiries of its arc.
use Rattle.std.proofs.Common.{ℕ, suc, ◌≡◌, ◌+◌, ◌*◌, ◌%◌, ◌<◌, ◌≤◌, ◌⊎◌, Bool, true, false, List, []}
use Rattle.std.proofs.Common.{◌∷◌, ◌++◌, length, refl, sym, ◌∙◌, ap, inl, inr, arith, subst, Option, Some, None}
use Rattle.std.specs.Prelude.{◌↔◌, ◌≢◌, if◌then◌else◌, slice_get, option_map, Any}
use Rattle.std.specs.Bool.{Decides}
use Rattle.std.proofs.lemmas.Bool.{cases_lt}
use Rattle.pre_base.specs.declared.numbers.Tick.{Tick}
use Rattle.pre_topo.specs.declared.arcs.Mode.TheVariants as mode
use Rattle.pre_topo.specs.Arcs.{reverse_of}
use Rattle.pre_script.specs.declared.scripts.Setting.{Setting}
use Rattle.pre_script.specs.declared.scripts.Setting.TheVariants as settings
use Rattle.pre_lldp.specs.LinkState as link
use Rattle.pre_mpacket.specs.declared.packets.Kind.TheVariants as kind
use Rattle.pre_verify.specs.Calls.{Call, good_of, responds_of, verified_at, verifies_of}
use Rattle.pre_verify.specs.Verifiers as verifiers
use Rattle.pre_history.specs.declared.events.Outcome.TheVariants as outcome
use Rattle.pre_history.specs.Scenario.{Scenario, arc}
use Rattle.pre_history.specs.History.{History, Begin, PlainEvent}
use Rattle.pre_history.specs.Queries.{Arrivals, Begins, SettingOf}
use Rattle.pre_history.specs.LinkState.{Active, ActiveBefore, Began, Falls, Good, IsWanting, LldpBegan, Received, Rises, SettingBefore}
use Rattle.pre_history.specs.Rules.{HappensIn, change}
use Rattle.pre_history.specs.Moments.{Phase}
use Rattle.pre_history.specs.Placed.{number}
use Rattle.pre_history.specs.Legal.{LegalUpTo}
use Rattle.pre_history.proofs.Lists.{any_at, at_end, at_front, found_at}
use Rattle.pre_history.proofs.LaterEnds.{split_at}
use Rattle.pre_links.specs.Listening.{Hears, IsLatest, ReceivedOn}
use Rattle.pre_links.specs.Standing.{AreOver, LinkStands, LldpDue, Verifies, settling, told}
use Rattle.pre_links.specs.declared.links.Link.{Link}
use Rattle.pre_links.specs.declared.partners.Partner.{Partner}
use Rattle.pre_links.proofs.Early.{arrived_by, begun_early, behind}
use Rattle.pre_links.proofs.Elsewhere.{elsewhere}
use Rattle.pre_links.proofs.Computed.{active_told}
use Rattle.pre_links.proofs.Told.{good_settling, responds_settling, ticks, verifies_settling}
use Rattle.pre_links.proofs.Numbers.{is_by, not_by}

any_before : {X : Type 0} (P : X → Type 0) (xs ys : List X) → Any P xs → Any P (xs ++ ys)
any_before P xs ys (k, x, lt, is, p) = any_at P (xs ++ ys) k x (at_front xs ys k x (found_at xs k x lt is)) p

any_behind : {X : Type 0} (P : X → Type 0) (xs ys : List X) → Any P ys → Any P (xs ++ ys)
any_behind P [] ys any = any
any_behind P (x ∷ xs) ys any = let (k, y, lt, is, p) = any_behind P xs ys any in any_at P (x ∷ (xs ++ ys)) (suc k) y (found_at (xs ++ ys) k y lt is) p

any_parts : {X : Type 0} (P : X → Type 0) (xs ys : List X) → Any P (xs ++ ys) → Any P xs ⊎ Any P ys
any_parts P xs ys (k, x, lt, is, p) = elim (split_at xs ys k x (found_at (xs ++ ys) k x lt is)) [
  | inl old ↦ inl (any_at P xs k x old p)
  | inr new ↦ inr (any_at P ys new.0 x new.1 p)
]

-- whether a tick is that of a respond told
one_tick : (t r : ℕ) (responds : Bool) → Any (λ x. x ≡ r) (ticks t responds) → (t ≡ r) × (responds ≡ true)
one_tick t r true (k, x, lt, is, p) = elim (at_end [] t x k (found_at (t ∷ []) k x lt is)) [
  | inl none ↦ absurd (cc none)
  | inr (last, same) ↦ (same ∙ p, refl)
]
one_tick t r false (k, x, lt, is, p) = absurd (omega (arith, lt))

module _ (w : Scenario) (t : ℕ) (h : History) (a : ℕ) (a_lt : a < length w.net.arcs) (talks : (arc w a).mode ≡ mode.Negotiate)
    (legal : LegalUpTo w (number (length w.net.arcs) t (1 + 2 * length w.net.arcs + a)) h)
    (state : Link) (partner : Partner) (s : LinkStands w h a t state) (heard : Hears w h (reverse_of a) partner) (next : Link) (good responds cause : Bool) (setting : Setting)
    (good_is : Decides good (Good w h a t)) (responds_is : Decides responds (option_map (λ (x : Tick). x.0) partner.respond ≡ Some t))
    (stands : verifiers.Stands next.verifier w.net.timing.verify (s.calls ++ settling t good responds)) (active_is : next.active ≡ verified_at (s.calls ++ settling t good responds) t)
    (setting_is : setting ≡ SettingOf w a t) (next_setting : next.setting ≡ setting) (cause_is : Decides cause ((t % w.net.timing.interval ≡ 0) ⊎ (next.active ≢ state.active)))
    (wants_is : Decides next.wants_lldp ((state.wants_lldp ≡ true) ⊎ (setting ≢ state.setting) ⊎ (setting ≢ settings.Gone) × (cause ≡ true))) (responded_is : next.responded ≡ state.responded) where
  abbrev calls : List Call
  calls = s.calls ++ settling t good responds

  early : (i : ℕ) (b : Begin) → slice_get (Begins h a) i ≡ Some b → b.tick < t
  early i b at = begun_early w t (1 + 2 * length w.net.arcs + a) h a legal (omega arith) i b at

  received_by : (r : ℕ) → Received h a outcome.Respond r → r ≤ t
  received_by r (k, x, lt, is, (same, tick)) = let by = arrived_by w t (1 + 2 * length w.net.arcs + a) h (reverse_of a) legal (omega (arith, a_lt)) k x
      (found_at (Arrivals h (reverse_of a)) k x lt is) in omega (arith, by, tick)

  responds_received : Decides responds (Received h a outcome.Respond t)
  responds_received = (
    (λ is. (subst (IsLatest (ReceivedOn h (reverse_of a) outcome.Respond)) (responds_is.0 is) heard.respond).0),
    (λ got. responds_is.1 (latest got (option_map (λ (x : Tick). x.0) partner.respond) heard.respond)),
  )
    where
      latest : Received h a outcome.Respond t → (o : Option ℕ) → IsLatest (ReceivedOn h (reverse_of a) outcome.Respond) o → o ≡ Some t
      latest got None none = absurd (none t got)
      latest got (Some r) (here, most) = let by = received_by r here in let le = most t got in let same : r ≡ t = omega (arith, by, le) in ap Some same

  good_all : (i : ℕ) → i < t + 1 → Decides (good_of calls i) (Good w h a i)
  good_all i lt = elim (cases_lt i t) [
    | inl less ↦ subst (λ b. Decides b (Good w h a i)) (sym (good_settling s.calls t i good responds ∙ ap (λ (b : Bool). if b then good else good_of s.calls i) (not_by t i less))) (s.good i less)
    | inr more ↦
        let same : t ≡ i = omega (arith, lt, more) in
        subst (λ b. Decides b (Good w h a i)) (sym (good_settling s.calls t i good responds ∙ ap (λ (b : Bool). if b then good else good_of s.calls i) (is_by t i more)))
        (subst (λ x. Decides good (Good w h a x)) same good_is)
  ]

  verifies_all : verifies_of calls ≡ Verifies h a
  verifies_all = verifies_settling s.calls t good responds ∙ s.verifies

  responds_from : (r : ℕ) → Any (λ x. x ≡ r) (responds_of s.calls ++ ticks t responds) → (r < t + 1) × Received h a outcome.Respond r
  responds_from r any = elim (any_parts (λ x. x ≡ r) (responds_of s.calls) (ticks t responds) any) [
    | inl old ↦ let p = (s.responds r).0 old in (omega (arith, p.0), p.1)
    | inr new ↦ let p = one_tick t r responds new in (omega (arith, p.0), subst (Received h a outcome.Respond) p.0 (responds_received.0 p.1))
  ]

  responds_to : (r : ℕ) → (r < t + 1) × Received h a outcome.Respond r → Any (λ x. x ≡ r) (responds_of s.calls ++ ticks t responds)
  responds_to r (lt, got) = elim (cases_lt r t) [
    | inl less ↦ any_before (λ x. x ≡ r) (responds_of s.calls) (ticks t responds) ((s.responds r).1 (less, got))
    | inr more ↦
        let same : t ≡ r = omega (arith, lt, more) in
        let is : responds ≡ true = responds_received.1 (subst (Received h a outcome.Respond) (sym same) got) in
        any_behind (λ x. x ≡ r) (responds_of s.calls) (ticks t responds) (subst (λ b. Any (λ x. x ≡ r) (ticks t b)) (sym is) (any_at (λ x. x ≡ r) (t ∷ []) 0 t refl same))
  ]

  responds_all : (r : ℕ) → Any (λ x. x ≡ r) (responds_of calls) ↔ ((r < t + 1) × Received h a outcome.Respond r)
  responds_all r = subst (λ rs. Any (λ x. x ≡ r) rs ↔ ((r < t + 1) × Received h a outcome.Respond r)) (sym (responds_settling s.calls t good responds)) (responds_from r, responds_to r)

  active_now : Decides next.active (Active w h a t)
  active_now =
      subst (λ b. Decides b (Active w h a t)) (sym (active_is ∙ ap (λ vs. link.is_verified (good_of calls) vs (responds_of calls) t) verifies_all))
      (active_told w h a t (good_of calls) (responds_of calls) early (λ i by. good_all i (omega (arith, by)))
      (λ r by. ((λ any. ((responds_all r).0 any).1), (λ got. (responds_all r).1 (omega (arith, by), got)))) talks)

  pub happens : HappensIn w h t (Phase.expiries a) (change t a next.active state.active)
  unfolding HappensIn
  happens = inl (talks, (next.active, state.active, active_now, s.active, refl))

  -- ---- LLDP frames

  turns : (x y : Bool) → Decides x (Active w h a t) → Decides y (ActiveBefore w h a t) → x ≢ y → Rises w h a t ⊎ Falls w h a t
  turns true true now before differs = absurd (differs refl)
  turns false false now before differs = absurd (differs refl)
  turns true false now before differs = inl (now.0 refl, λ b. let e : false ≡ true = before.1 b in cc e)
  turns false true now before differs = inr ((λ b. let e : false ≡ true = now.1 b in cc e), before.0 refl)

  caused : (t % w.net.timing.interval ≡ 0) ⊎ (next.active ≢ state.active) → (t % w.net.timing.interval ≡ 0) ⊎ Rises w h a t ⊎ Falls w h a t
  caused (inl periodic) = inl periodic
  caused (inr differs) = inr (turns next.active state.active active_now s.active differs)

  wanting_to : (setting ≢ state.setting) ⊎ (setting ≢ settings.Gone) × (cause ≡ true) → IsWanting w h a t
  wanting_to (inl differs) = inl (λ e. differs (setting_is ∙ e ∙ sym s.setting))
  wanting_to (inr (here, is)) = inr ((λ e. here (setting_is ∙ e)), caused (cause_is.0 is))

  wanting_from : IsWanting w h a t → (setting ≢ state.setting) ⊎ (setting ≢ settings.Gone) × (cause ≡ true)
  wanting_from (inl differs) = inl (λ e. differs (sym setting_is ∙ e ∙ s.setting))
  wanting_from (inr (here, inl periodic)) = inr ((λ e. here (sym setting_is ∙ e)), cause_is.1 (inl periodic))
  wanting_from (inr (here, inr (inl (now, before)))) = inr ((λ e. here (sym setting_is ∙ e)), cause_is.1 (inr (λ e. before (s.active.0 (sym e ∙ active_now.1 now)))))
  wanting_from (inr (here, inr (inr (now, before)))) = inr ((λ e. here (sym setting_is ∙ e)), cause_is.1 (inr (λ e. now (active_now.0 (e ∙ s.active.1 before)))))

  none_since : (i : ℕ) → t ≤ i → ¬ LldpBegan h a i
  none_since i from (k, b, lt, is, (same, tick)) = let less = early k b (found_at (Begins h a) k b lt is) in omega (arith, less, tick, from)

  lldp_from : (state.wants_lldp ≡ true) ⊎ (setting ≢ state.setting) ⊎ (setting ≢ settings.Gone) × (cause ≡ true) → LldpDue w h a (t + 1)
  lldp_from (inl old) = let (x, lt, wants, since) = s.lldp.0 old in (x, omega (arith, lt), wants, since)
  lldp_from (inr new) = (t, omega arith, wanting_to new, none_since)

  lldp_to : LldpDue w h a (t + 1) → (state.wants_lldp ≡ true) ⊎ (setting ≢ state.setting) ⊎ (setting ≢ settings.Gone) × (cause ≡ true)
  lldp_to (x, lt, wants, since) = elim (cases_lt x t) [
    | inl less ↦ inl (s.lldp.1 (x, less, wants, since))
    | inr more ↦ let same : x ≡ t = omega (arith, lt, more) in inr (wanting_from (subst (IsWanting w h a) same wants))
  ]

  following : suc t ≡ t + 1
  following = omega arith

  settled : LinkStands w h a (t + 1) next
  settled = record {
    calls = calls;
    stands = stands;
    good = good_all;
    verifies = verifies_all;
    responds = responds_all;
    setting = next_setting ∙ setting_is ∙ ap (SettingBefore w h a) following;
    active = subst (λ n. Decides next.active (ActiveBefore w h a n)) following active_now;
    lldp = ((λ is. lldp_from (wants_is.0 is)), (λ due. wants_is.1 (lldp_to due)));
    responded = subst (λ o. IsLatest (Began h a kind.Respond) (option_map (λ (x : Tick). x.0) o)) (sym responded_is) s.responded;
  }

  abbrev here : ℕ
  here = number (length w.net.arcs) t (1 + 2 * length w.net.arcs + a)

  over : AreOver w (t + 1) here
  over i lt = behind (length w.net.arcs) i t (1 + 2 * length w.net.arcs + a) (omega arith) lt

  pub settled_told : (o : Option Bool) → LinkStands w (h ++ told t a o) a (t + 1) next
  settled_told None = elsewhere w here (suc here) h [] a (t + 1) next a_lt legal tt over refl refl settled
  settled_told (Some v) = elsewhere w here (suc here) h (PlainEvent.active t a v ∷ []) a (t + 1) next a_lt legal ((here, omega arith, omega arith, (a_lt, refl)), tt) over refl refl settled
