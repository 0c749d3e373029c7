-- What a link answers in the starts of its arc.
use Rattle.std.proofs.Common.{ℕ, suc, ◌≡◌, ◌+◌, ◌*◌, ◌<◌, ◌≤◌, nat_le, ◌&&◌, Bool, true, false, List, [], ◌∷◌}
use Rattle.std.proofs.Common.{length, refl, sym, ◌∙◌, ap, inl, inr, arith, subst, Some, None, filter}
use Rattle.std.specs.Prelude.{◌↔◌, if◌then◌else◌, slice_get}
use Rattle.std.specs.Bool.{Decides, one_answer}
use Rattle.std.specs.List.{AllZip, AllByRecursion as Every}
use Rattle.std.proofs.lemmas.Bool.{cases_lt}
use Rattle.pre_topo.specs.declared.arcs.Mode.TheVariants as mode
use Rattle.pre_topo.specs.Arcs.{reverse_of}
use Rattle.pre_script.specs.declared.scripts.Setting.{Setting}
use Rattle.pre_script.specs.declared.scripts.Setting.TheVariants as settings
use Rattle.pre_lldp.specs.declared.adverts.Advert.{Advert}
use Rattle.pre_lldp.specs.Ages.{CountsEnabled}
use Rattle.pre_lldp.specs.LinkState as link
use Rattle.pre_mpacket.specs.declared.packets.Kind.TheVariants as kind
use Rattle.pre_verify.specs.Calls.{good_of, is_going, responds_of, verifies_of, wanted_at}
use Rattle.pre_history.specs.declared.events.Outcome.TheVariants as outcome
use Rattle.pre_history.specs.Scenario.{Scenario, arc}
use Rattle.pre_history.specs.History.{History, Begin, Arrive}
use Rattle.pre_history.specs.Selected.{is_lldp_result}
use Rattle.pre_history.specs.Queries.{Arrivals, Begins, Occupied, SettingOf}
use Rattle.pre_history.specs.Octets.{AdvertAt, ToldActive, is_on, ttl_under}
use Rattle.pre_history.specs.LinkState.{Active, ActiveBefore, Began, Good, LldpReceived, LldpWanted, Received, RespondOwed, SettingBefore, VerifyWanted}
use Rattle.pre_history.specs.Moments.{moments}
use Rattle.pre_history.specs.Placed.{number}
use Rattle.pre_history.specs.Legal.{LegalUpTo}
use Rattle.pre_history.proofs.Lists.{every_placed, found_at}
use Rattle.pre_history.proofs.InOrder.{steady}
use Rattle.pre_history.proofs.LinkTests.{good_heard}
use Rattle.pre_history.proofs.ToldActive.{told_active}
use Rattle.pre_history.proofs.Known.{gives_later, one_given}
use Rattle.pre_links.specs.Listening.{Hears, IsLatest, LldpArrivals, SaysOn}
use Rattle.pre_links.specs.Standing.{LinkStands}
use Rattle.pre_links.specs.declared.links.Link.{Link}
use Rattle.pre_links.specs.declared.partners.Partner.{Partner}
use Rattle.pre_links.proofs.Early.{arrived_by, begun_early}
use Rattle.pre_links.proofs.Computed.{none_going, wanted_told}
use Rattle.pre_links.proofs.Numbers.{is_by}

pub and_true : (b : Bool) → (b && true) ≡ b
and_true true = refl
and_true false = refl

pub filter_same : {X : Type 0} (f g : X → Bool) (xs : List X) → Every (λ x. f x ≡ g x) xs → filter f xs ≡ filter g xs
filter_same f g [] all = refl
filter_same {X} f g (x ∷ xs) (here, more) = ap (λ (b : Bool). if b then x ∷ filter f xs else filter f xs) here ∙ ap (λ (ys : List X). if g x then x ∷ ys else ys) (filter_same f g xs more)

-- Good, by what was heard up to the tick
pub good_by : (w : Scenario) (t k : ℕ) (h : History) (a : ℕ) (partner : Partner) → LegalUpTo w (number (length w.net.arcs) t k) h → k < moments (length w.net.arcs)
    → (s : Hears w h (reverse_of a) partner) → Good w h a t ↔ ((SettingOf w a t ≡ settings.On) × CountsEnabled w.net.timing.unit s.calls t)
good_by w t k h a partner legal k_lt s =
    let same : LldpReceived h a t ≡ LldpArrivals h (reverse_of a)
    = filter_same (λ (y : Arrive). is_lldp_result y.result && nat_le y.tick t) (λ y. is_lldp_result y.result) (Arrivals h (reverse_of a)) (every_placed _ (Arrivals h (reverse_of a)) (λ i x at.
    let by = arrived_by w t k h (reverse_of a) legal k_lt i x at in
    ap (λ b. is_lldp_result x.result && b) (is_by x.tick t by) ∙ and_true (is_lldp_result x.result))) in
    good_heard one_given w h a t s.calls (subst (λ xs. AllZip (SaysOn w h (reverse_of a)) xs s.calls) (sym same) s.adverts)

pub on_is : (setting : Setting) → is_on setting ≡ true → setting ≡ settings.On
on_is settings.On is = refl
on_is settings.Off is = absurd (cc is)
on_is settings.Gone is = absurd (cc is)

abbrev made : Bool → Bool → ℕ → ℕ → Advert
made e v f l = record { enabled = e; active = v; add_frag = f; ttl = l }

same_advert : (e d v u : Bool) (f g l m : ℕ) → e ≡ d → v ≡ u → f ≡ g → l ≡ m → made e v f l ≡ made d u g m
same_advert e d v u f g l m p q r s = ap (λ x. made x v f l) p ∙ ap (λ x. made d x f l) q ∙ ap (λ x. made d u x l) r ∙ ap (made d u g) s

module _ (w : Scenario) (t : ℕ) (h : History) (a : ℕ) (a_lt : a < length w.net.arcs) (legal : LegalUpTo w (number (length w.net.arcs) t (2 + 3 * length w.net.arcs + a)) h) where
  early : (i : ℕ) (b : Begin) → slice_get (Begins h a) i ≡ Some b → b.tick < t
  early i b at = begun_early w t (2 + 3 * length w.net.arcs + a) h a legal (omega arith) i b at

  began_early : (i : ℕ) → Began h a kind.Respond i → i < t
  began_early i (k, b, lt, is, (same, tick)) = let less = early k b (found_at (Begins h a) k b lt is) in omega (arith, less, tick)

  received_by : (v : ℕ) → Received h a outcome.Verify v → v ≤ t
  received_by v (k, x, lt, is, (same, tick)) = let by = arrived_by w t (2 + 3 * length w.net.arcs + a) h (reverse_of a) legal (omega (arith, a_lt)) k x
      (found_at (Arrivals h (reverse_of a)) k x lt is) in omega (arith, by, tick)

  pub owed_none : IsLatest (Received h a outcome.Verify) None → Decides false (RespondOwed w h a t)
  owed_none none = ((λ e. absurd (cc e)), (λ (v, le, got, since). absurd (none v got)))

  pub owed_first : (v : ℕ) → IsLatest (Received h a outcome.Verify) (Some v) → IsLatest (Began h a kind.Respond) None → Decides true (RespondOwed w h a t)
  owed_first v (got, most) none = ((λ e. (v, received_by v got, got, λ i from lt began. none i began)), (λ p. refl))

  pub owed_since : (v r : ℕ) (b : Bool) → Decides b (r < v) → IsLatest (Received h a outcome.Verify) (Some v) → IsLatest (Began h a kind.Respond) (Some r) → Decides b (RespondOwed w h a t)
  owed_since v r b decides (got, most) (began, last) = (
    (λ is. (v, received_by v got, got, λ i from lt began'. let by = last i began' in let less = decides.0 is in absurd (omega (arith, by, less, from)))),
    (λ (u, le, got', since). elim (cases_lt r v) [
      | inl less ↦ decides.1 less
      | inr more ↦ absurd (since r (let by = most u got' in omega (arith, by, more)) (began_early r began) began)
    ]),
  )

  module _ (state : Link) (s : LinkStands w h a (t + 1) state) where
    next : t + 1 ≡ suc t
    next = omega arith

    pub lldp_wanted : Decides state.wants_lldp (LldpWanted w h a t)
    lldp_wanted = (
      (λ is. let (x, lt, cause, since) = s.lldp.0 is in (x, omega (arith, lt), cause, λ i from less began. since i from began)),
      (λ (x, le, cause, since). s.lldp.1 (
        x,
        omega (arith, le),
        cause,
        λ i from (k, b, lt, is, (same, tick)).
            let less = early k b (found_at (Begins h a) k b lt is) in since i from (omega (arith, less, tick)) (k, b, lt, is, (same, tick)),
      )),
    )

    pub verify_wanted : Decides (wanted_at w.net.timing.verify s.calls t) (VerifyWanted w h a t)
    verify_wanted =
        subst (λ vs. Decides (link.is_verify_wanted (good_of s.calls) vs (responds_of s.calls) w.net.timing.verify t) (VerifyWanted w h a t)) (sym s.verifies)
        (wanted_told w h a t (good_of s.calls) (responds_of s.calls) early (λ i by. s.good i (omega (arith, by)))
        (λ r by. ((λ any. ((s.responds r).0 any).1), (λ got. (s.responds r).1 (omega (arith, by), got)))))

    pub rests : ¬ Occupied w h a t → is_going (link.last_verify (verifies_of s.calls)) ≡ false
    rests free = ap (λ vs. is_going (link.last_verify vs)) s.verifies ∙ none_going w h a t (steady w _ h a a_lt legal).ordered early free

    pub active_now : Decides state.active (Active w h a t)
    active_now = subst (λ n. Decides state.active (ActiveBefore w h a n)) next s.active

    pub setting_now : state.setting ≡ SettingOf w a t
    setting_now = s.setting ∙ ap (SettingBefore w h a) next

    pub says : (arc w a).mode ≡ mode.Negotiate → (enabled : Bool) (add_frag ttl : ℕ) → enabled ≡ is_on state.setting → ttl ≡ ttl_under w state.setting → (arc w a).add_frag ≡ add_frag
        → (advert : Advert)
        → advert.enabled ≡ enabled → advert.active ≡ state.active → advert.add_frag ≡ add_frag → advert.ttl ≡ ttl → advert ≡ AdvertAt w h a t
    says talks enabled add_frag ttl on lasts frag advert e v f l =
        let told = told_active gives_later w a a_lt talks (number (length w.net.arcs) t (2 + 3 * length w.net.arcs + a)) h legal t (omega arith) in
        same_advert advert.enabled (is_on (SettingOf w a t)) advert.active (ToldActive w h a t) advert.add_frag (arc w a).add_frag advert.ttl (ttl_under w (SettingOf w a t))
        (e ∙ on ∙ ap is_on setting_now) (v ∙ one_answer state.active (ToldActive w h a t) active_now told) (f ∙ sym frag) (l ∙ lasts ∙ ap (ttl_under w) setting_now)
