-- At a tick at which nothing of a link is due nothing is told at its arc's expiries, it stands as it is at the next tick, and
-- nothing begins for it.
use Rattle.std.proofs.Common.{ℕ, ◌≡◌, ◌≢◌, ◌==◌, ◌&&◌, ◌+◌, ◌*◌, ◌%◌, ◌<◌, ◌≤◌, nat_le, not, Bool, true, false, List, []}
use Rattle.std.proofs.Common.{length, refl, sym, ◌∙◌, ap, arith, subst, Some, None}
use Rattle.std.specs.Prelude.{◌↔◌, slice_get, if◌then◌else◌}
use Rattle.std.specs.List.{AllZip}
use Rattle.std.proofs.lemmas.Bool.{false≢true, eqb-true as same_number}
use Rattle.pre_topo.specs.declared.arcs.Mode.TheVariants as mode
use Rattle.pre_topo.specs.Arcs.{reverse_of}
use Rattle.pre_script.specs.declared.scripts.Setting.TheVariants as settings
use Rattle.pre_lldp.specs.Ages.{CountsEnabled, Heard, expiry, last_heard, runs_out}
use Rattle.pre_verify.specs.Verifiers.{is_under_way, is_wanting}
use Rattle.pre_verify.proofs.Standing.{going-is, wanted_at-is}
use Rattle.pre_history.specs.Scenario.{Scenario, arc}
use Rattle.pre_history.specs.History.{Arrive, History}
use Rattle.pre_history.specs.Selected.{is_lldp_result}
use Rattle.pre_history.specs.Queries.{Arrivals, Occupied, SettingOf}
use Rattle.pre_history.specs.LinkState.{Good, LldpReceived, LldpWanted, RespondOwed, VerifyWanted}
use Rattle.pre_history.specs.Moments.{Phase}
use Rattle.pre_history.specs.Placed.{moment_of, number}
use Rattle.pre_history.specs.Rules.{HappensIn}
use Rattle.pre_history.specs.Legal.{LegalUpTo}
use Rattle.pre_history.proofs.Known.{one_given}
use Rattle.pre_history.proofs.LinkTests.{good_heard}
use Rattle.pre_history.proofs.Lists.{every_placed, found_at}
use Rattle.pre_links.specs.Listening.{Hears, LldpArrivals, SaysOn}
use Rattle.pre_links.specs.Resting.{LinkRests}
use Rattle.pre_links.specs.Standing.{IsQuiet, LinkStands}
use Rattle.pre_links.specs.declared.links.Link.{Link}
use Rattle.pre_links.specs.declared.partners.Partner.{Partner}
use Rattle.pre_links.proofs.Asked.{and_true, filter_same, lldp_wanted, rests, verify_wanted}
use Rattle.pre_links.proofs.Early.{arrived_early}
use Rattle.pre_links.proofs.Numbers.{is_by}
use Rattle.pre_links.proofs.Quiet.{nothing_told, stands_on}

-- An advert that doesn't run out at a tick counts at it where it counts at the tick before.
counts_on : (unit t : ℕ) (calls : List Heard) → expiry unit (last_heard calls) ≢ Some (t + 1) → CountsEnabled unit calls t → CountsEnabled unit calls (t + 1)
counts_on unit t calls keeps (heard, is, some, counts, enabled) = (heard, is, some, omega (arith, counts, other), enabled)
  where
    expires : expiry unit (Some heard) ≡ Some (runs_out unit heard)
    expires = go (heard.says.ttl == 0) refl
      where
        go : (b : Bool) → (heard.says.ttl == 0) ≡ b → (if b then None else Some (runs_out unit heard)) ≡ Some (runs_out unit heard)
        go true none = absurd (let zero_ttl : heard.says.ttl ≡ 0 = same_number heard.says.ttl 0 none in omega (arith, some, zero_ttl))
        go false other = refl

    other : runs_out unit heard ≢ t + 1
    other same = keeps (ap (expiry unit) is ∙ (expires ∙ ap Some same))

counts_back : (unit t : ℕ) (calls : List Heard) → CountsEnabled unit calls (t + 1) → CountsEnabled unit calls t
counts_back unit t calls (heard, is, some, counts, enabled) = (heard, is, some, omega (arith, counts), enabled)

module _ (w : Scenario) (h : History) (a t : ℕ) (a_lt : a < length w.net.arcs) (talks : (arc w a).mode ≡ mode.Negotiate) (legal : LegalUpTo w (moment_of w (t + 1) Phase.sets) h)
    (partner : Partner) (link : Link) (hears : Hears w h (reverse_of a) partner) (stands : LinkStands w h a (t + 1) link) (is : LinkRests w.net.timing.interval t partner link)
    (setting : SettingOf w a (t + 1) ≡ SettingOf w a t) where
  -- all arrivals are at earlier ticks
  arrived : (i : ℕ) (x : Arrive) → slice_get (Arrivals h (reverse_of a)) i ≡ Some x → x.tick < t + 1
  arrived i x at = arrived_early w (t + 1) 0 h (reverse_of a) legal (omega arith) i x at

  -- Good at the tick and the one before, by all that was heard
  good_at : (s : ℕ) → t ≤ s → Good w h a s ↔ ((SettingOf w a s ≡ settings.On) × CountsEnabled w.net.timing.unit hears.calls s)
  good_at s le =
      let same : LldpReceived h a s ≡ LldpArrivals h (reverse_of a)
      = filter_same (λ (y : Arrive). is_lldp_result y.result && nat_le y.tick s) (λ y. is_lldp_result y.result) (Arrivals h (reverse_of a)) (every_placed _ (Arrivals h (reverse_of a)) (λ i x at.
      let early = arrived i x at in
      ap (λ b. is_lldp_result x.result && b) (is_by x.tick s (omega (arith, early, le))) ∙ and_true (is_lldp_result x.result))) in
      good_heard one_given w h a s hears.calls (subst (λ xs. AllZip (SaysOn w h (reverse_of a)) xs hears.calls) (sym same) hears.adverts)

  good_like : Good w h a (t + 1) ↔ Good w h a t
  good_like =
      let now = good_at (t + 1) (omega arith) in
      let before = good_at t (omega arith) in (
        (λ good. let g = now.0 good in before.1 (sym setting ∙ g.0, counts_back w.net.timing.unit t hears.calls g.1)),
        (λ good. let g = before.0 good in now.1 (setting ∙ g.0, counts_on w.net.timing.unit t hears.calls (is.age w.net.timing.unit hears.calls hears.stands) g.1)),
      )

  only_one : (i : ℕ) → t < i → i < t + 1 + 1 → i ≡ t + 1
  only_one i from lt = omega (arith, from, lt)

  quiet : IsQuiet w h a t (t + 1 + 1)
  quiet = record {
    good = λ i from lt. subst (λ s. Good w h a s ↔ Good w h a t) (sym (only_one i from lt)) good_like;
    responds = λ i from lt (k, x, in_list, at, (result, tick)). let early = arrived k x (found_at (Arrivals h (reverse_of a)) k x in_list at) in omega (arith, early, tick, from);
    settings = λ i from lt. ap (SettingOf w a) (only_one i from lt) ∙ setting;
    intervals = λ i from lt over. is.between (subst (λ s. s % w.net.timing.interval ≡ 0) (only_one i from lt) over);
  }

  pub none_told : HappensIn w h (t + 1) (Phase.expiries a) []
  none_told = nothing_told w h a t (t + 1 + 1) talks legal quiet link stands (t + 1) (omega arith) (omega arith)

  pub still_stands_next : LinkStands w h a (t + 1 + 1) link
  still_stands_next = stands_on w h a t (t + 1 + 1) talks legal quiet link stands (omega arith) is.upto

  -- in the starts of the arc
  module _ (here : LegalUpTo w (number (length w.net.arcs) (t + 1) (2 + 3 * length w.net.arcs + a)) h) where
    pub owes_none : ¬ RespondOwed w h a (t + 1)
    owes_none = is.respond w h a (t + 1) a_lt here still_stands_next hears

    pub wants_no_lldp : ¬ LldpWanted w h a (t + 1)
    wants_no_lldp wants = false≢true (sym is.lldp ∙ (lldp_wanted w (t + 1) h a a_lt here link still_stands_next).1 wants)

    pub wants_no_verify : ¬ Occupied w h a (t + 1) → ¬ VerifyWanted w h a (t + 1)
    wants_no_verify free wants =
        let s = still_stands_next in
        let late = s.stands in
        let wanted = (verify_wanted w (t + 1) h a a_lt here link s).1 wants in
        let own : is_wanting link.verifier (t + 1) ≡ true = sym (wanted_at-is link.verifier w.net.timing.verify s.calls (t + 1) late (omega (arith, is.upto.0))) ∙ wanted in
        let over : is_under_way link.verifier ≡ false = sym (going-is link.verifier w.net.timing.verify s.calls late) ∙ rests w (t + 1) h a a_lt here link s free in
        false≢true (sym is.verify ∙ ((λ i. own i && not (over i))))
