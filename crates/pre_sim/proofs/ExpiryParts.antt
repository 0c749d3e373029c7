-- The part of an arc's expiries.
use Rattle.std.proofs.Common.{ℕ, suc, ◌≡◌, ◌≢◌, ◌+◌, ◌*◌, ◌<◌, Bool, true, List, [], ◌∷◌, ◌++◌, length, refl}
use Rattle.std.proofs.Common.{sym, ◌∙◌, ap, arith, subst, inr, Option, Some, None}
use Rattle.std.specs.Prelude.{count_by}
use Rattle.std.specs.List.{AllByRecursion as Every}
use Rattle.std.proofs.lemmas.List.{append-nil}
use Rattle.pre_topo.specs.Arcs.{reverse_of}
use Rattle.pre_topo.specs.declared.arcs.Mode.TheVariants as mode
use Rattle.pre_history.specs.Scenario.{Scenario, arc}
use Rattle.pre_history.specs.History.{PlainEvent, History}
use Rattle.pre_history.specs.Moments.{Phase}
use Rattle.pre_history.specs.Placed.{AllAt, AllWithin, IsAt, IsWithin, number, moment_of}
use Rattle.pre_history.specs.Selected.{is_dropped}
use Rattle.pre_history.specs.Queries.{Begins, Ends, Arrivals, Entries, Deliveries, SettingOf}
use Rattle.pre_history.specs.Octets.{ToldActive}
use Rattle.pre_history.specs.Rules.{HappensIn}
use Rattle.pre_history.specs.Legal.{LegalUpTo, LegalBefore}
use Rattle.pre_history.proofs.Moments.{expiries_place}
use Rattle.pre_history.proofs.Placing.{phase_events}
use Rattle.pre_history.proofs.Stays.{told_later}
use Rattle.pre_history.proofs.Turns.{same_begins, same_ends, same_arrivals}
use Rattle.pre_bridge.specs.Inside.{Entry}
use Rattle.pre_send.specs.Owned.{frames_of}
use Rattle.pre_outgoing.specs.declared.outgoing.Outgoing.{Outgoing}
use Rattle.pre_outgoing.specs.Sends.{Sends}
use Rattle.pre_outgoing.proofs.Keeping.{other_events}
use Rattle.pre_incoming.specs.Wires.{Receives}
use Rattle.pre_incoming.proofs.Goings.{elsewhere}
use Rattle.pre_incoming.proofs.OnAir.{others_stay}
use Rattle.pre_links.specs.declared.partners.Partner.{Partner}
use Rattle.pre_links.specs.Listening.{Hears}
use Rattle.pre_links.specs.Standing.{LinkStands, told}
use Rattle.pre_links.proofs.Phases.{still_hears}
use Rattle.pre_sim.specs.declared.lanes.Lane.{Lane}
use Rattle.pre_sim.specs.Keeps.{Store}
use Rattle.pre_sim.specs.Stages.{set_up, settled, stage_at}
use Rattle.pre_sim.specs.Stands.{AreRings, AreInside, LaneStands}
use Rattle.pre_sim.specs.Parts.{Before, After, LegalAt, IsOn, LanePart, LaneFront}
use Rattle.pre_sim.proofs.Keeping.{keep_lane}
use Rattle.pre_sim.proofs.Lists.{every_weaker}
use Rattle.pre_sim.proofs.Others.{same_rings, same_entries}
use Rattle.pre_sim.proofs.StageTests.{is_set_up, is_settled}

-- a change that is told at a tick isn't told at earlier ones
told_earlier : (w : Scenario) (h : History) (a t u : ℕ) (o : Option Bool) → u < t → ToldActive w (h ++ told t a o) a u ≡ ToldActive w h a u
told_earlier w h a t u None lt = told_later w h [] a u tt
told_earlier w h a t u (Some v) lt = told_later w h (PlainEvent.active t a v ∷ []) a u (omega (arith, lt), tt)

module _ (w : Scenario) (t a : ℕ) (a_lt : a < length w.net.arcs) (partner : Partner) (old new : Lane) (o : Option Bool)
    (rings : new.rings ≡ old.rings) (outgoing : new.outgoing ≡ old.outgoing) (incoming : new.incoming ≡ old.incoming) (its_partner : new.partner ≡ old.partner) (setting : new.setting ≡ old.setting)
    (happens : (h : History) → LegalUpTo w (moment_of w t (Phase.expiries a)) h → Hears w h (reverse_of a) partner → ((arc w a).mode ≡ mode.Negotiate → LinkStands w h a t old.link)
    → old.setting ≡ SettingOf w a t
    → HappensIn w h t (Phase.expiries a) (told t a o))
    (linked : (h : History) → LegalUpTo w (moment_of w t (Phase.expiries a)) h → Hears w h (reverse_of a) partner → (arc w a).mode ≡ mode.Negotiate → LinkStands w h a t old.link
    → old.setting ≡ SettingOf w a t
    → LinkStands w (h ++ told t a o) a (t + 1) new.link) where
  abbrev A : ℕ
  A = length w.net.arcs

  abbrev es : History
  es = told t a o

  its_stage : stage_at A t (1 + 2 * A + a) a ≡ set_up t
  its_stage = is_set_up A t (1 + 2 * A + a) a (omega arith) (omega arith)

  next_stage : stage_at A t (1 + 2 * A + a + 1) a ≡ settled t
  next_stage = is_settled A t (1 + 2 * A + a + 1) a (omega arith) (omega (arith, a_lt))

  on_arc : (o : Option Bool) → Every (IsOn a) (told t a o)
  on_arc None = tt
  on_arc (Some v) = (refl, tt)

  module _ (h : History) (items : List Entry) (b : Before w t (Phase.expiries a) a (Some partner) old h items) where
    stand : LaneStands w h a (set_up t) old items
    stand = subst (λ s. LaneStands w h a s old items) its_stage b.stands

    now : HappensIn w h t (Phase.expiries a) es
    now = happens h b.legal.0 b.hears stand.link stand.setting

    at : AllAt A (moment_of w t (Phase.expiries a)) es
    at = phase_events w h t (1 + 2 * A + a) (Phase.expiries a) es (a_lt, refl) now

    within : AllWithin A (moment_of w t (Phase.expiries a)) (suc (moment_of w t (Phase.expiries a))) es
    within = every_weaker (IsAt A (moment_of w t (Phase.expiries a))) (IsWithin A (moment_of w t (Phase.expiries a)) (suc (moment_of w t (Phase.expiries a))))
        (λ e here. (moment_of w t (Phase.expiries a), omega arith, omega arith, here)) es at

    begins : Begins (h ++ es) a ≡ Begins h a
    begins = same_begins A t (1 + 2 * A + a) a (omega (arith, a_lt)) a_lt h es (omega (arith, a_lt)) at

    ends : Ends (h ++ es) a ≡ Ends h a
    ends = same_ends A t (1 + 2 * A + a) a (omega (arith, a_lt)) a_lt h es (omega (arith, a_lt)) at

    arrivals : Arrivals (h ++ es) a ≡ Arrivals h a
    arrivals = same_arrivals A t (1 + 2 * A + a) a (omega (arith, a_lt)) a_lt h es (omega (arith, a_lt)) at

    entries : (q : ℕ) → Entries (h ++ es) a q ≡ Entries h a q
    entries q = same_entries A t (1 + 2 * A + a) a (omega (arith, a_lt)) a_lt q h es (omega (arith, a_lt)) at

    after : LaneStands w (h ++ es) a (settled t) new (items ++ [])
    after = record {
      rings = subst (AreRings w (h ++ es) a) (sym rings) (same_rings w h es a old begins entries stand.rings);
      outgoing = subst (Sends w (h ++ es) a t true) (sym outgoing) (other_events w h (h ++ es) a t true old.outgoing begins ends entries (λ u lt. told_earlier w h a t u o lt) stand.outgoing);
      incoming = subst (Receives w (h ++ es) a) (sym incoming) (others_stay w (moment_of w t (Phase.expiries a)) (suc (moment_of w t (Phase.expiries a))) h es b.legal.0 within a a_lt old.incoming
          (same_ends A t (1 + 2 * A + a) a (omega (arith, a_lt)) a_lt [] es (omega (arith, a_lt)) at)
          (same_arrivals A t (1 + 2 * A + a) a (omega (arith, a_lt)) a_lt [] es (omega (arith, a_lt)) at) stand.incoming);
      partner = subst (Hears w (h ++ es) a) (sym its_partner) (still_hears w t (Phase.expiries a) h es a a_lt (a_lt, refl) b.legal.0 now old.partner (omega (arith, a_lt)) stand.partner);
      setting = setting ∙ stand.setting;
      link = λ negotiates. linked h b.legal.0 b.hears negotiates (stand.link negotiates) stand.setting;
      inside = subst (λ xs. AreInside w a (Begins (h ++ es) a) (Arrivals (h ++ es) a) t xs) (sym (append-nil items))
          (subst (λ xs. AreInside w a (Begins (h ++ es) a) xs t items) (sym arrivals) (subst (λ bs. AreInside w a bs (Arrivals h a) t items) (sym begins) stand.inside));
    }

    pub done : After w t (Phase.expiries a) a (Some partner) old new h (items ++ []) es
    done = record {
      happens = now;
      legal = subst (LegalBefore w (h ++ es)) (next A t a) (elsewhere w h es t (1 + 2 * A + a) (Phase.expiries a) (omega (arith, a_lt)) (expiries_place A a a_lt) b.legal now (λ b e. absurd (cc e)));
      stands = subst (λ s. LaneStands w (h ++ es) a s new (items ++ [])) (sym next_stage) after;
    }
      where
        next : (A t a : ℕ) → suc (number A t (1 + 2 * A + a)) ≡ number A t (1 + 2 * A + a + 1)
        next A t a = omega arith

  no_lists : (o : Option Bool) → (length (Deliveries (told t a o)) ≡ 0) × (count_by is_dropped (told t a o) ≡ 0)
  no_lists None = (refl, refl)
  no_lists (Some v) = (refl, refl)

  pub expiry_part : (store : Store) → LanePart w t (Phase.expiries a) a (Some partner) old 0 store store new [] es
  expiry_part store = record {
    arc = on_arc o;
    deliveries = (no_lists o).0;
    drops = (no_lists o).1;
    here = tt;
    goes = λ h items b. done h items b;
    keeps = keep_lane w a store old new rings (ap (λ (x : Outgoing). frames_of x.sender) outgoing);
  }

  pub expiry_front : LaneFront w t (Phase.expiries a) a (Some partner) old es
  expiry_front h items b = (number A t (1 + 2 * A + a + 1), [], subst (λ g. LegalAt w t (1 + 2 * A + a + 1) g) (sym (append-nil (h ++ es))) (done h items b).legal)

-- Nothing is told at the expiries of an arc that doesn't negotiate.
pub calm_arc : (w : Scenario) (h : History) (a t : ℕ) → (arc w a).mode ≢ mode.Negotiate → HappensIn w h t (Phase.expiries a) []
unfolding HappensIn
calm_arc w h a t off = inr (off, refl)
