-- The start on an arc, as a part of its tick.
use Rattle.std.proofs.Common.{ℕ, suc, ◌≡◌, ◌+◌, ◌*◌, ◌<◌, true, List, [], ◌∷◌, ◌++◌, length, refl, sym, ◌∙◌, arith, subst, Some}
use Rattle.std.specs.Prelude.{set}
use Rattle.std.proofs.lemmas.List.{append-nil}
use Rattle.pre_mpacket.specs.declared.packets.Kind.{Kind}
use Rattle.pre_mpacket.specs.declared.packets.Kind.TheVariants as kind
use Rattle.pre_mpacket.specs.Spelling.{HasCounts}
use Rattle.pre_history.specs.Plain.{IsKind}
use Rattle.pre_history.specs.Scenario.{Scenario}
use Rattle.pre_history.specs.History.{History}
use Rattle.pre_history.specs.Moments.{Phase}
use Rattle.pre_history.specs.Placed.{number}
use Rattle.pre_history.specs.Rules.{HappensIn}
use Rattle.pre_history.specs.Legal.{LegalBefore}
use Rattle.pre_history.proofs.Moments.{starts_place}
use Rattle.pre_bridge.specs.Inside.{Entry}
use Rattle.pre_incoming.proofs.Goings.{elsewhere}
use Rattle.pre_links.specs.declared.partners.Partner.{Partner}
use Rattle.pre_incoming.specs.Wires.{Receives}
use Rattle.pre_links.specs.Listening.{Hears}
use Rattle.pre_links.specs.Standing.{IsUpTo, LinkStands}
use Rattle.pre_outgoing.specs.declared.outgoing.Begun.{Begun}
use Rattle.pre_outgoing.specs.Sends.{Sends}
use Rattle.pre_sim.specs.declared.lanes.Lane.{Lane}
use Rattle.pre_sim.specs.Keeps.{Store, Keeps, KeepsOn, AreSettled}
use Rattle.pre_sim.specs.Stages.{untouched, entered, stage_at}
use Rattle.pre_sim.specs.Stands.{AreRings, LaneStands}
use Rattle.pre_sim.specs.Parts.{Before, After, LegalAt, LanePart, LaneFront}
use Rattle.pre_sim.specs.Starting.{StartsAs, begin_event}
use Rattle.pre_sim.proofs.BegunLanes.{setting_then}
use Rattle.pre_sim.proofs.Lists.{set_here, set_twice, set_cases}
use Rattle.pre_sim.proofs.ItemsThere.{first_due}
use Rattle.pre_sim.proofs.StageTests.{is_entered, is_over}

-- a lane that keeps all through two changes
pub keeps_both : (w : Scenario) (a : ℕ) (store : Store) (old mid new : Lane) → KeepsOn w a store store old mid [] → KeepsOn w a store store mid new [] → KeepsOn w a store store old new []
keeps_both w a store old mid new first second lanes entries at keeps =
    let one = first lanes entries at keeps in
    let two = second (set lanes a mid) entries (set_here lanes a old mid at) (subst (λ es. Keeps w store (set lanes a mid) es []) (append-nil entries) one) in
    subst (λ ls. Keeps w store ls (entries ++ []) []) (set_twice lanes a mid new) two

-- once it is settled whether an express frame waits, the lane is at the next tick
pub settled_lane : (w : Scenario) (h : History) (t a : ℕ) (old new : Lane) (items : List Entry) → new.rings ≡ old.rings → new.incoming ≡ old.incoming → new.partner ≡ old.partner
    → new.setting ≡ old.setting → new.link ≡ old.link
    → LaneStands w h a (entered t) old items → Sends w h a (t + 1) true new.outgoing → LaneStands w h a (untouched (t + 1)) new items
settled_lane w h t a old new items rings incoming partner setting link stand sends = record {
  rings = subst (AreRings w h a) (sym rings) stand.rings;
  outgoing = sends;
  incoming = subst (Receives w h a) (sym incoming) stand.incoming;
  partner = subst (Hears w h a) (sym partner) stand.partner;
  setting = setting ∙ (stand.setting ∙ setting_then w h a t);
  link = λ negotiates. subst (LinkStands w h a (t + 1)) (sym link) (stand.link negotiates);
  inside = stand.inside;
}

-- links stay settled with another lane whose link is
pub settled_with : (t : ℕ) (lanes : List Lane) (i : ℕ) (new : Lane) → AreSettled t lanes → IsUpTo new.link t → AreSettled t (set lanes i new)
settled_with t lanes i new all one = set_cases (λ j x. IsUpTo x.link t) lanes i new all one

-- what a sender tells of its counts is what a begin event asks
pub kind_counts : (k : Kind) → HasCounts k → IsKind k
kind_counts (kind.Start c) counts = counts
kind_counts (kind.Continue c n) counts = counts
kind_counts kind.Express counts = tt
kind_counts kind.Verify counts = tt
kind_counts kind.Respond counts = tt

module _ (w : Scenario) (t a : ℕ) (a_lt : a < length w.net.arcs) (heard : Partner) (old new : Lane) where
  abbrev A : ℕ
  A = length w.net.arcs

  its_stage : stage_at A t (2 + 3 * A + a) a ≡ entered t
  its_stage = is_entered A t (2 + 3 * A + a) a a_lt (omega arith) (omega arith)

  next_stage : stage_at A t (2 + 3 * A + a + 1) a ≡ untouched (t + 1)
  next_stage = is_over A t (2 + 3 * A + a + 1) a a_lt (omega arith)

  -- before its start the lane stands for all that came to its rings
  pub stood : (h : History) (items : List Entry) → Before w t (Phase.starts a) a (Some heard) old h items → LaneStands w h a (entered t) old items
  stood h items b = subst (λ s. LaneStands w h a s old items) its_stage b.stands

  -- the history goes on at the next place
  goes : (h es : History) → LegalAt w t (2 + 3 * A + a) h → HappensIn w h t (Phase.starts a) es → LegalAt w t (2 + 3 * A + a + 1) (h ++ es)
  goes h es legal happens =
      subst (LegalBefore w (h ++ es)) (next A t a) (elsewhere w h es t (2 + 3 * A + a) (Phase.starts a) (omega (arith, a_lt)) (starts_place A a) legal happens (λ b e. absurd (cc e)))
    where
      next : (A t a : ℕ) → suc (number A t (2 + 3 * A + a)) ≡ number A t (2 + 3 * A + a + 1)
      next A t a = omega arith

  -- nothing begins
  module _ (still : (h : History) (items : List Entry) → Before w t (Phase.starts a) a (Some heard) old h items → HappensIn w h t (Phase.starts a) [] × LaneStands w h a (untouched (t + 1)) new items)
      (keeps : (store : Store) → KeepsOn w a store store old new []) where
    pub quiet_part : (store : Store) → LanePart w t (Phase.starts a) a (Some heard) old 0 store store new [] []
    quiet_part store = record {
      arc = tt;
      deliveries = refl;
      drops = refl;
      here = tt;
      goes = λ h items b.
          let is = still h items b in
          record {
            happens = is.0;
            legal = goes h [] b.legal is.0;
            stands = subst (λ g. LaneStands w g a (stage_at A t (2 + 3 * A + a + 1) a) new (items ++ [])) (sym (append-nil h))
                (subst (λ xs. LaneStands w h a (stage_at A t (2 + 3 * A + a + 1) a) new xs) (sym (append-nil items)) (subst (λ s. LaneStands w h a s new items) (sym next_stage) is.1));
          };
      keeps = keeps store;
    }

  -- an mPacket begins
  module _ (b : Begun) (from to : ℕ) (starts : (h : History) (items : List Entry) → Before w t (Phase.starts a) a (Some heard) old h items
      → StartsAs w t a heard from to old new (Some b) h items) where
    done : (h : History) (items : List Entry) → Before w t (Phase.starts a) a (Some heard) old h items → After w t (Phase.starts a) a (Some heard) old new h (items ++ []) (begin_event t a b ∷ [])
    done h items before =
        let is = starts h items before in
        let happens = first_due w h a t b is.0 is.1 in
        record {
          happens = happens;
          legal = goes h (begin_event t a b ∷ []) before.legal happens;
          stands = subst (λ xs. LaneStands w (h ++ begin_event t a b ∷ []) a (stage_at A t (2 + 3 * A + a + 1) a) new xs) (sym (append-nil items))
              (subst (λ s. LaneStands w (h ++ begin_event t a b ∷ []) a s new items) (sym next_stage) is.2);
        }

    pub begun_part : ((store : Store) → KeepsOn w a store store old new []) → (store : Store) → LanePart w t (Phase.starts a) a (Some heard) old 0 store store new [] (begin_event t a b ∷ [])
    begun_part keeps store = record { arc = (refl, tt); deliveries = refl; drops = refl; here = tt; goes = λ h items before. done h items before; keeps = keeps store }

    pub begun_front : LaneFront w t (Phase.starts a) a (Some heard) old (begin_event t a b ∷ [])
    begun_front h items before =
        (number A t (2 + 3 * A + a + 1), [], subst (λ g. LegalAt w t (2 + 3 * A + a + 1) g) (sym (append-nil (h ++ begin_event t a b ∷ []))) (done h items before).legal)
