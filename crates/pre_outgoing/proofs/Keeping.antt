-- What stays of the relation where an arc's mPackets stay.
use Rattle.std.proofs.Common.{ℕ, ◌≡◌, ◌<◌, ◌≤◌, Bool, true, false, List, [], ◌∷◌, ◌++◌, length, refl, sym, ◌∙◌, ap, ap₂, subst, arith}
use Rattle.std.specs.Prelude.{count_by}
use Rattle.pre_mpacket.specs.Arrivals.{is_continue}
use Rattle.pre_lldp.specs.LldpLayout.{lldp_frame}
use Rattle.pre_send.specs.Calls.{Call}
use Rattle.pre_send.specs.Sendings.{Sending}
use Rattle.pre_send.specs.Senders.{Stands}
use Rattle.pre_history.specs.declared.events.What.{What}
use Rattle.pre_history.specs.declared.events.What.TheVariants as what
use Rattle.pre_history.specs.Scenario.{Scenario, arc}
use Rattle.pre_history.specs.History.{History, Begin, Ended}
use Rattle.pre_history.specs.Octets.{ToldActive, WholeOf, whole_of, is_on, ttl_under}
use Rattle.pre_history.specs.Queries.{Begins, Ends, Entries, SettingOf}
use Rattle.pre_history.specs.Placed.{AreLater}
use Rattle.pre_history.proofs.Lists.{every_at}
use Rattle.pre_history.proofs.Placing.{begins_arc}
use Rattle.std.specs.Prelude.{slice_get}
use Rattle.pre_outgoing.specs.declared.outgoing.Outgoing.{Outgoing}
use Rattle.pre_outgoing.specs.Matching.{WaitsAgree, Matches}
use Rattle.pre_outgoing.specs.Sends.{IsNewest, Sends}
use Rattle.pre_outgoing.proofs.Stepping.{others, entered}

-- what an mPacket carries, where it is told alike whether its arc was active when it began
pub whole_same : (w : Scenario) (h g : History) (b : Begin) → ToldActive w g b.arc b.tick ≡ ToldActive w h b.arc b.tick → WholeOf w g b ≡ WholeOf w h b
whole_same w h g b told = go b.what
  where
    go : (x : What) → whole_of w g b x ≡ whole_of w h b x
    go (what.Frame f) = refl
    go what.Nothing = refl
    go what.Lldp =
        let set = SettingOf w b.arc b.tick in
        ap (λ (v : Bool). lldp_frame (arc w b.arc).from.0 b.arc (record { enabled = is_on set; active = v; add_frag = (arc w b.arc).add_frag; ttl = ttl_under w set })) told

module _ (w : Scenario) (h g : History) (a now later : ℕ) (settled after : Bool) (o new : Outgoing) (le : now ≤ later) (bs : Begins g a ≡ Begins h a) (es : Ends g a ≡ Ends h a)
    (told : (t : ℕ) → t < now → ToldActive w g a t ≡ ToldActive w h a t) (sends : Sends w h a now settled o) where
  pub with_sender : (calls : List Call) → Stands new.sender (arc w a).cost (arc w a).add_frag calls → Matches w g a later after calls
      → new.begun ≡ o.begun → new.continued ≡ o.continued → new.carried ≡ o.carried → new.advert ≡ o.advert → Sends w g a later after new
  with_sender calls stands matches begun continued carried advert = record {
    calls = calls;
    stands = stands;
    matches = matches;
    begun = begun ∙ (sends.begun ∙ ap length (sym bs));
    continued = continued ∙ (sends.continued ∙ ap (count_by (λ (b : Begin). is_continue b.kind)) (sym bs));
    newest = λ b here.
        let there : IsNewest h a b = ap₂ (λ (xs : List Begin) (ys : List Ended). slice_get xs (length ys)) (sym bs) (sym es) ∙ here in
        let k = sends.newest b there in
        let on : b.arc ≡ a = every_at (λ (b : Begin). b.arc ≡ a) (Begins h a) (length (Ends h a)) b (begins_arc h a) there in
        let same = whole_same w h g b (subst (λ n. ToldActive w g n b.tick ≡ ToldActive w h n b.tick) (sym on) (told b.tick k.earlier)) in
        record { carried = carried ∙ k.carried; earlier = omega (arith, k.earlier, le); advert = λ is. advert ∙ (k.advert is ∙ sym same) };
  }

pub other_events : (w : Scenario) (h g : History) (a now : ℕ) (settled : Bool) (o : Outgoing) → Begins g a ≡ Begins h a → Ends g a ≡ Ends h a → ((p : ℕ) → Entries g a p ≡ Entries h a p)
    → ((t : ℕ) → t < now → ToldActive w g a t ≡ ToldActive w h a t) → Sends w h a now settled o → Sends w g a now settled o
other_events w h g a now settled o bs es rings told sends =
    with_sender w h g a now now settled settled o o (omega arith) bs es told sends sends.calls sends.stands (others w h g a now settled sends.calls bs es rings sends.matches) refl refl refl refl

pub entries_come : (w : Scenario) (h es : History) (a now : ℕ) (o : Outgoing) → Begins (h ++ es) a ≡ Begins h a → Ends (h ++ es) a ≡ Ends h a → ((t : ℕ) → t < now → AreLater w t es)
    → ((t : ℕ) → t < now → ToldActive w (h ++ es) a t ≡ ToldActive w h a t) → Sends w h a now true o → Sends w (h ++ es) a now false o
entries_come w h es a now o bs ends later told sends =
    with_sender w h (h ++ es) a now now true false o o (omega arith) bs ends told sends sends.calls sends.stands (entered w h es a now sends.calls bs ends later sends.matches) refl refl refl refl

waits_idle : (w : Scenario) (h : History) (a now t : ℕ) (packets : List Sending) → now ≤ t → WaitsAgree w h a now true packets → WaitsAgree w h a t true packets
waits_idle w h a now t [] le waits = tt
waits_idle w h a now t (p ∷ older) le waits = λ none part. (
  λ s is. let k = (waits none part).0 s is in (k.0, omega (arith, k.1, le)),
  λ u lt known. (waits none part).1 u lt tt,
)

pub idle_ticks : (w : Scenario) (h : History) (a now t : ℕ) (o : Outgoing) → now ≤ t → Sends w h a now true o → Sends w h a t true o
idle_ticks w h a now t o le sends =
    let m = sends.matches in
    with_sender w h h a now t true true o o le refl refl (λ u lt. refl) sends sends.calls sends.stands
    (record { packets = m.packets; sending = m.sending; agree = m.agree; waits = waits_idle w h a now t m.packets le m.waits }) refl refl refl refl
