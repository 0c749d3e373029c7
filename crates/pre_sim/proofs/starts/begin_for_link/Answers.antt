use Rattle.std.proofs.Common.{◌≡◌, ◌≢◌, ◌∙◌, ap, refl, sym, arith, rules, false}
use Rattle.pre_topo.specs.declared.arcs.Arc.{Arc}
use Rattle.pre_topo.specs.declared.arcs.Mode.TheVariants as mode
use Rattle.pre_mpacket.specs.declared.packets.Kind.TheVariants as kind
use Rattle.pre_history.specs.Scenario.{Scenario, arc, no_arc}
use Rattle.pre_lldp.specs.LldpLayout.{lldp_frame}
use Rattle.pre_history.specs.Octets.{AdvertAt}
use Rattle.pre_history.specs.Starts.{Item, lldp_begins, without_octets}
use Rattle.pre_outgoing.specs.Sends.{next_begin}
use Rattle.pre_sim.specs.declared.lanes.Lane.{Lane}
use Rattle.pre_sim.specs.Parts.{scenario_of}
use Rattle.pre_sim.proofs.Keeping.{keep_same, keep_lane}
use Rattle.pre_sim.proofs.Lists.{read_at}
use Rattle.pre_sim.proofs.LeftRings.{rings_stay}
use Rattle.pre_sim.proofs.ItemsThere.{none_more, none_for_link, first_begins, no_item}
use Rattle.pre_sim.proofs.BegunLanes.{started}
use Rattle.pre_sim.proofs.starts.begin_for_link.Goals as goal

pub returns-then-ne-clause-starts : goal.returns-then-ne-clause-starts
returns-then-ne-clause-starts c = λ h items legal hears stand free none.
    let w : Scenario = scenario_of c.args.plan.now in
    let a = c.args.arc.0 in
    let its : arc w a ≡ c.args.link.now = read_at w.net.arcs a c.args.link.now no_arc c.requires.link in
    let off : c.args.link.now.mode ≢ mode.Negotiate = search rules in
    (none_for_link w h a c.args.now.0 (λ on. off (ap (λ (x : Arc). x.mode) (sym its) ∙ on)) none, refl)

pub returns-then-ne-clause-keeps : goal.returns-then-ne-clause-keeps
returns-then-ne-clause-keeps c = λ store. keep_same (scenario_of c.args.plan.now) c.args.arc.0 store c.args.lane.now

pub returns-then-owes_respond-clause-starts : goal.returns-then-owes_respond-clause-starts
returns-then-owes_respond-clause-starts c = λ h items legal hears stand free none.
    let w : Scenario = scenario_of c.args.plan.now in
    let t = c.args.now.0 in
    let a = c.args.arc.0 in
    let old = c.args.lane.now in
    let new : Lane = record { rings = old.rings; outgoing = c.begin.new.self; incoming = old.incoming; partner = old.partner; setting = old.setting; link = c.respond_begun.new.self } in
    let its : arc w a ≡ c.args.link.now = read_at w.net.arcs a c.args.link.now no_arc c.requires.link in
    let on : c.args.link.now.mode ≡ mode.Negotiate = search rules in
    let negotiates : (arc w a).mode ≡ mode.Negotiate = ap (λ (x : Arc). x.mode) its ∙ on in
    let owed = (c.owes_respond.ensures w h a t c.requires.arc legal.0 (stand.link negotiates) hears).0 (search rules) in
    let rule = first_begins w h a t free Item.respond (without_octets kind.Respond) (negotiates, owed, refl) none in
    let begun = c.begin.ensures.begins w h a t false (without_octets kind.Respond) c.requires.arc legal.0 stand.outgoing rule refl in
    started w t a c.requires.arc h items old new (without_octets kind.Respond) c.begin.result legal stand rule begun refl refl refl
    (rings_stay h a (next_begin h t a (without_octets kind.Respond)) refl w old.rings (λ f. refl) stand.rings)
    (λ negotiates. c.respond_begun.ensures.stands w h a c.requires.arc legal.0 (stand.link negotiates)) c.args.partner.now 2 5

pub returns-then-owes_respond-clause-keeps : goal.returns-then-owes_respond-clause-keeps
returns-then-owes_respond-clause-keeps c = λ store.
    let old = c.args.lane.now in
    let new : Lane = record { rings = old.rings; outgoing = c.begin.new.self; incoming = old.incoming; partner = old.partner; setting = old.setting; link = c.respond_begun.new.self } in
    keep_lane (scenario_of c.args.plan.now) c.args.arc.0 store old new refl c.begin.ensures.frames

pub returns-then-wants_verify-clause-starts : goal.returns-then-wants_verify-clause-starts
returns-then-wants_verify-clause-starts c = λ h items legal hears stand free none.
    let w : Scenario = scenario_of c.args.plan.now in
    let t = c.args.now.0 in
    let a = c.args.arc.0 in
    let old = c.args.lane.now in
    let new : Lane =
    record { rings = old.rings; outgoing = c.begin-then-wants_verify.new.self; incoming = old.incoming; partner = old.partner; setting = old.setting; link = c.verify_begun.new.self } in
    let its : arc w a ≡ c.args.link.now = read_at w.net.arcs a c.args.link.now no_arc c.requires.link in
    let on : c.args.link.now.mode ≡ mode.Negotiate = search rules in
    let negotiates : (arc w a).mode ≡ mode.Negotiate = ap (λ (x : Arc). x.mode) its ∙ on in
    let no_respond = no_item c.owes_respond.result (c.owes_respond.ensures w h a t c.requires.arc legal.0 (stand.link negotiates) hears) c.if-owes_respond.false in
    let wanted = (c.wants_verify.ensures.wanted w h a c.requires.arc legal.0 (stand.link negotiates) free).0 (search rules) in
    let rule = first_begins w h a t free Item.verify (without_octets kind.Verify) (negotiates, wanted, refl) (none_more w h a t Item.respond 2 refl none (λ c there. no_respond there.1)) in
    let begun = c.begin-then-wants_verify.ensures.begins w h a t false (without_octets kind.Verify) c.requires.arc legal.0 stand.outgoing rule refl in
    started w t a c.requires.arc h items old new (without_octets kind.Verify) c.begin-then-wants_verify.result legal stand rule begun refl refl refl
    (rings_stay h a (next_begin h t a (without_octets kind.Verify)) refl w old.rings (λ f. refl) stand.rings)
    (λ negotiates. c.verify_begun.ensures.stands w h a c.requires.arc legal.0 (stand.link negotiates)) c.args.partner.now 2 5

pub returns-then-wants_verify-clause-keeps : goal.returns-then-wants_verify-clause-keeps
returns-then-wants_verify-clause-keeps c = λ store.
    let old = c.args.lane.now in
    let new : Lane =
    record { rings = old.rings; outgoing = c.begin-then-wants_verify.new.self; incoming = old.incoming; partner = old.partner; setting = old.setting; link = c.verify_begun.new.self } in
    keep_lane (scenario_of c.args.plan.now) c.args.arc.0 store old new refl c.begin-then-wants_verify.ensures.frames

pub returns-then-not-wants_lldp-clause-starts : goal.returns-then-not-wants_lldp-clause-starts
returns-then-not-wants_lldp-clause-starts c = λ h items legal hears stand free none.
    let w : Scenario = scenario_of c.args.plan.now in
    let t = c.args.now.0 in
    let a = c.args.arc.0 in
    let its : arc w a ≡ c.args.link.now = read_at w.net.arcs a c.args.link.now no_arc c.requires.link in
    let on : c.args.link.now.mode ≡ mode.Negotiate = search rules in
    let negotiates : (arc w a).mode ≡ mode.Negotiate = ap (λ (x : Arc). x.mode) its ∙ on in
    let no_respond = no_item c.owes_respond.result (c.owes_respond.ensures w h a t c.requires.arc legal.0 (stand.link negotiates) hears) c.if-owes_respond.false in
    let no_verify = no_item c.wants_verify.result (c.wants_verify.ensures.wanted w h a c.requires.arc legal.0 (stand.link negotiates) free) c.if-wants_verify.false in
    let no_lldp = no_item c.wants_lldp.result (c.wants_lldp.ensures w h a t c.requires.arc legal.0 (stand.link negotiates)) c.if-not-wants_lldp.true in (
      none_more w h a t Item.lldp 4 refl
          (none_more w h a t Item.verify 3 refl (none_more w h a t Item.respond 2 refl none (λ c there. no_respond there.1)) (λ c there. no_verify there.1))
          (λ c there. no_lldp there.1),
      refl,
    )

pub returns-then-not-wants_lldp-clause-keeps : goal.returns-then-not-wants_lldp-clause-keeps
returns-then-not-wants_lldp-clause-keeps c = λ store. keep_same (scenario_of c.args.plan.now) c.args.arc.0 store c.args.lane.now

pub write_lldp-requires : goal.write_lldp-requires
write_lldp-requires c =
    let w : Scenario = scenario_of c.args.plan.now in
    let its : arc w c.args.arc.0 ≡ c.args.link.now = read_at w.net.arcs c.args.arc.0 c.args.link.now no_arc c.requires.link in
    let rules = w.net.rules.each_arc c.args.arc.0 no_arc c.requires.arc in
    omega (arith, c.advert-advert.ensures.add_frag, ap (λ (x : Arc). x.add_frag) its, rules.add_frag)

pub returns-clause-starts : goal.returns-clause-starts
returns-clause-starts c = λ h items legal hears stand free none.
    let w : Scenario = scenario_of c.args.plan.now in
    let t = c.args.now.0 in
    let a = c.args.arc.0 in
    let old = c.args.lane.now in
    let new : Lane = record { rings = old.rings; outgoing = c.begin_lldp.new.self; incoming = old.incoming; partner = old.partner; setting = old.setting; link = c.lldp_begun.new.self } in
    let its : arc w a ≡ c.args.link.now = read_at w.net.arcs a c.args.link.now no_arc c.requires.link in
    let on : c.args.link.now.mode ≡ mode.Negotiate = search rules in
    let negotiates : (arc w a).mode ≡ mode.Negotiate = ap (λ (x : Arc). x.mode) its ∙ on in
    let no_respond = no_item c.owes_respond.result (c.owes_respond.ensures w h a t c.requires.arc legal.0 (stand.link negotiates) hears) c.if-owes_respond.false in
    let no_verify = no_item c.wants_verify.result (c.wants_verify.ensures.wanted w h a c.requires.arc legal.0 (stand.link negotiates) free) c.if-wants_verify.false in
    let wanted = (c.wants_lldp.ensures w h a t c.requires.arc legal.0 (stand.link negotiates)).0 c.if-not-wants_lldp.false in
    let rule = first_begins w h a t free Item.lldp lldp_begins (negotiates, wanted, refl)
    (none_more w h a t Item.verify 3 refl (none_more w h a t Item.respond 2 refl none (λ c there. no_respond there.1)) (λ c there. no_verify there.1)) in
    let says = c.advert-advert.ensures.says w h a t c.requires.arc negotiates legal.0 (stand.link negotiates) (ap (λ (x : Arc). x.add_frag) its) refl in
    let its_frame : c.write_lldp.new.into ≡ lldp_frame (arc w a).from.0 a (AdvertAt w h a t) =
    c.write_lldp.ensures ∙ (ap (λ (x : Arc). lldp_frame x.from.0 a c.advert-advert.result) (sym its) ∙ ap (lldp_frame (arc w a).from.0 a) says) in
    let begun = c.begin_lldp.ensures.begins w h a t false c.requires.arc legal.0 stand.outgoing rule its_frame in
    started w t a c.requires.arc h items old new lldp_begins c.begin_lldp.result legal stand rule begun refl refl refl
    (rings_stay h a (next_begin h t a lldp_begins) refl w old.rings (λ f. refl) stand.rings)
    (λ negotiates. c.lldp_begun.ensures.stands w h a t c.requires.arc legal.0 (stand.link negotiates)) c.args.partner.now 2 5

pub returns-clause-keeps : goal.returns-clause-keeps
returns-clause-keeps c = λ store.
    let old = c.args.lane.now in
    let new : Lane = record { rings = old.rings; outgoing = c.begin_lldp.new.self; incoming = old.incoming; partner = old.partner; setting = old.setting; link = c.lldp_begun.new.self } in
    keep_lane (scenario_of c.args.plan.now) c.args.arc.0 store old new refl c.begin_lldp.ensures.frames
