use Rattle.std.proofs.Common.{refl, sym, subst, take, inl, inr}
use Rattle.pre_incoming.specs.declared.landings.Landed.TheVariants as landed
use Rattle.pre_sim.specs.Arriving.{Listens}
use Rattle.pre_sim.proofs.Listening.{listens_silent, listens_lldp, lost_silent, frame_silent, part_silent, nothing_silent}
use Rattle.pre_sim.proofs.arrivals.listen.Goals as goal

pub returns-in-Lldp-clause-hears : goal.returns-in-Lldp-clause-hears
returns-in-Lldp-clause-hears c =
    subst (λ g. Listens c.args.now.0 g (take c.args.size c.args.octets.now) c.args.partner.now c.lldp.new.self) (sym c.in-Lldp.is)
    (listens_lldp c.args.now.0 (take c.args.size c.args.octets.now) c.args.partner.now c.lldp.new.self c.lldp.ensures.hears)

pub returns-in-Lost : goal.returns-in-Lost
returns-in-Lost c = record {
  hears = elim c.in-Lost.is [
    | inl is ↦ subst (λ g. Listens c.args.now.0 g (take c.args.size c.args.octets.now) c.args.partner.now c.args.partner.now) (sym is)
        (listens_silent c.args.now.0 landed.Lost (take c.args.size c.args.octets.now) c.args.partner.now lost_silent)
    | inr (inl (f, is)) ↦ subst (λ g. Listens c.args.now.0 g (take c.args.size c.args.octets.now) c.args.partner.now c.args.partner.now) (sym is)
        (listens_silent c.args.now.0 (landed.Frame f) (take c.args.size c.args.octets.now) c.args.partner.now frame_silent)
    | inr (inr (inl is)) ↦ subst (λ g. Listens c.args.now.0 g (take c.args.size c.args.octets.now) c.args.partner.now c.args.partner.now) (sym is)
        (listens_silent c.args.now.0 landed.Part (take c.args.size c.args.octets.now) c.args.partner.now part_silent)
    | inr (inr (inr (inl is))) ↦ subst (λ g. Listens c.args.now.0 g (take c.args.size c.args.octets.now) c.args.partner.now c.args.partner.now) (sym is)
        (listens_silent c.args.now.0 landed.Nothing (take c.args.size c.args.octets.now) c.args.partner.now nothing_silent)
    | inr (inr (inr (inr is))) ↦ subst (λ g. Listens c.args.now.0 g (take c.args.size c.args.octets.now) c.args.partner.now c.args.partner.now) (sym is)
        (listens_silent c.args.now.0 landed.Alias (take c.args.size c.args.octets.now) c.args.partner.now nothing_silent)
  ];
  unheard = λ f is. refl;
}
