use Rattle.std.proofs.Common.{◌≡◌, ◌%◌, ◌⊎◌, refl, sym, subst}
use Rattle.std.specs.Prelude.{◌≢◌}
use Rattle.std.specs.Bool.{Decides}
use Rattle.pre_history.specs.Moments.{Phase}
use Rattle.pre_history.specs.Rules.{HappensIn}
use Rattle.pre_links.specs.declared.links.Link.{Link}
use Rattle.pre_links.proofs.Settling.{happens, settled_told}
use Rattle.pre_links.proofs.links.Link.settle.Goals as goal

pub returns-clause-happens : goal.returns-clause-happens
returns-clause-happens c = λ w h a a_lt talks legal s heard same every.
    let next : Link = record {
      verifier = c.settle_verifier-active.new.verifier;
      setting = c.args.setting;
      active = c.settle_verifier-active.result;
      wants_lldp =
          c.is_wanted-self.result;
      responded = c.args.self.now.responded;
    } in
    subst (HappensIn w h c.args.now.0 (Phase.expiries a)) (sym (c.changed-change.ensures c.args.now.0 a))
    (happens w c.args.now.0 h a a_lt talks legal c.args.self.now c.args.partner.now s heard next c.is_good-good.result c.responds_at.result c.is_cause-cause.result c.args.setting
    (c.is_good-good.ensures w h a a_lt legal heard same) c.responds_at.ensures (c.settle_verifier-active.ensures.stands w.net.timing.verify s.calls s.stands)
    (c.settle_verifier-active.ensures.active w.net.timing.verify s.calls s.stands)
    same refl (subst (λ n. Decides c.is_cause-cause.result ((c.args.now.0 % n ≡ 0) ⊎ (c.settle_verifier-active.result ≢ c.args.self.now.active))) every c.is_cause-cause.ensures)
    c.is_wanted-self.ensures refl)

pub returns-clause-stands : goal.returns-clause-stands
returns-clause-stands c = λ w h a a_lt talks legal s heard same every.
    let next : Link = record {
      verifier = c.settle_verifier-active.new.verifier;
      setting = c.args.setting;
      active = c.settle_verifier-active.result;
      wants_lldp =
          c.is_wanted-self.result;
      responded = c.args.self.now.responded;
    } in
    settled_told w c.args.now.0 h a a_lt talks legal c.args.self.now c.args.partner.now s heard next c.is_good-good.result c.responds_at.result c.is_cause-cause.result c.args.setting
    (c.is_good-good.ensures w h a a_lt legal heard same) c.responds_at.ensures (c.settle_verifier-active.ensures.stands w.net.timing.verify s.calls s.stands)
    (c.settle_verifier-active.ensures.active w.net.timing.verify s.calls s.stands)
    same refl (subst (λ n. Decides c.is_cause-cause.result ((c.args.now.0 % n ≡ 0) ⊎ (c.settle_verifier-active.result ≢ c.args.self.now.active))) every c.is_cause-cause.ensures)
    c.is_wanted-self.ensures refl c.changed-change.result
