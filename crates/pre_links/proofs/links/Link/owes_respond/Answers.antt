use Rattle.std.proofs.Common.{subst}
use Rattle.std.specs.Prelude.{nat_lt, option_map}
use Rattle.pre_base.specs.declared.numbers.Tick.{Tick}
use Rattle.pre_mpacket.specs.declared.packets.Kind.TheVariants as kind
use Rattle.pre_history.specs.declared.events.Outcome.TheVariants as outcome
use Rattle.pre_history.specs.LinkState.{Began, Received}
use Rattle.pre_links.specs.Listening.{IsLatest}
use Rattle.pre_links.proofs.Asked.{owed_none, owed_first, owed_since}
use Rattle.pre_links.proofs.Numbers.{lt_decides}
use Rattle.pre_links.proofs.links.Link.owes_respond.Goals as goal

pub returns-in-None-default : goal.returns-in-None-default
returns-in-None-default c = λ w h a t a_lt legal s heard.
    owed_none w t h a a_lt legal (subst (λ o. IsLatest (Received h a outcome.Verify) (option_map (λ (x : Tick). x.0) o)) c.in-None-default.is-0 heard.verify)

pub returns-in-Some-None : goal.returns-in-Some-None
returns-in-Some-None c = λ w h a t a_lt legal s heard.
    owed_first w t h a a_lt legal c.in-Some-None.field-0-0.0 (subst (λ o. IsLatest (Received h a outcome.Verify) (option_map (λ (x : Tick). x.0) o)) c.in-Some-None.is-0 heard.verify)
    (subst (λ o. IsLatest (Began h a kind.Respond) (option_map (λ (x : Tick). x.0) o)) c.in-Some-None.is-1 s.responded)

pub returns-in-Some-Some : goal.returns-in-Some-Some
returns-in-Some-Some c = λ w h a t a_lt legal s heard.
    owed_since w t h a a_lt legal c.in-Some-Some.verify.0 c.in-Some-Some.respond.0 (nat_lt c.in-Some-Some.respond.0 c.in-Some-Some.verify.0)
    (lt_decides c.in-Some-Some.respond.0 c.in-Some-Some.verify.0)
    (subst (λ o. IsLatest (Received h a outcome.Verify) (option_map (λ (x : Tick). x.0) o)) c.in-Some-Some.is-0 heard.verify)
    (subst (λ o. IsLatest (Began h a kind.Respond) (option_map (λ (x : Tick). x.0) o)) c.in-Some-Some.is-1 s.responded)
