use Rattle.std.proofs.Common.{sym, ◌∙◌, ap, subst}
use Rattle.pre_send.specs.Answers.{IsInterrupted, kept_part}
use Rattle.pre_send.specs.Senders.{chosen}
use Rattle.pre_outgoing.specs.Matching.{what_of}
use Rattle.pre_outgoing.proofs.Fields.{rest_named}
use Rattle.pre_outgoing.proofs.outgoing.Outgoing.what_of.Goals as goal

pub returns-in-Some : goal.returns-in-Some
returns-in-Some c = λ cost add_frag calls packets stands sending.
    rest_named cost add_frag calls packets _ (subst (IsInterrupted cost add_frag calls) c.in-Some.is (c.interrupted.ensures.exact cost add_frag calls stands)) sending
    ∙ sym (ap (λ ch. what_of (chosen ch) (kept_part packets)) c.in-Rest.is)

pub returns-in-None : goal.returns-in-None
returns-in-None c = λ cost add_frag calls packets stands sending.
    rest_named cost add_frag calls packets _ (subst (IsInterrupted cost add_frag calls) c.in-None.is (c.interrupted.ensures.exact cost add_frag calls stands)) sending
    ∙ sym (ap (λ ch. what_of (chosen ch) (kept_part packets)) c.in-Rest.is)
