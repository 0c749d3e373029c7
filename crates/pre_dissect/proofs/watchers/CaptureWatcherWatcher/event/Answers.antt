use Rattle.std.proofs.Common.{◌∷◌, [], ◌++◌, Some, subst, sym}
use Rattle.std.proofs.lemmas.Bool.{false≢true}
use Rattle.pre_history.specs.Plain.{plain}
use Rattle.pre_incoming.specs.Inputs.{scenario_of}
use Rattle.pre_dissect.specs.Watching.{HasTaken}
use Rattle.pre_dissect.proofs.Taking.{nothing_taken, active_taken, end_none_taken}
use Rattle.pre_dissect.proofs.watchers.CaptureWatcherWatcher.event.Goals as goal
use Rattle.pre_dissect.proofs.watchers.CaptureWatcherWatcher.event.Goals.{then-is_lldp, else-is_lldp}
use Rattle.pre_dissect.proofs.Begun.{begin_taken}
use Rattle.pre_dissect.proofs.Closing.{end_taken}

pub returns-in-Nothing-clause-goes : goal.returns-in-Nothing-clause-goes
returns-in-Nothing-clause-goes g c = λ base h taken. nothing_taken (scenario_of c.args.self.now.inputs) c.args.self.now.arc.0 c.args.self.now.newest c.args.self.now.advert _ base h c.args.self.now.active (plain c.args.e.now) c.in-Nothing.ensures taken

pub returns-after-is_lldp-clause-goes : goal.returns-after-is_lldp-clause-goes
returns-after-is_lldp-clause-goes g c = λ base h taken. elim c.if-is_lldp.branch [
  | then-is_lldp x ↦ subst (λ s. HasTaken (scenario_of s.inputs) s.arc.0 s.active (Some c.in-Begun.newest) s.advert (g.S.Sink.tells s.sink.now) base (h ++ plain c.args.e.now ∷ [])) (sym x.self-is)
      (subst (λ e. HasTaken (scenario_of c.args.self.now.inputs) c.args.self.now.arc.0 c.args.self.now.active (Some c.in-Begun.newest) x.advert_at-self.result (g.S.Sink.tells c.args.self.now.sink.now) base (h ++ e ∷ [])) (sym c.in-Begun.ensures)
      (begin_taken (scenario_of c.args.self.now.inputs) c.args.self.now.arc.0 c.args.self.now.newest c.args.self.now.advert x.advert_at-self.result _ base h c.args.self.now.active c.in-Begun.newest c.in-Begun.tick.0 (λ lldp lt. x.advert_at-self.ensures lt) taken))
  | else-is_lldp x ↦ subst (λ s. HasTaken (scenario_of s.inputs) s.arc.0 s.active (Some c.in-Begun.newest) s.advert (g.S.Sink.tells s.sink.now) base (h ++ plain c.args.e.now ∷ [])) (sym x.self-is)
      (subst (λ e. HasTaken (scenario_of c.args.self.now.inputs) c.args.self.now.arc.0 c.args.self.now.active (Some c.in-Begun.newest) c.args.self.now.advert (g.S.Sink.tells c.args.self.now.sink.now) base (h ++ e ∷ [])) (sym c.in-Begun.ensures)
      (begin_taken (scenario_of c.args.self.now.inputs) c.args.self.now.arc.0 c.args.self.now.newest c.args.self.now.advert c.args.self.now.advert _ base h c.args.self.now.active c.in-Begun.newest c.in-Begun.tick.0 (λ lldp lt. absurd (false≢true (x.if-is_lldp.ensures.1 lldp))) taken))
]

pub returns-in-Active-clause-goes : goal.returns-in-Active-clause-goes
returns-in-Active-clause-goes g c = λ base h taken.
    let tick = c.in-Active.ensures.0 in
    subst (λ e. HasTaken (scenario_of c.args.self.now.inputs) c.args.self.now.arc.0 c.in-Active.value c.args.self.now.newest c.args.self.now.advert (g.S.Sink.tells c.args.self.now.sink.now) base (h ++ e ∷ [])) (sym c.in-Active.ensures.1)
    (active_taken (scenario_of c.args.self.now.inputs) c.args.self.now.arc.0 c.args.self.now.newest c.args.self.now.advert _ base h c.args.self.now.active c.in-Active.value tick taken)

pub returns-in-Some-clause-goes : goal.returns-in-Some-clause-goes
returns-in-Some-clause-goes g c =
    end_taken c.put_ended.result (scenario_of c.args.self.now.inputs) c.args.self.now.arc.0 c.args.self.now.active c.args.self.now.newest c.in-Some.newest c.args.self.now.advert
    (g.S.Sink.tells c.args.self.now.sink.now) (g.S.Sink.tells c.put_ended.new.sink) c.in-Ended.ending c.in-Ended.ensures.0 (plain c.args.e.now) c.in-Ended.ensures.1 c.in-Some.is c.put_ended.ensures.early c.put_ended.ensures.octets

pub returns-in-None-clause-goes : goal.returns-in-None-clause-goes
returns-in-None-clause-goes g c = λ base h taken.
    let ord = c.in-Ended.ensures.0 in
    subst (λ e. HasTaken (scenario_of c.args.self.now.inputs) c.args.self.now.arc.0 c.args.self.now.active c.args.self.now.newest c.args.self.now.advert (g.S.Sink.tells c.args.self.now.sink.now) base (h ++ e ∷ [])) (sym c.in-Ended.ensures.1)
    (end_none_taken (scenario_of c.args.self.now.inputs) c.args.self.now.arc.0 c.args.self.now.newest c.args.self.now.advert _ base h c.args.self.now.active _ c.in-None.is taken)
