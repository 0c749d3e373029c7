use Rattle.std.proofs.Common.{ap, sym, subst, ◌++◌, ◌∷◌, []}
use Rattle.pre_history.specs.Plain.{plain}
use Rattle.pre_history.specs.Selected.{delivery_of}
use Rattle.pre_trace.specs.declared.tallies.Closing.TheVariants as closing
use Rattle.pre_trace.specs.Figures.{is_closing}
use Rattle.pre_trace.specs.Sums.{Sums}
use Rattle.pre_trace.proofs.TakenUp.{other_kept, closing_kept, delivery_kept}
use Rattle.pre_trace.proofs.tallies.take_up.Goals as goal

pub returns-in-Set-clause-takes : goal.returns-in-Set-clause-takes
returns-in-Set-clause-takes c = λ h holds. other_kept c.args.script.now c.args.tallies.now c.args.slots.now c.args.kept.now h (plain c.args.e.now)
    (ap (λ e. delivery_of (plain e)) c.in-Set.is) (ap (λ e. is_closing (plain e)) c.in-Set.is) holds

pub returns-in-Begin-clause-takes : goal.returns-in-Begin-clause-takes
returns-in-Begin-clause-takes c = λ h holds. other_kept c.args.script.now c.args.tallies.now c.args.slots.now c.args.kept.now h (plain c.args.e.now)
    (ap (λ e. delivery_of (plain e)) c.in-Begin.is) (ap (λ e. is_closing (plain e)) c.in-Begin.is) holds

pub returns-in-Ended-clause-takes : goal.returns-in-Ended-clause-takes
returns-in-Ended-clause-takes c = λ h holds. other_kept c.args.script.now c.args.tallies.now c.args.slots.now c.args.kept.now h (plain c.args.e.now)
    (ap (λ e. delivery_of (plain e)) c.in-Ended.is) (ap (λ e. is_closing (plain e)) c.in-Ended.is) holds

pub returns-in-Arrive-clause-takes : goal.returns-in-Arrive-clause-takes
returns-in-Arrive-clause-takes c = λ h holds. other_kept c.args.script.now c.args.tallies.now c.args.slots.now c.args.kept.now h (plain c.args.e.now)
    (ap (λ e. delivery_of (plain e)) c.in-Arrive.is) (ap (λ e. is_closing (plain e)) c.in-Arrive.is) holds

pub returns-in-Active-clause-takes : goal.returns-in-Active-clause-takes
returns-in-Active-clause-takes c = λ h holds. other_kept c.args.script.now c.args.tallies.now c.args.slots.now c.args.kept.now h (plain c.args.e.now)
    (ap (λ e. delivery_of (plain e)) c.in-Active.is) (ap (λ e. is_closing (plain e)) c.in-Active.is) holds

pub returns-in-Enter-clause-takes : goal.returns-in-Enter-clause-takes
returns-in-Enter-clause-takes c = λ h holds. other_kept c.args.script.now c.args.tallies.now c.args.slots.now c.args.kept.now h (plain c.args.e.now)
    (ap (λ e. delivery_of (plain e)) c.in-Enter.is) (ap (λ e. is_closing (plain e)) c.in-Enter.is) holds

pub returns-in-Dropped-clause-takes : goal.returns-in-Dropped-clause-takes
returns-in-Dropped-clause-takes c = λ h holds. other_kept c.args.script.now c.args.tallies.now c.args.slots.now c.args.kept.now h (plain c.args.e.now)
    (ap (λ e. delivery_of (plain e)) c.in-Dropped.is) (ap (λ e. is_closing (plain e)) c.in-Dropped.is) holds

pub returns-in-Count-clause-takes : goal.returns-in-Count-clause-takes
returns-in-Count-clause-takes c = λ h holds. subst (λ x. Sums c.args.script.now c.args.tallies.now c.close.new.slots c.close.new.kept (h ++ x ∷ [])) (sym (ap plain c.in-Count.is))
    (closing_kept c.args.script.now c.args.tallies.now c.args.slots.now c.close.new.slots c.args.kept.now c.close.new.kept h
    (closing.Count c.in-Count.arc c.in-Count.err c.in-Count.smd c.in-Count.ok c.in-Count.rx c.in-Count.tx) c.close.ensures holds)

pub returns-in-Finish-clause-takes : goal.returns-in-Finish-clause-takes
returns-in-Finish-clause-takes c = λ h holds. subst (λ x. Sums c.args.script.now c.args.tallies.now c.close-in-Finish.new.slots c.close-in-Finish.new.kept (h ++ x ∷ []))
    (sym (ap plain c.in-Finish.is))
    (closing_kept c.args.script.now c.args.tallies.now c.args.slots.now c.close-in-Finish.new.slots c.args.kept.now c.close-in-Finish.new.kept h
    (closing.Finish c.in-Finish.until c.in-Finish.sent c.in-Finish.delivered c.in-Finish.dropped) c.close-in-Finish.ensures holds)

pub returns-in-Deliver-clause-takes : goal.returns-in-Deliver-clause-takes
returns-in-Deliver-clause-takes c = λ h holds. subst (λ x. Sums c.args.script.now c.note.new.tallies c.args.slots.now c.args.kept.now (h ++ x ∷ [])) (sym (ap plain c.in-Deliver.is))
    (delivery_kept c.args.script.now c.args.tallies.now c.note.new.tallies c.args.slots.now c.args.kept.now h
    (record { tick = c.in-Deliver.tick.0; node = c.in-Deliver.node.0; frame = c.in-Deliver.frame.0; octets = c.in-Deliver.hex.now }) c.note.ensures.noted holds)
