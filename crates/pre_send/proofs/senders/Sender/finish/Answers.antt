use Rattle.std.proofs.Common.{◌≡◌, Some, refl}
use Rattle.pre_send.specs.Tasks.{task_size}
use Rattle.pre_send.specs.Endings.{plans_end}
use Rattle.pre_send.proofs.Ending.{finishes, due_later}
use Rattle.pre_send.proofs.senders.Sender.finish.Goals as goal

pub returns-clause-stands : goal.returns-clause-stands
unfolding plans_end
returns-clause-stands c = λ cost add_frag calls st.
    let is : c.args.self.now.going ≡ Some c.in-Some.going = cc (c.take.ensures.value, c.in-Some.is) in
    let le = due_later c.args.self.now.cost c.args.self.now.going (λ g. task_size g.task) c.in-Some.going c.args.now.0 is c.requires.due in
    (finishes c.args.self.now _ c.end_task.new.self cost add_frag calls c.in-Some.going c.args.now.0 c.args.store.now c.end_task.result
    st is le refl refl c.take.ensures.after refl refl refl c.end_task.ensures.ends).0

pub returns-clause-sent : goal.returns-clause-sent
unfolding plans_end
returns-clause-sent c = λ cost add_frag calls st.
    let is : c.args.self.now.going ≡ Some c.in-Some.going = cc (c.take.ensures.value, c.in-Some.is) in
    let le = due_later c.args.self.now.cost c.args.self.now.going (λ g. task_size g.task) c.in-Some.going c.args.now.0 is c.requires.due in
    (finishes c.args.self.now _ c.end_task.new.self cost add_frag calls c.in-Some.going c.args.now.0 c.args.store.now c.end_task.result
    st is le refl refl c.take.ensures.after refl refl refl c.end_task.ensures.ends).1
