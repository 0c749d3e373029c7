use Rattle.std.proofs.Common.{refl}
use Rattle.pre_send.specs.Senders.{is_free}
use Rattle.pre_send.specs.Owned.{frames_of}
use Rattle.pre_send.proofs.Beginning.{begins}
use Rattle.pre_send.proofs.Owning.{begun_frames}
use Rattle.pre_send.proofs.senders.Sender.begin.Goals as goal

pub returns-clause-stands : goal.returns-clause-stands
unfolding is_free
returns-clause-stands c = λ cost add_frag calls st.
    begins c.args.self.now c.task_of-task.new.self _ cost add_frag calls _ c.args.now.0 st c.requires.free
    refl refl refl refl refl refl refl c.args.choice c.task_of-task.result refl c.task_of-task.ensures.chooses

pub returns-clause-frames : goal.returns-clause-frames
unfolding frames_of
returns-clause-frames c = begun_frames c.args.self.now c.task_of-task.new.self c.args.choice c.task_of-task.result c.args.now.0 c.task_of-task.ensures.chooses c.requires.free
