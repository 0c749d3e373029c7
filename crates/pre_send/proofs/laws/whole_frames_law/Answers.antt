use Rattle.std.proofs.Common.{◌∷◌}
use Rattle.pre_send.specs.Sendings.{interrupted}
use Rattle.pre_send.proofs.Carried.{earlier_sent}
use Rattle.pre_send.proofs.OneSending.{in_one, in_one_packet}
use Rattle.pre_send.proofs.laws.whole_frames_law.Goals as goal

pub returns-clause-chosen : goal.returns-clause-chosen
returns-clause-chosen c = λ cost add_frag calls newer older p f sending no_part is. in_one p.told.chosen (interrupted older) p f no_part is

pub returns-clause-carried : goal.returns-clause-carried
returns-clause-carried c = λ cost add_frag calls newer older p f store octets other sending no_part is holds size some.
    in_one_packet cost add_frag p older f store octets other holds size some (earlier_sent cost add_frag newer (p ∷ older) sending.sent).0 no_part is
