use Rattle.std.proofs.Common.{sym, ◌∙◌}
use Rattle.pre_send.proofs.OneSending.{one_list}
use Rattle.pre_send.proofs.laws.one_sending.Goals as goal

pub returns : goal.returns
returns c = λ cost add_frag calls xs ys a b. one_list cost add_frag xs ys (sym a.told ∙ b.told) a.sent b.sent
