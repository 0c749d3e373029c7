use Rattle.pre_laws.proofs.ComeOn.{sent_comes, relayed_comes}
use Rattle.pre_laws.proofs.laws.frames_come_on.Goals as goal

pub returns-clause-sent : goal.returns-clause-sent
returns-clause-sent c = sent_comes

pub returns-clause-relayed : goal.returns-clause-relayed
returns-clause-relayed c = relayed_comes
