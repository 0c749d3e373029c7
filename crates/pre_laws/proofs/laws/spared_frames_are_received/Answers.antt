use Rattle.pre_laws.proofs.Spared.{gives, frame_received}
use Rattle.pre_laws.proofs.SparedFlows.{spared_gives}
use Rattle.pre_laws.proofs.laws.spared_frames_are_received.Goals as goal

pub returns-clause-express : goal.returns-clause-express
returns-clause-express c = gives

pub returns-clause-whole : goal.returns-clause-whole
returns-clause-whole c = spared_gives

pub returns-clause-received : goal.returns-clause-received
returns-clause-received c = frame_received
