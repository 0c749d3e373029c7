use Rattle.pre_laws.proofs.Delivered.{delivers_once, whole_delivers_once}
use Rattle.pre_laws.proofs.laws.deliveries_are_of_frames_sent.Goals as goal

pub returns-clause-whole : goal.returns-clause-whole
returns-clause-whole c = whole_delivers_once

pub returns-clause-so_far : goal.returns-clause-so_far
returns-clause-so_far c = delivers_once
