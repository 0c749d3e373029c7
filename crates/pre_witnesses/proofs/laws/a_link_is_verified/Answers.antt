use Rattle.pre_witnesses.proofs.VerifiedLinkLegal.{verified_link_legal}
use Rattle.pre_witnesses.proofs.Scenarios.{verifies_some}
use Rattle.pre_witnesses.proofs.laws.a_link_is_verified.Goals as goal

pub returns-clause-legal : goal.returns-clause-legal
returns-clause-legal c = verified_link_legal

pub returns-clause-some : goal.returns-clause-some
returns-clause-some c = verifies_some
