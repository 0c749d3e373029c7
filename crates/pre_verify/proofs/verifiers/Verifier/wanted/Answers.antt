use Rattle.std.proofs.Common.{sym, ◌∙◌}
use Rattle.pre_verify.proofs.Standing.{wanted_at-is}
use Rattle.pre_verify.proofs.verifiers.Verifier.wanted.Goals as goal

pub returns-clause-due : goal.returns-clause-due
returns-clause-due c = λ wait calls s. c.wants.ensures ∙ sym (wanted_at-is c.args.self.now wait calls c.args.now.0 s c.requires)
