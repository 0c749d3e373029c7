use Rattle.std.proofs.Common.{subst, ℕ, List}
use Rattle.pre_base.specs.Told.{WhereTold}
use Rattle.pre_base.specs.Sinks.{TakesAll}
use Rattle.pre_trace.proofs.Summed.{text_is}
use Rattle.pre_trace.proofs.summary_lines.put_summary.Goals as goal

pub returns-clause-octets : goal.returns-clause-octets
returns-clause-octets g c = λ h sums once few known.
    let s = c.args.summary.now in
    subst (λ (l : List ℕ). WhereTold (g.S.Sink.tells c.args.sink.now) (g.S.Sink.tells c.put_kept.new.sink) (TakesAll c.put_kept.result l))
    (text_is s.script.now s.tallies s.slots s.kept h sums c.args.net.now c.args.streams.now c.args.bounds.now c.args.number once few known)
    c.put_kept.ensures.octets
