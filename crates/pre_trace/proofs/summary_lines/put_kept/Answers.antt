use Rattle.std.proofs.Common.{[], ◌∷◌, ◌++◌, map, take, codes, ap, ◌∙◌, subst, rules, ℕ, List}
use Rattle.std.specs.Fmt.{decimal}
use Rattle.std.specs.List.{flat_map}
use Rattle.pre_base.specs.Told.{WhereTold}
use Rattle.pre_base.specs.Sinks.{TakesAll}
use Rattle.pre_base.specs.Sinks.{TakesWhole, TakesFront}
use Rattle.pre_base.proofs.Pieces.{untouched, goes_on, breaks, ends}
use Rattle.pre_text.specs.Writing.{line_of}
use Rattle.pre_trace.specs.Text.{line, text}
use Rattle.pre_trace.specs.Sums.{figures_from, plain_closing}
use Rattle.pre_trace.specs.SummaryText.{stream_lines}
use Rattle.pre_trace.proofs.Summed.{text_kept}
use Rattle.pre_trace.proofs.summary_lines.put_kept.Goals as goal

pub returns-in_err-put_line-clause-octets : goal.returns-in_err-put_line-clause-octets
returns-in_err-put_line-clause-octets g c =
    let before = g.S.Sink.tells c.args.sink.now in
    let s = c.args.summary.now in
    let number = line_of (codes "drill") (decimal c.args.number ∷ []) in
    let lines = stream_lines c.args.streams.now (figures_from s.script.now s.tallies) c.args.bounds.now in
    let ending = text c.args.net.now (map plain_closing (take s.kept s.slots)) in
    let whole = number ++ (lines ++ ending) in
    let f : WhereTold before (g.S.Sink.tells c.put_line.new.sink) (TakesFront number) = search rules in
    breaks before before (g.S.Sink.tells c.put_line.new.sink) whole number (lines ++ ending) c.from_residual.result c.from_residual.ensures.0 (untouched before whole) f

pub returns-in_err-put_streams-clause-octets : goal.returns-in_err-put_streams-clause-octets
returns-in_err-put_streams-clause-octets g c =
    let before = g.S.Sink.tells c.args.sink.now in
    let s = c.args.summary.now in
    let number = line_of (codes "drill") (decimal c.args.number ∷ []) in
    let lines = stream_lines c.args.streams.now (figures_from s.script.now s.tallies) c.args.bounds.now in
    let ending = text c.args.net.now (map plain_closing (take s.kept s.slots)) in
    let whole = number ++ (lines ++ ending) in
    let t0 : WhereTold before (g.S.Sink.tells c.put_line.new.sink) (TakesWhole number) = search rules in
    let s0 = goes_on before before (g.S.Sink.tells c.put_line.new.sink) whole number (lines ++ ending) (untouched before whole) t0 in
    let f : WhereTold (g.S.Sink.tells c.put_line.new.sink) (g.S.Sink.tells c.put_streams.new.sink) (TakesFront lines) = search rules in
    breaks before (g.S.Sink.tells c.put_line.new.sink) (g.S.Sink.tells c.put_streams.new.sink) whole lines ending
    c.from_residual-in_err-put_streams.result c.from_residual-in_err-put_streams.ensures.0 s0 f

pub returns-clause-octets : goal.returns-clause-octets
returns-clause-octets g c =
    let before = g.S.Sink.tells c.args.sink.now in
    let s = c.args.summary.now in
    let number = line_of (codes "drill") (decimal c.args.number ∷ []) in
    let lines = stream_lines c.args.streams.now (figures_from s.script.now s.tallies) c.args.bounds.now in
    let ending = text c.args.net.now (map plain_closing (take s.kept s.slots)) in
    let whole = number ++ (lines ++ ending) in
    let t0 : WhereTold before (g.S.Sink.tells c.put_line.new.sink) (TakesWhole number) = search rules in
    let s0 = goes_on before before (g.S.Sink.tells c.put_line.new.sink) whole number (lines ++ ending) (untouched before whole) t0 in
    let t1 : WhereTold (g.S.Sink.tells c.put_line.new.sink) (g.S.Sink.tells c.put_streams.new.sink) (TakesWhole lines) = search rules in
    let s1 = goes_on before (g.S.Sink.tells c.put_line.new.sink) (g.S.Sink.tells c.put_streams.new.sink) whole lines ending s0 t1 in
    let same = ap (flat_map (λ k. line c.args.net.now (plain_closing k))) c.kept_closings.ensures ∙ text_kept c.args.net.now (take s.kept s.slots) in
    ends before (g.S.Sink.tells c.put_streams.new.sink) (g.S.Sink.tells c.put_closings.new.sink) whole ending c.put_closings.result s1
    (subst (λ (l : List ℕ). WhereTold (g.S.Sink.tells c.put_streams.new.sink) (g.S.Sink.tells c.put_closings.new.sink) (TakesAll c.put_closings.result l)) same c.put_closings.ensures.octets)
