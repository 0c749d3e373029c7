use Rattle.std.proofs.Common.{List, ℕ, [], ◌∷◌, ◌++◌, drop, map, get_or, subst, suc, arith}
use Rattle.std.proofs.lemmas.List.{drop_all}
use Rattle.pre_base.specs.Told.{WhereTold}
use Rattle.pre_base.specs.Sinks.{TakesBut}
use Rattle.pre_text.specs.declared.writing.Word.{Word}
use Rattle.pre_text.specs.declared.writing.Word.TheVariants.{Number}
use Rattle.pre_text.specs.Writing.{further, line_of}
use Rattle.pre_text.specs.Spelled.{spelled}
use Rattle.pre_base.proofs.Pieces.{untouched, goes_on, breaks, ends}
use Rattle.pre_text.proofs.WordsDropped.{further-drop}
use Rattle.pre_text.proofs.writing.put_line.Goals as goal

pub returns-in_err-put_word-clause-octets : goal.returns-in_err-put_word-clause-octets
returns-in_err-put_word-clause-octets g c =
    let whole = line_of (spelled c.args.first.now) (map spelled c.args.words.now) in
    breaks _ _ _ whole (spelled c.args.first.now) (further (map spelled c.args.words.now)) c.from_residual.result c.from_residual.ensures.0 (untouched _ whole) c.in_err-put_word.ensures.octets

pub returns-in_err-write_all-clause-octets : goal.returns-in_err-write_all-clause-octets
returns-in_err-write_all-clause-octets g c =
    let words = c.args.words.now in
    let i = c.loop-word.word-index in
    let word = get_or words i (Number 0) in
    let rest = further (map spelled (drop (suc i) words)) in
    let whole = line_of (spelled c.args.first.now) (map spelled words) in
    let so_far = subst (λ (l : List ℕ). WhereTold (g.S.Sink.tells c.args.sink.now) (g.S.Sink.tells c.loop-word.sink) (TakesBut l whole)) (further-drop words i (Number 0) c.loop-word-test.true) c.loop-word.invariant.taken in
    breaks _ _ _ whole (32 ∷ []) (spelled word ++ rest) c.from_residual-in_err-write_all.result c.from_residual-in_err-write_all.ensures.0 so_far c.in_err-write_all.ensures.octets

pub returns-in_err-put_word-2-clause-octets : goal.returns-in_err-put_word-2-clause-octets
returns-in_err-put_word-2-clause-octets g c =
    let words = c.args.words.now in
    let i = c.loop-word.word-index in
    let word = get_or words i (Number 0) in
    let rest = further (map spelled (drop (suc i) words)) in
    let whole = line_of (spelled c.args.first.now) (map spelled words) in
    let so_far = subst (λ (l : List ℕ). WhereTold (g.S.Sink.tells c.args.sink.now) (g.S.Sink.tells c.loop-word.sink) (TakesBut l whole)) (further-drop words i (Number 0) c.loop-word-test.true) c.loop-word.invariant.taken in
    let spaced = goes_on _ _ _ whole (32 ∷ []) (spelled word ++ rest) so_far c.in_ok-write_all.ensures.octets in
    breaks _ _ _ whole (spelled word) rest c.from_residual-in_err-put_word-2.result c.from_residual-in_err-put_word-2.ensures.0 spaced c.in_err-put_word-2.ensures.octets

pub returns-clause-octets : goal.returns-clause-octets
returns-clause-octets g c =
    let whole = line_of (spelled c.args.first.now) (map spelled c.args.words.now) in
    let so_far = subst (λ (ws : List Word). WhereTold (g.S.Sink.tells c.args.sink.now) (g.S.Sink.tells c.loop-word.sink) (TakesBut (further (map spelled ws)) whole)) (drop_all c.loop-word.word-index c.args.words.now (omega arith)) c.loop-word.invariant.taken in
    ends _ _ _ whole (10 ∷ []) c.write_all-2.result so_far c.write_all-2.ensures.octets
