use Rattle.std.proofs.Common.{◌∙◌, ◌≡◌, ◌+◌, ◌-◌, ap, arith, take, drop, sym, List, ℕ, length, suc, length-drop, add-one}
use Rattle.std.proofs.lemmas.List.{take_all}
use Rattle.std.specs.Str.{bytes_eq}
use Rattle.pre_topo.proofs.Joined.{other_mark, other_front, joined}
use Rattle.pre_topo.proofs.names.is_joined.Goals as goal

pub returns-then-word-at-ne62 : goal.returns-then-word-at-ne62
returns-then-word-at-ne62 c = other_mark c.args.from.now c.args.to.now c.args.word.now 62 c.if-word-at-ne62.true

pub returns-then-ne : goal.returns-then-ne
returns-then-ne c = other_front c.args.from.now c.args.to.now c.args.word.now 62 (sym c.if-ne.true ∙ c.ne.ensures)

pub returns : goal.returns
returns c =
    let rest : take (length c.args.word.now - (length c.args.from.now + 1)) (drop (length c.args.from.now + 1) c.args.word.now) ≡ drop (suc (length c.args.from.now)) c.args.word.now =
    rw add-one (take_all (length c.args.word.now - suc (length c.args.from.now)) (drop (suc (length c.args.from.now)) c.args.word.now) (rw length-drop (omega arith))) in
    c.eq.ensures
    ∙ ap (λ (l : List ℕ). bytes_eq l c.args.to.now) rest
    ∙ joined c.args.from.now c.args.to.now c.args.word.now 62 c.if-word-at.false c.if-word-at-ne62.false (sym c.if-ne.false ∙ c.ne.ensures)
