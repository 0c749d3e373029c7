use Rattle.std.proofs.Common.{◌≡◌, true, sym, ◌∙◌, get_or, take, arith, ◌||◌, ◌&&◌}
use Rattle.std.specs.Str.{bytes_eq}
use Rattle.pre_table.proofs.FirstRows.{first_row_at, first_row_none, none_further}
use Rattle.pre_topo.specs.FileRules.{ends_break}
use Rattle.pre_topo.proofs.Linked.{are_linked, linked_more, wrong_end_breaks, linked_breaks, link_holds}
use Rattle.pre_topo.proofs.checks.bad_ends.Goals.{then-has_wrong_end-via-then-has_wrong_end, then-has_wrong_end-via-else-has_wrong_end+in_ok-add+then-not-branch}
use Rattle.pre_topo.proofs.checks.bad_ends.Goals as goal

pub returns-then-has_wrong_end : goal.returns-then-has_wrong_end
returns-then-has_wrong_end c =
    let nodes = c.args.nodes.now in
    let links = c.args.links.now in
    let i = c.loop-row.row in
    let link = c.index-links-row.result in
    let first = c.as_str-first.result.now in
    let second = c.as_str-second.result.now in
    let breaks : ends_break nodes links i (get_or links i link) ≡ true = elim c.then-has_wrong_end.branch [
      | then-has_wrong_end-via-then-has_wrong_end w ↦
          wrong_end_breaks nodes links i link first second c.index-links-row.is c.as_str-first.ensures c.as_str-second.ensures (sym c.has_wrong_end.ensures ∙ w.if-has_wrong_end.true)
      | then-has_wrong_end-via-else-has_wrong_end+in_ok-add+then-not-branch w ↦
          linked_breaks nodes links i link first second c.index-links-row.is c.as_str-first.ensures c.as_str-second.ensures w.in_ok-add.field-0
          (w.in_ok-add.ensures.first (are_linked (take i links)) c.loop-row.invariant.joined)
          w.if-not-branch.true
    ] in
    sym (first_row_at (ends_break nodes links) links i link c.loop-row.invariant.good c.loop-row-test.true breaks)

pub loop-row-preserved : goal.loop-row-preserved
loop-row-preserved c =
    let nodes = c.args.nodes.now in
    let links = c.args.links.now in
    let i = c.loop-row.row in
    let link = c.index-links-row.result in
    let first = c.as_str-first.result.now in
    let second = c.as_str-second.result.now in
    let holds = link_holds nodes links i link first second c.index-links-row.is c.as_str-first.ensures c.as_str-second.ensures c.in_ok-add.field-0
    (c.in_ok-add.ensures.first (are_linked (take i links)) c.loop-row.invariant.joined)
    (sym c.has_wrong_end.ensures ∙ c.if-has_wrong_end.false)
    c.if-not-branch.false in
    let once = c.in_ok-add.ensures.added (are_linked (take i links)) c.loop-row.invariant.joined in
    let both = c.in_ok-add-2.ensures.added (λ a b. are_linked (take i links) a b || (bytes_eq first a && bytes_eq second b)) once in
    record {
      joined = linked_more c.add-in-loop-row.new.self links i link first second c.index-links-row.is c.as_str-first.ensures c.as_str-second.ensures c.loop-row-test.true both;
      good = none_further (ends_break nodes links) links i link c.loop-row.invariant.good holds c.loop-row-test.true;
    }

pub returns : goal.returns
returns c =
    sym (first_row_none (ends_break c.args.nodes.now c.args.links.now) c.args.links.now c.loop-row.row c.loop-row.invariant.good (omega (arith, c.loop-row-test.false, c.loop-row.auto.row-end)))
