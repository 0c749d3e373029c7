use Rattle.std.proofs.Common.{subst, ap, sym, ◌∙◌, ◌≤◌, length, is_none}
use Rattle.pre_streams.specs.declared.rows.Row.{Row}
use Rattle.pre_streams.specs.Joined.{first_flow}
use Rattle.pre_streams.proofs.Joining.{first_within, few_after, fits_after, placed}
use Rattle.pre_streams.proofs.rows.Streams.insert_stream.Goals as goal

pub insert-requires : goal.insert-requires
insert-requires c =
    subst (λ n. n ≤ length c.args.self.now.rows) (sym (c.first_flow-place.ensures ∙ ap first_flow c.as_slice.ensures)) (first_within (λ (r : Row). is_none r.curve) c.args.self.now.rows)

pub invariant_of-self : goal.invariant_of-self
invariant_of-self c = record {
  few = few_after c.insert.result c.args.self.now.rows c.insert.new.self c.args.row c.requires c.args.self.now.few
      (placed c.insert.result _ c.args.self.now.rows c.insert.new.self c.args.row (c.first_flow-place.ensures ∙ ap first_flow c.as_slice.ensures) c.insert.ensures.ok) c.insert.ensures.err;
}

pub returns-clause-fits : goal.returns-clause-fits
returns-clause-fits c net fits is =
    fits_after c.insert.result net c.args.self.now _ c.args.row c.requires
    (placed c.insert.result _ c.args.self.now.rows c.insert.new.self c.args.row (c.first_flow-place.ensures ∙ ap first_flow c.as_slice.ensures) c.insert.ensures.ok) c.insert.ensures.err fits is
