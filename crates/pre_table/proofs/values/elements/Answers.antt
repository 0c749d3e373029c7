use Rattle.std.proofs.Common.{List, map, sym, ◌∙◌, ap}
use Rattle.toml.specs.View.{view}
use Rattle.toml.specs.declared.value.Value.{Value}
use Rattle.pre_table.proofs.Elements.{items_in-of}
use Rattle.pre_table.proofs.values.elements.Goals as goal

pub returns : goal.returns
returns c = ap (λ (vs : List Value). map view vs) c.as_slice.ensures.value ∙ sym (items_in-of (map view c.args.array.now.items))
