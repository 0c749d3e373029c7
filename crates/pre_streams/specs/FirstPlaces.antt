-- The places at which numbers came first.
use Rattle.std.specs.Prelude.{ℕ, Option}
use Rattle.std.specs.BTreeMap.{get}
use Rattle.std.specs.Ordering.{nat_cmp}
use Rattle.pre_table.specs.declared.values.Whole.{Whole}
use Rattle.pre_table.specs.declared.values.Whole.TheVariants.{Natural, Negative}
use Rattle.pre_streams.specs.declared.first_places.FirstPlaces.{FirstPlaces}

abbrev pub place_of : FirstPlaces → Whole → Option ℕ
place_of firsts (Natural n) = get nat_cmp firsts.naturals n
place_of firsts (Negative n) = get nat_cmp firsts.negatives n
