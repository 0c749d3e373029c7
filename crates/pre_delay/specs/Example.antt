-- The numbers of the certificate of the built-in streams in the built-in network.
use Rattle.std.specs.Prelude.{true}
use Rattle.pre_bound.specs.Values.{Values}

abbrev pub pair_numbers : Values
pair_numbers = record {
  ranked = true;
  rank = λ a. 0;
  largest = λ a. 1522;
  block = λ a p. 143;
  work = λ a p. 2000;
  rate = λ a p. 0;
  delay = λ a p. 2143;
  size = λ a p. 2214;
  burst = λ i hop. 2000;
  bound = λ i. 2131;
}
