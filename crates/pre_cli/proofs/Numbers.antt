-- Words that are written one by one.
use Rattle.std.proofs.Common.{ℕ, ◌+◌, ◌<◌, List, length, get_or, drop, Option, Result, subst, ap}
use Rattle.std.proofs.lemmas.List.{drop_more}
use Rattle.std.specs.List.{flat_map}
use Rattle.std.specs.Result.{IsErr}
use Rattle.pre_base.specs.Told.{WhereTold}
use Rattle.pre_base.specs.Sinks.{Taken, TakesBut, TakesAll}
use Rattle.pre_base.specs.Sinks.{TakesFront}
use Rattle.pre_base.proofs.Pieces.{breaks}

-- the word of the item at a place fails, and so do all words
pub word_fails : {X U E : Type 0} (f : X → List ℕ) (items : List X) (i : ℕ) (d : X) (a b c : Option Taken) (r : Result U E) → i < length items → IsErr r
    → WhereTold a b (TakesBut (flat_map f (drop i items)) (flat_map f items)) → WhereTold b c (TakesFront (f (get_or items i d))) → WhereTold a c (TakesAll r (flat_map f items))
word_fails f items i d a b c r lt is so_far took =
    breaks a b c (flat_map f items) (f (get_or items i d)) (flat_map f (drop (i + 1) items)) r is
    (subst (λ (l : List ℕ). WhereTold a b (TakesBut l (flat_map f items))) (ap (flat_map f) (drop_more items i d lt)) so_far) took
