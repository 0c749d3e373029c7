-- A text that is written in several pieces, by calls that may fail.
use Rattle.std.proofs.Common.{ℕ, ◌+◌, ◌<◌, List, [], ◌++◌, length, get_or, drop, subst, Option, None, Some, Result, Ok, Err, refl, sym, ◌∙◌, ap, append_assoc}
use Rattle.std.specs.Result.{IsErr}
use Rattle.std.proofs.lemmas.Bool.{false≢true}
use Rattle.std.proofs.lemmas.List.{append-nil, drop_more}
use Rattle.std.specs.List.{flat_map}
use Rattle.pre_base.specs.Told.{WhereTold, WhereTold-join}
use Rattle.pre_base.specs.Sinks.{Taken, TakesBut, TakesAll, TakesWhole, TakesFront}

-- nothing is taken yet
pub untouched : (a : Option Taken) (whole : List ℕ) → WhereTold a a (TakesBut whole whole)
untouched None whole = tt
untouched (Some x) whole = ([], refl, sym (append-nil x.octets))

more : (whole p rest : List ℕ) (x y z : Taken) → TakesBut (p ++ rest) whole x y → TakesWhole p y z → TakesBut rest whole x z
more whole p rest x y z so_far took = (
  so_far.0 ++ p,
  so_far.1 ∙ sym (append_assoc so_far.0 p rest),
  took ∙ ap (λ (l : List ℕ). l ++ p) so_far.2 ∙ append_assoc x.octets so_far.0 p,
)

front : (whole p rest : List ℕ) (x y z : Taken) → TakesBut (p ++ rest) whole x y → TakesFront p y z → TakesFront whole x z
front whole p rest x y z so_far took =
    let left = took.0 in
    let part = took.1.0 in
    (left ++ rest, more whole part (left ++ rest) x y z (so_far.0, so_far.1 ∙ ap (λ (l : List ℕ). so_far.0 ++ l) (ap (λ (l : List ℕ). l ++ rest) took.1.1 ∙ append_assoc part left rest), so_far.2) took.1.2)

-- a piece went through
pub goes_on : (a b c : Option Taken) (whole p rest : List ℕ) → WhereTold a b (TakesBut (p ++ rest) whole) → WhereTold b c (TakesWhole p) → WhereTold a c (TakesBut rest whole)
goes_on a b c whole p rest so_far took = WhereTold-join a b c _ _ _ (more whole p rest) so_far took

-- a piece failed, and so does the whole call
pub breaks : {U E : Type 0} (a b c : Option Taken) (whole p rest : List ℕ) (r : Result U E) → IsErr r → WhereTold a b (TakesBut (p ++ rest) whole) → WhereTold b c (TakesFront p) → WhereTold a c (TakesAll r whole)
breaks a b c whole p rest (Ok x) is so_far took = absurd (false≢true is)
breaks a b c whole p rest (Err d) is so_far took = WhereTold-join a b c _ _ _ (front whole p rest) so_far took

all : (whole p : List ℕ) (x y z : Taken) → TakesBut p whole x y → TakesWhole p y z → TakesWhole whole x z
all whole p x y z so_far took =
    took ∙ ap (λ (l : List ℕ). l ++ p) so_far.2 ∙ append_assoc x.octets so_far.0 p ∙ ap (λ (l : List ℕ). x.octets ++ l) (sym so_far.1)

last_front : (whole p : List ℕ) (x y z : Taken) → TakesBut p whole x y → TakesFront p y z → TakesFront whole x z
last_front whole p x y z so_far took = front whole p [] x y z (so_far.0, so_far.1 ∙ ap (λ (l : List ℕ). so_far.0 ++ l) (sym (append-nil p)), so_far.2) took

-- the last piece, whose answer is the whole call's
pub ends : {U E : Type 0} (a b c : Option Taken) (whole p : List ℕ) (r : Result U E) → WhereTold a b (TakesBut p whole) → WhereTold b c (TakesAll r p) → WhereTold a c (TakesAll r whole)
ends a b c whole p (Ok x) so_far took = WhereTold-join a b c _ _ _ (all whole p) so_far took
ends a b c whole p (Err e) so_far took = WhereTold-join a b c _ _ _ (last_front whole p) so_far took

-- the piece of the element at a place fails, and so does the whole
pub piece_fails : {X U E : Type 0} (f : X → List ℕ) (xs : List X) (i : ℕ) (d : X) (a b c : Option Taken) (r : Result U E) → i < length xs → IsErr r
    → WhereTold a b (TakesBut (flat_map f (drop i xs)) (flat_map f xs)) → WhereTold b c (TakesFront (f (get_or xs i d))) → WhereTold a c (TakesAll r (flat_map f xs))
piece_fails f xs i d a b c r lt is so_far took =
    breaks a b c (flat_map f xs) (f (get_or xs i d)) (flat_map f (drop (i + 1) xs)) r is
    (subst (λ (l : List ℕ). WhereTold a b (TakesBut l (flat_map f xs))) (ap (flat_map f) (drop_more xs i d lt)) so_far) took
