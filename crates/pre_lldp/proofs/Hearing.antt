-- What the last advert heard is.
use Rattle.std.proofs.Common.{◌≡◌, List, [], ◌∷◌, ◌++◌, Some, refl}
use Rattle.pre_lldp.specs.Ages.{Heard, last_heard}

pub last_heard-push : (calls : List Heard) (heard : Heard) → last_heard (calls ++ heard ∷ []) ≡ Some heard
last_heard-push [] heard = refl
last_heard-push (first ∷ []) heard = refl
last_heard-push (first ∷ second ∷ more) heard = last_heard-push (second ∷ more) heard
