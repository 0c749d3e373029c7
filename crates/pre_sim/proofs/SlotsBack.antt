-- A slot that was taken and is in again.
use Rattle.std.proofs.Common.{ℕ, zero, suc, ◌≡◌, List, [], ◌∷◌, refl, sym, ◌∙◌, ap, subst, Some, None}
use Rattle.std.specs.Prelude.{slice_get, set}
use Rattle.pre_rings.specs.Stores.{IsOut}
use Rattle.pre_sim.specs.Keeps.{Store}
use Rattle.pre_sim.specs.Arriving.{IsStored}

-- the slot is out
set_out : (store : Store) (slot : ℕ) (octets : List ℕ) → slice_get store slot ≡ Some None → IsOut (set store slot (Some octets)) slot
set_out [] slot octets at = absurd (cc at)
set_out (x ∷ store) zero octets at = refl
set_out (x ∷ store) (suc slot) octets at = set_out store slot octets at

pub is_out : (store store' : Store) (slot slot' : ℕ) (octets : List ℕ) → IsStored store octets slot store' → slot' ≡ slot → IsOut store' slot'
is_out store store' slot slot' octets is same = subst (λ s. IsOut s slot') (sym is.1) (subst (IsOut (set store slot (Some octets))) (sym same) (set_out store slot octets is.0))

-- and once it is in again the store is as before
set_back : (store : Store) (slot : ℕ) (octets : List ℕ) → slice_get store slot ≡ Some None → set (set store slot (Some octets)) slot None ≡ store
set_back [] slot octets at = absurd (cc at)
set_back (x ∷ store) zero octets at = let same : None ≡ x = cc at in ap (λ y. y ∷ store) same
set_back (x ∷ store) (suc slot) octets at = ap (λ s. x ∷ s) (set_back store slot octets at)

pub is_back : (store store' store'' : Store) (slot slot' : ℕ) (octets : List ℕ) → IsStored store octets slot store' → slot' ≡ slot → store'' ≡ set store' slot' None → store'' ≡ store
is_back store store' store'' slot slot' octets is same back =
    back ∙ (ap (λ n. set store' n None) same ∙ (ap (λ s. set s slot None) is.1 ∙ set_back store slot octets is.0))
