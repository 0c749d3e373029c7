-- How many of the frames of a list, of the rings of a port and of lanes stand in a slot.
use Rattle.std.proofs.Common.{ℕ, zero, suc, ◌≡◌, ◌≢◌, ◌+◌, ◌<◌, ◌≤◌, ◌==◌, cond, List, [], ◌∷◌, ◌++◌, length, refl, ◌∙◌, ap, arith}
use Rattle.std.specs.Prelude.{slice_index_or, set}
use Rattle.std.specs.List.{sum_by, AllByRecursion as Every}
use Rattle.std.proofs.lemmas.List.Sums.{sum_by-cons, sum_by-append, sum_by-set}
use Rattle.pre_rings.specs.declared.slots.FrameRef.{FrameRef}
use Rattle.pre_sim.specs.Keeps.{among}
use Rattle.pre_sim.proofs.NumberTests.{is_eq, not_eq}

-- one that stands in it
pub among-here : (s : ℕ) (f : FrameRef) (fs : List FrameRef) → f.slot ≡ s → among s (f ∷ fs) ≡ 1 + among s fs
among-here s f fs here = sum_by-cons (λ (g : FrameRef). cond (g.slot == s) 1 0) f fs ∙ ap (λ b. cond b 1 0 + among s fs) (is_eq f.slot s here)

-- and one that doesn't
pub among-other : (s : ℕ) (f : FrameRef) (fs : List FrameRef) → f.slot ≢ s → among s (f ∷ fs) ≡ among s fs
among-other s f fs other =
    let e : among s (f ∷ fs) ≡ 0 + among s fs = sum_by-cons (λ (g : FrameRef). cond (g.slot == s) 1 0) f fs ∙ ap (λ b. cond b 1 0 + among s fs) (not_eq f.slot s other) in
    omega (arith, e)

-- one frame and more
pub among-cons : (s : ℕ) (f : FrameRef) (fs : List FrameRef) → among s (f ∷ fs) ≡ among s (f ∷ []) + among s fs
among-cons s f fs = sum_by-append (λ (g : FrameRef). cond (g.slot == s) 1 0) (f ∷ []) fs

-- frames before others
pub among-append : (s : ℕ) (fs gs : List FrameRef) → among s (fs ++ gs) ≡ among s fs + among s gs
among-append s fs gs = sum_by-append (λ (g : FrameRef). cond (g.slot == s) 1 0) fs gs

-- where none is in the slot, each frame is in another
pub first_elsewhere : (s : ℕ) (f : FrameRef) (fs : List FrameRef) → among s (f ∷ fs) ≡ 0 → f.slot ≢ s
first_elsewhere s f fs none here = omega (arith, among-here s f fs here, none)

-- what is so of each frame in another slot, where none is in this one
pub each_elsewhere : (P Q : FrameRef → Type 0) (s : ℕ) (fs : List FrameRef) → ((f : FrameRef) → f.slot ≢ s → P f → Q f) → among s fs ≡ 0 → Every P fs → Every Q fs
each_elsewhere P Q s [] goes none all = tt
each_elsewhere P Q s (f ∷ fs) goes none (here, more) =
    (goes f (first_elsewhere s f fs none) here, each_elsewhere P Q s fs goes (omega (arith, among-cons s f fs, none)) more)

-- where each is in another slot, none is in this one
pub none_among : (P : FrameRef → Type 0) (s : ℕ) (fs : List FrameRef) → ((f : FrameRef) → P f → f.slot ≢ s) → Every P fs → among s fs ≡ 0
none_among P s [] other all = refl
none_among P s (f ∷ fs) other (here, more) = among-other s f fs (other f here) ∙ none_among P s fs other more

-- a ring has no more of them than all rings
pub among_ring : (s : ℕ) (rings : List (List FrameRef)) (p : ℕ) → among s (slice_index_or rings p []) ≤ sum_by (among s) rings
among_ring s [] p = omega arith
among_ring s (fs ∷ rings) zero = omega (arith, sum_by-cons (among s) fs rings)
among_ring s (fs ∷ rings) (suc p) = omega (arith, sum_by-cons (among s) fs rings, among_ring s rings p)

-- where none is in the slot in each ring, none is in all of them
pub none_among_rings : (P : ℕ → FrameRef → Type 0) (s : ℕ) (rings : List (List FrameRef)) → ((p : ℕ) (f : FrameRef) → P p f → f.slot ≢ s)
    → ((p : ℕ) → Every (P p) (slice_index_or rings p [])) → sum_by (among s) rings ≡ 0
none_among_rings P s [] other all = refl
none_among_rings P s (fs ∷ rings) other all =
    omega (arith, sum_by-cons (among s) fs rings, none_among (P zero) s fs (other zero) (all zero), none_among_rings (λ p. P (suc p)) s rings (λ p. other (suc p)) (λ p. all (suc p)))

-- with other frames in one ring
pub among_with : (s : ℕ) (rings : List (List FrameRef)) (p : ℕ) (fs : List FrameRef) → p < length rings
    → sum_by (among s) (set rings p fs) + among s (slice_index_or rings p []) ≡ sum_by (among s) rings + among s fs
among_with s rings p fs lt = sum_by-set (among s) rings p fs [] lt

-- the frames of a ring, of rings with other frames in one
pub rings_with : (P : ℕ → FrameRef → Type 0) (rings : List (List FrameRef)) (p : ℕ) (fs : List FrameRef) → ((q : ℕ) → Every (P q) (slice_index_or rings q [])) → Every (P p) fs → (q : ℕ)
    → Every (P q) (slice_index_or (set rings p fs) q [])
rings_with P [] p fs all here q = all q
rings_with P (gs ∷ rings) zero fs all here zero = here
rings_with P (gs ∷ rings) zero fs all here (suc q) = all (suc q)
rings_with P (gs ∷ rings) (suc p) fs all here zero = all zero
rings_with P (gs ∷ rings) (suc p) fs all here (suc q) = rings_with (λ r. P (suc r)) rings p fs (λ r. all (suc r)) here q
