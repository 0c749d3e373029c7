-- Links that stay as they were.
use Rattle.std.proofs.Common.{ℕ, zero, suc, ◌≡◌, ◌∷◌, [], List, map, refl, sym, ◌∙◌, ap, Some}
use Rattle.std.specs.Prelude.{slice_get, set}
use Rattle.pre_links.specs.declared.links.Link.{Link}
use Rattle.pre_sim.specs.declared.lanes.Lane.{Lane}
use Rattle.pre_sim.specs.Keeps.{SameLinks}

-- with another lane at an arc, of the same link
pub links_set : (lanes : List Lane) (a : ℕ) (old new : Lane) → slice_get lanes a ≡ Some old → new.link ≡ old.link → SameLinks lanes (set lanes a new)
links_set [] a old new at same = refl
links_set (x ∷ lanes) zero old new at same =
    let is : old.link ≡ x.link = let one : x ≡ old = cc at in ap (λ (l : Lane). l.link) (sym one) in
    ap (λ (k : Link). k ∷ map (λ (l : Lane). l.link) lanes) (same ∙ is)
links_set (x ∷ lanes) (suc a) old new at same = ap (λ ks. x.link ∷ ks) (links_set lanes a old new at same)

-- over two steps
pub links_then : (a b c : List Lane) → SameLinks a b → SameLinks b c → SameLinks a c
links_then a b c first second = second ∙ first
