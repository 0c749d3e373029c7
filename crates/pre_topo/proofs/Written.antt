-- What is written piece by piece, and breaks off in one.
use Rattle.std.proofs.Common.{◌≡◌, ℕ, ◌-◌, ◌≤◌, List, [], ◌∷◌, ◌++◌, length, get_or, take, drop, Option, Result, subst, ap, sym, ◌∙◌, refl, arith}
use Rattle.std.proofs.lemmas.List.{length-drop}
use Rattle.std.proofs.Math.Seq.{take-length}
use Rattle.std.specs.Result.{IsErr}
use Rattle.pre_base.specs.Told.{WhereTold}
use Rattle.pre_base.specs.Sinks.{Taken, TakesBut, TakesAll}
use Rattle.pre_base.specs.Sinks.{TakesWhole, TakesFront}
use Rattle.pre_base.proofs.Pieces.{goes_on, breaks}
use Rattle.pre_topo.specs.declared.arcs.Arc.{Arc}
use Rattle.pre_topo.specs.declared.nodes.Node.{Node}
use Rattle.pre_topo.specs.Text.{link_text, links_text}

module _ (nodes : List Node) where
  -- the link of the first two arcs stands first
  links_text-more : (arcs : List Arc) (d : Arc) → 2 ≤ length arcs → links_text nodes arcs ≡ link_text nodes (get_or arcs 0 d) ++ links_text nodes (drop 2 arcs)
  links_text-more [] d long = absurd (omega arith)
  links_text-more (a ∷ []) d long = absurd (omega arith)
  links_text-more (a ∷ b ∷ arcs) d long = refl

  module _ (arcs rest : List Arc) (d : Arc) (a b c : Option Taken) (long : 2 ≤ length rest) (so_far : WhereTold a b (TakesBut (links_text nodes rest) (links_text nodes arcs))) where
    split : WhereTold a b (TakesBut (link_text nodes (get_or rest 0 d) ++ links_text nodes (drop 2 rest)) (links_text nodes arcs))
    split = subst (λ (l : List ℕ). WhereTold a b (TakesBut l (links_text nodes arcs))) (links_text-more rest d long) so_far

    -- the next link fails, and so do all
    pub link_fails : {U E : Type 0} (r : Result U E) → IsErr r → WhereTold b c (TakesFront (link_text nodes (get_or rest 0 d))) → WhereTold a c (TakesAll r (links_text nodes arcs))
    link_fails r is took = breaks a b c (links_text nodes arcs) (link_text nodes (get_or rest 0 d)) (links_text nodes (drop 2 rest)) r is split took

    -- it is written, and those behind it are left
    pub link_goes_on : WhereTold b c (TakesWhole (link_text nodes (get_or rest 0 d))) → WhereTold a c (TakesBut (links_text nodes (take (length rest - 2) (drop 2 rest))) (links_text nodes arcs))
    link_goes_on took =
        let left : take (length rest - 2) (drop 2 rest) ≡ drop 2 rest = ap (λ n. take n (drop 2 rest)) (sym (length-drop 2 rest)) ∙ take-length (drop 2 rest) in
        subst (λ (l : List Arc). WhereTold a c (TakesBut (links_text nodes l) (links_text nodes arcs))) (sym left)
        (goes_on a b c (links_text nodes arcs) (link_text nodes (get_or rest 0 d)) (links_text nodes (drop 2 rest)) split took)
