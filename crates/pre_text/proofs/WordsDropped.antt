-- The words of a line, one by one.
use Rattle.std.proofs.Common.{◌≡◌, ℕ, zero, suc, ◌<◌, List, [], ◌∷◌, ◌++◌, length, get_or, drop, map, refl, arith}
use Rattle.pre_text.specs.declared.writing.Word.{Word}
use Rattle.pre_text.specs.Writing.{further}
use Rattle.pre_text.specs.Spelled.{spelled}

pub further-drop : (ws : List Word) (i : ℕ) (d : Word) → i < length ws → further (map spelled (drop i ws)) ≡ 32 ∷ (spelled (get_or ws i d) ++ further (map spelled (drop (suc i) ws)))
further-drop [] i d lt = absurd (omega arith)
further-drop (x ∷ ws) zero d lt = refl
further-drop (x ∷ ws) (suc i) d lt = further-drop ws i d (omega arith)
