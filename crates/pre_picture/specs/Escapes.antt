-- Texts in XML (XML 1.0, 2.4): the characters that it keeps for itself are written as entities.
use Rattle.std.specs.Prelude.{ℕ, ◌==◌, List, [], ◌∷◌, codes, if◌then◌else◌}
use Rattle.std.specs.List.{flat_map}

abbrev pub escape : ℕ → List ℕ
escape c =
    if c == 38 then codes "&amp;"
    else if c == 60 then codes "&lt;"
    else if c == 62 then codes "&gt;"
    else if c == 34 then codes "&quot;"
    else c ∷ []

abbrev pub escaped : List ℕ → List ℕ
escaped octets = flat_map escape octets
