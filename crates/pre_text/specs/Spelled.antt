-- What a word of the code is written as.
use Rattle.std.specs.Prelude.{ℕ, List, [], ◌∷◌, ◌++◌}
use Rattle.std.specs.Fmt.{decimal}
use Rattle.pre_text.specs.declared.writing.Word.{Word}
use Rattle.pre_text.specs.declared.writing.Word.TheVariants.{Number, Octets, Hex, Ends, Check, Two, Four}
use Rattle.pre_text.specs.Writing.{hex}

abbrev pub spelled : Word → List ℕ
spelled (Number n) = decimal n
spelled (Octets octets) = octets.now
spelled (Hex octets) = hex octets.now
spelled (Ends from to) = from.now ++ 62 ∷ to.now
spelled (Check check) = hex check
spelled (Two a b) = a ∷ b ∷ []
spelled (Four a b c d) = a ∷ b ∷ c ∷ d ∷ []
