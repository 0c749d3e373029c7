-- What the pieces of a picture are written as, and its elements (SVG 1.1, 9 and 10).
use Rattle.std.specs.Prelude.{ℕ, List, [], ◌∷◌, ◌++◌, codes}
use Rattle.std.specs.Fmt.{decimal}
use Rattle.pre_picture.specs.declared.pieces.Piece.{Piece}
use Rattle.pre_picture.specs.declared.pieces.Piece.TheVariants.{Plain, Text, Number}
use Rattle.pre_picture.specs.Escapes.{escaped}

abbrev pub shown : Piece → List ℕ
shown (Plain octets) = octets.now
shown (Text octets) = escaped octets.now
shown (Number n) = decimal n

abbrev pub joined : List (List ℕ) → List ℕ
joined [] = []
joined (piece ∷ pieces) = piece ++ joined pieces

-- a rectangle: its class, its left upper corner, its width and its height
unfoldable pub rect : List ℕ → (x y width height : ℕ) → List ℕ
rect class x y width height = joined (
    codes "<rect class=\"" ∷ class ∷ codes "\" x=\"" ∷ decimal x ∷ codes "\" y=\"" ∷ decimal y
    ∷ codes "\" width=\"" ∷ decimal width ∷ codes "\" height=\"" ∷ decimal height ∷ codes "\"/>\n" ∷ [])

-- a circle: its class, its centre and its radius
unfoldable pub circle : List ℕ → (x y radius : ℕ) → List ℕ
circle class x y radius = joined (
    codes "<circle class=\"" ∷ class ∷ codes "\" cx=\"" ∷ decimal x ∷ codes "\" cy=\"" ∷ decimal y ∷ codes "\" r=\"" ∷ decimal radius ∷ codes "\"/>\n" ∷ [])

-- a text of three parts: its class and the point at which it stands
unfoldable pub text : List ℕ → (x y : ℕ) → (first middle last : List ℕ) → List ℕ
text class x y first middle last = joined (
    codes "<text class=\"" ∷ class ∷ codes "\" x=\"" ∷ decimal x ∷ codes "\" y=\"" ∷ decimal y ∷ codes "\">" ∷ first ∷ middle ∷ last ∷ codes "</text>\n" ∷ [])
