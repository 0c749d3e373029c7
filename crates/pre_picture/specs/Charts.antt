-- What the pictures share: their front with the forms of its classes, and a scale along the top.
use Rattle.std.specs.Prelude.{ℕ, ◌+◌, ◌-◌, ◌*◌, ◌/◌, ◌%◌, ◌==◌, List, [], ◌∷◌, ◌++◌, codes, if◌then◌else◌}
use Rattle.std.specs.Fmt.{decimal}
use Rattle.std.specs.List.{flat_map, range_with_len}
use Rattle.pre_picture.specs.declared.scales.Scale.{Scale}
use Rattle.pre_picture.specs.Pieces.{joined, rect, text}
use Rattle.pre_picture.specs.Scales.{place}

-- a text of one part
abbrev pub text_of : List ℕ → (x y : ℕ) → List ℕ → List ℕ
text_of class x y word = text class x y word [] []

-- the front of a picture of this height, whose width is 10,000
-- BEGIN head
unfoldable pub head : ℕ → List ℕ
head height = joined (
    codes "<svg xmlns=\"http://www.w3.org/2000/svg\" font-family=\"DejaVu Sans, Verdana, Arial, sans-serif\" font-size=\"140\" viewBox=\"0 0 10000 "
    ∷ decimal height
    ∷ codes "\">\n<style>.paper{fill:#fff}.grid{fill:#d5d5d5}.base{fill:#888}.size{fill:#c00000}\n"
    ∷ codes ".name,.right{text-anchor:end}.tick,.on,.lost,.nothing{text-anchor:middle}.tick,.note,.right{fill:#333;font-size:125px}\n"
    ∷ codes ".on{font-size:120px;paint-order:stroke;stroke:#fff;stroke-width:34px}.express{fill:#1f4e79}\n"
    ∷ codes ".part{fill:url(#hatch);stroke:#9c4a00;stroke-width:10}.ask{fill:url(#dots);stroke:#5b2a86;stroke-width:10}\n"
    ∷ codes ".lldp{fill:#e3f1de;stroke:#2f6b2f;stroke-width:12;stroke-dasharray:36 24}.here{fill:#fff;stroke:#000;stroke-width:22}\n"
    ∷ codes ".lost,.nothing{font-weight:bold;font-size:250px;fill:#c00000;paint-order:stroke;stroke:#fff;stroke-width:40px}\n"
    ∷ codes ".bound{fill:#c9d9ea;stroke:#1f4e79;stroke-width:10}.delay{fill:#1f4e79;fill-opacity:.5}.queue{fill:#1f4e79;stroke:#1f4e79;stroke-width:8}\n"
    ∷ codes "</style>\n<defs><pattern id=\"hatch\" width=\"60\" height=\"60\" patternUnits=\"userSpaceOnUse\" patternTransform=\"rotate(45)\">\n"
    ∷ codes "<path fill=\"#ffe3c2\" d=\"M0 0h60v60H0z\"/><path fill=\"#e08a2e\" d=\"M0 0h18v60H0z\"/></pattern>\n"
    ∷ codes "<pattern id=\"dots\" width=\"48\" height=\"48\" patternUnits=\"userSpaceOnUse\"><path fill=\"#efe4f7\" d=\"M0 0h48v48H0z\"/>\n"
    ∷ codes "<path fill=\"#5b2a86\" d=\"M0 0h20v20H0z\"/></pattern></defs>\n<rect class=\"paper\" width=\"100%\" height=\"100%\"/>\n"
    ∷ [])

-- END head

abbrev pub tail : List ℕ
tail = codes "</svg>\n"

-- the number at mark i of eleven, from 0
abbrev pub axis_tick : Scale → ℕ → ℕ
axis_tick s mark = s.from + (s.to - s.from) * mark / 10

-- every second mark has its number
abbrev pub axis_label : Scale → (top mark : ℕ) → List ℕ
axis_label s top mark = if mark % 2 == 0 then text_of (codes "tick") (place s (axis_tick s mark)) (top - 60) (decimal (axis_tick s mark)) else []

abbrev pub grid_line : Scale → (top height mark : ℕ) → List ℕ
grid_line s top height mark = rect (codes "grid") (place s (axis_tick s mark)) top 8 height

unfoldable pub axis_mark : Scale → (top height mark : ℕ) → List ℕ
axis_mark s top height mark = grid_line s top height mark ++ axis_label s top mark

unfoldable pub axis : Scale → (top height : ℕ) → List ℕ
axis s top height = flat_map (axis_mark s top height) (range_with_len 0 11)
