-- Where numbers lie on a scale.
use Rattle.std.specs.Prelude.{ℕ, ◌+◌, ◌-◌, ◌*◌, ◌/◌, ◌&&◌, min, max, nat_le, Bool}
use Rattle.pre_picture.specs.declared.scales.Scale.{Scale}

abbrev pub covers : Scale → ℕ → Bool
covers s number = nat_le s.from number && nat_le number s.to

-- how long the scale is, which is 1 at least
abbrev pub span : Scale → ℕ
span s = max (s.to - s.from) 1

-- as far behind the left end as the number is behind the first one, in the scale's proportion
abbrev pub place : Scale → ℕ → ℕ
place s number = s.left + (min number s.to - s.from) * s.width / span s
