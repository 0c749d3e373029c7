-- What an arc is set to, by the lines of a script so far.
use Rattle.std.proofs.Common.{ℕ, ◌≡◌, ◌==◌, ◌&&◌, ◌≤◌, ◌<◌, ◌+◌, Bool, true, false, nat_le, List, [], ◌∷◌}
use Rattle.std.proofs.Common.{◌++◌, take, map, filter, length, get_or, refl, ◌∙◌, ap, arith}
use Rattle.std.specs.Prelude.{unwrap_or}
use Rattle.std.proofs.lemmas.List.{take_more, append-nil, map-append}
use Rattle.std.proofs.lemmas.List.Elements.{filter-append}
use Rattle.std.proofs.lemmas.Bool.Decides.{nat_tests}
use Rattle.pre_base.specs.Last.{last}
use Rattle.pre_script.specs.declared.scripts.Setting.{Setting}
use Rattle.pre_script.specs.declared.scripts.Setting.TheVariants as setting
use Rattle.pre_script.specs.declared.scripts.SetLine.{SetLine}
use Rattle.pre_history.proofs.Chosen.{last_push}
use Rattle.pre_history.proofs.NatTests.{and_false, not_by}

-- whether the line is of the arc, and not after the tick
abbrev pub counts : ℕ → ℕ → SetLine → Bool
counts a t x = (x.arc.0 == a) && nat_le x.tick.0 t

-- the value of the last line of the arc up to the tick
abbrev pub setting_in : ℕ → ℕ → List SetLine → Setting
setting_in a t lines = unwrap_or (last (map (λ x. x.value) (filter (counts a t) lines))) setting.On

module _ (a t i : ℕ) (lines : List SetLine) (d : SetLine) (lt : i < length lines) where
  split : filter (counts a t) (take (i + 1) lines) ≡ filter (counts a t) (take i lines) ++ filter (counts a t) (get_or lines i d ∷ [])
  split = ap (filter (counts a t)) (take_more lines i d lt) ∙ filter-append (counts a t) (take i lines) (get_or lines i d ∷ [])

  yes : counts a t (get_or lines i d) ≡ true → setting_in a t (take (i + 1) lines) ≡ (get_or lines i d).value
  yes is =
      let one : filter (counts a t) (get_or lines i d ∷ []) ≡ get_or lines i d ∷ [] = rw is refl in
      let all : map (λ (x : SetLine). x.value) (filter (counts a t) (take (i + 1) lines)) ≡ map (λ (x : SetLine). x.value) (filter (counts a t) (take i lines)) ++ (get_or lines i d).value ∷ []
      = ap (map (λ (x : SetLine). x.value)) (split ∙ ap (λ l. filter (counts a t) (take i lines) ++ l) one) ∙ map-append (λ (x : SetLine). x.value) (filter (counts a t) (take i lines)) (get_or lines i d ∷ []) in
      ap (λ l. unwrap_or (last l) setting.On) all ∙ ap (λ o. unwrap_or o setting.On) (last_push (map (λ (x : SetLine). x.value) (filter (counts a t) (take i lines))) (get_or lines i d).value)

  no : counts a t (get_or lines i d) ≡ false → setting_in a t (take (i + 1) lines) ≡ setting_in a t (take i lines)
  no is =
      let one : filter (counts a t) (get_or lines i d ∷ []) ≡ [] = rw is refl in
      ap (λ l. unwrap_or (last (map (λ (x : SetLine). x.value) l)) setting.On) (split ∙ (ap (λ l. filter (counts a t) (take i lines) ++ l) one ∙ append-nil (filter (counts a t) (take i lines))))

  pub applied : ((get_or lines i d).arc.0 == a) ≡ true → (get_or lines i d).tick.0 ≤ t → setting_in a t (take (i + 1) lines) ≡ (get_or lines i d).value
  applied on by = let le : nat_le (get_or lines i d).tick.0 t ≡ true = grind (arith, nat_tests) in yes (ap (λ x. x && nat_le (get_or lines i d).tick.0 t) on ∙ le)

  pub other_arc : ((get_or lines i d).arc.0 == a) ≡ false → setting_in a t (take (i + 1) lines) ≡ setting_in a t (take i lines)
  other_arc off = no (ap (λ x. x && nat_le (get_or lines i d).tick.0 t) off)

  pub too_late : t < (get_or lines i d).tick.0 → setting_in a t (take (i + 1) lines) ≡ setting_in a t (take i lines)
  too_late late = no (ap (λ x. ((get_or lines i d).arc.0 == a) && x) (not_by (get_or lines i d).tick.0 t late) ∙ and_false ((get_or lines i d).arc.0 == a))
