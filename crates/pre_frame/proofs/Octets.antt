-- Where the fields of a frame stand in its octets.
use Rattle.std.proofs.Common.{◌≡◌, ℕ, zero, suc, ◌+◌, ◌*◌, ◌/◌, ◌%◌, ◌<◌, ◌≤◌, ◌==◌, Bool, true, false, cond}
use Rattle.std.proofs.Common.{List, ◌∷◌, ◌++◌, length, get_or, take, drop, refl, sym, ap, ◌∙◌, arith}
use Rattle.std.proofs.lemmas.List.{take_at, drop_at, drop-drop, get_or-drop, take-append-drop, drop_more}
use Rattle.pre_frame.specs.Layout.{tag_control}

-- ---- the number of a tag

pub tag_control-lt : (prio vid : ℕ) (dei : Bool) → prio < 8 → vid < 4096 → tag_control prio dei vid < 65536
tag_control-lt prio vid true hp hv = omega arith
tag_control-lt prio vid false hp hv = omega arith

pub prio-of : (prio vid : ℕ) (dei : Bool) → vid < 4096 → tag_control prio dei vid / 8192 ≡ prio
prio-of prio vid true hv = omega arith
prio-of prio vid false hv = omega arith

pub vid-of : (prio vid : ℕ) (dei : Bool) → vid < 4096 → tag_control prio dei vid % 4096 ≡ vid
vid-of prio vid true hv = omega arith
vid-of prio vid false hv = omega arith

pub dei-of : (prio vid : ℕ) (dei : Bool) → vid < 4096 → (tag_control prio dei vid / 4096 % 2 == 1) ≡ dei
dei-of prio vid true hv = let e : tag_control prio true vid / 4096 % 2 ≡ 1 = omega arith in ap (λ n. n == 1) e
dei-of prio vid false hv = let e : tag_control prio false vid / 4096 % 2 ≡ 0 = omega arith in ap (λ n. n == 1) e

bit_number : (b : ℕ) → b < 2 → cond (b == 1) 1 0 ≡ b
bit_number zero h = refl
bit_number (suc zero) h = refl
bit_number (suc (suc b)) h = absurd (omega arith)

pub tag_control-parts : (c : ℕ) → tag_control (c / 8192) (c / 4096 % 2 == 1) (c % 4096) ≡ c
tag_control-parts c = let bit = bit_number (c / 4096 % 2) (omega arith) in omega (arith, bit)

pub two_octets : (n : ℕ) → n < 65536 → n / 256 % 256 * 256 + n % 256 ≡ n
two_octets n h = omega arith

-- ---- fields in a row

pub record Placed (d s rest octets : List ℕ) : Type 0 where
  pub first : take 6 octets ≡ d
  pub second : take 6 (drop 6 octets) ≡ s
  pub others : drop 12 octets ≡ rest

pub placed : (d s rest octets : List ℕ) → length d ≡ 6 → length s ≡ 6 → octets ≡ d ++ (s ++ rest) → Placed d s rest octets
placed d s rest octets ed es e =
    let past : drop 6 octets ≡ s ++ rest = ap (drop 6) e ∙ drop_at d (s ++ rest) 6 ed in record {
      first = ap (take 6) e ∙ take_at d (s ++ rest) 6 ed;
      second = ap (take 6) past ∙ take_at s rest 6 es;
      others = sym (drop-drop 6 6 octets) ∙ ap (drop 6) past ∙ drop_at s rest 6 es;
    }

-- the octets at places 12 to 17 and those after them
pub six_more : (octets : List ℕ) → 18 ≤ length octets
    → drop 12 octets ≡ get_or octets 12 0 ∷ get_or octets 13 0 ∷ get_or octets 14 0 ∷ get_or octets 15 0 ∷ get_or octets 16 0 ∷ get_or octets 17 0 ∷ drop 18 octets
six_more octets h =
    let a = drop_more octets 12 0 (omega arith) in
    let b = drop_more octets 13 0 (omega arith) in
    let c = drop_more octets 14 0 (omega arith) in
    let d = drop_more octets 15 0 (omega arith) in
    let e = drop_more octets 16 0 (omega arith) in
    let f = drop_more octets 17 0 (omega arith) in
    cc

pub in_row : (octets : List ℕ) → octets ≡ take 6 octets ++ (take 6 (drop 6 octets) ++ drop 12 octets)
in_row octets =
    sym (take-append-drop 6 octets) ∙ ap (λ xs. take 6 octets ++ xs) (sym (take-append-drop 6 (drop 6 octets)) ∙ ap (λ xs. take 6 (drop 6 octets) ++ xs) (drop-drop 6 6 octets))

pub at_place : (octets rest : List ℕ) (i : ℕ) → drop 12 octets ≡ rest → get_or octets (12 + i) 0 ≡ get_or rest i 0
at_place octets rest i e = sym (get_or-drop 12 octets i 0) ∙ ap (λ xs. get_or xs i 0) e
