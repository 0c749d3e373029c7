-- What a store's slots hold through a change of one size, and through a write to one part of the region.
use Rattle.std.proofs.Common.{◌≡◌, ℕ, zero, suc, ◌+◌, ◌*◌, ◌<◌, ◌≤◌, List, [], ◌∷◌, ◌++◌, length, get_or, set}
use Rattle.std.proofs.Common.{take, drop, replicate, Option, None, Some, refl, sym, ◌∙◌, ap, subst, arith, IsSome, slice_get, All, length-take}
use Rattle.std.proofs.Common.{length-drop}
use Rattle.std.proofs.lemmas.List.{drop-drop, take_at, take-append-le, drop-append-le, take-take, drop-take}
use Rattle.std.proofs.lemmas.List.{length-append}
use Rattle.std.proofs.lemmas.Bool.{false≢true}
use Rattle.std.proofs.lemmas.Option.{slice_get-get_or}
use Rattle.std.proofs.lemmas.Slice.{drop-append-drop}
use Rattle.std.proofs.lemmas.List.Elements.{All-head, All-tail, All-nil, All-cons}
use Rattle.std.proofs.Math.Nat.{mul-le-mul_left}
use Rattle.std.specs.Option.{option_map}
use Rattle.pre_rings.specs.Slots.{slots_of}
use Rattle.pre_rings.specs.Stores.{IsOut}

-- a size's part of the region
abbrev pub part : List ℕ → Option ℕ → Option (List ℕ)
part region size = option_map (λ n. take n region) size

pub length-slots_of : (w : ℕ) (sizes : List (Option ℕ)) (region : List ℕ) → length (slots_of w sizes region) ≡ length sizes
unfolding slots_of
length-slots_of w [] region = refl
length-slots_of w (size ∷ sizes) region = ap suc (length-slots_of w sizes (drop w region))

next_start : (w start i : ℕ) → start ≡ w * suc i → start ≡ w + w * i
next_start w start i e = omega arith

pub slice_get-slots_of : (w : ℕ) (sizes : List (Option ℕ)) (region : List ℕ) (i start : ℕ) → start ≡ w * i → slice_get (slots_of w sizes region) i ≡ option_map (part (drop start region)) (slice_get sizes i)
unfolding slots_of
slice_get-slots_of w [] region i start e = refl
slice_get-slots_of w (size ∷ sizes) region zero start e =
    ap (λ n. Some (part (drop n region) size)) (sym (let z : start ≡ 0 = omega arith in z))
slice_get-slots_of w (size ∷ sizes) region (suc i) start e =
    slice_get-slots_of w sizes (drop w region) i (w * i) refl
    ∙ ap (λ r. option_map (part r) (slice_get sizes i)) (drop-drop (w * i) w region ∙ ap (λ n. drop n region) (sym (next_start w start i e)))

pub slots_of-set : (w : ℕ) (sizes : List (Option ℕ)) (region : List ℕ) (i start : ℕ) (size : Option ℕ) → start ≡ w * i → slots_of w (set sizes i size) region ≡ set (slots_of w sizes region) i (part (drop start region) size)
unfolding slots_of
slots_of-set w [] region i start size e = refl
slots_of-set w (s ∷ sizes) region zero start size e =
    ap (λ n. part (drop n region) size ∷ slots_of w sizes (drop w region)) (sym (let z : start ≡ 0 = omega arith in z))
slots_of-set w (s ∷ sizes) region (suc i) start size e =
    ap (λ l. part region s ∷ l)
    (slots_of-set w sizes (drop w region) i (w * i) size refl
    ∙ ap (λ r. set (slots_of w sizes (drop w region)) i (part r size)) (drop-drop (w * i) w region ∙ ap (λ n. drop n region) (sym (next_start w start i e))))

-- the region with other octets from a place on
abbrev pub written : List ℕ → ℕ → List ℕ → List ℕ
written region start octets = take start region ++ (octets ++ drop (start + length octets) region)

pub length-written : (region : List ℕ) (start : ℕ) (octets : List ℕ) → start + length octets ≤ length region → length (written region start octets) ≡ length region
length-written region start octets h = grind (arith, length-take, length-drop, length-append)

-- what lies before the place of a write stays
take-written : (region octets : List ℕ) (start m : ℕ) → m ≤ start → start ≤ length region → take m (written region start octets) ≡ take m region
take-written region octets start m h k =
    let front : m ≤ length (take start region) = omega (arith, length-take start region) in
    take-append-le m (take start region) (octets ++ drop (start + length octets) region) front ∙ take-take m start region h

-- a write further on is a write in the rest
drop-written : (region octets : List ℕ) (w rest start : ℕ) → start ≡ w + rest → start ≤ length region → drop w (written region start octets) ≡ written (drop w region) rest octets
drop-written region octets w rest start e k =
    let front : w ≤ length (take start region) = omega (arith, length-take start region) in
    let tail : drop (start + length octets) region ≡ drop (rest + length octets) (drop w region) = ap (λ n. drop n region) (let s : start + length octets ≡ w + (rest + length octets) = omega arith in s) ∙ sym (drop-drop (rest + length octets) w region) in
    drop-append-le w (take start region) (octets ++ drop (start + length octets) region) front
    ∙ ap (λ l. l ++ (octets ++ drop (start + length octets) region)) (ap (λ n. drop w (take n region)) e ∙ drop-take w rest region)
    ∙ ap (λ l. take rest (drop w region) ++ (octets ++ l)) tail

part-written : (region octets : List ℕ) (w start : ℕ) (size : Option ℕ) → ((n : ℕ) → size ≡ Some n → n ≤ w) → w ≤ start → start ≤ length region → part (written region start octets) size ≡ part region size
part-written region octets w start None fits h k = refl
part-written region octets w start (Some n) fits h k = ap Some (take-written region octets start n (let m : n ≤ w = fits n refl in omega arith) k)

-- a write of all of a slot's octets changes what that slot holds, and no other
pub slots_of-written : (w : ℕ) (sizes : List (Option ℕ)) (region octets : List ℕ) (i start : ℕ) → start ≡ w * i → length octets ≤ w → length region ≡ w * length sizes → i < length sizes → All (λ size. (n : ℕ) → size ≡ Some n → n ≤ w) sizes → slots_of w (set sizes i (Some (length octets))) (written region start octets) ≡ set (slots_of w sizes region) i (Some octets)
unfolding slots_of
slots_of-written w [] region octets i start e short whole h widths = absurd (omega arith)
slots_of-written w (size ∷ sizes) region octets zero start e short whole h widths =
    let z : start ≡ 0 = omega arith in
    let now : written region start octets ≡ octets ++ drop (length octets) region = ap (λ n. written region n octets) z ∙ ap (λ n. octets ++ drop n region) (let n : 0 + length octets ≡ length octets = omega arith in n) in
    ap (λ r. Some (take (length octets) r) ∷ slots_of w sizes (drop w r)) now
    ∙ ap (λ l. Some l ∷ slots_of w sizes (drop w (octets ++ drop (length octets) region))) (take_at octets (drop (length octets) region) (length octets) refl)
    ∙ ap (λ r. Some octets ∷ slots_of w sizes r) (drop-append-drop (length octets) region octets w short refl)
slots_of-written w (size ∷ sizes) region octets (suc i) start e short whole h widths =
    let next : start ≡ w + w * i = next_start w start i e in
    let in' : i < length sizes = omega arith in
    let below : w * i ≤ w * length sizes = mul-le-mul_left w (let m : i ≤ length sizes = omega arith in m) in
    let all : length region ≡ w + w * length sizes = omega arith in
    let inside : start ≤ length region = omega arith in
    ap (λ p. p ∷ slots_of w (set sizes i (Some (length octets))) (drop w (written region start octets))) (part-written region octets w start size (All-head (λ s. (n : ℕ) → s ≡ Some n → n ≤ w) size sizes widths) (omega arith) inside)
    ∙ ap (λ r. part region size ∷ slots_of w (set sizes i (Some (length octets))) r) (drop-written region octets w (w * i) start next inside)
    ∙ ap (λ l. part region size ∷ l) (slots_of-written w sizes (drop w region) octets i (w * i) refl short (omega (arith, length-drop w region)) in' (All-tail (λ s. (n : ℕ) → s ≡ Some n → n ≤ w) size sizes widths))

pub slots_of-replicate : (w n : ℕ) (region : List ℕ) → slots_of w (replicate n None) region ≡ replicate n None
unfolding slots_of
slots_of-replicate w zero region = refl
slots_of-replicate w (suc n) region = ap (λ l. None ∷ l) (slots_of-replicate w n (drop w region))

some_part : (region : List ℕ) (size : Option ℕ) → IsSome size → IsSome (part region size)
some_part region None h = h
some_part region (Some n) h = refl

pub slots_are_out : (w : ℕ) (sizes : List (Option ℕ)) (region : List ℕ) → ((p : ℕ) → p < length sizes → IsSome (get_or sizes p None)) → All (λ entry. IsSome entry) (slots_of w sizes region)
unfolding slots_of
slots_are_out w [] region h = All-nil (λ entry. IsSome entry)
slots_are_out w (size ∷ sizes) region h =
    All-cons (λ entry. IsSome entry) (part region size) (slots_of w sizes (drop w region)) (some_part region size (h 0 (omega arith)))
    (slots_are_out w sizes (drop w region) (λ p k. h (suc p) (omega arith)))

known : (region : List ℕ) (size : Option ℕ) → IsSome (part region size) → (n : ℕ) × (size ≡ Some n)
known region None h = absurd (false≢true h)
known region (Some n) h = (n, refl)

-- a slot that is out has a size
pub out_has_size : (w : ℕ) (sizes : List (Option ℕ)) (region : List ℕ) (f : ℕ) → IsOut (slots_of w sizes region) f → (n : ℕ) × (f < length sizes) × (get_or sizes f None ≡ Some n)
unfolding slots_of
out_has_size w [] region f h = absurd h
out_has_size w (size ∷ sizes) region zero h = let size_is = known region size h in (size_is.0, omega arith, size_is.1)
out_has_size w (size ∷ sizes) region (suc f) h = let rest = out_has_size w sizes (drop w region) f h in (rest.0, omega (arith, rest.1), rest.2)

pub out_at : (w : ℕ) (sizes : List (Option ℕ)) (region : List ℕ) (value : List (Option (List ℕ))) (f at : ℕ) → slots_of w sizes region ≡ value → at ≡ f → IsOut value f → (n : ℕ) × (at < length sizes) × (get_or sizes at None ≡ Some n)
out_at w sizes region value f at view e h = out_has_size w sizes region at (subst (λ v. IsOut v at) (sym view) (subst (λ p. IsOut value p) (sym e) h))

-- what a slot that is out holds
pub held_at : (w : ℕ) (sizes : List (Option ℕ)) (region : List ℕ) (value : List (Option (List ℕ))) (f at start n : ℕ) → slots_of w sizes region ≡ value → at ≡ f → at < length sizes → get_or sizes at None ≡ Some n → start ≡ at * w → slice_get value f ≡ Some (Some (take n (drop start region)))
held_at w sizes region value f at start n view e h is s =
    ap (λ v. slice_get v f) (sym view) ∙ ap (slice_get (slots_of w sizes region)) (sym e)
    ∙ slice_get-slots_of w sizes region at start (omega arith)
    ∙ ap (option_map (part (drop start region))) (slice_get-get_or sizes at None h ∙ ap Some is)

-- what a slot that is in holds
pub in_at : (w : ℕ) (sizes : List (Option ℕ)) (region : List ℕ) (value : List (Option (List ℕ))) (f : ℕ) → slots_of w sizes region ≡ value → f < length sizes → get_or sizes f None ≡ None → slice_get value f ≡ Some None
in_at w sizes region value f view h is =
    ap (λ v. slice_get v f) (sym view)
    ∙ slice_get-slots_of w sizes region f (w * f) refl
    ∙ ap (option_map (part (drop (w * f) region))) (slice_get-get_or sizes f None h ∙ ap Some is)

-- a slot is put in
pub set_in : (w : ℕ) (sizes : List (Option ℕ)) (region : List ℕ) (value : List (Option (List ℕ))) (f at : ℕ) → slots_of w sizes region ≡ value → at ≡ f → slots_of w (set sizes at None) region ≡ set value f None
set_in w sizes region value f at view e = slots_of-set w sizes region at (w * at) None refl ∙ ap (λ v. set v at None) view ∙ ap (λ n. set value n None) e

-- a slot is taken out, and holds no octets
pub set_out : (w : ℕ) (sizes : List (Option ℕ)) (region : List ℕ) (value : List (Option (List ℕ))) (f at : ℕ) → slots_of w sizes region ≡ value → at ≡ f → slots_of w (set sizes at (Some 0)) region ≡ set value f (Some [])
set_out w sizes region value f at view e = slots_of-set w sizes region at (w * at) (Some 0) refl ∙ ap (λ v. set v at (Some [])) view ∙ ap (λ n. set value n (Some [])) e

-- a slot is filled
pub set_filled : (w : ℕ) (sizes : List (Option ℕ)) (region octets : List ℕ) (value : List (Option (List ℕ))) (f at start : ℕ) → slots_of w sizes region ≡ value → at ≡ f → start ≡ at * w → length octets ≤ w → length region ≡ w * length sizes → at < length sizes → All (λ size. (n : ℕ) → size ≡ Some n → n ≤ w) sizes → slots_of w (set sizes at (Some (length octets))) (written region start octets) ≡ set value f (Some octets)
set_filled w sizes region octets value f at start view e s short whole h widths =
    slots_of-written w sizes region octets at start (omega arith) short whole h widths ∙ ap (λ v. set v at (Some octets)) view ∙ ap (λ n. set value n (Some octets)) e
