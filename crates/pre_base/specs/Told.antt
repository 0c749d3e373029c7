-- What an object may tell of itself, and goes on telling once it does.
use Rattle.std.specs.Prelude.{⊤, Option, None, Some}

-- before and after a call, where it is told: one that tells goes on telling, and one that doesn't never begins
abbrev pub WhereTold : {A : Type 0} → Option A → Option A → (A → A → Type 0) → Type 0
WhereTold None None P = ⊤
WhereTold None (Some b) P = ⊥
WhereTold (Some a) None P = ⊥
WhereTold (Some a) (Some b) P = P a b

-- whether it tells stays as it was
abbrev pub StillTells : {A : Type 0} → Option A → Option A → Type 0
StillTells a b = WhereTold a b (λ x y. ⊤)

pub StillTells-refl : {A : Type 0} (a : Option A) → StillTells a a
StillTells-refl None = tt
StillTells-refl (Some x) = tt

pub StillTells-trans : {A : Type 0} (a b c : Option A) → StillTells a b → StillTells b c → StillTells a c
StillTells-trans None None None p q = tt
StillTells-trans None None (Some z) p q = q
StillTells-trans None (Some y) c p q = absurd p
StillTells-trans (Some x) None c p q = absurd p
StillTells-trans (Some x) (Some y) None p q = q
StillTells-trans (Some x) (Some y) (Some z) p q = tt

-- what holds of two calls in a row holds of both together
pub WhereTold-join : {A : Type 0} (a b c : Option A) (P Q R : A → A → Type 0) → ((x y z : A) → P x y → Q y z → R x z) → WhereTold a b P → WhereTold b c Q → WhereTold a c R
WhereTold-join None None None P Q R f p q = tt
WhereTold-join None None (Some z) P Q R f p q = absurd q
WhereTold-join None (Some y) c P Q R f p q = absurd p
WhereTold-join (Some x) None c P Q R f p q = absurd p
WhereTold-join (Some x) (Some y) None P Q R f p q = absurd q
WhereTold-join (Some x) (Some y) (Some z) P Q R f p q = f x y z p q

-- what follows from a fact of two told values
pub WhereTold-map : {A : Type 0} (a b : Option A) (P Q : A → A → Type 0) → ((x y : A) → P x y → Q x y) → WhereTold a b P → WhereTold a b Q
WhereTold-map None None P Q f p = tt
WhereTold-map None (Some y) P Q f p = absurd p
WhereTold-map (Some x) None P Q f p = absurd p
WhereTold-map (Some x) (Some y) P Q f p = f x y p
