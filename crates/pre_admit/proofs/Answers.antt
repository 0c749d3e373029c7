-- What the calls of a plan answer.
use Rattle.std.proofs.Common.{◌≡◌, ℕ, List, Result, Ok, Err, OnErr, IfErr, Some, slice_get, is_none, unwrap_or, sym, ◌∙◌, ap, subst}
use Rattle.std.specs.List.{remove}
use Rattle.pre_topo.specs.declared.network.Network.{Network}
use Rattle.pre_streams.specs.declared.rows.Row.{Row}
use Rattle.pre_streams.specs.declared.rows.Streams.{Streams}
use Rattle.pre_streams.specs.Joined.{first_flow, with_stream}
use Rattle.pre_bound.specs.declared.certificate.Certificate.{Certificate}
use Rattle.pre_bound.specs.Good.{AreGood, AreInOrder}
use Rattle.pre_bound.specs.Listed.{Says, GoodCertificate}
use Rattle.pre_certify.specs.Computed.{SaysSettled}
use Rattle.pre_admit.specs.Certified.{IsCertified}
use Rattle.pre_admit.proofs.Lists.{at_inserted, removed_again, first_within}

pub OnErr-map : {T E P Q : Type 0} (result : Result T E) → (P → Q) → OnErr result P → OnErr result Q
OnErr-map (Ok x) f h = h
OnErr-map (Err e) f h = f h

pub IfErr-map : {T E : Type 0} {P Q : E → Type 0} (result : Result T E) → ((e : E) → P e → Q e) → IfErr result P → IfErr result Q
IfErr-map (Ok x) f h = h
IfErr-map (Err e) f h = f e h

-- the new row stands at its place
pub placed : (rows new : List Row) (row : Row) (place : ℕ) → new ≡ with_stream rows row → place ≡ first_flow rows → slice_get new place ≡ Some row
placed rows new row place is at =
    ap (λ l. slice_get l place) is ∙ ap (λ n. slice_get (with_stream rows row) n) at
    ∙ at_inserted rows (first_flow rows) row (first_within (λ (r : Row). is_none r.curve) rows)

-- and without it the rows are what they were
pub taken_out : (rows new left : List Row) (row : Row) (place : ℕ) → new ≡ with_stream rows row → place ≡ first_flow rows → left ≡ remove new place → left ≡ rows
taken_out rows new left row place is at out =
    out ∙ ap (λ l. remove l place) is ∙ ap (λ n. remove (with_stream rows row) n) at
    ∙ removed_again rows (first_flow rows) row (first_within (λ (r : Row). is_none r.curve) rows)

pub same_row : (rows : List Row) (place : ℕ) (r row : Row) → slice_get rows place ≡ Some r → slice_get rows place ≡ Some row → r ≡ row
same_row rows place r row at at_too = ap (λ o. unwrap_or o r) (sym at ∙ at_too)

-- a plan's streams may be others with the same rows
good_moved : (net : Network) (s t : Streams) (c : Certificate) → s.rows ≡ t.rows → GoodCertificate net s c → GoodCertificate net t c
good_moved net s t c same good = record {
  values = good.values;
  says = subst (λ rows. Says net rows c good.values) same good.says;
  order = λ ranked. subst (λ rows. AreInOrder rows good.values) same (good.order ranked);
  good = subst (λ rows. AreGood net rows good.values) same good.good;
}

pub certified_moved : (net : Network) (s t : Streams) (c : Certificate) → s.rows ≡ t.rows → IsCertified net s c → IsCertified net t c
certified_moved net s t c same is = record {
  least = record { good = good_moved net s t c same is.least.good; least = λ other good alike. is.least.least other (good_moved net t s other (sym same) good) alike };
  ranked = is.ranked;
  settled = subst (λ rows. SaysSettled net rows c) same is.settled;
}
