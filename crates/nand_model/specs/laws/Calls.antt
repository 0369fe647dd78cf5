-- What holds of several calls in turn.
use Rattle.std.specs.Prelude.{◌≡◌, true}
use Rattle.std.proofs.Common.{refl, ◌∙◌, ap, arith, inl, inr}
use Rattle.std.proofs.lemmas.Bool.{cases_lt}
use Rattle.nand_model.specs.Calls.{Device, Lasts}

-- what one call keeps and then another is held
pub lasts_on : (a b c : Device) → Lasts a b → Lasts b c → Lasts a c
lasts_on a b c first then = record {
  geometry = then.geometry ∙ first.geometry;
  honest = then.honest ∙ first.honest;
  honest_itself = then.honest_itself ∙ first.honest_itself;
  cuts = omega (arith, first.cuts, then.cuts);
  failures = omega (arith, first.failures, then.failures);
  changes = omega (arith, first.changes, then.changes);
  reads = omega (arith, first.reads, then.reads);
  marks = λ k is. then.marks k (first.marks k is);
  gone = λ was. then.gone (ap (λ (d : Device). d.gone) (first.gone was) ∙ was) ∙ first.gone was;
  goes = λ is. elim (then.goes is) [
    | inl b_gone ↦ elim (first.goes b_gone) [ inl was ↦ inl was | inr lt ↦ inr (omega (arith, lt, then.cuts)) ]
    | inr lt ↦ inr (omega (arith, lt, first.cuts))
  ];
  ends = λ more. elim (cases_lt a.cuts b.cuts) [
    | inl lt ↦ stays_gone (first.ends lt)
    | inr le ↦ then.ends (omega (arith, more, le))
  ];
  once = elim (cases_lt a.cuts b.cuts) [
    | inl lt ↦ let same : c.cuts ≡ b.cuts = ap (λ (d : Device). d.cuts) (then.gone (first.ends lt)) in let one = first.once in omega (arith, same, one)
    | inr le ↦ let one = then.once in omega (arith, one, le)
  ];
  steady = λ was. let one = first.steady was in let two = then.steady one.0 in (two.0, two.1 ∙ one.1);
} where
  stays_gone : b.gone ≡ true → c.gone ≡ true
  stays_gone is = ap (λ (d : Device). d.gone) (then.gone is) ∙ is

-- no call keeps all
pub lasts_here : (a : Device) → Lasts a a
lasts_here a = record {
  geometry = refl;
  honest = refl;
  honest_itself = refl;
  cuts = omega arith;
  failures = omega arith;
  changes = omega arith;
  reads = omega arith;
  marks = λ b is. is;
  gone = λ was. refl;
  ends = λ more. absurd (omega (arith, more));
  once = omega arith;
  steady = λ was. (was, refl);
  goes = λ is. inl is;
}
