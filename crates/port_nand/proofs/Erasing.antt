-- An erase that is done opens its block again.
use Rattle.std.specs.Prelude.{◌≡◌, ◌≢◌, ◌+◌, ℕ, Bool, true, false, Option, None, Ok, List, [], ◌∷◌, nat_eq, if◌then◌else◌}
use Rattle.std.proofs.Common.{refl, sym, ap, ◌∙◌, inl, inr, arith}
use Rattle.std.proofs.lemmas.Bool.{cases_eq, eq-eqb, ne_eqb, false≢true}
use Rattle.nand_model.specs.Calls.{Device, Lasts, Erases}
use Rattle.port_nand.specs.Adapted.{unpacked_page, unpacked_device}
use Rattle.port_nand.specs.Refused.{is_closed, without, opened}
use Rattle.port_nand.specs.declared.refusals.Refusals.{Refusals}

opened_here : (closed : List ℕ) (b : ℕ) → is_closed (without b closed) b ≡ false
opened_here [] b = refl
opened_here (k ∷ closed) b =
    let rest : is_closed (without b closed) b ≡ false = opened_here closed b in
    elim (cases_eq b k) [
      | inl same ↦ ap (λ (here : Bool). is_closed (if here then without b closed else k ∷ without b closed) b) (eq-eqb b k same) ∙ rest
      | inr not ↦
          ap (λ (here : Bool). is_closed (if here then without b closed else k ∷ without b closed) b) (ne_eqb b k not)
          ∙ ap (λ (here : Bool). if here then true else is_closed (without b closed) b) (ne_eqb b k not) ∙ rest
    ]

opened_elsewhere : (closed : List ℕ) (b k : ℕ) → k ≢ b → is_closed (without b closed) k ≡ is_closed closed k
opened_elsewhere [] b k other = refl
opened_elsewhere (l ∷ closed) b k other =
    let rest : is_closed (without b closed) k ≡ is_closed closed k = opened_elsewhere closed b k other in
    elim (cases_eq b l) [
      | inl same ↦
          ap (λ (here : Bool). is_closed (if here then without b closed else l ∷ without b closed) k) (eq-eqb b l same) ∙ rest
          ∙ sym (ap (λ (here : Bool). if here then true else is_closed closed k) (ne_eqb k l (λ is. other (is ∙ sym same))))
      | inr not ↦
          ap (λ (here : Bool). is_closed (if here then without b closed else l ∷ without b closed) k) (ne_eqb b l not)
          ∙ ap (λ (last : Bool). if nat_eq k l then true else last) rest
    ]

module _ (b : ℕ) (refusals : Refusals) (old new : Device) (does : Erases b old new (Ok tt)) where
  lasts : Lasts (unpacked_device refusals old) (unpacked_device (opened b refusals) new)
  lasts = record {
    geometry = does.lasts.geometry;
    honest = does.lasts.honest;
    honest_itself = does.lasts.honest_itself;
    cuts = does.lasts.cuts;
    failures = let more = does.lasts.failures in omega (arith, more);
    changes = let more = does.lasts.changes in omega (arith, more);
    reads = does.lasts.reads;
    marks = does.lasts.marks;
    gone = λ gone. absurd (false≢true (sym does.ends.was ∙ gone));
    goes = does.lasts.goes;
    ends = does.lasts.ends;
    once = does.lasts.once;
    steady = does.lasts.steady;
  }

  pub erased_open : Erases b (unpacked_device refusals old) (unpacked_device (opened b refusals) new) (Ok tt)
  erased_open = record {
    lasts = lasts;
    ends = record { was = does.ends.was; is = does.ends.is; cuts = does.ends.cuts; failures = ap (λ n. n + refusals.count) does.ends.failures };
    changes = λ power. let more = does.changes power in omega (arith, more);
    reads = does.reads;
    bad = does.bad;
    next = ap (λ (closed : Bool). if closed then None else new.flash.next b) (opened_here refusals.closed b) ∙ does.next;
    other_nexts = λ k other.
        ap (λ (closed : Bool). if closed then None else new.flash.next k) (opened_elsewhere refusals.closed b k other)
        ∙ ap (λ (next : Option ℕ). if is_closed refusals.closed k then None else next) (does.other_nexts k other);
    pages = λ honest l. ap unpacked_page (does.pages honest l);
    other_blocks = λ honest k l other. ap unpacked_page (does.other_blocks honest k l other);
  }
