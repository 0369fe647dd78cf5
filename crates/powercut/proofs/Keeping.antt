-- One call more of a device that keeps its plan.
use Rattle.std.specs.Prelude.{◌≡◌, ◌≢◌, ◌⊎◌, ◌≤◌, ◌<◌, ◌+◌, ◌-◌, ◌^◌, ℕ, Bool, true, false, ◌&&◌, List, [], ◌∷◌, map, Option, None, Some, is_some, nat_eq, nat_le, min, cond, length}
use Rattle.std.proofs.Common.{refl, sym, ◌∙◌, ap, subst, inl, inr, arith}
use Rattle.std.proofs.lemmas.Bool.{cases_Bool, cases_lt, true≢false, eqb-true, eqb-false, ltb-true, le-leb, lt-leb}
use Rattle.nand_model.specs.Calls.{Device, Lasts}
use Rattle.nand_model.specs.Plans.{Plan, totaled, is_fused, failure_at}
use Rattle.nand_model.specs.Planned.{next_call}
use Rattle.nand_model.specs.declared.fate.Fate.{Fate}
use Rattle.powercut.specs.Planning.{call_of, fuse_call, failing, calls_of, are_counted}
use Rattle.powercut.specs.Naming.{reached, Totals, KeepsPlan}

-- the number of the next call
next_is : (n top : ℕ) → min (min n top + 1) top ≡ min (n + 1) top
next_is n top = omega arith

fused_is : (fuse : Option (ℕ × List Fate)) (call : ℕ) → is_fused fuse call ≡ true → call_of fuse ≡ call
fused_is None call is = let two : false ≡ true = is in absurd cc
fused_is (Some fuse) call is = eqb-true fuse.0 call is

not_fused : (fuse : Option (ℕ × List Fate)) (call : ℕ) → 1 ≤ call → is_fused fuse call ≡ false → call_of fuse ≢ call
not_fused None call some is = λ same. omega (arith, some, same)
not_fused (Some fuse) call some is = eqb-false fuse.0 call is

one_if : (b : Bool) → cond b 1 0 ≤ 1
one_if true = omega arith
one_if false = omega arith

one_more : (call n : ℕ) → cond (nat_le call n) 1 0 ≤ cond (nat_le call (n + 1)) 1 0
one_more call n = elim (cases_lt n call) [
  | inl lt ↦ let none : cond {A = ℕ} (nat_le call n) 1 0 ≡ 0 = ap (λ b. cond {A = ℕ} b 1 0) (lt-leb call n lt) in omega (arith, none)
  | inr le ↦
      let was : cond {A = ℕ} (nat_le call n) 1 0 ≡ 1 = ap (λ b. cond {A = ℕ} b 1 0) (le-leb call n le) in
      let now : cond {A = ℕ} (nat_le call (n + 1)) 1 0 ≡ 1 = ap (λ b. cond {A = ℕ} b 1 0) (le-leb call (n + 1) (omega (arith, le))) in
      omega (arith, was, now)
]

-- no fewer are reached by one call more
reached_more : (calls : List ℕ) (n : ℕ) → reached calls n ≤ reached calls (n + 1)
reached_more [] n = omega arith
reached_more (call ∷ calls) n = let one = one_more call n in let rest = reached_more calls n in omega (arith, one, rest)

-- and one more where a failure is listed at it
reached_one : (failures : List (ℕ × List Fate)) (n : ℕ) → is_some (failure_at failures (n + 1)) ≡ true
    → reached (map (λ f. f.0) failures) n + 1 ≤ reached (map (λ f. f.0) failures) (n + 1)
reached_one [] n some = let two : false ≡ true = some in absurd cc
reached_one (failure ∷ failures) n some = elim (cases_Bool (nat_eq failure.0 (n + 1))) [
  | inl at ↦
      let here : failure.0 ≡ n + 1 = eqb-true failure.0 (n + 1) at in
      let was : cond {A = ℕ} (nat_le failure.0 n) 1 0 ≡ 0 = ap (λ b. cond {A = ℕ} b 1 0) (lt-leb failure.0 n (omega (arith, here))) in
      let now : cond {A = ℕ} (nat_le failure.0 (n + 1)) 1 0 ≡ 1 = ap (λ b. cond {A = ℕ} b 1 0) (le-leb failure.0 (n + 1) (omega (arith, here))) in
      let rest = reached_more (map (λ f. f.0) failures) n in
      omega (arith, was, now, rest)
  | inr other ↦
      let later : is_some (failure_at failures (n + 1)) ≡ true = sym (ap (λ (b : Bool). is_some (cond b (Some failure.1) (failure_at failures (n + 1)))) other) ∙ some in
      let rest = reached_one failures n later in
      let one = one_more failure.0 n in
      omega (arith, one, rest)
]

both : (a b : Bool) → (a && b) ≡ true → (a ≡ true) × (b ≡ true)
both true true is = (refl, refl)
both true false is = absurd cc
both false b is = absurd cc

-- a failure is at a call that is reported apart
failure_below : (failures : List (ℕ × List Fate)) (call : ℕ) → are_counted (map (λ f. f.0) failures) ≡ true → is_some (failure_at failures call) ≡ true → call < 2 ^ 64 - 1
failure_below [] call all some = let two : false ≡ true = some in absurd cc
failure_below (failure ∷ failures) call all some = elim (cases_Bool (nat_eq failure.0 call)) [
  | inl at ↦ subst (λ k. k < 2 ^ 64 - 1) (eqb-true failure.0 call at) (ltb-true failure.0 (2 ^ 64 - 1) (both _ _ all).0)
  | inr other ↦
      failure_below failures call (both _ _ all).1
      (sym (ap (λ (b : Bool). is_some (cond b (Some failure.1) (failure_at failures call))) other) ∙ some)
]

pub reached_most : (calls : List ℕ) (n : ℕ) → reached calls n ≤ length calls
reached_most [] n = omega arith
reached_most (call ∷ calls) n = let one = one_if (nat_le call n) in let rest = reached_most calls n in omega (arith, one, rest)

-- What a call of a device with power does to its counts.
pub record Counts (p : Plan) (d e : Device) : Type 0 where
  pub made : calls_of e ≡ calls_of d + 1
  pub goes : e.gone ≡ is_fused p.fuse (next_call p)
  pub fails : (e.failures ≡ d.failures) ⊎ ((e.failures ≡ d.failures + 1) × (is_some (failure_at p.failures (next_call p)) ≡ true))

-- there is one cut where power goes
cuts_on : (d e : Device) (start : ℕ) → Lasts d e → d.gone ≡ false → d.cuts ≡ start + cond d.gone 1 0 → e.cuts ≡ start + cond e.gone 1 0
cuts_on d e start lasts power were =
    let was : d.cuts ≡ start = let none : cond {A = ℕ} d.gone 1 0 ≡ 0 = ap (λ b. cond {A = ℕ} b 1 0) power in omega (arith, were, none) in
    elim (cases_Bool e.gone) [
      | inl is ↦
          let one : cond {A = ℕ} e.gone 1 0 ≡ 1 = ap (λ b. cond {A = ℕ} b 1 0) is in
          elim (lasts.goes is) [
            | inl gone ↦ absurd (true≢false (sym gone ∙ power))
            | inr more ↦ let once = lasts.once in omega (arith, was, one, more, once)
          ]
      | inr not ↦
          let none : cond {A = ℕ} e.gone 1 0 ≡ 0 = ap (λ b. cond {A = ℕ} b 1 0) not in
          elim (cases_lt d.cuts e.cuts) [
            | inl more ↦ absurd (true≢false (sym (lasts.ends more) ∙ not))
            | inr less ↦ let least = lasts.cuts in omega (arith, was, none, less, least)
          ]
    ]

module _ (d e : Device) (p q : Plan) (reported : Totals) (keeps : KeepsPlan d p reported) (lasts : Lasts d e)
    (fuse : q.fuse ≡ p.fuse) (failures : q.failures ≡ p.failures) (calls : q.calls ≡ next_call p) (counts : d.gone ≡ false → Counts p d e) where
  same_fuse : fuse_call q ≡ fuse_call p
  same_fuse = ap call_of fuse

  same_failing : failing q ≡ failing p
  same_failing = ap (λ (fs : List (ℕ × List Fate)). map (λ f. f.0) fs) failures

  module _ (power : d.gone ≡ false) where
    abbrev n : ℕ
    n = calls_of d - reported.0

    count : Counts p d e
    count = counts power

    next : next_call p ≡ min (n + 1) (2 ^ 64 - 1)
    next = ap totaled (keeps.totaled power) ∙ next_is n (2 ^ 64 - 1)

    made_now : calls_of e - reported.0 ≡ n + 1
    made_now = let one = count.made in let made = keeps.made in omega (arith, one, made)

    uncut_now : e.gone ≡ false → 1 ≤ fuse_call p → calls_of e < reported.0 + fuse_call p
    uncut_now goes some =
        let lt = keeps.uncut power some in
        let bound = keeps.fuse in
        let one = count.made in
        let made = keeps.made in
        elim (cases_lt (n + 1) (2 ^ 64)) [
          | inl low ↦
              let is : next_call p ≡ n + 1 = omega (arith, next, low) in
              let other = not_fused p.fuse (next_call p) (omega (arith, is)) (sym count.goes ∙ goes) in
              elim (cases_lt (n + 1) (fuse_call p)) [
                | inl less ↦ omega (arith, less, one, made)
                | inr least ↦ absurd (other (omega (arith, is, least, lt, made)))
              ]
          | inr high ↦ absurd (omega (arith, high, bound, lt, made))
        ]

    cut_now : e.gone ≡ true → (1 ≤ fuse_call p) × (calls_of e ≡ reported.0 + fuse_call p)
    cut_now gone =
        let is : fuse_call p ≡ next_call p = fused_is p.fuse (next_call p) (sym count.goes ∙ gone) in
        let some : 1 ≤ fuse_call p = omega (arith, is, next) in
        let lt = keeps.uncut power some in
        let one = count.made in
        let made = keeps.made in
        (some, omega (arith, is, next, lt, one, made))

    failures_now : are_counted (failing p) ≡ true → e.failures ≤ reported.1 + reached (failing p) (n + 1)
    failures_now all =
        let were = keeps.failures all in
        elim count.fails [
          | inl same ↦ let more = reached_more (failing p) n in omega (arith, were, same, more)
          | inr one ↦
              let below = failure_below p.failures (next_call p) all one.1 in
              let is : next_call p ≡ n + 1 = omega (arith, next, below) in
              let more = reached_one p.failures n (subst (λ k. is_some (failure_at p.failures k) ≡ true) is one.1) in
              let failed = one.0 in
              omega (arith, were, failed, more)
        ]

    keeps_with : KeepsPlan e q reported
    keeps_with = record {
      fuse = let bound = keeps.fuse in omega (arith, same_fuse, bound);
      made = let one = count.made in let made = keeps.made in omega (arith, one, made);
      totaled = λ _. calls ∙ next ∙ ap (λ k. min k (2 ^ 64 - 1)) (sym made_now);
      uncut = λ goes some. let lt = uncut_now goes (omega (arith, same_fuse, some)) in omega (arith, same_fuse, lt);
      cut = λ gone. let is = cut_now gone in (let some = is.0 in omega (arith, some, same_fuse), let at = is.1 in omega (arith, at, same_fuse));
      failures = λ all.
          subst (λ (ks : List ℕ). e.failures ≤ reported.1 + reached ks (calls_of e - reported.0)) (sym same_failing)
          (subst (λ k. e.failures ≤ reported.1 + reached (failing p) k) (sym made_now) (failures_now (sym (ap are_counted same_failing) ∙ all)));
      cuts = cuts_on d e reported.2 lasts power keeps.cuts;
    }

  keeps_without : d.gone ≡ true → KeepsPlan d q reported
  keeps_without gone = record {
    fuse = let bound = keeps.fuse in omega (arith, same_fuse, bound);
    made = keeps.made;
    totaled = λ goes. absurd (true≢false (sym gone ∙ goes));
    uncut = λ goes. absurd (true≢false (sym gone ∙ goes));
    cut = λ _. let is = keeps.cut gone in (let some = is.0 in omega (arith, some, same_fuse), let at = is.1 in omega (arith, at, same_fuse));
    failures = λ all.
        subst (λ (ks : List ℕ). d.failures ≤ reported.1 + reached ks (calls_of d - reported.0)) (sym same_failing)
        (keeps.failures (sym (ap are_counted same_failing) ∙ all));
    cuts = keeps.cuts;
  }

  -- the device keeps its plan
  pub keeps_on : KeepsPlan e q reported
  keeps_on = elim (cases_Bool d.gone) [
    | inl gone ↦ subst (λ (x : Device). KeepsPlan x q reported) (sym (lasts.gone gone)) (keeps_without gone)
    | inr power ↦ keeps_with power
  ]
