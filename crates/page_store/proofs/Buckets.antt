-- What is known of the pages of all buckets, from what is known of each.
use Rattle.std.specs.Prelude.{◌≡◌, ◌<◌, ◌≤◌, ℕ, ◌+◌, ◌-◌, Bool, false, List, length, Some, IsTrue, slice_get}
use Rattle.std.proofs.Common.{sym, ◌∙◌, ap, inl, inr, arith, get_or}
use Rattle.std.proofs.lemmas.Bool.{cases_lt, false≢true}
use Rattle.std.proofs.lemmas.Option.{get_or_from_slice_get, slice_get_within, slice_get-get_or}
use Rattle.mount_scan.specs.declared.page_copy.PageCopy.{PageCopy}
use Rattle.transactions.specs.Sources.{IsPageName}
use Rattle.mount_scan.specs.Listed.{IsPartAt}
use Rattle.page_store.specs.Opened.{name_in, HaveNames}

pub not_true : (b : Bool) → b ≡ false → IsTrue b → ⊥
not_true b is holds = false≢true (sym is ∙ holds)

-- a page of a part stands in the list
pub part_there : (fs : List PageCopy) (n : ℕ) (part : List PageCopy) (i : ℕ) (f : PageCopy) → IsPartAt fs n part → slice_get part i ≡ Some f → slice_get fs (n + i) ≡ Some f
part_there fs n part i f at there =
    let lt : i < length part = slice_get_within part i f there in
    slice_get-get_or fs (n + i) f (omega (arith, lt, at.within)) ∙ ap Some (at.each i f lt ∙ get_or_from_slice_get part i f f there)

-- and a page of the list behind the first n in the part
pub there_part : (fs : List PageCopy) (n : ℕ) (part : List PageCopy) (i : ℕ) (f : PageCopy) → IsPartAt fs n part → n ≤ i → i < n + length part → slice_get fs i ≡ Some f → slice_get part (i - n) ≡ Some f
there_part fs n part i f at le lt there =
    let within : i - n < length part = omega (arith, le, lt) in
    let same : n + (i - n) ≡ i = omega (arith, le) in
    let read : get_or part (i - n) f ≡ f = sym (at.each (i - n) f within) ∙ ap (λ k. get_or fs k f) same ∙ get_or_from_slice_get fs i f f there in
    slice_get-get_or part (i - n) f within ∙ ap Some read

-- ---- names

abbrev pub NamedBelow : ℕ → List PageCopy → ℕ → Type 0
NamedBelow number fs n = (i : ℕ) (f : PageCopy) → i < n → slice_get fs i ≡ Some f → IsPageName number (name_in f)

pub names_more : (number : ℕ) (fs : List PageCopy) (n : ℕ) (part : List PageCopy) → IsPartAt fs n part → NamedBelow number fs n → HaveNames number part → NamedBelow number fs (n + length part)
names_more number fs n part at before names i f lt there = elim (cases_lt i n) [
  | inl less ↦ before i f less there
  | inr ge ↦ names (i - n) f (there_part fs n part i f at ge lt there)
]

pub names_part : (number : ℕ) (fs : List PageCopy) (n : ℕ) (part : List PageCopy) → IsPartAt fs n part → HaveNames number fs → HaveNames number part
names_part number fs n part at names i f there = names (n + i) f (part_there fs n part i f at there)
