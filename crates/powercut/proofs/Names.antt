-- No two lists of numbers have the same name, and no two sessions the same number.
use Rattle.std.specs.Prelude.{◌≡◌, ◌≤◌, ◌<◌, ℕ, zero, suc, Bool, true, false, Option, None, Some, List, [], ◌∷◌, map, cond}
use Rattle.std.proofs.Common.{refl, sym, ◌∙◌, ap, inl, inr, arith}
use Rattle.std.proofs.lemmas.Bool.{cases_eq}
use Rattle.nand_model.specs.Flash.{Flash, Page, Erased, Written, Uncorrectable}
use Rattle.nand_model.specs.declared.fate.Fate.{Fate}
use Rattle.nand_model.specs.declared.fate.Fate.TheVariants as fates
use Rattle.nand_model.specs.declared.geometry.Geometry.{Geometry}
use Rattle.powercut.specs.Naming.{pair, name, fate_number, call_number, fuse_number, page_number, next_number, first_numbers, block_number, flash_number, Totals, session_number}

pair_same : (a b c d : ℕ) → pair a b ≡ pair c d → (a ≡ c) × (b ≡ d)
pair_same zero b zero d is = (refl, omega (arith, is))
pair_same zero b (suc c) d is = absurd (omega (arith, is))
pair_same (suc a) b zero d is = absurd (omega (arith, is))
pair_same (suc a) b (suc c) d is = let rest = pair_same a b c d (omega (arith, is)) in (ap suc rest.0, rest.1)

pair_some : (a b : ℕ) → 1 ≤ pair a b
pair_some zero b = omega arith
pair_some (suc a) b = let some = pair_some a b in omega (arith, some)

name_same : (xs ys : List ℕ) → name xs ≡ name ys → xs ≡ ys
name_same [] [] is = refl
name_same [] (y ∷ ys) is = let some = pair_some y (name ys) in absurd (omega (arith, is, some))
name_same (x ∷ xs) [] is = let some = pair_some x (name xs) in absurd (omega (arith, is, some))
name_same (x ∷ xs) (y ∷ ys) is =
    let both = pair_same x (name xs) y (name ys) is in
    ap (λ n. n ∷ xs) both.0 ∙ ap (λ (ns : List ℕ). y ∷ ns) (name_same xs ys both.1)

-- lists are the same where the names of their numbers are
map_same : {A : Type 0} (number : A → ℕ) → ((x y : A) → number x ≡ number y → x ≡ y) → (xs ys : List A) → name (map number xs) ≡ name (map number ys) → xs ≡ ys
map_same number alike [] [] is = refl
map_same number alike [] (y ∷ ys) is = let some = pair_some (number y) (name (map number ys)) in absurd (omega (arith, is, some))
map_same number alike (x ∷ xs) [] is = let some = pair_some (number x) (name (map number xs)) in absurd (omega (arith, is, some))
map_same {A} number alike (x ∷ xs) (y ∷ ys) is =
    let both = pair_same (number x) (name (map number xs)) (number y) (name (map number ys)) is in
    ap (λ (z : A). z ∷ xs) (alike x y both.0) ∙ ap (λ (zs : List A). y ∷ zs) (map_same number alike xs ys both.1)

-- the fate of a number
fate_of : ℕ → Fate
fate_of zero = fates.Old
fate_of (suc zero) = fates.New
fate_of (suc (suc zero)) = fates.Erased
fate_of (suc (suc (suc n))) = fates.Uncorrectable

fate_back : (fate : Fate) → fate_of (fate_number fate) ≡ fate
unfolding fate_of
fate_back fates.Old = refl
fate_back fates.New = refl
fate_back fates.Erased = refl
fate_back fates.Uncorrectable = refl

fate_same : (x y : Fate) → fate_number x ≡ fate_number y → x ≡ y
fate_same x y is = sym (fate_back x) ∙ ap fate_of is ∙ fate_back y

call_same : (x y : ℕ × List Fate) → call_number x ≡ call_number y → x ≡ y
call_same x y is =
    let both = pair_same x.0 (name (map fate_number x.1)) y.0 (name (map fate_number y.1)) is in
    let listed : x.1 ≡ y.1 = map_same fate_number fate_same x.1 y.1 both.1 in
    λ i. (both.0 i, listed i)

fuse_same : (x y : Option (ℕ × List Fate)) → fuse_number x ≡ fuse_number y → x ≡ y
fuse_same None None is = refl
fuse_same None (Some y) is = let some = pair_some y.0 (name (map fate_number y.1)) in absurd (omega (arith, is, some))
fuse_same (Some x) None is = let some = pair_some x.0 (name (map fate_number x.1)) in absurd (omega (arith, is, some))
fuse_same (Some x) (Some y) is = ap Some (call_same x y is)

page_same : (x y : Page) → page_number x ≡ page_number y → x ≡ y
page_same Erased Erased is = refl
page_same Erased Uncorrectable is = absurd (omega (arith, is))
page_same Erased (Written bytes tag) is = absurd (omega (arith, is))
page_same Uncorrectable Erased is = absurd (omega (arith, is))
page_same Uncorrectable Uncorrectable is = refl
page_same Uncorrectable (Written bytes tag) is = let some = pair_some (name bytes) (name tag) in absurd (omega (arith, is, some))
page_same (Written bytes tag) Erased is = absurd (omega (arith, is))
page_same (Written bytes tag) Uncorrectable is = let some = pair_some (name bytes) (name tag) in absurd (omega (arith, is, some))
page_same (Written bytes tag) (Written bytes' tag') is =
    let both = pair_same (name bytes) (name tag) (name bytes') (name tag') (omega (arith, is)) in
    let same_bytes = name_same bytes bytes' both.0 in
    let same_tag = name_same tag tag' both.1 in
    λ i. Written (same_bytes i) (same_tag i)

next_same : (x y : Option ℕ) → next_number x ≡ next_number y → x ≡ y
next_same None None is = refl
next_same None (Some y) is = absurd (omega (arith, is))
next_same (Some x) None is = absurd (omega (arith, is))
next_same (Some x) (Some y) is = ap Some (omega (arith, is))

bad_same : (x y : Bool) → cond {A = ℕ} x 1 0 ≡ cond {A = ℕ} y 1 0 → x ≡ y
bad_same true true is = refl
bad_same true false is = absurd (omega (arith, is))
bad_same false true is = absurd (omega (arith, is))
bad_same false false is = refl

-- the first numbers are the same, one by one
first_same : (f g : ℕ → ℕ) (n k : ℕ) → name (first_numbers f n) ≡ name (first_numbers g n) → k < n → f k ≡ g k
first_same f g zero k is lt = absurd (omega (arith, lt))
first_same f g (suc n) k is lt =
    let both = pair_same (f n) (name (first_numbers f n)) (g n) (name (first_numbers g n)) is in
    elim (cases_eq k n) [
      | inl at ↦ ap f at ∙ both.0 ∙ sym (ap g at)
      | inr not ↦ first_same f g n k both.1 (omega (arith, lt, not))
    ]

-- the flashes of these sizes with the same number are the same
module _ (geometry : Geometry) (f g : Flash) where
  block_same : (b : ℕ) → flash_number geometry f ≡ flash_number geometry g → b < geometry.blocks → block_number geometry.pages f b ≡ block_number geometry.pages g b
  unfolding flash_number
  block_same b is lt = first_same (block_number geometry.pages f) (block_number geometry.pages g) geometry.blocks b is lt

  module _ (is : flash_number geometry f ≡ flash_number geometry g) (b : ℕ) (lt : b < geometry.blocks) where
    here : (f.bad b ≡ g.bad b) × (f.next b ≡ g.next b)
    here =
        let first = pair_same _ _ _ _ (block_same b is lt) in
        let second = pair_same _ _ _ _ first.1 in
        (bad_same (f.bad b) (g.bad b) first.0, next_same (f.next b) (g.next b) second.0)

    pub same_bad : f.bad b ≡ g.bad b
    same_bad = here.0

    pub same_next : f.next b ≡ g.next b
    same_next = here.1

    pub same_page : (p : ℕ) → p < geometry.pages → f.page b p ≡ g.page b p
    same_page p less =
        let first = pair_same _ _ _ _ (block_same b is lt) in
        let second = pair_same _ _ _ _ first.1 in
        page_same (f.page b p) (g.page b p) (first_same (λ k. page_number (f.page b k)) (λ k. page_number (g.page b k)) geometry.pages p second.1 less)

-- so a number says which session it is
pub record AreSame (f g : Option (ℕ × List Fate)) (x y : List (ℕ × List Fate)) (t u : Totals) : Type 0 where
  pub fuse : f ≡ g
  pub failing : x ≡ y
  pub calls : t.0 ≡ u.0
  pub failures : t.1 ≡ u.1
  pub cuts : t.2 ≡ u.2
  pub flash : t.3 ≡ u.3
  pub reads : t.4 ≡ u.4

pub sessions_same : (f g : Option (ℕ × List Fate)) (x y : List (ℕ × List Fate)) (t u : Totals) → session_number f x t ≡ session_number g y u → AreSame f g x y t u
unfolding session_number
sessions_same f g x y t u is =
    let fuse = pair_same _ _ _ _ is in
    let failing = pair_same _ _ _ _ fuse.1 in
    let calls = pair_same _ _ _ _ failing.1 in
    let failures = pair_same _ _ _ _ calls.1 in
    let cuts = pair_same _ _ _ _ failures.1 in
    let flash = pair_same _ _ _ _ cuts.1 in
    let reads = pair_same _ _ _ _ flash.1 in
    record {
      fuse = fuse_same f g fuse.0;
      failing = map_same call_number call_same x y failing.0;
      calls = calls.0;
      failures = failures.0;
      cuts = cuts.0;
      flash = flash.0;
      reads = reads.0;
    }
