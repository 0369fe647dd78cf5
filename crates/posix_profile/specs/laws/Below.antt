-- The computed test of what lies below an object is right.
use Rattle.std.specs.Prelude.{◌≡◌, ◌↔◌, ◌<◌, ◌≤◌, ℕ, zero, suc, ◌-◌, true, false, nat_eq}
use Rattle.std.proofs.Common.{refl, sym, ◌∙◌, ap, subst, inl, inr, arith}
use Rattle.std.proofs.lemmas.Bool.{true≢false, eqb-true, eq-eqb}
use Rattle.std.specs.Cmp.{nat_cmp_total}
use Rattle.std.specs.FinMap as map
use Rattle.volume_terms.specs.Sizes.{Sizes, root_number}
use Rattle.posix_profile.specs.State.{Name, Dir, Objects, IsDirectory}
use Rattle.posix_profile.specs.Names.{Names, Reached, root, below, Below, self, next, parent}
use Rattle.posix_profile.specs.NameSteps.{directories_above, is_below}
use Rattle.posix_profile.specs.WellFormed.{IsForest, IsNamed}
use Rattle.posix_profile.specs.laws.Map.{Member, any_member, member_any, keys_fit}
use Rattle.posix_profile.specs.laws.Name.{parent_cases, parent_is, parent_reached, namer_directory}

-- the object is reached from the root over so many names
pub data Deep (objects : Objects) : ℕ → ℕ → Type 0 where
  top : Deep objects root_number 0
  down : {directory object n : ℕ} (name : Name) → Deep objects directory n → Names objects directory name object → Deep objects object (suc n)

depth_of : (objects : Objects) (o : ℕ) → Reached objects o → (n : ℕ) × Deep objects o n
depth_of objects o root = (0, top)
depth_of objects o (below {directory} {object} name up names) = let d = depth_of objects directory up in (suc d.0, down name d.1 names)

-- the parent's parent, and so on
abbrev climbed : Objects → ℕ → ℕ → ℕ
climbed objects zero o = o
climbed objects (suc j) o = climbed objects j (parent objects o)

module _ (z : Sizes) (objects : Objects) (forest : IsForest z objects) where
  one_depth : (o m n : ℕ) → IsDirectory objects o → Deep objects o m → Deep objects o n → m ≡ n
  one_depth o m n dir top top = refl
  one_depth o m n dir top (down {directory} name up names) = absurd (forest.root_unnamed directory name names)
  one_depth o m n dir (down {directory} name up names) top = absurd (forest.root_unnamed directory name names)
  one_depth o m n dir (down {directory = a} {n = j} name up names) (down {directory = b} {n = k} other over others) =
      let same = (forest.one_name o a b name other dir names others).0 in
      ap suc (one_depth a j k (namer_directory objects a o name names) up (subst (λ d. Deep objects d k) (sym same) over))

  climb : (j o n : ℕ) → IsDirectory objects o → Deep objects o n → j ≤ n → Deep objects (climbed objects j o) (n - j) × IsDirectory objects (climbed objects j o)
  climb zero o n dir deep le = let same : n ≡ n - 0 = omega arith in (subst (Deep objects o) same deep, dir)
  climb (suc j) o n dir top le = absurd (omega arith)
  climb (suc j) o n dir (down {directory} {object} {n = k} name up names) le =
      let same : directory ≡ parent objects object = sym (parent_is z objects forest directory object name dir names) in
      let rest = climb j (parent objects object) k
      (subst (IsDirectory objects) same (namer_directory objects directory object name names))
      (subst (λ d. Deep objects d k) same up) (omega arith) in
      let less : k - j ≡ suc k - suc j = omega arith in
      (subst (Deep objects (climbed objects j (parent objects object))) less rest.0, rest.1)

  -- no directory is deeper than there are objects
  pub depth_few : (o n : ℕ) → IsDirectory objects o → Deep objects o n → n < map.len objects
  depth_few o n dir deep =
      let many : suc n ≤ map.len objects = keys_fit nat_cmp_total map.nat_cmp-IsAntisymmetric (suc n) (λ i. climbed objects i o) objects
      (λ i lt. let c = (climb i o n dir deep (omega arith)).1 in (Dir c.0 c.1, c.2))
      (λ i j lt le same.
      let first = climb i o n dir deep (omega arith) in
      let second = climb j o n dir deep (omega arith) in
      let depth = one_depth (climbed objects j o) (n - i) (n - j) second.1 (subst (λ d. Deep objects d (n - i)) same first.0) second.0 in
      omega arith) in
      omega arith

  below_member : (x q n m : ℕ) → IsDirectory objects q → Deep objects q n → n ≤ m → Below objects x q → Member (directories_above objects m q) x
  below_member x q n zero dir deep le self = inl refl
  below_member x q n (suc m) dir deep le self = inl refl
  below_member x q n m dir top le (next {directory} {object} name up names) = absurd (forest.root_unnamed directory name names)
  below_member x q n zero dir (down {directory = a} {object} {n = k} other over others) le (next {directory} name up names) = absurd (omega arith)
  below_member x q n (suc m) dir (down {directory = a} {object} {n = k} other over others) le (next {directory} name up names) =
      let same : a ≡ directory = (forest.one_name object a directory other name dir others names).0 in
      let is : directory ≡ parent objects object = sym (parent_is z objects forest directory object name dir names) in
      inr (subst (λ d. Member (directories_above objects m d) x) is
      (below_member x directory k m (namer_directory objects directory object name names) (subst (λ d. Deep objects d k) same over) (omega arith) up))

  member_below : (x q m : ℕ) → Reached objects q → Member (directories_above objects m q) x → Below objects x q
  member_below x q zero up (inl is) = subst (λ o. Below objects x o) is self
  member_below x q zero up (inr is) = absurd is
  member_below x q (suc m) up (inl is) = subst (λ o. Below objects x o) is self
  member_below x q (suc m) up (inr is) =
      let rest = member_below x (parent objects q) m (parent_reached z objects forest q).0 is in
      elim (parent_cases objects q) [
        | inl named ↦ next named.0 rest named.1
        | inr none ↦ subst (λ o. Below objects x o) (none.0 ∙ sym (top_of q up none.1)) rest
      ]
    where
      top_of : (q : ℕ) → Reached objects q → (IsNamed objects q → ⊥) → q ≡ root_number
      top_of q root unnamed = refl
      top_of q (below {directory} {object} name up names) unnamed = absurd (unnamed (directory, name, names))

  -- the test says what lies below
  pub is_below_decides : (x q : ℕ) → IsDirectory objects q → Reached objects q → (is_below objects x q ≡ true) ↔ Below objects x q
  is_below_decides x q dir up = (
    λ e.
        let m = any_member (nat_eq x) (directories_above objects (map.len objects) q) e in
        member_below x q (map.len objects) up (subst (Member (directories_above objects (map.len objects) q)) (sym (eqb-true x m.0 m.2)) m.1),
    λ b.
        let d = depth_of objects q up in
        let within_limit = depth_few q d.0 dir d.1 in
        member_any (nat_eq x) (directories_above objects (map.len objects) q) x (below_member x q d.0 (map.len objects) dir d.1 (omega arith) b) (eq-eqb x x refl),
  )

  pub not_below : (x q : ℕ) → IsDirectory objects q → Reached objects q → is_below objects x q ≡ false → Below objects x q → ⊥
  not_below x q dir up no' b = true≢false (sym ((is_below_decides x q dir up).1 b) ∙ no')
