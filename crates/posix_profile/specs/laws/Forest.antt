-- Changes of names under which the objects go on to hang together.
use Rattle.std.specs.Prelude.{◌≡◌, ◌≢◌, ◌⊎◌, ℕ, Some}
use Rattle.std.proofs.Common.{refl, sym, ◌∙◌, ap, subst, inl, inr}
use Rattle.std.proofs.lemmas.Bool.{cases_eq}
use Rattle.std.specs.FinMap as map
use Rattle.volume_terms.specs.Sizes.{Sizes, root_number}
use Rattle.posix_profile.specs.State.{Name, Object, Objects, IsDirectory}
use Rattle.posix_profile.specs.Names.{Names, Reached, root, below, Below, self, next}
use Rattle.posix_profile.specs.WellFormed.{IsForest, IsNamed, IsObject}

-- The object x goes from where it was to the directory q, and y, which names nothing, may go. All other names stay.
pub record Moves (old new : Objects) (x y q : ℕ) : Type 0 where
  pub committed : (p c : ℕ) (n : Name) → Names old p n c → c ≢ x → c ≢ y → Names new p n c
  pub moved : IsNamed old x → (name : Name) × Names new q name x
  pub empty : (c : ℕ) (n : Name) → Names old y n c → ⊥
  pub apart : IsNamed old x → Below old x q → ⊥
  pub not_y : q ≢ y
  pub top : Reached old q

module _ (old new : Objects) (x y q : ℕ) (moves : Moves old new x y q) where
  -- what isn't below x is reached as before
  beside : (o : ℕ) → Reached old o → (Below old x o → ⊥) → o ≢ y → Reached new o
  beside o root out ne = root
  beside o (below {directory} {object} name up names) out ne =
      let parent_out : Below old x directory → ⊥ = λ b. out (next name b names) in
      let parent_ne : directory ≢ y = λ is. moves.empty object name (subst (λ n. Names old n name object) is names) in
      let child_ne : object ≢ x = λ is. out (subst (Below old x) (sym is) self) in
      below name (beside directory up parent_out parent_ne) (moves.committed directory object name names child_ne ne)

  -- all that was reached, and isn't replaced, is reached
  pub moved_reached : (o : ℕ) → Reached old o → o ≢ y → Reached new o
  moved_reached o root ne = root
  moved_reached o (below {directory} {object} name up names) ne = elim (cases_eq object x) [
    | inl is ↦
        let was : IsNamed old x = (directory, name, subst (λ c. Names old directory name c) is names) in
        let now = moves.moved was in
        subst (Reached new) (sym is) (below now.0 (beside q moves.top (moves.apart was) moves.not_y) now.1)
    | inr child_ne ↦
        let parent_ne : directory ≢ y = λ is. moves.empty object name (subst (λ n. Names old n name object) is names) in
        below name (moved_reached directory up parent_ne) (moves.committed directory object name names child_ne ne)
  ]

-- Besides, every object of the new ones is right by itself, none is lost, and only x has a new name and may be new.
pub record Edits (z : Sizes) (old new : Objects) (x y q : ℕ) (name : Name) : Type 0 where
  pub moves : Moves old new x y q
  pub each : (o : ℕ) (object : Object) → map.get new o ≡ Some object → IsObject z o object
  pub root : IsDirectory new root_number
  pub there : (o : ℕ) (object : Object) → map.get old o ≡ Some object → (now : Object) × (map.get new o ≡ Some now)
  pub back : (o : ℕ) → IsDirectory new o → o ≢ x → IsDirectory old o
  pub from : (p c : ℕ) (n : Name) → Names new p n c → ((p ≡ q) × (c ≡ x)) ⊎ Names old p n c
  pub single : IsDirectory new x → (p : ℕ) (n : Name) → Names new p n x → (p ≡ q) × (n ≡ name)
  pub x_there : IsNamed new x → (object : Object) × (map.get new x ≡ Some object)
  pub not_root : x ≢ root_number

module _ (z : Sizes) (old new : Objects) (x y q : ℕ) (name : Name) (edits : Edits z old new x y q name) (forest : IsForest z old) where
  unnamed : (p : ℕ) (n : Name) → Names new p n root_number → ⊥
  unnamed p n names = elim (edits.from p root_number n names) [
    | inl new' ↦ edits.not_root (sym new'.1)
    | inr old' ↦ forest.root_unnamed p n old'
  ]

  leads : (p c : ℕ) (n : Name) → Names new p n c → (object : Object) × (map.get new c ≡ Some object)
  leads p c n names = elim (edits.from p c n names) [
    | inl new' ↦
        let there = edits.x_there (p, n, subst (λ k. Names new p n k) new'.1 names) in
        (there.0, ap (map.get new) new'.1 ∙ there.1)
    | inr old' ↦ let was = forest.leads p c n old' in edits.there c was.0 was.1
  ]

  reached : (p c : ℕ) (n : Name) → Names new p n c → Reached new p
  reached p c n names = elim (edits.from p c n names) [
    | inl new' ↦ subst (Reached new) (sym new'.0) (moved_reached old new x y q edits.moves q edits.moves.top edits.moves.not_y)
    | inr old' ↦
        let ne : p ≢ y = λ is. edits.moves.empty c n (subst (λ k. Names old k n c) is old') in
        moved_reached old new x y q edits.moves p (forest.reached p c n old') ne
  ]

  old_name : (o p : ℕ) (n : Name) → o ≢ x → Names new p n o → Names old p n o
  old_name o p n ne names = elim (edits.from p o n names) [ inl new' ↦ absurd (ne new'.1) | inr old' ↦ old' ]

  one_name : (o a b : ℕ) (m n : Name) → IsDirectory new o → Names new a m o → Names new b n o → (a ≡ b) × (m ≡ n)
  one_name o a b m n dir na nb = elim (cases_eq o x) [
    | inl is ↦
        let d : IsDirectory new x = subst (IsDirectory new) is dir in
        let first = edits.single d a m (subst (λ k. Names new a m k) is na) in
        let second = edits.single d b n (subst (λ k. Names new b n k) is nb) in
        (first.0 ∙ sym second.0, first.1 ∙ sym second.1)
    | inr ne ↦ forest.one_name o a b m n (edits.back o dir ne) (old_name o a m ne na) (old_name o b n ne nb)
  ]

  -- the objects go on to hang together
  pub edited_forest : IsForest z new
  edited_forest = record {
    each = edits.each;
    root = edits.root;
    root_unnamed = unnamed;
    leads = leads;
    reached = reached;
    one_name = one_name;
  }

-- below an object that names nothing is only itself
pub below_self : (objects : Objects) (top q : ℕ) → ((c : ℕ) (n : Name) → Names objects top n c → ⊥) → Below objects top q → q ≡ top
below_self objects top q empty self = refl
below_self objects top q empty (next {directory} {object} name up names) =
    absurd (empty object name (subst (λ d. Names objects d name object) (below_self objects top directory empty up) names))
