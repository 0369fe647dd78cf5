-- Maps that hold the same, entry by entry.
use Rattle.std.specs.Prelude.{◌≡◌, ℕ, Bool, true, false, ◌&&◌, List, [], ◌∷◌, map as list_map, nat_eq}
use Rattle.std.proofs.Common.{refl, sym, ◌∙◌, ap}
use Rattle.std.specs.Bool.{Decides}
use Rattle.std.proofs.lemmas.Bool.Decides.{Decides-and, Decides-like, Decides-eqb}
use Rattle.std.specs.Cmp.Lexicographic.{pointwise, bytes_decides}
use Rattle.std.specs.Global.{Vec}
use Rattle.std.specs.Ordering.{nat_cmp}
use Rattle.std.specs.BTreeMap as tree
use Rattle.std.specs.BTreeMap.{BTreeMap}
use Rattle.std.specs.FinMap as map
use Rattle.posix_profile.specs.State.{Object}
use Rattle.name_map.specs.NameEntries.{entries_in, name_cmp}
use Rattle.name_map.specs.laws.NameEntries.{entries_entries}
use Rattle.plain_volume.specs.declared.state.object.PlainObject.{PlainObject}
use Rattle.plain_volume.specs.PlainState.{object_of, objects_in}
use Rattle.plain_volume.specs.laws.PlainState.{entries_objects}

differ : false ≡ true → ⊥
differ e = cc

none_longer : {X : Type 0} (x : X) (xs : List X) → [] ≡ x ∷ xs → ⊥
none_longer x xs e = cc

longer_none : {X : Type 0} (x : X) (xs : List X) → x ∷ xs ≡ [] → ⊥
longer_none x xs e = cc

first_same : {X : Type 0} (x y : X) (xs ys : List X) → x ∷ xs ≡ y ∷ ys → x ≡ y
first_same x y xs ys e = cc

rest_same : {X : Type 0} (x y : X) (xs ys : List X) → x ∷ xs ≡ y ∷ ys → xs ≡ ys
rest_same x y xs ys e = cc

-- lists whose members are seen as equal, pair by pair
module _ {A X : Type 0} (f : A → X) (E : A → A → Bool) (decides : (a b : A) → Decides (E a b) (f a ≡ f b)) where
  seen_decides : (xs ys : List A) → Decides (pointwise E xs ys) (list_map f xs ≡ list_map f ys)
  seen_decides [] [] = (λ e. refl, λ e. refl)
  seen_decides [] (y ∷ ys) = (λ e. absurd (differ e), λ e. absurd (none_longer (f y) (list_map f ys) e))
  seen_decides (x ∷ xs) [] = (λ e. absurd (differ e), λ e. absurd (longer_none (f x) (list_map f xs) e))
  seen_decides (x ∷ xs) (y ∷ ys) =
      Decides-like (E x y && pointwise E xs ys) (λ p. λ i. p.0 i ∷ p.1 i) (λ e. (first_same (f x) (f y) (list_map f xs) (list_map f ys) e, rest_same (f x) (f y) (list_map f xs) (list_map f ys) e))
      (Decides-and (E x y) (pointwise E xs ys) (decides x y) (seen_decides xs ys))

-- an entry with its name's bytes
abbrev entry_seen : Vec ℕ × ℕ → List ℕ × ℕ
entry_seen e = (e.0.items, e.1)

-- whether two entries have the same name and number
abbrev same_entry : Vec ℕ × ℕ → Vec ℕ × ℕ → Bool
same_entry p q = pointwise nat_eq p.0.items q.0.items && nat_eq p.1 q.1

entry_decides : (p q : Vec ℕ × ℕ) → Decides (same_entry p q) (entry_seen p ≡ entry_seen q)
entry_decides p q = Decides-like (same_entry p q) (λ e. λ i. (e.0 i, e.1 i)) (λ e. (ap (λ x. x.0) e, ap (λ x. x.1) e))
    (Decides-and (pointwise nat_eq p.0.items q.0.items) (nat_eq p.1 q.1) (bytes_decides p.0.items q.0.items) (Decides-eqb p.1 q.1))

pub entries_decide : (m n : BTreeMap (Vec ℕ) ℕ) → tree.IsOrdered name_cmp m → tree.IsOrdered name_cmp n → Decides (pointwise same_entry m.entries n.entries) (entries_in m ≡ entries_in n)
entries_decide m n sorted other =
    Decides-like (pointwise same_entry m.entries n.entries) (λ e. ap map.from_entries e) (λ e. sym (entries_entries m sorted) ∙ ap map.entries e ∙ entries_entries n other)
    (seen_decides entry_seen same_entry entry_decides m.entries n.entries)

-- the objects of entries, by their numbers
abbrev pub objects_seen : List (ℕ × PlainObject) → List (ℕ × Object)
objects_seen es = list_map (λ e. (e.0, object_of e.1)) es

-- what is left of two maps is the same exactly where the maps are
pub record SameLeft (m n : BTreeMap ℕ PlainObject) (left others : List (ℕ × PlainObject)) : Type 0 where
  pub whole : objects_seen left ≡ objects_seen others → objects_in m ≡ objects_in n
  pub part : objects_in m ≡ objects_in n → objects_seen left ≡ objects_seen others

pub all_left : (m n : BTreeMap ℕ PlainObject) (left others : List (ℕ × PlainObject)) → left ≡ m.entries → others ≡ n.entries → tree.IsOrdered nat_cmp m → tree.IsOrdered nat_cmp n → SameLeft m n left others
all_left m n left others is other_is sorted other_sorted = record {
  whole = λ e. ap map.from_entries (ap objects_seen (sym is) ∙ e ∙ ap objects_seen other_is);
  part = λ e. ap objects_seen is ∙ sym (entries_objects m sorted) ∙ ap map.entries e ∙ entries_objects n other_sorted ∙ ap objects_seen (sym other_is);
}
