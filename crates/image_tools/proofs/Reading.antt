-- Entries of items that are read one after another.
use Rattle.std.specs.Prelude.{◌≡◌, ℕ, ◌++◌, Bool, true, false, List, [], ◌∷◌, Option, Some, None, option_map, cond, nat_eq}
use Rattle.std.specs.List.{find}
use Rattle.std.specs.Option.{option_or}
use Rattle.std.proofs.Common.{refl, sym, ◌∙◌, ap, append_assoc}
use Rattle.std.proofs.lemmas.List.{append-nil}
use Rattle.std.proofs.lemmas.List.Folds.{find-append}
use Rattle.plain_volume.specs.Items.{Item}
use Rattle.image_tools.specs.Folders.{Entry, first_path, entry_after, entries_after}

option_map-or : {A B : Type 0} (f : A → B) (x y : Option A) → option_map f (option_or x y) ≡ option_or (option_map f x) (option_map f y)
option_map-or f None y = refl
option_map-or f (Some x) y = refl

-- the first path after one more item
pub first_path_more : (items : List Item) (item : Item) (number : ℕ)
    → first_path (items ++ item ∷ []) number ≡ option_or (first_path items number) (cond (nat_eq item.info.object number) (Some item.path) None)
first_path_more items item number =
    ap (option_map (λ (i : Item). i.path)) (find-append (λ (i : Item). nat_eq i.info.object number) items (item ∷ []))
    ∙ option_map-or (λ (i : Item). i.path) (find (λ (i : Item). nat_eq i.info.object number) items) (find (λ (i : Item). nat_eq i.info.object number) (item ∷ []))
    ∙ ap (option_or (first_path items number)) (one (nat_eq item.info.object number))
  where
    one : (b : Bool) → option_map (λ (i : Item). i.path) (cond b (Some item) None) ≡ cond b (Some item.path) None
    one true = refl
    one false = refl

-- the entries after one more item
pub entries_more : (earlier items : List Item) (item : Item) → entries_after earlier (items ++ item ∷ []) ≡ entries_after earlier items ++ entry_after (earlier ++ items) item ∷ []
entries_more earlier [] item = ap (λ (k : List Item). entry_after k item ∷ []) (sym (append-nil earlier))
entries_more earlier (x ∷ items) item =
    ap (λ (k : List Entry). entry_after earlier x ∷ k) (entries_more (earlier ++ x ∷ []) items item
    ∙ ap (λ (k : List Item). entries_after (earlier ++ x ∷ []) items ++ entry_after k item ∷ []) (append_assoc earlier (x ∷ []) items))
