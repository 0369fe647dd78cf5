-- The entries of a directory, by the tree map that has them.
use Rattle.std.specs.Prelude.{◌≡◌, ℕ, List, [], ◌∷◌, map as list_map, length, Option, Some, None}
use Rattle.std.proofs.Common.{refl, ◌∙◌, ap}
use Rattle.std.specs.Global.{Vec}
use Rattle.std.specs.Ordering.{nat_cmp, is_eq}
use Rattle.std.specs.Cmp.Lexicographic.{slice_cmp, nat_list_cmp_total}
use Rattle.std.specs.Option.{option_map}
use Rattle.std.specs.Map.{remove_entry}
use Rattle.std.specs.BTreeMap as tree
use Rattle.std.specs.BTreeMap.{BTreeMap, insert_entry}
use Rattle.std.specs.FinMap as map
use Rattle.std.proofs.lemmas.List.{length-map}
use Rattle.name_map.specs.laws.Seen.{get_seen, entries_seen, insert_seen, remove_seen}
use Rattle.name_map.specs.NameEntries.{entries_in, name_cmp}

key_list : {K L X Y : Type 0} (f : K → L) (g : X → Y) (es : List (K × X)) → list_map (λ e. e.0) (list_map {B = L × Y} (λ (e : K × X). (f e.0, g e.1)) es) ≡ list_map f (list_map (λ e. e.0) es)
key_list f g [] = refl
key_list f g (e ∷ es) = ap (λ xs. f e.0 ∷ xs) (key_list f g es)

value_ids : {K L X : Type 0} (f : K → L) (es : List (K × X)) → list_map (λ e. e.1) (list_map {B = L × X} (λ (e : K × X). (f e.0, e.1)) es) ≡ list_map (λ e. e.1) es
value_ids f [] = refl
value_ids f (e ∷ es) = ap (λ xs. e.1 ∷ xs) (value_ids f es)

pub option_map_same : {X : Type 0} (o : Option X) → option_map (λ (x : X). x) o ≡ o
option_map_same None = refl
option_map_same (Some x) = refl

pub empty_entries : (m : BTreeMap (Vec ℕ) ℕ) → tree.IsEmpty m → entries_in m ≡ map.empty
empty_entries m is = ap (λ es. map.from_entries {R = slice_cmp nat_cmp} (list_map (λ (e : Vec ℕ × ℕ). (e.0.items, e.1)) es)) is

pub get_entry : (m : BTreeMap (Vec ℕ) ℕ) (name : List ℕ) → map.get (entries_in m) name ≡ option_map (λ (n : ℕ). n) (tree.get_by (λ k. slice_cmp nat_cmp name k.items) m)
get_entry m name = get_seen (slice_cmp nat_cmp) (λ (k : Vec ℕ). k.items) (λ (n : ℕ). n) nat_list_cmp_total m.entries name

pub entries_entries : (m : BTreeMap (Vec ℕ) ℕ) → tree.IsOrdered name_cmp m → map.entries (entries_in m) ≡ list_map (λ e. (e.0.items, e.1)) m.entries
entries_entries m sorted = entries_seen (slice_cmp nat_cmp) (λ (k : Vec ℕ). k.items) (λ (n : ℕ). n) nat_list_cmp_total m.entries sorted

pub keys_entries : (m : BTreeMap (Vec ℕ) ℕ) → tree.IsOrdered name_cmp m → map.keys (entries_in m) ≡ list_map (λ (k : Vec ℕ). k.items) (tree.keys m)
keys_entries m sorted = ap (list_map (λ e. e.0)) (entries_entries m sorted) ∙ key_list (λ (k : Vec ℕ). k.items) (λ (n : ℕ). n) m.entries

pub values_entries : (m : BTreeMap (Vec ℕ) ℕ) → tree.IsOrdered name_cmp m → map.values (entries_in m) ≡ tree.values m
values_entries m sorted = ap (list_map (λ e. e.1)) (entries_entries m sorted) ∙ value_ids (λ (k : Vec ℕ). k.items) m.entries

pub len_entries : (m : BTreeMap (Vec ℕ) ℕ) → tree.IsOrdered name_cmp m → map.len (entries_in m) ≡ tree.btree_map_len m
len_entries m sorted = map.len-entries (entries_in m) ∙ ap length (entries_entries m sorted) ∙ length-map m.entries _

pub insert_name : (m n : BTreeMap (Vec ℕ) ℕ) (k : Vec ℕ) (v : ℕ) → tree.IsOrdered name_cmp m → tree.IsOrdered name_cmp n → n.entries ≡ insert_entry name_cmp m.entries k v → entries_in n ≡ map.insert (entries_in m) k.items v
insert_name m n k v old new is = insert_seen (slice_cmp nat_cmp) (λ (k : Vec ℕ). k.items) (λ (n : ℕ). n) nat_list_cmp_total m.entries n.entries k v old new is

pub remove_name : (m n : BTreeMap (Vec ℕ) ℕ) (k : List ℕ) → tree.IsOrdered name_cmp m → n.entries ≡ remove_entry (λ (x : Vec ℕ). is_eq (slice_cmp nat_cmp k x.items)) m.entries → entries_in n ≡ map.remove (entries_in m) k
remove_name m n k old is = remove_seen (slice_cmp nat_cmp) (λ (k : Vec ℕ). k.items) (λ (n : ℕ). n) nat_list_cmp_total (map.slice_cmp-IsAntisymmetric map.nat_cmp-IsAntisymmetric) m.entries n.entries k old is
