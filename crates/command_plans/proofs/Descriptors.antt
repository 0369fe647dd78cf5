-- What a table has, and what a change of a slot makes of it.
use Rattle.std.specs.Prelude.{◌≡◌, ◌≢◌, ◌<◌, ◌≤◌, ℕ, ◌+◌, ◌-◌, true, false, not, is_some, List, [], ◌∷◌, length, Option, Some, None, get_or, slice_set}
use Rattle.std.proofs.Common.{refl, sym, ◌∙◌, ap, inl, inr, arith}
use Rattle.std.proofs.lemmas.Bool.{cases_eq, cases_lt}
use Rattle.std.proofs.lemmas.List.{get_or-set_same, get_or-set_other}
use Rattle.std.specs.Cmp.{nat_cmp_total}
use Rattle.std.specs.Ordering.{nat_cmp}
use Rattle.std.specs.Option.{option_map}
use Rattle.std.specs.FinMap as map
use Rattle.posix_profile.specs.State.{Handle, Handles}
use Rattle.posix_profile.specs.laws.Map.{get_here, get_there, removed_none, get_removed, remove_cases}
use Rattle.command_plans.specs.declared.table.OpenDescription.{OpenDescription}
use Rattle.command_plans.specs.declared.table.DescriptorTable.{DescriptorTable}
use Rattle.posix_profile.specs.WellFormed.{IsOpen}
use Rattle.command_plans.specs.Tables.{handle_of, handles_from, handles_in, RefersTo}

abbrev Slots : Type 0
Slots = List (Option OpenDescription)

-- nothing stands below the first descriptor
low_none : (n : ℕ) (slots : Slots) (k : ℕ) → k < n → map.get (handles_from n slots) k ≡ None
low_none n [] k low = map.get-empty nat_cmp k
low_none n (None ∷ slots) k low = low_none (n + 1) slots k (omega arith)
low_none n (Some d ∷ slots) k low =
    get_there nat_cmp_total map.nat_cmp-IsAntisymmetric (handles_from (n + 1) slots) n (handle_of d) k (let ne : k ≢ n = omega arith in ne) ∙ low_none (n + 1) slots k (omega arith)

-- each descriptor stands for what its slot has
each_slot : (n : ℕ) (slots : Slots) (i : ℕ) → map.get (handles_from n slots) (n + i) ≡ option_map handle_of (get_or slots i None)
each_slot n [] i = map.get-empty nat_cmp (n + i)
each_slot n (None ∷ slots) ℕ.zero = low_none (n + 1) slots (n + 0) (omega arith)
each_slot n (None ∷ slots) (ℕ.suc i) =
    let there : n + ℕ.suc i ≡ n + 1 + i = omega arith in ap (map.get (handles_from (n + 1) slots)) there ∙ each_slot (n + 1) slots i
each_slot n (Some d ∷ slots) ℕ.zero =
    let here : n + 0 ≡ n = omega arith in
    ap (map.get (handles_from n (Some d ∷ slots))) here ∙ get_here nat_cmp_total map.nat_cmp-IsAntisymmetric (handles_from (n + 1) slots) n (handle_of d)
each_slot n (Some d ∷ slots) (ℕ.suc i) =
    let there : n + ℕ.suc i ≡ n + 1 + i = omega arith in
    ap (map.get (handles_from n (Some d ∷ slots))) there
    ∙ get_there nat_cmp_total map.nat_cmp-IsAntisymmetric (handles_from (n + 1) slots) n (handle_of d) (n + 1 + i) (let ne : n + 1 + i ≢ n = omega arith in ne)
    ∙ each_slot (n + 1) slots i

pub table_get : (table : DescriptorTable) (fd : ℕ) → option_map handle_of (get_or table.slots.items fd None) ≡ map.get (handles_in table) fd
unfolding handles_in
table_get table fd = let here : 0 + fd ≡ fd = omega arith in sym (each_slot 0 table.slots.items fd) ∙ ap (map.get (handles_from 0 table.slots.items)) here

-- tables with the same slots as a map are that map
pub table_is : (table : DescriptorTable) (handles : Handles) → ((fd : ℕ) → option_map handle_of (get_or table.slots.items fd None) ≡ map.get handles fd) → handles_in table ≡ handles
table_is table handles same = map.same_map nat_cmp_total map.nat_cmp-IsAntisymmetric (handles_in table) handles (λ fd. sym (table_get table fd) ∙ same fd)

-- a descriptor that stands for something else now
pub table_put : (old new : DescriptorTable) (fd : ℕ) (description : OpenDescription) → new.slots.items ≡ slice_set old.slots.items fd (Some description) → fd < length old.slots.items
    → handles_in new ≡ map.insert (handles_in old) fd (handle_of description)
table_put old new fd description is small = table_is new (map.insert (handles_in old) fd (handle_of description)) (λ k.
    ap (λ (slots : Slots). option_map handle_of (get_or slots k None)) is ∙ elim (cases_eq k fd) [
      | inl here ↦
          ap (λ k. option_map handle_of (get_or (slice_set old.slots.items fd (Some description)) k None)) here
          ∙ ap (option_map handle_of) (get_or-set_same old.slots.items fd (Some description) None small)
          ∙ sym (get_here nat_cmp_total map.nat_cmp-IsAntisymmetric (handles_in old) fd (handle_of description)) ∙ ap (map.get (map.insert (handles_in old) fd (handle_of description))) (sym here)
      | inr ne ↦
          ap (option_map handle_of) (get_or-set_other old.slots.items fd k (Some description) None ne) ∙ table_get old k
          ∙ sym (get_there nat_cmp_total map.nat_cmp-IsAntisymmetric (handles_in old) fd (handle_of description) k ne)
    ])

pub table_remove : (old new : DescriptorTable) (fd : ℕ) → new.slots.items ≡ slice_set old.slots.items fd None → fd < length old.slots.items → handles_in new ≡ map.remove (handles_in old) fd
table_remove old new fd is small = table_is new (map.remove (handles_in old) fd) (λ k.
    ap (λ (slots : Slots). option_map handle_of (get_or slots k None)) is ∙ elim (cases_eq k fd) [
      | inl here ↦
          ap (λ k. option_map handle_of (get_or (slice_set old.slots.items fd None) k None)) here
          ∙ ap (option_map handle_of) (get_or-set_same old.slots.items fd None None small)
          ∙ sym (removed_none nat_cmp_total map.nat_cmp-IsAntisymmetric (handles_in old) fd) ∙ ap (map.get (map.remove (handles_in old) fd)) (sym here)
      | inr ne ↦
          ap (option_map handle_of) (get_or-set_other old.slots.items fd k None None ne) ∙ table_get old k
          ∙ sym (get_removed nat_cmp_total map.nat_cmp-IsAntisymmetric (handles_in old) fd k ne)
    ])

-- past the end there is nothing to take away
pub table_past : (table : DescriptorTable) (fd : ℕ) → get_or table.slots.items fd None ≡ None → handles_in table ≡ map.remove (handles_in table) fd
table_past table fd none = map.same_map nat_cmp_total map.nat_cmp-IsAntisymmetric (handles_in table) (map.remove (handles_in table) fd) (λ k. elim (cases_eq k fd) [
  | inl here ↦
      ap (map.get (handles_in table)) here ∙ sym (table_get table fd) ∙ ap (option_map handle_of) none
      ∙ sym (removed_none nat_cmp_total map.nat_cmp-IsAntisymmetric (handles_in table) fd) ∙ ap (map.get (map.remove (handles_in table) fd)) (sym here)
  | inr ne ↦ sym (get_removed nat_cmp_total map.nat_cmp-IsAntisymmetric (handles_in table) fd k ne)
])

pub table_empty : (table : DescriptorTable) → ((k : ℕ) → get_or table.slots.items k None ≡ None) → handles_in table ≡ map.empty
table_empty table none = table_is table map.empty (λ k. ap (option_map handle_of) (none k) ∙ sym (map.get-empty nat_cmp k))

-- no slot from this one on refers to anything
abbrev pub ClosedFrom : Slots → ℕ → Type 0
ClosedFrom slots end = (fd : ℕ) → end ≤ fd → get_or slots fd None ≡ None

-- what has no handle is no description
no_description : (x : Option OpenDescription) → option_map handle_of x ≡ None → x ≡ None
no_description None none = refl
no_description (Some d) none = let two : Some (handle_of d) ≡ None = none in absurd cc

-- no handle is there
no_handle : (x : Option Handle) → not (is_some x) ≡ true → x ≡ None
no_handle None none = refl
no_handle (Some handle) none = let two : false ≡ true = none in absurd cc

-- one more slot, before those that are closed, is closed
pub closed_step : (table : DescriptorTable) (end : ℕ) → not (map.contains_key (handles_in table) (end - 1)) ≡ true → ClosedFrom table.slots.items end → ClosedFrom table.slots.items (end - 1)
closed_step table end none closed k high = elim (cases_eq k (end - 1)) [
  | inl here ↦ ap (λ k. get_or table.slots.items k None) here ∙ no_description (get_or table.slots.items (end - 1) None) (table_get table (end - 1) ∙ no_handle (map.get (handles_in table) (end - 1)) none)
  | inr ne ↦ closed k (omega (arith, high, ne))
]

-- the descriptor at the end is closed
pub end_closed : (table : DescriptorTable) (fd : ℕ) → fd ≡ table.end → not (map.contains_key (handles_in table) fd) ≡ true
end_closed table fd is =
    let none : map.get (handles_in table) fd ≡ None = sym (table_get table fd) ∙ ap (option_map handle_of) (table.closed fd (omega (arith, is))) in
    ap (λ (x : Option Handle). not (is_some x)) none

-- an open descriptor is before the end
pub table_low : (table : DescriptorTable) (fd : ℕ) (handle : Handle) → map.get (handles_in table) fd ≡ Some handle → fd < table.end
table_low table fd handle is = elim (cases_lt fd table.end) [
  | inl low ↦ low
  | inr high ↦
      let none : map.get (handles_in table) fd ≡ None = sym (table_get table fd) ∙ ap (option_map handle_of) (table.closed fd high) in
      let two : Some handle ≡ None = sym is ∙ none in absurd cc
]

-- none of the first n descriptors stands for the object
abbrev pub NoneBelow : Handles → ℕ → ℕ → Type 0
NoneBelow handles o n = (fd : ℕ) (handle : Handle) → fd < n → map.get handles fd ≡ Some handle → handle.object ≢ o

pub none_open : (table : DescriptorTable) (o : ℕ) → NoneBelow (handles_in table) o table.end → IsOpen (handles_in table) o → ⊥
none_open table o none is = none is.0 is.1 (table_low table is.0 is.1 is.2) is.2 is.3

-- none of them does so but perhaps this one
abbrev pub NoneBesides : Handles → ℕ → ℕ → ℕ → Type 0
NoneBesides handles fd o n = (other : ℕ) (handle : Handle) → other < n → other ≢ fd → map.get handles other ≡ Some handle → handle.object ≢ o

pub none_besides : (table : DescriptorTable) (fd o : ℕ) → NoneBesides (handles_in table) fd o table.end → IsOpen (map.remove (handles_in table) fd) o → ⊥
none_besides table fd o none is =
    let was = remove_cases nat_cmp_total map.nat_cmp-IsAntisymmetric (handles_in table) fd is.0 is.1 is.2 in
    none is.0 is.1 (table_low table is.0 is.1 was.1) was.0 was.1 is.3

pub other_open : (handles : Handles) (fd other o : ℕ) → other ≢ fd → RefersTo handles other o → IsOpen (map.remove handles fd) o
other_open handles fd other o ne is = (other, is.0, get_removed nat_cmp_total map.nat_cmp-IsAntisymmetric handles fd other ne ∙ is.1, is.2)
