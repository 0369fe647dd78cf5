-- Of a list that was gone through wholly it can be decided whether a directory is named twice.
use Rattle.std.specs.Prelude.{◌≡◌, ◌≢◌, ◌⊎◌, ℕ, zero, suc, List, [], ◌∷◌, length, slice_get, Some, None}
use Rattle.std.proofs.Common.{refl, sym, ◌∙◌, ap, subst, inl, inr, arith}
use Rattle.std.proofs.lemmas.Bool.{cases_eq}
use Rattle.std.proofs.lemmas.Option.{slice_get_within}
use Rattle.page_tags.specs.Headers.{Fields}
use Rattle.page_tags.specs.Slots.{Entry}
use Rattle.page_tags.specs.declared.header.HeaderFault.{HeaderFault}
use Rattle.page_tags.specs.declared.header.ObjectKind.{ObjectKind}
use Rattle.page_tags.specs.declared.header.ObjectKind.TheVariants as kinds
use Rattle.volume_terms.specs.Sizes.{Sizes}
use Rattle.volume_terms.specs.laws.List.{slice_get_there}
use Rattle.flash_tree.specs.Tree.{NewestMap, IsSingle, HasHeader, SlotIs}
use Rattle.flash_tree.specs.laws.OneTree.{one_slot}
use Rattle.flash_tree.specs.Mount.{HasNone, HasHeaderFault, AreSlots, IsSlotIn, NamesTwice}
use Rattle.flash_tree.specs.laws.Finding.{same_header, kinds_apart, header_no_fault}
use Rattle.flash_tree.specs.Tree.{IsPageSize}
use Rattle.flash_tree.proofs.FindingExists.{listed}
use Rattle.flash_tree.specs.laws.NewestExists.{IsStated}
use Rattle.flash_tree.specs.laws.WholeList.{IsWholeList, IsThereOn}

-- one of the list is so
abbrev pub IsFound : {A : Type 0} → List A → (ℕ → A → Type 0) → Type 0
IsFound {A} xs Q = (i : ℕ) × (x : A) × (slice_get xs i ≡ Some x) × Q i x

-- and whether one is can be decided, where it can be decided of each
pub found_reported : {A : Type 0} (xs : List A) (Q : ℕ → A → Type 0) → ((i : ℕ) (x : A) → IsStated (Q i x)) → IsStated (IsFound xs Q)
found_reported [] Q reported = inr (λ f. let two : None ≡ Some f.1 = f.2 in cc)
found_reported {A} (x ∷ xs) Q reported = elim (reported zero x) [
  | inl is ↦ inl (zero, x, refl, is)
  | inr not ↦ elim (found_reported xs (λ i. Q (suc i)) (λ i. reported (suc i))) [
    | inl f ↦ inl (suc f.0, f.1, f.2, f.3)
    | inr none ↦ inr (λ f. neither not none f.0 f.1 f.2 f.3)
  ]
] where
  neither : (Q zero x → ⊥) → (IsFound xs (λ i. Q (suc i)) → ⊥) → (i : ℕ) (y : A) → slice_get (x ∷ xs) i ≡ Some y → Q i y → ⊥
  neither not none zero y is q = let same : x ≡ y = cc in not (subst (Q zero) (sym same) q)
  neither not none (suc i) y is q = none (i, y, is, q)

-- both of two facts
pub both_reported : (P Q : Type 0) → IsStated P → IsStated Q → IsStated (P × Q)
both_reported P Q (inl p) (inl q) = inl (p, q)
both_reported P Q (inl p) (inr not) = inr (λ x. not x.1)
both_reported P Q (inr not) q = inr (λ x. not x.0)

-- numbers that differ
pub apart_reported : (a b : ℕ) → IsStated (a ≢ b)
apart_reported a b = elim (cases_eq a b) [ inl same ↦ inr (λ ne. ne same) | inr ne ↦ inl ne ]

pub same_reported : (a b : ℕ) → IsStated (a ≡ b)
same_reported a b = elim (cases_eq a b) [ inl same ↦ inl same | inr ne ↦ inr ne ]

-- one or the other
pub either_reported : (P Q : Type 0) → IsStated P → IsStated Q → IsStated (P ⊎ Q)
either_reported P Q (inl p) q = inl (inl p)
either_reported P Q (inr not) (inl q) = inl (inr q)
either_reported P Q (inr not) (inr nor) = inr (λ x. elim x [ inl p ↦ not p | inr q ↦ nor q ])

module _ (z : Sizes) (size : IsPageSize z.page_bytes) (m : NewestMap) (single : IsSingle m)
    (header : (o : ℕ) → HasNone m o 0 ⊎ ((fault : HeaderFault) × HasHeaderFault m o fault) ⊎ ((f : Fields) × HasHeader z m o f))
    (first : ℕ) (list : List ℕ) (whole : IsWholeList z m first list) where
  -- the object has a directory's header
  abbrev IsDirectoryAt : ℕ → Type 0
  IsDirectoryAt o = (f : Fields) × HasHeader z m o f × (f.kind ≡ kinds.Directory)

  directory_reported : (o : ℕ) → IsStated (IsDirectoryAt o)
  directory_reported o = elim (header o) [
    | inl none ↦ inr (λ (f, has, kind). none _ has.0)
    | inr (inl (fault, faulty)) ↦ inr (λ (f, has, kind). header_no_fault z size m single o f fault has faulty)
    | inr (inr (f, has)) ↦ go f has f.kind refl
  ] where
    go : (f : Fields) → HasHeader z m o f → (kind : ObjectKind) → f.kind ≡ kind → IsStated (IsDirectoryAt o)
    go f has kinds.File is = inr (λ (g, has', kind). kinds_apart z size m single o f g has has' is kind)
    go f has kinds.Directory is = inl (f, has, is)

  -- an object of the list with its slots, a file with none
  abbrev HasSlots : ℕ × List Entry → Type 0
  HasSlots e = ((f : Fields) × HasHeader z m e.0 f × (f.kind ≡ kinds.Directory) × AreSlots z m e.0 f.length e.1)
      ⊎ ((e.1 ≡ []) × ((f : Fields) × HasHeader z m e.0 f × (f.kind ≡ kinds.File)))

  slots_of : (o : ℕ) → IsThereOn z m first list o → (slots : List Entry) × HasSlots (o, slots)
  slots_of o (named, inl (f, has, kind, chunks, none), on) = ([], inr (refl, (f, has, kind)))
  slots_of o (named, inr (f, has, kind, slots, are, is), on) = (slots, inl (f, has, kind, are))

  -- all of them
  directories : (es : List (ℕ × List Entry)) × (length es ≡ length list) × ((i : ℕ) (e : ℕ × List Entry) → slice_get es i ≡ Some e → (slice_get list i ≡ Some e.0) × HasSlots e)
  directories = listed (λ i (e : ℕ × List Entry). (slice_get list i ≡ Some e.0) × HasSlots e) (length list) (λ i lt.
      let at = slice_get_there list i lt in
      let s = slots_of at.0 (whole.there i at.0 at.1) in
      ((at.0, s.0), (at.1, s.1)))

  -- two slots, at other places, lead to one directory
  abbrev Meets : ℕ → ℕ → Entry → ℕ → ℕ → Entry → Type 0
  Meets k i a l j b = (a.object ≡ b.object) × (((k ≢ l) ⊎ (i ≢ j)) × IsDirectoryAt b.object)

  abbrev IsTwice : Type 0
  IsTwice = IsFound directories.0 (λ k d. IsFound d.1 (λ i a. IsFound directories.0 (λ l e. IsFound e.1 (λ j b. Meets k i a l j b))))

  is_twice_reported : IsStated IsTwice
  is_twice_reported = found_reported directories.0 _ (λ k d. found_reported d.1 _ (λ i a. found_reported directories.0 _ (λ l e. found_reported e.1 _ (λ j b.
      both_reported _ _ (same_reported a.object b.object) (both_reported _ _ (either_reported _ _ (apart_reported k l) (apart_reported i j)) (directory_reported b.object))))))

  -- a slot among them is one of the list's
  slot_in : (k : ℕ) (d : ℕ × List Entry) → slice_get directories.0 k ≡ Some d → (i : ℕ) (a : Entry) → slice_get d.1 i ≡ Some a → IsSlotIn z m list d.0 i a
  slot_in k d at i a is = go (directories.2 k d at).0 (directories.2 k d at).1 where
    go : slice_get list k ≡ Some d.0 → HasSlots d → IsSlotIn z m list d.0 i a
    go listed_at (inl (f, has, kind, are)) = record { place = k; listed = listed_at; fields = f; has = has; kind = kind; within = omega (arith, are.size, slice_get_within d.1 i a is); slot = are.each i a is }
    go listed_at (inr (none, file)) = let two : None ≡ Some a = ap (λ xs. slice_get xs i) (sym none) ∙ is in absurd cc

  -- and a slot of the list's is among them
  in_slots : (d i : ℕ) (a : Entry) (s : IsSlotIn z m list d i a) → (e : ℕ × List Entry) × (slice_get directories.0 s.place ≡ Some e) × (e.0 ≡ d) × (slice_get e.1 i ≡ Some a)
  in_slots d i a s =
      let e = slice_get_there directories.0 s.place (let within = slice_get_within list s.place d s.listed in omega (arith, directories.1)) in
      let of = directories.2 s.place e.0 e.1 in
      let two : Some e.0.0 ≡ Some d = sym of.0 ∙ s.listed in
      let same : e.0.0 ≡ d = cc in
      (e.0, e.1, same, go e.0 same of.1)
    where
      go : (e : ℕ × List Entry) → e.0 ≡ d → HasSlots e → slice_get e.1 i ≡ Some a
      go e same (inr (none, (f, has, kind))) = absurd (kinds_apart z size m single d f s.fields (subst (λ o. HasHeader z m o f) same has) s.has kind s.kind)
      go e same (inl (f, has, kind, are)) =
          let fields : f ≡ s.fields = same_header z size m single d f s.fields (subst (λ o. HasHeader z m o f) same has) s.has in
          let len : f.length ≡ s.fields.length = ap (λ (x : Fields). x.length) fields in
          let within = s.within in
          let at = slice_get_there e.1 i (omega (arith, are.size, len)) in
          let slot : SlotIs z m d i at.0 = subst (λ o. SlotIs z m o i at.0) same (are.each i at.0 at.1) in
          at.1 ∙ ap Some (one_slot z size.most m single d i at.0 a slot s.slot)

  twice_names : IsTwice → NamesTwice z m list
  twice_names (k, d, at, (i, a, is, (l, e, at', (j, b, is', (object, (apart, (f, has, kind))))))) = record {
    named = b.object;
    fields = f;
    has = has;
    kind = kind;
    directory = d.0;
    other = e.0;
    i = i;
    j = j;
    entry = a;
    other_entry = b;
    first = slot_in k d at i a is;
    second = slot_in l e at' j b is';
    leads = object;
    other_leads = refl;
    apart = elim apart [
      | inl places ↦ inl (λ same. places (whole.once k l d.0 (directories.2 k d at).0 ((directories.2 l e at').0 ∙ ap Some (sym same))))
      | inr slots ↦ inr slots
    ];
  }

  names_twice : NamesTwice z m list → IsTwice
  names_twice t =
      let d = in_slots t.directory t.i t.entry t.first in
      let e = in_slots t.other t.j t.other_entry t.second in
      let apart : (t.first.place ≢ t.second.place) ⊎ (t.i ≢ t.j) = elim t.apart [
        | inl directories_apart ↦ inl (λ same.
            let two : Some t.directory ≡ Some t.other = sym t.first.listed ∙ ap (slice_get list) same ∙ t.second.listed in
            let one : t.directory ≡ t.other = cc in
            directories_apart one)
        | inr slots ↦ inr slots
      ] in
      let meets : Meets t.first.place t.i t.entry t.second.place t.j t.other_entry =
      (t.leads ∙ sym t.other_leads, (apart, subst IsDirectoryAt (sym t.other_leads) (t.fields, t.has, t.kind))) in
      (t.first.place, d.0, d.1, (t.i, t.entry, d.3, (t.second.place, e.0, e.1, (t.j, t.other_entry, e.3, meets))))

  -- whether a directory is named twice
  pub twice_reported : IsStated (NamesTwice z m list)
  twice_reported = elim is_twice_reported [ inl is ↦ inl (twice_names is) | inr not ↦ inr (λ t. not (names_twice t)) ]
