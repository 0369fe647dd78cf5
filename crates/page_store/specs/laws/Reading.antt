-- What reads of the device leave of the newest pages.
use Rattle.std.specs.Prelude.{◌≡◌, ◌⊎◌, ℕ, true, not, ◌||◌, List, Option, Some, None, IsSome, Result, Ok, Err, IfOk, IfErr, OnOk}
use Rattle.std.specs.Option.{option_and_then}
use Rattle.std.proofs.Common.{refl, sym, ◌∙◌, ap, subst, inl, inr, arith}
use Rattle.std.proofs.lemmas.Bool.{cases_Bool, or_left, or_right}
use Rattle.nand_model.specs.Flash.{Flash}
use Rattle.nand_model.specs.Calls.{Device}
use Rattle.nand_model.specs.Changes.{OnlyReads}
use Rattle.nand_model.specs.declared.geometry.Geometry.{Geometry}
use Rattle.flash_tree.specs.laws.Place.{same_flash}
use Rattle.chunk_index.specs.declared.form.CommittedPage.{CommittedPage}
use Rattle.chunk_index.specs.declared.index.Index.{Index}
use Rattle.chunk_index.specs.Maps.{CommittedMap, committed_pages}
use Rattle.page_store.specs.Shown.{data_at, committed_data}
use Rattle.pages.specs.Maps.{known_pages}
use Rattle.pages.specs.laws.Known.{known_same}
use Rattle.pages.specs.State.{FailsBy, FindsPage, OnlyFinds, PagesState}
use Rattle.pages.specs.declared.store.Presence.{Presence}
use Rattle.pages.specs.declared.store.Presence.TheVariants as presences
use Rattle.volume_terms.specs.declared.fault.StoreFault.{StoreFault}
use Rattle.volume_terms.specs.declared.fault.StoreFault.TheVariants as faults
use Rattle.page_store.specs.Newest.{seen_pages}

-- committed pages still have data
pub written_same : (a b : Device) (m : CommittedMap) → OnlyReads a b → (a.honest ≡ true → (o c : ℕ) (k : CommittedPage) → m o c ≡ Some k → IsSome (data_at a.flash k))
    → b.honest ≡ true → (o c : ℕ) (k : CommittedPage) → m o c ≡ Some k → IsSome (data_at b.flash k)
written_same a b m reads written honest o c k is =
    let before : a.honest ≡ true = sym reads.lasts.honest ∙ honest in
    subst (λ (f : Flash). IsSome (data_at f k)) (sym (same_flash a b reads before)) (written before o c k is)

-- a call that only reads the device only finds
pub finds_seen : (a b : Device) (x y : Index) (page page' : List ℕ) → OnlyReads a b → y ≡ x → OnlyFinds (seen_pages a x page) (seen_pages b y page')
finds_seen a b x y page page' reads index = record {
  page_bytes = ap (λ (g : Geometry). g.bytes) reads.lasts.geometry;
  most = refl;
  present = ap (λ i. known_pages b.honest (committed_data i b.flash)) index ∙ known_same a b (committed_data x) reads;
  committed = ap (λ i. known_pages b.honest (committed_data i b.flash)) index ∙ known_same a b (committed_data x) reads;
  in_buffer = refl;
  sound = reads.lasts.honest;
  failed = failed;
  refused = omega arith;
  commits = refl;
  issued = reads.lasts.reads;
  device = reads;
  next = refl;
  spare = refl;
  worn = refl;
  checkpoint = refl;
  first = refl;
} where
  failed : (a.gone || not a.honest) ≡ true → (b.gone || not b.honest) ≡ true
  failed is = elim (cases_Bool a.gone) [
    | inl gone ↦
        let same : b ≡ a = reads.lasts.gone gone in
        ap (λ (d : Device). d.gone || not d.honest) same ∙ is
    | inr powered ↦
        let rest : not a.honest ≡ true = sym (ap (λ w. w || not a.honest) powered) ∙ is in
        or_right b.gone (not b.honest) (ap not reads.lasts.honest ∙ rest)
  ]

-- a committed key has the page that is lent
pub committed_lent : (a : Device) (x : Index) (page : List ℕ) (o c : ℕ) (at : CommittedPage) (result : Result Presence StoreFault) → committed_pages x o c ≡ Some at → a.honest ≡ true
    → IfOk result (λ presence. presence ≡ presences.Present) → (a.honest ≡ true → OnOk result (data_at a.flash at ≡ Some page))
    → IfOk result (FindsPage (known_pages a.honest (committed_data x a.flash)) o c page)
committed_lent a x page o c at (Err fault) is honest there read = tt
committed_lent a x page o c at (Ok reported) is honest there read =
    subst (FindsPage (known_pages a.honest (committed_data x a.flash)) o c page) (sym there)
    (ap (λ h. known_pages h (committed_data x a.flash) o c) honest ∙ ap (option_and_then (data_at a.flash)) is ∙ read honest)

-- a key that is not committed has none
pub absent : (a : Device) (x : Index) (o c : ℕ) → committed_pages x o c ≡ None → a.honest ≡ true → known_pages a.honest (committed_data x a.flash) o c ≡ None
absent a x o c is honest = ap (λ h. known_pages h (committed_data x a.flash) o c) honest ∙ ap (option_and_then (data_at a.flash)) is

some_or_none : {A : Type 0} (m : Option A) → IsSome m → m ≡ None → ⊥
some_or_none None some is = absurd cc
some_or_none (Some x) some is = absurd cc

-- one that is committed has one
pub not_absent : (a : Device) (x : Index) (o c : ℕ) (at : CommittedPage) → committed_pages x o c ≡ Some at
    → (a.honest ≡ true → (o c : ℕ) (k : CommittedPage) → committed_pages x o c ≡ Some k → IsSome (data_at a.flash k))
    → a.honest ≡ true → known_pages a.honest (committed_data x a.flash) o c ≡ None → ⊥
not_absent a x o c at is written honest none =
    let here : known_pages a.honest (committed_data x a.flash) o c ≡ data_at a.flash at =
    ap (λ h. known_pages h (committed_data x a.flash) o c) honest ∙ ap (option_and_then (data_at a.flash)) is in
    some_or_none (data_at a.flash at) (written honest o c at is) (sym here ∙ none)

-- each fault has its cause
pub fault_seen : (old : PagesState) (a b : Device) (x y : Index) (page : List ℕ) (o c : ℕ) (at : CommittedPage) (result : Result Presence StoreFault) → OnlyReads a b → committed_pages x o c ≡ Some at
    → (a.honest ≡ true → (o c : ℕ) (k : CommittedPage) → committed_pages x o c ≡ Some k → IsSome (data_at a.flash k))
    → IfErr result (λ fault. (fault ≡ faults.Device) × ((b.gone ≡ true) ⊎ (a.honest ≡ true → data_at a.flash at ≡ None)))
    → IfErr result (FailsBy old (seen_pages b y page))
fault_seen old a b x y page o c at (Ok reported) reads is written why = tt
fault_seen old a b x y page o c at (Err fault) reads is written why =
    subst (FailsBy old (seen_pages b y page)) (sym why.0) (elim why.1 [
      | inl gone ↦ or_left b.gone (not b.honest) gone
      | inr none ↦ elim (cases_Bool a.honest) [
        | inl honest ↦ absurd (some_or_none (data_at a.flash at) (written honest o c at is) (none honest))
        | inr lies ↦ or_right b.gone (not b.honest) (ap not (reads.lasts.honest ∙ lies))
      ]
    ])
