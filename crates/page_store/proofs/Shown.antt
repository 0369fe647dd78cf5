-- What the cache shows after its calls.
use Rattle.std.specs.Prelude.{◌≡◌, ◌⊎◌, ◌<◌, ◌≤◌, ◌+◌, ℕ, zero, suc, List, [], ◌∷◌, ◌++◌, length, Option, Some, None, IsSome, option_and_then, slice_get}
use Rattle.std.proofs.Common.{refl, sym, ◌∙◌, ap, subst, inl, inr, is_some, arith}
use Rattle.std.proofs.lemmas.Bool.{cases_eq}
use Rattle.flash_tree.specs.declared.place.FreshPage.{FreshPage}
use Rattle.pages.specs.Maps.{PageMap, IsPageOf, IsCut}
use Rattle.pages.specs.declared.change.Cut.{Cut}
use Rattle.page_store.specs.Slots.{Held, Reserved, Page, page_in}
use Rattle.page_store.specs.Cached.{held, cached, held_count, capacity_of}
use Rattle.page_store.specs.Changes.{KeepsSizes, HasTheSame, IsOther, Changes, Puts, DropsFrom}
use Rattle.page_store.specs.declared.cache.PageCache.{PageCache}
use Rattle.page_store.specs.Caching.{Shows, HasNoMore, KeepsKeys}

pub sizes_on : (a b c : PageCache) → KeepsSizes a b → KeepsSizes b c → KeepsSizes a c
sizes_on a b c x y = record { page_bytes = y.page_bytes ∙ x.page_bytes; capacity = y.capacity ∙ x.capacity }

-- a key is this one or another
key_cases : (o c p q : ℕ) → ((p ≡ o) × (q ≡ c)) ⊎ IsOther o c p q
key_cases o c p q = elim (cases_eq p o) [
  | inr ne ↦ inr (λ same there. ne same)
  | inl a ↦ elim (cases_eq q c) [
    | inr ne ↦ inr (λ same there. ne there)
    | inl b ↦ inl (a, b)
  ]
]

cached_there : (cache : PageCache) (o c p q : ℕ) (h : Option Held) → (p ≡ o) × (q ≡ c) → held cache o c ≡ h → cached cache p q ≡ option_and_then page_in h
cached_there cache o c p q h at is = ap (λ n. cached cache n q) at.0 ∙ ap (λ n. cached cache o n) at.1 ∙ ap (option_and_then page_in) is

-- where there is nothing, nothing was found
nothing_is : {A : Type 0} (m : Option (List ℕ)) (xs : List ℕ) → m ≡ None → m ≡ Some xs → A
nothing_is m xs none is = absurd (let two : None ≡ Some xs = sym none ∙ is in cc)

-- a place that was made
pub fewer_placed : (o c : ℕ) (old new : PageCache) → Puts o c Reserved old new → HasNoMore old new
fewer_placed o c old new puts p q xs is = elim (key_cases o c p q) [
  | inl at ↦ nothing_is (cached new p q) xs (cached_there new o c p q (Some Reserved) at puts.here) is
  | inr other ↦ elim (puts.others p q other) [
    | inl same ↦ sym (ap (option_and_then page_in) same) ∙ is
    | inr none ↦ nothing_is (cached new p q) xs (ap (option_and_then page_in) none) is
  ]
]

pub fewer_same : (old new : PageCache) → HasTheSame old new → HasNoMore old new
fewer_same old new same p q xs is = sym (ap (option_and_then page_in) (same.each p q)) ∙ is

-- a place that a page left
module _ (o c : ℕ) (old new : PageCache) (vacated : IsSome (held old o c) → Changes o c (Some Reserved) old new) (nothing : held old o c ≡ None → HasTheSame old new) where
  pub sizes_vacated : KeepsSizes old new
  sizes_vacated = go (held old o c) refl
    where
      go : (h : Option Held) → held old o c ≡ h → KeepsSizes old new
      go None none = (nothing none).sizes
      go (Some h) some = (vacated (ap (λ (x : Option Held). is_some x) some)).sizes

  pub fewer_vacated : HasNoMore old new
  fewer_vacated p q xs is = go (held old o c) refl
    where
      go : (h : Option Held) → held old o c ≡ h → cached old p q ≡ Some xs
      go None none = fewer_same old new (nothing none) p q xs is
      go (Some h) some =
          let changes : Changes o c (Some Reserved) old new = vacated (ap (λ (x : Option Held). is_some x) some) in
          elim (key_cases o c p q) [
            | inl at ↦ nothing_is (cached new p q) xs (cached_there new o c p q (Some Reserved) at changes.here) is
            | inr other ↦ sym (ap (option_and_then page_in) (changes.others p q other)) ∙ is
          ]

  pub gone_vacated : cached new o c ≡ None
  gone_vacated = go (held old o c) refl
    where
      go : (h : Option Held) → held old o c ≡ h → cached new o c ≡ None
      go None none = ap (option_and_then page_in) ((nothing none).each o c ∙ none)
      go (Some h) some = ap (option_and_then page_in) (vacated (ap (λ (x : Option Held). is_some x) some)).here

  pub others_vacated : (p q : ℕ) → IsOther o c p q → held new p q ≡ held old p q
  others_vacated p q other = go (held old o c) refl
    where
      go : (h : Option Held) → held old o c ≡ h → held new p q ≡ held old p q
      go None none = (nothing none).each p q
      go (Some h) some = (vacated (ap (λ (x : Option Held). is_some x) some)).others p q other

  pub held_vacated : KeepsKeys old new
  held_vacated p q was = go (held old o c) refl
    where
      go : (h : Option Held) → held old o c ≡ h → IsSome (held new p q)
      go None none = ap (λ (x : Option Held). is_some x) ((nothing none).each p q) ∙ was
      go (Some h) some =
          let changes : Changes o c (Some Reserved) old new = vacated (ap (λ (x : Option Held). is_some x) some) in
          elim (key_cases o c p q) [
            | inl at ↦ ap (λ (x : Option Held). is_some x) (ap (λ n. held new n q) at.0 ∙ ap (λ n. held new o n) at.1 ∙ changes.here)
            | inr other ↦ ap (λ (x : Option Held). is_some x) (changes.others p q other) ∙ was
          ]

-- a key has its page or place still where something was put in room for it
pub held_put : (o c : ℕ) {h : Held} (old new : PageCache) → Puts o c h old new → IsSome (held old o c) ⊎ (held_count old < capacity_of old) → KeepsKeys old new
held_put o c old new puts room p q was = elim (key_cases o c p q) [
  | inl at ↦ ap (λ (x : Option Held). is_some x) (ap (λ n. held new n q) at.0 ∙ ap (λ n. held new o n) at.1 ∙ puts.here)
  | inr other ↦ ap (λ (x : Option Held). is_some x) (puts.room room p q other) ∙ was
]

pub fewer_dropped : (o c : ℕ) (old new : PageCache) → DropsFrom o c old new → HasNoMore old new
fewer_dropped o c old new drops p q xs is = go (held new p q) refl
  where
    go : (h : Option Held) → held new p q ≡ h → cached old p q ≡ Some xs
    go None none = nothing_is (cached new p q) xs (ap (option_and_then page_in) none) is
    go (Some h) there = sym (ap (option_and_then page_in) (drops.others p q (λ same le.
        let none : held new p q ≡ None = ap (λ n. held new n q) same ∙ drops.gone q le in
        absurd (let two : None ≡ Some h = sym none ∙ there in cc)))) ∙ is

-- what was not there is not there
pub lacks_on : (a b : PageCache) (o c : ℕ) → HasNoMore a b → cached a o c ≡ None → cached b o c ≡ None
lacks_on a b o c fewer none = go (cached b o c) refl
  where
    go : (m : Option (List ℕ)) → cached b o c ≡ m → m ≡ None
    go None is = refl
    go (Some xs) is = nothing_is (cached a o c) xs none (fewer o c xs is)

-- a page that is put in the place of its key
pub shows_exchanged : (o c : ℕ) (bytes : List ℕ) (old new : PageCache) (m : PageMap) → (IsSome (held old o c) → Changes o c (Some (Page bytes)) old new) → (held old o c ≡ None → HasTheSame old new)
    → m o c ≡ Some bytes → Shows old m → Shows new m
shows_exchanged o c bytes old new m taken given there shows p q xs is = go (held old o c) refl
  where
    go : (h : Option Held) → held old o c ≡ h → m p q ≡ Some xs
    go None none = shows p q xs (fewer_same old new (given none) p q xs is)
    go (Some h) some =
        let changes : Changes o c (Some (Page bytes)) old new = taken (ap (λ (x : Option Held). is_some x) some) in
        elim (key_cases o c p q) [
          | inl at ↦ ap (λ n. m n q) at.0 ∙ ap (λ n. m o n) at.1 ∙ there ∙ sym (cached_there new o c p q (Some (Page bytes)) at changes.here) ∙ is
          | inr other ↦ shows p q xs (sym (ap (option_and_then page_in) (changes.others p q other)) ∙ is)
        ]

-- what the cache has of keys after a page was put in the place of one
module _ (o c : ℕ) (bytes : List ℕ) (old new : PageCache) (taken : IsSome (held old o c) → Changes o c (Some (Page bytes)) old new) (given : held old o c ≡ None → HasTheSame old new) where
  pub held_exchanged : (p q : ℕ) → IsSome (held old p q) → IsSome (held new p q)
  held_exchanged p q was = go (held old o c) refl
    where
      go : (h : Option Held) → held old o c ≡ h → IsSome (held new p q)
      go None none = ap (λ (x : Option Held). is_some x) ((given none).each p q) ∙ was
      go (Some h) some =
          let changes : Changes o c (Some (Page bytes)) old new = taken (ap (λ (x : Option Held). is_some x) some) in
          elim (key_cases o c p q) [
            | inl at ↦ ap (λ (x : Option Held). is_some x) (ap (λ n. held new n q) at.0 ∙ ap (λ n. held new o n) at.1 ∙ changes.here)
            | inr other ↦ ap (λ (x : Option Held). is_some x) (changes.others p q other) ∙ was
          ]

  pub cached_exchanged : (p q : ℕ) → IsSome (cached old p q) → IsSome (cached new p q)
  cached_exchanged p q was = go (held old o c) refl
    where
      go : (h : Option Held) → held old o c ≡ h → IsSome (cached new p q)
      go None none = ap (λ (x : Option Held). is_some (option_and_then page_in x)) ((given none).each p q) ∙ was
      go (Some h) some =
          let changes : Changes o c (Some (Page bytes)) old new = taken (ap (λ (x : Option Held). is_some x) some) in
          elim (key_cases o c p q) [
            | inl at ↦ ap (λ (x : Option (List ℕ)). is_some x) (cached_there new o c p q (Some (Page bytes)) at changes.here)
            | inr other ↦ ap (λ (x : Option Held). is_some (option_and_then page_in x)) (changes.others p q other) ∙ was
          ]

  pub cached_here : IsSome (held old o c) → IsSome (cached new o c)
  cached_here there = ap (λ (x : Option Held). is_some (option_and_then page_in x)) (taken there).here

-- the pages of a list before its last one, and that one
pub get_before : (ps : List FreshPage) (p : FreshPage) (i : ℕ) → i < length ps → slice_get (ps ++ p ∷ []) i ≡ slice_get ps i
get_before [] p i lt = absurd (omega (arith, lt))
get_before (q ∷ ps) p zero lt = refl
get_before (q ∷ ps) p (suc i) lt = get_before ps p i (omega (arith, lt))

pub get_last : (ps : List FreshPage) (p : FreshPage) → slice_get (ps ++ p ∷ []) (length ps) ≡ Some p
get_last [] p = refl
get_last (q ∷ ps) p = get_last ps p

pub one_longer : (ps : List FreshPage) (p : FreshPage) → length (ps ++ p ∷ []) ≡ length ps + 1
one_longer [] p = refl
one_longer (q ∷ ps) p = let more = one_longer ps p in omega (arith, more)

-- what holds of each of the pages holds of the last and of those before it
module _ (P : FreshPage → Type 0) where
  pub all_first : (ps : List FreshPage) (p : FreshPage) → ((i : ℕ) (x : FreshPage) → slice_get (ps ++ p ∷ []) i ≡ Some x → P x) → (i : ℕ) (x : FreshPage) → slice_get ps i ≡ Some x → P x
  all_first [] p all i x is = absurd cc
  all_first (q ∷ ps) p all zero x is = all 0 x is
  all_first (q ∷ ps) p all (suc i) x is = all_first ps p (λ j y at. all (suc j) y at) i x is

  pub all_last : (ps : List FreshPage) (p : FreshPage) → ((i : ℕ) (x : FreshPage) → slice_get (ps ++ p ∷ []) i ≡ Some x → P x) → P p
  all_last [] p all = all 0 p refl
  all_last (q ∷ ps) p all = all_last ps p (λ j y at. all (suc j) y at)

-- the sizes of a cache after an exchange
pub sizes_exchanged : (o c : ℕ) (bytes : List ℕ) (old new : PageCache) → (IsSome (held old o c) → Changes o c (Some (Page bytes)) old new) → (held old o c ≡ None → HasTheSame old new) → KeepsSizes old new
sizes_exchanged o c bytes old new taken given = go (held old o c) refl
  where
    go : (h : Option Held) → held old o c ≡ h → KeepsSizes old new
    go None none = (given none).sizes
    go (Some h) some = (taken (ap (λ (x : Option Held). is_some x) some)).sizes

-- a key that the page at place i is of
pub lacks_page : (cache : PageCache) (pages : List FreshPage) (o c i : ℕ) (p : FreshPage) → IsPageOf pages o c i → slice_get pages i ≡ Some p → cached cache p.key.object p.key.chunk ≡ None → cached cache o c ≡ None
lacks_page cache pages o c i p of there none =
    let two : Some p ≡ Some of.page = sym there ∙ of.there in
    let one : p ≡ of.page = cc in
    ap (λ n. cached cache n c) (sym of.object ∙ ap (λ (x : FreshPage). x.key.object) (sym one))
    ∙ ap (λ n. cached cache p.key.object n) (sym of.chunk ∙ ap (λ (x : FreshPage). x.key.chunk) (sym one)) ∙ none

-- a key that the cut at place i takes
pub lacks_cut : (old new : PageCache) (cuts : List Cut) (o c i : ℕ) (x : Cut) → IsCut cuts o c i → slice_get cuts i ≡ Some x → DropsFrom x.object x.from old new → cached new o c ≡ None
lacks_cut old new cuts o c i x is there drops =
    let two : Some x ≡ Some is.cut = sym there ∙ is.there in
    let one : x ≡ is.cut = cc in
    ap (λ n. cached new n c) (sym is.object ∙ ap (λ (y : Cut). y.object) (sym one)) ∙ ap (option_and_then page_in) (drops.gone c (subst (λ (y : Cut). y.from ≤ c) (sym one) is.chunk))
