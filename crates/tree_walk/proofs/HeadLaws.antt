-- What is reported of a header is true of the object that is shown.
use Rattle.std.specs.Prelude.{◌≡◌, ◌<◌, ℕ, ◌+◌, length}
use Rattle.std.proofs.Common.{sym, ◌∙◌, ap}
use Rattle.std.specs.FinMap as map
use Rattle.page_tags.specs.Headers.{Fields}
use Rattle.page_tags.specs.declared.header.ObjectKind.TheVariants as kinds
use Rattle.volume_terms.specs.Sizes.{Sizes, page_slots}
use Rattle.posix_profile.specs.State.{Object, File, Dir}
use Rattle.posix_profile.specs.Charge.{cost}
use Rattle.volume_terms.specs.laws.Rounding.{ceiling_is}
use Rattle.flash_tree.specs.Tree.{NewestMap, IsSingle, IsPageSize, ReadsAs}
use Rattle.flash_tree.specs.laws.Finding.{same_header}
use Rattle.flash_tree.specs.laws.SlotCounts.{entries_len}
use Rattle.tree_walk.specs.Heads.{SaysHead}
use Rattle.tree_walk.specs.declared.head.Head.{Head}
use Rattle.tree_walk.specs.Visits.{head_pages}
use Rattle.tree_walk.specs.Looked.{looked}
use Rattle.tree_walk.specs.Units.{head_cost}

-- ---- heads and objects

-- the header is that of the object: its kind, its moment, and its bytes or entries
abbrev pub IsHeaderOfObject : Head → Object → Type 0
IsHeaderOfObject head (File moment bytes) = (head.kind ≡ kinds.File) × (head.moment ≡ moment) × (head.length ≡ length bytes)
IsHeaderOfObject head (Dir moment entries) = (head.kind ≡ kinds.Directory) × (head.moment ≡ moment) × (head.length ≡ map.len entries)

pub said : (z : Sizes) (size : IsPageSize z.page_bytes) (m : NewestMap) (single : IsSingle m) (o : ℕ) (head : Head) (x : Object) → SaysHead z m o head → ReadsAs z m o x → IsHeaderOfObject head x
said z size m single o head (File moment bytes) (f, has, is) r =
    let same : f ≡ r.fields = same_header z size m single o f r.fields has r.has in (
      is.kind ∙ ap (λ (x : Fields). x.kind) same ∙ r.kind,
      is.moment ∙ ap (λ (x : Fields). x.moment) same ∙ r.when,
      is.length_is ∙ ap (λ (x : Fields). x.length) same ∙ r.size,
    )
said z size m single o head (Dir moment entries) (f, has, is) r =
    let same : f ≡ r.fields = same_header z size m single o f r.fields has r.has in (
      is.kind ∙ ap (λ (x : Fields). x.kind) same ∙ r.kind,
      is.moment ∙ ap (λ (x : Fields). x.moment) same ∙ r.when,
      is.length_is ∙ ap (λ (x : Fields). x.length) same ∙ r.size ∙ sym (entries_len r.slots r.once) ∙ ap map.len (sym r.entries_are),
    )

-- so it reports what the object costs
pub costs_as : (z : Sizes) (head : Head) (x : Object) → IsHeaderOfObject head x → head_cost z head ≡ cost z x
costs_as z head (File moment bytes) is = ap (λ k. head_cost z (record head { kind = k })) is.0 ∙ ap (λ n. head_cost z (record head { kind = kinds.File; length = n })) is.2
costs_as z head (Dir moment entries) is = ap (λ k. head_cost z (record head { kind = k })) is.0 ∙ ap (λ n. head_cost z (record head { kind = kinds.Directory; length = n })) is.2

-- and how many pages are looked up to see it
pub looks_as : (z : Sizes) (head : Head) (x : Object) → 0 < page_slots z → IsHeaderOfObject head x → head_pages z head ≡ looked z x
looks_as z head (File moment bytes) some is = ap (λ k. head_pages z (record head { kind = k })) is.0
looks_as z head (Dir moment entries) some is =
    ap (λ k. head_pages z (record head { kind = k })) is.0 ∙ ap (λ n. head_pages z (record head { kind = kinds.Directory; length = n })) is.2
    ∙ ap (λ n. 1 + n) (ceiling_is (map.len entries) (page_slots z) some)
