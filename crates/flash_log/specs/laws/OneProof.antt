-- There is at most one proof that pages are committed, so that a log can hold it as a fact.
use Rattle.std.specs.Prelude.{◌≡◌, ◌<◌, ◌≤◌, ℕ, ◌+◌, false, List}
use Rattle.std.proofs.Common.{sym, ◌∙◌, ap, subst, arith}
use mathlib.Core.HLevel.{Σ_prop_path}
use denote.Struct.Props.{props}
use Rattle.nand_model.specs.Flash.{Flash, Written}
use Rattle.page_tags.specs.declared.tag.Tag.{Tag}
use Rattle.page_tags.specs.Tags.{tag_bytes, IsTag}
use Rattle.flash_tree.specs.Groups.{HasTag, Group, IsPart, IsGroup}
use Rattle.flash_tree.specs.Newest.{Spot, Holds, IsNewest}
use Rattle.flash_tree.specs.laws.Newest.{one_tag}
use Rattle.chunk_index.specs.declared.form.CommittedPage.{CommittedPage}
use Rattle.chunk_index.specs.declared.index.Index.{Index}
use Rattle.chunk_index.specs.Maps.{CommittedMap, committed_pages}
use Rattle.flash_log.specs.Consistency.{IsCommittedAt, AreCommitted, KeepsOrdinary, IsWithinLimits, TablesAgree, IsConsistentLog}
use Rattle.nand_model.specs.Calls.{Device}
use Rattle.block_state.specs.Table.{Table}

abbrev tag_from : (f : Flash) (b p : ℕ) (t : Tag) → (bytes : List ℕ) × ((f.page b p ≡ Written bytes (tag_bytes t)) × IsTag t) → HasTag f b p t
tag_from f b p t s = record { bytes = s.0; page = s.1.0; valid = s.1.1 }

tag_prop : (f : Flash) (b p : ℕ) (t : Tag) → IsProp (HasTag f b p t)
tag_prop f b p t x y =
    let two : Written x.bytes (tag_bytes t) ≡ Written y.bytes (tag_bytes t) = sym x.page ∙ y.page in
    let same : x.bytes ≡ y.bytes = cc in
    ap (tag_from f b p t) (Σ_prop_path (λ (bytes : List ℕ). Prim.hlevel props) {u = (x.bytes, (x.page, x.valid))} {v = (y.bytes, (y.page, y.valid))} same)

abbrev part_from : (f : Flash) (g : Group) (i : ℕ) → (t : Tag) × (HasTag f g.block (g.start + i) t × (t.index ≡ i) × (t.count ≡ g.size) × (t.group ≡ g.number) × (t.seq ≡ g.seq)) → IsPart f g i
part_from f g i s = record { tag = s.0; has = s.1.0; index = s.1.1; count = s.1.2; group = s.1.3; seq = s.1.4 }

part_prop : (f : Flash) (g : Group) (i : ℕ) → IsProp (IsPart f g i)
part_prop f g i x y =
    ap (part_from f g i) (Σ_prop_path (λ (t : Tag). Prim.hlevel (props, tag_prop f g.block (g.start + i) t))
    {u = (x.tag, (x.has, x.index, x.count, x.group, x.seq))} {v = (y.tag, (y.has, y.index, y.count, y.group, y.seq))} (one_tag f g.block (g.start + i) x.tag y.tag x.has y.has))

group_prop : (f : Flash) (g : Group) → IsProp (IsGroup f g)
group_prop f g x y = λ k. record {
  good = let p : IsProp (f.bad g.block ≡ false) = Prim.hlevel props in p x.good y.good k;
  some = let p : IsProp (1 ≤ g.size) = Prim.hlevel props in p x.some y.some k;
  each = λ i lt. part_prop f g i (x.each i lt) (y.each i lt) k;
}

-- what is known of the group and the index of a page by its tag
record IsStated (s : Spot) (g : Group) (i : ℕ) : Type 0 where
  block : g.block ≡ s.block
  start : g.start + s.tag.index ≡ s.page
  size : g.size ≡ s.tag.count
  number : g.number ≡ s.tag.group
  seq : g.seq ≡ s.tag.seq
  index : i ≡ s.tag.index

reported : (f : Flash) (o c : ℕ) (s : Spot) (h : Holds f o c s) → IsStated s h.group h.index
reported f o c s h =
    let part : IsPart f h.group h.index = h.whole.each h.index h.within in
    let here : HasTag f h.group.block (h.group.start + h.index) s.tag = subst (λ n. HasTag f n (h.group.start + h.index) s.tag) h.block (subst (λ n. HasTag f s.block n s.tag) h.page h.has) in
    let same : part.tag ≡ s.tag = one_tag f _ _ part.tag s.tag part.has here in
    let index : h.index ≡ s.tag.index = sym part.index ∙ ap (λ (t : Tag). t.index) same in
    record {
      block = sym h.block;
      start = omega (arith, h.page, index);
      size = sym part.count ∙ ap (λ (t : Tag). t.count) same;
      number = sym part.group ∙ ap (λ (t : Tag). t.group) same;
      seq = sym part.seq ∙ ap (λ (t : Tag). t.seq) same;
      index = index;
    }

same_group : (s : Spot) (g h : Group) (i j : ℕ) → IsStated s g i → IsStated s h j → ◌≡◌ {A = Group × ℕ} (g, i) (h, j)
same_group s g h i j x y =
    let block : g.block ≡ h.block = x.block ∙ sym y.block in
    let start : g.start ≡ h.start = omega (arith, x.start, y.start) in
    let size : g.size ≡ h.size = x.size ∙ sym y.size in
    let number : g.number ≡ h.number = x.number ∙ sym y.number in
    let seq : g.seq ≡ h.seq = x.seq ∙ sym y.seq in
    let index : i ≡ j = x.index ∙ sym y.index in
    λ k. (record { block = block k; start = start k; size = size k; number = number k; seq = seq k }, index k)

module _ (f : Flash) (o c : ℕ) (s : Spot) where
  abbrev Rest : Group × ℕ → Type 0
  Rest d = IsGroup f d.0 × (d.1 < d.0.size) × (s.block ≡ d.0.block) × (s.page ≡ d.0.start + d.1) × HasTag f s.block s.page s.tag × (s.tag.object ≡ o) × (s.tag.chunk ≡ c)

  abbrev holds_from : (d : Group × ℕ) × Rest d → Holds f o c s
  holds_from r = record { group = r.0.0; whole = r.1.0; index = r.0.1; within = r.1.1; block = r.1.2; page = r.1.3; has = r.1.4; object = r.1.5; chunk = r.1.6 }

  holds_prop : IsProp (Holds f o c s)
  holds_prop x y =
      ap holds_from (Σ_prop_path (λ (d : Group × ℕ). let p : IsProp (Rest d) = Prim.hlevel (props, group_prop f d.0, tag_prop f s.block s.page s.tag) in p)
      {u = ((x.group, x.index), (x.whole, x.within, x.block, x.page, x.has, x.object, x.chunk))}
      {v = ((y.group, y.index), (y.whole, y.within, y.block, y.page, y.has, y.object, y.chunk))}
      (same_group s x.group y.group x.index y.index (reported f o c s x) (reported f o c s y)))

  pub newest_prop : IsProp (IsNewest f o c s)
  newest_prop x y = λ k. record {
    holds = holds_prop x.holds y.holds k;
    last = λ t h a. let p : IsProp ⊥ = Prim.hlevel props in p (x.last t h a) (y.last t h a) k;
  }

abbrev committed_from : (f : Flash) (o c : ℕ) (p : CommittedPage) → (t : Tag) × (IsNewest f o c (record { block = p.block; page = p.page; tag = t }) × (t.version ≡ p.version)) → IsCommittedAt f o c p
committed_from f o c p s = record { tag = s.0; newest = s.1.0; version = s.1.1 }

committed_prop : (f : Flash) (o c : ℕ) (p : CommittedPage) → IsProp (IsCommittedAt f o c p)
committed_prop f o c p x y =
    ap (committed_from f o c p) (Σ_prop_path (λ (t : Tag). Prim.hlevel (props, newest_prop f o c (record { block = p.block; page = p.page; tag = t })))
    {u = (x.tag, (x.newest, x.version))} {v = (y.tag, (y.newest, y.version))} (one_tag f p.block p.page x.tag y.tag x.newest.holds.has y.newest.holds.has))

pub are_committed_prop : (f : Flash) (m : CommittedMap) → IsProp (AreCommitted f m)
are_committed_prop f m x y = λ k o c p is. committed_prop f o c p (x o c p is) (y o c p is) k

pub consistent_prop : (spare : ℕ) (d : Device) (t : Table) (x : Index) → IsProp (IsConsistentLog spare d t x)
consistent_prop spare d t x a b = λ k. record {
  tables = let p : IsProp (TablesAgree spare t x) = Prim.hlevel props in p a.tables b.tables k;
  newest = λ honest power. are_committed_prop d.flash (committed_pages x) (a.newest honest power) (b.newest honest power) k;
  ordinary = λ honest. let p : IsProp (KeepsOrdinary x) = Prim.hlevel props in p (a.ordinary honest) (b.ordinary honest) k;
  limits = let p : IsProp (IsWithinLimits t) = Prim.hlevel props in p a.limits b.limits k;
}
