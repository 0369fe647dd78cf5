-- What is reported of pages that are lent.
use Rattle.std.specs.Prelude.{◌≡◌, ◌⊎◌, ◌↔◌, ◌&&◌, ◌||◌, ◌≤◌, ◌+◌, ℕ, Bool, true, false, not, List, Option, Some, None, IsSome, IsTrue, is_some, Result, Ok, Err, IfErr}
use Rattle.std.specs.Option.{option_and_then}
use Rattle.std.proofs.Common.{refl, sym, ◌∙◌, ap, subst, inl, inr, arith}
use Rattle.std.proofs.lemmas.Bool.{cases_Bool, or_left, or_right}
use Rattle.nand_model.specs.Flash.{Flash}
use Rattle.nand_model.specs.Calls.{Device, kind_of, tag_of}
use Rattle.nand_model.specs.Changes.{OnlyReads}
use Rattle.nand_model.specs.declared.geometry.Geometry.{Geometry}
use Rattle.nand_model.specs.declared.nand.PageKind.{PageKind}
use Rattle.nand_model.specs.declared.nand.PageKind.TheVariants as page_kinds
use Rattle.flash_tree.specs.declared.place.Key.{Key}
use Rattle.flash_tree.specs.Mount.{sizes_of}
use Rattle.flash_tree.specs.laws.Place.{same_flash}
use Rattle.flash_log.specs.Consistency.{IsCommittedAt, AreCommitted}
use Rattle.chunk_index.specs.declared.form.CommittedPage.{CommittedPage}
use Rattle.chunk_index.specs.declared.index.Index.{Index}
use Rattle.chunk_index.specs.Maps.{committed_pages}
use Rattle.page_store.specs.Shown.{data_of, data_at, committed_data}
use Rattle.pages.specs.Maps.{PageMap, known_pages}
use Rattle.pages.specs.State.{FailsBy, OnlyFinds, PagesState}
use Rattle.pages.specs.declared.store.Presence.{Presence}
use Rattle.tree_walk.specs.Trees.{tree_pages}
use Rattle.tree_walk.specs.declared.tree.Tree.{Tree}
use Rattle.nand_model.specs.Trusting.{trusted_as}
use Rattle.nand_model.specs.laws.Trusted.{honest_of}
use Rattle.page_store.specs.laws.Reading.{finds_seen}
use Rattle.volume_terms.specs.declared.fault.StoreFault.{StoreFault}
use Rattle.volume_terms.specs.declared.fault.StoreFault.TheVariants as faults
use Rattle.mounting.specs.Lending.{TrustsCommitted, IsTagOf, lent}
use Rattle.mounting.specs.Reads.{ReadsThrough}

-- a device that is only read is so as it is trusted
pub reads_trusted : (reported : Bool) (a b : Device) → OnlyReads a b → OnlyReads (trusted_as reported a) (trusted_as reported b)
reads_trusted reported a b reads = record {
  lasts = record {
    geometry = reads.lasts.geometry;
    honest = ap (λ h. h && reported) reads.lasts.honest;
    honest_itself = reads.lasts.honest_itself;
    cuts = reads.lasts.cuts;
    failures = reads.lasts.failures;
    changes = reads.lasts.changes;
    reads = reads.lasts.reads;
    marks = reads.lasts.marks;
    gone = λ is. ap (trusted_as reported) (reads.lasts.gone is);
    goes = reads.lasts.goes;
    ends = reads.lasts.ends;
    once = reads.lasts.once;
    steady = reads.lasts.steady;
  };
  failures = reads.failures;
  changes = reads.changes;
  bad = reads.bad;
  next = reads.next;
  page = λ both. reads.page (honest_of a.honest reported both);
}

-- the data of a page that is committed there
committed_data_there : (a : Device) (x : Index) (o c : ℕ) (at : CommittedPage) → committed_pages x o c ≡ Some at → IsCommittedAt a.flash o c at → (xs : List ℕ) × (committed_data x a.flash o c ≡ Some xs)
committed_data_there a x o c at is committed = (committed.newest.holds.has.bytes, ap (option_and_then (data_at a.flash)) is ∙ ap data_of committed.newest.holds.has.page)

-- one that is committed is not reported to be absent
pub not_absent_lent : (reported : Bool) (a : Device) (x : Index) (o c : ℕ) (at : CommittedPage) → committed_pages x o c ≡ Some at → TrustsCommitted a reported x → (a.honest && reported) ≡ true
    → known_pages (a.honest && reported) (committed_data x a.flash) o c ≡ None → ⊥
not_absent_lent reported a x o c at is committed both none =
    let there = committed_data_there a x o c at is (committed both o c at is) in
    let two : None ≡ Some there.0 = sym none ∙ ap (λ h. known_pages h (committed_data x a.flash) o c) both ∙ there.1 in
    absurd cc

-- a key has a page exactly where it is committed
pub has_lent : (reported : Bool) (a : Device) (x : Index) (o c : ℕ) (m : Option CommittedPage) (result : Bool) → result ≡ is_some m → m ≡ committed_pages x o c → TrustsCommitted a reported x → (a.honest && reported) ≡ true
    → IsTrue result ↔ IsSome (known_pages (a.honest && reported) (committed_data x a.flash) o c)
has_lent reported a x o c m result same at committed both =
    let known : committed_data x a.flash o c ≡ known_pages (a.honest && reported) (committed_data x a.flash) o c = sym (ap (λ h. known_pages h (committed_data x a.flash) o c) both) in
    let here = go m at in (
      λ yes'. subst (λ (n : Option (List ℕ)). IsSome n) known (here.0 (subst (λ b. IsTrue b) same yes')),
      λ some. subst (λ b. IsTrue b) (sym same) (here.1 (subst (λ (n : Option (List ℕ)). IsSome n) (sym known) some)),
    )
  where
    go : (m : Option CommittedPage) → m ≡ committed_pages x o c → IsTrue (is_some m) ↔ IsSome (committed_data x a.flash o c)
    go None at = (
      λ no'. absurd cc,
      λ some.
          let none : committed_data x a.flash o c ≡ None = ap (option_and_then (data_at a.flash)) (sym at) in
          let no' : IsSome {T = List ℕ} None = subst (λ (n : Option (List ℕ)). IsSome n) none some in
          absurd cc,
    )
    go (Some k) at =
        let there = committed_data_there a x o c k (sym at) (committed both o c k (sym at)) in
        (λ _. subst (λ (n : Option (List ℕ)). IsSome n) (sym there.1) refl, λ _. refl)

-- what is said of the pages that are lent is said of those of the device
pub said_of : (R : Geometry → PageMap → Type 0) (reported reported' : Bool) (d a : Device) (x y : Index) (g : Geometry) → a ≡ d → y ≡ x → reported' ≡ reported → g ≡ d.geometry
    → ((a.honest && reported') ≡ true → g.bytes ≡ a.geometry.bytes → R g (known_pages (a.honest && reported') (committed_data y a.flash)))
    → (d.honest && reported) ≡ true → R d.geometry (committed_data x d.flash)
said_of R reported reported' d a x y g same index trusted geometry said both =
    let here : (a.honest && reported') ≡ true = ap (λ t. a.honest && t) trusted ∙ ap (λ (k : Device). k.honest && reported) same ∙ both in
    let sizes : g.bytes ≡ a.geometry.bytes = ap (λ (k : Geometry). k.bytes) geometry ∙ sym (ap (λ (k : Device). k.geometry.bytes) same) in
    let known = subst (R g) (ap (λ h. known_pages h (committed_data y a.flash)) here) (said here sizes) in
    subst (λ (k : Geometry). R k (committed_data x d.flash)) geometry
    (subst (λ (i : Index). R g (committed_data i d.flash)) index (subst (λ (k : Device). R g (committed_data y k.flash)) same known))

-- ---- the tag of a page that is read

-- ---- how many pages were read

-- as many as were looked up
pub few_lent : (reported reported' : Bool) (d a b back : Device) (g : Geometry) (spare : ℕ) (tree : Tree) → a ≡ d → reported' ≡ reported → g ≡ d.geometry → back ≡ b
    → ((a.honest && reported') ≡ true → g.bytes ≡ a.geometry.bytes → b.reads ≤ a.reads + tree_pages (sizes_of g spare) tree) → (d.honest && reported) ≡ true → ReadsThrough d back spare tree
few_lent reported reported' d a b back g spare tree same trusted geometry given issued both =
    let here : (a.honest && reported') ≡ true = ap (λ t. a.honest && t) trusted ∙ ap (λ (k : Device). k.honest && reported) same ∙ both in
    let sizes : g.bytes ≡ a.geometry.bytes = ap (λ (k : Geometry). k.bytes) geometry ∙ sym (ap (λ (k : Device). k.geometry.bytes) same) in
    let within_limit = issued here sizes in
    let pages : tree_pages (sizes_of g spare) tree ≡ tree_pages (sizes_of d.geometry spare) tree = ap (λ (k : Geometry). tree_pages (sizes_of k spare) tree) geometry in
    let before : a.reads ≡ d.reads = ap (λ (k : Device). k.reads) same in
    let after : back.reads ≡ b.reads = ap (λ (k : Device). k.reads) given in
    omega (arith, within_limit, pages, before, after)
