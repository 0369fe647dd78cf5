-- What is committed, and what of it a change or a commit leaves.
use Rattle.std.specs.Prelude.{◌≡◌, Option, Some, None}
use Rattle.std.specs.Option.{option_and_then}
use Rattle.std.proofs.Common.{refl, sym, ◌∙◌, ap}
use Rattle.nand_model.specs.Flash.{Flash, Written}
use Rattle.page_tags.specs.Tags.{tag_bytes}
use Rattle.flash_tree.specs.Groups.{HasTag}
use Rattle.flash_tree.specs.Newest.{HasNewest}
use Rattle.chunk_index.specs.declared.form.CommittedPage.{CommittedPage}
use Rattle.chunk_index.specs.declared.index.Index.{Index}
use Rattle.chunk_index.specs.Maps.{committed_pages}
use Rattle.flash_log.specs.Consistency.{IsCommittedAt, AreCommitted}
use Rattle.page_store.specs.Shown.{data_of, data_at, committed_data}
use Rattle.pages.specs.Stores.{Carries}

-- the flash carries what is committed
pub committed_carried : (f : Flash) (x : Index) → AreCommitted f (committed_pages x) → Carries f (committed_data x f)
committed_carried f x committed o c xs is = go (committed_pages x o c) refl
  where
    go : (m : Option CommittedPage) → committed_pages x o c ≡ m → HasNewest f o c xs
    go None none = absurd (let two : None ≡ Some xs = sym (ap (option_and_then (data_at f)) none) ∙ is in cc)
    go (Some p) there =
        let at : IsCommittedAt f o c p = committed o c p there in
        let has : HasTag f p.block p.page at.tag = at.newest.holds.has in
        let two : Some has.bytes ≡ Some xs = sym (ap data_of has.page) ∙ sym (ap (option_and_then (data_at f)) there) ∙ is in
        let same : has.bytes ≡ xs = cc in
        record {
          spot = record { block = p.block; page = p.page; tag = at.tag };
          newest = at.newest;
          stored = has.page ∙ ap (λ ys. Written ys (tag_bytes at.tag)) same;
        }
