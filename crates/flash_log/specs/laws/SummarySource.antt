-- A group of the pages of a summary is a whole summary.
use Rattle.std.specs.Prelude.{◌≡◌, ◌<◌, ℕ, ◌+◌, ◌*◌, take, drop}
use Rattle.std.proofs.Common.{refl, subst, inr}
use Rattle.nand_model.specs.Flash.{Flash, Written}
use Rattle.nand_model.specs.declared.geometry.Geometry.{Geometry}
use Rattle.page_tags.specs.Summaries.{summary_bytes}
use Rattle.page_tags.specs.Tags.{tag_bytes, IsTag}
use Rattle.page_tags.specs.declared.tag.Tag.{Tag}
use Rattle.flash_tree.specs.Groups.{Group, IsGroup}
use Rattle.flash_tree.specs.Slots.{check_object}
use Rattle.flash_tree.specs.Summaries.{IsWholeSummary, summary_chunk}
use Rattle.flash_log.specs.SummarySource.{AddsSummaryPages, summary_in}
use Rattle.flash_log.specs.declared.summary_source.SummarySource.{SummarySource}

module _ (s : SummarySource) (g : Geometry) (group : Group) (old new : Flash) (adds : AddsSummaryPages s g group old new) where
  whole : IsGroup new group
  whole = (adds.adds.group group).1 (inr refl)

  abbrev tag : ℕ → ℕ → Tag
  tag size i = record { index = i; count = size; object = check_object; chunk = summary_chunk + i; version = group.number; group = group.number; seq = group.seq }

  -- so many pages from a place on are those of the summary, with d bytes of data each
  abbrev AreThere : (start size d : ℕ) → Type 0
  AreThere start size d =
      (i : ℕ) → i < size → (new.page group.block (start + i) ≡ Written (take d (drop (i * d) (summary_bytes (s.pages * d) s.head s.entries.now))) (tag_bytes (tag size i))) × IsTag (tag size i)

  pub written_whole : IsWholeSummary g new (summary_in group s)
  written_whole = record {
    good = whole.good;
    form = adds.form;
    pages = subst (λ (n : ℕ). AreThere n s.pages g.bytes) adds.start (subst (λ (n : ℕ). AreThere group.start n g.bytes) adds.size
        (subst (λ (h : Geometry). AreThere group.start group.size h.bytes) adds.can.geometry adds.adds.pages));
  }
