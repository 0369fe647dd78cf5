-- What the writing of a block summary promises.
use Rattle.std.specs.Prelude.{◌≡◌, ◌<◌, ℕ, ◌+◌, true, Some}
use Rattle.nand_model.specs.Calls.{Device}
use Rattle.flash_tree.specs.Slots.{check_object}
use Rattle.flash_tree.specs.Summaries.{summary_chunk, Summary, summary_page, HasSummaryForm}
use Rattle.flash_tree.specs.Summarizing.{AddsSummary, ListsBlock}
use Rattle.block_state.specs.Table.{Table}
use Rattle.transactions.specs.declared.source.PageSource.{Ghosts}

-- The source has the pages of a block summary, with which the open block begins, and which lists a block that was allocated before, as
-- that is on the flash.
pub record WritesSummary {T : Type 0} (pages : Ghosts T) (source : T) (d : Device) (t : Table) : Type 0 where
  pub summary : Summary
  pub open_block : t.open_block ≡ Some summary.block
  pub first : (t.entry summary.block).next ≡ 0
  pub number : summary.number ≡ t.next_group
  pub seq : summary.seq ≡ (t.entry summary.block).seq
  pub size : summary.size ≡ pages.count source
  pub form : HasSummaryForm d.geometry summary
  pub names : (i : ℕ) → i < pages.count source → pages.name source t.next_group i ≡ record { key = record { object = check_object; chunk = summary_chunk + i }; version = t.next_group }
  pub bytes : (i : ℕ) → i < pages.count source → pages.bytes source d.flash i ≡ summary_page d.geometry.bytes summary i
  pub lists : ListsBlock d.flash summary

-- on an honest device the group that is added, if one is, is that of the summary whose pages the source has
abbrev pub AddsItsSummary : {T : Type 0} → Ghosts T → T → Device → Table → Device → Type 0
AddsItsSummary pages source old t new = old.honest ≡ true → (writes : WritesSummary pages source old t) → AddsSummary old.geometry old.flash new.flash writes.summary
