-- What becomes of committed pages and of their data.
use Rattle.std.proofs.Common.{◌≡◌, ℕ, List, subst, ◌∙◌}
use Rattle.nand_model.specs.Flash.{Flash}
use Rattle.page_tags.specs.declared.tag.Tag.{Tag}
use Rattle.flash_tree.specs.Keeping.{StaysNewest}
use Rattle.flash_tree.specs.Newest.{Spot}
use Rattle.flash_tree.specs.laws.Newest.{one_spot}
use Rattle.block_state.specs.Table.{Table}
use Rattle.chunk_index.specs.declared.form.CommittedPage.{CommittedPage}
use Rattle.flash_log.specs.Copying.{KeepsCommittedAt, KeepsDataAt}
use Rattle.flash_log.specs.Passing.{KeepsCommitted}
use Rattle.flash_log.specs.Consistency.{IsCommittedAt, HasVersion}

-- the place of a committed page, with its tag
abbrev pub spot_of : CommittedPage → Tag → Spot
spot_of p t = record { block = p.block; page = p.page; tag = t }

module _ (old new : Flash) where
  -- a committed page that stays the newest is committed
  pub committed_stays : (o c : ℕ) (p : CommittedPage) (at : IsCommittedAt old o c p) → StaysNewest old new o c (spot_of p at.tag) → IsCommittedAt new o c p
  committed_stays o c p at stays = record { tag = at.tag; newest = stays.newest; version = at.version }

  -- and whatever is its data stays so
  pub data_stays : (o c : ℕ) (p : CommittedPage) (bytes : List ℕ) (at : IsCommittedAt old o c p) → HasVersion old o c p.version bytes
      → StaysNewest old new o c (spot_of p at.tag) → HasVersion new o c p.version bytes
  data_stays o c p bytes at has stays =
      let same : spot_of p at.tag ≡ has.spot = one_spot old o c (spot_of p at.tag) has.spot at.newest has.newest in
      let here : StaysNewest old new o c has.spot = subst (StaysNewest old new o c) same stays in
      record { spot = has.spot; newest = here.newest; version_is = has.version_is; stored = here.page ∙ has.stored }

  pub committed_where : (t : Table) → KeepsCommitted t old new → KeepsCommittedAt t old new
  committed_where t keeps o c p some at = committed_stays o c p at (keeps o c (spot_of p at.tag) at.newest some)

  pub data_where : (t : Table) → KeepsCommitted t old new → KeepsDataAt t old new
  data_where t keeps o c p bytes some at has = data_stays o c p bytes at has (keeps o c (spot_of p at.tag) at.newest some)

-- where nothing is other
pub committed_here : (t : Table) (f : Flash) → KeepsCommittedAt t f f
committed_here t f o c p some at = at

pub data_here : (t : Table) (f : Flash) → KeepsDataAt t f f
data_here t f o c p bytes some at has = has
