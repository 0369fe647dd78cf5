-- Where the whole checkpoint of a flash lies.
use Rattle.std.specs.Prelude.{◌≡◌, ◌≢◌, ◌<◌, ◌≤◌, ℕ, ◌+◌, true, Option, Some, None, IfSome, IfNone}
use Rattle.std.proofs.Common.{refl, sym, ◌∙◌, ap, subst, inl, inr, arith}
use Rattle.std.proofs.lemmas.Bool.{cases_eq, cases_lt}
use Rattle.nand_model.specs.Flash.{Flash, IsWithin}
use Rattle.nand_model.specs.Calls.{Device}
use Rattle.nand_model.specs.Changes.{OnlyReads}
use Rattle.nand_model.specs.declared.geometry.Geometry.{Geometry}
use Rattle.page_tags.specs.declared.tag.Tag.{Tag}
use Rattle.page_tags.specs.Checks.{check_page}
use Rattle.flash_tree.specs.Groups.{HasTag}
use Rattle.flash_tree.specs.laws.Newest.{one_tag}
use Rattle.flash_tree.specs.laws.Place.{tag_placed}
use Rattle.flash_tree.specs.laws.Checking.{first_tag}
use Rattle.flash_tree.specs.Checkpoints.{Checkpoint, check_tag, IsWhole, IsTrueFlash}
use Rattle.mount_scan.specs.declared.found_checkpoint.FoundCheckpoint.{FoundCheckpoint}
use Rattle.mount_scan.specs.declared.checkpoint_candidate.Candidate.{Candidate}
use Rattle.mount_scan.specs.FoundCheckpoint.{HasNoneWhole, ReadsFew, checkpoint_of}
use Rattle.mount_scan.specs.CheckpointCandidates.{IsGreatestBelow, IsOf, LiesFirst}
use Rattle.mount_scan.specs.CheckpointBlocks.{begun, IsNone, HasNoneAt, pages_of}
use Rattle.mount_scan.proofs.ReadCount.{back_honest}

-- ---- what is whole in the block of a candidate

module _ (g : Geometry) (flash : Flash) (c : Candidate) (has : HasTag flash c.block 0 c.tag) (x : Checkpoint) (whole : IsWhole g flash x) (at : x.block ≡ c.block) where
  same_tags : check_tag x 0 ≡ c.tag
  same_tags = one_tag flash c.block 0 (check_tag x 0) c.tag (subst (λ b. HasTag flash b 0 (check_tag x 0)) at (first_tag g flash x whole)) has

  pub same_size : x.size ≡ c.tag.count
  same_size = ap (λ (t : Tag). t.count) same_tags

  same_version : c.tag.version ≡ c.tag.group
  same_version = sym (ap (λ (t : Tag). t.version) same_tags) ∙ ap (λ (t : Tag). t.group) same_tags

  as_begun : x ≡ begun c x.entries
  as_begun = λ i. record { block = at i; size = same_size i; number = (same_tags i).group; seq = (same_tags i).seq; entries = x.entries }

  begun_whole : IsWhole g flash (begun c x.entries)
  begun_whole = subst (IsWhole g flash) as_begun whole

  few_pages : (pages blocks : ℕ) → IsWithin pages blocks flash → c.tag.count ≤ pages
  few_pages pages blocks within = elim (cases_lt pages c.tag.count) [
    | inr le ↦ le
    | inl less ↦
        let page = whole.pages pages (omega (arith, less, same_size)) in
        let has' : HasTag flash x.block (0 + pages) (check_tag x pages) = record { bytes = check_page g.bytes x.entries pages; page = page.0; valid = page.1 } in
        let placed = (tag_placed pages blocks flash x.block (0 + pages) (check_tag x pages) within has').1 in
        absurd (omega (arith, placed))
  ]

-- a candidate that is of another version
pub none_version : (d : Device) (c : Candidate) → c.tag.version ≢ c.tag.group → HasNoneAt d c
none_version d c other honest has x whole at = other (same_version d.geometry d.flash c has x whole at)

-- one that has no room in its block
pub none_room : (d : Device) (c : Candidate) → IsWithin d.geometry.pages d.geometry.blocks d.flash → d.geometry.pages < c.tag.count → HasNoneAt d c
none_room d c within more honest has x whole at =
    let within_limit = few_pages d.geometry d.flash c has x whole at d.geometry.pages d.geometry.blocks within in
    absurd (omega (arith, within_limit, more))

-- one whose pages are not all those of a checkpoint
pub none_pages : (d : Device) (c : Candidate) → IsNone d c → HasNoneAt d c
none_pages d c none honest has x whole at = none honest x.entries (begun_whole d.geometry d.flash c has x whole at)

-- ---- the block of the whole checkpoint of a true flash

-- where a checkpoint of a true flash is whole, the best candidate is the tag of its first page
pub best_is :
    (g : Geometry) (flash : Flash) (pages blocks : ℕ) (best : Option Candidate) → IsWithin pages blocks flash → IsTrueFlash g flash → (x : Checkpoint) → IsWhole g flash x → IsGreatestBelow flash blocks best
    → (c : Candidate) × (best ≡ Some c) × HasTag flash c.block 0 c.tag × (x.block ≡ c.block)
best_is g flash pages blocks None within true_flash x whole none =
    let has = first_tag g flash x whole in
    absurd (none x.block (check_tag x 0) (tag_placed pages blocks flash x.block 0 (check_tag x 0) within has).0 (record { good = whole.good; has = has; begins = (refl, refl, refl) }))
best_is g flash pages blocks (Some c) within true_flash x whole greatest =
    let has = first_tag g flash x whole in
    let up = (greatest.first x.block (check_tag x 0) (tag_placed pages blocks flash x.block 0 (check_tag x 0) within has).0 (record { good = whole.good; has = has; begins = (refl, refl, refl) })).0 in
    let right = true_flash x whole in
    let down = right.above c.block 0 c.tag greatest.may.good greatest.may.has in (
      c,
      refl,
      greatest.may.has,
      elim (cases_eq x.block c.block) [
        | inl same ↦ same
        | inr ne ↦ absurd (right.alone c.block 0 c.tag greatest.may.good (λ other. ne (sym other)) greatest.may.has (omega (arith, up, down.2)))
      ],
    )

-- so of a true flash none is whole where the best candidate is not
pub none_best :
    (a b : Device) (best : Option Candidate) (found : Option FoundCheckpoint) → OnlyReads a b → IsWithin a.geometry.pages a.geometry.blocks a.flash → (a.honest ≡ true → IsGreatestBelow a.flash a.geometry.blocks best)
    → IfSome best (λ c. IfNone found (HasNoneAt b c)) → IfNone found (HasNoneWhole a)
none_best a b best None reads within greatest none = λ honest true_flash x whole.
    let is = best_is a.geometry a.flash a.geometry.pages a.geometry.blocks best within true_flash x whole (greatest honest) in
    let at : HasNoneAt b is.0 = subst (λ o. IfSome o (HasNoneAt b)) is.1 none in
    back_honest (λ g flash. HasTag flash is.0.block 0 is.0.tag → (y : Checkpoint) → IsWhole g flash y → y.block ≡ is.0.block → ⊥) a b reads at honest is.2 x whole is.3
none_best a b best (Some f) reads within greatest none = tt

-- and as many pages were read as the checkpoint has
pub few_read :
    (a b c : Device) (best : Option Candidate) → IsWithin a.geometry.pages a.geometry.blocks a.flash → (a.honest ≡ true → IsGreatestBelow a.flash a.geometry.blocks best)
    → b.reads ≤ a.reads + a.geometry.blocks → c.reads ≤ b.reads + pages_of best → ReadsFew a c
few_read a b c best within greatest first next honest true_flash x whole =
    let is = best_is a.geometry a.flash a.geometry.pages a.geometry.blocks best within true_flash x whole (greatest honest) in
    let size : x.size ≡ is.0.tag.count = same_size a.geometry a.flash is.0 is.2 x whole is.3 in
    let count : pages_of best ≡ is.0.tag.count = ap pages_of is.1 in
    omega (arith, first, next, size, count)

-- the checkpoint that is found is that of the best candidate
pub lies_first : (d : Device) (best : Option Candidate) (found : Option FoundCheckpoint) → (d.honest ≡ true → IsGreatestBelow d.flash d.geometry.blocks best) → IfSome found (IsOf best)
    → IfSome found (λ f. LiesFirst d (checkpoint_of f))
lies_first d best None greatest of = tt
lies_first d None (Some f) greatest of = absurd of
lies_first d (Some c) (Some f) greatest (block, seq) = λ honest k t lt may.
    let first = (greatest honest).first k t lt may in
    (omega (arith, first.0, seq), λ same. let low = first.1 (omega (arith, same, seq)) in omega (arith, low, block))
