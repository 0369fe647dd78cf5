-- What the first rule that is broken says of the pages.
use Rattle.std.specs.Prelude.{◌≡◌, ◌≢◌, ◌<◌, ◌≤◌, ◌+◌, ℕ, Option, Some, None, IfNone, Bool, true, false, ◌&&◌, nat_eq, if◌then◌else◌}
use Rattle.std.proofs.Common.{refl, sym, ◌∙◌, subst, inl, inr, arith}
use Rattle.std.proofs.lemmas.Bool.{eqb-true}
use Rattle.nand_model.specs.declared.geometry.Geometry.{Geometry}
use Rattle.page_tags.specs.Headers.{header_bytes}
use Rattle.page_tags.specs.declared.header.HeaderFault.{HeaderFault}
use Rattle.page_tags.specs.declared.header.HeaderFault.TheVariants as headers
use Rattle.volume_terms.specs.Sizes.{root_number}
use Rattle.flash_tree.specs.Tree.{IsPageSize, IsSingle, NewestMap}
use Rattle.flash_tree.specs.Mount.{Wrong, IsNewer, IsDamaged, wrong_by, HasHeaderFault, sizes_of, IsVolume, HasWrongRoot}
use Rattle.flash_tree.specs.laws.Finding.{header_no_fault}
use Rattle.pages.specs.Maps.{PageMap, has}
use Rattle.pages.specs.State.{PagesState}
use Rattle.tree_walk.specs.Visits.{IsSeen}
use Rattle.mounting.specs.TreeAnswers.{HasWrongTree}
use Rattle.tree_walk.specs.Broken.{Breaks, header_of, wrong_of}
use Rattle.tree_walk.specs.Trees.{IsWrongTree}
use Rattle.tree_walk.specs.declared.broken.Broken.{Broken}
use Rattle.tree_walk.specs.declared.broken.Rule.{Rule}
use Rattle.tree_walk.specs.declared.broken.Rule.TheVariants as rules
use Rattle.volume_check.specs.Found.{RootBreaks}
use Rattle.volume_check.specs.Verdicts.{ReportsVerdict, lacks_magic, is_no_header, verdict_of_broken, verdict_of_wrong}
use Rattle.volume_check.specs.declared.verdict.Verdict.TheVariants as verdicts

module _ (g : Geometry) (m : NewestMap) where
  -- what is wrong with a tree is its verdict
  wrong_reports : (wrong : Wrong) → HasWrongTree g m wrong → ReportsVerdict g m (verdict_of_wrong wrong)
  wrong_reports (IsNewer format) t = t
  wrong_reports IsDamaged t = t

both_true : (a b : Bool) → (a && b) ≡ true → (a ≡ true) × (b ≡ true)
both_true true true is = (refl, refl)
both_true true false is = absurd cc
both_true false b is = absurd cc

module _ (g : Geometry) (size : IsPageSize g.bytes) (m : NewestMap) (single : IsSingle m) (spare : ℕ) (volume : IsVolume g m spare) where
  -- the root of a volume has a header
  header_there : (b : Broken) → b.key.object ≡ root_number → is_no_header b.rule ≡ true → Breaks (sizes_of g spare) m b.key b.rule → ⊥
  header_there b root = go b.rule where
    go : (rule : Rule) → is_no_header rule ≡ true → Breaks (sizes_of g spare) m b.key rule → ⊥
    go rules.HeaderMissing is (chunk, none) = none (header_bytes volume.fields) (subst (λ o. m o 0 (header_bytes volume.fields)) (sym root) volume.has.0)
    go (rules.NoHeader fault) is (chunk, faulty) =
        header_no_fault (sizes_of g spare) size m single root_number volume.fields fault volume.has (subst (λ o. HasHeaderFault m o fault) root faulty)
    go rules.RootIsFile is breaks = absurd cc
    go (rules.TooManySpare n) is breaks = absurd cc
    go rules.ChunkMissing is breaks = absurd cc
    go (rules.NoSlot place) is breaks = absurd cc
    go (rules.NameTwice place) is breaks = absurd cc
    go rules.DirectoryTwice is breaks = absurd cc

  pub below_reports : (b : Broken) → IsWrongTree (sizes_of g spare) m (wrong_of b.rule) → Breaks (sizes_of g spare) m b.key b.rule → ReportsVerdict g m (verdict_of_broken b)
  below_reports b tree breaks = go (nat_eq b.key.object root_number && is_no_header b.rule) refl where
    is_root : nat_eq b.key.object root_number ≡ true → b.key.object ≡ root_number
    is_root same = eqb-true b.key.object root_number same

    go : (x : Bool) → (nat_eq b.key.object root_number && is_no_header b.rule) ≡ x
        → ReportsVerdict g m (if x then verdicts.NotAVolume else verdict_of_wrong (wrong_of b.rule))
    go true is = let p = both_true (nat_eq b.key.object root_number) (is_no_header b.rule) is in absurd (header_there b (is_root p.0) p.1 breaks)
    go false is = wrong_reports g m (wrong_of b.rule) (inr (spare, volume, tree))

-- where no rule is broken, what follows then
pub no_rule : (rule : Option Rule) (A : Type 0) → ((r : Rule) → rule ≡ Some r → ⊥) → IfNone rule A → A
no_rule (Some r) A none is = absurd (none r refl)
no_rule None A none is = is

pub page_size : (g : Geometry) (p : PagesState) → 512 ≤ p.page_bytes → p.page_bytes ≤ 4096 → IsSeen (sizes_of g 0) p → IsPageSize g.bytes
page_size g p least most seen = let size = seen.size in record { least = omega (arith, size, least); most = omega (arith, size, most) }

pub single : (m : PageMap) → IsSingle (has m)
single m o n xs ys x y = let two : Some xs ≡ Some ys = sym x ∙ y in cc
