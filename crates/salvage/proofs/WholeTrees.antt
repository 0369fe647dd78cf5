-- Why a device whose mount shows a tree is found to have a whole one.
use Rattle.std.specs.Prelude.{◌≡◌, ℕ, true, false, Result, Ok, Err, IfOk, IfErr}
use Rattle.nand_model.specs.Calls.{Device}
use Rattle.nand_model.specs.Changes.{OnlyReads}
use Rattle.nand_model.specs.Flash.{Flash}
use Rattle.nand_model.specs.declared.geometry.Geometry.{Geometry}
use Rattle.std.proofs.Common.{◌∙◌}
use Rattle.posix_profile.specs.State.{Objects}
use Rattle.flash_tree.specs.Mount.{Answer, Answers, NotAVolume, IsWrong, IsNewer, IsDamaged, IsTreeOf}
use Rattle.volume_check.specs.Verdicts.{SaysOfFlash, ShowsVolume}
use Rattle.volume_check.specs.declared.verdict.Verdict.{Verdict}
use Rattle.volume_check.specs.declared.verdict.Verdict.TheVariants as verdicts
use Rattle.volume_check.specs.Faults.{WhyNotChecked}
use Rattle.volume_check.specs.declared.fault.CheckFault.{CheckFault}
use Rattle.volume_check.specs.declared.fault.CheckFault.TheVariants as checks
use Rattle.volume_check.specs.declared.finding.Diagnosis.{Diagnosis}
use Rattle.salvage.specs.Opened.{is_whole, whole_by}

-- a verdict that is right of a flash whose answer is a tree is that of a whole tree
pub whole_of_tree : (g : Geometry) (flash : Flash) (v : Verdict) (spare : ℕ) (objects : Objects)
    → ((a b : Answer) → Answers g flash a → Answers g flash b → a ≡ b)
    → SaysOfFlash g flash v → Answers g flash (IsTreeOf spare objects) → is_whole v ≡ true
whole_of_tree g flash verdicts.Whole spare objects one says tree = cc
whole_of_tree g flash verdicts.NotAVolume spare objects one says tree =
    let same : NotAVolume ≡ IsTreeOf spare objects = one NotAVolume (IsTreeOf spare objects) says tree in absurd cc
whole_of_tree g flash (verdicts.Newer format) spare objects one says tree =
    let same : IsWrong (IsNewer format) ≡ IsTreeOf spare objects = one (IsWrong (IsNewer format)) (IsTreeOf spare objects) says tree in absurd cc
whole_of_tree g flash verdicts.Damaged spare objects one says tree =
    let same : IsWrong IsDamaged ≡ IsTreeOf spare objects = one (IsWrong IsDamaged) (IsTreeOf spare objects) says tree in absurd cc

-- what a check finds of an honest device whose flash answers with a tree: a whole one, unless memory or power ends it
pub finds_whole : (a b : Device) (found : Result Diagnosis CheckFault) (spare : ℕ) (objects : Objects) → OnlyReads a b → a.honest ≡ true
    → IfErr found (WhyNotChecked b) → IfOk found (λ d. SaysOfFlash a.geometry a.flash d.verdict)
    → ((x y : Answer) → Answers a.geometry a.flash x → Answers a.geometry a.flash y → x ≡ y)
    → Answers a.geometry a.flash (IsTreeOf spare objects) → IfOk (whole_by found) (λ whole. whole ≡ true)
finds_whole a b (Ok d) spare objects reads honest fault says one tree = whole_of_tree a.geometry a.flash d.verdict spare objects one says tree
finds_whole a b (Err checks.Lost) spare objects reads honest fault says one tree =
    let lost : b.honest ≡ false = fault in
    let still : b.honest ≡ true = reads.lasts.honest ∙ honest in
    absurd cc
finds_whole a b (Err checks.NoMemory) spare objects reads honest fault says one tree = tt
finds_whole a b (Err checks.Gone) spare objects reads honest fault says one tree = tt

-- what a verdict of a whole tree says
shown : (g : Geometry) (flash : Flash) (v : Verdict) → SaysOfFlash g flash v → is_whole v ≡ true → ShowsVolume g flash
shown g flash verdicts.Whole says whole = says
shown g flash verdicts.NotAVolume says whole = absurd cc
shown g flash (verdicts.Newer format) says whole = absurd cc
shown g flash verdicts.Damaged says whole = absurd cc

-- a check that finds a whole tree of an honest device finds one that the flash shows
pub shows_whole : (g : Geometry) (flash : Flash) (found : Result Diagnosis CheckFault) → IfOk found (λ d. SaysOfFlash g flash d.verdict)
    → IfOk (whole_by found) (λ whole. whole ≡ true → ShowsVolume g flash)
shows_whole g flash (Ok d) says = shown g flash d.verdict says
shows_whole g flash (Err checks.Lost) says = λ (whole : false ≡ true). absurd cc
shows_whole g flash (Err checks.NoMemory) says = tt
shows_whole g flash (Err checks.Gone) says = tt
