-- Reasons in the words of a mount.
use Rattle.std.specs.Prelude.{◌≡◌, Bool, true, false, not}
use Rattle.std.proofs.Common.{sym, ◌∙◌, subst}
use Rattle.std.proofs.lemmas.Bool.{not-true}
use Rattle.nand_model.specs.Calls.{Device}
use Rattle.nand_model.specs.Changes.{OnlyReads}
use Rattle.nand_model.specs.Flash.{Flash}
use Rattle.nand_model.specs.declared.geometry.Geometry.{Geometry}
use Rattle.flash_tree.specs.Mount.{Answer, Answers, NotAVolume, IsWrong, IsNewer, IsDamaged}
use Rattle.flash_tree.specs.laws.Place.{same_flash, had_power}
use Rattle.tree_walk.specs.declared.fault.RootFault.{RootFault}
use Rattle.tree_walk.specs.declared.fault.RootFault.TheVariants as roots
use Rattle.mounting.specs.Faults.{IsReason, WhyNotMounted, AnswersFault, of_root}
use Rattle.mounting.specs.declared.fault.MountFault.{MountFault}
use Rattle.mounting.specs.declared.fault.MountFault.TheVariants as faults

-- reads leave what a mount answers
answers_still : (a b : Device) (answer : Answer) → OnlyReads a b → (a.honest ≡ true → Answers a.geometry a.flash answer) → b.honest ≡ true → Answers b.geometry b.flash answer
answers_still a b answer reads reported honest =
    let was : a.honest ≡ true = sym reads.lasts.honest ∙ honest in
    subst (λ (g : Geometry). Answers g b.flash answer) (sym reads.lasts.geometry) (subst (λ (f : Flash). Answers a.geometry f answer) (sym (same_flash a b reads was)) (reported was))

-- a reason of a device that has power still, after reads
reason_still : (a b : Device) (fault : MountFault) → OnlyReads a b → b.gone ≡ false → IsReason a fault → WhyNotMounted b fault
reason_still a b faults.Gone reads power why = absurd why
reason_still a b faults.NoMemory reads power why = (power, tt)
reason_still a b faults.NotAVolume reads power why = (power, answers_still a b NotAVolume reads why)
reason_still a b (faults.Newer format) reads power why = (power, answers_still a b (IsWrong (IsNewer format)) reads why)
reason_still a b faults.Damaged reads power why = (power, answers_still a b (IsWrong IsDamaged) reads why)

-- the reason of a device that was wanted for its power
pub reason_reported : (a b : Device) (fault : MountFault) (power : Bool) → OnlyReads a b → power ≡ not b.gone → power ≡ true → (a.gone ≡ false → IsReason a fault) → WhyNotMounted b fault
reason_reported a b fault power reads reported has why =
    let there : b.gone ≡ false = not-true b.gone (sym reported ∙ has) in
    reason_still a b fault reads there (why (had_power a b reads.lasts there))

-- a fault of a tree has its reason
pub tree_reason : (d : Device) (fault : RootFault) (reported : MountFault) → reported ≡ of_root fault → (d.honest ≡ true → AnswersFault d fault) → d.gone ≡ false → IsReason d reported
tree_reason d fault reported is why power = subst (IsReason d) (sym is) (go fault why)
  where
    go : (fault : RootFault) → (d.honest ≡ true → AnswersFault d fault) → IsReason d (of_root fault)
    go roots.NoMemory why = tt
    go roots.Device why = λ honest. let two : false ≡ true = sym power ∙ why honest in absurd cc
    go roots.NotAVolume why = why
    go (roots.Newer format) why = why
    go roots.Damaged why = why
