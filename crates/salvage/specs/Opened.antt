-- What a salvage goes by on a device that was opened.
-- From: this project.
use Rattle.std.specs.Prelude.{◌≡◌, ◌⊎◌, ◌↔◌, ◌<◌, ◌^◌, ℕ, Bool, true, false, List, Some, IsSome, Result, Ok, Err}
use Rattle.nand_model.specs.Calls.{Device}
use Rattle.nand_model.specs.Flash.{Flash}
use Rattle.nand_model.specs.declared.geometry.Geometry.{Geometry}
use Rattle.posix_profile.specs.State.{Objects}
use Rattle.flash_tree.specs.Mount.{Answers, IsTreeOf}
use Rattle.pages.specs.Maps.{PageMap}
use Rattle.chunk_index.specs.Maps.{committed_pages}
use Rattle.chunk_index.specs.declared.form.CommittedPage.{CommittedPage}
use Rattle.chunk_index.specs.declared.index.Index.{Index}
use Rattle.page_store.specs.Shown.{committed_data, data_at}
use Rattle.mounting.specs.NewestMaps.{IsNewestMap}
use Rattle.surviving_pages.specs.Lost.{ListsLost}
use Rattle.surviving_pages.specs.Opened.{LiesOn}
use Rattle.surviving_pages.specs.Surviving.{HasSurvivor}
use Rattle.surviving_pages.specs.declared.survivors.LostPlace.{LostPlace}
use Rattle.surviving_pages.specs.declared.survivors.Survivors.{Survivors}
use Rattle.volume_check.specs.Verdicts.{ShowsVolume}
use Rattle.volume_check.specs.declared.fault.CheckFault.{CheckFault}
use Rattle.volume_check.specs.declared.fault.CheckFault.TheVariants as checks
use Rattle.volume_check.specs.declared.finding.Diagnosis.{Diagnosis}
use Rattle.volume_check.specs.declared.verdict.Verdict.{Verdict}
use Rattle.volume_check.specs.declared.verdict.Verdict.TheVariants as verdicts
use Rattle.salvage.specs.declared.fault.SalvageFault.{SalvageFault}
use Rattle.salvage.specs.declared.fault.SalvageFault.TheVariants as faults

-- the page of each key of a chunk that a tree may look up is the data of its newest page that survives; another key has none
abbrev pub IsSurvivorMap : Flash → PageMap → Type 0
IsSurvivorMap flash m = (o c : ℕ) (xs : List ℕ) → (m o c ≡ Some xs) ↔ (HasSurvivor flash o c xs × (c < 2 ^ 32))

-- the pages are those that survive, and the places those of the pages that are lost
abbrev pub GoesBySurvivors : Flash → PageMap → List LostPlace → Type 0
GoesBySurvivors flash m lost = IsSurvivorMap flash m × ListsLost flash lost

-- what a salvage goes by: the newest pages of a flash that shows a volume, or the pages that survive
abbrev pub GoesBy : Geometry → Flash → PageMap → List LostPlace → Type 0
GoesBy g flash m lost = (ShowsVolume g flash × IsNewestMap flash m) ⊎ GoesBySurvivors flash m lost

-- what was found has the pages that survive, and the places of those that are lost
abbrev pub FindsSurvivors : Flash → Survivors → Type 0
FindsSurvivors flash found = GoesBySurvivors flash (committed_data found.index flash) found.lost.items

-- what was found has the newest pages
abbrev pub FindsNewest : Flash → Survivors → Type 0
FindsNewest flash found = IsNewestMap flash (committed_data found.index flash)

-- an honest device, on whose flash a mount answers a tree
pub record AnswersTree (device : Device) : Type 0 where
  pub honest : device.honest ≡ true
  pub spare : ℕ
  pub objects : Objects
  pub answer : Answers device.geometry device.flash (IsTreeOf spare objects)

-- each page that the index has lies on the device, and has data where the device is honest
pub record CanBeRead (device : Device) (x : Index) : Type 0 where
  pub lie : LiesOn device.geometry x
  pub written : device.honest ≡ true → (o c : ℕ) (k : CommittedPage) → committed_pages x o c ≡ Some k → IsSome (data_at device.flash k)

-- a verdict is that of a whole tree
abbrev pub is_whole : Verdict → Bool
is_whole verdicts.Whole = true
is_whole verdicts.NotAVolume = false
is_whole (verdicts.Newer format) = false
is_whole verdicts.Damaged = false

-- whether a check found a whole tree, or why there is no check; a device that does not return what was written has none
abbrev pub whole_by : Result Diagnosis CheckFault → Result Bool SalvageFault
whole_by (Ok found) = Ok (is_whole found.verdict)
whole_by (Err checks.Lost) = Ok false
whole_by (Err checks.NoMemory) = Err faults.NoMemory
whole_by (Err checks.Gone) = Err faults.Gone

-- why nothing was opened: memory was refused, or the device has lost its power
abbrev pub WhyNotOpened : Device → SalvageFault → Type 0
WhyNotOpened device faults.NoMemory = Unit {0}
WhyNotOpened device faults.Gone = device.gone ≡ true
