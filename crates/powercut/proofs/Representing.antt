-- A volume that is mounted stands for its tree.
use Rattle.pages.specs.State.{PagesState}
use Rattle.posix_profile.specs.State.{Objects}
use Rattle.posix_calls.specs.declared.page_volume.PageVolume.{PageVolume}
use Rattle.posix_calls.specs.Mounts.{RepresentsTree}
use Rattle.powercut.specs.Commands.{meaning_of}
use Rattle.powercut.proofs.InPower.{Represents}

pub represents_there : {V P : Type 0} (state : P → PagesState) (volume : V → PageVolume P) (v : V) (objects : Objects) → RepresentsTree state (volume v) objects → Represents (meaning_of state volume) v objects
represents_there state volume v objects represents = record { answers = represents.answers; volume = represents.volume; sound = represents.volume.sound; shown = represents.shown }
