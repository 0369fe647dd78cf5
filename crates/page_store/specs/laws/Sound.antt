-- What is known of a sound store: why it has failed, and how many blocks are bad.
use Rattle.std.specs.Prelude.{◌≡◌, ◌≤◌, ℕ, Bool, true, false, not, ◌&&◌, ◌||◌}
use Rattle.std.proofs.Common.{refl, arith}
use Rattle.nand_model.specs.Calls.{Device}
use Rattle.block_state.specs.Committed.{bad_count}
use Rattle.block_state.specs.Table.{Table}
use Rattle.transactions.specs.Ready.{IsReady}
use Rattle.flash_log.specs.laws.FreeBlocks.{same_bad_blocks}
use Rattle.pages.specs.Stores.{bad_on}

-- its device is gone: it is honest, and no commit failed
pub lost_alone : (gone honest broken : Bool) → (honest && not broken) ≡ true → (gone || (not honest || broken)) ≡ true → gone ≡ true
lost_alone true honest broken sound failed = refl
lost_alone false true true sound failed = let two : false ≡ true = sound in absurd cc
lost_alone false true false sound failed = let two : false ≡ true = failed in absurd cc
lost_alone false false broken sound failed = let two : false ≡ true = sound in absurd cc

-- a sound store is not broken
pub sound_whole : (h w : Bool) → (h && not w) ≡ true → w ≡ false
sound_whole true false is = refl
sound_whole true true is = let two : false ≡ true = is in absurd cc
sound_whole false w is = let two : false ≡ true = is in absurd cc

-- no more of its blocks are bad than there are to spare
pub few_bad : (d : Device) (t : Table) (spare : ℕ) (broken : Bool) → IsReady d t → (broken ≡ false → bad_count t ≤ spare) → (d.honest && not broken) ≡ true → bad_on d ≤ spare
few_bad d t spare broken can_write within_limit sound = let same = same_bad_blocks d t can_write in omega (arith, same, within_limit (sound_whole d.honest broken sound))
