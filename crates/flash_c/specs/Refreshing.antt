-- The refresh of a block of a volume, as C sees it.
use Rattle.std.specs.Prelude.{◌≡◌, ℕ, Result, Ok, Err, ℤ, pos}
use Rattle.pages.specs.State.{PagesState}
use Rattle.posix_calls.specs.Refreshing.{IsRefreshed}
use Rattle.posix_calls.specs.declared.page_volume.PageVolume.{PageVolume}
use Rattle.posix_profile.specs.declared.reply.Errno.{Errno}
use Rattle.flash_c.specs.Numbers.{error_number}

-- the number of a call that only succeeds or fails
abbrev pub result_number : Result (Unit {0}) Errno → ℤ
result_number (Ok done) = pos 0
result_number (Err error) = error_number error

-- a volume was refreshed, or was not: the number is that of what was returned
pub record RefreshesAt {P : Type 0} (state : P → PagesState) (block : ℕ) (old : PageVolume P) (number : ℤ) (new : PageVolume P) : Type 0 where
  pub result : Result (Unit {0}) Errno
  pub refreshed : IsRefreshed state block old result new
  pub number_is : number ≡ result_number result
