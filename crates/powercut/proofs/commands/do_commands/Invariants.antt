use Rattle.std.proofs.Common.{◌≡◌, false, length}
use Rattle.page_store.specs.PagesOf.{mounted_pages}
use Rattle.pages.specs.Stores.{GoesOn}
use Rattle.posix_calls.specs.PageVolumes.{pages_of, is_read_only, is_stopped}
use Rattle.posix_calls.specs.Volumes.{over_pages}
use Rattle.powercut.specs.Commands.{meaning_of}
use Rattle.powercut.proofs.Doing.{GoesSoFar}
use Rattle.powercut.proofs.commands.do_commands.Given as goal

-- so many are done, and none was the stop
abbrev pub invariant-loop-stamped : goal.invariant-loop-stamped
invariant-loop-stamped g l = record {
  count : length l.replies.items ≡ l.stamped-index;
  goes_on : GoesOn (mounted_pages (pages_of (over_pages l.fn.volume))) (mounted_pages (pages_of (over_pages l.volume)));
  read_only : is_read_only (over_pages l.volume) ≡ is_read_only (over_pages l.fn.volume);
  still : is_stopped (over_pages l.fn.volume) ≡ false → is_stopped (over_pages l.volume) ≡ false;
  does : GoesSoFar (meaning_of mounted_pages over_pages) l.commands l.replies.items l.fn.volume l.volume;
}
