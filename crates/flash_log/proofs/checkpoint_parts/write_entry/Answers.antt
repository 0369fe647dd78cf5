use Rattle.std.proofs.Common.{ap, ◌∙◌}
use Rattle.page_tags.specs.Checks.{check_entry_bytes}
use Rattle.chunk_index.specs.Following.{keys_left}
use Rattle.flash_log.proofs.NextKeys.{part_some, part_none, left_less}
use Rattle.flash_log.proofs.checkpoint_parts.write_entry.Goals as goal

pub returns-in-Some-clause-part : goal.returns-in-Some-clause-part
returns-in-Some-clause-part c ks n same = c.encode_check_entry.ensures ∙ ap check_entry_bytes c.entry_of.ensures ∙ part_some ks n (keys_left c.args.keys.now) same c.in-Some.committed c.in-Some.ensures.first

pub returns-in-Some-clause-keys : goal.returns-in-Some-clause-keys
returns-in-Some-clause-keys c ks n same = left_less ks n (keys_left c.args.keys.now) same (keys_left c.next.new.self) c.in-Some.ensures.left

pub returns-in-None-clause-part : goal.returns-in-None-clause-part
returns-in-None-clause-part c ks n same = c.copy_from_slice.ensures.after ∙ part_none ks n (keys_left c.args.keys.now) same c.in-None.ensures.first

pub returns-in-None-clause-keys : goal.returns-in-None-clause-keys
returns-in-None-clause-keys c ks n same = left_less ks n (keys_left c.args.keys.now) same (keys_left c.next.new.self) c.in-None.ensures.left
