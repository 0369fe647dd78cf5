use Rattle.mount_scan.specs.laws.Scan.{newest_listed}
use Rattle.mount_scan.proofs.law.a_page_is_found_for_each_key.Goals as goal

pub returns : goal.returns
returns c = newest_listed
