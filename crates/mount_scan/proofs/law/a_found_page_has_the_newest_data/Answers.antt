use Rattle.mount_scan.specs.laws.Scan.{newest_data}
use Rattle.mount_scan.proofs.law.a_found_page_has_the_newest_data.Goals as goal

pub returns : goal.returns
returns c = newest_data
