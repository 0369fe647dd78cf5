use Rattle.mount_scan.specs.laws.Scan.{newest_once}
use Rattle.mount_scan.proofs.law.each_key_is_once.Goals as goal

pub returns : goal.returns
returns c f list are i j x y at_i at_j one = newest_once f list i j x y are at_i at_j one.0 one.1
