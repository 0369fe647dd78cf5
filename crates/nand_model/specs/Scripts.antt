-- What the script of a device in memory represents.
use Rattle.std.specs.Option.{option_map}
use Rattle.nand_model.specs.Plans.{Plan, listed}
use Rattle.nand_model.specs.declared.plan.Script.{Script}

abbrev pub plan : Script → Plan
plan s = record {
  calls = s.calls;
  changes = s.changes;
  fuse = option_map (λ f. (f.call, f.fates.items)) s.fuse;
  failures = listed s.failures.items;
}
