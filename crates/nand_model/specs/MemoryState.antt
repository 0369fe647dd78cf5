-- What a device in memory represents.
use Rattle.std.specs.Prelude.{true}
use Rattle.nand_model.specs.Calls.{Device}
use Rattle.nand_model.specs.Memory.{flash_of}
use Rattle.nand_model.specs.Plans.{Plan, is_steady}
use Rattle.nand_model.specs.Scripts as scripts
use Rattle.nand_model.specs.declared.memory.MemNand.{MemNand}

-- what is known of a device in memory, which is honest
abbrev pub device : MemNand → Device
device d = record {
  geometry = d.geometry;
  flash = flash_of d.blocks.items;
  gone = d.power.gone;
  honest = true;
  honest_itself = true;
  steady = is_steady (scripts.plan d.power.script);
  cuts = d.power.cuts.total;
  failures = d.power.failures.total;
  changes = d.power.changes.total;
  reads = d.power.reads.total;
}

-- what it counts since the power-up, and which of its calls are cut or fail
abbrev pub plan : MemNand → Plan
plan d = scripts.plan d.power.script
