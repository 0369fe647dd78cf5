-- What is known of a device with tags of 48 bytes over one with tags of 24.
use Rattle.std.specs.Prelude.{◌+◌, None, if◌then◌else◌}
use Rattle.nand_model.specs.Flash.{Flash, Page, Erased, Written, Uncorrectable}
use Rattle.nand_model.specs.Calls.{Device}
use Rattle.port_nand.specs.Packed.{unpacked}
use Rattle.port_nand.specs.Refused.{is_closed}
use Rattle.port_nand.specs.declared.refusals.Refusals.{Refusals}

-- a page with its tag unpacked
abbrev pub unpacked_page : Page → Page
unpacked_page Erased = Erased
unpacked_page (Written bytes tag) = Written bytes (unpacked tag)
unpacked_page Uncorrectable = Uncorrectable

-- a flash with the tags of its pages unpacked; no page of a closed block can be programmed next
abbrev pub unpacked_flash : Refusals → Flash → Flash
unpacked_flash refusals flash = record {
  bad = flash.bad;
  next = λ b. if is_closed refusals.closed b then None else flash.next b;
  page = λ b p. unpacked_page (flash.page b p);
}

-- the device with its flash unpacked; each program that was refused counts as a change and a failure
abbrev pub unpacked_device : Refusals → Device → Device
unpacked_device refusals d = record d { flash = unpacked_flash refusals d.flash; failures = d.failures + refusals.count; changes = d.changes + refusals.count }
