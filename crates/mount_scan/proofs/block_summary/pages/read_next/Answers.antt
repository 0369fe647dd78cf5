use Rattle.std.proofs.Common.{◌≡◌, ◌<◌, ◌≤◌, ◌+◌, ◌-◌, ◌*◌, ℕ, List, length, length-take, length-drop, sym, ap, subst, ◌∙◌, arith}
use borrow.Rule.Slice.PartMut.{put_mid}
use Rattle.nand_model.specs.declared.geometry.Geometry.{Geometry}
use Rattle.mount_scan.specs.SummaryGroups.{IsTagged, KeepsPages, page_in}
use Rattle.mount_scan.proofs.SummaryRows.{page_within, page_put, page_committed}
use Rattle.mount_scan.proofs.block_summary.pages.read_next.Goals as goal

-- the page lies within the bytes
within_bytes : (i n d : ℕ) (bytes : List ℕ) → i < n → length bytes ≡ n * d → i * d + d ≤ length bytes
within_bytes i n d bytes lt len = omega (arith, page_within i n d lt, len)

pub returns-clause-committed : goal.returns-clause-committed
returns-clause-committed g c =
    let d : ℕ = (g.N.Nand.state c.args.device.now).geometry.bytes in
    let size : c.bytes-size.result ≡ d = c.bytes-size.ensures ∙ ap (λ (x : Geometry). x.bytes) c.geometry.ensures in
    let room = within_bytes c.args.i c.args.first.now.count d c.args.bytes.now c.requires.page c.requires.size in
    let k : ℕ = c.args.i * c.bytes-size.result + c.bytes-size.result - c.args.i * c.bytes-size.result in
    subst (λ e. KeepsPages d c.args.i c.args.bytes.now (put_mid (c.args.i * e) k c.args.bytes.now c.read_tagged.new.page)) (sym size)
    (λ j lt. page_committed d c.args.i j k c.args.bytes.now c.read_tagged.new.page (omega (arith, room)) lt)

pub returns-clause-yes : goal.returns-clause-yes
returns-clause-yes g c is honest =
    let d : ℕ = (g.N.Nand.state c.args.device.now).geometry.bytes in
    let size : c.bytes-size.result ≡ d = c.bytes-size.ensures ∙ ap (λ (x : Geometry). x.bytes) c.geometry.ensures in
    let room = within_bytes c.args.i c.args.first.now.count d c.args.bytes.now c.requires.page c.requires.size in
    let room' : c.args.i * c.bytes-size.result + c.bytes-size.result ≤ length c.args.bytes.now = subst (λ e. c.args.i * e + e ≤ length c.args.bytes.now) (sym size) room in
    let len : length c.read_tagged.new.page ≡ d = omega (arith, c.read_tagged.auto.page, room', size, length-take {A = ℕ}, length-drop {A = ℕ}) in
    let k : ℕ = c.args.i * c.bytes-size.result + c.bytes-size.result - c.args.i * c.bytes-size.result in
    subst (λ e. IsTagged (g.N.Nand.state c.args.device.now).flash c.args.block c.args.first.now c.args.i (page_in d (put_mid (c.args.i * e) k c.args.bytes.now c.read_tagged.new.page) c.args.i)) (sym size)
    (subst (IsTagged (g.N.Nand.state c.args.device.now).flash c.args.block c.args.first.now c.args.i) (sym (page_put d c.args.i k c.args.bytes.now c.read_tagged.new.page (omega (arith, room)) len))
    (c.in_ok-is.ensures.yes honest is))

pub returns-clause-no : goal.returns-clause-no
returns-clause-no g c is honest = (c.args.i, c.requires.page, c.in_ok-is.ensures.no honest is)
