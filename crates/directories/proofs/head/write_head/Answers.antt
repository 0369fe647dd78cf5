use Rattle.std.proofs.Common.{◌≡◌, ◌-◌, ◌≤◌, ◌∙◌, ℕ, sym, ap, subst, take, replicate, length, arith, rules}
use Rattle.std.proofs.lemmas.List.{take-replicate}
use Rattle.page_tags.specs.Headers.{IsHeader, header_bytes}
use Rattle.flash_tree.specs.laws.Finding.{length-header_bytes}
use Rattle.directories.proofs.HeadPages.{head_valid, fields_are}
use Rattle.directories.specs.Heads.{fields_in}
use Rattle.directories.proofs.head.write_head.Goals as goal

pub encode_header-requires-clause-valid : goal.encode_header-requires-clause-valid
encode_header-requires-clause-valid c =
    let d : ℕ = length c.args.page.now in
    let within_limit : d - 32 ≤ 4064 = omega (arith, c.requires.most) in
    let bits : take (d - 32) (replicate 4064 0) ≡ replicate (d - 32) 0 = take-replicate (d - 32) 4064 0 within_limit in
    let same = fields_are d c.args.head c.from.result _ c.from.ensures bits in
    let valid = head_valid d c.args.head c.requires.least (search rules) (search rules) (search rules) in
    subst (IsHeader d) (sym same) valid

pub returns : goal.returns
returns c =
    let d : ℕ = length c.args.page.now in
    let within_limit : d - 32 ≤ 4064 = omega (arith, c.requires.most) in
    let bits : take (d - 32) (replicate 4064 0) ≡ replicate (d - 32) 0 = take-replicate (d - 32) 4064 0 within_limit in
    let same = fields_are d c.args.head c.from.result _ c.from.ensures bits in
    let valid = head_valid d c.args.head c.requires.least (search rules) (search rules) (search rules) in
    record {
      valid = valid;
      encodes = c.encode_header.ensures ∙ ap header_bytes same;
      size = ap length (c.encode_header.ensures ∙ ap header_bytes same) ∙ length-header_bytes (fields_in d c.args.head) ∙ omega (arith, valid.room, c.requires.least);
    }
