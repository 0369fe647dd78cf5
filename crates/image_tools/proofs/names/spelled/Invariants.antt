use Rattle.std.proofs.Common.{◌≡◌, ◌<◌, ◌++◌, List, ℕ, All, take}
use Rattle.image_tools.specs.HostNames.{IsSafe, unescaped}
use Rattle.image_tools.specs.declared.names.Spelling.TheVariants as spellings
use Rattle.image_tools.proofs.names.spelled.Given as goal

-- the host's bytes spell the first of the name
abbrev pub invariant-loop-byte : goal.invariant-loop-byte
invariant-loop-byte l = record {
  safe : All IsSafe l.host.items;
  reads : (rest : List ℕ) → unescaped (l.host.items ++ rest) ≡ take l.byte-index l.name ++ unescaped rest;
  ascii : l.spelling ≡ spellings.Ascii → All (λ b. b < 128) l.host.items;
}
