-- Names of a volume as names of a host.
use Rattle.std.specs.Prelude.{◌≡◌, ◌≢◌, ◌≤◌, ℕ, ◌+◌, ◌*◌, ◌/◌, ◌%◌, ◌==◌, ◌&&◌, ◌||◌, false, not, nat_le, nat_lt, Bool, List, [], ◌∷◌, ◌++◌, length, filter, map as list_map, flat_map, All, if◌then◌else◌}
use Rattle.std.specs.Char.{digit_value}
use Rattle.std.specs.Fmt.{digit_glyph}
use Rattle.image_tools.specs.declared.names.Spelling.{Spelling}
use Rattle.image_tools.specs.declared.names.Spelling.TheVariants as spellings

-- the byte `\`
abbrev pub backslash : ℕ
backslash = 0x5c

-- a host name with its escapes undone: `\xhh` is the byte of the two digits, `\e` no byte, and another byte itself
unfoldable pub unescaped : List ℕ → List ℕ
unescaped [] = []
unescaped (a ∷ []) = a ∷ []
unescaped (a ∷ b ∷ []) = if a == backslash then [] else a ∷ unescaped (b ∷ [])
unescaped (a ∷ b ∷ c ∷ []) = a ∷ unescaped (b ∷ c ∷ [])
unescaped (a ∷ b ∷ c ∷ d ∷ rest) =
    if a == backslash
    then (16 * digit_value c + digit_value d) ∷ unescaped rest
    else a ∷ unescaped (b ∷ c ∷ d ∷ rest)

-- a byte that no host name has: a slash, or one below the space, as zero is
abbrev pub IsSafe : ℕ → Type 0
IsSafe b = (32 ≤ b) × (b ≢ 47)

-- a host's name of a file: some bytes, none of them a slash or zero, that are neither `.` nor `..`
pub record IsHostName (host : List ℕ) : Type 0 where
  pub some : host ≢ []
  pub safe : All IsSafe host
  pub not_dot : host ≢ 46 ∷ []
  pub not_dot_dot : host ≢ 46 ∷ 46 ∷ []

-- a byte as `\xhh`
abbrev pub escape : ℕ → List ℕ
escape b = backslash ∷ 0x78 ∷ digit_glyph false (b / 16) ∷ digit_glyph false (b % 16) ∷ []

-- a byte from the space to `~` that is neither a slash nor a backslash
abbrev pub is_graphic : ℕ → Bool
is_graphic b = nat_le 32 b && (nat_le b 126 && (not (b == 47) && not (b == backslash)))

-- whether a byte stays as it is
abbrev pub is_plain : Spelling → ℕ → Bool
is_plain spellings.Text b = is_graphic b || nat_le 128 b
is_plain spellings.Ascii b = is_graphic b

-- a byte as a host name has it
abbrev pub spelled_byte : Spelling → ℕ → List ℕ
spelled_byte spelling b = if is_plain spelling b then b ∷ [] else escape b

-- those that are not empty
abbrev pub some_of : List (List ℕ) → List (List ℕ)
some_of pieces = filter (λ piece. nat_lt 0 (length piece)) pieces

-- a host name of each of these parts in turn is added to the text, each after a slash
pub record AddsHosts (names : List (List ℕ)) (old new : List ℕ) : Type 0 where
  pub hosts : List (List ℕ)
  pub are_hosts : All IsHostName hosts
  pub names_are : list_map unescaped hosts ≡ names
  pub text_is : new ≡ old ++ flat_map (λ host. 47 ∷ host) hosts
