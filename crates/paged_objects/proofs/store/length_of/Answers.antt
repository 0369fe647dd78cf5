use Rattle.std.specs.Prelude.{◌≡◌, ℕ, Option, Some, None, length}
use Rattle.std.specs.Option.{option_map_or}
use Rattle.std.proofs.Common.{◌∙◌, refl, sym, ap}
use Rattle.std.specs.FinMap as map
use Rattle.posix_profile.specs.State.{Object, File, Dir, Objects}
use Rattle.posix_profile.specs.declared.reply.Info.{Info}
use Rattle.object_store.specs.Facts.{bytes_of, info_of}
use Rattle.paged_objects.proofs.store.length_of.Goals as goal

-- the size that is reported of an object, and 0 where there is none
abbrev size_in : Option Info → ℕ
size_in reported = option_map_or (λ (info : Info). info.size) reported 0

-- it is as many bytes as a file has
size_reported : (objects : Objects) (o : ℕ) (x : Option Object) → size_in (info_of objects o x) ≡ length (bytes_of x)
size_reported objects o None = refl
size_reported objects o (Some (File moment bytes)) = refl
size_reported objects o (Some (Dir moment entries)) = refl

pub returns-in-Some : goal.returns-in-Some
returns-in-Some c = λ objects reports forest.
    ap size_in (sym c.in-Some.is ∙ c.info.ensures objects reports forest) ∙ size_reported objects c.args.file (map.get objects c.args.file)

pub returns-in-None : goal.returns-in-None
returns-in-None c = λ objects reports forest.
    ap size_in (sym c.in-None.is ∙ c.info.ensures objects reports forest) ∙ size_reported objects c.args.file (map.get objects c.args.file)
