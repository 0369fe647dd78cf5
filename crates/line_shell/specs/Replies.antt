-- The text of replies.
use Rattle.std.specs.Prelude.{ℕ, List, [], ◌∷◌, ◌++◌, length, codes, decimal, flat_map}
use Rattle.posix_profile.specs.declared.reply.Errno.{Errno}
use Rattle.posix_profile.specs.declared.reply.Errno.TheVariants as errors
use Rattle.posix_profile.specs.declared.reply.Kind.{Kind}
use Rattle.posix_profile.specs.declared.reply.Kind.TheVariants as kinds
use Rattle.posix_profile.specs.declared.reply.Reply.{Reply}
use Rattle.posix_profile.specs.declared.reply.Reply.TheVariants as replies
use Rattle.posix_profile.specs.NameSteps.{reported_size}
use Rattle.line_shell.specs.Words.{space, spelled}

-- the byte at the end of a line
abbrev pub newline : ℕ
newline = 10

-- the name of an error
abbrev pub error_name : Errno → List ℕ
error_name errors.EBADF = codes "EBADF"
error_name errors.EBUSY = codes "EBUSY"
error_name errors.EEXIST = codes "EEXIST"
error_name errors.EFBIG = codes "EFBIG"
error_name errors.EINVAL = codes "EINVAL"
error_name errors.EIO = codes "EIO"
error_name errors.EISDIR = codes "EISDIR"
error_name errors.EMFILE = codes "EMFILE"
error_name errors.ENAMETOOLONG = codes "ENAMETOOLONG"
error_name errors.ENOENT = codes "ENOENT"
error_name errors.ENOMEM = codes "ENOMEM"
error_name errors.ENOSPC = codes "ENOSPC"
error_name errors.ENOTDIR = codes "ENOTDIR"
error_name errors.ENOTEMPTY = codes "ENOTEMPTY"
error_name errors.EOVERFLOW = codes "EOVERFLOW"
error_name errors.EPERM = codes "EPERM"
error_name errors.EROFS = codes "EROFS"

-- the word for a kind
abbrev pub kind_name : Kind → List ℕ
kind_name kinds.File = codes "file"
kind_name kinds.Directory = codes "dir"

-- each number after a space
abbrev pub numbers_text : List ℕ → List ℕ
numbers_text numbers = flat_map (λ n. space ∷ decimal n) numbers

-- each name after a space, as a word
abbrev pub names_text : List (List ℕ) → List ℕ
names_text names = flat_map (λ name. space ∷ spelled name) names

-- a reply without the end of its line
abbrev pub reply_words : Reply → List ℕ
reply_words replies.Done = codes "ok"
reply_words (replies.Fd fd) = codes "fd" ++ numbers_text (fd ∷ [])
reply_words (replies.Data bytes) = codes "data" ++ numbers_text (length bytes ∷ []) ++ (space ∷ spelled bytes)
reply_words (replies.Wrote count) = codes "wrote" ++ numbers_text (count ∷ [])
reply_words (replies.At offset) = codes "at" ++ numbers_text (offset ∷ [])
reply_words (replies.Info info) = codes "info " ++ kind_name info.kind ++ numbers_text (info.object ∷ info.links ∷ reported_size info.kind info.size ∷ info.moment ∷ [])
reply_words (replies.Names names) = codes "names" ++ numbers_text (length names ∷ []) ++ names_text names
reply_words (replies.SpaceInfo space') = codes "space" ++ numbers_text (space'.unit ∷ space'.total ∷ space'.free ∷ [])
reply_words (replies.Error error) = codes "error " ++ error_name error

-- the text of a reply, a line
unfoldable pub reply_text : Reply → List ℕ
reply_text reply = reply_words reply ++ (newline ∷ [])

-- the answer to a bad line
abbrev pub bad_line_text : List ℕ
bad_line_text = codes "bad line" ++ (newline ∷ [])
