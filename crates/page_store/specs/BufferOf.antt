-- What a buffer is.
use Rattle.std.specs.Prelude.{ℕ, List, ◌≡◌, []}
use Rattle.flash_tree.specs.declared.place.FreshPage.{FreshPage}
use Rattle.page_store.specs.declared.buffer.Buffer.{Buffer}

-- its pages, in the order of their places
abbrev pub contents : Buffer → List FreshPage
contents it = it.pages.items

-- the pages that were written last and not taken since
abbrev pub last_written : Buffer → List FreshPage
last_written it = it.written.items

-- how many pages it holds at most
abbrev pub most_pages : Buffer → ℕ
most_pages it = it.most

-- the bytes of a page
abbrev pub bytes_of_page : Buffer → ℕ
bytes_of_page it = it.page_bytes

-- the buffer was written: it has no pages any more, and those that it had are the last written
pub record HasSettled (old new : Buffer) : Type 0 where
  pub empty : contents new ≡ []
  pub written : last_written new ≡ contents old
