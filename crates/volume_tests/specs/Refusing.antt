-- What is known of pages that refuse memory.
use Rattle.std.specs.Prelude.{ℕ, ◌+◌, false}
use Rattle.pages.specs.State.{PagesState}

-- the same, with growths that were refused besides, and nothing promised of what the pages are
abbrev pub refusing : ℕ → PagesState → PagesState
refusing answers p = record p { sound = false; refused = answers + p.refused }
