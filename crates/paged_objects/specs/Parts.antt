-- The parts of a store of objects in pages.
use Rattle.name_index.specs.declared.index.NameIndex.{NameIndex}
use Rattle.object_store.specs.declared.table.ObjectTable.{ObjectTable}
use Rattle.pages.specs.State.{PagesState}
use Rattle.paged_objects.specs.Known.{ObjectsState, state_with}
use Rattle.paged_objects.specs.declared.store.PagedObjects.{PagedObjects}

-- the pages that the objects lie in
abbrev pub pages_of : {P : Type 0} → PagedObjects P → P
pages_of o = o.pages

-- the table that reports on the objects
abbrev pub table_of : {P : Type 0} → PagedObjects P → ObjectTable
table_of o = o.table

-- the index of the names of the objects
abbrev pub names_of : {P : Type 0} → PagedObjects P → NameIndex
names_of o = o.names

-- the state of the store, by what its pages are
abbrev pub state_of : {P : Type 0} → (P → PagesState) → PagedObjects P → ObjectsState
state_of state o = state_with (state o.pages) o.table o.names
