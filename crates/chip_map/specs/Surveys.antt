-- What a survey has.
use Rattle.std.specs.Prelude.{List}
use Rattle.nand_model.specs.declared.geometry.Geometry.{Geometry}
use Rattle.flash_tree.specs.declared.place.TagNumbers.{TagNumbers}
use Rattle.chip_map.specs.declared.page_state.SurveyedPage.{SurveyedPage}
use Rattle.chip_map.specs.declared.surveyed.Survey.{Survey}

-- its pages, one block after another
abbrev pub pages_of : Survey → List SurveyedPage
pages_of survey = survey.pages.items

-- the sizes of the device
abbrev pub geometry_of : Survey → Geometry
geometry_of survey = survey.geometry

-- the greatest numbers of valid tags
abbrev pub greatest_of : Survey → TagNumbers
greatest_of survey = survey.numbers
