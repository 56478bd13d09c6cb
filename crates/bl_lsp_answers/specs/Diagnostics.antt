-- What is published of a text, as JSON data. The members of an object stand in the order of their names.
use Rattle.std.specs.Prelude.{ℕ, ℤ, List, codes, map}
use Rattle.serde_json.specs.Data.{Data, Items, array, item, member, no_items, no_members, number, object, string, unsigned}
use Rattle.serde_json.specs.Find.{of_integer}
use Rattle.serde_json.specs.View.{items_of}
use Rattle.bl_lsp.specs.Replies.{notice_data}
use Rattle.bl_lsp_answers.specs.Sentences.{further_of, sentence_of}
use Rattle.bl_lsp_text.specs.Positions.{position_at}
use Rattle.bl_lsp_text.specs.declared.position.Position.{Position}
use Rattle.bl_tree.specs.declared.place.Place.{Place}
use Rattle.bl_tree.specs.declared.rule.Rule.{Rule}
use Rattle.bl_tree.specs.Rules.{number_of}

-- a position
abbrev pub position_data : Position → Data
position_data position =
    object (member (codes "character") (number (unsigned position.character)) (member (codes "line") (number (unsigned position.line)) no_members))

-- the range of a place of a text
abbrev pub range_data : List ℕ → Place → Data
range_data text place =
    object (member (codes "end") (position_data (position_at text place.end))
    (member (codes "start") (position_data (position_at text place.start)) no_members))

-- the place of a text with this name
abbrev pub location_data : List ℕ → List ℕ → Place → Data
location_data uri text place = object (member (codes "range") (range_data text place) (member (codes "uri") (string uri) no_members))

-- a further place of a rule that fails
abbrev pub related_data : List ℕ → List ℕ → Rule → Place → Data
related_data uri text rule place =
    object (member (codes "location") (location_data uri text place) (member (codes "message") (string (further_of rule)) no_members))

-- a rule that fails in a range, with what is said of its further places
abbrev pub assembled_data : Rule → Data → Items → Data
assembled_data rule range related =
    object (member (codes "code") (number (unsigned (number_of rule)))
    (member (codes "message") (string (sentence_of rule))
    (member (codes "range") range
    (member (codes "relatedInformation") (array related)
    (member (codes "severity") (number (unsigned 1)) (member (codes "source") (string (codes "blechc")) no_members))))))

-- a rule that fails at a place of a text, with its further places
abbrev pub diagnostic_data : List ℕ → List ℕ → Rule → Place → List Place → Data
diagnostic_data uri text rule place also = assembled_data rule (range_data text place) (items_of (map (related_data uri text rule) also))

-- the name of the notification
abbrev pub method : List ℕ
method = codes "textDocument/publishDiagnostics"

-- the notification of what was found in a text
abbrev pub published_data : List ℕ → ℤ → Items → Data
published_data uri version found =
    notice_data method (object (member (codes "diagnostics") (array found)
    (member (codes "uri") (string uri) (member (codes "version") (number (of_integer version)) no_members))))

-- the notification that nothing is found in a document that was closed
abbrev pub cleared_data : List ℕ → Data
cleared_data uri = notice_data method (object (member (codes "diagnostics") (array no_items) (member (codes "uri") (string uri) no_members)))
