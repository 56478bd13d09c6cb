-- Documents that a message opens or changes.
use Rattle.std.specs.Prelude.{ℕ, suc, ◌-◌, ℤ, List, codes, if◌then◌else◌, nat_eq, Option, Some, None, option_and_then, string_bytes}
use Rattle.std.specs.Option.{option_map_or}
use Rattle.serde_json.specs.Data.{Data, Items, no_items, item}
use Rattle.serde_json.specs.Find.{as_array, as_i64, as_number, at, pointer}
use Rattle.bl_lsp.specs.Kinds.{is_there, text_at}
use Rattle.bl_lsp.specs.declared.documents.Document.{Document}

-- a client's text, by its name, with the client's number of its changes
pub record Doc : Type 0 where
  pub uri : List ℕ
  pub version : ℤ
  pub text : List ℕ

-- what a document is
abbrev pub doc_of : Document → Doc
doc_of document = record { uri = string_bytes document.uri; version = document.version; text = string_bytes document.text }

-- the document of these parts, if all are there
abbrev pub doc_from : Option (List ℕ) → Option ℤ → Option (List ℕ) → Option Doc
doc_from None version text = None
doc_from (Some uri) None text = None
doc_from (Some uri) (Some version) None = None
doc_from (Some uri) (Some version) (Some text) = Some (record { uri = uri; version = version; text = text })

-- the name of a message's document
abbrev pub uri_in : Data → Option (List ℕ)
uri_in message = text_at (codes "/params/textDocument/uri") message

-- the number of changes of a message's document
abbrev pub version_in : Data → Option ℤ
version_in message = option_and_then as_i64 (option_and_then as_number (pointer (codes "/params/textDocument/version") message))

-- the document that a message opens
abbrev pub opened_doc : Data → Option Doc
opened_doc message = doc_from (uri_in message) (version_in message) (text_at (codes "/params/textDocument/text") message)

-- how many items there are
abbrev pub count : Items → ℕ
count no_items = 0
count (item d ds) = suc (count ds)

-- how many items an array has; none where it is something else
abbrev pub items_in : Data → ℕ
items_in changes = option_map_or count (as_array changes) 0

-- the last item of an array
abbrev pub last_item : Data → Option Data
last_item changes = if nat_eq (items_in changes) 0 then None else at (items_in changes - 1) changes

-- the last change of a message
abbrev pub last_change : Data → Option Data
last_change message = option_and_then last_item (pointer (codes "/params/contentChanges") message)

-- the text of a change of the whole: one of a part is none of this server's
abbrev pub whole_text : Data → Option (List ℕ)
whole_text change = if is_there (codes "/range") change then None else text_at (codes "/text") change

-- the text that the last change of a message sets, which those before it don't alter
abbrev pub changed_text : Data → Option (List ℕ)
changed_text message = option_and_then whole_text (last_change message)

-- the document that a message changes, with its new text
abbrev pub changed_doc : Data → Option Doc
changed_doc message = doc_from (uri_in message) (version_in message) (changed_text message)
