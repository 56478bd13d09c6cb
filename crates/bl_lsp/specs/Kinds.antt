-- What a message is, by what stands in it. Paths are JSON pointers (RFC 6901).
use Rattle.std.specs.Prelude.{ℕ, Bool, false, not, ◌||◌, if◌then◌else◌, List, codes, Option, Some, None, bytes_eq, is_some, option_and_then}
use Rattle.serde_json.specs.Data.{Data}
use Rattle.serde_json.specs.Find.{as_i64, as_number, as_str, as_u64, pointer}
use Rattle.bl_lsp.specs.declared.kind.Kind.{Kind}
use Rattle.bl_lsp.specs.declared.kind.Kind.TheVariants as kind
use Rattle.bl_lsp.specs.declared.kind.Notice.{Notice}
use Rattle.bl_lsp.specs.declared.kind.Notice.TheVariants as notice
use Rattle.bl_lsp.specs.declared.kind.Request.{Request}
use Rattle.bl_lsp.specs.declared.kind.Request.TheVariants as request

-- what stands at a path, if it is a text
abbrev pub text_at : List ℕ → Data → Option (List ℕ)
text_at path message = option_and_then as_str (pointer path message)

-- whether anything stands at a path
abbrev pub is_there : List ℕ → Data → Bool
is_there path message = is_some (pointer path message)

-- whether a text is there, and is this word
abbrev pub says_word : Option (List ℕ) → List ℕ → Bool
says_word None word = false
says_word (Some text) word = bytes_eq text word

-- whether this word stands at a path
abbrev pub says_at : List ℕ → List ℕ → Data → Bool
says_at path word message = says_word (text_at path message) word

-- whether an id is there by which a message can be answered: a text, or a whole number
abbrev pub is_id : Option Data → Bool
is_id None = false
is_id (Some id) = is_some (as_str id) || is_some (option_and_then as_i64 (as_number id)) || is_some (option_and_then as_u64 (as_number id))

-- what a message with a method is
abbrev pub kind_named : Data → Kind
kind_named message =
    if not (is_some (text_at (codes "/method") message)) then kind.Invalid
    else if not (is_there (codes "/id") message) then kind.Notice
    else if is_id (pointer (codes "/id") message) then kind.Request
    else kind.Invalid

-- what a message without a method is
abbrev pub kind_unnamed : Data → Kind
kind_unnamed message = if is_there (codes "/result") message || is_there (codes "/error") message then kind.Answer else kind.Invalid

-- what a message is
abbrev pub kind_of : Data → Kind
kind_of message =
    if not (says_at (codes "/jsonrpc") (codes "2.0") message) then kind.Invalid
    else if is_there (codes "/method") message then kind_named message
    else kind_unnamed message

-- ---- methods

-- the request with this method
abbrev pub request_named : List ℕ → Request
request_named name =
    if bytes_eq name (codes "initialize") then request.Initialize
    else if bytes_eq name (codes "shutdown") then request.Shutdown
    else request.Other

-- the request of a message
abbrev pub request_in : Option (List ℕ) → Request
request_in None = request.Other
request_in (Some name) = request_named name

-- the request that a message makes
abbrev pub request_of : Data → Request
request_of message = request_in (text_at (codes "/method") message)

-- the notification with this method
abbrev pub notice_named : List ℕ → Notice
notice_named name =
    if bytes_eq name (codes "exit") then notice.Exit
    else if bytes_eq name (codes "textDocument/didOpen") then notice.Open
    else if bytes_eq name (codes "textDocument/didChange") then notice.Change
    else if bytes_eq name (codes "textDocument/didClose") then notice.Close
    else notice.Other

-- the notification of a message
abbrev pub notice_in : Option (List ℕ) → Notice
notice_in None = notice.Other
notice_in (Some name) = notice_named name

-- what a message notifies of
abbrev pub notice_of : Data → Notice
notice_of message = notice_in (text_at (codes "/method") message)
