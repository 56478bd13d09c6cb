-- Messages that the server sends, as JSON data. The members of an object stand in the order of their names.
use Rattle.std.specs.Prelude.{ℕ, ℤ, negsuc, List, codes, true, if◌then◌else◌, Option, unwrap_or}
use Rattle.serde_json.specs.Data.{Data, boolean, member, no_members, null, number, object, string, unsigned}
use Rattle.serde_json.specs.Find.{of_integer}
use Rattle.bl_lsp.specs.Kinds.{is_id}
use Rattle.bl_lsp.specs.declared.replies.Fault.{Fault}
use Rattle.bl_lsp.specs.declared.replies.Fault.TheVariants as fault

-- the protocol's number of a refusal: -32700, -32600, -32601 and -32002
abbrev pub code_of : Fault → ℤ
code_of fault.ParseError = negsuc 32699
code_of fault.InvalidRequest = negsuc 32599
code_of fault.MethodNotFound = negsuc 32600
code_of fault.NotInitialized = negsuc 32001

-- its words
abbrev pub text_of : Fault → List ℕ
text_of fault.ParseError = codes "parse error"
text_of fault.InvalidRequest = codes "invalid request"
text_of fault.MethodNotFound = codes "method not found"
text_of fault.NotInitialized = codes "server not initialized"

-- what the server can do: it takes whole texts, and counts by UTF-16 units
abbrev pub capabilities : Data
capabilities =
    object (member (codes "capabilities")
    (object (member (codes "positionEncoding") (string (codes "utf-16"))
    (member (codes "textDocumentSync")
    (object (member (codes "change") (number (unsigned 1)) (member (codes "openClose") (boolean true) no_members))) no_members)))
    (member (codes "serverInfo") (object (member (codes "name") (string (codes "blech_ls")) no_members)) no_members))

-- the answer with a result
abbrev pub response_data : Data → Data → Data
response_data id outcome =
    object (member (codes "id") id (member (codes "jsonrpc") (string (codes "2.0")) (member (codes "result") outcome no_members)))

-- the error of an answer
abbrev pub error_data : Fault → Data
error_data fault =
    object (member (codes "code") (number (of_integer (code_of fault))) (member (codes "message") (string (text_of fault)) no_members))

-- the answer with an error
abbrev pub refusal_data : Data → Fault → Data
refusal_data id fault =
    object (member (codes "error") (error_data fault) (member (codes "id") id (member (codes "jsonrpc") (string (codes "2.0")) no_members)))

-- the id of a message, if it can be answered by it, and else null
abbrev pub id_or_null : Option Data → Data
id_or_null id = if is_id id then unwrap_or id null else null

-- a notification
abbrev pub notice_data : List ℕ → Data → Data
notice_data method params =
    object (member (codes "jsonrpc") (string (codes "2.0")) (member (codes "method") (string method) (member (codes "params") params no_members)))
