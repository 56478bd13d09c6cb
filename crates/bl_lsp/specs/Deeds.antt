-- What a message asks of the server.
use Rattle.std.specs.Prelude.{ℕ, List, codes, Option, Some, None, string_bytes}
use Rattle.serde_json.specs.Data.{Data, null}
use Rattle.serde_json.specs.Find.{pointer}
use Rattle.serde_json.specs.View.{view}
use Rattle.bl_lsp.specs.Documents.{Doc, changed_doc, doc_of, opened_doc, uri_in}
use Rattle.bl_lsp.specs.Kinds.{kind_of, notice_of, request_of}
use Rattle.bl_lsp.specs.Replies.{capabilities, id_or_null, refusal_data, response_data}
use Rattle.bl_lsp.specs.declared.deed.Deed.{Deed}
use Rattle.bl_lsp.specs.declared.deed.Deed.TheVariants as deed
use Rattle.bl_lsp.specs.declared.kind.Kind.{Kind}
use Rattle.bl_lsp.specs.declared.kind.Kind.TheVariants as kind
use Rattle.bl_lsp.specs.declared.kind.Notice.{Notice}
use Rattle.bl_lsp.specs.declared.kind.Notice.TheVariants as notice
use Rattle.bl_lsp.specs.declared.kind.Request.{Request}
use Rattle.bl_lsp.specs.declared.kind.Request.TheVariants as request
use Rattle.bl_lsp.specs.declared.phase.Answer.{Answer}
use Rattle.bl_lsp.specs.declared.phase.Answer.TheVariants as answer
use Rattle.bl_lsp.specs.declared.phase.Phase.{Phase}
use Rattle.bl_lsp.specs.declared.phase.Phase.TheVariants as phase
use Rattle.bl_lsp.specs.declared.replies.Fault.TheVariants as fault

-- what is done for a message
pub data Todo : Type 0 where
  -- nothing
  idle : Todo
  -- this is sent
  reply : Data → Todo
  -- the text is judged, and what is found is published
  judge : Doc → Todo
  -- nothing is found in the document of this name, which is published
  clear : List ℕ → Todo
  -- the session ends
  leave : Todo

-- what a deed does
abbrev pub todo_of : Deed → Todo
todo_of deed.Nothing = idle
todo_of (deed.Reply value) = reply (view value)
todo_of (deed.Judge document) = judge (doc_of document)
todo_of (deed.Clear uri) = clear (string_bytes uri)
todo_of deed.Leave = leave

-- ---- requests

-- what a request is answered in a phase
abbrev pub answer_to : Phase → Request → Answer
answer_to phase.Fresh request.Initialize = answer.Capabilities
answer_to phase.Fresh request.Shutdown = answer.Refused fault.NotInitialized
answer_to phase.Fresh request.Other = answer.Refused fault.NotInitialized
answer_to phase.Running request.Initialize = answer.Refused fault.InvalidRequest
answer_to phase.Running request.Shutdown = answer.Null
answer_to phase.Running request.Other = answer.Refused fault.MethodNotFound
answer_to phase.Shut asked = answer.Refused fault.InvalidRequest

-- the phase behind an answer
abbrev pub phase_by : Phase → Answer → Phase
phase_by before answer.Capabilities = phase.Running
phase_by before answer.Null = phase.Shut
phase_by before (answer.Refused why) = before

-- the phase behind a request
abbrev pub phase_behind : Phase → Request → Phase
phase_behind before asked = phase_by before (answer_to before asked)

-- the phase behind a message of this kind
abbrev pub phase_after_kind : Phase → Kind → Data → Phase
phase_after_kind before kind.Request message = phase_behind before (request_of message)
phase_after_kind before kind.Notice message = before
phase_after_kind before kind.Answer message = before
phase_after_kind before kind.Invalid message = before

-- the phase behind a message
abbrev pub phase_after : Phase → Data → Phase
phase_after before message = phase_after_kind before (kind_of message) message

-- a result, by the id of its request
abbrev pub replied_with : Option Data → Data → Todo
replied_with None outcome = idle
replied_with (Some id) outcome = reply (response_data id outcome)

-- an answer to the request with this id
abbrev pub answered : Answer → Option Data → Todo
answered answer.Capabilities id = replied_with id capabilities
answered answer.Null id = replied_with id null
answered (answer.Refused why) id = reply (refusal_data (id_or_null id) why)

-- ---- notifications

-- a document is judged, where the message has one
abbrev pub judging : Option Doc → Todo
judging None = idle
judging (Some doc) = judge doc

-- a document is closed, where the message names one
abbrev pub clearing : Option (List ℕ) → Todo
clearing None = idle
clearing (Some uri) = clear uri

-- what is done for a document
abbrev pub synchronized : Notice → Data → Todo
synchronized notice.Exit message = idle
synchronized notice.Open message = judging (opened_doc message)
synchronized notice.Change message = judging (changed_doc message)
synchronized notice.Close message = clearing (uri_in message)
synchronized notice.Other message = idle

-- what is done for a document in a phase
abbrev pub synchronized_in : Phase → Notice → Data → Todo
synchronized_in phase.Fresh told message = idle
synchronized_in phase.Running told message = synchronized told message
synchronized_in phase.Shut told message = idle

-- what is done for a notification
abbrev pub noticed : Phase → Notice → Data → Todo
noticed before notice.Exit message = leave
noticed before notice.Open message = synchronized_in before notice.Open message
noticed before notice.Change message = synchronized_in before notice.Change message
noticed before notice.Close message = synchronized_in before notice.Close message
noticed before notice.Other message = idle

-- ---- messages

-- what is done for a message of this kind
abbrev pub deed_for : Phase → Kind → Data → Todo
deed_for before kind.Request message = answered (answer_to before (request_of message)) (pointer (codes "/id") message)
deed_for before kind.Notice message = noticed before (notice_of message) message
deed_for before kind.Answer message = idle
deed_for before kind.Invalid message = answered (answer.Refused fault.InvalidRequest) (pointer (codes "/id") message)

-- what is done for a message
abbrev pub deed_of : Phase → Data → Todo
deed_of before message = deed_for before (kind_of message) message
