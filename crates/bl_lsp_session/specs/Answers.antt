-- What is sent for the content of a message.
use Rattle.std.specs.Prelude.{◌≡◌, ℕ, List, [], Some, None}
use Rattle.std.specs.Str.{IsUtf8}
use Rattle.serde_json.specs.Data.{Data, Items, null}
use Rattle.serde_json.specs.Read.{read}
use Rattle.bl_lsp.specs.Deeds.{Todo, clear, deed_of, idle, judge, leave, phase_after, reply}
use Rattle.bl_lsp.specs.Documents.{Doc}
use Rattle.bl_lsp.specs.Replies.{refusal_data}
use Rattle.bl_lsp.specs.Written.{IsMessage}
use Rattle.bl_lsp.specs.declared.phase.Phase.{Phase}
use Rattle.bl_lsp.specs.declared.replies.Fault.TheVariants as fault
use Rattle.bl_lsp_answers.specs.Diagnostics.{cleared_data, published_data}
use Rattle.bl_lsp_session.specs.Found.{Found}

-- what is published of a document: what is found in its text
pub record IsPublished (doc : Doc) (message : Data) : Type 0 where
  pub found : Items
  pub is_found : Found doc.uri doc.text found
  pub is : message ≡ published_data doc.uri doc.version found

-- the bytes are a message that publishes what is found in a document
pub record Publishes (doc : Doc) (bytes : List ℕ) : Type 0 where
  pub message : Data
  pub is_published : IsPublished doc message
  pub is_message : IsMessage message bytes

-- the bytes that are sent for what is to be done
abbrev pub Does : Todo → List ℕ → Type 0
Does idle bytes = bytes ≡ []
Does (reply message) bytes = IsMessage message bytes
Does (judge doc) bytes = Publishes doc bytes
Does (clear uri) bytes = IsMessage (cleared_data uri) bytes
Does leave bytes = bytes ≡ []

-- the content of a message, in the phase of the session: what is sent for it, the phase after it, and what it asked
pub data Hears (before : Phase) (content sent : List ℕ) (behind : Phase) (todo : Todo) : Type 0 where
  -- the content is no JSON
  garbled : (IsUtf8 content → read content ≡ None) → IsMessage (refusal_data null fault.ParseError) sent → behind ≡ before → todo ≡ idle →
      Hears before content sent behind todo
  -- the content is JSON
  told : (message : Data) → read content ≡ Some message → Does todo sent → behind ≡ phase_after before message → todo ≡ deed_of before message →
      Hears before content sent behind todo
