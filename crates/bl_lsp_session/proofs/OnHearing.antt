-- What came of a message, put together.
use Rattle.std.proofs.Common.{◌≡◌, ℕ, Bool, true, false, List, Option, Some, None, refl, sym, ◌∙◌}
use Rattle.std.specs.Str.{IsUtf8}
use Rattle.serde_json.specs.Data.{Data, Items, item, no_items, null}
use Rattle.serde_json.specs.Read.{read}
use Rattle.bl_lsp.specs.Deeds.{Todo, clear, deed_of, idle, judge, leave, phase_after, reply}
use Rattle.bl_lsp.specs.Replies.{refusal_data}
use Rattle.bl_lsp.specs.Written.{IsMessage}
use Rattle.bl_lsp.specs.declared.phase.Phase.{Phase}
use Rattle.bl_lsp.specs.declared.replies.Fault.TheVariants as fault
use Rattle.bl_lsp_session.specs.Answers.{Does, Hears, garbled, told}
use Rattle.bl_lsp_session.specs.declared.hearing.Heard.{Heard}
use Rattle.bl_lsp_session.specs.inner.Heard.{IsHeard, leaves}

pub heard_told : (before : Phase) (content : List ℕ) (message : Data) (heard : Heard) → read content ≡ Some message →
    Does (deed_of before message) heard.sent.items → heard.phase ≡ phase_after before message → heard.left ≡ leaves (deed_of before message) →
    IsHeard before content heard
heard_told before content message heard reads does phase left =
    record { todo = deed_of before message; hears = told message reads does phase refl; left = left }

pub heard_garbled : (before : Phase) (content : List ℕ) (heard : Heard) → (IsUtf8 content → read content ≡ None) →
    IsMessage (refusal_data null fault.ParseError) heard.sent.items → heard.phase ≡ before → heard.left ≡ false → IsHeard before content heard
heard_garbled before content heard none sent phase left =
    record { todo = idle; hears = garbled none sent phase refl; left = left }

-- a client leaves only by what asks for it
pub left_leaves : (todo : Todo) → true ≡ leaves todo → todo ≡ leave
left_leaves idle is = absurd (let wrong : true ≡ false = is in cc)
left_leaves (reply message) is = absurd (let wrong : true ≡ false = is in cc)
left_leaves (judge doc) is = absurd (let wrong : true ≡ false = is in cc)
left_leaves (clear uri) is = absurd (let wrong : true ≡ false = is in cc)
left_leaves leave is = refl
