-- What came of a message, as values of the code.
use Rattle.std.specs.Prelude.{◌≡◌, ℕ, Bool, false, true, List}
use Rattle.bl_lsp.specs.Deeds.{Todo, clear, idle, judge, leave, reply}
use Rattle.bl_lsp.specs.declared.phase.Phase.{Phase}
use Rattle.bl_lsp_session.specs.Answers.{Hears}
use Rattle.bl_lsp_session.specs.declared.hearing.Heard.{Heard}

-- whether the session ends
abbrev pub leaves : Todo → Bool
leaves idle = false
leaves (reply message) = false
leaves (judge doc) = false
leaves (clear uri) = false
leaves leave = true

-- what came of a content: what is sent, the phase, and whether the client leaves
pub record IsHeard (before : Phase) (content : List ℕ) (heard : Heard) : Type 0 where
  pub todo : Todo
  pub hears : Hears before content heard.sent.items heard.phase todo
  pub left : heard.left ≡ leaves todo
