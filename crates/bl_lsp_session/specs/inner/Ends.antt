-- How the calls end that hear a message and send what is due for it.
use Rattle.std.specs.Prelude.{◌≡◌, ℕ, Bool, false, true, List, Option, ⊤}
use Rattle.bl_io.specs.Held.{Appends}
use Rattle.bl_lsp.specs.Deeds.{leave}
use Rattle.bl_lsp.specs.Framing.{at_head}
use Rattle.bl_lsp.specs.declared.phase.Phase.{Phase}
use Rattle.bl_lsp.specs.declared.phase.Phase.TheVariants as phase
use Rattle.bl_lsp_session.specs.Answers.{Hears}
use Rattle.bl_lsp_session.specs.Sessions.{Serves}
use Rattle.bl_lsp_session.specs.declared.hearing.Heard.{Heard}
use Rattle.bl_lsp_session.specs.declared.serving.Course.{Course}
use Rattle.bl_lsp_session.specs.declared.serving.Course.TheVariants as course
use Rattle.bl_lsp_session.specs.declared.serving.Ended.{Ended}
use Rattle.bl_lsp_session.specs.declared.serving.Ended.TheVariants as ended
use Rattle.bl_lsp_session.specs.declared.serving.Server.{Server}

-- how the call ends that writes bytes
abbrev pub WriteEnds : List ℕ → Option (List ℕ) → Option (List ℕ) → Course → Type 0
WriteEnds bytes held now course.On = Appends held bytes now
WriteEnds bytes held now (course.Over ended.Failed) = ⊤
WriteEnds bytes held now (course.Over ended.Left) = ⊥
WriteEnds bytes held now (course.Over ended.Cut) = ⊥
WriteEnds bytes held now (course.Over ended.Broken) = ⊥
WriteEnds bytes held now (course.Over ended.NoMemory) = ⊥

-- whether a session goes on behind a message, by the phase if the client leaves
abbrev pub course_behind : Bool → Phase → Course
course_behind false behind = course.On
course_behind true phase.Fresh = course.Over ended.Cut
course_behind true phase.Running = course.Over ended.Cut
course_behind true phase.Shut = course.Over ended.Left

-- the client leaves with this content
pub record LeavesWith (before : Phase) (content : List ℕ) (behind : Phase) : Type 0 where
  pub sent : List ℕ
  pub hears : Hears before content sent behind leave

-- a session ends with a content
abbrev pub HearStops : Phase → List ℕ → Ended → Type 0
HearStops before content ended.Left = LeavesWith before content phase.Shut
HearStops before content ended.Cut = (behind : Phase) × LeavesWith before content behind
HearStops before content ended.Broken = ⊥
HearStops before content ended.Failed = ⊤
HearStops before content ended.NoMemory = ⊤

-- a content was heard: what a sink holds grew by what was sent for it, where that is told
pub record HasHeard (before : Phase) (content : List ℕ) (behind : Server) (held now : Option (List ℕ)) : Type 0 where
  pub sent : List ℕ
  pub serves : Serves before content sent behind.phase
  pub appends : Appends held sent now
  pub framer : behind.framer ≡ at_head

-- how the call ends that hears a content
abbrev pub HearEnds : Phase → List ℕ → Server → Option (List ℕ) → Option (List ℕ) → Course → Type 0
HearEnds before content behind held now course.On = HasHeard before content behind held now
HearEnds before content behind held now (course.Over how) = HearStops before content how

-- how the call ends that sends what came of a message
abbrev pub SendEnds : Heard → Server → Option (List ℕ) → Option (List ℕ) → Course → Type 0
SendEnds heard behind held now course.On =
    Appends held heard.sent.items now × (behind.phase ≡ heard.phase) × (heard.left ≡ false)
SendEnds heard behind held now (course.Over ended.Failed) = ⊤
SendEnds heard behind held now (course.Over ended.Left) = (heard.left ≡ true) × (heard.phase ≡ phase.Shut)
SendEnds heard behind held now (course.Over ended.Cut) = heard.left ≡ true
SendEnds heard behind held now (course.Over ended.Broken) = ⊥
SendEnds heard behind held now (course.Over ended.NoMemory) = ⊥
