-- Sessions with a client: what is sent for the bytes that are read.
use Rattle.std.specs.Prelude.{◌≡◌, ℕ, Bool, false, true, List, [], ◌∷◌, ◌++◌, codes, length, decimal, Option, Some, IfSome, ⊤}
use Rattle.bl_io.specs.Held.{Appends}
use Rattle.bl_lsp.specs.Deeds.{Todo, leave}
use Rattle.bl_lsp.specs.Framing.{Framing, framing_after, at_head, says}
use Rattle.bl_lsp.specs.Written.{with_header}
use Rattle.bl_lsp.specs.declared.framer.Taken.TheVariants as taken
use Rattle.bl_lsp.specs.declared.phase.Phase.{Phase}
use Rattle.bl_lsp.specs.declared.phase.Phase.TheVariants as phase
use Rattle.bl_lsp_session.specs.Answers.{Hears}
use Rattle.bl_lsp_session.specs.declared.serving.Course.{Course}
use Rattle.bl_lsp_session.specs.declared.serving.Course.TheVariants as course
use Rattle.bl_lsp_session.specs.declared.serving.Ended.{Ended}
use Rattle.bl_lsp_session.specs.declared.serving.Ended.TheVariants as ended
use Rattle.bl_lsp_session.specs.declared.serving.Server.{Server}
use Rattle.bl_lsp_session.specs.declared.serving.TheConstants.{NO_MEMORY}

-- before the first byte of a session
abbrev pub at_first : Server
at_first = record { framer = at_head; phase = phase.Fresh }

-- a message of a session: what is sent for it, and the phase after it
pub data Serves (before : Phase) (content sent : List ℕ) (behind : Phase) : Type 0 where
  -- the message is heard
  heard : (todo : Todo) → Hears before content sent behind todo → Serves before content sent behind
  -- memory lacks for what it asks, which is said
  short : sent ≡ NO_MEMORY.now → behind ≡ before → Serves before content sent behind

-- a byte of a session: what is sent for the message that it completes, and where the session stands then
pub data Takes (before : Server) (byte : ℕ) (sent : List ℕ) (behind : Server) : Type 0 where
  -- the byte completes nothing
  more : says before.framer byte ≡ taken.More → sent ≡ [] → behind.framer ≡ framing_after before.framer byte → behind.phase ≡ before.phase →
      Takes before byte sent behind
  -- the byte completes a message
  whole : says before.framer byte ≡ taken.Whole → Serves before.phase (framing_after before.framer byte).got sent behind.phase →
      behind.framer ≡ at_head → Takes before byte sent behind

-- bytes of a session one after another: what is sent for them, and where the session stands then
abbrev pub Session : Server → List ℕ → List ℕ → Server → Type 0
Session before [] sent behind = (sent ≡ []) × (behind ≡ before)
Session before (byte ∷ rest) sent behind =
    (first : List ℕ) × (later : List ℕ) × (mid : Server) × Takes before byte first mid × (sent ≡ first ++ later) × Session mid rest later behind

-- a byte was taken: what a sink holds grew by what was sent for it, where that is told
pub record HasTaken (before : Server) (byte : ℕ) (behind : Server) (held now : Option (List ℕ)) : Type 0 where
  pub sent : List ℕ
  pub takes : Takes before byte sent behind
  pub appends : Appends held sent now

-- bytes were taken: what a sink holds grew by what was sent for them, where that is told
pub record HasFed (before : Server) (piece : List ℕ) (behind : Server) (held now : Option (List ℕ)) : Type 0 where
  pub sent : List ℕ
  pub session : Session before piece sent behind
  pub appends : Appends held sent now

-- ---- the end of a session

-- a message with which the client leaves in this phase
pub record LeavesBy (before : Server) (byte : ℕ) (behind : Phase) : Type 0 where
  pub sent : List ℕ
  pub whole : says before.framer byte ≡ taken.Whole
  pub hears : Hears before.phase (framing_after before.framer byte).got sent behind leave

-- a session ends so with a byte; of want of memory, and of streams that fail, nothing is said
abbrev pub Stops : Server → ℕ → Ended → Type 0
Stops before byte ended.Left = LeavesBy before byte phase.Shut
Stops before byte ended.Cut = (behind : Phase) × LeavesBy before byte behind
Stops before byte ended.Broken = says before.framer byte ≡ taken.Broken
Stops before byte ended.Failed = ⊤
Stops before byte ended.NoMemory = ⊤

-- how the call ends that takes a byte
abbrev pub TakeEnds : Server → ℕ → Server → Option (List ℕ) → Option (List ℕ) → Course → Type 0
TakeEnds before byte behind held now course.On = HasTaken before byte behind held now
TakeEnds before byte behind held now (course.Over how) = Stops before byte how

-- bytes were taken up to one with which the session ends
pub record FedUpTo (before : Server) (piece : List ℕ) (held : Option (List ℕ)) (how : Ended) : Type 0 where
  pub read : List ℕ
  pub byte : ℕ
  pub rest : List ℕ
  pub is : piece ≡ read ++ byte ∷ rest
  pub last : Server
  pub between : Option (List ℕ)
  pub fed : HasFed before read last held between
  pub stops : Stops last byte how

-- how the call ends that takes bytes
abbrev pub FeedEnds : Server → List ℕ → Server → Option (List ℕ) → Option (List ℕ) → Course → Type 0
FeedEnds before piece behind held now course.On = HasFed before piece behind held now
FeedEnds before piece behind held now (course.Over how) = FedUpTo before piece held how

-- ---- the stream

-- what is left of a stream behind a piece, where it is told
abbrev pub LeftBehind : List ℕ → Option (List ℕ) → Option (List ℕ) → Type 0
LeftBehind piece left now = IfSome left (λ bytes. (rest : List ℕ) × (bytes ≡ piece ++ rest) × (now ≡ Some rest))

-- a piece of the stream was read and taken
pub record HasRead (before : Server) (left : Option (List ℕ)) (behind : Server) (now held holds : Option (List ℕ)) : Type 0 where
  pub piece : List ℕ
  pub fed : HasFed before piece behind held holds
  pub rest : LeftBehind piece left now

-- why a session ends, with the next piece of the stream
pub data ReadStops (before : Server) (left now held : Option (List ℕ)) : Ended → Type 0 where
  -- the stream ends here
  at_end : IfSome left (λ bytes. bytes ≡ []) → ReadStops before left now held ended.Cut
  -- a byte of the piece ends it
  by_byte : {how : Ended} (piece : List ℕ) → FedUpTo before piece held how → LeftBehind piece left now → ReadStops before left now held how
  -- the stream can't be read
  fails : ReadStops before left now held ended.Failed

-- how the call ends that reads a piece and takes it
abbrev pub ReadEnds : Server → Option (List ℕ) → Server → Option (List ℕ) → Option (List ℕ) → Option (List ℕ) → Course → Type 0
ReadEnds before left behind now held holds course.On = HasRead before left behind now held holds
ReadEnds before left behind now held holds (course.Over how) = ReadStops before left now held how

-- a whole session ended so: bytes were read from the first on and what was due for them was sent, and then the stream or a byte ended it
pub record Served (left now held : Option (List ℕ)) (how : Ended) : Type 0 where
  pub last : Server
  pub there : Option (List ℕ)
  pub then_held : Option (List ℕ)
  pub read : HasRead at_first left last there held then_held
  pub ends : ReadStops last there now then_held how

-- how the call ends that serves a client; of streams that fail nothing more is said
abbrev pub ServeEnds : Option (List ℕ) → Option (List ℕ) → Option (List ℕ) → Ended → Type 0
ServeEnds left now held ended.Left = Served left now held ended.Left
ServeEnds left now held ended.Cut = Served left now held ended.Cut
ServeEnds left now held ended.Broken = Served left now held ended.Broken
ServeEnds left now held ended.NoMemory = Served left now held ended.NoMemory
ServeEnds left now held ended.Failed = ⊤
