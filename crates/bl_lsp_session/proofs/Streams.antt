-- How the calls end that read a stream, by how the calls within them end.
use Rattle.std.proofs.Common.{◌≡◌, ℕ, ◌≤◌, List, length, take, Option, subst}
use Rattle.std.proofs.lemmas.List.{take_all}
use Rattle.bl_io.specs.Left.{HandsOver}
use Rattle.bl_lsp_session.specs.Sessions.{FedUpTo, FeedEnds, HasFed, HasRead, ReadEnds, ReadStops, ServeEnds, at_first, by_byte}
use Rattle.bl_lsp_session.specs.declared.serving.Course.{Course}
use Rattle.bl_lsp_session.specs.declared.serving.Course.TheVariants as course
use Rattle.bl_lsp_session.specs.declared.serving.Ended.{Ended}
use Rattle.bl_lsp_session.specs.declared.serving.Ended.TheVariants as ended
use Rattle.bl_lsp_session.specs.declared.serving.Server.{Server}
use Rattle.bl_lsp_session.proofs.Feeding.{left-handed}

-- a loop over a piece has come to its end
pub fed-all : (before behind : Server) (piece : List ℕ) (i : ℕ) (a b : Option (List ℕ)) → length piece ≤ i →
    HasFed before (take i piece) behind a b → HasFed before piece behind a b
fed-all before behind piece i a b done fed = subst (λ front. HasFed before front behind a b) (take_all i piece done) fed

-- a piece was handed over, and taken
pub read_ends : (before behind : Server) (left now held holds : Option (List ℕ)) (n : ℕ) (room : List ℕ) (how : Course) → HandsOver left n room now →
    FeedEnds before (take n room) behind held holds how → ReadEnds before left behind now held holds how
read_ends before behind left now held holds n room course.On handed fed =
    record { piece = take n room; fed = fed; rest = left-handed left now n room handed }
read_ends before behind left now held holds n room (course.Over how) handed fed = by_byte (take n room) fed (left-handed left now n room handed)

-- a session is over
pub serve_ends : (last : Server) (left there now held then_held : Option (List ℕ)) (how : Ended) → HasRead at_first left last there held then_held →
    ReadStops last there now then_held how → ServeEnds left now held how
serve_ends last left there now held then_held ended.Left read ends = record { last = last; there = there; then_held = then_held; read = read; ends = ends }
serve_ends last left there now held then_held ended.Cut read ends = record { last = last; there = there; then_held = then_held; read = read; ends = ends }
serve_ends last left there now held then_held ended.Broken read ends = record { last = last; there = there; then_held = then_held; read = read; ends = ends }
serve_ends last left there now held then_held ended.NoMemory read ends = record { last = last; there = there; then_held = then_held; read = read; ends = ends }
serve_ends last left there now held then_held ended.Failed read ends = tt
