use Rattle.std.proofs.Common.{◌≡◌, ◌++◌, arith, length, subst, take}
use Rattle.std.proofs.lemmas.List.{length-take-le}
use Rattle.bl_io.specs.Left.{HandsOver}
use Rattle.bl_rows_stream.specs.inner.Going.{runner_at}
use Rattle.bl_rows_stream.proofs.Steps.{goes-refused, goes-unread, going-reads, going-reads-none, leaves-never, next-goes, read-all, read-more, reported-by}
use Rattle.bl_rows_stream.proofs.Steadily.{keeps-none, keeps-piece}
use Rattle.bl_rows_stream.proofs.pieces.run_next.Goals as goal

pub returns-in-Ok-eq0-clause-left : goal.returns-in-Ok-eq0-clause-left
returns-in-Ok-eq0-clause-left g c =
    let left = g.F.Files.left c.args.files.now c.args.name.now in
    let next = g.F.Files.left c.read_next.new.files c.args.name.now in
    λ report start every before going.
    reported-by report (runner_at start c.args.runner.now.parts) every _ before _ c.run_last.new.runner going.read c.run_last.result
    (read-all every left next going.read c.read_next.new.room going.has_read
    (subst (λ n. HandsOver left n c.read_next.new.room next) c.in-Ok-eq0.field-0-test c.in-Ok-eq0.ensures.front))
    (c.run_last.ensures.ends report start going.read before going.stands)

pub returns-in-Ok-clause-left : goal.returns-in-Ok-clause-left
returns-in-Ok-clause-left g c = λ report start every before going.
    next-goes report start c.args.runner.now.parts every before _ _
    (going.read ++ take c.in-Ok.n c.read_next.new.room) c.run_piece.new.session c.run_piece.new.runner c.run_piece.result
    (read-more every (g.F.Files.left c.args.files.now c.args.name.now)
    (g.F.Files.left c.read_next.new.files c.args.name.now) going.read c.read_next.new.room c.in-Ok.n going.has_read c.in-Ok.ensures.front)
    (c.run_piece.ensures.left report start going.read before going.stands)

pub returns-in-Ok-clause-read_fault : goal.returns-in-Ok-clause-read_fault
returns-in-Ok-clause-read_fault g c =
    let given = c.requires.going in
    let going = given.4 in
    λ is. absurd
    (leaves-never given.0 given.1 c.args.runner.now.parts (going.read ++ take c.in-Ok.n c.read_next.new.room) given.3 c.run_piece.new.session
    c.run_piece.new.runner _ c.run_piece.result
    (c.run_piece.ensures.left given.0 given.1 going.read given.3 going.stands) is)

pub returns-in-Err-Failed-clause-left : goal.returns-in-Err-Failed-clause-left
returns-in-Err-Failed-clause-left g c = λ report start every before going.
    goes-unread report start every before _ _ _ c.args.session.now c.args.runner.now going c.in-Err-Failed.ensures.err

pub returns-in-Err-NoMemory-clause-left : goal.returns-in-Err-NoMemory-clause-left
returns-in-Err-NoMemory-clause-left g c = λ report start every before going.
    goes-refused report start every before _ _ _ c.args.session.now c.args.runner.now c.args.runner.now going

pub returns-in-Ok-clause-further : goal.returns-in-Ok-clause-further
returns-in-Ok-clause-further g c = λ is.
    let n = c.in-Ok.n in
    let some = c.in-Ok.n-test.1 in
    let bound = c.in-Ok.ensures.bound in
    let room = c.read_next.auto.room in
    let long : length (take n c.read_next.new.room) ≡ n = length-take-le n c.read_next.new.room (omega (arith, bound, room)) in
    omega (arith, c.run_piece.ensures.further is, long, some)

pub returns-in-Ok-eq0-clause-reads : goal.returns-in-Ok-eq0-clause-reads
returns-in-Ok-eq0-clause-reads g c = λ report start every before going.
    going-reads report start c.args.runner.now.parts every before _ _ _ c.args.session.now c.args.runner.now c.read_next.new.room c.in-Ok-eq0.field-0
    (length c.args.room.now) going
    c.in-Ok-eq0.ensures.bound c.requires.short c.in-Ok-eq0.ensures.few c.in-Ok-eq0.ensures.front

pub returns-in-Ok-clause-reads : goal.returns-in-Ok-clause-reads
returns-in-Ok-clause-reads g c = λ report start every before going.
    going-reads report start c.args.runner.now.parts every before _ _ _ c.args.session.now c.args.runner.now c.read_next.new.room c.in-Ok.n
    (length c.args.room.now) going
    c.in-Ok.ensures.bound c.requires.short c.in-Ok.ensures.few c.in-Ok.ensures.front

pub returns-in-Err-Failed-clause-reads : goal.returns-in-Err-Failed-clause-reads
returns-in-Err-Failed-clause-reads g c = λ report start every before going.
    going-reads-none report start c.args.runner.now.parts every before _ _ _ c.args.session.now c.args.runner.now going c.in-Err-Failed.ensures.err

pub returns-in-Err-NoMemory-clause-reads : goal.returns-in-Err-NoMemory-clause-reads
returns-in-Err-NoMemory-clause-reads g c = λ report start every before going.
    going-reads-none report start c.args.runner.now.parts every before _ _ _ c.args.session.now c.args.runner.now going c.in-Err-NoMemory.ensures.err

pub returns-in-Ok-eq0-clause-keeps_up : goal.returns-in-Ok-eq0-clause-keeps_up
returns-in-Ok-eq0-clause-keeps_up g c = λ report start every before going.
    keeps-piece report start c.args.runner.now.parts every before _ _ _ _ c.args.session.now c.args.runner.now c.read_next.new.room c.in-Ok-eq0.field-0
    (length c.args.room.now) going
    c.in-Ok-eq0.ensures.bound c.requires.short c.in-Ok-eq0.ensures.front c.run_last.ensures.grows

pub returns-in-Ok-clause-keeps_up : goal.returns-in-Ok-clause-keeps_up
returns-in-Ok-clause-keeps_up g c = λ report start every before going.
    keeps-piece report start c.args.runner.now.parts every before _ _ _ _ c.args.session.now c.args.runner.now c.read_next.new.room c.in-Ok.n
    (length c.args.room.now) going
    c.in-Ok.ensures.bound c.requires.short c.in-Ok.ensures.front c.run_piece.ensures.grows

pub returns-in-Err-Failed-clause-keeps_up : goal.returns-in-Err-Failed-clause-keeps_up
returns-in-Err-Failed-clause-keeps_up g c = λ report start every before going.
    keeps-none report start c.args.runner.now.parts every before _ _ _ c.args.session.now c.args.runner.now going c.in-Err-Failed.ensures.err

pub returns-in-Err-NoMemory-clause-keeps_up : goal.returns-in-Err-NoMemory-clause-keeps_up
returns-in-Err-NoMemory-clause-keeps_up g c = λ report start every before going.
    keeps-none report start c.args.runner.now.parts every before _ _ _ c.args.session.now c.args.runner.now going c.in-Err-NoMemory.ensures.err
