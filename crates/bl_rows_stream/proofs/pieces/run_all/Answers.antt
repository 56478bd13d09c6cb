use Rattle.std.proofs.Common.{arith, refl, subst}
use Rattle.bl_rows_stream.specs.Streams.{KeepsUp}
use Rattle.bl_rows_stream.specs.inner.Going.{runner_at}
use Rattle.bl_rows_stream.proofs.Steps.{going-here, going-within}
use Rattle.bl_rows_stream.proofs.pieces.run_all.Goals as goal

pub pieces-smaller : goal.pieces-smaller
pieces-smaller g c =
    let file = c.args.runner.now.parts in
    let report = c.requires.begun.0 in
    let start = c.requires.begun.1 in
    let every = g.F.Files.left c.args.files.now c.args.name.now in
    let before = c.requires.begun.2 in
    let going = c.pieces.invariant.going report start before c.requires.begun.3 in
    let next = c.in-Open.ensures.left report start every before (going-here report start file every before _ _ c.pieces.session c.pieces.runner going) in
    let within = going-within report start c.pieces.runner.parts every before _ _ c.run_next.new.session c.run_next.new.runner next in
    let further = c.in-Open.ensures.further refl in
    omega arith

pub returns-in-Over-clause-keeps_up : goal.returns-in-Over-clause-keeps_up
returns-in-Over-clause-keeps_up g c = λ report start before stands.
    let file = c.args.runner.now.parts in
    let every = g.F.Files.left c.args.files.now c.args.name.now in
    let going = c.pieces.invariant.going report start before stands in
    subst
    (λ parts. KeepsUp report (runner_at start parts) every (g.F.Files.left c.run_next.new.files c.args.name.now) before
    (g.O.Sink.held c.run_next.new.out))
    going.stands.parts
    (c.run_next.ensures.keeps_up report start every before
    (going-here report start file every before _ _ c.pieces.session c.pieces.runner going))
