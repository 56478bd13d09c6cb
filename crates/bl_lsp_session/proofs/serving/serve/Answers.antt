use Rattle.std.proofs.Common.{arith, subst, sym}
use Rattle.bl_lsp_session.specs.Sessions.{HasRead, at_first}
use Rattle.bl_lsp_session.proofs.Feeding.{read-more, read-none}
use Rattle.bl_lsp_session.proofs.Streams.{serve_ends}
use Rattle.bl_lsp_session.proofs.serving.serve.Goals as goal

pub loop-init : goal.loop-init
loop-init g c =
    let left = g.F.Files.left c.args.input.now c.args.name.now in
    let held = g.O.Sink.held c.args.out.now in
    record {
      read = subst (λ server. HasRead at_first left server left held held) (sym c.new-server.ensures) (read-none at_first left held);
      in_counts = λ name. omega arith;
      out_counts = omega arith;
    }

pub loop-preserved : goal.loop-preserved
loop-preserved g c = record {
  read = read-more at_first c.loop.server c.next.new.server _ _ _ _ _ _ c.loop.invariant.read c.in-On.ensures.reads;
  in_counts = λ name. omega (arith, c.loop.invariant.in_counts name, c.next.ensures.in_count name);
  out_counts = omega arith;
}

pub returns-in-Over-clause-serves : goal.returns-in-Over-clause-serves
returns-in-Over-clause-serves g c =
    serve_ends c.loop.server _ _ _ _ _ c.in-Over.ended c.loop.invariant.read c.in-Over.ensures.reads
