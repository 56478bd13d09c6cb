use Rattle.std.proofs.Common.{arith, refl}
use Rattle.bl_lsp_session.proofs.Feeding.{fed-next, fed-none, fed-up-to}
use Rattle.bl_lsp_session.proofs.Streams.{fed-all}
use Rattle.bl_lsp_session.proofs.serving.Server.feed.Goals as goal

pub loop-byte-init : goal.loop-byte-init
loop-byte-init g c = record { fed = fed-none c.args.self.now (g.O.Sink.held c.args.out.now); counts = omega arith }

pub loop-byte-preserved : goal.loop-byte-preserved
loop-byte-preserved g c = record {
  fed = fed-next c.args.self.now c.loop-byte.self c.take.new.self c.args.piece.now c.loop-byte.byte-index _ _ _ _ (omega arith) refl
      c.loop-byte.invariant.fed c.in-On.ensures.takes;
  counts = omega arith;
}

pub returns-in-Over-clause-goes : goal.returns-in-Over-clause-goes
returns-in-Over-clause-goes g c =
    fed-up-to c.args.self.now c.loop-byte.self c.args.piece.now c.loop-byte.byte-index _ _ _ c.in-Over.ended (omega arith) refl
    c.loop-byte.invariant.fed c.in-Over.ensures.takes

pub returns-clause-goes : goal.returns-clause-goes
returns-clause-goes g c =
    fed-all c.args.self.now c.loop-byte.self c.args.piece.now c.loop-byte.byte-index _ _ (omega arith) c.loop-byte.invariant.fed
