use Rattle.bl_simplify_laws.proofs.OnLive.{live-cleared, live-dead, live-either, live-if, live-itself, live-loop, live-set}
use Rattle.bl_simplify_laws.proofs.live.live_stmts.Goals as goal

pub returns : goal.returns
returns c = record {
  itself = live-itself;
  set = live-set;
  dead = live-dead;
  cleared = live-cleared;
  branches = live-if;
  either = live-either;
  turns = live-loop;
}
