use Rattle.bl_simplify_laws.proofs.OnLive.{live-blocks, live-empty, live-function, live-weaker}
use Rattle.bl_simplify_laws.proofs.live.live_blocks.Goals as goal

pub returns : goal.returns
returns c = record { empty = live-empty; blocks = live-blocks; weaker = live-weaker; function = live-function }
