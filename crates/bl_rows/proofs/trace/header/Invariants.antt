use Rattle.std.proofs.Common.{◌≡◌, ◌++◌, drop, map, codes}
use Rattle.bl_tree.specs.Reduce.{joined}
use Rattle.bl_rows.specs.Text.{name_text}
use Rattle.bl_rows.proofs.trace.header.Given as goal

abbrev pub invariant-outs : goal.invariant-outs
invariant-outs l = l.text.items ++ joined (map name_text (drop l.column-index l.outs)) ≡ codes "tick" ++ joined (map name_text l.outs)
