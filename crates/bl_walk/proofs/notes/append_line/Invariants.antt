use Rattle.std.proofs.Common.{◌≡◌, ◌++◌, drop, map}
use Rattle.bl_tree.specs.Reduce.{joined}
use Rattle.bl_walk.specs.Lines.{start_text}
use Rattle.bl_walk.proofs.notes.append_line.Given as goal

abbrev pub invariant-places : goal.invariant-places
invariant-places l =
    l.text.items ++ joined (map start_text (drop l.place-index l.places)) ≡ l.initial.text.items ++ joined (map start_text l.places)
