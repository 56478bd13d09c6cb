use Rattle.std.proofs.Common.{◌≡◌, ◌++◌, ◌∷◌, drop, map, codes, decimal}
use Rattle.bl_top_commands.specs.Refusals.{place_text}
use Rattle.bl_tree.specs.Reduce.{joined}
use Rattle.bl_tree.specs.Rules.{name_of, number_of}
use Rattle.bl_top_commands.proofs.refusal.line.Given as goal

abbrev pub invariant-also : goal.invariant-also
invariant-also l =
    l.line.items ++ joined (map place_text (drop l.other-index l.also))
    ≡ codes "rule " ++ (decimal (number_of l.fn.rule) ++ (32 ∷ (name_of l.fn.rule ++ (place_text l.fn.place ++ joined (map place_text l.also)))))
