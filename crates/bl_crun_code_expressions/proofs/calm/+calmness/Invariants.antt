use Rattle.std.proofs.Common.{◌≡◌, drop, map}
use Rattle.std.specs.List.{list_all}
use Rattle.bl_tree.specs.declared.c.CPlace.{out-CPlace}
use Rattle.bl_crun_code.specs.Code.{args_calm}
use Rattle.bl_crun_code_layout.specs.Places.{term_of}
use Rattle.bl_crun_code_layout.specs.Views.{ground_of}
use Rattle.bl_crun_code_expressions.specs.Parts.{args_of}
use Rattle.bl_crun_code_expressions.proofs.calm.+calmness.Given as goal

abbrev pub invariant-is_walk_calm-loop-term : goal.invariant-is_walk_calm-loop-term
invariant-is_walk_calm-loop-term l =
    list_all (λ term. term.index.calm) (map (term_of (ground_of l.here) (out-CPlace l.at).steps) (drop l.term-index l.walk.terms.items))
    ≡ list_all (λ term. term.index.calm) (map (term_of (ground_of l.here) (out-CPlace l.at).steps) l.walk.terms.items)

abbrev pub invariant-are_args_calm-loop-arg : goal.invariant-are_args_calm-loop-arg
invariant-are_args_calm-loop-arg l =
    args_calm (args_of (ground_of l.here) (drop l.arg-index l.args)) ≡ args_calm (args_of (ground_of l.here) l.args)
