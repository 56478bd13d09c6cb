-- What is told of casts with other than one argument.
use Rattle.std.proofs.Common.{◌≡◌, ◌≤◌, ℤ, List, [], ◌∷◌, map, length, Option, Some, None, refl, arith}
use Rattle.bl_tree.specs.declared.c.CArg.{CArg}
use Rattle.bl_ctext.specs.declared.builtin.Builtin.{Builtin}
use Rattle.bl_ctext.specs.declared.builtin.Builtin.TheVariants.{Two, One, Cast, Index, Turn, Stop}
use Rattle.bl_simplify_laws.specs.Known.{Valuation, all_numbers, more_numbers, result_told}
use Rattle.bl_simplify_facts.specs.inner.Told.{number_in}

-- no fact of a call of a function of the prelude with two arguments or more
many-numbers : (b : Option Builtin) (m n : Option ℤ) (more : Option (List ℤ)) → None ≡ result_told b (more_numbers m (more_numbers n more))
many-numbers None m n more = refl
many-numbers (Some b) None n more = refl
many-numbers (Some b) (Some x) None more = refl
many-numbers (Some b) (Some x) (Some y) None = refl
many-numbers (Some (Two op t)) (Some x) (Some y) (Some numbers) = refl
many-numbers (Some (One op t)) (Some x) (Some y) (Some numbers) = refl
many-numbers (Some (Cast signed t)) (Some x) (Some y) (Some numbers) = refl
many-numbers (Some (Index signed)) (Some x) (Some y) (Some numbers) = refl
many-numbers (Some Turn) (Some x) (Some y) (Some numbers) = refl
many-numbers (Some Stop) (Some x) (Some y) (Some numbers) = refl

pub many-args : (b : Option Builtin) (known : Valuation) (args : List CArg) → 2 ≤ length args →
    None ≡ result_told b (all_numbers known (map number_in args))
many-args b known [] h = absurd (omega arith)
many-args b known (a ∷ []) h = absurd (omega arith)
many-args b known (a ∷ other ∷ rest) h = many-numbers b (number_in a known) (number_in other known) (all_numbers known (map number_in rest))
