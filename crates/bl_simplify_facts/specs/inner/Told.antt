-- What is told of parts of expressions and places, as code computes it.
use Rattle.std.specs.Prelude.{ℤ, Bool, true, Option, Some, None, option_map}
use Rattle.bl_tree.specs.declared.text.Text.{Text}
use Rattle.bl_tree.specs.declared.scalar.Op.{Op}
use Rattle.bl_tree.specs.declared.scalar.Op.TheVariants.{And, Or}
use Rattle.bl_tree.specs.Scalar.{in_range}
use Rattle.bl_tree.specs.declared.c.CArg.{CArg, fold-CArg}
use Rattle.bl_tree.specs.declared.c.CStep.{CStep, fold-CStep}
use Rattle.bl_ctext.specs.declared.builtin.Builtin.{Builtin}
use Rattle.bl_ctext.specs.declared.builtin.Builtin.TheVariants.{Cast}
use Rattle.bl_ctext_semantics.specs.Builtin.{only_if}
use Rattle.bl_simplify_laws.specs.declared.facts.CSpot.{CSpot}
use Rattle.bl_simplify_laws.specs.declared.facts.Fact.{Fact}
use Rattle.bl_simplify_laws.specs.declared.facts.Fact.TheVariants.{Is}
use Rattle.bl_simplify_laws.specs.Known.{Valuation, arg_told, call_told, compares, expr_told, index_told, kind_told, place_told, step_told}

-- whether an operator is a comparison, `&&` or `||`
abbrev pub joins_or_compares : Op → Bool
joins_or_compares And = true
joins_or_compares Or = true
joins_or_compares op = compares op

-- the spot of this name and first member
abbrev pub spot_named : Bool → Text → Option Text → CSpot
spot_named through name first = record { through = through; name = name; first = first }

-- the member of a step that has no index
abbrev pub step_is : CStep → Option Text
step_is = fold-CStep _ _ _ _ _ _ _ arg_told kind_told call_told expr_told index_told place_told step_told

-- the fact of a call of a function of the prelude with one argument, whose number may be known
abbrev pub cast_of : Option Builtin → Option ℤ → Option Fact
cast_of (Some (Cast signed t)) (Some n) = option_map Is (only_if (in_range t n) n)
cast_of _ _ = None

-- the number of an argument by value, where it is told
abbrev pub number_in : CArg → Valuation → Option ℤ
number_in = fold-CArg _ _ _ _ _ _ _ arg_told kind_told call_told expr_told index_told place_told step_told
