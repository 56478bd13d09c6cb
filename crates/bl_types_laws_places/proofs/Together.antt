-- The laws of expressions, of arguments and of declarations, each from its parts.
use Rattle.std.proofs.Common.{Some}
use Rattle.bl_tree.specs.declared.scalar.Scalar.TheVariants.{Bool as OfBool}
use Rattle.bl_tree.specs.Types.{scalar}
use Rattle.bl_types_laws_places.specs.Laws.{ArgumentsAgree, DeclarationsAgree, ExpressionsAgree}
use Rattle.bl_types_laws_places.proofs.Arguments.{arguments_agree as calls_agree, has_result_agrees, immutable_agrees, lent_agrees, path_agrees}
use Rattle.bl_types_laws_places.proofs.Arguments.{run_target_agrees}
use Rattle.bl_types_laws_places.proofs.Declared.{constant_agrees, context_agrees, initial_agrees, parameters_agree, struct_agrees, variable_agrees}
use Rattle.bl_types_laws_places.proofs.Declared.{with_variable_agrees}
use Rattle.bl_types_laws_places.proofs.Environments.{callee_same, variable_same}
use Rattle.bl_types_laws_places.proofs.Exprs.{judged_agrees, target_agrees}
use Rattle.bl_types_laws_places.proofs.Writing.{lengths_agree, written_agrees}

pub expressions_agree : ExpressionsAgree
expressions_agree by near far agree = record {
  expr = judged_agrees by near far agree;
  context = context_agrees by near far agree;
  condition = context_agrees by near far agree (Some (scalar OfBool));
  target = target_agrees by near far agree;
  path = path_agrees by near far agree;
  written = written_agrees by near.constants far.constants agree.constants;
  lengths = lengths_agree by near.constants far.constants agree.constants;
  immutable = immutable_agrees by near far agree;
  variable = variable_same by near far agree;
  callee = callee_same near.units far.units agree.units;
}

pub arguments_agree : ArgumentsAgree
arguments_agree by near far agree = record {
  lent = lent_agrees by near far agree;
  arguments = calls_agree by near far agree;
  run_target = run_target_agrees by near far agree;
  has_result = has_result_agrees by near far agree;
}

pub declarations_agree : DeclarationsAgree
declarations_agree by near far agree = record {
  value = initial_agrees by near far agree;
  constant = constant_agrees by near far agree;
  struct = struct_agrees by near far agree;
  with_type = with_variable_agrees by near far agree;
  variable = variable_agrees by near far agree;
  parameters = λ same vars. parameters_agree by vars near far agree same;
}
