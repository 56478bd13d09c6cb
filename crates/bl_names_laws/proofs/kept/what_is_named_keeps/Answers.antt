use Rattle.bl_names_laws.proofs.Distinct.{all_fields_differ, all_parameters_differ, names_differ}
use Rattle.bl_names_laws.proofs.WhatKeeps.{what_keeps}
use Rattle.bl_names_laws.proofs.ApartProgram.{units_are_apart}
use Rattle.bl_names_laws.proofs.Filled.{units_are_filled}
use Rattle.bl_names_laws.proofs.Names.{fields_are_named, names_are, variables_are_named}
use Rattle.bl_names_laws.proofs.Starts.{starts_are}
use Rattle.bl_names_laws.proofs.StmtDepth.{units_are_shallow}
use Rattle.bl_names_laws.proofs.kept.what_is_named_keeps.Goals as goal

pub returns-clause-names : goal.returns-clause-names
returns-clause-names c = λ items bytes keeps. names_are items bytes keeps.stand

pub returns-clause-fields : goal.returns-clause-fields
returns-clause-fields c = λ items bytes keeps. fields_are_named items bytes keeps.stand

pub returns-clause-variables : goal.returns-clause-variables
returns-clause-variables c = λ items bytes keeps. variables_are_named items bytes keeps.stand

pub returns-clause-shallow : goal.returns-clause-shallow
returns-clause-shallow c = λ items bytes keeps. units_are_shallow items bytes keeps.shallow

pub returns-clause-filled : goal.returns-clause-filled
returns-clause-filled c = λ items bytes keeps. units_are_filled items bytes keeps.stand

pub returns-clause-apart : goal.returns-clause-apart
returns-clause-apart c = units_are_apart

pub returns-clause-distinct : goal.returns-clause-distinct
returns-clause-distinct c = names_differ

pub returns-clause-distinct_fields : goal.returns-clause-distinct_fields
returns-clause-distinct_fields c = all_fields_differ

pub returns-clause-distinct_parameters : goal.returns-clause-distinct_parameters
returns-clause-distinct_parameters c = all_parameters_differ

pub returns-clause-starts : goal.returns-clause-starts
returns-clause-starts c = starts_are

pub returns-clause-keeps : goal.returns-clause-keeps
returns-clause-keeps c = what_keeps
