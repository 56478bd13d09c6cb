-- What is said of a rule that fails.
use Rattle.std.specs.Prelude.{ℕ, List, codes}
use Rattle.bl_tree.specs.declared.rule.Rule.{Rule}
use Rattle.bl_tree.specs.declared.rule.Rule.TheVariants as rule

-- the name of a rule and a sentence
abbrev pub sentence_of : Rule → List ℕ
sentence_of rule.Size = codes "Size: the text has more than 1,048,576 bytes."
sentence_of rule.Lex = codes "Lex: no token, blank or comment begins here, or the comment isn't closed."
sentence_of rule.Profile = codes "Profile: this token is left out of the profile."
sentence_of rule.Depth = codes "Depth: more than 100 blocks are open here, or more than 200 operators and brackets in one run."
sentence_of rule.Syntax = codes "Syntax: the tokens up to here begin no program."
sentence_of rule.Duplicate = codes "Duplicate: this name is declared twice in its scope."
sentence_of rule.Unknown = codes "Unknown: no declaration of this name is visible here."
sentence_of rule.Kind = codes "Kind: this name stands for another kind of thing than is needed here."
sentence_of rule.Type = codes "Type: this has another type than is needed here."
sentence_of rule.Literal = codes "Literal: this number isn't in the range of its type."
sentence_of rule.Immutable = codes "Immutable: this can't be written, since it is no var and no output."
sentence_of rule.Constant = codes "Constant: this has no constant value, or is no length from 1 to 65,536."
sentence_of rule.Arity = codes "Arity: this unit has another number of inputs or outputs."
sentence_of rule.Prev = codes "Prev: prev stands before a scalar var of an activity's body alone."
sentence_of rule.Return = codes "Return: a return is missing here, has a value too many or too few, or can't stand here."
sentence_of rule.Where = codes "Where: a function can't pause, run an activity or branch."
sentence_of rule.Entry = codes "Entry: a program has one entry point, an activity with scalar parameters and no result."
sentence_of rule.Pause = codes "Pause: this activity may end in the tick in which it begins."
sentence_of rule.Conflict = codes "Conflict: this and a statement in another branch write the same variable."
sentence_of rule.Alias = codes "Alias: this output or target overlaps another argument."
sentence_of rule.Instant = codes "Instant: the body of this loop may end in the tick in which it begins."
sentence_of rule.Twice = codes "Twice: this may act twice in one tick."
sentence_of rule.Cycle = codes "Cycle: branches wait for each other, beginning with this."
sentence_of rule.Frames = codes "Frames: the entry has more than 4,096 instances, or units call each other more than 100 deep."
sentence_of rule.Cells = codes "Cells: the state has more than 1,000,000 cells, or a type is nested deeper than 100."

-- what is said at a further place of a rule
abbrev pub further_of : Rule → List ℕ
further_of rule.Duplicate = codes "declared here before"
further_of rule.Kind = codes "declared here"
further_of rule.Immutable = codes "declared here"
further_of rule.Conflict = codes "the other statement, or the variable's declaration"
further_of rule.Alias = codes "the argument that it overlaps"
further_of rule.Twice = codes "next on the walk"
further_of rule.Cycle = codes "next on the walk"
further_of _ = codes "see here"
