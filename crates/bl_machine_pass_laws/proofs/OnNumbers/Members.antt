-- Members of lists of rules, part by part.
use Rattle.std.proofs.Common.{zero, suc, List, [], ◌∷◌, ◌++◌, Contains, subst, arith}
use Rattle.std.specs.Prelude.{⊤}
use Rattle.bl_tree.proofs.Basics.{contains_first, contains_further}
use Rattle.bl_machine_pass.specs.Transitions.{Transition}
use Rattle.bl_machine_pass_laws.specs.Turns.Sits.{RulesAreAmong}

-- each of the second list is a member of the first, one by one
abbrev pub Each : List Transition → List Transition → Type 0
Each all [] = ⊤
Each all (rule ∷ rest) = Contains all rule × Each all rest

pub each_of : (all some : List Transition) → RulesAreAmong all some → Each all some
each_of all [] among = tt
each_of all (rule ∷ rest) among = (among rule (contains_first rule rest), each_of all rest (λ r h. among r (contains_further rule rest r h)))

pub among_of : (all some : List Transition) → Each all some → RulesAreAmong all some
among_of all [] each r (k, below, is) = absurd (omega arith)
among_of all (rule ∷ rest) each r (zero, below, is) = subst (Contains all) is each.0
among_of all (rule ∷ rest) each r (suc k, below, is) = among_of all rest each.1 r (k, omega arith, is)

pub each_left : (all xs ys : List Transition) → Each all (xs ++ ys) → Each all xs
each_left all [] ys each = tt
each_left all (rule ∷ xs) ys each = (each.0, each_left all xs ys each.1)

pub each_right : (all xs ys : List Transition) → Each all (xs ++ ys) → Each all ys
each_right all [] ys each = each
each_right all (rule ∷ xs) ys each = each_right all xs ys each.1

pub each_both : (all xs ys : List Transition) → Each all xs → Each all ys → Each all (xs ++ ys)
each_both all [] ys some more = more
each_both all (rule ∷ xs) ys some more = (some.0, each_both all xs ys some.1 more)
