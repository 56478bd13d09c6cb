-- What a judge remembers after marks.
use Rattle.std.specs.Prelude.{[], ◌∷◌, Option, Some, None}
use Rattle.bl_tree.specs.declared.rule.Failure.{Failure}
use Rattle.bl_tree.specs.Rules.{lesser}
use Rattle.bl_names_scopes.specs.declared.judge.Judge.{Judge}
use Rattle.bl_names_scopes.specs.inner.Failures.{failure_at}
use Rattle.bl_names_scopes.specs.Marks.{Mark, Marks}
use Rattle.bl_names_scopes.specs.Scopes.{Scopes, enter}

-- the first failure so far, or the given one if that comes before it
abbrev pub kept : Option Failure → Option Failure → Option Failure
kept first None = first
kept first (Some failure) = lesser first failure

-- the scopes after a mark, and the first failure so far
abbrev pub judged : Judge → Mark → Judge
judged judge mark = record {
  scopes = enter judge.scopes mark;
  first = kept judge.first (failure_at judge.scopes mark);
}

-- what a judge remembers after marks one after another
abbrev pub judged_by : Judge → Marks → Judge
judged_by judge [] = judge
judged_by judge (mark ∷ rest) = judged_by (judged judge mark) rest

-- a judge that has seen no mark, where these scopes are open
abbrev pub fresh : Scopes → Judge
fresh start = record { scopes = start; first = None }

-- the first failure at marks that begin where the scopes of the start are open
abbrev pub first_failure : Scopes → Marks → Option Failure
first_failure start marks = (judged_by (fresh start) marks).first
