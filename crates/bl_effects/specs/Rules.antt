-- How a program fails the rules Pause, Conflict, Alias and Instant, and what their lines name.
use Rattle.std.specs.Prelude.{◌≡◌, Bool, true, List, [], ◌∷◌, ◌++◌, map, slice_get, find, Contains, Option, Some, None, option_map, option_to_list, IsTrue}
use Rattle.std.specs.Prelude.{is_none, if◌then◌else◌}
use Rattle.bl_tree.specs.declared.place.Place.{Place}
use Rattle.bl_tree.specs.declared.rule.Rule.{Rule}
use Rattle.bl_tree.specs.declared.rule.Rule.TheVariants as rule
use Rattle.bl_tree.specs.declared.tree.Expr.{Expr, out-Expr}
use Rattle.bl_tree.specs.declared.tree.ExprKind.{out-ExprKind}
use Rattle.bl_tree.specs.declared.tree.ExprKind.TheOpen.{ExprKind-F}
use Rattle.bl_tree.specs.declared.tree.Path.{Path, out-Path}
use Rattle.bl_tree.specs.declared.tree.Stmt.{Stmt, fold-Stmt}
use Rattle.bl_tree.specs.declared.tree.StmtKind.TheFolds.{map-StmtKind}
use Rattle.bl_tree.specs.declared.tree.StmtKind.TheOpen.{StmtKind-F, Arm-F, Branch-F, Stmt-F}
use Rattle.bl_tree.specs.declared.tree.Unit.{Unit as UnitDef}
use Rattle.bl_tree.specs.declared.tree.Var.{Var}
use Rattle.bl_tree.specs.Reduce.{all_of, joined}
use Rattle.bl_tree.specs.Rules.{Passes as NoneOf}
use Rattle.bl_tree.specs.Types.{scalar_in}
use Rattle.bl_tree.specs.Typing.{is_activity}
use Rattle.bl_effects.specs.declared.marked.Marked.{Marked}
use Rattle.bl_tree.specs.declared.static_path.Static.{Static}
use Rattle.bl_tree.specs.Effects.{target_static}
use Rattle.bl_tree.specs.Instant.{BranchInstant, kind_instant, is_instant_block}
use Rattle.bl_tree.specs.Static.{overlaps, static_of}

-- ---- Pause: an activity's body may end in the tick in which it begins; at the activity's name

-- the unit is an activity whose body may end at once; no further place is named
pub record FailsPause (units : List UnitDef) (at : Place) (also : List Place) : Type 0 where
  pub unit : UnitDef
  pub is_there : Contains units unit
  pub activity : IsTrue (is_activity unit.kind)
  pub ends : IsTrue (is_instant_block unit.body)
  pub at_name : at ≡ unit.place
  pub alone : also ≡ []

-- ---- Conflict: acts in two branches of one `cobegin` write overlapping static paths

-- a branch of a `cobegin`: what the acts in it write, and what those in the branches before it do
pub record Split : Type 0 where
  pub earlier : List Marked
  pub writes : List Marked

-- what stands in a statement: what its acts write, in source order, and the branches of its `cobegin` statements
pub record Parallel : Type 0 where
  pub writes : List Marked
  pub splits : List Split

-- several parts of a body, one after another
abbrev pub together : List Parallel → Parallel
together parts = record { writes = joined (map (λ part. part.writes) parts); splits = joined (map (λ part. part.splits) parts) }

-- two parts of a body, one after the other
abbrev pub beside : Parallel → Parallel → Parallel
beside one other = record { writes = one.writes ++ other.writes; splits = one.splits ++ other.splits }

-- one act at a place, which writes the given paths
abbrev pub acting : Place → List Static → Parallel
acting place written = record { writes = map (λ path. record { place = place; path = path }) written; splits = [] }

-- a part of a body without writes and `cobegin`s
abbrev pub still : Parallel
still = record { writes = []; splits = [] }

-- the branches after some that write this, each with the branches that stand in it before it
abbrev pub splits_after : List Marked → List Parallel → List Split
splits_after before [] = []
splits_after before (branch ∷ rest) = branch.splits ++ record { earlier = before; writes = branch.writes } ∷ splits_after (before ++ branch.writes) rest

-- a `cobegin` of these branches
abbrev pub of_branches : List Parallel → Parallel
of_branches branches = record { writes = joined (map (λ branch. branch.writes) branches); splits = splits_after [] branches }

-- a declaration is no act: what it declares is named in no other branch
abbrev pub kind_parallel : StmtKind-F (Place → Parallel) Parallel Parallel Parallel → Place → Parallel
kind_parallel (StmtKind-F.Declare k initial) place = still
kind_parallel (StmtKind-F.Assign path e) place = acting place (static_of path ∷ [])
kind_parallel (StmtKind-F.Call f inputs outputs) place = acting place (map static_of outputs)
kind_parallel (StmtKind-F.Await e) place = still
kind_parallel (StmtKind-F.Run target a inputs outputs) place = acting place (target_static target ++ map static_of outputs)
kind_parallel (StmtKind-F.If arms other) place = beside (together arms) (together other)
kind_parallel (StmtKind-F.Cobegin branches) place = of_branches branches
kind_parallel (StmtKind-F.When guard e body) place = together body
kind_parallel (StmtKind-F.Repeat body) place = together body
kind_parallel (StmtKind-F.Until body e) place = together body
kind_parallel (StmtKind-F.While e body) place = together body
kind_parallel (StmtKind-F.Return e) place = still

-- an arm of an `if`, from what its statements come to
abbrev pub arm_parallel : Arm-F (Place → Parallel) Parallel Parallel Parallel → Parallel
arm_parallel arm = together arm.body

-- a branch by itself, from what its statements come to
abbrev pub branch_parallel : Branch-F (Place → Parallel) Parallel Parallel Parallel → Parallel
branch_parallel branch = together branch.body

-- a statement, from what its kind comes to at a place
abbrev pub stmt_parallel : Stmt-F (Place → Parallel) Parallel Parallel Parallel → Parallel
stmt_parallel s = s.what s.place

-- what the acts in a statement write, and the branches that stand in it
abbrev pub parallel_of : Stmt → Parallel
parallel_of = fold-Stmt (Place → Parallel) Parallel Parallel Parallel kind_parallel arm_parallel branch_parallel stmt_parallel

-- the branches of the `cobegin` statements of a unit, at any depth
abbrev pub splits_of : UnitDef → List Split
splits_of unit = (together (map parallel_of unit.body)).splits

-- rule Conflict fails at an act of an earlier branch; its line names the later act and the declaration of their root
pub record FailsConflict (units : List UnitDef) (at : Place) (also : List Place) : Type 0 where
  pub unit : UnitDef
  pub is_there : Contains units unit
  pub split : Split
  pub stands : Contains (splits_of unit) split
  pub first : Marked
  pub in_earlier : Contains split.earlier first
  pub second : Marked
  pub in_later : Contains split.writes second
  pub overlap : IsTrue (overlaps first.path second.path)
  pub var : Var
  pub declared : slice_get unit.vars second.path.root ≡ Some var
  pub at_first : at ≡ first.place
  pub at_second : also ≡ second.place ∷ var.place ∷ []

-- ---- Alias: an output of a call or `run` overlaps an earlier output or an aggregate input, or a target overlaps an output

-- a path with its place
abbrev pub marked_path : Path → Marked
marked_path path = record { place = (out-Path path).place; path = static_of path }

-- a kind of input at a place: the path that it reads, where that is an aggregate
abbrev pub marked_aggregate : {A B C : Type 0} → Place → ExprKind-F A B C Path → List Marked
marked_aggregate place (ExprKind-F.Read path) = if is_none (scalar_in (out-Path path).ty) then record { place = place; path = static_of path } ∷ [] else []
marked_aggregate place _ = []

-- an input, where it is an aggregate: it is a path then
abbrev pub marked_input : Expr → List Marked
marked_input e = marked_aggregate (out-Expr e).place (out-ExprKind (out-Expr e).what)

-- the aggregate inputs in order
abbrev pub marked_inputs : List Expr → List Marked
marked_inputs inputs = joined (map marked_input inputs)

-- a failure of the rule: where, and the further place
pub record Aliased : Type 0 where
  pub at : Place
  pub also : Place

-- the failure of what overlaps one of the others: the first of them is named beside it
abbrev pub aliased_with : List Marked → Marked → List Aliased
aliased_with others one =
    option_to_list (option_map (λ other. record { at = one.place; also = other.place }) (find (λ other. overlaps one.path other.path) others))

-- the alias failures of successive outputs, each compared with the outputs before it and the aggregate inputs
abbrev pub outputs_aliased : List Marked → List Marked → List Marked → List Aliased
outputs_aliased inputs before [] = []
outputs_aliased inputs before (output ∷ rest) = aliased_with (before ++ inputs) output ++ outputs_aliased inputs (before ++ output ∷ []) rest

-- the alias failures of the target, which is compared with the outputs
abbrev pub target_aliased : List Marked → Option Path → List Aliased
target_aliased outputs (Some target) = aliased_with outputs (marked_path target)
target_aliased outputs None = []

-- the alias failures of a call or `run` with this target, these inputs and these outputs
abbrev pub aliases_of : Option Path → List Expr → List Path → List Aliased
aliases_of target inputs outputs = target_aliased (map marked_path outputs) target ++ outputs_aliased (marked_inputs inputs) [] (map marked_path outputs)

-- the alias failures in a kind of statement, from those in its parts
abbrev pub kind_aliases : StmtKind-F (List Aliased) (List Aliased) (List Aliased) (List Aliased) → List Aliased
kind_aliases (StmtKind-F.Declare k initial) = []
kind_aliases (StmtKind-F.Assign path e) = []
kind_aliases (StmtKind-F.Call f inputs outputs) = aliases_of None inputs outputs
kind_aliases (StmtKind-F.Await e) = []
kind_aliases (StmtKind-F.Run target a inputs outputs) = aliases_of target inputs outputs
kind_aliases (StmtKind-F.If arms other) = joined arms ++ joined other
kind_aliases (StmtKind-F.Cobegin branches) = joined branches
kind_aliases (StmtKind-F.When guard e body) = joined body
kind_aliases (StmtKind-F.Repeat body) = joined body
kind_aliases (StmtKind-F.Until body e) = joined body
kind_aliases (StmtKind-F.While e body) = joined body
kind_aliases (StmtKind-F.Return e) = []

-- the alias failures in an arm, from those in its statements
abbrev pub arm_aliases : Arm-F (List Aliased) (List Aliased) (List Aliased) (List Aliased) → List Aliased
arm_aliases arm = joined arm.body

-- the alias failures in a branch, from those in its statements
abbrev pub branch_aliases : Branch-F (List Aliased) (List Aliased) (List Aliased) (List Aliased) → List Aliased
branch_aliases branch = joined branch.body

-- the alias failures in a statement, from those of its kind
abbrev pub stmt_aliases : Stmt-F (List Aliased) (List Aliased) (List Aliased) (List Aliased) → List Aliased
stmt_aliases s = s.what

-- the failures of the call statements and `run` statements in a statement
abbrev pub aliases_in : Stmt → List Aliased
aliases_in = fold-Stmt (List Aliased) (List Aliased) (List Aliased) (List Aliased) kind_aliases arm_aliases branch_aliases stmt_aliases

-- rule Alias fails at an output or target; its line names the first thing that overlaps, outputs before inputs
pub record FailsAlias (units : List UnitDef) (at : Place) (also : List Place) : Type 0 where
  pub unit : UnitDef
  pub is_there : Contains units unit
  pub aliased : Aliased
  pub fails : Contains (joined (map aliases_in unit.body)) aliased
  pub at_one : at ≡ aliased.at
  pub at_other : also ≡ aliased.also ∷ []

-- ---- Instant: a loop of an activity has a body that may end in the tick in which it begins

-- whether a statement or arm may end in its first tick, and the loops in it whose bodies may
pub record Loops : Type 0 where
  pub instant : Bool
  pub places : List Place

-- whether a branch may end in its first tick and is weak, and the loops in it whose bodies may end at once
pub record BranchLoops : Type 0 where
  pub ends : BranchInstant
  pub places : List Place

-- the places of all loops in a block that are listed for its statements
abbrev pub block_loops : List Loops → List Place
block_loops body = joined (map (λ s. s.places) body)

-- whether a block may end in the tick in which it begins: each of its statements may
abbrev pub block_ends : List Loops → Bool
block_ends body = all_of (map (λ s. s.instant) body)

-- the loops in the body of a loop that may end at once, and the loop at the place where its body may
abbrev pub loop_places : Place → List Loops → List Place
loop_places place body = block_loops body ++ (if block_ends body then place ∷ [] else [])

-- the places that a kind of statement at this place lists, from those of its parts
abbrev pub kind_loop_places : {A : Type 0} → StmtKind-F A Loops BranchLoops Loops → Place → List Place
kind_loop_places (StmtKind-F.Declare k initial) place = []
kind_loop_places (StmtKind-F.Assign path e) place = []
kind_loop_places (StmtKind-F.Call f inputs outputs) place = []
kind_loop_places (StmtKind-F.Await e) place = []
kind_loop_places (StmtKind-F.Run target a inputs outputs) place = []
kind_loop_places (StmtKind-F.If arms other) place = block_loops arms ++ block_loops other
kind_loop_places (StmtKind-F.Cobegin branches) place = joined (map (λ branch. branch.places) branches)
kind_loop_places (StmtKind-F.When guard e body) place = block_loops body
kind_loop_places (StmtKind-F.Repeat body) place = loop_places place body
kind_loop_places (StmtKind-F.Until body e) place = loop_places place body
kind_loop_places (StmtKind-F.While e body) place = loop_places place body
kind_loop_places (StmtKind-F.Return e) place = []

-- what is known of the parts, as far as `instant` asks for it
abbrev pub loop_instants : StmtKind-F (Place → Loops) Loops BranchLoops Loops → StmtKind-F Bool Bool BranchInstant Bool
loop_instants = map-StmtKind (Place → Loops) Loops BranchLoops Loops Bool Bool BranchInstant Bool (λ kind. true) (λ s. s.instant) (λ s. s.ends) (λ s. s.instant)

-- a kind of statement at this place, from what is known of its parts
abbrev pub kind_loops : StmtKind-F (Place → Loops) Loops BranchLoops Loops → Place → Loops
kind_loops kind place = record { instant = kind_instant (loop_instants kind); places = kind_loop_places kind place }

-- an arm, from what is known of its statements
abbrev pub arm_loops : Arm-F (Place → Loops) Loops BranchLoops Loops → Loops
arm_loops arm = record { instant = block_ends arm.body; places = block_loops arm.body }

-- a branch, from what is known of its statements
abbrev pub branch_loops : Branch-F (Place → Loops) Loops BranchLoops Loops → BranchLoops
branch_loops branch = record { ends = record { weak = branch.weak; instant = block_ends branch.body }; places = block_loops branch.body }

-- a statement, from what its kind comes to at a place
abbrev pub stmt_loops : Stmt-F (Place → Loops) Loops BranchLoops Loops → Loops
stmt_loops s = s.what s.place

-- whether a statement may end in the tick in which it begins, and the loops in it whose bodies may
abbrev pub loops_in : Stmt → Loops
loops_in = fold-Stmt (Place → Loops) Loops BranchLoops Loops kind_loops arm_loops branch_loops stmt_loops

-- the places of the loops of a unit, at any depth, whose bodies may end in the tick in which they begin
abbrev pub instant_loops : UnitDef → List Place
instant_loops unit = block_loops (map loops_in unit.body)

-- rule Instant fails at a loop whose body may end in the tick in which it begins
pub record FailsInstant (units : List UnitDef) (at : Place) (also : List Place) : Type 0 where
  pub unit : UnitDef
  pub is_there : Contains units unit
  pub activity : IsTrue (is_activity unit.kind)
  pub place : Place
  pub loops : Contains (instant_loops unit) place
  pub at_loop : at ≡ place
  pub alone : also ≡ []

-- ---- the rules by name

-- the rule fails at this place, with these further places; the others aren't judged here
abbrev pub Fails : List UnitDef → Rule → Place → List Place → Type 0
Fails units rule.Pause at also = FailsPause units at also
Fails units rule.Conflict at also = FailsConflict units at also
Fails units rule.Alias at also = FailsAlias units at also
Fails units rule.Instant at also = FailsInstant units at also
Fails units _ at also = ⊥

-- none of Pause, Conflict, Alias and Instant fails
abbrev pub Passes : List UnitDef → Type 0
Passes units = NoneOf (Fails units)
