-- The C of an activity: its structs, and its function, one pass over it.
use Rattle.std.specs.Prelude.{ℕ, Bool, true, false, List, [], ◌∷◌, ◌++◌, map, Option, Some, None, if◌then◌else◌}
use Rattle.std.specs.Prelude.{codes, length, nat_eq, nat_lt, not, filter, option_and_then, option_to_list, slice_get, unwrap_or}
use Rattle.std.specs.List.{list_any}
use Rattle.bl_tree.specs.declared.text.Text.{Text}
use Rattle.bl_tree.specs.declared.c.CFunc.{CFunc}
use Rattle.bl_tree.specs.declared.c.CLocal.{CLocal}
use Rattle.bl_tree.specs.declared.c.CMember.{CMember}
use Rattle.bl_tree.specs.declared.c.CParam.{CParam}
use Rattle.bl_tree.specs.declared.c.CPlace.{CPlace}
use Rattle.bl_tree.specs.declared.c.CStmt.{CStmt}
use Rattle.bl_tree.specs.declared.c.CStruct.{CStruct}
use Rattle.bl_tree.specs.declared.c.CType.TheVariants.{Scalar as OfScalar, Struct as OfStruct}
use Rattle.bl_tree.specs.declared.place.Place.{Place}
use Rattle.bl_tree.specs.declared.scalar.Op.TheVariants.{Eq}
use Rattle.bl_tree.specs.declared.scalar.Scalar.{Scalar}
use Rattle.bl_tree.specs.declared.scalar.Scalar.TheVariants.{Bool as OfBool}
use Rattle.bl_tree.specs.declared.tree.StructDef.{StructDef}
use Rattle.bl_tree.specs.declared.tree.Unit.{Unit as UnitDef}
use Rattle.bl_tree.specs.Program.{parameters_of}
use Rattle.bl_tree.specs.Typing.{site_of}
use Rattle.bl_graph_nodes.specs.Nodes.{EnterAt, Node, entry}
use Rattle.bl_graph_nodes.specs.Plain.{Block, Done, Then, plain_body}
use Rattle.bl_machine.specs.Blocks.{up_to}
use Rattle.bl_machine.specs.Uses.{Slots}
use Rattle.bl_tree.specs.Reduce.{joined}
use Rattle.bl_tree.specs.Rules.{same_place}
use Rattle.bl_emit_acts.specs.Acts.{c_copied, c_set, is_copied}
use Rattle.bl_emit_acts.specs.Trees.{c_read, c_two, nowhere}
use Rattle.bl_emit_acts.specs.Types.{c_scalar, copy_name, unit_name}
use Rattle.bl_emit_acts.specs.Expressions.{scalar_at}
use Rattle.bl_emit_functions.specs.Functions.{members_of, memory_name, params_from, struct_of}
use Rattle.bl_machine_pass.specs.Transitions.{Change, Condition, Transition}
use Rattle.bl_machine_pass.specs.Transitions.{Ended, Flagged, Rested, RestedIn, SetsMark, rules}
pub use Rattle.bl_machine_transitions.specs.Callees.{callees_in, node_number}
use Rattle.bl_emit_spec.specs.Blocks.{ActivityView, NodeCode, Sizes, all_merged, counter_type, counter_value, may_end_in, name_in, node_word, run_word}
use Rattle.bl_emit_spec.specs.Blocks.{turns_of, unit_may_end}
use Rattle.bl_emit_spec.specs.Names.{NumberedWord, callee_name, counter_name, counter_place, ended_name, flag_name, flag_place, frame_name}
use Rattle.bl_emit_spec.specs.Names.{given_name, mark_name, rested_name, rested_place}
use Rattle.bl_emit_spec.specs.Words.{word_in}
use Rattle.bl_machine_prevs.specs.Prevs.{prevs_of}

-- ---- runs

-- a `run` of an activity: its place, the number of the node at which it begins, and the activity's position
pub record RunAt : Type 0 where
  pub place : Place
  pub number : ℕ
  pub unit : ℕ

-- whether a `run` at the place begins at the node
abbrev pub enters_at : Place → Node → Bool
enters_at at (EnterAt l place arguments) = same_place place at
enters_at at n = false

-- the number of the first node at which a `run` at the place begins, in source order; 0 where there is none
abbrev pub run_number_in : (Node → ℕ) → List Transition → Place → ℕ
run_number_in number [] at = 0
run_number_in number (rule ∷ rest) at = if enters_at at rule.node then number rule.node else run_number_in number rest at

-- ---- an activity

-- what C is made of: a unit with the structs and units before it, the order of its nodes and their blocks, and the numbers of its resting places
pub record Activity : Type 0 where
  pub structs : List StructDef
  pub earlier : List UnitDef
  pub unit : UnitDef
  pub order : List ℕ
  pub blocks : List (List ℕ)
  pub slots : Slots
  -- how many values each counter has
  pub sizes : Sizes
  -- whether each of the earlier units remembers variables
  pub remember : List Bool

-- the body of an activity
abbrev pub body_of : Activity → Block
body_of a = plain_body a.unit.body

-- the rules of an activity's nodes, in source order
abbrev pub rules_at : Activity → List Transition
rules_at a = rules a.slots (body_of a)

-- the elements of a list at these positions
abbrev pub picked : {X : Type 0} → List X → List ℕ → List X
picked all [] = []
picked all (k ∷ rest) = option_to_list (slice_get all k) ++ picked all rest

-- the first positions of blocks, in order
abbrev pub first_positions : List (List ℕ) → List ℕ
first_positions [] = []
first_positions ([] ∷ rest) = first_positions rest
first_positions ((k ∷ block) ∷ rest) = k ∷ first_positions rest

-- the rules of the nodes that stand first in their blocks, in the order of the blocks
abbrev pub first_rules : Activity → List Transition
first_rules a = picked (rules_at a) (first_positions a.blocks)

-- which of the variables have a copy of their values at the start of the tick, in order
abbrev pub copies_of : UnitDef → List Bool
copies_of unit = map (λ k. list_any (nat_eq k) (prevs_of unit)) (up_to (length unit.vars))

-- whether a rule asks what the counter held when the tick began
abbrev pub reads_counter : ℕ → Condition → Bool
reads_counter k Flagged = false
reads_counter k (Rested slot) = nat_eq k slot.counter
reads_counter k (RestedIn slots) = list_any (λ slot. nat_eq k slot.counter) slots
reads_counter k (Ended age needed) = false

-- whether the rule asks for a flag
abbrev pub is_flagged : Condition → Bool
is_flagged Flagged = true
is_flagged (Rested slot) = false
is_flagged (RestedIn slots) = false
is_flagged (Ended age needed) = false

-- whether some rule asks what the counter held
abbrev pub is_read_by : List Transition → ℕ → Bool
is_read_by rules k = list_any (λ rule. reads_counter k rule.condition) rules

-- the view that an activity's blocks have of it
abbrev pub activity_view : Activity → ActivityView
activity_view a = record {
  site = site_of a.structs a.earlier a.unit;
  copies = copies_of a.unit;
  number = node_number a.order (body_of a);
  word = word_in (site_of a.structs a.earlier a.unit) (node_number a.order (body_of a)) (callees_in (body_of a)) (rules_at a);
  run = run_number_in (node_number a.order (body_of a)) (rules_at a);
  sizes = a.sizes;
  is_read = is_read_by (rules_at a);
  remembers = λ k. unwrap_or (slice_get a.remember k) false;
}

-- ---- runs

-- a `run`, where a node begins one of the activity
abbrev pub run_at : (Node → ℕ) → ℕ → Node → List RunAt
run_at number unit (EnterAt l at arguments) = record { place = at; number = number (EnterAt l at arguments); unit = unit } ∷ []
run_at number unit n = []

-- the `run`s of nodes, each with the activity that it calls
abbrev pub runs_at : (Node → ℕ) → List ℕ → List Transition → List RunAt
runs_at number [] rules = []
runs_at number callees [] = []
runs_at number (unit ∷ callees) (rule ∷ rules) = run_at number unit rule.node ++ runs_at number callees rules

-- the first `run` of each place
abbrev pub one_a_place : List RunAt → List RunAt
one_a_place [] = []
one_a_place (run ∷ rest) = run ∷ filter (λ other. not (same_place run.place other.place)) (one_a_place rest)

-- the first `run` of each place of an activity, in source order
abbrev pub runs_in_body : Activity → List RunAt
runs_in_body a = one_a_place (runs_at (activity_view a).number (callees_in (body_of a)) (rules_at a))

-- the number and word in the C names of a `run`
abbrev pub word_of_run : List UnitDef → RunAt → NumberedWord
word_of_run earlier run = run_word earlier run.number run.unit

-- ---- structs

-- a member that is a struct
abbrev pub struct_member : Text → Text → CMember
struct_member name of = record { ty = OfStruct of; name = name; length = None }

-- the member for a counter
abbrev pub counter_member : Sizes → ℕ → CMember
counter_member sizes k = record { ty = OfScalar (counter_type sizes k); name = counter_name k; length = None }

-- the struct member for where the activity that a `run` calls rests
abbrev pub frame_member : Activity → RunAt → CMember
frame_member a run = struct_member (callee_name (word_of_run a.earlier run)) (frame_name (name_in (slice_get a.earlier run.unit)))

-- the struct of where an activity rests: its counters, and the structs of the activities that it runs
abbrev pub frame_struct : Activity → CStruct
frame_struct a = record {
  place = nowhere;
  name = frame_name a.unit.name;
  members = map (counter_member a.sizes) (up_to (length a.sizes)) ++ map (frame_member a) (runs_in_body a);
}

-- the struct member for what the activity that a `run` calls remembers, if anything
abbrev pub memory_member : Activity → RunAt → List CMember
memory_member a run =
    if (activity_view a).remembers run.unit
    then struct_member (callee_name (word_of_run a.earlier run)) (memory_name (name_in (slice_get a.earlier run.unit))) ∷ []
    else []

-- what an activity remembers: its variables, and what the activities that it runs remember
abbrev pub remembered : Activity → List CMember
remembered a = members_of a.structs a.earlier a.unit ++ joined (map (memory_member a) (runs_in_body a))

-- the struct of what an activity remembers, if anything
abbrev pub remembered_struct : Activity → List CStruct
remembered_struct a = struct_of a.unit.name (remembered a)

-- whether an activity remembers anything
abbrev pub remembers_any : Activity → Bool
remembers_any a = nat_lt 0 (length (remembered a))

-- ---- the function

-- a pointer to a struct
abbrev pub pointer_param : Text → Text → CParam
pointer_param name of = record { ty = OfStruct of; pointer = true; name = name }

-- the parameter for the activity's result, where it has one
abbrev pub result_params : Option Scalar → List CParam
result_params (Some s) = record { ty = OfScalar (c_scalar s); pointer = true; name = codes "r" } ∷ []
result_params None = []

-- the parameter that tells whether the activity's body has ended, where it may end
abbrev pub over_params : Bool → List CParam
over_params true = record { ty = OfScalar OfBool; pointer = true; name = codes "e" } ∷ []
over_params false = []

-- the parameter for what an activity remembers, if anything
abbrev pub memory_params : Activity → Bool → List CParam
memory_params a true = pointer_param (codes "m") (memory_name a.unit.name) ∷ []
memory_params a false = []

-- the parameters of an activity's function: for where it rests, what it remembers, its inputs and outputs, its result, and whether it has ended, where it
-- may end
abbrev pub activity_params : Activity → List CParam
activity_params a =
    pointer_param (codes "f") (frame_name a.unit.name)
    ∷ (memory_params a (remembers_any a)
    ++ (params_from a.structs a.unit.vars 0 (parameters_of a.unit) ++ (result_params a.unit.result ++ over_params (unit_may_end a.unit))))

-- a local that is a number or a bool
abbrev pub scalar_local : Scalar → Text → CLocal
scalar_local s name = record { ty = OfScalar s; name = name }

-- the counters of which some rule asks what they held, in order
abbrev pub counters_read : Activity → List ℕ
counters_read a = filter (activity_view a).is_read (up_to (length a.sizes))

-- the local of what a counter held when the tick began
abbrev pub rested_local : Sizes → ℕ → CLocal
rested_local sizes k = scalar_local (counter_type sizes k) (rested_name k)

-- the local for the flag of a node that waits by one
abbrev pub flag_local : ActivityView → Transition → List CLocal
flag_local view rule = if is_flagged rule.condition then scalar_local OfBool (flag_name (node_word view rule.node)) ∷ [] else []

-- the local for a mark that a change sets
abbrev pub mark_local : ActivityView → Change → List CLocal
mark_local view (SetsMark n) = scalar_local OfBool (mark_name (node_word view n)) ∷ []
mark_local view change = []

-- the locals for the marks that a rule sets
abbrev pub mark_locals : ActivityView → Transition → List CLocal
mark_locals view rule = joined (map (mark_local view) rule.on_true)

-- the local for the copy of a variable
abbrev pub copy_local : Activity → ℕ → CLocal
copy_local a k = scalar_local (c_scalar (scalar_at (slice_get a.unit.vars k))) (copy_name a.unit.vars k)

-- the positions of the variables that are copied
abbrev pub copied_in : Activity → List ℕ
copied_in a = filter (is_copied (copies_of a.unit)) (up_to (length a.unit.vars))

-- the local for the result of a unit, where it has one
abbrev pub given_local : NumberedWord → Option Scalar → List CLocal
given_local k (Some s) = scalar_local (c_scalar s) (given_name k) ∷ []
given_local k None = []

-- whether some `run` calls an activity that may end
abbrev pub some_ends : List UnitDef → List RunAt → Bool
some_ends earlier runs = list_any (λ run. may_end_in (slice_get earlier run.unit)) runs

-- the local that tells whether what was called last has ended, where the test is true
abbrev pub ended_local : Bool → List CLocal
ended_local true = scalar_local OfBool ended_name ∷ []
ended_local false = []

-- the local for the result of what a `run` calls, where it has one
abbrev pub run_locals : Activity → RunAt → List CLocal
run_locals a run = given_local (word_of_run a.earlier run) (option_and_then (λ unit. unit.result) (slice_get a.earlier run.unit))

-- the locals: what counters held, flags of the first nodes of blocks, marks, copies, whether what was called has ended, where it may, and the results of
-- `run`s
abbrev pub activity_locals : Activity → List CLocal
activity_locals a =
    map (rested_local a.sizes) (counters_read a)
    ++ (joined (map (flag_local (activity_view a)) (first_rules a))
    ++ (joined (map (mark_locals (activity_view a)) (rules_at a))
    ++ (map (copy_local a) (copied_in a) ++ (ended_local (some_ends a.earlier (runs_in_body a)) ++ joined (map (run_locals a) (runs_in_body a))))))

-- what a counter holds as the tick begins is copied
abbrev pub rested_code : ℕ → CStmt
rested_code k = c_set (rested_place k) (c_read (counter_place k))

-- the place of what the first counter held when the tick began: the copy of the counter, where the test is true, else the counter itself
abbrev pub entry_place : Bool → CPlace
entry_place true = rested_place 0
entry_place false = counter_place 0

-- the entry waits where the first counter held 0: the body begins
abbrev pub entry_code : ActivityView → Block → List CStmt
entry_code view Done = []
entry_code view (Then s rest) =
    c_set (flag_place (node_word view (entry s))) (c_two Eq (c_read (entry_place (view.is_read 0))) (counter_value view.sizes 0 0)) ∷ []

-- the turns of nodes in source order
abbrev pub turns_in_source : Activity → List NodeCode
turns_in_source a = turns_of (activity_view a) (callees_in (body_of a)) (rules_at a)

-- the `if`s of blocks, which have nodes by their positions
abbrev pub blocks_code : (ℕ → Text) → List NodeCode → List (List ℕ) → List CStmt
blocks_code word turns blocks = all_merged word None (map (picked turns) blocks)

-- the `if`s of the activity's blocks, in order
abbrev pub blocks_in_order : Activity → List CStmt
blocks_in_order a = blocks_code (activity_view a).word (turns_in_source a) a.blocks

-- the body: copies of what held when the tick began, and the blocks in their order
abbrev pub activity_code : Activity → List CStmt
activity_code a =
    map rested_code (counters_read a)
    ++ (entry_code (activity_view a) (body_of a) ++ (map (c_copied (activity_view a).site) (copied_in a) ++ blocks_in_order a))

-- the C function of an activity
abbrev pub activity_function : Activity → CFunc
activity_function a = record {
  place = nowhere;
  fixed = true;
  result = None;
  name = unit_name a.unit.name;
  params = activity_params a;
  locals = activity_locals a;
  body = activity_code a;
}
