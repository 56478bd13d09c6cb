-- The pointers of a called activity stand.
use Rattle.std.proofs.Common.{◌≡◌, ℕ, ◌+◌, ◌<◌, ◌≤◌, ◌^◌, arith, Bool, true, false, ◌&&◌, ◌||◌, List, []}
use Rattle.std.proofs.Common.{◌∷◌, ◌++◌, length, map}
use Rattle.std.proofs.Common.{Some, refl, sym, ap, ap₂, ◌∙◌}
use Rattle.std.specs.Prelude.{◌==◌, codes, is_some, slice_get}
use Rattle.std.specs.List.{list_all}
use Rattle.bl_tree.proofs.Basics.{and_first, and_second}
use Rattle.bl_tree.specs.declared.tree.Var.{Var}
use Rattle.bl_tree.specs.declared.value.Value.{Value}
use Rattle.bl_tree.specs.Program.{parameters_of, roles_stand}
use Rattle.bl_tree.specs.Typing.{TypingContext, is_activity, var_at}
use Rattle.bl_ctext_semantics.specs.Meaning.{ArgumentValue, Meaning, Scope, by_address}
use Rattle.bl_ctext_semantics.specs.Memory.{Location, Memory, variable}
use Rattle.bl_ctext_semantics.specs.Tables.{Table}
use Rattle.bl_emit_acts.specs.declared.home.Home.TheVariants.{Lent}
use Rattle.bl_emit_acts_laws_simulation.specs.Acts.{all_apart, places_in_args}
use Rattle.bl_emit_acts_laws_simulation.specs.Frames.{PointersAreValid, is_older, lent_at, remembered_at}
use Rattle.bl_emit_acts_laws_simulation.specs.Encodes.{are_apart, home_at, is_live}
use Rattle.bl_emit_functions_laws_simulation.specs.Calls.{HandedOver}
use Rattle.bl_emit_functions_laws_simulation.proofs.OnCalls.Locals.{parameters_many, parameters_within}
use Rattle.bl_emit_spec.specs.Activities.{Activity, activity_view, remembers_any}
use Rattle.bl_emit_spec.specs.Blocks.{unit_may_end}
use Rattle.bl_emit_spec_laws.specs.Registers.Registers.{FramePointersAreValid, frame_at, over_at}
use Rattle.bl_emit_spec_laws.specs.Calls.Calls.{CallAddresses, MayGive, where_true, written_by}
use Rattle.bl_emit_spec_laws.specs.Calls.Invariant.{PlacesAreSeparate, result_at_c}
use Rattle.bl_emit_spec_laws.proofs.OnActivities.Forgetting.{holder_remembers}
use Rattle.bl_emit_spec_laws_files.proofs.OnBegins.Given.{AllApart, apart_parts, apart_split, one_flip, one_where, place_where}
use Rattle.bl_emit_spec_laws_files.proofs.OnBegins.Homes.{LentTo, lent_to, places_apart, where_is}
use Rattle.bl_emit_spec_laws_files.proofs.OnBegins.Pointers.{Begun, frame_given, lent_given, memory_given, no_memory, over_given, result_given}
use Rattle.bl_emit_acts_laws_simulation.proofs.Frames.{older_differs, roots_differ}
use Rattle.bl_emit_acts_laws_simulation.proofs.Cells.{apart_flip}
use Rattle.bl_emit_functions_laws_simulation.proofs.OnCalls.Handing.{all_front, live_older}

-- what keeps apart from one thing that may be left out
to_one : (xs : List Location) (b : Bool) (y : Location) → b ≡ true → AllApart xs (where_true b y) → AllApart xs (y ∷ [])
to_one xs true y is h = h
to_one xs false y is h = absurd (cc)

module _ (a : Activity) (standing : roles_stand a.unit ≡ true) (active : is_activity a.unit.kind ≡ true) (few : length a.unit.vars ≤ 2 ^ 64)
    (known : Table Meaning) (depth : ℕ) (given : CallAddresses) (values : List Value) (here : Memory)
    (handed : HandedOver a.structs a.unit (depth + 1) here values (given.inputs ++ map by_address given.outputs))
    (many : length (given.inputs ++ map by_address given.outputs) ≡ a.unit.inputs + a.unit.outputs)
    (may : MayGive a.unit (remembers_any a) depth given) where
  abbrev site : TypingContext
  site = (activity_view a).site

  abbrev remembers : Bool
  remembers = remembers_any a

  abbrev Args : List ArgumentValue
  Args = given.inputs ++ map by_address given.outputs

  abbrev n : ℕ
  n = a.unit.inputs + a.unit.outputs

  pub as_many : length (given.inputs ++ map by_address given.outputs) ≡ length (parameters_of a.unit)
  as_many = many ∙ sym (parameters_many a.structs a.earlier a.unit standing)

  abbrev scope : Scope
  scope = Begun a known (depth + 1) given as_many

  -- ---- what is given, in parts

  abbrev Memories : List Location
  Memories = where_true remembers given.memory

  abbrev Results : List Location
  Results = where_true (is_some a.unit.result) given.result

  abbrev Overs : List Location
  Overs = where_true (unit_may_end a.unit) given.over

  abbrev Ends : List Location
  Ends = Results ++ Overs

  abbrev Later : List Location
  Later = Memories ++ (given.outputs ++ Ends)

  frame_all : list_all (are_apart given.frame) Later ≡ true
  frame_all = and_first (list_all (are_apart given.frame) Later) (all_apart Later) may.apart

  frame_memory : list_all (are_apart given.frame) Memories ≡ true
  frame_memory = (all_front (are_apart given.frame) Memories (given.outputs ++ Ends) frame_all).0

  frame_outputs : list_all (are_apart given.frame) given.outputs ≡ true
  frame_outputs =
      (all_front (are_apart given.frame) given.outputs Ends (all_front (are_apart given.frame) Memories (given.outputs ++ Ends) frame_all).1).0

  frame_ends : list_all (are_apart given.frame) Ends ≡ true
  frame_ends =
      (all_front (are_apart given.frame) given.outputs Ends (all_front (are_apart given.frame) Memories (given.outputs ++ Ends) frame_all).1).1

  frame_results : list_all (are_apart given.frame) Results ≡ true
  frame_results = (all_front (are_apart given.frame) Results Overs frame_ends).0

  frame_over : unit_may_end a.unit ≡ true → are_apart given.frame given.over ≡ true
  frame_over ends =
      one_where (are_apart given.frame) (unit_may_end a.unit) given.over ends (all_front (are_apart given.frame) Results Overs frame_ends).1

  later_parts : AllApart Memories (given.outputs ++ Ends) × (all_apart Memories ≡ true) × (all_apart (given.outputs ++ Ends) ≡ true)
  later_parts = apart_split Memories (given.outputs ++ Ends) (and_second (list_all (are_apart given.frame) Later) (all_apart Later) may.apart)

  memory_parts : AllApart Memories given.outputs × AllApart Memories Ends
  memory_parts = apart_parts Memories given.outputs Ends later_parts.0

  memory_ends : AllApart Memories Results × AllApart Memories Overs
  memory_ends = apart_parts Memories Results Overs memory_parts.1

  output_parts : AllApart given.outputs Ends × (all_apart given.outputs ≡ true) × (all_apart Ends ≡ true)
  output_parts = apart_split given.outputs Ends later_parts.2

  output_ends : AllApart given.outputs Results × AllApart given.outputs Overs
  output_ends = apart_parts given.outputs Results Overs output_parts.0

  result_parts : AllApart Results Overs × (all_apart Results ≡ true) × (all_apart Overs ≡ true)
  result_parts = apart_split Results Overs output_parts.2

  -- a test of all that may be written
  module _ (test : Location → Bool) (all : list_all test (written_by a.unit (remembers_any a) given) ≡ true) where
    later : list_all test Later ≡ true
    later = and_second (test given.frame) (list_all test Later) all

    behind : list_all test (given.outputs ++ Ends) ≡ true
    behind = (all_front test Memories (given.outputs ++ Ends) later).1

    ends : list_all test Ends ≡ true
    ends = (all_front test given.outputs Ends behind).1

    for_frame : test given.frame ≡ true
    for_frame = and_first (test given.frame) (list_all test Later) all

    for_memory : remembers ≡ true → test given.memory ≡ true
    for_memory is = one_where test remembers given.memory is (all_front test Memories (given.outputs ++ Ends) later).0

    for_result : is_some a.unit.result ≡ true → test given.result ≡ true
    for_result is = one_where test (is_some a.unit.result) given.result is (all_front test Results Overs ends).0

    for_over : unit_may_end a.unit ≡ true → test given.over ≡ true
    for_over may = one_where test (unit_may_end a.unit) given.over may (all_front test Results Overs ends).1

  abbrev FromInputs : Location → Bool
  FromInputs place = list_all (are_apart place) (places_in_args given.inputs)

  abbrev IsLive : Location → Bool
  IsLive place = is_live depth place.root

  -- ---- where pointers lead

  abbrev LentAt : ℕ → Var → Type 0
  LentAt = LentTo (depth + 1) Args n

  pub lead_to : (j : ℕ) (at : Location) → j < a.unit.inputs + a.unit.outputs → slice_get (given.inputs ++ map by_address given.outputs) j
      ≡ Some (by_address at) → lent_at (Begun a known (depth + 1) given as_many) a.unit.vars j ≡ at
  lead_to j at less is =
      let all : length (parameters_of a.unit) ≡ n = parameters_many a.structs a.earlier a.unit standing in
      let most : n ≤ length a.unit.vars = parameters_within a.structs a.earlier a.unit standing in
      lent_given a known (depth + 1) given as_many j at (omega (arith, all, most, few)) (omega (arith, all, less)) is

  lent : (k : ℕ) (var : Var) → var_at site k ≡ Some var → home_at site k ≡ Lent → LentAt k var
  lent k var there home =
      lent_to a.structs a.earlier a.unit standing active (depth + 1) values Args here handed k var home
      (where_is a.structs a.earlier a.unit standing active (depth + 1) values Args here handed k var there)

  lent_leads : (k : ℕ) (var : Var) (to : LentAt k var) → lent_at scope site.vars k ≡ to.place
  lent_leads k var to = lead_to k to.place to.less to.is_passed

  lent_older : (k : ℕ) (var : Var) (to : LentAt k var) → is_older (depth + 1) (lent_at scope site.vars k).root ≡ true
  lent_older k var to = ap (λ (p : Location). is_older (depth + 1) p.root) (lent_leads k var to) ∙ to.older

  older_place : (at place : Location) → place ≡ at → is_live depth at.root ≡ true → is_older (depth + 1) place.root ≡ true
  older_place at place is live = ap (λ (p : Location). is_older (depth + 1) p.root) is ∙ live_older depth at.root live

  lent_place : (at place : Location) → place ≡ at → list_all (are_apart at) (places_in_args given.inputs) ≡ true →
      list_all (are_apart at) given.outputs ≡ true → (k : ℕ) (var : Var) → var_at site k ≡ Some var → home_at site k ≡ Lent →
      are_apart place (lent_at scope site.vars k) ≡ true
  lent_place at place is inputs outputs k var there home =
      let to : LentAt k var = lent k var there home in
      ap₂ are_apart is (lent_leads k var to)
      ∙ place_where (are_apart at) given.inputs given.outputs k to.place inputs outputs to.is_passed

  -- ---- what is said of each place that is given

  memory_is : remembers ≡ true → remembered_at scope ≡ given.memory
  memory_is = memory_given a known (depth + 1) given as_many

  result_is : is_some a.unit.result ≡ true → result_at_c scope ≡ given.result
  result_is = result_given a known (depth + 1) given as_many

  frame_is : frame_at scope ≡ given.frame
  frame_is = frame_given a known (depth + 1) given as_many

  over_is : unit_may_end a.unit ≡ true → over_at scope ≡ given.over
  over_is = over_given a known (depth + 1) given as_many

  memory_over : remembers ≡ true → unit_may_end a.unit ≡ true → are_apart given.memory given.over ≡ true
  memory_over is ends =
      one_where (are_apart given.memory) (unit_may_end a.unit) given.over ends
      (one_where (λ (x : Location). list_all (are_apart x) Overs) remembers given.memory is memory_ends.1)

  frame_from_memory : remembers ≡ true → are_apart given.frame given.memory ≡ true
  frame_from_memory is = one_where (are_apart given.frame) remembers given.memory is frame_memory

  memory_outputs : remembers ≡ true → list_all (are_apart given.memory) given.outputs ≡ true
  memory_outputs is = one_where (λ (x : Location). list_all (are_apart x) given.outputs) remembers given.memory is memory_parts.0

  result_over : is_some a.unit.result ≡ true → unit_may_end a.unit ≡ true → are_apart given.result given.over ≡ true
  result_over is ends =
      one_where (are_apart given.result) (unit_may_end a.unit) given.over ends
      (one_where (λ (x : Location). list_all (are_apart x) Overs) (is_some a.unit.result) given.result is result_parts.0)

  result_outputs : is_some a.unit.result ≡ true → list_all (are_apart given.result) given.outputs ≡ true
  result_outputs is = one_flip given.outputs given.result (to_one given.outputs (is_some a.unit.result) given.result is output_ends.0)

  memory_result : remembers ≡ true → is_some a.unit.result ≡ true → are_apart given.memory given.result ≡ true
  memory_result is has =
      one_where (are_apart given.memory) (is_some a.unit.result) given.result has
      (one_where (λ (x : Location). list_all (are_apart x) Results) remembers given.memory is memory_ends.0)

  pub memory_older : remembers_any a ≡ true → is_older (depth + 1) given.memory.root ≡ true
  memory_older is = live_older depth given.memory.root (for_memory IsLive may.live is)

  -- ---- the whole

  memory_lent : (k : ℕ) (var : Var) → var_at site k ≡ Some var → home_at site k ≡ Lent →
      are_apart (remembered_at scope) (lent_at scope site.vars k) ≡ true
  memory_lent k var there home = by remembers refl
    where
      by : (b : Bool) → remembers ≡ b → are_apart (remembered_at scope) (lent_at scope site.vars k) ≡ true
      by true is =
          lent_place given.memory (remembered_at scope) (memory_is is) (for_memory FromInputs may.inputs_apart is)
          (memory_outputs is) k var there home
      by false is =
          ap (λ (p : Location). are_apart p (lent_at scope site.vars k)) (no_memory a known (depth + 1) given as_many is)
          ∙ roots_differ (record { root = variable (depth + 1) (codes "m"); parts = [] }) (lent_at scope site.vars k)
          (older_differs (depth + 1) (codes "m") (lent_at scope site.vars k).root (lent_older k var (lent k var there home)))

  pub pointers_stand : PointersAreValid (activity_view a).site (Begun a known (depth + 1) given as_many)
  pointers_stand = record {
    few = few;
    lent_older = λ k var there home. lent_older k var (lent k var there home);
    held_older = λ k var there home active.
        let is : remembers ≡ true = holder_remembers a k var there home in
        older_place given.memory (remembered_at scope) (memory_is is) (for_memory IsLive may.live is);
    lent_apart = λ j k one two there other home second writable differ.
        ap₂ are_apart (lent_leads j one (lent j one there home)) (lent_leads k two (lent k two other second))
        ∙ places_apart a.structs a.earlier a.unit standing active (depth + 1) values Args here handed j k one two there writable differ
        (lent j one there home) (lent k two other second);
    held_apart = λ active k var there home. memory_lent k var there home;
  }

  frame_stands : FramePointersAreValid (unit_may_end a.unit) scope
  frame_stands = record {
    frame_older = older_place given.frame (frame_at scope) frame_is (for_frame IsLive may.live);
    over_older = λ ends. older_place given.over (over_at scope) (over_is ends) (for_over IsLive may.live ends);
    apart = λ ends. ap₂ are_apart frame_is (over_is ends) ∙ frame_over ends;
  }

  frame_lent : (k : ℕ) (var : Var) → var_at site k ≡ Some var → home_at site k ≡ Lent →
      are_apart (frame_at scope) (lent_at scope site.vars k) ≡ true
  frame_lent = lent_place given.frame (frame_at scope) frame_is (for_frame FromInputs may.inputs_apart) frame_outputs

  over_lent : unit_may_end a.unit ≡ true → (k : ℕ) (var : Var) → var_at site k ≡ Some var → home_at site k ≡ Lent →
      are_apart (over_at scope) (lent_at scope site.vars k) ≡ true
  over_lent ends =
      lent_place given.over (over_at scope) (over_is ends) (for_over FromInputs may.inputs_apart ends)
      (one_flip given.outputs given.over (to_one given.outputs (unit_may_end a.unit) given.over ends output_ends.1))

  pub places_stand : PlacesAreSeparate (activity_view a).site a.unit (remembers_any a) (Begun a known (depth + 1) given as_many)
  places_stand = record {
    pointers = pointers_stand;
    frame = frame_stands;
    frame_apart = record {
      lent = frame_lent;
      remembered = λ k var there home active.
          let is : remembers ≡ true = holder_remembers a k var there home in
          ap₂ are_apart frame_is (memory_is is) ∙ frame_from_memory is;
    };
    over_apart = λ ends. record {
      lent = over_lent ends;
      remembered = λ k var there home active.
          let is : remembers ≡ true = holder_remembers a k var there home in
          ap₂ are_apart (over_is ends) (memory_is is) ∙ apart_flip given.memory given.over (memory_over is ends);
    };
    memory = λ is. record {
      older = older_place given.memory (remembered_at scope) (memory_is is) (for_memory IsLive may.live is);
      frame = ap₂ are_apart (memory_is is) frame_is ∙ apart_flip given.frame given.memory (frame_from_memory is);
      over = λ ends. ap₂ are_apart (memory_is is) (over_is ends) ∙ memory_over is ends;
      lent = memory_lent;
    };
    result = λ is. record {
      older = older_place given.result (result_at_c scope) (result_is is) (for_result IsLive may.live is);
      frame = ap₂ are_apart (result_is is) frame_is
          ∙ apart_flip given.frame given.result (one_where (are_apart given.frame) (is_some a.unit.result) given.result is frame_results);
      over = λ ends. ap₂ are_apart (result_is is) (over_is ends) ∙ result_over is ends;
      lent = lent_place given.result (result_at_c scope) (result_is is) (for_result FromInputs may.inputs_apart is) (result_outputs is);
    };
    result_apart = λ is remember. ap₂ are_apart (result_is is) (memory_is remember)
        ∙ apart_flip given.memory given.result (memory_result remember is);
  }
