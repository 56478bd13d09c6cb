-- How long the chains of calls are that the C functions of units head.
use Rattle.std.proofs.Common.{◌≡◌, ℕ, zero, suc, ◌+◌, ◌<◌, ◌≤◌, max, Bool, true, false, List, [], ◌∷◌, ◌++◌, map, take}
use Rattle.std.proofs.Common.{Option, Some, None, refl, arith, codes, pos}
use Rattle.std.proofs.lemmas.List.{get_or-take}
use Rattle.std.specs.Prelude.{slice_get, slice_index, unwrap_or}
use Rattle.bl_tree.specs.declared.text.Text.{Text}
use Rattle.bl_tree.specs.declared.c.CStmt.{CStmt}
use Rattle.bl_tree.specs.declared.scalar.Scalar.{Scalar as ScalarType}
use Rattle.bl_tree.specs.declared.tree.StructDef.{StructDef}
use Rattle.bl_tree.specs.declared.tree.Unit.{Unit as UnitDef}
use Rattle.bl_tree.specs.declared.tree.Var.{Var}
use Rattle.bl_tree.specs.Reduce.{greatest}
use Rattle.bl_tree.specs.Typing.{TypingContext, inputs_of, site_of, var_at}
use Rattle.bl_limits_measures.specs.Calls.{calls_of}
use Rattle.bl_limits_measures.specs.Runs.{activities_run}
use Rattle.bl_limits_measures.specs.Units.{all_chains, chain_at, chain_by, greatest_at}
use Rattle.bl_limits_measures.proofs.TableLemmas.{answer_at}
use Rattle.bl_ctext_semantics.specs.Calls.{calls_in_block, most}
use Rattle.bl_ctext_semantics.specs.Faults.{depth_of_function}
use Rattle.bl_ctext_semantics.specs.Tables.{Table, entry_or}
use Rattle.bl_emit_acts.specs.declared.home.Home.{Home}
use Rattle.bl_emit_acts.specs.declared.home.Home.TheVariants.{Held, Local, Lent}
use Rattle.bl_emit_acts.specs.Acts.{name_of_callee}
use Rattle.bl_emit_acts.specs.Expressions.{function_name, hidden, scalar_at}
use Rattle.bl_emit_acts.specs.Places.{home_of, place_in}
use Rattle.bl_emit_acts.specs.Trees.{c_literal, c_place, c_read}
use Rattle.bl_emit_acts.specs.Types.{c_scalar, unit_name, variable_name}
use Rattle.bl_emit_functions.specs.Functions.{again_code, body_code, body_coded, c_input_copied, c_local_again, c_set_again, code_returns, copies_from}
use Rattle.bl_emit_functions.specs.Functions.{end_code, first_held, function_code, has_local, input_copied, local_again, locals_again, none_taken}
use Rattle.bl_emit_functions.specs.Functions.{read_code, whole_code}
use Rattle.bl_emit_functions.specs.Trees.{c_return_zero}
use Rattle.bl_emit_functions.specs.Reads.{reads_in_block}
use Rattle.bl_emit_functions_laws_wellformed.specs.Files.Laws.{ChainsFollow, ChainsKnown}
use Rattle.bl_emit_functions_laws_wellformed.proofs.OnFiles.Expressions.{hidden-light, literal-light, read-light, root-light}
use Rattle.bl_emit_functions_laws_wellformed.proofs.OnFiles.Statements.{Few, body_few, none_few, one_few, own_few, return_few, set_few, then_few}
use Rattle.bl_emit_functions_laws_wellformed.proofs.OnFiles.Under.{Under}

-- ---- what the whole body calls

module _ (weight : Text → ℕ) (prelude : (word : Text) (s : ScalarType) → weight (function_name word s) ≡ 0) (site : TypingContext) (by : ℕ → ℕ)
    (callees : (f : ℕ) → weight (name_of_callee (slice_get site.earlier f)) ≤ by f) (n : ℕ) where
  copied_few : (home : Home) (k : ℕ) → Few weight prelude n (input_copied site home k)
  copied_few Held k =
      one_few weight prelude n (c_input_copied site k)
      (set_few weight prelude n (place_in site k []) (c_read (c_place true (variable_name site.vars k) [])) (own_few weight prelude site by callees n k)
      (read-light weight prelude n (c_place true (variable_name site.vars k) []) (root-light weight prelude n true (variable_name site.vars k))))
  copied_few Local k = none_few weight prelude n
  copied_few Lent k = none_few weight prelude n

  copies_few : (k : ℕ) (vars : List Var) → Few weight prelude n (copies_from site k vars)
  copies_few k [] = none_few weight prelude n
  copies_few k (var ∷ rest) =
      then_few weight prelude n (input_copied site (home_of site (Some var)) k) (copies_from site (k + 1) rest)
      (copied_few (home_of site (Some var)) k) (copies_few (k + 1) rest)

  end_few : (result : Option ScalarType) (returns : Bool) → Few weight prelude n (end_code result returns)
  end_few (Some s) false =
      one_few weight prelude n (c_return_zero (c_scalar s))
      (return_few weight prelude n (Some (c_literal (c_scalar s) (pos 0))) (literal-light weight prelude n (c_scalar s) (pos 0)))
  end_few (Some s) true = none_few weight prelude n
  end_few None returns = none_few weight prelude n

  body_few_of : (unit : UnitDef) → Under by n (calls_of unit) → Few weight prelude n (body_code site unit)
  body_few_of unit few =
      then_few weight prelude n (copies_from site 0 (inputs_of unit))
      ((body_coded site unit).code ++ end_code unit.result (code_returns (body_coded site unit).code))
      (copies_few 0 (inputs_of unit))
      (then_few weight prelude n (body_coded site unit).code (end_code unit.result (code_returns (body_coded site unit).code))
      (body_few weight prelude site by callees unit.body n few none_taken) (end_few unit.result (code_returns (body_coded site unit).code)))

  read_few : (held : Option ℕ) (reads : Bool) → Few weight prelude n (read_code site held reads)
  read_few None reads = none_few weight prelude n
  read_few (Some k) true = none_few weight prelude n
  read_few (Some k) false =
      let own = own_few weight prelude site by callees n k in
      one_few weight prelude n (c_set_again site k)
      (set_few weight prelude n (place_in site k []) (c_read (place_in site k [])) own (read-light weight prelude n (place_in site k []) own))

  again_few : (k : ℕ) (local reads : Bool) → Few weight prelude n (local_again site k local reads)
  again_few k true false =
      let own = own_few weight prelude site by callees n k in
      one_few weight prelude n (c_local_again site k)
      (set_few weight prelude n (place_in site k []) (hidden (scalar_at (var_at site k)) (c_read (place_in site k []))) own
      (hidden-light weight prelude n (scalar_at (var_at site k)) (c_read (place_in site k [])) (read-light weight prelude n (place_in site k []) own)))
  again_few k true true = none_few weight prelude n
  again_few k false reads = none_few weight prelude n

  locals_few : (code : List CStmt) (k : ℕ) (vars : List Var) → Few weight prelude n (locals_again site code k vars)
  locals_few code k [] = none_few weight prelude n
  locals_few code k (var ∷ rest) =
      let reads : Bool = reads_in_block (variable_name site.vars k) code in
      then_few weight prelude n (local_again site k (has_local site var) reads) (locals_again site code (k + 1) rest)
      (again_few k (has_local site var) reads) (locals_few code (k + 1) rest)

  -- the body of a unit's C function calls what the unit calls
  pub code_few : (unit : UnitDef) → Under by n (calls_of unit) → Few weight prelude n (whole_code site unit)
  code_few unit few =
      let code : List CStmt = body_code site unit in
      let reads : Bool = reads_in_block (codes "m") code in
      then_few weight prelude n (again_code site unit code) code
      (then_few weight prelude n (read_code site (first_held site 0 unit.vars) reads) (locals_again site code 0 unit.vars)
      (read_few (first_held site 0 unit.vars) reads) (locals_few code 0 unit.vars))
      (body_few_of unit few)

-- ---- chains

pub chain_is : (units : List UnitDef) (k : ℕ) (unit : UnitDef) → slice_get units k ≡ Some unit
    → chain_at units k ≡ chain_by (take k (all_chains units)) unit
chain_is units k unit there = answer_at chain_by units k unit 0 there

-- an element of the front of a list
pub taken : {A : Type 0} (xs : List A) (k f : ℕ) (x : A) → slice_get (take k xs) f ≡ Some x → (f < k) × (slice_get xs f ≡ Some x)
taken xs zero f x there = absurd (cc)
taken [] (suc k) f x there = absurd (cc)
taken (y ∷ xs) (suc k) zero x there = (omega arith, there)
taken (y ∷ xs) (suc k) (suc f) x there = let rest = taken xs k f x there in (let less : f < k = rest.0 in omega (arith, less), rest.1)

module _ (structs : List StructDef) (units : List UnitDef) (k : ℕ) (depths : Table ℕ) (known : ChainsKnown units depths) where
  abbrev weight : Text → ℕ
  weight name = entry_or 0 depths name

  abbrev by : ℕ → ℕ
  by f = slice_index (take k (all_chains units)) f

  entry_none : (o : Option ℕ) → o ≡ None → unwrap_or o 0 ≡ 0
  entry_none None is = refl
  entry_none (Some n) is = absurd (cc)

  prelude_none : (word : Text) (s : ScalarType) → weight (function_name word s) ≡ 0
  prelude_none word s = entry_none (depths (function_name word s)) (known.prelude word s)

  callee_by : (f : ℕ) (o : Option UnitDef) → slice_get (take k units) f ≡ o → weight (name_of_callee o) ≤ by f
  callee_by f None there = let none : weight (unit_name []) ≡ 0 = entry_none (depths (unit_name [])) known.unnamed in omega (arith, none)
  callee_by f (Some unit) there =
      let found = taken units k f unit there in
      let less : f < k = found.0 in
      let most : weight (unit_name unit.name) ≤ chain_at units f = known.of_units f unit found.1 in
      let same : by f ≡ chain_at units f = get_or-take k (all_chains units) f 0 less in
      omega (arith, most, same)

  callees_by : (unit : UnitDef) (f : ℕ) → weight (name_of_callee (slice_get (site_of structs (take k units) unit).earlier f)) ≤ by f
  callees_by unit f = callee_by f (slice_get (take k units) f) refl

  -- the C function of a unit heads no longer chain than the unit
  pub no_longer : (unit : UnitDef) → slice_get units k ≡ Some unit → depth_of_function depths
      (function_code structs (take k units) unit) ≤ chain_at units k
  no_longer unit there =
      let n : ℕ = greatest (map by (calls_of unit)) in
      let all : most depths (calls_in_block (whole_code (site_of structs (take k units) unit) unit)) ≤ n =
      code_few weight prelude_none (site_of structs (take k units) unit) by (callees_by unit) n unit (omega arith) in
      let is : chain_at units k ≡ 1 + max n (greatest_at (take k (all_chains units)) (activities_run unit)) = chain_is units k unit there in
      omega (arith, all, is)

pub follow : (structs : List StructDef) (units : List UnitDef) → ChainsFollow structs units
follow structs units k unit depths there known = no_longer structs units k depths known unit there
