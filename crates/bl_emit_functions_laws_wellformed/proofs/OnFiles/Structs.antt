-- The structs before the functions of a program: nothing fails in them, and each is declared.
use Rattle.std.proofs.Common.{◌≡◌, ℕ, zero, suc, ◌+◌, ◌<◌, ◌≤◌, inl, inr, ⊎_elim, Bool, true, false, List, []}
use Rattle.std.proofs.Common.{◌∷◌, ◌++◌, map, take, drop, length}
use Rattle.std.proofs.Common.{Option, Some, None, refl, sym, ap, ◌∙◌, subst, arith, append_assoc}
use Rattle.std.proofs.lemmas.Bool.{cases_lt}
use Rattle.std.proofs.lemmas.List.{get_or_past}
use Rattle.std.proofs.lemmas.List.Elements.{Contains-append_left, Contains-append_right}
use Rattle.std.proofs.lemmas.Option.{get_or_from_slice_get, slice_get_cases, slice_get_within}
use Rattle.std.proofs.lemmas.Slice.Eq.{bytes_eq-Decides}
use Rattle.std.specs.Option.{option_or}
use Rattle.std.specs.Prelude.{Contains, bytes_eq, get_or, is_none, slice_get, slice_index, if◌then◌else◌}
use Rattle.bl_tree.proofs.Basics.{both_empty, none_from, take_next}
use Rattle.bl_tree.specs.declared.c.CMember.{CMember}
use Rattle.bl_tree.specs.declared.c.CStruct.{CStruct}
use Rattle.bl_tree.specs.declared.rule.Rule.TheVariants as rule
use Rattle.bl_tree.specs.declared.text.Text.{Text}
use Rattle.bl_tree.specs.declared.tree.StructDef.{StructDef}
use Rattle.bl_tree.specs.declared.tree.Unit.{Unit as UnitDef}
use Rattle.bl_tree.specs.declared.tree.Var.{Var}
use Rattle.bl_tree.specs.Typing.{is_function}
use Rattle.bl_limits.specs.Rules.{Passes}
use Rattle.bl_limits_measures.specs.InOrder.{answers}
use Rattle.bl_limits_measures.specs.Types.{fields_nesting, nesting, struct_nestings}
use Rattle.bl_limits_measures.proofs.TableLemmas.{length_answers}
use Rattle.bl_ctext_semantics.specs.Faults.{depth_of_struct, distinct_names, faults_in_struct, member_table, struct_faults_after, struct_table, unless}
use Rattle.bl_ctext_semantics.specs.Tables.{Table, found, no_entries, with_entry}
use Rattle.bl_emit_structs.specs.Structs.{each_once, structs_for}
use Rattle.bl_emit_functions.specs.Functions.{memory_struct}
use Rattle.bl_emit_structs_laws_wellformed.specs.Formed.{NestsAtMost, StructsThere, StructsWellFormed}
use Rattle.bl_emit_functions_laws_wellformed.specs.Formed.{MemoriesHold}
use Rattle.bl_emit_functions_laws_wellformed.specs.Files.List.{FunctionFilesWellFormed, FunctionListsWellFormed, StructsPrecede, memories_after}
use Rattle.bl_emit_functions_laws_wellformed.specs.Files.List.{memory_where, structs_before}
use Rattle.bl_emit_functions_laws_wellformed.proofs.OnFiles.Memories.{memories}
use Rattle.bl_emit_functions_laws_wellformed.proofs.OnFiles.Walk.{drop_next}
use Rattle.bl_ctext_semantics.proofs.EndLemmas.{unless-nil}

-- ---- a list of structs in which nothing fails

-- what stands in no entry, nor in the next
pub both_free : {A : Type 0} (o : Option A) (b : Bool) (new : A) → option_or o (if b then Some new else None) ≡ None → (o ≡ None) × (b ≡ false)
both_free None true new is = absurd (cc)
both_free None false new is = (refl, refl)
both_free (Some x) b new is = absurd (cc)

abbrev pub entry : CStruct → Text × Table CMember
entry s = (s.name, member_table s)

first_found : (name : Text) (value : Table CMember) (b : Bool) (o : Option (Table CMember)) → b ≡ true → (if b then Some value else o) ≡ Some value
first_found name value true o is = refl
first_found name value false o is = absurd (cc)

pub later_found : (value : Table CMember) (b : Bool) (o : Option (Table CMember)) → b ≡ false → (if b then Some value else o) ≡ o
later_found value true o is = absurd (cc)
later_found value false o is = refl

-- each struct of the list is declared under its name
declared : (list : List CStruct) (table : Table (Table CMember)) (depths : Table ℕ) → struct_faults_after table depths list ≡ [] → (more : List CStruct)
    (s : CStruct) → Contains list s → (table s.name ≡ None) × (found s.name (map entry (list ++ more)) ≡ Some (member_table s))
declared [] table depths none more s (k, within, is) = absurd (omega (arith, within))
declared (y ∷ list) table depths none more s (zero, within, is) =
    let faults = both_empty (faults_in_struct table depths y) _ none in
    let front = both_empty (unless (is_none (table y.name)) distinct_names y.place) _ faults.0 in
    let free : table y.name ≡ None = none_from (table y.name) (unless-nil (is_none (table y.name)) distinct_names y.place front.0) in
    subst (λ (s : CStruct). (table s.name ≡ None) × (found s.name (map entry ((y ∷ list) ++ more)) ≡ Some (member_table s))) is
    (free, first_found y.name (member_table y) (bytes_eq y.name y.name) (found y.name (map entry (list ++ more))) ((bytes_eq-Decides y.name y.name).1 refl))
declared (y ∷ list) table depths none more s (suc k, within, is) =
    let faults = both_empty (faults_in_struct table depths y) _ none in
    let rest = declared list (with_entry table y.name (member_table y)) (with_entry depths y.name (depth_of_struct depths y)) faults.1 more s
    (k, omega (arith, within), is) in
    let free = both_free (table s.name) (bytes_eq y.name s.name) (member_table y) rest.0 in
    (free.0, later_found (member_table y) (bytes_eq y.name s.name) (found s.name (map entry (list ++ more))) free.1 ∙ rest.1)

-- ---- nesting

module _ (structs : List StructDef) (units : List UnitDef) (start : ℕ) (passes : Passes structs units start) where
  definition_nests : (k : ℕ) → slice_index (struct_nestings structs) k ≤ 299
  definition_nests k =
      ⊎_elim
      (λ (deep : 100 < slice_index (struct_nestings structs) k). ⊎_elim
      (λ (there : (def : StructDef) × (k < length structs) × (slice_get structs k ≡ Some def) × (get_or structs k def ≡ def)). absurd
      (passes rule.Cells there.0.place []
      (inr (inl (record { position = k; later = omega arith; def = there.0; is_there = there.2; deep = deep; at_name = refl })), refl)))
      (λ (past : (length structs ≤ k) × (slice_get structs k ≡ None)). let long = length_answers fields_nesting [] structs in
      let few : length structs ≤ k = past.0 in
      let none : slice_index (struct_nestings structs) k ≡ 0 = get_or_past (answers fields_nesting structs) k 0 (omega (arith, long, few)) in
      omega (arith, none))
      (slice_get_cases structs k).1)
      (λ (few : slice_index (struct_nestings structs) k ≤ 100). omega (arith, few))
      (cases_lt 100 (slice_index (struct_nestings structs) k))

  variable_nests : (k j : ℕ) (unit : UnitDef) (var : Var) → slice_get units k ≡ Some unit
      → slice_get unit.vars j ≡ Some var → nesting structs var.ty ≤ 299
  variable_nests k j unit var there has =
      ⊎_elim
      (λ (deep : 100 < nesting structs var.ty). absurd (passes rule.Cells var.place [] (
        inr (inr (record {
          unit = unit;
          of_program = (k, slice_get_within units k unit there, get_or_from_slice_get units k unit unit there);
          var = var;
          of_unit = (j, slice_get_within unit.vars j var has, get_or_from_slice_get unit.vars j var var has);
          deep = deep;
          at_name = refl;
        })),
        refl,
      )))
      (λ (few : nesting structs var.ty ≤ 100). omega (arith, few))
      (cases_lt 100 (nesting structs var.ty))

  nests : NestsAtMost 299 structs units
  nests = record { definitions = definition_nests; variables = variable_nests }

-- ---- the structs of variables

-- the struct of a function's variables is among those of all
among : (structs : List StructDef) (units xs : List UnitDef) (k j : ℕ) (unit : UnitDef) → drop k units ≡ xs → slice_get xs j ≡ Some unit →
    is_function unit.kind ≡ true → (s : CStruct) → Contains (memory_struct structs (take (k + j) units) unit) s →
    Contains (memories_after structs (take k units) xs) s
among structs units [] k j unit is there function s has = absurd (cc)
among structs units (first ∷ xs) k zero unit is there function s has =
    let same : first ≡ unit = same_first first unit there in
    let none : k + 0 ≡ k = omega arith in
    Contains-append_left (memory_where (is_function first.kind) structs (take k units) first) (memories_after structs (take k units ++ first ∷ []) xs) s
    (subst (λ b. Contains (memory_where b structs (take k units) first) s) (sym function ∙ ap (λ (u : UnitDef). is_function u.kind) (sym same))
    (subst (λ (u : UnitDef). Contains (memory_struct structs (take k units) u) s) (sym same)
    (subst (λ n. Contains (memory_struct structs (take n units) unit) s) none has)))
  where
    same_first : (a b : UnitDef) → Some a ≡ Some b → a ≡ b
    same_first a b is = cc
among structs units (first ∷ xs) k (suc j) unit is there function s has =
    let next = drop_next units k first xs is in
    let later : k + suc j ≡ suc k + j = omega arith in
    Contains-append_right (memory_where (is_function first.kind) structs (take k units) first) (memories_after structs (take k units ++ first ∷ []) xs) s
    (subst (λ earlier. Contains (memories_after structs earlier xs) s) (take_next units k first next.0)
    (among structs units xs (suc k) j unit next.1 there function s (subst (λ n. Contains (memory_struct structs (take n units) unit) s) later has)))

pub precede : (structs : List StructDef) (units : List UnitDef) (start : ℕ) → StructsWellFormed structs units start → StructsThere structs units start →
    MemoriesHold structs units → StructsPrecede structs units start
precede structs units start formed there hold more keeps passes numbered =
    let list : List CStruct = structs_before structs units in
    let own : List CStruct = memories_after structs [] units in
    let types : List CStruct = each_once [] (structs_for structs units) in
    let none : struct_faults_after no_entries no_entries list ≡ [] =
    formed own keeps (nests structs units start passes) (memories structs units start hold keeps numbered) in (
      none,
      record {
        types = λ s has. subst (λ all. struct_table all s.name ≡ Some (member_table s)) (sym (append_assoc types own more))
            (there 299 (own ++ more) keeps (nests structs units start passes) s has);
        memories = λ k unit found function s has.
            let same : k ≡ 0 + k = omega arith in
            (declared list no_entries no_entries none more s
            (Contains-append_right types own s
            (among structs units units 0 k unit refl found function s (subst (λ n. Contains (memory_struct structs (take n units) unit) s) same has)))).1;
      },
    )

-- a file that begins with the structs and the functions of a program
pub files : (structs : List StructDef) (units : List UnitDef) (start : ℕ) → StructsPrecede structs units start → FunctionListsWellFormed structs units start →
    FunctionFilesWellFormed structs units start
files structs units start precedes formed more rest keeps passes numbered two =
    formed (struct_table (structs_before structs units ++ more)) rest keeps passes (precedes more keeps passes numbered).1 numbered two
