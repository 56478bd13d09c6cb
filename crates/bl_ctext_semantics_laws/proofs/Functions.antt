-- Functions in a C text and over numbered cells.
use Rattle.std.proofs.Common.{◌≡◌, ℕ, ◌+◌, ◌≤◌, Bool, true, false, not, ◌&&◌, ◌||◌, List, [], ◌∷◌, ◌++◌, map, Option, Some, None, refl, ap, sym}
use Rattle.std.proofs.Common.{subst, ◌∙◌, arith}
use Rattle.std.specs.Prelude.{bytes_eq, is_some, is_none, ◌==◌, codes, if◌then◌else◌}
use Rattle.std.specs.List.{list_all}
use Rattle.std.proofs.lemmas.Grind.{common_steps}
use Rattle.bl_tree.proofs.Basics.{and_second, first_empty, none_plus, second_empty}
use Rattle.bl_tree.specs.declared.text.Text.{Text}
use Rattle.bl_tree.specs.declared.scalar.Scalar.{Scalar}
use Rattle.bl_tree.specs.declared.c.CParam.{CParam}
use Rattle.bl_tree.specs.declared.c.CLocal.{CLocal}
use Rattle.bl_tree.specs.declared.c.CFunc.{CFunc}
use Rattle.bl_tree.specs.Reduce.{all_of}
use Rattle.bl_ctext.specs.Spellable.{spells_func, spells_local, spells_param, spells_returned, spells_stmt}
use Rattle.bl_ctext.specs.Names.{is_function_name}
use Rattle.bl_ctext_semantics.specs.Memory.{Root, state_object, input_object, output_object, variable, Location, Memory, in_frame, set_at, without_frame, zeros}
use Rattle.bl_ctext_semantics.specs.Course.{End, breaks, goes_on, result_at, returns, traps}
use Rattle.bl_ctext_semantics.specs.Meaning.{Meaning, ArgumentValue, by_address, by_value, Scope, block_c, function_c}
use Rattle.bl_ctext_semantics.specs.Meaning.{pointers_of, with_params}
use Rattle.bl_ctext_semantics.specs.Sizes.{Sizes, chain_cells, sizes}
use Rattle.bl_ctext_semantics.specs.Tables.{Table, entry_or, found, no_entries, table_of}
use Rattle.bl_ctext_semantics.specs.Loops.{turns_in_block}
use Rattle.bl_ctext_semantics.specs.Faults.{distinct_names, declared_before, scalar_parameter, Signature, all_distinct, block_faults, context_in}
use Rattle.bl_ctext_semantics.specs.Faults.{faults_in_function, faults_in_head, faults_in_stmt, is_declared, is_scalar, local_variable, names_table}
use Rattle.bl_ctext_semantics.specs.Faults.{repeated, signature_in, struct_table, unless, variable_names}
use Rattle.bl_ctext_semantics.specs.Parts.{Parts}
use Rattle.bl_ctext_semantics_laws.specs.Layout.{capped, capped_sizes, frame_cells, layouts, slots_of}
use Rattle.bl_ctext_semantics_laws.specs.Reaching.{Ground}
use Rattle.bl_ctext_semantics_laws.specs.Flat.{Routine, block_flat, frame_begun, ground_of, routine_flat, with_args, zeroed}
use Rattle.bl_ctext_semantics_laws.proofs.Faultless.{unless-nil}
use Rattle.bl_ctext_semantics_laws.proofs.Entries.{offset_of, sum_of}
use Rattle.bl_ctext_semantics_laws.proofs.Ways.{Shaped, Structs}
use Rattle.bl_ctext_semantics_laws.proofs.Standing.{Stands, World, zero-fits}
use Rattle.bl_ctext_semantics_laws.proofs.Running.{Agrees, Ends, FunctionAs, Keeps, Ranged, Running, Unsafe}
use Rattle.bl_ctext_semantics_laws.proofs.Statements.{EndRanged, RunAgrees, body-agrees}
use Rattle.bl_ctext_semantics_laws.proofs.Effects.{Stays, body-stays, set-stays}
use Rattle.bl_ctext_semantics_laws.proofs.Layouts.{laying-file, lists_of}
use Rattle.bl_ctext_semantics_laws.proofs.Frames.{SlotFor, entries, frame-sum, frame-total, params-slot, variable_size}
use Rattle.bl_ctext_semantics_laws.proofs.Begun.{begun-stands, begun_world, deeper-shallow, ended-stands, inner-separate, pointer_cells, variable-as}

-- what is known of a function in which nothing fails
pub record Sound (structs : Structs) (functions : Table Signature) (f : CFunc) : Type 0 where
  pub fresh : is_none (functions f.name) ≡ true
  pub apart : all_distinct no_entries (variable_names f) ≡ true
  pub single : list_all (λ p. p.pointer || is_scalar p.ty) f.params ≡ true
  pub body : block_faults (map faults_in_stmt f.body) (context_in structs functions f) false ≡ []

pub sound : (structs : Structs) (functions : Table Signature) (depths : Table ℕ) (last : Bool) (f : CFunc) →
    faults_in_function structs functions depths last f ≡ [] → Sound structs functions f
sound structs functions depths last f none =
    let h0 = first_empty (faults_in_head structs functions depths last f) _ none in
    let h1 = second_empty (unless (is_none (functions f.name)) distinct_names f.place) _ h0 in
    let h2 = second_empty (unless (all_distinct no_entries (variable_names f)) distinct_names f.place) _ h1 in
    let h3 = second_empty (unless (list_all (λ p. is_declared structs p.ty) f.params && list_all (λ l. is_declared structs l.ty) f.locals) declared_before
    f.place) _ h2 in
    let h7 = second_empty (faults_in_head structs functions depths last f) _ none in
    record {
      fresh = unless-nil (is_none (functions f.name)) distinct_names f.place (first_empty _ _ h0);
      apart = unless-nil (all_distinct no_entries (variable_names f)) distinct_names f.place (first_empty _ _ h1);
      single = unless-nil (list_all (λ p. p.pointer || is_scalar p.ty) f.params) scalar_parameter f.place (first_empty _ _ h3);
      body = second_empty (repeated (names_table (variable_names f)) (turns_in_block f.body)) _ h7;
    }

locals-names : (locals : List CLocal) → map (λ l. l.name) locals ≡ map (λ e. e.0) (map local_variable locals)
locals-names [] = refl
locals-names (l ∷ locals) = ap (λ ns. l.name ∷ ns) (locals-names locals)

names-are : (params : List CParam) (locals : List CLocal) → map (λ p. p.name) params ++ map (λ l. l.name) locals ≡ map (λ e. e.0) (entries params locals)
names-are [] locals = locals-names locals
names-are (p ∷ params) locals = ap (λ ns. p.name ∷ ns) (names-are params locals)

-- ---- what a function changes

pointer-unsafe : (safe : Root → Bool) (ps : List CParam) (passed : List ArgumentValue) (name : Text) (l : Location) → Unsafe safe passed →
    found name (pointers_of ps passed) ≡ Some l → safe l.root ≡ false
pointer-unsafe safe [] [] name l unsafe h = cc
pointer-unsafe safe [] (v ∷ vs) name l unsafe h = cc
pointer-unsafe safe (p ∷ ps) [] name l unsafe h = cc
pointer-unsafe safe (p ∷ ps) (by_value v ∷ vs) name l unsafe h = pointer-unsafe safe ps vs name l unsafe h
pointer-unsafe safe (p ∷ ps) (by_address place ∷ vs) name l unsafe h =
    chosen (bytes_eq p.name name) h (λ later. pointer-unsafe safe ps vs name l unsafe.1 later)
  where
    some_place : (a b : Location) → Some a ≡ Some b → a ≡ b
    some_place a b h = cc

    chosen : (b : Bool) → (if b then Some place else found name (pointers_of ps vs)) ≡ Some l →
        (found name (pointers_of ps vs) ≡ Some l → safe l.root ≡ false) → safe l.root ≡ false
    chosen true h rest = ap (λ x. safe x.root) (sym (some_place place l h)) ∙ unsafe.0
    chosen false h rest = rest h

params-stay : (safe : Root → Bool) (depth : ℕ) (ps : List CParam) (passed : List ArgumentValue) (memory : Memory) → Ends safe depth →
    Stays safe memory (with_params depth ps passed memory)
params-stay safe depth [] [] memory own root is = refl
params-stay safe depth [] (v ∷ vs) memory own root is = refl
params-stay safe depth (p ∷ ps) [] memory own root is = refl
params-stay safe depth (p ∷ ps) (by_address place ∷ vs) memory own root is = params-stay safe depth ps vs memory own root is
params-stay safe depth (p ∷ ps) (by_value v ∷ vs) memory own root is =
    params-stay safe depth ps vs (set_at memory (record { root = variable depth p.name; parts = [] }) v) own root is
    ∙ set-stays safe memory (record { root = variable depth p.name; parts = [] }) v (own depth p.name (omega arith)) root is

safe-outside : (safe : Root → Bool) (depth : ℕ) (root : Root) → Ends safe depth → safe root ≡ true → in_frame depth root ≡ false
safe-outside safe depth state_object own is = refl
safe-outside safe depth input_object own is = refl
safe-outside safe depth output_object own is = refl
safe-outside safe depth (variable d name) own is = chosen (depth == d) refl
  where
    chosen : (b : Bool) → (depth == d) ≡ b → b ≡ false
    chosen false same = refl
    chosen true same = absurd (let e : depth ≡ d = grind (arith, common_steps) in let x : true ≡ false = sym is ∙ own d name (omega arith) in cc)

without-stays : (safe : Root → Bool) (depth : ℕ) (memory : Memory) → Ends safe depth → Stays safe memory (without_frame depth memory)
without-stays safe depth memory own root is = ap (λ b. if b then zeros else memory root) (safe-outside safe depth root own is)

pub function-keeps : (structs : Structs) (functions : Table Signature) (known : Table Meaning) (f : CFunc) → Sound structs functions f →
    bytes_eq f.name (codes "bl_tick") ≡ false →
    ((name : Text) (s : Signature) (meaning : Meaning) → functions name ≡ Some s → known name ≡ Some meaning → Keeps meaning s) →
    Keeps (function_c known f) (signature_in f)
function-keeps structs functions known f is other earlier = record {
  stay = λ safe depth passed memory own unsafe root safe-root.
      let scope : Scope = record { known = known; depth = depth; pointers = table_of (pointers_of f.params passed) } in
      let start : Memory = with_params depth f.params passed (without_frame depth memory) in
      let keeps : (is_some f.result && not (bytes_eq f.name (codes "bl_tick"))) ≡ is_some f.result =
      ap (λ b. is_some f.result && not b) other ∙ plain (is_some f.result) in
      without-stays safe depth (block_c f.body scope start).memory own root safe-root
      ∙ body-stays safe (context_in structs functions f) (record { known = known; depth = depth; pointers = table_of (pointers_of f.params passed) }) own
      (λ free name l there. pointer-unsafe safe f.params passed name l (unsafe (sym keeps ∙ free)) there) (λ name s meaning a b. earlier name s meaning a b)
      f.body false is.body start root safe-root
      ∙ params-stay safe depth f.params passed (without_frame depth memory) own root safe-root
      ∙ without-stays safe depth memory own root safe-root;
}
  where
    plain : (b : Bool) → (b && true) ≡ b
    plain true = refl
    plain false = refl

-- ---- a function in both

module _ (file : Parts) (shaped : Shaped (sizes file.structs) (lists_of file.structs) (struct_table file.structs)) (limit : ℕ)
    (small : limit ≤ 1000000) where
  abbrev known : Sizes
  known = sizes file.structs

  abbrev structs : Structs
  structs = struct_table file.structs

  abbrev pub FunctionsAs : Table Signature → Table Meaning → Table Routine → Table ℕ → Type 0
  FunctionsAs functions meanings routines chains =
      (name : Text) (s : Signature) → functions name ≡ Some s →
      FunctionAs (sizes file.structs) (lists_of file.structs) (struct_table file.structs) shaped limit s (meanings name) (routines name)
      (entry_or 0 chains name)

  ranged-end : (result : Option Scalar) (end : End) → EndRanged result end →
      Ranged (sizes file.structs) (lists_of file.structs) (struct_table file.structs) shaped limit result (result_at end)
  ranged-end None end h = tt
  ranged-end (Some t) goes_on h = zero-fits t
  ranged-end (Some t) breaks h = zero-fits t
  ranged-end (Some t) (returns n) h = h
  ranged-end (Some t) traps h = tt

  body-spelled : (f : CFunc) → spells_func f ≡ true → all_of (map spells_stmt f.body) ≡ true
  body-spelled f h =
      and_second (all_of (map spells_local f.locals)) _
      (and_second (all_of (map spells_param f.params)) _ (and_second (is_function_name f.name) _ (and_second (spells_returned f.result) _ h)))

  pub function-agrees : (functions : Table Signature) (meanings : Table Meaning) (routines : Table Routine) (chains : Table ℕ) (f : CFunc) →
      Sound (struct_table file.structs) functions f → spells_func f ≡ true →
      FunctionsAs functions meanings routines chains →
      Agrees (sizes file.structs) (lists_of file.structs) (struct_table file.structs) shaped limit (function_c meanings f)
      (routine_flat (capped_sizes file.structs) (layouts file.structs) routines f) (signature_in f) (chain_cells (sizes file.structs) chains f)
  function-agrees functions meanings routines chains f is spelled earlier = record {
    agree = λ w depth base passed args memory cells separate shallow under room stands all.
        let sum = sum_of (variable_size (sizes file.structs)) (entries f.params f.locals) in
        let summed = frame-sum (sizes file.structs) f.params f.locals in
        let totalled : frame_cells (capped_sizes file.structs) f ≡ capped (sum_of (variable_size (sizes file.structs)) (entries f.params f.locals)) =
        frame-total file.structs f.params f.locals in
        let fits : base + sum_of (variable_size (sizes file.structs)) (entries f.params f.locals) ≤ limit = omega arith in
        let frame : frame_cells (capped_sizes file.structs) f ≡ sum_of (variable_size (sizes file.structs)) (entries f.params f.locals) =
        totalled ∙ omega arith in
        let apart : all_distinct no_entries (map (λ e. e.0) (entries f.params f.locals)) ≡ true =
        ap (all_distinct no_entries) (sym (names-are f.params f.locals)) ∙ is.apart in
        let inner : World = begun_world (sizes file.structs) w depth base (entries f.params f.locals) (pointer_cells base f.params args) in
        let scope : Scope = record { known = meanings; depth = depth; pointers = table_of (pointers_of f.params passed) } in
        let ground : Ground Routine = ground_of (capped_sizes file.structs) (layouts file.structs) routines f in
        let start : Memory = with_params depth f.params passed (without_frame depth memory) in
        let running : Running (sizes file.structs) (lists_of file.structs) (struct_table file.structs) shaped limit
        (context_in (struct_table file.structs) functions f) scope ground chains base inner = record {
          separate = inner-separate (sizes file.structs) (lists_of file.structs) (struct_table file.structs) shaped limit w depth base f.params f.locals
              separate shallow under fits apart is.single passed args memory all;
          small = small;
          low = fits;
          structs-are = refl;
          laying = laying-file file;
          next = let e = frame in omega arith;
          shallow = deeper-shallow (sizes file.structs) (lists_of file.structs) (struct_table file.structs) shaped limit w depth base f.params f.locals
              separate shallow under fits apart is.single (pointer_cells base f.params args);
          variables = λ name v there.
              variable-as (sizes file.structs) (lists_of file.structs) (struct_table file.structs) shaped limit w depth base f.params f.locals separate shallow
              under fits apart is.single passed args memory all small name v
              (slots_of (capped_sizes file.structs) f name) there
              (subst (λ n. SlotFor (slots_of (capped_sizes file.structs) f name) v n)
              (none_plus (offset_of (variable_size (sizes file.structs)) (entries f.params f.locals) name))
              (params-slot file.structs 0 0 f.params f.locals name v refl there));
          functions = earlier;
        } in
        let begin : Stands (sizes file.structs) (lists_of file.structs) (struct_table file.structs) shaped limit inner start
        (frame_begun (frame_cells (capped_sizes file.structs) f) base args cells) =
        subst (λ n. Stands (sizes file.structs) (lists_of file.structs) (struct_table file.structs) shaped limit inner start
        (with_args base args (zeroed n base cells))) (sym frame)
        (begun-stands (sizes file.structs) (lists_of file.structs) (struct_table file.structs) shaped limit w depth base f.params f.locals separate shallow
        under fits apart is.single passed args memory all cells stands) in
        let ran : RunAgrees (sizes file.structs) (lists_of file.structs) (struct_table file.structs) shaped limit
        (context_in (struct_table file.structs) functions f) scope ground chains base inner running
        (block_c f.body scope start) (block_flat f.body ground base (frame_begun (frame_cells (capped_sizes file.structs) f) base args cells)) =
        body-agrees (sizes file.structs) (lists_of file.structs) (struct_table file.structs) shaped limit (context_in (struct_table file.structs) functions f)
        scope ground chains base inner running
        f.body false is.body (record { enough = omega arith }) (body-spelled f spelled) start
        (frame_begun (frame_cells (capped_sizes file.structs) f) base args cells) begin in
        record {
          count = ran.count;
          answer = ap result_at ran.end;
          stands = ended-stands (sizes file.structs) (lists_of file.structs) (struct_table file.structs) shaped limit w depth base f.params f.locals separate
              shallow under fits apart is.single (pointer_cells base f.params args)
              (block_c f.body scope start).memory
              (block_flat f.body ground base (frame_begun (frame_cells (capped_sizes file.structs) f) base args cells)).memory ran.stands;
          range = ranged-end f.result (block_c f.body scope start).end ran.range;
        };
  }
