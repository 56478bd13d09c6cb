-- Deeds do the same where units are shown.
use Rattle.std.proofs.Common.{◌≡◌, ◌⊎◌, ⊎_elim, inl, inr, ℕ, ◌<◌, ◌≤◌, arith, List, [], ◌∷◌, take, Option, Some, None, refl, sym, ap, ap₂, ◌∙◌}
use Rattle.std.specs.Prelude.{option_and_then, option_map, slice_get, unwrap_or}
use Rattle.bl_tree.proofs.Basics.{less_or_not}
use Rattle.bl_tree.specs.declared.static_path.Static.{Static}
use Rattle.bl_tree.specs.declared.tree.Arm.{Arm}
use Rattle.bl_tree.specs.declared.tree.Branch.{Branch}
use Rattle.bl_tree.specs.declared.tree.Expr.{Expr}
use Rattle.bl_tree.specs.declared.tree.Path.{Path}
use Rattle.bl_tree.specs.declared.tree.Stmt.{Stmt, out-Stmt}
use Rattle.bl_tree.specs.declared.tree.StmtKind.{StmtKind, out-StmtKind}
use Rattle.bl_tree.specs.declared.tree.StmtKind.TheOpen.{StmtKind-F}
use Rattle.bl_tree.specs.declared.tree.StructDef.{StructDef}
use Rattle.bl_tree.specs.declared.tree.Unit.{Unit as UnitDef}
use Rattle.bl_tree.specs.declared.value.Value.{Value}
use Rattle.bl_tree.specs.Effects.{writes}
use Rattle.bl_tree.specs.Static.{static_of}
use Rattle.bl_tree.specs.Typing.{TypingContext, site_of}
use Rattle.bl_eval.specs.Meaning.{View}
use Rattle.bl_eval.specs.Standing.{outcome_in_unit, outcome_of, scope_of, site_at, value_in_unit, value_of}
use Rattle.bl_eval.specs.Values.{value_at}
use Rattle.bl_limits_measures.specs.Uses.{UsesEarlier}
use Rattle.bl_ctree.specs.declared.instance.Instance.{Instance}
use Rattle.bl_ctree.specs.Actions.{Acts, Asks, Copies, Effect, Gives, Silent, acted_kind, done, effect_on, given_to, is_true_value, outcome_there, result_at}
use Rattle.bl_ctree.specs.Actions.{value_there, values_there, with_result}
use Rattle.bl_ctree.specs.Instances.{Setting, instances_of, setting_of}
use Rattle.bl_ctree.specs.Positions.{stmt_kind}
use Rattle.bl_ctree.specs.Store.{Location, Store, home, put, put_path, put_written, remember, view_at, with_frame, with_inputs}
use Rattle.bl_ctree_laws.specs.Ends.{done_by}
use Rattle.bl_ctree_laws.specs.Pending.{Deed}
use Rattle.bl_ctree_laws_confluence.specs.Deeds.Origins.{InstancesHaveCallers}
use Rattle.bl_emit_spec.specs.Lent.{lent_unit}
use Rattle.bl_emit_file.proofs.OnShown.Instances as instances
use Rattle.bl_emit_file.proofs.OnShown.Instances.{low}
use Rattle.bl_emit_file.proofs.OnShown.Meanings.{acted_same, value_same}
use Rattle.bl_emit_file.proofs.OnShown.Units.{Shown, shown_before, shown_entry, shown_front}

module _ (structs : List StructDef) (units : List UnitDef) (entry : ℕ) (unit : UnitDef) (there : slice_get units entry ≡ Some unit)
    (shown : List UnitDef) (are : Shown units entry shown) (uses : UsesEarlier units) (callers : InstancesHaveCallers) where
  abbrev W : Setting
  W = setting_of structs units entry

  abbrev W' : Setting
  W' = setting_of structs shown entry

  -- ---- in units

  abbrev lent_site : List UnitDef → TypingContext
  lent_site earlier = site_of structs earlier (lent_unit unit)

  -- a site of shown units
  sites : (k : ℕ) → k ≤ entry → (site_at structs shown k ≡ site_at structs units k)
      ⊎ ((site_at structs units k ≡ Some (site_of structs (take k units) unit)) × (site_at structs shown k ≡ Some (lent_site (take k units))))
  sites k few = ⊎_elim before at_entry (less_or_not k entry)
    where
      front : (o : Option UnitDef) → option_map (site_of structs (take k shown)) o ≡ option_map (site_of structs (take k units)) o
      front o = ap (λ earlier. option_map (site_of structs earlier) o) (shown_front are k few)

      before : k < entry → (site_at structs shown k ≡ site_at structs units k)
          ⊎ ((site_at structs units k ≡ Some (site_of structs (take k units) unit)) × (site_at structs shown k ≡ Some (lent_site (take k units))))
      before less = inl (ap (option_map (site_of structs (take k shown))) (shown_before are k less) ∙ front (slice_get units k))

      at_entry : entry ≤ k → (site_at structs shown k ≡ site_at structs units k)
          ⊎ ((site_at structs units k ≡ Some (site_of structs (take k units) unit)) × (site_at structs shown k ≡ Some (lent_site (take k units))))
      at_entry more =
          let same : k ≡ entry = omega (arith, few, more) in
          inr (
            ap (option_map (site_of structs (take k units))) (ap (slice_get units) same ∙ there),
            ap (option_map (site_of structs (take k shown))) (ap (slice_get shown) same ∙ shown_entry are unit there) ∙ front (Some (lent_unit unit)),
          )

  value_in_shown : (k : ℕ) → k ≤ entry → (e : Expr) (view : View) → value_in_unit structs shown k e view ≡ value_in_unit structs units k e view
  value_in_shown k few e view = ⊎_elim plain lent (sites k few)
    where
      means : Option TypingContext → Option Value
      means o = option_and_then (λ site. value_of site e view) o

      plain : site_at structs shown k ≡ site_at structs units k → value_in_unit structs shown k e view ≡ value_in_unit structs units k e view
      plain same = ap means same

      lent : (site_at structs units k ≡ Some (site_of structs (take k units) unit)) × (site_at structs shown k ≡ Some (lent_site (take k units))) →
          value_in_unit structs shown k e view ≡ value_in_unit structs units k e view
      lent pair = ap means pair.1 ∙ value_same (scope_of (site_of structs (take k units) unit)) e view ∙ sym (ap means pair.0)

  outcome_in_shown : (k : ℕ) → k ≤ entry → (s : Stmt) (view : View) → outcome_in_unit structs shown k s view ≡ outcome_in_unit structs units k s view
  outcome_in_shown k few s view = ⊎_elim plain lent (sites k few)
    where
      means : Option TypingContext → Option (List Value)
      means o = option_and_then (λ site. outcome_of site s view) o

      plain : site_at structs shown k ≡ site_at structs units k → outcome_in_unit structs shown k s view ≡ outcome_in_unit structs units k s view
      plain same = ap means same

      lent : (site_at structs units k ≡ Some (site_of structs (take k units) unit)) × (site_at structs shown k ≡ Some (lent_site (take k units))) →
          outcome_in_unit structs shown k s view ≡ outcome_in_unit structs units k s view
      lent pair =
          ap means pair.1 ∙ acted_same (scope_of (site_of structs (take k units) unit)) (out-StmtKind (out-Stmt s).what) view ∙ sym (ap means pair.0)

  -- ---- in instances

  instances_are : instances_of shown entry ≡ instances_of units entry
  instances_are = instances.instances_same structs units entry unit there shown are uses callers

  view_is : (store : Store) (i : ℕ) → view_at W' store i ≡ view_at W store i
  view_is = instances.view_same structs units entry unit there shown are uses callers

  home_is : (at : Location) → home W' at ≡ home W at
  home_is = instances.home_same structs units entry unit there shown are uses callers

  by_instance : {X : Type 0} (f g : Instance → Option X) (i : ℕ) →
      ((instance : Instance) → instance.unit ≤ entry → f instance ≡ g instance) →
      option_and_then f (slice_get (instances_of shown entry) i) ≡ option_and_then g (slice_get (instances_of units entry) i)
  by_instance {X} f g i each = ap (λ all. option_and_then f (slice_get all i)) instances_are ∙ by (slice_get (instances_of units entry) i) refl
    where
      by : (o : Option Instance) → slice_get (instances_of units entry) i ≡ o → option_and_then f o ≡ option_and_then g o
      by None is = refl
      by (Some instance) is = each instance (low structs units entry unit there shown are uses callers i instance is).few

  value_there_same : (store : Store) (i : ℕ) (e : Expr) → value_there W' store i e ≡ value_there W store i e
  value_there_same store i e =
      by_instance (λ instance. value_in_unit structs shown instance.unit e (view_at W' store i))
      (λ instance. value_in_unit structs units instance.unit e (view_at W store i)) i
      (λ instance few. value_in_shown instance.unit few e (view_at W' store i)
      ∙ ap (λ view. value_in_unit structs units instance.unit e view) (view_is store i))

  outcome_there_same : (store : Store) (i : ℕ) (s : Stmt) → outcome_there W' store i s ≡ outcome_there W store i s
  outcome_there_same store i s =
      by_instance (λ instance. outcome_in_unit structs shown instance.unit s (view_at W' store i))
      (λ instance. outcome_in_unit structs units instance.unit s (view_at W store i)) i
      (λ instance few. outcome_in_shown instance.unit few s (view_at W' store i)
      ∙ ap (λ view. outcome_in_unit structs units instance.unit s view) (view_is store i))

  values_there_same : (store : Store) (i : ℕ) (inputs : List Expr) → values_there W' store i inputs ≡ values_there W store i inputs
  values_there_same store i [] = refl
  values_there_same store i (e ∷ rest) =
      ap₂ (λ (first : Option Value) (later : Option (List Value)). option_and_then (λ value. option_map (λ values. value ∷ values) later) first)
      (value_there_same store i e) (values_there_same store i rest)

  put_path_same : (i : ℕ) (values : List Value) (path : Static) (store : Store) → put_path W' i values path store ≡ put_path W i values path store
  put_path_same i values path store =
      ap (λ at. unwrap_or (option_map (λ value. put at value store) (option_and_then (value_at path.fields) (slice_get values path.root))) store)
      (home_is (record { instance = i; path = path }))

  put_written_same : (i : ℕ) (values : List Value) (paths : List Static) (store : Store) → put_written W' i values paths store ≡ put_written W i values paths store
  put_written_same i values [] store = refl
  put_written_same i values (path ∷ rest) store =
      put_written_same i values rest (put_path W' i values path store) ∙ ap (put_written W i values rest) (put_path_same i values path store)

  written_same : (i : ℕ) (s : Stmt) (store : Store) →
      option_map (λ values. put_written W' i values (writes s) store) (outcome_there W' store i s)
      ≡ option_map (λ values. put_written W i values (writes s) store) (outcome_there W store i s)
  written_same i s store =
      (λ j. option_map (λ values. put_written_same i values (writes s) store j) (outcome_there W' store i s))
      ∙ ap (option_map (λ values. put_written W i values (writes s) store)) (outcome_there_same store i s)

  acted_there : (i : ℕ) (s : Stmt) (kind : StmtKind-F StmtKind Arm Branch Stmt) (store : Store) → acted_kind W' i s kind store ≡ acted_kind W i s kind store
  acted_there i s (StmtKind-F.Return None) store = refl
  acted_there i s (StmtKind-F.Return (Some e)) store =
      ap (option_map (λ (value : Value). with_frame i (with_result value) store)) (value_there_same store i e)
  acted_there i s (StmtKind-F.Declare k initial) store =
      (λ j. option_map (λ values. with_frame i (remember k) (put_written_same i values (writes s) store j)) (outcome_there W' store i s))
      ∙ ap (option_map (λ values. with_frame i (remember k) (put_written W i values (writes s) store))) (outcome_there_same store i s)
  acted_there i s (StmtKind-F.Assign path e) store = written_same i s store
  acted_there i s (StmtKind-F.Call f inputs outputs) store = written_same i s store
  acted_there i s (StmtKind-F.Await e) store = written_same i s store
  acted_there i s (StmtKind-F.Run target a inputs outputs) store = written_same i s store
  acted_there i s (StmtKind-F.If arms other) store = written_same i s store
  acted_there i s (StmtKind-F.Cobegin branches) store = written_same i s store
  acted_there i s (StmtKind-F.When guard e body) store = written_same i s store
  acted_there i s (StmtKind-F.Repeat body) store = written_same i s store
  acted_there i s (StmtKind-F.Until body e) store = written_same i s store
  acted_there i s (StmtKind-F.While e body) store = written_same i s store

  given_same : (i : ℕ) (target : Option Path) (value : Option Value) (store : Store) → given_to W' i target value store ≡ given_to W i target value store
  given_same i (Some path) (Some value) store = ap (λ at. put at value store) (home_is (record { instance = i; path = static_of path }))
  given_same i (Some path) None store = refl
  given_same i None (Some value) store = refl
  given_same i None None store = refl

  effect_same : (i : ℕ) (effect : Effect) (store : Store) → effect_on W' i effect store ≡ effect_on W i effect store
  effect_same i Silent store = refl
  effect_same i (Acts s) store = ap (option_map done) (acted_there i s (stmt_kind s) store)
  effect_same i (Asks e) store =
      ap (option_map (λ (value : Value). record { answer = is_true_value value; store = store })) (value_there_same store i e)
  effect_same i (Copies callee inputs) store =
      ap (option_map (λ (values : List Value). done (with_frame callee (with_inputs values) store))) (values_there_same store i inputs)
  effect_same i (Gives callee target) store = ap (λ left. Some (done left)) (given_same i target (result_at store callee) store)

  pub deeds_same : (a : Deed) (store : Store) → done_by W' a store ≡ done_by W a store
  deeds_same a store = effect_same a.instance a.effect store
