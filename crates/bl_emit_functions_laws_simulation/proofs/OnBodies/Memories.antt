-- Memory that stands for the values of a function's variables, and the flags in it.
use Rattle.std.proofs.Common.{◌≡◌, ℕ, ◌<◌, ◌≤◌, ◌^◌, arith, Bool, true, false, ◌&&◌, List, [], ◌++◌, drop, Some, refl}
use Rattle.std.proofs.Common.{sym, ap, ap₂, ◌∙◌}
use Rattle.std.proofs.lemmas.Bool.{eqb-true, le-leb}
use Rattle.std.proofs.lemmas.Fmt.{decimal_injective}
use Rattle.std.proofs.lemmas.Slice.Eq.{bytes_eq-Decides}
use Rattle.std.specs.Prelude.{bytes_eq, codes, is_some, ◌==◌, if◌then◌else◌}
use Rattle.std.proofs.lemmas.Bool.{and_parts}
use Rattle.bl_tree.proofs.Basics.{true_not_false}
use Rattle.bl_tree.specs.declared.tree.Var.{Var}
use Rattle.bl_tree.specs.declared.value.Value.{Value}
use Rattle.bl_tree.specs.Typing.{TypingContext, is_activity, var_at}
use Rattle.bl_ctext_semantics.specs.Meaning.{Scope, named_location}
use Rattle.bl_ctext_semantics.specs.Memory.{CValue, Location, Memory, Root, input_object, left_after, output_object, same_root, set_at}
use Rattle.bl_ctext_semantics.specs.Memory.{state_object, value_at, variable, with_part}
use Rattle.bl_emit_acts.specs.Acts.{is_copied}
use Rattle.bl_emit_acts.specs.declared.home.Home.{Home}
use Rattle.bl_emit_acts.specs.declared.home.Home.TheVariants.{Held, Local, Lent}
use Rattle.bl_emit_acts.specs.Types.{variable_name}
use Rattle.bl_emit_acts_laws_simulation.specs.Frames.{PointersAreValid}
use Rattle.bl_emit_acts_laws_simulation.specs.Encodes.{home_at, location_in, start_in}
use Rattle.bl_emit_functions.specs.Trees.{flag_name}
use Rattle.bl_emit_functions_laws_simulation.specs.Bodies.{Represents, Spared}
use Rattle.bl_emit_functions_laws_simulation.proofs.OnBodies.Flags.{flag_at, flag_in, variable_itself}
use Rattle.bl_emit_acts_laws_simulation.proofs.Frames.{older_differs, own_differ}
use Rattle.bl_emit_acts_laws_simulation.proofs.Cells.{set_elsewhere}
use Rattle.bl_emit_acts_laws_simulation.proofs.Parts.{holds_same}

-- flags of different numbers have different names
flags_differ : (j k : ℕ) → j < 2 ^ 64 → k < j → bytes_eq (flag_name j) (flag_name k) ≡ false
flags_differ j k small less = by (bytes_eq (flag_name j) (flag_name k)) refl
  where
    by : (same : Bool) → bytes_eq (flag_name j) (flag_name k) ≡ same → same ≡ false
    by false is = refl
    by true is =
        let text : flag_name j ≡ flag_name k = (bytes_eq-Decides (flag_name j) (flag_name k)).0 is in
        let equal : j ≡ k = decimal_injective j k small (omega (arith, small, less)) (ap (drop 1) text) in
        absurd (omega (arith, equal, less))

-- a root that tests as a variable is that variable
variable_is : (d : ℕ) (name : List ℕ) (root : Root) → same_root root (variable d name) ≡ true → root ≡ variable d name
variable_is d name state_object h = absurd (cc)
variable_is d name input_object h = absurd (cc)
variable_is d name output_object h = absurd (cc)
variable_is d name (variable e other) h =
    let found = and_parts (e == d) (bytes_eq other name) h in ap₂ variable (eqb-true e d found.0) ((bytes_eq-Decides other name).0 found.1)

differ_flip : (d : ℕ) (name : List ℕ) (root : Root) → same_root (variable d name) root ≡ false → same_root root (variable d name) ≡ false
differ_flip d name root h = by (same_root root (variable d name)) refl
  where
    by : (same : Bool) → same_root root (variable d name) ≡ same → same ≡ false
    by false is = refl
    by true is =
        let equal : root ≡ variable d name = variable_is d name root is in
        absurd (true_not_false (sym (ap (same_root (variable d name)) equal ∙ variable_itself d name) ∙ h))

pub no_copy : (i : ℕ) → is_copied [] i ≡ true → ⊥
no_copy i h = cc

module _ (site : TypingContext) (function : is_activity site.kind ≡ false) (scope : Scope) (pointers : PointersAreValid site scope) where
  pub same : (k : ℕ) (m : Memory) → Spared site scope k m m
  same k m = record { each = λ root way u. refl }

  pub onward : (k : ℕ) (a b c : Memory) → Spared site scope k a b → Spared site scope k b c → Spared site scope k a c
  onward k a b c first second = record { each = λ root way u. second.each root way u ∙ first.each root way u }

  pub fewer : (j k : ℕ) (a b : Memory) → j ≤ k → Spared site scope k a b → Spared site scope j a b
  fewer j k a b less kept = record {
    each = λ root way u. kept.each root way (record { foreign = u.foreign; no_flag = λ i more small. u.no_flag i (omega (arith, less, more)) small });
  }

  -- no variable stands at a flag
  home_differs : (j k : ℕ) (var : Var) → var_at site k ≡ Some var → (home : Home) → home_at site k ≡ home → (activity : Bool) →
      activity ≡ false → same_root (variable scope.depth (flag_name j)) (start_in scope activity home site.vars k).root ≡ false
  home_differs j k var there Held is false none = own_differ scope.depth (flag_name j) (codes "m") refl
  home_differs j k var there Local is false none = own_differ scope.depth (flag_name j) (variable_name site.vars k) refl
  home_differs j k var there Lent is false none =
      older_differs scope.depth (flag_name j) (named_location scope true (variable_name site.vars k)).root (pointers.lent_older k var there is)
  home_differs j k var there home is true none = absurd (true_not_false none)

  flag_differs : (j k : ℕ) (var : Var) → var_at site k ≡ Some var →
      same_root (variable scope.depth (flag_name j)) (location_in scope site k []).root ≡ false
  flag_differs j k var there = home_differs j k var there (home_at site k) refl (is_activity site.kind) function

  pub kept_set : (j : ℕ) (m : Memory) (v : CValue) → j < 2 ^ 64 → Spared site scope j m (set_at m (flag_at scope j) v)
  kept_set j m v small = record {
    each = λ root way u. ap (λ b. (if b then with_part (m root) [] v else m root) way) (u.no_flag j (omega arith) small);
  }

  pub flag_kept : (j k : ℕ) (a b : Memory) → j < k → Spared site scope k a b → flag_in scope j b ≡ flag_in scope j a
  flag_kept j k a b later kept =
      kept.each (variable scope.depth (flag_name j)) [] (record {
        foreign = record {
          live = le-leb scope.depth scope.depth (omega arith);
          variables = λ i var there role. ap (λ b. b && is_some (left_after (location_in scope site i []).parts []))
              (differ_flip scope.depth (flag_name j) (location_in scope site i []).root (flag_differs j i var there));
          copies = λ i copied. absurd (no_copy i copied);
        };
        no_flag = λ i more small. own_differ scope.depth (flag_name i) (flag_name j) (flags_differ i j small (omega (arith, later, more)));
      })

  pub stand_set : (now : List Value) (m : Memory) (j : ℕ) (v : CValue) → Represents site scope now m → Represents site scope now (set_at m (flag_at scope j) v)
  stand_set now m j v stand = record {
    fits = stand.fits;
    variables = record {
      each = λ k var value there at.
          let place : Location = location_in scope site k [] in
          holds_same site.structs var.ty value (value_at m place) (value_at (set_at m (flag_at scope j) v) place)
          (λ rest. sym (set_elsewhere m (flag_at scope j) v place.root (place.parts ++ rest)
          (ap (λ b. b && is_some (left_after [] (place.parts ++ rest))) (flag_differs j k var there))))
          (stand.variables.each k var value there at);
    };
  }
