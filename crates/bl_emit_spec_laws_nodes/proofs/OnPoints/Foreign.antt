-- Numbers of memory that an act of an instance may not write.
use Rattle.std.proofs.Common.{◌≡◌, ℕ, ◌<◌, arith, Bool, true, false, not, ◌&&◌, ◌||◌, List, []}
use Rattle.std.proofs.Common.{◌∷◌, ◌++◌, Some, refl, sym, ap, ◌∙◌}
use Rattle.std.specs.Prelude.{is_some}
use Rattle.std.proofs.lemmas.Bool.{or_right}
use Rattle.bl_tree.specs.declared.text.Text.{Text}
use Rattle.bl_tree.specs.declared.tree.Unit.{Unit as UnitDef}
use Rattle.bl_tree.specs.declared.tree.Var.{Var}
use Rattle.bl_tree.specs.Program.{is_input}
use Rattle.bl_tree.specs.Typing.{TypingContext, is_activity, var_at}
use Rattle.bl_ctext_semantics.specs.Meaning.{Scope, further}
use Rattle.bl_ctext_semantics.specs.Memory.{Location, Projection, Root, left_after, member, same_root, variable}
use Rattle.bl_emit_acts.specs.declared.home.Home.{Home}
use Rattle.bl_emit_acts.specs.declared.home.Home.TheVariants.{Held, Local, Lent}
use Rattle.bl_emit_acts.specs.Types.{copy_name, variable_name}
use Rattle.bl_emit_acts_laws_simulation.specs.Acts.{Foreign, copy_location, lies_in}
use Rattle.bl_emit_acts_laws_simulation.specs.Frames.{is_older, lent_at, remembered_at}
use Rattle.bl_emit_acts_laws_simulation.specs.Encodes.{are_apart, home_at, is_live, lead_in, location_in, start_in, ways_part}
use Rattle.bl_emit_spec.specs.Names.{NumberedWord, callee_name}
use Rattle.bl_emit_spec_laws.specs.Registers.Registers.{Register, RegistersApart, RegistersBeside, Registered, frame_at, has_register, register_at}
use Rattle.bl_emit_spec_laws.specs.Calls.Laws.{PassOutside}
use Rattle.bl_emit_spec_laws.specs.Calls.Invariant.{PlacesAreSeparate, result_at_c}
use Rattle.bl_emit_spec_laws_nodes.proofs.OnPoints.Apart.{first_further, last_further, lies_further}
use Rattle.bl_emit_acts_laws_simulation.proofs.Frames.{older_differs, older_live, roots_differ}
use Rattle.bl_emit_acts_laws_simulation.proofs.Cells.{apart_flip}
use Rattle.bl_emit_acts_laws_simulation.proofs.Calls.{apart_lies}
use Rattle.bl_emit_spec_laws.proofs.OnRegisters.Cells.{behind_front}

module _ (site : TypingContext) (unit : UnitDef) (remembers : Bool) (scope : Scope) (places : PlacesAreSeparate site unit remembers scope)
    (active : is_activity site.kind ≡ true)
    (held_here : (k : ℕ) (var : Var) → var_at site k ≡ Some var → home_at site k ≡ Held → remembers ≡ true) (copied : ℕ → Bool) where
  pub local_older : (p q : Location) (name : Text) → p.root ≡ variable scope.depth name → is_older scope.depth q.root ≡ true →
      are_apart p q ≡ true
  local_older p q name is older =
      roots_differ p q (ap (λ root. same_root root q.root) is ∙ older_differs scope.depth name q.root older)

  -- ---- places

  abbrev place_of : Bool → Home → ℕ → Location
  place_of activity home k = further (start_in scope activity home site.vars k) (lead_in home site.vars k ++ [])

  -- no variable has anything in common with an older place that is apart from what the pointers lead to
  pub variable_apart : (place : Location) → is_older scope.depth place.root ≡ true →
      ((k : ℕ) (var : Var) → var_at site k ≡ Some var → home_at site k ≡ Lent → are_apart place (lent_at scope site.vars k) ≡ true) →
      ((k : ℕ) (var : Var) → var_at site k ≡ Some var → home_at site k ≡ Held →
      are_apart (further (remembered_at scope) (member (variable_name site.vars k) ∷ [])) place ≡ true) →
      (k : ℕ) (var : Var) → var_at site k ≡ Some var → are_apart (location_in scope site k []) place ≡ true
  variable_apart place older lent held k var there = by (is_activity site.kind) (home_at site k) refl refl
    where
      no_such : false ≡ true → ⊥
      no_such h = cc

      by : (activity : Bool) (x : Home) → is_activity site.kind ≡ activity → home_at site k ≡ x → are_apart (place_of activity x k) place ≡ true
      by false Held kind is = absurd (no_such (sym kind ∙ active))
      by true Held kind is = held k var there is
      by activity Local kind is = local_older (place_of activity Local k) place (variable_name site.vars k) refl older
      by activity Lent kind is = first_further (lent_at scope site.vars k) place [] (apart_flip place (lent_at scope site.vars k) (lent k var there is))

  -- so it is foreign
  foreign_place : (place : Location) → is_live scope.depth place.root ≡ true →
      ((k : ℕ) (var : Var) → var_at site k ≡ Some var → are_apart (location_in scope site k []) place ≡ true) →
      ((k : ℕ) → are_apart (copy_location scope site.vars k) place ≡ true) → (way : List Projection) → Foreign site copied scope place.root (place.parts ++ way)
  foreign_place place live variables copies way = record {
    live = live;
    variables = λ k var there writable. apart_lies (location_in scope site k []) place way (variables k var there);
    copies = λ k its. apart_lies (copy_location scope site.vars k) place way (copies k);
  }

  foreign_older : (place : Location) → is_older scope.depth place.root ≡ true →
      ((k : ℕ) (var : Var) → var_at site k ≡ Some var → home_at site k ≡ Lent → are_apart place (lent_at scope site.vars k) ≡ true) →
      ((k : ℕ) (var : Var) → var_at site k ≡ Some var → home_at site k ≡ Held →
      are_apart (further (remembered_at scope) (member (variable_name site.vars k) ∷ [])) place ≡ true) → (way : List Projection) →
      Foreign site copied scope place.root (place.parts ++ way)
  foreign_older place older lent held =
      foreign_place place (older_live scope.depth place.root older) (variable_apart place older lent held)
      (λ k. local_older (copy_location scope site.vars k) place (copy_name site.vars k) refl older)

  -- ---- registers, what is called, and the result

  pub foreign_register : (has : Registered) → RegistersApart has scope → RegistersBeside has site scope → (x : Register) → has_register has x ≡ true →
      (way : List Projection) → Foreign site copied scope (register_at has scope x).root ((register_at has scope x).parts ++ way)
  foreign_register has apart beside x its =
      foreign_place (register_at has scope x) (apart.live x its)
      (λ k var there. apart_flip (register_at has scope x) (location_in scope site k []) (beside.variables x k var its there))
      (λ k. apart_flip (register_at has scope x) (copy_location scope site.vars k) (beside.copies x k its))

  pub foreign_counter : (more : List Projection) (way : List Projection) →
      Foreign site copied scope (further (frame_at scope) more).root ((further (frame_at scope) more).parts ++ way)
  foreign_counter more =
      let place = further (frame_at scope) more in
      foreign_older place places.frame.frame_older
      (λ k var there is. first_further (frame_at scope) (lent_at scope site.vars k) more (places.frame_apart.lent k var there is))
      (λ k var there is.
      first_further (remembered_at scope) place (member (variable_name site.vars k) ∷ [])
      (last_further (remembered_at scope) (frame_at scope) more
      (apart_flip (frame_at scope) (remembered_at scope) (places.frame_apart.remembered k var there is active))))

  pub foreign_memory : remembers ≡ true → (n : NumberedWord) (more : List Projection) (way : List Projection) →
      Foreign site copied scope (further (remembered_at scope) (member (callee_name n) ∷ more)).root
      ((further (remembered_at scope) (member (callee_name n) ∷ more)).parts ++ way)
  foreign_memory its n more =
      let start = remembered_at scope in
      foreign_older (further start (member (callee_name n) ∷ more)) (places.memory its).older
      (λ k var there is. first_further start (lent_at scope site.vars k) (member (callee_name n) ∷ more) ((places.memory its).lent k var there is))
      (λ k var there is.
      or_right (not (same_root start.root start.root))
      (ways_part (start.parts ++ member (variable_name site.vars k) ∷ []) (start.parts ++ (member (callee_name n) ∷ more)))
      (behind_front start.parts (member (variable_name site.vars k) ∷ []) (member (callee_name n) ∷ more)))

  pub foreign_result : is_some unit.result ≡ true → (way : List Projection) →
      Foreign site copied scope (result_at_c scope).root ((result_at_c scope).parts ++ way)
  foreign_result one =
      foreign_older (result_at_c scope) (places.result one).older (places.result one).lent
      (λ k var there is.
      first_further (remembered_at scope) (result_at_c scope) (member (variable_name site.vars k) ∷ [])
      (apart_flip (result_at_c scope) (remembered_at scope) (places.result_apart one (held_here k var there is))))

  -- no variable has anything in common with the result
  pub result_variable : is_some unit.result ≡ true → (k : ℕ) (var : Var) → var_at site k ≡ Some var →
      are_apart (location_in scope site k []) (result_at_c scope) ≡ true
  result_variable one =
      variable_apart (result_at_c scope) (places.result one).older (places.result one).lent
      (λ k var there is.
      first_further (remembered_at scope) (result_at_c scope) (member (variable_name site.vars k) ∷ [])
      (apart_flip (result_at_c scope) (remembered_at scope) (places.result_apart one (held_here k var there is))))

  -- ---- what was there before

  pub foreign_outside : (root : Root) (way : List Projection) → is_older scope.depth root ≡ true → PassOutside site unit remembers scope root way →
      Foreign site copied scope root way
  foreign_outside root way older outside = record {
    live = older_live scope.depth root older;
    variables = λ k var there writable. by k var there writable (is_activity site.kind) (home_at site k) refl refl;
    copies = λ k its. ap (λ same. same && is_some (left_after [] way)) (older_differs scope.depth (copy_name site.vars k) root older);
  }
    where
      no_such : false ≡ true → ⊥
      no_such h = cc

      by : (k : ℕ) (var : Var) → var_at site k ≡ Some var → is_input var.role ≡ false → (activity : Bool) (x : Home) →
          is_activity site.kind ≡ activity →
          home_at site k ≡ x → lies_in (place_of activity x k) root way ≡ false
      by k var there writable false Held kind is = absurd (no_such (sym kind ∙ active))
      by k var there writable true Held kind is =
          lies_further (remembered_at scope) (member (variable_name site.vars k) ∷ []) root way (outside.memory (held_here k var there is))
      by k var there writable activity Local kind is =
          ap (λ same. same && is_some (left_after [] way)) (older_differs scope.depth (variable_name site.vars k) root older)
      by k var there writable activity Lent kind is = lies_further (lent_at scope site.vars k) [] root way (outside.outputs k var there is writable)
