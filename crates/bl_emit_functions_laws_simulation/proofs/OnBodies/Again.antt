-- Statements that set variables to what they have leave all as it is.
use Rattle.std.proofs.Common.{◌≡◌, ℕ, suc, ◌+◌, pos, arith, Bool, true, false, List, [], ◌∷◌, ◌++◌, Option, Some, None, refl, sym, ap, ◌∙◌, subst}
use Rattle.std.proofs.lemmas.List.{append_assoc}
use Rattle.std.specs.Prelude.{codes, slice_get}
use Rattle.bl_tree.specs.declared.c.CExpr.{CExpr}
use Rattle.bl_tree.specs.declared.c.CPlace.{CPlace}
use Rattle.bl_tree.specs.declared.c.CStmt.{CStmt}
use Rattle.bl_tree.specs.declared.scalar.Scalar.{Scalar as ScalarType}
use Rattle.bl_tree.specs.declared.tree.StructDef.{StructDef}
use Rattle.bl_tree.specs.declared.tree.Unit.{Unit as UnitDef}
use Rattle.bl_tree.specs.declared.tree.Var.{Var}
use Rattle.bl_tree.specs.Scalar.{in_range}
use Rattle.bl_tree.specs.Typing.{TypingContext, is_activity, site_of, var_at}
use Rattle.bl_ctext_semantics.specs.Course.{End, Outcome, breaks, following_end, goes_on, returns, traps}
use Rattle.bl_ctext_semantics.specs.Meaning.{Scope, block_c, further, location_c, named_location, runs_c, value_c}
use Rattle.bl_ctext_semantics.specs.Memory.{CValue, Location, Memory, Projection, Root, scalar, scalar_number, set_at, value_at, variable}
use Rattle.bl_emit_acts.specs.Acts.{c_set}
use Rattle.bl_emit_acts.specs.Expressions.{hidden, scalar_at}
use Rattle.bl_emit_acts.specs.Places.{home_of, place_in}
use Rattle.bl_emit_acts.specs.Trees.{c_read}
use Rattle.bl_emit_acts.specs.Types.{variable_name}
use Rattle.bl_emit_acts_laws_simulation.proofs.Cells.{set_elsewhere, set_inside}
use Rattle.bl_emit_acts_laws_simulation.proofs.Hiding.{hidden_gives}
use Rattle.bl_emit_acts_laws_simulation.specs.Acts.{lies_in}
use Rattle.bl_emit_acts_laws_simulation.specs.Encodes.{lead_in, location_in, start_in}
use Rattle.bl_emit_acts_laws_simulation.proofs.Places.{place_answer}
use Rattle.bl_emit_acts_laws_simulation.proofs.Statements.{Ends, set_after, set_ends}
use Rattle.bl_emit_acts_laws_simulation.proofs.Values.{read_gives}
use Rattle.bl_emit_functions.specs.Functions.{again_code, c_local_again, first_held, has_local, local_again, locals_again, read_code}
use Rattle.bl_emit_functions.specs.Reads.{reads_in_block}
use Rattle.bl_emit_functions_laws_simulation.proofs.OnBodies.Courses.{Alike, alike_trans}
use Rattle.bl_emit_functions_laws_simulation.proofs.OnCalls.Locals.{declared_local}
use Rattle.bl_eval.proofs.FitLemmas.{zero_scalar as zero_in_range}

-- ---- memory

module _ (m : Memory) (place : Location) where
  number_same : (root : Root) (way : List Projection) → set_at m place (value_at m place) root way ≡ m root way
  number_same root way = by (lies_in place root way) refl
    where
      by : (inside : Bool) → lies_in place root way ≡ inside → set_at m place (value_at m place) root way ≡ m root way
      by true is = set_inside m m place root way is
      by false is = set_elsewhere m place (value_at m place) root way is

  -- a place that is set to what it has
  set_own : (held : CValue) → ((way : List Projection) → held way ≡ value_at m place way) → set_at m place held ≡ m
  set_own held same = ap (set_at m place) (λ i way. same way i) ∙ (λ i root way. number_same root way i)

-- a value that is 0 everywhere is a scalar's
zero_scalar : (held : CValue) → ((way : List Projection) → held way ≡ pos 0) → (way : List Projection) → scalar (scalar_number held) way ≡ held way
zero_scalar held zero [] = refl
zero_scalar held zero (p ∷ way) = sym (zero (p ∷ way))

-- ---- statements

goes_alike : (n : ℕ) (k m : Memory) (e : End) (rest : Memory → Outcome Memory) → e ≡ goes_on → k ≡ m → Alike (following_end n k e rest) (rest m)
goes_alike n k m goes_on rest h is = (ap (λ m. (rest m).end) is, ap (λ m. (rest m).memory) is)
goes_alike n k m breaks rest h is = absurd (cc)
goes_alike n k m (returns x) rest h is = absurd (cc)
goes_alike n k m traps rest h is = absurd (cc)

module _ (scope : Scope) (m : Memory) where
  -- what follows the assignment of what a place has begins as if that weren't there
  set_alike : (place : CPlace) (e : CExpr) (at : Location) (held : CValue) (rest : List CStmt) → (location_c place scope m).answer ≡ Some at →
      (value_c e scope m).answer ≡ Some held → ((way : List Projection) → held way ≡ value_at m at way) →
      Alike (block_c (c_set place e ∷ rest) scope m) (block_c rest scope m)
  set_alike place e at held rest stands gives same =
      let o = runs_c (c_set place e) scope m in
      let ends : Ends o (Some m) =
      subst (Ends o) ((λ i. set_after scope m (stands i) (gives i)) ∙ ap Some (set_own m at held same)) (set_ends scope m place e) in
      goes_alike o.count o.memory m o.end (block_c rest scope) ends.0 ends.1

  module _ (site : TypingContext) where
    stands_at : (k : ℕ) → (location_c (place_in site k []) scope m).answer ≡ Some (location_in scope site k [])
    stands_at k = place_answer scope m (is_activity site.kind) (home_of site (var_at site k)) site.vars k []

    read_alike : (held : Option ℕ) (reads : Bool) (rest : List CStmt) → Alike (block_c (read_code site held reads ++ rest) scope m) (block_c rest scope m)
    read_alike None reads rest = (refl, refl)
    read_alike (Some k) true rest = (refl, refl)
    read_alike (Some k) false rest =
        let at : Location = location_in scope site k [] in
        set_alike (place_in site k []) (c_read (place_in site k [])) at (value_at m at) rest (stands_at k)
        (read_gives [] scope m (place_in site k []) at (stands_at k)) (λ way. refl)

    module _ (zero : (k : ℕ) (var : Var) → var_at site k ≡ Some var → has_local site var ≡ true → (way : List Projection) →
        m (variable scope.depth (variable_name site.vars k)) way ≡ pos 0) where
      -- the local of a variable stands under the variable's name
      local_at : (k : ℕ) (var : Var) → var_at site k ≡ Some var → has_local site var ≡ true →
          location_in scope site k [] ≡ named_location scope false (variable_name site.vars k)
      local_at k var there has =
          ap (λ home. further (start_in scope (is_activity site.kind) home site.vars k) (lead_in home site.vars k ++ []))
          (ap (home_of site) there ∙ declared_local site var has)

      local_alike : (k : ℕ) (var : Var) → var_at site k ≡ Some var → has_local site var ≡ true → (rest : List CStmt) →
          Alike (block_c (c_local_again site k ∷ rest) scope m) (block_c rest scope m)
      local_alike k var there has rest =
          let place : CPlace = place_in site k [] in
          let at : Location = named_location scope false (variable_name site.vars k) in
          let s : ScalarType = scalar_at (var_at site k) in
          let stands : (location_c place scope m).answer ≡ Some at = stands_at k ∙ ap Some (local_at k var there has) in
          set_alike place (hidden s (c_read place)) at (scalar (scalar_number (value_at m at))) rest stands
          (hidden_gives scope m s (c_read place) (value_at m at) (read_gives [] scope m place at stands)
          (ap (in_range s) (zero k var there has []) ∙ zero_in_range s))
          (zero_scalar (value_at m at) (zero k var there has))

      -- these variables stand from a position on
      abbrev From : ℕ → List Var → Type 0
      From j vars = (i k : ℕ) (var : Var) → slice_get vars i ≡ Some var → k ≡ j + i → var_at site k ≡ Some var

      locals_alike : (code : List CStmt) (j : ℕ) (vars : List Var) (rest : List CStmt) → From j vars →
          Alike (block_c (locals_again site code j vars ++ rest) scope m) (block_c rest scope m)
      locals_alike code j [] rest from = (refl, refl)
      locals_alike code j (var ∷ vars) rest from =
          let later : List CStmt = locals_again site code (j + 1) vars in
          alike_trans (block_c (locals_again site code j (var ∷ vars) ++ rest) scope m) (block_c (later ++ rest) scope m) (block_c rest scope m)
          (by (has_local site var) (reads_in_block (variable_name site.vars j) code) refl)
          (locals_alike code (j + 1) vars rest (λ i k other there is. from (suc i) k other there (omega (arith, is))))
        where
          by : (has reads : Bool) → has_local site var ≡ has →
              Alike (block_c ((local_again site j has reads ++ locals_again site code (j + 1) vars) ++ rest) scope m)
              (block_c (locals_again site code (j + 1) vars ++ rest) scope m)
          by true false is = local_alike j var (from 0 j var refl (omega arith)) is (locals_again site code (j + 1) vars ++ rest)
          by true true is = (refl, refl)
          by false reads is = (refl, refl)

  -- what follows the statements that read what the body only sets begins as if they weren't there, where locals are 0
  pub again_alike : (structs : List StructDef) (earlier : List UnitDef) (unit : UnitDef) (code rest : List CStmt) →
      ((k : ℕ) (var : Var) → var_at (site_of structs earlier unit) k ≡ Some var → has_local (site_of structs earlier unit) var ≡ true →
      (way : List Projection) → m (variable scope.depth (variable_name unit.vars k)) way ≡ pos 0) →
      Alike (block_c (again_code (site_of structs earlier unit) unit code ++ rest) scope m) (block_c rest scope m)
  again_alike structs earlier unit code rest zero =
      let site : TypingContext = site_of structs earlier unit in
      let held : List CStmt = read_code site (first_held site 0 unit.vars) (reads_in_block (codes "m") code) in
      let locals : List CStmt = locals_again site code 0 unit.vars in
      subst (λ code. Alike (block_c code scope m) (block_c rest scope m)) (sym (append_assoc held locals rest))
      (alike_trans (block_c (held ++ (locals ++ rest)) scope m) (block_c (locals ++ rest) scope m) (block_c rest scope m)
      (read_alike site (first_held site 0 unit.vars) (reads_in_block (codes "m") code) (locals ++ rest))
      (locals_alike site zero code 0 unit.vars rest (λ i k var there is. ap (slice_get unit.vars) (omega (arith, is)) ∙ there)))
