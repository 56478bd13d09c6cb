-- Inputs that are copied one after another have what their arguments have.
use Rattle.std.proofs.Common.{◌≡◌, ℕ, suc, ◌+◌, ◌<◌, ◌≤◌, ◌^◌, arith, Bool, true, false, ◌&&◌, List, [], ◌∷◌}
use Rattle.std.proofs.Common.{◌++◌, length}
use Rattle.std.proofs.Common.{Some, None, refl, sym, ap, ◌∙◌, subst}
use Rattle.std.proofs.lemmas.Bool.{eq-eqb, eqb-true}
use Rattle.std.proofs.lemmas.List.{append-nil}
use Rattle.std.proofs.lemmas.Option.{same_Some, slice_get_within}
use Rattle.std.proofs.lemmas.Slice.Eq.{bytes_eq-Decides}
use Rattle.std.specs.Prelude.{bytes_eq, codes, slice_get, ◌==◌, if◌then◌else◌}
use Rattle.std.specs.List.{list_all}
use Rattle.std.proofs.lemmas.Bool.{and_from}
use Rattle.bl_tree.proofs.Basics.{and_first, and_second, true_not_false}
use Rattle.bl_tree.specs.declared.tree.Var.{Var}
use Rattle.bl_tree.specs.declared.value.Value.{Value}
use Rattle.bl_tree.specs.Program.{is_input}
use Rattle.bl_tree.specs.Typing.{TypingContext, is_activity, var_at}
use Rattle.bl_ctext_semantics.specs.Course.{Outcome, goes_on}
use Rattle.bl_ctext_semantics.specs.Meaning.{Scope, block_c, further, location_c, runs_c, value_c}
use Rattle.bl_ctext_semantics.specs.Memory.{CValue, Location, Memory, Projection, Root, left_after, member, number_or, same_root, set_at, value_at, variable}
use Rattle.bl_ctext_semantics.specs.Memory.{with_part}
use Rattle.bl_emit_acts.specs.declared.home.Home.{Home}
use Rattle.bl_emit_acts.specs.declared.home.Home.TheVariants.{Held, Local, Lent}
use Rattle.bl_emit_acts.specs.Places.{home_of, place_in}
use Rattle.bl_emit_acts.specs.Trees.{c_place, c_read}
use Rattle.bl_emit_acts.specs.Types.{variable_name}
use Rattle.bl_emit_acts_laws_simulation.specs.Acts.{lies_in}
use Rattle.bl_emit_acts_laws_simulation.specs.Frames.{is_older, lent_at}
use Rattle.bl_emit_acts_laws_simulation.specs.Encodes.{Encodes, home_at, lead_in, location_in, start_in}
use Rattle.bl_emit_acts_laws_simulation.proofs.Cells.{set_elsewhere}
use Rattle.bl_emit_acts_laws_simulation.proofs.Places.{place_answer}
use Rattle.bl_emit_acts_laws_simulation.proofs.Statements.{Ends, set_after, set_ends, then_ends}
use Rattle.bl_emit_acts_laws_simulation.proofs.Values.{read_gives}
use Rattle.bl_emit_functions.specs.Functions.{c_input_copied, copies_from, input_copied, is_held}
use Rattle.bl_emit_functions_laws_simulation.specs.Calls.{FrameBegun, is_copied_input}
use Rattle.bl_emit_functions_laws_simulation.proofs.OnCalls.Params.{names_differ}
use Rattle.bl_emit_acts_laws_simulation.proofs.Frames.{older_differs, own_differ}
use Rattle.bl_emit_acts_laws_simulation.proofs.Parts.{holds_same}

held_home : (home : Home) → is_held home ≡ true → home ≡ Held
held_home Held h = refl
held_home Local h = absurd (cc)
held_home Lent h = absurd (cc)

-- ---- what is set in the struct of a function's variables

-- the variable at a position of that struct
abbrev held_at : ℕ → List Var → ℕ → Location
held_at depth vars j = record { root = variable depth (codes "m"); parts = member (variable_name vars j) ∷ [] }

module _ (depth : ℕ) (vars : List Var) (j : ℕ) (m : Memory) (v : CValue) where
  -- what stands at another root stays
  other_root : (root : Root) (way : List Projection) → same_root (variable depth (codes "m")) root ≡ false →
      set_at m (held_at depth vars j) v root way ≡ m root way
  other_root root way h = ap (λ b. (if b then with_part (m root) (member (variable_name vars j) ∷ []) v else m root) way) h

  -- a variable of another name stays
  other_member : (i : ℕ) (way : List Projection) → bytes_eq (variable_name vars j) (variable_name vars i) ≡ false →
      set_at m (held_at depth vars j) v (variable depth (codes "m")) (member (variable_name vars i) ∷ way) ≡ m (variable depth (codes "m"))
      (member (variable_name vars i) ∷ way)
  other_member i way h = by (same_root (variable depth (codes "m")) (variable depth (codes "m")))
    where
      old : CValue
      old = m (variable depth (codes "m"))

      by : (same : Bool) → (if same then with_part old (member (variable_name vars j) ∷ []) v else old) (member (variable_name vars i) ∷ way)
          ≡ old (member (variable_name vars i) ∷ way)
      by true =
          ap (λ b. number_or (if b then left_after [] way else None) v (old (member (variable_name vars i) ∷ way))) h
      by false = refl

  -- the variable itself has what it was set to
  own_member : (way : List Projection) → set_at m (held_at depth vars j) v (variable depth (codes "m")) (member (variable_name vars j) ∷ way) ≡ v way
  own_member way =
      ap (λ b. (if b then with_part old (member (variable_name vars j) ∷ []) v else old) (member (variable_name vars j) ∷ way)) root_itself
      ∙ ap (λ b. number_or (if b then left_after [] way else None) v (old (member (variable_name vars j) ∷ way))) name_itself
    where
      old : CValue
      old = m (variable depth (codes "m"))

      name_itself : bytes_eq (variable_name vars j) (variable_name vars j) ≡ true
      name_itself = (bytes_eq-Decides (variable_name vars j) (variable_name vars j)).1 refl

      root_itself : same_root (variable depth (codes "m")) (variable depth (codes "m")) ≡ true
      root_itself = ap (λ b. b && bytes_eq (codes "m") (codes "m")) (eq-eqb depth depth refl)

-- ---- one input after another

module _ (site : TypingContext) (function : is_activity site.kind ≡ false) (scope : Scope) (now : List Value) (here : Memory)
    (begun : FrameBegun site scope now here) where
  abbrev at : ℕ → Location
  at k = location_in scope site k []

  abbrev Outside : Root → List Projection → Type 0
  Outside root way =
      (k : ℕ) (var : Var) → var_at site k ≡ Some var → is_copied_input site k var ≡ true → lies_in (at k) root way ≡ false

  -- the copied inputs before a position have what their arguments have, and all else is as it was
  pub record Copied (j : ℕ) (m : Memory) : Type 0 where
    pub others : (k : ℕ) (var : Var) (value : Value) → var_at site k ≡ Some var
        → slice_get now k ≡ Some value → is_copied_input site k var ≡ false →
        Encodes site.structs var.ty value (value_at m (at k))
    pub done : (k : ℕ) (var : Var) (value : Value) → var_at site k ≡ Some var
        → slice_get now k ≡ Some value → is_copied_input site k var ≡ true →
        k < j → Encodes site.structs var.ty value (value_at m (at k))
    pub kept : (root : Root) (way : List Projection) → Outside root way → m root way ≡ here root way
    pub older : (root : Root) (way : List Projection) → is_older scope.depth root ≡ true → m root way ≡ here root way

  below : (k : ℕ) (var : Var) → var_at site k ≡ Some var → k < 2 ^ 64
  below k var there =
      let less : k < length site.vars = slice_get_within site.vars k var there in
      let few : length site.vars ≤ 2 ^ 64 = begun.pointers.few in
      omega (arith, less, few)

  -- where a held variable stands
  held_is : (k : ℕ) → home_at site k ≡ Held → at k ≡ held_at scope.depth site.vars k
  held_is k is =
      ap (λ activity. further (start_in scope activity (home_at site k) site.vars k) (lead_in (home_at site k) site.vars k ++ [])) function
      ∙ ap (λ home. further (start_in scope false home site.vars k) (lead_in home site.vars k ++ [])) is

  -- ---- one input

  module _ (j : ℕ) (var : Var) (there : var_at site j ≡ Some var) (home : home_at site j ≡ Held) (m : Memory) where
    abbrev lent : CValue
    lent = value_at m (further (lent_at scope site.vars j) [])

    abbrev next : Memory
    next = set_at m (at j) lent

    abbrev next_held : Memory
    next_held = set_at m (held_at scope.depth site.vars j) lent

    next_is : next ≡ next_held
    next_is = ap (λ place. set_at m place lent) (held_is j home)

    place_answers : (location_c (place_in site j []) scope m).answer ≡ Some (at j)
    place_answers = place_answer scope m (is_activity site.kind) (home_at site j) site.vars j []

    pointer_answers : (location_c (c_place true (variable_name site.vars j) []) scope m).answer ≡ Some (further (lent_at scope site.vars j) [])
    pointer_answers = place_answer scope m (is_activity site.kind) Lent site.vars j []

    copy_ends : Ends (runs_c (c_input_copied site j) scope m) (Some next)
    copy_ends =
        subst (λ value. Ends (runs_c (c_input_copied site j) scope m) (set_after scope m (Some (at j)) value))
        (read_gives site.structs scope m (c_place true (variable_name site.vars j) []) (further (lent_at scope site.vars j) []) pointer_answers)
        (subst (λ place. Ends (runs_c (c_input_copied site j) scope m)
        (set_after scope m place (value_c (c_read (c_place true (variable_name site.vars j) [])) scope m).answer))
        place_answers (set_ends scope m (place_in site j []) (c_read (c_place true (variable_name site.vars j) []))))

    -- variables at other positions stay
    by_home : (k : ℕ) (other : Var) → var_at site k ≡ Some other → (k ≡ j → ⊥) → (way : List Projection) → (activity : Bool) (x : Home) →
        activity ≡ false → home_at site k ≡ x →
        value_at next_held (further (start_in scope activity x site.vars k) (lead_in x site.vars k ++ [])) way
        ≡ value_at m (further (start_in scope activity x site.vars k) (lead_in x site.vars k ++ [])) way
    by_home k other known differ way true x none is = absurd (true_not_false none)
    by_home k other known differ way false Held none is =
        other_member scope.depth site.vars j m lent k way
        (names_differ site.vars j k (below j var there) (below k other known) (λ same. differ (sym same)))
    by_home k other known differ way false Local none is =
        other_root scope.depth site.vars j m lent (variable scope.depth (variable_name site.vars k)) way
        (own_differ scope.depth (codes "m") (variable_name site.vars k) refl)
    by_home k other known differ way false Lent none is =
        other_root scope.depth site.vars j m lent (lent_at scope site.vars k).root (((lent_at scope site.vars k).parts ++ []) ++ way)
        (older_differs scope.depth (codes "m") (lent_at scope site.vars k).root (begun.pointers.lent_older k other known is))

    stays : (k : ℕ) (other : Var) → var_at site k ≡ Some other → (k ≡ j → ⊥) → (way : List Projection)
        → value_at next (at k) way ≡ value_at m (at k) way
    stays k other known differ way =
        ap (λ (m : Memory). value_at m (at k) way) next_is
        ∙ by_home k other known differ way (is_activity site.kind) (home_at site k) function refl

    own : (way : List Projection) → value_at next (at j) way ≡ lent way
    own way =
        ap (λ (m : Memory). value_at m (at j) way) next_is
        ∙ (ap (λ place. value_at next_held place way) (held_is j home) ∙ own_member scope.depth site.vars j m lent way)

    older_stays : (root : Root) (way : List Projection) → is_older scope.depth root ≡ true → next root way ≡ m root way
    older_stays root way h =
        ap (λ (m : Memory). m root way) next_is
        ∙ other_root scope.depth site.vars j m lent root way (older_differs scope.depth (codes "m") root h)

    module _ (input : is_input var.role ≡ true) (before : Copied j m) where
      copied_here : is_copied_input site j var ≡ true
      copied_here = and_from (is_input var.role) (is_held (home_at site j)) input (ap is_held home)

      -- the copy has what the argument has
      copy_holds : (value : Value) → slice_get now j ≡ Some value → Encodes site.structs var.ty value (value_at next (at j))
      copy_holds value stored =
          let argument = begun.inputs j var value there stored copied_here in
          holds_same site.structs var.ty value (value_at here (lent_at scope site.vars j)) (value_at next (at j))
          (λ way. sym (own way
          ∙ (ap (λ parts. m (lent_at scope site.vars j).root (parts ++ way)) (append-nil (lent_at scope site.vars j).parts)
          ∙ before.older (lent_at scope site.vars j).root ((lent_at scope site.vars j).parts ++ way) argument.0)))
          argument.1

      not_here : (k : ℕ) (other : Var) → var_at site k ≡ Some other → is_copied_input site k other ≡ false → k ≡ j → ⊥
      not_here k other known isnt same =
          let equal : other ≡ var = same_Some other var (sym known ∙ (ap (var_at site) same ∙ there)) in
          true_not_false (sym copied_here ∙ (ap (λ i. is_copied_input site i var) (sym same) ∙ (ap (is_copied_input site k) (sym equal) ∙ isnt)))

      one_more : Copied (j + 1) next
      one_more = record {
        others = λ k other value known stored isnt.
            holds_same site.structs other.ty value (value_at m (at k)) (value_at next (at k))
            (λ way. sym (stays k other known (not_here k other known isnt) way))
            (before.others k other value known stored isnt);
        done = λ k other value known stored is less. done k other value known stored is less (k == j) refl;
        kept = λ root way outside.
            set_elsewhere m (at j) lent root way (outside j var there copied_here) ∙ before.kept root way outside;
        older = λ root way h. older_stays root way h ∙ before.older root way h;
      }
        where
          done : (k : ℕ) (other : Var) (value : Value) → var_at site k ≡ Some other → slice_get now k ≡ Some value →
              is_copied_input site k other ≡ true → k < j + 1 → (last : Bool) → (k == j) ≡ last →
              Encodes site.structs other.ty value (value_at next (at k))
          done k other value known stored is less true last =
              let same : k ≡ j = eqb-true k j last in
              let equal : other ≡ var = same_Some other var (sym known ∙ (ap (var_at site) same ∙ there)) in
              subst (λ k. Encodes site.structs other.ty value (value_at next (at k))) (sym same)
              (subst (λ (other : Var). Encodes site.structs other.ty value (value_at next (at j))) (sym equal)
              (copy_holds value (ap (slice_get now) (sym same) ∙ stored)))
          done k other value known stored is less false last =
              let differ : k ≡ j → ⊥ = λ same. true_not_false (sym (eq-eqb k j same) ∙ last) in
              holds_same site.structs other.ty value (value_at m (at k)) (value_at next (at k)) (λ way. sym (stays k other known differ way))
              (before.done k other value known stored is (omega (arith, less, differ)))

  -- ---- all of them

  pub begins : Copied 0 here
  begins = record {
    others = λ k var value known stored isnt. begun.variables k var value known stored isnt;
    done = λ k var value known stored is less. absurd (omega (arith, less));
    kept = λ root way outside. refl;
    older = λ root way h. refl;
  }

  -- an input that isn't copied leaves all as it is
  passed_over : (j : ℕ) (var : Var) (m : Memory) → var_at site j ≡ Some var → (home_at site j ≡ Held → ⊥) → Copied j m → Copied (j + 1) m
  passed_over j var m there isnt before = record {
    others = λ k other value known stored no. before.others k other value known stored no;
    done = λ k other value known stored is less. before.done k other value known stored is (earlier k other is less (k == j) refl);
    kept = λ root way outside. before.kept root way outside;
    older = λ root way h. before.older root way h;
  }
    where
      earlier : (k : ℕ) (other : Var) → is_copied_input site k other ≡ true → k < j + 1 → (last : Bool) → (k == j) ≡ last → k < j
      earlier k other is less true last =
          absurd (isnt (ap (home_at site) (sym (eqb-true k j last))
          ∙ held_home (home_at site k) (and_second (is_input other.role) (is_held (home_at site k)) is)))
      earlier k other is less false last =
          let differ : k ≡ j → ⊥ = λ same. true_not_false (sym (eq-eqb k j same) ∙ last) in omega (arith, less, differ)

  -- these variables stand from a position on
  abbrev From : ℕ → List Var → Type 0
  From j vars = (i k : ℕ) (var : Var) → slice_get vars i ≡ Some var → k ≡ j + i → var_at site k ≡ Some var

  abbrev Came : ℕ → List Var → Outcome Memory → Type 0
  Came j vars o = (o.end ≡ goes_on) × Copied (j + length vars) o.memory

  -- what the C of those behind a position comes to
  abbrev Behind : ℕ → List Var → Type 0
  Behind j vars = (m : Memory) → Copied j m → Came j vars (block_c (copies_from site j vars) scope m)

  pub copies_come : (j : ℕ) (vars : List Var) (m : Memory) → From j vars → list_all (λ (var : Var). is_input var.role) vars ≡ true → Copied j m →
      Came j vars (block_c (copies_from site j vars) scope m)
  copies_come j [] m from inputs before = (refl, subst (λ n. Copied n m) (omega arith) before)
  copies_come j (var ∷ vars) m from inputs before =
      by (home_at site j) refl (λ m before. copies_come (j + 1) vars m later (and_second _ _ inputs) before)
    where
      there : var_at site j ≡ Some var
      there = from 0 j var refl (omega arith)

      later : From (j + 1) vars
      later i k other h is = from (suc i) k other h (omega (arith, is))

      counted : (o : Outcome Memory) → Came (j + 1) vars o → Came j (var ∷ vars) o
      counted o h = (h.0, subst (λ n. Copied n o.memory) (omega arith) h.1)

      at_home : (home : Home) → home_of site (Some var) ≡ home →
          Came j (var ∷ vars) (block_c (input_copied site home j ++ copies_from site (j + 1) vars) scope m) →
          Came j (var ∷ vars) (block_c (copies_from site j (var ∷ vars)) scope m)
      at_home home is h =
          subst (λ home. Came j (var ∷ vars) (block_c (input_copied site home j ++ copies_from site (j + 1) vars) scope m)) (sym is) h

      by : (home : Home) → home_at site j ≡ home → Behind (j + 1) vars → Came j (var ∷ vars) (block_c (copies_from site j (var ∷ vars)) scope m)
      by Held is rest =
          let next : Memory = set_at m (at j) (value_at m (further (lent_at scope site.vars j) [])) in
          let came = rest next (one_more j var there is m (and_first _ _ inputs) before) in
          let after : Memory = (block_c (copies_from site (j + 1) vars) scope next).memory in
          let ends : Ends (block_c (c_input_copied site j ∷ copies_from site (j + 1) vars) scope m) (Some after) =
          then_ends scope m (c_input_copied site j) (copies_from site (j + 1) vars) (Some next) (λ k. Some after) (copy_ends j var there is m)
          (λ n is. subst (λ n. Ends (block_c (copies_from site (j + 1) vars) scope n) (Some after)) (same_Some next n is) (came.0, refl)) in
          at_home Held (ap (home_of site) (sym there) ∙ is)
          (ends.0, subst (Copied (j + length (var ∷ vars))) (sym ends.1) (subst (λ n. Copied n after) (omega arith) came.1))
      by Local is rest =
          at_home Local (ap (home_of site) (sym there) ∙ is)
          (counted (block_c (copies_from site (j + 1) vars) scope m)
          (rest m (passed_over j var m there (λ other. let no = sym is ∙ other in cc) before)))
      by Lent is rest =
          at_home Lent (ap (home_of site) (sym there) ∙ is)
          (counted (block_c (copies_from site (j + 1) vars) scope m)
          (rest m (passed_over j var m there (λ other. let no = sym is ∙ other in cc) before)))
