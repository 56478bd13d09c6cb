-- The places that a `run` hands over keep apart, and are there.
use Rattle.std.proofs.Common.{◌≡◌, ℕ, ◌<◌, arith, Bool, true, false, not, ◌&&◌}
use Rattle.std.proofs.Common.{◌||◌, List, [], ◌∷◌, ◌++◌, Some, refl, sym, ap, ◌∙◌}
use Rattle.std.specs.List.{list_all}
use Rattle.std.specs.Prelude.{bytes_eq, is_some, ◌==◌}
use Rattle.std.proofs.lemmas.Bool.{and_from, or_right}
use Rattle.bl_tree.proofs.Basics.{and_false, and_first, and_second, at_most_self_test}
use Rattle.bl_tree.specs.declared.tree.Unit.{Unit as UnitDef}
use Rattle.bl_tree.specs.declared.tree.Var.{Var}
use Rattle.bl_tree.specs.Typing.{TypingContext, is_activity, var_at}
use Rattle.bl_ctext_semantics.specs.Meaning.{ArgumentValue, Scope, further, named_location}
use Rattle.bl_ctext_semantics.specs.Memory.{Location, Projection, member, same_root, variable}
use Rattle.bl_emit_acts.specs.declared.home.Home.{Home}
use Rattle.bl_emit_acts.specs.declared.home.Home.TheVariants.{Held, Local, Lent}
use Rattle.bl_emit_acts.specs.Types.{variable_name}
use Rattle.bl_emit_acts_laws_simulation.specs.Acts.{MayPass, all_apart, places_in_args}
use Rattle.bl_emit_acts_laws_simulation.specs.Arguments.{ApartFromVariables}
use Rattle.bl_emit_acts_laws_simulation.specs.Frames.{is_older, lent_at, remembered_at}
use Rattle.bl_emit_acts_laws_simulation.specs.Encodes.{are_apart, home_at, is_live, lead_in, start_in, ways_part}
use Rattle.bl_emit_spec.specs.Blocks.{unit_may_end}
use Rattle.bl_emit_spec.specs.Names.{NumberedWord, callee_name, ended_name, given_name}
use Rattle.bl_emit_spec_laws.specs.Registers.Registers.{frame_at}
use Rattle.bl_emit_spec_laws.specs.Calls.Calls.{MayGive, where_true}
use Rattle.bl_emit_spec_laws.specs.Calls.Memories.{inner}
use Rattle.bl_emit_spec_laws.specs.Calls.Invariant.{PlacesAreSeparate}
use Rattle.bl_emit_spec_laws_nodes.specs.Calling.{given_by}
use Rattle.bl_emit_spec_laws_nodes.proofs.OnPoints.Apart.{first_further, last_further}
use Rattle.bl_emit_acts_laws_simulation.proofs.Frames.{older_differs, older_live, roots_differ}
use Rattle.bl_emit_acts_laws_simulation.proofs.Cells.{apart_flip}
use Rattle.bl_emit_spec_laws.proofs.OnRegisters.Cells.{behind_front}

-- ---- lists of places

append_all : (f : Location → Bool) (xs ys : List Location) → list_all f xs ≡ true → list_all f ys ≡ true → list_all f (xs ++ ys) ≡ true
append_all f [] ys one other = other
append_all f (x ∷ xs) ys one other =
    and_from (f x) (list_all f (xs ++ ys)) (and_first (f x) (list_all f xs) one) (append_all f xs ys (and_second (f x) (list_all f xs) one) other)

single_all : (f : Location → Bool) (x : Location) → f x ≡ true → list_all f (x ∷ []) ≡ true
single_all f x one = and_from (f x) true one refl

where_all : (f : Location → Bool) (test : Bool) (x : Location) → (test ≡ true → f x ≡ true) → list_all f (where_true test x) ≡ true
where_all f true x one = single_all f x (one refl)
where_all f false x one = refl

where_apart : (test : Bool) (x : Location) → all_apart (where_true test x) ≡ true
where_apart true x = refl
where_apart false x = refl

-- each of these has nothing in common with any of the others
abbrev Parted : List Location → List Location → Type 0
Parted xs ys = list_all (λ x. list_all (are_apart x) ys) xs ≡ true

append_apart : (xs ys : List Location) → all_apart xs ≡ true → all_apart ys ≡ true → Parted xs ys → all_apart (xs ++ ys) ≡ true
append_apart [] ys one other parted = other
append_apart (x ∷ xs) ys one other parted =
    and_from (list_all (are_apart x) (xs ++ ys)) (all_apart (xs ++ ys))
    (append_all (are_apart x) xs ys (and_first (list_all (are_apart x) xs) (all_apart xs) one)
    (and_first (list_all (are_apart x) ys) (list_all (λ x. list_all (are_apart x) ys) xs) parted))
    (append_apart xs ys (and_second (list_all (are_apart x) xs) (all_apart xs) one) other
    (and_second (list_all (are_apart x) ys) (list_all (λ x. list_all (are_apart x) ys) xs) parted))

first_apart : (x : Location) (ys : List Location) → list_all (are_apart x) ys ≡ true → all_apart ys ≡ true → all_apart (x ∷ ys) ≡ true
first_apart x ys one other = and_from (list_all (are_apart x) ys) (all_apart ys) one other

-- what is apart from a place, one by one
flip_all : (x : Location) (ys : List Location) → list_all (are_apart x) ys ≡ true → list_all (λ y. are_apart y x) ys ≡ true
flip_all x [] all = refl
flip_all x (y ∷ ys) all =
    and_from (are_apart y x) (list_all (λ y. are_apart y x) ys) (apart_flip x y (and_first (are_apart x y) (list_all (are_apart x) ys) all))
    (flip_all x ys (and_second (are_apart x y) (list_all (are_apart x) ys) all))

parted_nothing : (xs : List Location) → Parted xs []
parted_nothing [] = refl
parted_nothing (x ∷ xs) = parted_nothing xs

parted_more : (xs : List Location) (y : Location) (ys : List Location) → list_all (λ x. are_apart x y) xs ≡ true → Parted xs ys →
    Parted xs (y ∷ ys)
parted_more [] y ys one other = refl
parted_more (x ∷ xs) y ys one other =
    and_from (list_all (are_apart x) (y ∷ ys)) (list_all (λ x. list_all (are_apart x) (y ∷ ys)) xs)
    (and_from (are_apart x y) (list_all (are_apart x) ys) (and_first (are_apart x y) (list_all (λ x. are_apart x y) xs) one)
    (and_first (list_all (are_apart x) ys) (list_all (λ x. list_all (are_apart x) ys) xs) other))
    (parted_more xs y ys (and_second (are_apart x y) (list_all (λ x. are_apart x y) xs) one)
    (and_second (list_all (are_apart x) ys) (list_all (λ x. list_all (are_apart x) ys) xs) other))

parted_where : (xs : List Location) (test : Bool) (y : Location) (ys : List Location) → (test ≡ true → list_all (λ x. are_apart x y) xs ≡ true) →
    Parted xs ys → Parted xs (where_true test y ++ ys)
parted_where xs true y ys one other = parted_more xs y ys (one refl) other
parted_where xs false y ys one other = other

parted_last : (xs : List Location) (test : Bool) (y : Location) → (test ≡ true → list_all (λ x. are_apart x y) xs ≡ true) →
    Parted xs (where_true test y)
parted_last xs true y one = parted_more xs y [] (one refl) (parted_nothing xs)
parted_last xs false y one = parted_nothing xs

where_parted : (test : Bool) (x : Location) (ys : List Location) → (test ≡ true → list_all (are_apart x) ys ≡ true) → Parted (where_true test x) ys
where_parted true x ys one = and_from (list_all (are_apart x) ys) true (one refl) refl
where_parted false x ys one = refl

-- ---- two places

-- variables of a function with different names
locals_apart : (depth : ℕ) (p q : Location) (a b : List ℕ) → p.root ≡ variable depth a → q.root ≡ variable depth b → bytes_eq a b ≡ false →
    are_apart p q ≡ true
locals_apart depth p q a b first second differ =
    roots_differ p q
    (ap (λ root. same_root root q.root) first
    ∙ (ap (same_root (variable depth a)) second ∙ (ap (λ same. (depth == depth) && same) differ ∙ and_false (depth == depth))))

local_older : (depth : ℕ) (p q : Location) (name : List ℕ) → p.root ≡ variable depth name → is_older depth q.root ≡ true →
    are_apart p q ≡ true
local_older depth p q name is older = roots_differ p q (ap (λ root. same_root root q.root) is ∙ older_differs depth name q.root older)

module _ (site : TypingContext) (unit : UnitDef) (remembers : Bool) (scope : Scope) (places : PlacesAreSeparate site unit remembers scope)
    (active : is_activity site.kind ≡ true) (n : NumberedWord) where
  -- ---- where a `run` of the function keeps what it hands over

  abbrev pub frame : Location
  frame = inner (frame_at scope) n

  abbrev pub memory : Location
  memory = inner (remembered_at scope) n

  abbrev pub result : Location
  result = named_location scope false (given_name n)

  abbrev pub over : Location
  over = named_location scope false ended_name

  abbrev place_of : Bool → Home → ℕ → Location
  place_of activity home k = further (start_in scope activity home site.vars k) (lead_in home site.vars k ++ [])

  -- a place is apart from all variables where it is apart from what they may be
  apart_by : (place : Location) →
      ((k : ℕ) (var : Var) → var_at site k ≡ Some var → home_at site k ≡ Held → are_apart place (place_of true Held k) ≡ true) →
      ((k : ℕ) → are_apart place (place_of true Local k) ≡ true) →
      ((k : ℕ) (var : Var) → var_at site k ≡ Some var → home_at site k ≡ Lent → are_apart place (lent_at scope site.vars k) ≡ true) →
      ApartFromVariables site scope place
  apart_by place held given lent k var there = by (is_activity site.kind) (home_at site k) refl refl
    where
      no_such : false ≡ true → ⊥
      no_such h = cc

      by : (activity : Bool) (x : Home) → is_activity site.kind ≡ activity → home_at site k ≡ x → are_apart place (place_of activity x k) ≡ true
      by false Held kind is = absurd (no_such (sym kind ∙ active))
      by true Held kind is = held k var there is
      by activity Local kind is = given k
      by activity Lent kind is = last_further place (lent_at scope site.vars k) [] (lent k var there is)

  frame_older : is_older scope.depth frame.root ≡ true
  frame_older = places.frame.frame_older

  -- an older place is apart from the function's own variables
  older_apart : (place : Location) (name : List ℕ) (way : List Projection) → is_older scope.depth place.root ≡ true →
      are_apart place (further (named_location scope false name) way) ≡ true
  older_apart place name way older =
      apart_flip (further (named_location scope false name) way) place
      (local_older scope.depth (further (named_location scope false name) way) place name refl older)

  pub frame_variables : ApartFromVariables site scope frame
  frame_variables =
      apart_by frame
      (λ k var there is.
      first_further (frame_at scope) (place_of true Held k) (member (callee_name n) ∷ [])
      (last_further (frame_at scope) (remembered_at scope) (member (variable_name site.vars k) ∷ [])
      (places.frame_apart.remembered k var there is active)))
      (λ k. older_apart frame (variable_name site.vars k) [] frame_older)
      (λ k var there is. first_further (frame_at scope) (lent_at scope site.vars k) (member (callee_name n) ∷ []) (places.frame_apart.lent k var there is))

  pub memory_variables : remembers ≡ true → ApartFromVariables site scope memory
  memory_variables its =
      let start = remembered_at scope in
      apart_by memory
      (λ k var there is.
      or_right (not (same_root start.root start.root))
      (ways_part (start.parts ++ member (callee_name n) ∷ []) (start.parts ++ member (variable_name site.vars k) ∷ []))
      (behind_front start.parts (member (callee_name n) ∷ []) (member (variable_name site.vars k) ∷ [])))
      (λ k. older_apart memory (variable_name site.vars k) [] (places.memory its).older)
      (λ k var there is. first_further start (lent_at scope site.vars k) (member (callee_name n) ∷ []) ((places.memory its).lent k var there is))

  -- a local of another name is apart from all variables
  local_variables : (name : List ℕ) → ((k : ℕ) → bytes_eq name (variable_name site.vars k) ≡ false) →
      ApartFromVariables site scope (named_location scope false name)
  local_variables name differ =
      let place = named_location scope false name in
      apart_by place
      (λ k var there is.
      last_further place (remembered_at scope) (member (variable_name site.vars k) ∷ [])
      (local_older scope.depth place (remembered_at scope) name refl (places.pointers.held_older k var there is active)))
      (λ k. locals_apart scope.depth place (place_of true Local k) name (variable_name site.vars k) refl refl (differ k))
      (λ k var there is. local_older scope.depth place (lent_at scope site.vars k) name refl (places.pointers.lent_older k var there is))

  pub result_variables : ApartFromVariables site scope result
  result_variables = local_variables (given_name n) (λ k. refl)

  pub over_variables : ApartFromVariables site scope over
  over_variables = local_variables ended_name (λ k. refl)

  -- ---- among themselves

  frame_memory : remembers ≡ true → are_apart frame memory ≡ true
  frame_memory its =
      first_further (frame_at scope) memory (member (callee_name n) ∷ [])
      (last_further (frame_at scope) (remembered_at scope) (member (callee_name n) ∷ [])
      (apart_flip (remembered_at scope) (frame_at scope) (places.memory its).frame))

  result_over : are_apart result over ≡ true
  result_over = locals_apart scope.depth result over (given_name n) ended_name refl refl refl

  -- ---- all of them

  pub may_give : (other : UnitDef) (has : Bool) (inputs : List ArgumentValue) (outputs : List Location) → (has ≡ true → remembers ≡ true) →
      MayPass scope.depth inputs outputs →
      ((place : Location) → ApartFromVariables site scope place → list_all (are_apart place) (places_in_args inputs) ≡ true) →
      ((place : Location) → ApartFromVariables site scope place → list_all (are_apart place) outputs ≡ true) →
      MayGive other has scope.depth (given_by scope n inputs outputs)
  may_give other has inputs outputs its may from_inputs from_outputs =
      let ends : List Location = where_true (unit_may_end other) over in
      let last : List Location = where_true (is_some other.result) result ++ ends in
      let rest : List Location = outputs ++ last in
      let older_last : (place : Location) → is_older scope.depth place.root ≡ true → list_all (are_apart place) last ≡ true =
      λ place older. append_all (are_apart place) (where_true (is_some other.result) result) ends
      (where_all (are_apart place) (is_some other.result) result (λ one. older_apart place (given_name n) [] older))
      (where_all (are_apart place) (unit_may_end other) over (λ may. older_apart place ended_name [] older)) in
      let last_apart : all_apart last ≡ true =
      append_apart (where_true (is_some other.result) result) ends (where_apart (is_some other.result) result) (where_apart (unit_may_end other) over)
      (where_parted (is_some other.result) result ends (λ one. where_all (are_apart result) (unit_may_end other) over (λ may. result_over))) in
      let rest_apart : all_apart rest ≡ true =
      append_apart outputs last may.apart last_apart
      (parted_where outputs (is_some other.result) result ends (λ one. flip_all result outputs (from_outputs result result_variables))
      (parted_last outputs (unit_may_end other) over (λ may. flip_all over outputs (from_outputs over over_variables)))) in
      let memory_rest : has ≡ true → list_all (are_apart memory) rest ≡ true =
      λ one. append_all (are_apart memory) outputs last (from_outputs memory (memory_variables (its one)))
      (older_last memory (places.memory (its one)).older) in
      let frame_rest : list_all (are_apart frame) (where_true has memory ++ rest) ≡ true =
      append_all (are_apart frame) (where_true has memory) rest (where_all (are_apart frame) has memory (λ one. frame_memory (its one)))
      (append_all (are_apart frame) outputs last (from_outputs frame frame_variables) (older_last frame frame_older)) in
      let apart_input : Location → Bool = λ place. list_all (are_apart place) (places_in_args inputs) in
      let live : Location → Bool = λ place. is_live scope.depth place.root in
      record {
        apart = first_apart frame (where_true has memory ++ rest) frame_rest
            (append_apart (where_true has memory) rest (where_apart has memory) rest_apart (where_parted has memory rest memory_rest));
        inputs_apart = and_from (apart_input frame) (list_all apart_input (where_true has memory ++ rest)) (from_inputs frame frame_variables)
            (append_all apart_input (where_true has memory) rest
            (where_all apart_input has memory (λ one. from_inputs memory (memory_variables (its one))))
            (append_all apart_input outputs last may.inputs_apart
            (append_all apart_input (where_true (is_some other.result) result) ends
            (where_all apart_input (is_some other.result) result (λ one. from_inputs result result_variables))
            (where_all apart_input (unit_may_end other) over (λ may. from_inputs over over_variables)))));
        live = and_from (live frame) (list_all live (where_true has memory ++ rest)) (older_live scope.depth frame.root frame_older)
            (append_all live (where_true has memory) rest
            (where_all live has memory (λ one. older_live scope.depth memory.root (places.memory (its one)).older))
            (append_all live outputs last may.live
            (append_all live (where_true (is_some other.result) result) ends
            (where_all live (is_some other.result) result (λ one. at_most_self_test scope.depth))
            (where_all live (unit_may_end other) over (λ may. at_most_self_test scope.depth)))));
      }
