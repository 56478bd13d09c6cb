-- What the call of a `run` leaves of memory: all numbers but those of the callee's structs, of the outputs and of two locals.
use Rattle.std.proofs.Common.{◌≡◌, ℕ, suc, Bool, true, false, not, ◌&&◌, ◌||◌, List, []}
use Rattle.std.proofs.Common.{◌∷◌, ◌++◌, Some, refl, sym, ap, ◌∙◌, subst}
use Rattle.std.proofs.Common.{arith}
use Rattle.std.proofs.lemmas.List.Folds.{list_any-append}
use Rattle.std.specs.List.{list_any}
use Rattle.std.specs.Prelude.{bytes_eq, is_some, slice_get, ◌==◌}
use Rattle.std.proofs.lemmas.Bool.{or_from, or_right}
use Rattle.bl_tree.proofs.Basics.{at_most_self_test}
use Rattle.bl_tree.specs.declared.text.Text.{Text}
use Rattle.bl_tree.specs.declared.tree.Unit.{Unit as UnitDef}
use Rattle.bl_tree.specs.declared.tree.Var.{Var}
use Rattle.bl_tree.specs.Program.{is_input}
use Rattle.bl_tree.specs.Typing.{TypingContext, is_activity, var_at}
use Rattle.bl_ctext_semantics.specs.Meaning.{ArgumentValue, Scope, further, named_location}
use Rattle.bl_ctext_semantics.specs.Memory.{Location, Memory, Projection, Root, left_after, member, same_root, value_at, variable}
use Rattle.bl_emit_acts.specs.declared.home.Home.{Home}
use Rattle.bl_emit_acts.specs.declared.home.Home.TheVariants.{Held, Local, Lent}
use Rattle.bl_emit_acts.specs.Types.{copy_name, variable_name}
use Rattle.bl_emit_acts_laws_simulation.specs.Acts.{Foreign, UnchangedOutside, copy_location, lies_in}
use Rattle.bl_emit_acts_laws_simulation.specs.Frames.{is_older, lent_at, remembered_at}
use Rattle.bl_emit_acts_laws_simulation.specs.Encodes.{are_apart, home_at, is_live, lead_in, location_in, start_in, ways_part}
use Rattle.bl_emit_acts_laws_simulation.proofs.Cells.{lies_inside}
use Rattle.bl_emit_spec.specs.Blocks.{unit_may_end}
use Rattle.bl_emit_spec.specs.Names.{NumberedWord, callee_name, ended_name, flag_name, given_name, mark_name, rested_name, with_word}
use Rattle.bl_emit_spec_laws.specs.Registers.Registers.{Before, Counter, Flag, Mark, Over, Register, Registered}
use Rattle.bl_emit_spec_laws.specs.Registers.Registers.{RegistersApart, RegistersBeside, frame_at, has_register, register_at}
use Rattle.bl_emit_spec_laws_nodes.specs.Calling.{given_by}
use Rattle.bl_emit_spec_laws.specs.Calls.Calls.{where_true, written_by}
use Rattle.bl_emit_spec_laws.specs.Calls.Laws.{PassKeepsFrame}
use Rattle.bl_emit_spec_laws.specs.Calls.Memories.{inner}
use Rattle.bl_emit_spec_laws.specs.Calls.Invariant.{PlacesAreSeparate, result_at_c}
use Rattle.bl_emit_spec_laws_nodes.proofs.OnPoints.Apart.{Beyond, first_further, inner_is, last_further, lies_further}
use Rattle.bl_emit_spec_laws_nodes.proofs.OnPoints.Apart.{register_inner, register_stands}
use Rattle.bl_emit_spec_laws_nodes.proofs.OnPoints.Foreign.{foreign_counter, foreign_memory, foreign_outside, foreign_register, foreign_result}
use Rattle.bl_emit_spec_laws_nodes.proofs.OnPoints.Foreign.{variable_apart}
use Rattle.bl_emit_acts_laws_simulation.proofs.Frames.{older_differs, own_differ, roots_differ}
use Rattle.bl_emit_acts_laws_simulation.proofs.Cells.{apart_flip}
use Rattle.bl_emit_acts_laws_simulation.proofs.Calls.{apart_lies}
use Rattle.bl_emit_spec_laws.proofs.OnRegisters.Cells.{behind_front}

none_of_both : {X : Type 0} (p : X → Bool) (xs ys : List X) → list_any p xs ≡ false → list_any p ys ≡ false → list_any p (xs ++ ys) ≡ false
none_of_both p xs ys one other = list_any-append p xs ys ∙ or_from (list_any p xs) (list_any p ys) one other

none_where : {X : Type 0} (p : X → Bool) (test : Bool) (x : X) → (test ≡ true → p x ≡ false) → list_any p (where_true test x) ≡ false
none_where p true x h = or_from (p x) false (h refl) refl
none_where p false x h = refl

-- a place in a variable that may be written
pub record PlaceIn (site : TypingContext) (scope : Scope) (place : Location) : Type 0 where
  pub root : ℕ
  pub var : Var
  pub is_there : var_at site root ≡ Some var
  pub writable : is_input var.role ≡ false
  pub way : List Projection
  pub is : place ≡ location_in scope site root way

module _ (site : TypingContext) (unit : UnitDef) (remembers : Bool) (scope : Scope) (places : PlacesAreSeparate site unit remembers scope)
    (active : is_activity site.kind ≡ true)
    (held_here : (k : ℕ) (var : Var) → var_at site k ≡ Some var → home_at site k ≡ Held → remembers ≡ true) (other : UnitDef)
    (takes : Bool) (so : takes ≡ true → remembers ≡ true) (n : NumberedWord) (inputs : List ArgumentValue) (outputs : List Location)
    (within : (o : ℕ) (place : Location) → slice_get outputs o ≡ Some place → PlaceIn site scope place) (here after : Memory)
    (kept : UnchangedOutside scope.depth (written_by other takes (given_by scope n inputs outputs)) here after) where
  abbrev f : Location
  f = inner (frame_at scope) n

  abbrev m : Location
  m = inner (remembered_at scope) n

  abbrev given : Location
  given = named_location scope false (given_name n)

  abbrev ended : Location
  ended = named_location scope false ended_name

  -- no variable is copied as far as this is concerned
  abbrev none : ℕ → Bool
  none k = false

  -- ---- numbers

  -- a number that lies in none of the places that the call may write
  pub record Clear (root : Root) (way : List Projection) : Type 0 where
    pub live : is_live scope.depth root ≡ true
    pub no_frame : lies_in f root way ≡ false
    pub no_memory : takes ≡ true → lies_in m root way ≡ false
    pub no_output : list_any (λ place. lies_in place root way) outputs ≡ false
    pub no_given : lies_in given root way ≡ false
    pub no_ended : lies_in ended root way ≡ false

  pub number_same : (root : Root) (way : List Projection) → Clear root way → after root way ≡ here root way
  number_same root way clear =
      let lies : Location → Bool = λ place. lies_in place root way in
      let last : List Location = where_true (is_some other.result) given ++ where_true (unit_may_end other) ended in
      kept.each root way clear.live
      (or_from (lies f) (list_any lies (where_true takes m ++ (outputs ++ last))) clear.no_frame
      (none_of_both lies (where_true takes m) (outputs ++ last) (none_where lies takes m clear.no_memory)
      (none_of_both lies outputs last clear.no_output
      (none_of_both lies (where_true (is_some other.result) given) (where_true (unit_may_end other) ended)
      (none_where lies (is_some other.result) given (λ one. clear.no_given))
      (none_where lies (unit_may_end other) ended (λ may. clear.no_ended))))))

  -- no output is there where no variable that may be written is
  no_outputs : (root : Root) (way : List Projection) → ((k : ℕ) (var : Var) → var_at site k ≡ Some var → is_input var.role ≡ false →
      lies_in (location_in scope site k []) root way ≡ false) → list_any (λ place. lies_in place root way) outputs ≡ false
  no_outputs root way variables = each outputs within
    where
      each : (rest : List Location) → ((o : ℕ) (place : Location) → slice_get rest o ≡ Some place → PlaceIn site scope place) →
          list_any (λ place. lies_in place root way) rest ≡ false
      each [] all = refl
      each (place ∷ rest) all =
          let one = all 0 place refl in
          or_from (lies_in place root way) (list_any (λ place. lies_in place root way) rest)
          (ap (λ place. lies_in place root way) one.is
          ∙ lies_inside scope site one.root one.way root way (variables one.root one.var one.is_there one.writable))
          (each rest (λ o place at. all (suc o) place at))

  -- ---- places

  -- a place that has nothing in common with those that the call may write has what it had
  pub place_same : (p : Location) → ((way : List Projection) → Foreign site none scope p.root (p.parts ++ way)) → are_apart f p ≡ true →
      (takes ≡ true → are_apart m p ≡ true) → are_apart given p ≡ true → are_apart ended p ≡ true → (way : List Projection) →
      value_at after p way ≡ value_at here p way
  place_same p foreign frame memory one two way =
      number_same p.root (p.parts ++ way) (record {
        live = (foreign way).live;
        no_frame = apart_lies f p way frame;
        no_memory = λ it. apart_lies m p way (memory it);
        no_output = no_outputs p.root (p.parts ++ way) (foreign way).variables;
        no_given = apart_lies given p way one;
        no_ended = apart_lies ended p way two;
      })

  local_older : (name : Text) (p : Location) → is_older scope.depth p.root ≡ true → are_apart (named_location scope false name) p ≡ true
  local_older name p older = roots_differ (named_location scope false name) p (older_differs scope.depth name p.root older)

  local_local : (name other : Text) → bytes_eq name other ≡ false → are_apart (named_location scope false name) (named_location scope false other) ≡ true
  local_local name other differ = roots_differ (named_location scope false name) (named_location scope false other) (own_differ scope.depth name other differ)

  older_local : (p : Location) (name : Text) → is_older scope.depth p.root ≡ true → are_apart p (named_location scope false name) ≡ true
  older_local p name older = apart_flip (named_location scope false name) p (local_older name p older)

  -- the structs of the caller are older
  memory_older : takes ≡ true → is_older scope.depth m.root ≡ true
  memory_older it = (places.memory (so it)).older

  -- a place of before, apart from the structs
  older_same : (p : Location) → is_older scope.depth p.root ≡ true → ((way : List Projection) → Foreign site none scope p.root (p.parts ++ way)) →
      are_apart f p ≡ true → (takes ≡ true → are_apart m p ≡ true) → (way : List Projection) → value_at after p way ≡ value_at here p way
  older_same p older foreign frame memory =
      place_same p foreign frame memory (local_older (given_name n) p older) (local_older ended_name p older)

  -- ---- registers

  module _ (has : Registered) (may_end : has.over ≡ unit_may_end unit) where
    register_given : (x : Register) → has_register has x ≡ true → are_apart given (register_at has scope x) ≡ true
    register_given (Counter k) its = local_older (given_name n) (register_at has scope (Counter k)) places.frame.frame_older
    register_given (Before k) its = local_local (given_name n) (rested_name k) refl
    register_given (Flag k) its = local_local (given_name n) (flag_name (with_word has.words k)) refl
    register_given (Mark k) its = local_local (given_name n) (mark_name (with_word has.words k)) refl
    register_given Over its = local_older (given_name n) (register_at has scope Over) (places.frame.over_older (sym may_end ∙ its))

    register_ended : (x : Register) → has_register has x ≡ true → are_apart ended (register_at has scope x) ≡ true
    register_ended (Counter k) its = local_older ended_name (register_at has scope (Counter k)) places.frame.frame_older
    register_ended (Before k) its = local_local ended_name (rested_name k) refl
    register_ended (Flag k) its = local_local ended_name (flag_name (with_word has.words k)) refl
    register_ended (Mark k) its = local_local ended_name (mark_name (with_word has.words k)) refl
    register_ended Over its = local_older ended_name (register_at has scope Over) (places.frame.over_older (sym may_end ∙ its))

    pub register_same : RegistersApart has scope → RegistersBeside has site scope → (x : Register) → has_register has x ≡ true → (way : List Projection) →
        value_at after (register_at has scope x) way ≡ value_at here (register_at has scope x) way
    register_same apart beside x its =
        let p = register_at has scope x in
        place_same p (foreign_register site unit remembers scope places active held_here none has apart beside x its)
        (apart_flip p f (register_inner scope has (unit_may_end unit) may_end places.frame n [] x its))
        (λ it.
        apart_flip p m
        (last_further p (remembered_at scope) (member (callee_name n) ∷ [])
        (register_stands scope has site (unit_may_end unit) may_end (remembered_at scope) (places.memory (so it)) x its)))
        (register_given x its) (register_ended x its)

  -- ---- copies

  pub copy_same : (k : ℕ) →
      ((j : ℕ) (var : Var) → var_at site j ≡ Some var → are_apart (location_in scope site j []) (copy_location scope site.vars k) ≡ true) →
      (way : List Projection) → value_at after (copy_location scope site.vars k) way ≡ value_at here (copy_location scope site.vars k) way
  copy_same k apart =
      let p = copy_location scope site.vars k in
      place_same p
      (λ way. record {
        live = at_most_self_test scope.depth;
        variables = λ j var there writable. apart_lies (location_in scope site j []) p way (apart j var there);
        copies = λ j its. absurd cc;
      })
      (older_local f (copy_name site.vars k) places.frame.frame_older) (λ it. older_local m (copy_name site.vars k) (memory_older it))
      (local_local (given_name n) (copy_name site.vars k) refl) (local_local ended_name (copy_name site.vars k) refl)

  -- ---- the result

  pub result_same : is_some unit.result ≡ true → (way : List Projection) → value_at after (result_at_c scope) way ≡ value_at here (result_at_c scope) way
  result_same one =
      let p = result_at_c scope in
      let stands = places.result one in
      older_same p stands.older (foreign_result site unit remembers scope places active held_here none one)
      (first_further (frame_at scope) p (member (callee_name n) ∷ []) (apart_flip p (frame_at scope) stands.frame))
      (λ it.
      first_further (remembered_at scope) p (member (callee_name n) ∷ [])
      (apart_flip p (remembered_at scope) (places.result_apart one (so it))))

  -- ---- other callees

  module _ (k : NumberedWord) (differ : bytes_eq (callee_name n) (callee_name k) ≡ false) where
    members_part : (base : Location) (more : List Projection) →
        are_apart (inner base n) (further base (member (callee_name k) ∷ more)) ≡ true
    members_part base more =
        or_right (not (same_root base.root base.root))
        (ways_part (base.parts ++ member (callee_name n) ∷ []) (base.parts ++ (member (callee_name k) ∷ more)))
        (behind_front base.parts (member (callee_name n) ∷ []) (member (callee_name k) ∷ more) ∙ ap (λ same. not same || false) differ)

    pub counters_same : (f' : Location) → Beyond (inner (frame_at scope) k) f' → (more way : List Projection) →
        value_at after (further f' more) way ≡ value_at here (further f' more) way
    counters_same f' far more =
        subst (λ (p : Location). (way : List Projection) → value_at after p way ≡ value_at here p way) (sym (inner_is (frame_at scope) f' k far more))
        (by (far.0 ++ more))
      where
        by : (rest way : List Projection) →
            value_at after (further (frame_at scope) (member (callee_name k) ∷ rest)) way
            ≡ value_at here (further (frame_at scope) (member (callee_name k) ∷ rest)) way
        by rest =
            let p = further (frame_at scope) (member (callee_name k) ∷ rest) in
            older_same p places.frame.frame_older
            (foreign_counter site unit remembers scope places active held_here none (member (callee_name k) ∷ rest))
            (members_part (frame_at scope) rest)
            (λ it.
            first_further (remembered_at scope) p (member (callee_name n) ∷ [])
            (last_further (remembered_at scope) (frame_at scope) (member (callee_name k) ∷ rest) (places.memory (so it)).frame))

    pub memories_same : remembers ≡ true → (m' : Location) → Beyond (inner (remembered_at scope) k) m' → (more way : List Projection) →
        value_at after (further m' more) way ≡ value_at here (further m' more) way
    memories_same its m' far more =
        subst (λ (p : Location). (way : List Projection) → value_at after p way ≡ value_at here p way)
        (sym (inner_is (remembered_at scope) m' k far more)) (by (far.0 ++ more))
      where
        by : (rest way : List Projection) →
            value_at after (further (remembered_at scope) (member (callee_name k) ∷ rest)) way
            ≡ value_at here (further (remembered_at scope) (member (callee_name k) ∷ rest)) way
        by rest =
            let p = further (remembered_at scope) (member (callee_name k) ∷ rest) in
            older_same p (places.memory its).older (foreign_memory site unit remembers scope places active held_here none its k rest)
            (first_further (frame_at scope) p (member (callee_name n) ∷ [])
            (last_further (frame_at scope) (remembered_at scope) (member (callee_name k) ∷ rest)
            (apart_flip (remembered_at scope) (frame_at scope) (places.memory its).frame)))
            (λ it. members_part (remembered_at scope) rest)

  -- ---- what the caller may not write

  pub outside_same : PassKeepsFrame site unit remembers scope here after
  outside_same root way older outside =
      let foreign = foreign_outside site unit remembers scope places active held_here none root way older outside in
      number_same root way (record {
        live = foreign.live;
        no_frame = lies_further (frame_at scope) (member (callee_name n) ∷ []) root way outside.frame;
        no_memory = λ it. lies_further (remembered_at scope) (member (callee_name n) ∷ []) root way (outside.memory (so it));
        no_output = no_outputs root way foreign.variables;
        no_given = ap (λ same. same && is_some (left_after [] way)) (older_differs scope.depth (given_name n) root older);
        no_ended = ap (λ same. same && is_some (left_after [] way)) (older_differs scope.depth ended_name root older);
      })

  -- ---- variables

  abbrev place_of : Bool → Home → ℕ → Location
  place_of activity home k = further (start_in scope activity home site.vars k) (lead_in home site.vars k ++ [])

  -- a local of a `run` keeps apart from variables
  local_variable : (name : Text) → ((k : ℕ) → bytes_eq name (variable_name site.vars k) ≡ false) → (k : ℕ) (var : Var) → var_at site k ≡ Some var →
      are_apart (named_location scope false name) (location_in scope site k []) ≡ true
  local_variable name differ k var there = by (is_activity site.kind) (home_at site k) refl refl
    where
      no_such : false ≡ true → ⊥
      no_such h = cc

      by : (activity : Bool) (x : Home) → is_activity site.kind ≡ activity → home_at site k ≡ x →
          are_apart (named_location scope false name) (place_of activity x k) ≡ true
      by false Held kind is = absurd (no_such (sym kind ∙ active))
      by true Held kind is = local_older name (place_of true Held k) (places.memory (held_here k var there is)).older
      by activity Local kind is = local_local name (variable_name site.vars k) (differ k)
      by activity Lent kind is = local_older name (place_of activity Lent k) (places.pointers.lent_older k var there is)

  -- a number of a variable in no output's place is as it was
  pub variable_same : (k : ℕ) (var : Var) → var_at site k ≡ Some var → is_live scope.depth (location_in scope site k []).root ≡ true →
      (way : List Projection) → list_any (λ place. lies_in place (location_in scope site k []).root ((location_in scope site k []).parts ++ way)) outputs
      ≡ false →
      value_at after (location_in scope site k []) way ≡ value_at here (location_in scope site k []) way
  variable_same k var there live way clear =
      let p = location_in scope site k [] in
      number_same p.root (p.parts ++ way) (record {
        live = live;
        no_frame = apart_lies f p way
            (apart_flip p f
            (variable_apart site unit remembers scope places active held_here none f places.frame.frame_older
            (λ k var there is.
            first_further (frame_at scope) (lent_at scope site.vars k) (member (callee_name n) ∷ []) (places.frame_apart.lent k var there is))
            (λ k var there is.
            first_further (remembered_at scope) f (member (variable_name site.vars k) ∷ [])
            (last_further (remembered_at scope) (frame_at scope) (member (callee_name n) ∷ [])
            (places.memory (held_here k var there is)).frame)) k var there));
        no_memory = λ it. apart_lies m p way
            (apart_flip p m
            (variable_apart site unit remembers scope places active held_here none m (memory_older it)
            (λ k var there is.
            first_further (remembered_at scope) (lent_at scope site.vars k) (member (callee_name n) ∷ []) ((places.memory (so it)).lent k var there is))
            (λ k var there is.
            or_right (not (same_root m.root m.root))
            (ways_part ((remembered_at scope).parts ++ member (variable_name site.vars k) ∷ []) ((remembered_at scope).parts ++ member (callee_name n) ∷ []))
            (behind_front (remembered_at scope).parts (member (variable_name site.vars k) ∷ []) (member (callee_name n) ∷ []))) k var there));
        no_output = clear;
        no_given = apart_lies given p way (local_variable (given_name n) (λ k. refl) k var there);
        no_ended = apart_lies ended p way (local_variable ended_name (λ k. refl) k var there);
      })
