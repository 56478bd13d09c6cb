-- The C of a call of a function without a result leaves what the call leaves.
use Rattle.std.proofs.Common.{◌≡◌, ℕ, ◌+◌, arith, Bool, true, false, ◌&&◌, ◌||◌, List, [], ◌∷◌, ◌++◌, map, take, Option}
use Rattle.std.proofs.Common.{Some, None, refl, sym, ap, ap₂}
use Rattle.std.proofs.Common.{◌∙◌, subst, IfSome}
use Rattle.std.proofs.lemmas.List.{append-nil}
use Rattle.std.specs.Prelude.{is_some, not, option_and_then, option_map, slice_get, unwrap_or}
use Rattle.std.specs.List.{list_any}
use Rattle.bl_tree.specs.declared.text.Text.{Text}
use Rattle.bl_tree.specs.declared.c.CArg.{CArg}
use Rattle.bl_tree.specs.declared.tree.Expr.{Expr}
use Rattle.bl_tree.specs.declared.tree.Path.{Path}
use Rattle.bl_tree.specs.declared.tree.StructDef.{StructDef}
use Rattle.bl_tree.specs.declared.tree.Unit.{Unit as UnitDef}
use Rattle.bl_tree.specs.declared.tree.Var.{Var}
use Rattle.bl_tree.specs.declared.value.Value.{Value}
use Rattle.bl_tree.specs.Program.{IsWellTyped, is_input, parameters_of}
use Rattle.bl_tree.specs.Reduce.{all_of}
use Rattle.bl_tree.specs.Typing.{TypingContext, arguments_fit, call_fits, inputs_of, is_outlet, is_procedure, outputs_of, site_of, type_of, type_of_path, types_match}
use Rattle.bl_tree.specs.Typing.{var_at}
use Rattle.bl_effects.specs.Rules.{aliases_of, marked_inputs, marked_path, outputs_aliased}
use Rattle.bl_eval.specs.declared.datum.Left.{Left}
use Rattle.bl_eval.specs.Functions.{call_of, callees_of, outcome_of_call, put_all, scope_among}
use Rattle.bl_eval.specs.Changes.{with_element_at}
use Rattle.bl_eval.specs.Meaning.{Callee, PathMeaning, Scope as Sees, View, meaning_of, path_meaning_of, read_at, reading, values_of}
use Rattle.bl_eval.specs.Values.{put_at, value_at as part_at, value_fits, values_fit}
use Rattle.bl_eval.proofs.ActFits.{spot_put}
use Rattle.bl_eval.proofs.ExprFits.{CalleeFits, LeftFits, Sound, callee_at, expr_fits, match_fits}
use Rattle.bl_eval.proofs.MeaningLemmas.{values_append}
use Rattle.bl_eval.proofs.PartFits.{Fits}
use Rattle.bl_eval.proofs.PartLemmas.{put_at_is}
use Rattle.bl_eval.proofs.PassLemmas.{pass_append, pass_at}
use Rattle.std.proofs.Math.Seq.{take-add}
use Rattle.bl_tree.proofs.Basics.{and_first, and_second, at_most_self_test}
use Rattle.bl_eval.proofs.UnitFits.{sound_at}
use Rattle.bl_ctext_semantics.specs.Course.{Outcome}
use Rattle.bl_ctext_semantics.specs.Memory.{Location, Memory, Projection, Root, left_after, same_root, set_at, value_at}
use Rattle.bl_ctext_semantics.specs.Meaning.{ArgumentValue, CallResult, Scope, applied, block_c, by_address, call_c, called_after, called_as, later_call}
use Rattle.bl_ctext.specs.declared.builtin.Builtin.{Builtin}
use Rattle.bl_emit_acts.specs.Acts.{c_calling, call_args, call_made, is_copied, name_of_callee, output_arg}
use Rattle.bl_emit_acts.specs.Expressions.{arg_of, made_of}
use Rattle.bl_emit_acts.specs.Trees.{c_call}
use Rattle.bl_emit_acts.specs.Types.{unit_name}
use Rattle.bl_emit_acts_laws_simulation.specs.Acts.{CallSimulates, OutputsEncoded, RepresentsAfter, RepresentsAfterCall, Simulates, copy_location, lies_in}
use Rattle.bl_emit_acts_laws_simulation.specs.Encodes.{VariablesEncoded, are_apart, copied_in, copied_in_path, is_live, location_in, way_to, ways_part}
use Rattle.bl_emit_acts_laws_simulation.specs.Laws.{BesideActs}
use Rattle.bl_emit_acts_laws_simulation.proofs.Aliases.{may_pass}
use Rattle.bl_emit_acts_laws_simulation.proofs.Arguments.{ArgsShow, own_name, pass_all}
use Rattle.bl_emit_acts_laws_simulation.proofs.Cells.{lies_inside, set_elsewhere, set_inside}
use Rattle.bl_emit_acts_laws_simulation.proofs.Evaluated.{call-does, passes}
use Rattle.bl_emit_acts_laws_simulation.proofs.Expressions.{callee_there, inputs_shown, made_shows}
use Rattle.bl_emit_acts_laws_simulation.proofs.Outputs.{OutputsAt, outputs_at, outputs_fit, outputs_hold, outputs_read, pass_outputs, places_at, values_at}
use Rattle.bl_emit_acts_laws_simulation.proofs.Parts.{holds_same}
use Rattle.bl_emit_acts_laws_simulation.proofs.Places.{listed-answer}
use Rattle.bl_emit_acts_laws_simulation.proofs.Statements.{Ends, call_after, call_ends, one_ends}
use Rattle.bl_emit_acts_laws_simulation.proofs.Whole.{writes}
use Rattle.bl_emit_acts_laws_simulation.proofs.Written.{left_apart}

-- ---- what has nothing in common with a place doesn't lie in it

pub apart_lies : (p q : Location) (way : List Projection) → are_apart p q ≡ true → lies_in p q.root (q.parts ++ way) ≡ false
apart_lies p q way h = by (same_root p.root q.root) h
  where
    by : (same : Bool) → (not same || ways_part p.parts q.parts) ≡ true → (same && is_some (left_after p.parts (q.parts ++ way))) ≡ false
    by false h = refl
    by true h =
        ap is_some (ap (λ front. left_after front (q.parts ++ way)) (sym (append-nil p.parts)) ∙ left_apart p.parts q.parts [] way h)

-- memory once each of these places has what another memory has there
abbrev set_all : Memory → Memory → List Location → Memory
set_all after m [] = m
set_all after m (place ∷ places) = set_all after (set_at m place (value_at after place)) places

-- it is that other memory, where the two differ in these places alone
same_after : (after : Memory) (root : Root) (way : List Projection) (places : List Location) (m : Memory) →
    (list_any (λ place. lies_in place root way) places ≡ false → m root way ≡ after root way) → set_all after m places root way ≡ after root way
same_after after root way [] m h = h refl
same_after after root way (place ∷ places) m h =
    same_after after root way places (set_at m place (value_at after place)) (by (lies_in place root way) refl h)
  where
    by : (lies : Bool) → lies_in place root way ≡ lies →
        ((lies || list_any (λ place. lies_in place root way) places) ≡ false → m root way ≡ after root way) →
        list_any (λ place. lies_in place root way) places ≡ false → set_at m place (value_at after place) root way ≡ after root way
    by true is h none = set_inside m after place root way is
    by false is h none = set_elsewhere m place (value_at after place) root way is ∙ h none

module _ (structs : List StructDef) (units : List UnitDef) (entry : ℕ) (k : ℕ) (unit : UnitDef) (view : View) (copies : List Bool) (scope : Scope)
    (here : Memory) (keeps : IsWellTyped structs units entry) (b : BesideActs structs units k unit view (is_copied copies) scope here) where
  abbrev my_site : TypingContext
  my_site = site_of structs (take k units) unit

  abbrev my_callees : List Callee
  my_callees = callees_of structs (take k units)

  abbrev my_sees : Sees
  my_sees = scope_among structs my_callees unit

  abbrev spot : Path → PathMeaning
  spot path = path_meaning_of my_sees path

  abbrev copied : ℕ → Bool
  copied = is_copied copies

  abbrev Outputs : List Path → List Var → Type 0
  Outputs = OutputsAt structs units entry k unit view copies scope here keeps b

  abbrev all_places : (paths : List Path) (vars : List Var) → Outputs paths vars → List Location
  all_places = places_at structs units entry k unit view copies scope here keeps b

  abbrev all_values : (paths : List Path) (vars : List Var) → Outputs paths vars → List Value
  all_values = values_at structs units entry k unit view copies scope here keeps b

  sound : Sound structs (take k units) unit my_callees
  sound = sound_at structs units entry k unit keeps b.beside.is_there

  -- ---- arguments

  abbrev input_args : List Expr → List CArg
  input_args inputs = map arg_of (map (made_of my_site) inputs)

  inputs_show : (inputs : List Expr) (vars : List Var) → types_match (map (type_of my_site) inputs) vars ≡ true →
      all_of (map (copied_in copied) inputs) ≡ true →
      ArgsShow structs scope here vars (pass_all structs scope here (input_args inputs)).answer (values_of (map (meaning_of my_sees) inputs) view)
  inputs_show inputs vars matched named =
      inputs_shown structs (take k units) unit my_callees sound view b.beside.fitting.now b.beside.fitting.before copied scope here b.beside.variables
      b.beside.live b.beside.copies b.beside.functions inputs
      (λ j d within. made_shows structs (take k units) unit my_callees sound view b.beside.fitting.now b.beside.fitting.before copied scope here
      b.beside.variables b.beside.live b.beside.copies b.beside.functions _) named vars matched

  inputs_fit : (inputs : List Expr) (vars : List Var) → types_match (map (type_of my_site) inputs) vars ≡ true →
      IfSome (values_of (map (meaning_of my_sees) inputs) view) (λ values. values_fit structs vars values ≡ true)
  inputs_fit inputs vars matched =
      match_fits structs view (meaning_of my_sees) (type_of my_site) inputs
      (λ j d within ty typed. expr_fits structs (take k units) unit my_callees sound view b.beside.fitting.now b.beside.fitting.before _ ty typed) vars matched

  abbrev joined_answer : Option (List ArgumentValue) → Option (List ArgumentValue) → Option (List ArgumentValue)
  joined_answer first rest = option_and_then (λ xs. option_map (λ ys. xs ++ ys) rest) first

  pass_both : (xs ys : List CArg) → (pass_all structs scope here (xs ++ ys)).answer
      ≡ joined_answer (pass_all structs scope here xs).answer (pass_all structs scope here ys).answer
  pass_both [] ys = by (pass_all structs scope here ys).answer
    where
      by : (o : Option (List ArgumentValue)) → o ≡ option_map (λ ys. ys) o
      by None = refl
      by (Some ps) = refl
  pass_both (x ∷ xs) ys =
      listed-answer (passes x scope here) (pass_all structs scope here (xs ++ ys))
      ∙ (ap (λ rest. option_and_then (λ (a : ArgumentValue). option_map (λ others. a ∷ others) rest) (passes x scope here).answer) (pass_both xs ys)
      ∙ (by (passes x scope here).answer (pass_all structs scope here xs).answer (pass_all structs scope here ys).answer
      ∙ ap (λ first. joined_answer first (pass_all structs scope here ys).answer)
      (sym (listed-answer (passes x scope here) (pass_all structs scope here xs)))))
    where
      by : (a : Option ArgumentValue) (o p : Option (List ArgumentValue)) →
          option_and_then (λ (a : ArgumentValue). option_map (λ others. a ∷ others) (joined_answer o p)) a
          ≡ joined_answer (option_and_then (λ (a : ArgumentValue). option_map (λ others. a ∷ others) o) a) p
      by None o p = refl
      by (Some a) None p = refl
      by (Some a) (Some xs) None = refl
      by (Some a) (Some xs) (Some ys) = refl

  -- ---- the call

  applied_is : (name : Text) (n : ℕ) (passed : List ArgumentValue) →
      called_after scope here (unit_name name) n (Some passed) ≡ later_call n (applied (scope.known (unit_name name)) (scope.depth + 1) passed here)
  applied_is name n passed =
      ap (λ (o : Option Builtin). later_call n (called_as o (scope.known (unit_name name)) (scope.depth + 1) passed here)) (own_name structs scope here name)

  -- ---- what a call leaves

  module _ (after : Memory) where
    puts_hold : (paths : List Path) (vars : List Var) (all : Outputs paths vars) (news : List Value)
        → OutputsEncoded structs after vars news (all_places paths vars all) →
        values_fit structs vars news ≡ true → (now : List Value) (m : Memory)
        → values_fit structs unit.vars now ≡ true → VariablesEncoded my_site now scope m →
        VariablesEncoded my_site (put_all (map spot paths) news view now) scope (set_all after m (all_places paths vars all))
    puts_hold [] [] all [] hold fit now m fits variables = variables
    puts_hold [] [] all (new ∷ news) hold fit now m fits variables = absurd hold
    puts_hold [] (var ∷ vars) all news hold fit now m fits variables = absurd all
    puts_hold (path ∷ paths) [] all news hold fit now m fits variables = absurd all
    puts_hold (path ∷ paths) (var ∷ vars) all [] hold fit now m fits variables = absurd hold
    puts_hold (path ∷ paths) (var ∷ vars) all (new ∷ news) hold fit now m fits variables =
        let o = all.0 in
        let root : ℕ = (spot path).root in
        let stored = pass_at (λ (var : Var). value_fits structs var.ty) unit.vars now root o.leads.var fits o.leads.is_there in
        let lies = o.leads.lies stored.0 stored.2 in
        let read : read_at root now o.leads.ks ≡ Some lies.0 = ap (option_and_then (part_at o.leads.ks)) stored.1 ∙ lies.1 in
        let made : List Value = with_element_at root o.leads.ks new now in
        let put : put_at root o.leads.ks new now ≡ Some made = put_at_is root o.leads.ks new now
        ∙ ap (option_map (λ found. with_element_at root o.leads.ks new now)) read in
        let whole : option_and_then (λ positions. put_at root positions new now) ((spot path).positions view) ≡ Some made =
        ap (option_and_then (λ positions. put_at root positions new now)) o.leads.positions ∙ put in
        let one : Fits structs var.ty new = and_first (value_fits structs var.ty new) (values_fit structs vars news) fit in
        let made_fits : values_fit structs unit.vars made ≡ true =
        subst (λ made. IfSome made (λ made. values_fit structs unit.vars made ≡ true)) whole
        (spot_put structs unit.vars view var.ty (spot path) new now o.path_fits one fits) in
        let next : VariablesEncoded my_site made scope (set_at m o.place (value_at after o.place)) =
        subst (λ place. VariablesEncoded my_site made scope (set_at m place (value_at after o.place))) (sym o.at)
        (writes structs units entry k unit scope m now made root o.leads.var o.leads.ks var.ty new (value_at after o.place) keeps (record {
          is_there = b.beside.is_there;
          fits = fits;
          variables = variables;
          apart = b.apart;
          known = o.leads.is_there;
          written = o.writable;
          typed = o.leads.typed;
          holds = hold.0;
          put = put;
        })) in
        subst (λ now. VariablesEncoded my_site (put_all (map spot paths) news view now) scope
        (set_all after (set_at m o.place (value_at after o.place)) (all_places paths vars all.1)))
        (sym (ap (λ made. unwrap_or made now) whole))
        (puts_hold paths vars all.1 news hold.1 (and_second (value_fits structs var.ty new) (values_fit structs vars news) fit) made
        (set_at m o.place (value_at after o.place)) made_fits next)

    -- what lies in no variable that may be written lies in no output
    outside : (root : Root) (way : List Projection) →
        ((j : ℕ) (var : Var) → var_at my_site j ≡ Some var → is_input var.role ≡ false
        → lies_in (location_in scope my_site j []) root way ≡ false) →
        (paths : List Path) (vars : List Var) (all : Outputs paths vars) → list_any (λ place. lies_in place root way) (all_places paths vars all) ≡ false
    outside root way none [] [] all = refl
    outside root way none [] (var ∷ vars) all = refl
    outside root way none (path ∷ paths) [] all = absurd all
    outside root way none (path ∷ paths) (var ∷ vars) all =
        let o = all.0 in
        ap₂ (λ a b. a || b)
        (ap (λ place. lies_in place root way) o.at
        ∙ lies_inside scope my_site (spot path).root (way_to structs o.leads.ks (Some o.leads.var.ty)) root way
        (none (spot path).root o.leads.var o.leads.is_there o.writable))
        (outside root way none paths vars all.1)

    left_in : (paths : List Path) (vars : List Var) (all : Outputs paths vars) (left : Left) (called : CallResult) → called.memory ≡ after →
        RepresentsAfterCall structs vars scope.depth (all_places paths vars all) here left called → values_fit structs vars left.outputs ≡ true →
        RepresentsAfter my_site copied scope here (put_all (map spot paths) left.outputs view view.now) view.before after
    left_in paths vars all left called is done fit =
        let places = all_places paths vars all in
        let kept : (root : Root) (way : List Projection) → is_live scope.depth root ≡ true → list_any (λ place. lies_in place root way) places ≡ false →
        after root way ≡ here root way = λ root way live none. ap (λ (m : Memory). m root way) (sym is) ∙ done.kept.each root way live none in
        let all_set = puts_hold paths vars all left.outputs (subst (λ m. OutputsEncoded structs m vars left.outputs places) is done.outputs) fit view.now here
        b.beside.fitting.now b.beside.variables in
        record {
          variables = record {
            each = λ j var value there stored.
                let at = location_in scope my_site j [] in
                holds_same structs var.ty value (value_at (set_all after here places) at) (value_at after at)
                (λ way. same_after after at.root (at.parts ++ way) places here
                (λ none. sym (kept at.root (at.parts ++ way) (b.beside.live.each j var there) none)))
                (all_set.each j var value there stored);
          };
          copies = record {
            each = λ j var value copied_j there stored.
                let at = copy_location scope my_site.vars j in
                holds_same structs var.ty value (value_at here at) (value_at after at)
                (λ way. sym (kept at.root (at.parts ++ way) (at_most_self_test scope.depth)
                (outside at.root (at.parts ++ way)
                (λ i other known writable. apart_lies (location_in scope my_site i []) at way (b.copies_apart.variables i j other known copied_j))
                paths vars all)))
                (b.beside.copies.each j var value copied_j there stored);
          };
          kept = λ root way foreign. kept root way foreign.live (outside root way foreign.variables paths vars all);
        }

  -- ---- calls that fit

  left_fits : (callee : UnitDef) (means : Callee) (f : ℕ) → slice_get (take k units) f ≡ Some callee → slice_get my_callees f ≡ Some means →
      (values : List Value) → values_fit structs (parameters_of callee) values ≡ true →
      IfSome (means values) (λ (left : Left). values_fit structs (outputs_of callee) left.outputs ≡ true)
  left_fits callee means f there meant values fit =
      let fits = subst (λ o. IfSome o (CalleeFits structs callee)) meant (callee_at structs (take k units) my_callees f callee sound.callees_fit there) in
      by (means values) (fits values fit)
    where
      by : (o : Option Left) → IfSome o (LeftFits structs callee) → IfSome o
          (λ (left : Left). values_fit structs (outputs_of callee) left.outputs ≡ true)
      by None h = tt
      by (Some left) h = h.0

  module _ (f : ℕ) (inputs : List Expr) (paths : List Path) (callee : UnitDef) (there : slice_get (take k units) f ≡ Some callee)
      (means : Callee) (meant : slice_get my_callees f ≡ Some means) (procedure : is_procedure callee ≡ true)
      (ins : types_match (map (type_of my_site) inputs) (inputs_of callee) ≡ true) (all : Outputs paths (outputs_of callee))
      (named : all_of (map (copied_in copied) inputs) ≡ true)
      (none : outputs_aliased (marked_inputs inputs) [] (map marked_path paths) ≡ []) where
    abbrev places : List Location
    places = all_places paths (outputs_of callee) all

    abbrev read : List Value
    read = all_values paths (outputs_of callee) all

    abbrev done : List ArgumentValue → CallResult
    done passed = applied (scope.known (unit_name callee.name)) (scope.depth + 1) (passed ++ map by_address places) here

    -- what the call comes to, from what its inputs come to
    abbrev outcome : Option (List Value) → Option (List Value)
    outcome values = option_and_then (λ values. option_map (λ (left : Left). put_all (map spot paths) left.outputs view view.now) (means values))
        (option_map (λ values. values ++ read) values)

    abbrev Done : Option (List Value) → Outcome Memory → Type 0
    Done values o = Simulates my_site copied scope here (λ now. view.before) (outcome values) o

    after_by : (values : List Value) (c : CallResult) (left : Option Left) → means (values ++ read) ≡ left →
        CallSimulates structs (outputs_of callee) scope.depth places here left c →
        IfSome left (λ (left : Left). values_fit structs (outputs_of callee) left.outputs ≡ true)
        → (o : Outcome Memory) → Ends o (call_after scope here c) →
        Simulates my_site copied scope here (λ now. view.before) (option_map (λ (left : Left). put_all (map spot paths) left.outputs view view.now) left) o
    after_by values c None is comes fit o ends = subst (λ r. Ends o (option_map (λ n. c.memory) r)) comes ends
    after_by values c (Some left) is comes fit o ends =
        let h : Ends o (Some c.memory) = subst (λ r. Ends o (option_map (λ n. c.memory) r)) comes.returned ends in
        (h.0, left_in o.memory paths (outputs_of callee) all left c (sym h.1) comes fit)

    call_by : (n : ℕ) (passed : Option (List ArgumentValue)) (values : Option (List Value))
        → (pass_all structs scope here (input_args inputs)).answer ≡ passed →
        ArgsShow structs scope here (inputs_of callee) passed values → IfSome values (λ values. values_fit structs (inputs_of callee) values ≡ true) →
        (o : Outcome Memory) →
        Ends o (call_after scope here (called_after scope here (unit_name callee.name) n (joined_answer passed (Some (map by_address places))))) →
        Done values o
    call_by n None None is shown fit o ends = ends
    call_by n None (Some values) is shown fit o ends = absurd shown
    call_by n (Some passed) None is shown fit o ends = absurd shown
    call_by n (Some passed) (Some values) is shown fit o ends =
        let given = outputs_fit structs units entry k unit view copies scope here keeps b paths (outputs_of callee) all in
        let comes = b.procedures.each f callee means values read passed places here there meant procedure fit given shown
        (outputs_hold structs units entry k unit view copies scope here keeps b paths (outputs_of callee) all)
        (may_pass structs units entry k unit view copies scope here keeps b inputs (inputs_of callee) passed ins named is paths (outputs_of callee) all none) in
        let whole : values_fit structs (parameters_of callee) (values ++ read) ≡ true =
        subst (λ vars. values_fit structs vars (values ++ read) ≡ true) (sym (take-add callee.inputs callee.outputs callee.vars))
        (pass_append (λ (var : Var). value_fits structs var.ty) (inputs_of callee) (outputs_of callee) values read fit given) in
        after_by values (done passed) (means (values ++ read)) refl comes (left_fits callee means f there meant (values ++ read) whole) o
        (subst (λ c. Ends o (call_after scope here c)) (applied_is callee.name n (passed ++ map by_address places)) ends)

    comes : Simulates my_site copied scope here (λ now. view.before) (outcome (values_of (map (meaning_of my_sees) inputs) view))
        (block_c (c_calling (call_made my_site f inputs paths) ∷ []) scope here)
    comes =
        let args = call_args my_site inputs paths in
        let ends : Ends (block_c (c_calling (c_call (unit_name callee.name) args) ∷ []) scope here)
        (call_after scope here (call_c (c_call (unit_name callee.name) args) scope here)) =
        one_ends scope here (c_calling (c_call (unit_name callee.name) args)) (call_after scope here (call_c (c_call (unit_name callee.name) args) scope here))
        (call_ends scope here (c_call (unit_name callee.name) args)) in
        let answer : (pass_all structs scope here args).answer
        ≡ joined_answer (pass_all structs scope here (input_args inputs)).answer (Some (map by_address places)) =
        pass_both (input_args inputs) (map (output_arg my_site) paths)
        ∙ ap (joined_answer (pass_all structs scope here (input_args inputs)).answer)
        (pass_outputs structs units entry k unit view copies scope here keeps b paths (outputs_of callee) all) in
        let n = (pass_all structs scope here args).count in
        let o = block_c (c_calling (c_call (unit_name callee.name) args) ∷ []) scope here in
        let call : Ends o (call_after scope here (called_after scope here (unit_name callee.name) n
        (joined_answer (pass_all structs scope here (input_args inputs)).answer (Some (map by_address places))))) =
        subst (λ passed. Ends o (call_after scope here (called_after scope here (unit_name callee.name) n passed))) answer
        (subst (λ c. Ends o (call_after scope here c)) (call-does scope here (unit_name callee.name) args) ends) in
        subst (λ name. Simulates my_site copied scope here (λ now. view.before) (outcome (values_of (map (meaning_of my_sees) inputs) view))
        (block_c (c_calling (c_call name args) ∷ []) scope here)) (sym (ap name_of_callee there))
        (call_by n (pass_all structs scope here (input_args inputs)).answer (values_of (map (meaning_of my_sees) inputs) view) refl
        (inputs_show inputs (inputs_of callee) ins named) (inputs_fit inputs (inputs_of callee) ins) o call)

    -- the call means that
    meant_is : call_of my_sees f inputs paths view ≡ outcome (values_of (map (meaning_of my_sees) inputs) view)
    meant_is =
        let put : Left → List Value = λ left. put_all (map spot paths) left.outputs view view.now in
        ap (option_and_then (outcome_of_call (map (meaning_of my_sees) inputs) (map spot paths) view)) meant
        ∙ ap (option_and_then (λ values. option_map put (means values)))
        (values_append (map (meaning_of my_sees) inputs) (map reading (map spot paths)) view
        ∙ (ap (λ read. option_and_then (λ vs. option_map (λ ws. vs ++ ws) read) (values_of (map (meaning_of my_sees) inputs) view))
        (outputs_read structs units entry k unit view copies scope here keeps b paths (outputs_of callee) all)
        ∙ by (values_of (map (meaning_of my_sees) inputs) view)))
      where
        by : (o : Option (List Value)) → option_and_then (λ vs. Some (vs ++ read)) o ≡ option_map (λ values. values ++ read) o
        by None = refl
        by (Some vs) = refl

    pub call_comes : Simulates my_site copied scope here (λ now. view.before) (call_of my_sees f inputs paths view)
        (block_c (c_calling (call_made my_site f inputs paths) ∷ []) scope here)
    call_comes = subst (λ made. Simulates my_site copied scope here (λ now. view.before) made
        (block_c (c_calling (call_made my_site f inputs paths) ∷ []) scope here)) (sym meant_is) comes

  pub called_comes : (f : ℕ) (inputs : List Expr) (paths : List Path) (callee : Option UnitDef) → slice_get (take k units) f ≡ callee →
      call_fits my_site inputs paths callee ≡ true → all_of (map (copied_in copied) inputs) ≡ true →
      all_of (map (copied_in_path copied) paths) ≡ true → aliases_of None inputs paths ≡ [] →
      Simulates my_site copied scope here (λ now. view.before) (call_of my_sees f inputs paths view)
      (block_c (c_calling (call_made my_site f inputs paths) ∷ []) scope here)
  called_comes f inputs paths None there fitted named path_named none = absurd (cc)
  called_comes f inputs paths (Some callee) there fitted named path_named none =
      let procedure = and_first (is_procedure callee) (arguments_fit my_site inputs paths callee) fitted in
      let fitting = and_second (is_procedure callee) (arguments_fit my_site inputs paths callee) fitted in
      let ins : types_match (map (type_of my_site) inputs) (inputs_of callee) ≡ true = and_first _ _ fitting in
      let outs : types_match (map (type_of_path my_site) paths) (outputs_of callee) ≡ true = and_first _ _ (and_second _ _ fitting) in
      let outlets : all_of (map (is_outlet my_site) paths) ≡ true = and_second _ _ (and_second _ _ fitting) in
      let means = callee_there structs (take k units) my_callees f callee sound.callees_fit there in
      call_comes f inputs paths callee there means.0 means.1 procedure ins
      (outputs_at structs units entry k unit view copies scope here keeps b paths (outputs_of callee) outs outlets path_named) named none
