-- In accepted programs branches are independent, so there is at most one trace.
use Rattle.std.proofs.Common.{◌≡◌, ◌⊎◌, inl, inr, ℕ, Bool, true, [], Option, Some, None, refl, sym, ◌∙◌, subst}
use Rattle.std.specs.Prelude.{option_map, unwrap_or}
use Rattle.bl_tree.specs.declared.place.Place.{Place}
use Rattle.bl_tree.specs.declared.tree.Unit.{Unit as UnitDef}
use Rattle.bl_effects.proofs.SetLemmas.{overlaps_symm}
use Rattle.bl_graph_nodes.specs.Plain.{Block, Bodies, Label, Plain, Body as BodyOf, Cobegin, Done, Then}
use Rattle.bl_ctree.specs.Actions.{Effect, Silent}
use Rattle.bl_ctree.specs.Instances.{Setting, setting_of, unit_at}
use Rattle.bl_ctree.specs.Positions.{body_items}
use Rattle.bl_ctree_laws.specs.Bridge.{plain_items}
use Rattle.bl_ctree_laws.specs.Ends.{Independent}
use Rattle.bl_ctree_laws.specs.Laws.{StatementsArePlain}
use Rattle.bl_ctree_laws.specs.Residual.{here, of_last, of_par}
use Rattle.bl_ctree_laws.specs.Pending.{Deed}
use Rattle.bl_ctree_laws.specs.Runs.{TracesAreOne, entry_block}
use Rattle.bl_ctree_laws.specs.Steps.{fork, in_par}
use Rattle.bl_ctree_laws.specs.Trees.{Trees, Par}
use Rattle.bl_ctree_laws_confluence.specs.Deeds.Orderly.{Orderly}
use Rattle.bl_ctree_laws_confluence.proofs.OnDeeds.Accepted.{accepted_is_orderly}
use Rattle.bl_ctree_laws_confluence.proofs.OnDeeds.Plans.{deeds_are_independent_so}
use Rattle.bl_ctree_laws_confluence.specs.Apart.Forks.{EachForkIn, Foreign}
use Rattle.bl_ctree_laws_confluence.specs.Apart.Owned.{HasEffect, RunsAt, SomeIn, SomeInEach}
use Rattle.bl_ctree_laws_confluence.specs.Apart.Parted.{AllKeepApart, BranchStep, OneSteps, StandApart, TwoBranches}
use Rattle.bl_ctree_laws_confluence.specs.Apart.Outputs.{RunsWith}
use Rattle.bl_ctree_laws_confluence.specs.Apart.Returns.{Returns}
use Rattle.bl_ctree_laws_confluence.specs.Apart.Writing.{StatementWrites}
use Rattle.bl_ctree_laws_confluence.proofs.OnApart.Named.{not_one}
use Rattle.bl_ctree_laws_confluence.proofs.OnApart.Parted.{accepted_keeps_apart_so, apart_is_two_branches_so}
use Rattle.bl_ctree_laws_confluence.specs.Independent.Accepted.{AcceptedIsIndependent, AcceptedTracesAreOne, TwoAreIndependent}
use Rattle.bl_ctree_laws_confluence.specs.Independent.Sides.{KeptApart, Side}
use Rattle.bl_ctree_laws_confluence.proofs.OnIndependent.Sparing.{sides_spare_so}

-- ---- the further branches as one body

abbrev label : Label
label = record { position = []; passed = 0 }

abbrev place : Place
place = record { start = 0; end = 0 }

-- a `cobegin` of them, wherever it stands
abbrev forked : Bodies → Block
forked rest = Then (Cobegin label place rest) Done

unforked : (P : Plain → Type 0) (rest : Bodies) → (P (Cobegin label place rest) → ⊥) → SomeIn P (forked rest) → SomeInEach P rest
unforked P rest never (inl (inl own)) = absurd (never own)
unforked P rest never (inl (inr some)) = some
unforked P rest never (inr none) = absurd none

forked_steps : {w : Setting} {stood : Bool} {i : ℕ} {rest : Bodies} {branches : Trees} {a : Deed} → OneSteps w stood i rest branches a →
    BranchStep w stood i (forked rest) (Par (fork label place rest) stood branches) a
forked_steps {rest = rest} {branches = branches} one = record {
  left = of_last here (of_par (λ is. is) one.left);
  answer = one.answer;
  label = one.label;
  after = Par (fork label place rest) _ one.after;
  moves = in_par one.moves;
}

-- ---- two branches

silent_foreign : (e : Effect) → Foreign e Silent × Foreign Silent e
silent_foreign e = ((λ k declared named. not_one k declared), (λ k declared named. not_one k named))

module _ (w : Setting) (i : ℕ) (weak : Bool) (body : Block) (rest : Bodies) (apart : StandApart w i (BodyOf weak body rest)) where
  one_side : Side w i body
  one_side = record {
    returns = λ some. apart.returns (inl some);
    outputs = λ at outputs callee some. apart.outputs at outputs callee (inl some);
  }

  other_side : Side w i (forked rest)
  other_side = record {
    returns = λ some. apart.returns (inr (unforked Returns rest (λ none. none) some));
    outputs = λ at outputs callee some. apart.outputs at outputs callee (inr (unforked (RunsWith at outputs) rest (λ none. none) some));
  }

  names_apart : (effect effect' : Effect) → SomeIn (HasEffect w i effect) body → SomeIn (HasEffect w i effect') (forked rest) →
      Foreign effect effect' × Foreign effect' effect
  names_apart effect effect' one (inl (inl is)) =
      subst (λ effect'. Foreign effect effect' × Foreign effect' effect) (sym is) (silent_foreign effect)
  names_apart effect effect' one (inl (inr some)) = apart.names.0 w i effect effect' one some
  names_apart effect effect' one (inr none) = absurd none

  kept_apart : KeptApart w i body (forked rest)
  kept_apart = record {
    runs = λ at one other. apart.runs.0 at one (unforked (RunsAt at) rest (λ none. none) other);
    writes = λ path path' one other. apart.writes.0 path path' one (unforked (StatementWrites path') rest (λ none. none) other);
    names = names_apart;
  }

turned : {w : Setting} {i : ℕ} {one other : Block} → KeptApart w i one other → KeptApart w i other one
turned apart = record {
  runs = λ at x y. apart.runs at y x;
  writes = λ path path' x y. overlaps_symm path path' ∙ apart.writes path' path y x;
  names = λ effect effect' x y. let both = apart.names effect' effect y x in (both.1, both.0);
}

pub two_are_independent_so : TwoAreIndependent
two_are_independent_so structs units entry a b keeps passes two =
    let w : Setting = setting_of structs units entry in
    let i : ℕ = two.instance in
    let outputs = (accepted_is_orderly structs units entry keeps passes).outputs in
    let one : Side w i two.body = one_side w i two.weak two.body two.rest two.apart in
    let other : Side w i (forked two.rest) = other_side w i two.weak two.body two.rest two.apart in
    let apart : KeptApart w i two.body (forked two.rest) = kept_apart w i two.weak two.body two.rest two.apart in
    let second = forked_steps two.second in
    let there = sides_spare_so structs units entry two.stood two.stood i two.body (forked two.rest) two.tree
    (Par (fork label place two.rest) two.stood two.others) a b keeps outputs one other apart two.first second two.second_unmet in
    let back = sides_spare_so structs units entry two.stood two.stood i (forked two.rest) two.body
    (Par (fork label place two.rest) two.stood two.others) two.tree b a keeps outputs other one (turned apart) second two.first two.first_unmet in
    (deeds_are_independent_so w a b there back, deeds_are_independent_so w b a back there)

-- ---- trees

entry_apart : (w : Setting) → StatementsArePlain → AllKeepApart w → EachForkIn (StandApart w 0) (entry_block w)
entry_apart w plain all = by_unit (unit_at w 0) refl
  where
    by_unit : (found : Option UnitDef) → unit_at w 0 ≡ found →
        EachForkIn (StandApart w 0) (plain_items (unwrap_or (option_map (λ unit. body_items unit.body) found) []))
    by_unit None is = tt
    by_unit (Some unit) is = subst (EachForkIn (StandApart w 0)) (plain.blocks unit.body []) (all 0 unit is)

pub accepted_is_independent : StatementsArePlain → AcceptedIsIndependent
accepted_is_independent plain structs units entry stood keeps passes c a b left apart =
    by_side (apart_is_two_branches_so w stood 0 (entry_block w) c a b all (entry_apart w plain all) left apart)
  where
    w : Setting
    w = setting_of structs units entry

    all : AllKeepApart w
    all = accepted_keeps_apart_so structs units entry keeps passes

    by_side : TwoBranches w a b ⊎ TwoBranches w b a → Independent w a b
    by_side (inl two) = (two_are_independent_so structs units entry a b keeps passes two).0
    by_side (inr two) = (two_are_independent_so structs units entry b a keeps passes two).1

pub accepted_traces_are_one : StatementsArePlain → TracesAreOne → AcceptedTracesAreOne
accepted_traces_are_one plain traces structs units entry rows one other keeps passes means means' =
    let orderly : Orderly structs units (setting_of structs units entry) = accepted_is_orderly structs units entry keeps passes in
    traces structs units entry rows one other orderly.fitted orderly.paces
    (accepted_is_independent plain structs units entry true keeps passes) means means'
