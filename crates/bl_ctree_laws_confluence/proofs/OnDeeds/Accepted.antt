-- Accepted programs are orderly.
use Rattle.std.proofs.Common.{◌≡◌, ℕ, zero, ◌+◌, Bool, true, false, ◌&&◌, List, [], ◌∷◌, ◌++◌, map, take, Option, Some, None, refl, sym, ap, ◌∙◌, subst}
use Rattle.std.proofs.Common.{arith}
use Rattle.std.specs.List.{list_all}
use Rattle.std.specs.Prelude.{Contains, is_none, is_some, length, option_and_then, slice_get, if◌then◌else◌}
use Rattle.std.proofs.lemmas.Bool.{false_from_ne_true}
use Rattle.bl_tree.proofs.Basics.{all_of_each, and_first, and_second, contains_at}
use Rattle.bl_tree.specs.declared.rule.Rule.TheVariants as rule
use Rattle.bl_tree.specs.declared.tree.StructDef.{StructDef}
use Rattle.bl_tree.specs.declared.tree.Unit.{Unit as UnitDef}
use Rattle.bl_tree.specs.Apart.{is_apart}
use Rattle.bl_tree.specs.Depths.{is_shallow}
use Rattle.bl_tree.specs.Instant.{is_instant_block}
use Rattle.bl_tree.specs.Program.{IsWellTyped, is_entry, names_of, parameters_of, roles_stand, unit_stands}
use Rattle.bl_tree.specs.Reduce.{all_of, joined}
use Rattle.bl_tree.specs.Returns.{activity_returns, function_returns, unit_returns}
use Rattle.bl_tree.specs.Static.{overlaps}
use Rattle.bl_tree.specs.Types.{scalar_in, type_stands}
use Rattle.bl_tree.specs.Typing.{TypingContext, fits, is_activity, site_of}
use Rattle.bl_tree.specs.Words.{are_distinct, is_name}
use Rattle.bl_graph_nodes.proofs.Instants.{blocks_are_instant}
use Rattle.bl_effects.specs.Rules.{Passes, aliases_in}
use Rattle.bl_ctree.specs.declared.instance.Instance.{Instance}
use Rattle.bl_ctree.specs.Instances.{Setting, expanded, setting_of, runs_of, unit_at, unit_of}
use Rattle.bl_ctree_laws_confluence.specs.Deeds.Homes.{AreApart, OutputsAreApart}
use Rattle.bl_ctree_laws_confluence.specs.Deeds.Origins.{CalledBy, HasCaller}
use Rattle.bl_ctree_laws_confluence.specs.Deeds.Orderly.{AcceptedIsOrderly, OrderlyUnit}
use Rattle.bl_ctree_laws_confluence.proofs.OnDeeds.Aliases.{of_member, unit_outputs}
use Rattle.bl_ctree_laws_confluence.proofs.OnDeeds.Origins.{instances_have_callers_so}
use Rattle.bl_ctree_laws_confluence.proofs.OnDeeds.Activities.{AllOf, IsActivity, all_at, expanded_so}
use Rattle.bl_eval.proofs.UnitFits.{unit_at as unit_stands_at}

no_member : {A : Type 0} (xs : List A) → ((x : A) → Contains xs x → ⊥) → xs ≡ []
no_member [] none = refl
no_member (x ∷ xs) none = absurd (none x (zero, omega arith, refl))

-- what `unit_stands` says, one by one
pub record Standing (structs : List StructDef) (earlier : List UnitDef) (unit : UnitDef) : Type 0 where
  pub roles : roles_stand unit ≡ true
  pub typed : all_of (map (fits (site_of structs earlier unit)) unit.body) ≡ true
  pub returns : unit_returns unit ≡ true
  pub apart : list_all is_apart unit.body ≡ true

pub standing : (structs : List StructDef) (earlier : List UnitDef) (unit : UnitDef) → unit_stands structs earlier unit ≡ true → Standing structs earlier unit
standing structs earlier unit stands =
    let named : Bool = list_all is_name (names_of unit.vars) && are_distinct (names_of (parameters_of unit)) in
    let types : Bool = list_all (λ var. type_stands (length structs) var.ty) unit.vars in
    let fit : Bool = list_all (fits (site_of structs earlier unit)) unit.body in
    let flat : Bool = is_shallow 200 unit.body in
    let apart : Bool = list_all is_apart unit.body in
    let all : ((roles_stand unit && named) && (types && (fit && (unit_returns unit && (flat && apart))))) ≡ true = stands in
    let rest : (fit && (unit_returns unit && (flat && apart))) ≡ true =
    and_second types (fit && (unit_returns unit && (flat && apart)))
    (and_second (roles_stand unit && named) (types && (fit && (unit_returns unit && (flat && apart)))) all) in
    let last : (unit_returns unit && (flat && apart)) ≡ true = and_second fit (unit_returns unit && (flat && apart)) rest in
    record {
      roles = and_first (roles_stand unit) named
          (and_first (roles_stand unit && named) (types && (fit && (unit_returns unit && (flat && apart)))) all);
      typed = all_of_each (fits (site_of structs earlier unit)) unit.body (and_first fit (unit_returns unit && (flat && apart)) rest);
      returns = and_first (unit_returns unit) (flat && apart) last;
      apart = and_second flat apart (and_second (unit_returns unit) (flat && apart) last);
    }

activity_does : (unit : UnitDef) → is_activity unit.kind ≡ true → unit_returns unit ≡ true → activity_returns unit ≡ true
activity_does unit is returns = by_kind (is_activity unit.kind) is returns
  where
    by_kind : (b : Bool) → b ≡ true → (if b then activity_returns unit else function_returns unit) ≡ true → activity_returns unit ≡ true
    by_kind true e r = r
    by_kind false e r = absurd cc

pub entry_is : (units : List UnitDef) (entry : ℕ) (found : Option UnitDef) → slice_get units entry ≡ found → is_entry found ≡ true →
    IsActivity units entry
entry_is units entry None there is = absurd cc
entry_is units entry (Some unit) there is = record {
  unit = unit;
  there = there;
  activity =
      and_first (is_activity unit.kind) (is_none unit.result && list_all (λ var. is_some (scalar_in var.ty)) (parameters_of unit)) is;
}

module _ (structs : List StructDef) (units : List UnitDef) (entry : ℕ) (keeps : IsWellTyped structs units entry) (passes : Passes units) where
  abbrev W : Setting
  W = setting_of structs units entry

  stands_at : (k : ℕ) (unit : UnitDef) → slice_get units k ≡ Some unit → Standing structs (take k units) unit
  stands_at k unit there = standing structs (take k units) unit (unit_stands_at structs [] units k unit keeps.units_stand there)

  typed_at : (k : ℕ) (unit : UnitDef) → slice_get units k ≡ Some unit → (site : TypingContext) × (site.earlier ≡ take k units)
      × (all_of (map (fits site) unit.body) ≡ true)
  typed_at k unit there = (site_of structs (take k units) unit, refl, (stands_at k unit there).typed)

  orderly_at : (k : ℕ) (unit : UnitDef) → slice_get units k ≡ Some unit → is_activity unit.kind ≡ true → OrderlyUnit structs units unit
  orderly_at k unit there activity =
      let stands = stands_at k unit there in
      let found : Contains units unit = contains_at units k unit there in
      record {
        is_there = found;
        activity = activity;
        roles = stands.roles;
        earlier = take k units;
        typed = stands.typed;
        pauses = false_from_ne_true (is_instant_block unit.body) (λ ends. passes rule.Pause unit.place []
            (record { unit = unit; is_there = found; activity = activity; ends = ends; at_name = refl; alone = refl }));
        conflicts = λ split first second var in_unit in_earlier in_later declared.
            false_from_ne_true (overlaps first.path second.path) (λ over. passes rule.Conflict first.place (second.place ∷ var.place ∷ [])
            (record {
              unit = unit;
              is_there = found;
              split = split;
              stands = in_unit;
              first = first;
              in_earlier = in_earlier;
              second = second;
              in_later = in_later;
              overlap = over;
              var = var;
              declared = declared;
              at_first = refl;
              at_second = refl;
            }));
        aliases = no_member (joined (map aliases_in unit.body)) (λ aliased fails. passes rule.Alias aliased.at (aliased.also ∷ [])
            (record { unit = unit; is_there = found; aliased = aliased; fails = fails; at_one = refl; at_other = refl }));
        apart = stands.apart;
        returns = activity_does unit activity stands.returns;
        runs = λ outer s t j k in_body one other same.
            keeps.runs_decide.apart outer s t j k (record { unit = unit; is_there = found; stands = in_body }) one other same;
      }

  instances_are : AllOf (λ instance. IsActivity units instance.unit) (expanded units (entry + 1) entry)
  instances_are = expanded_so units typed_at (entry + 1) entry (entry_is units entry (slice_get units entry) refl keeps.entry_stands)

  by_instance : (i : ℕ) (unit : UnitDef) (found : Option Instance) → slice_get W.instances i ≡ found →
      option_and_then (unit_of W) found ≡ Some unit →
      OrderlyUnit structs units unit
  by_instance i unit None there is = absurd cc
  by_instance i unit (Some instance) there is =
      let a = all_at (λ instance. IsActivity units instance.unit) W.instances i instance instances_are there in
      let both : Some a.unit ≡ Some unit = sym a.there ∙ is in
      let same : a.unit ≡ unit = cc in
      orderly_at instance.unit unit is (subst (λ unit. is_activity unit.kind ≡ true) same a.activity)

  each_orderly : (i : ℕ) (unit : UnitDef) → unit_at W i ≡ Some unit → OrderlyUnit structs units unit
  each_orderly i unit is = by_instance i unit (slice_get W.instances i) refl is

  outputs_are_apart : OutputsAreApart W
  outputs_are_apart i instance origin there began =
      let called : CalledBy units W.instances i instance origin =
      subst (HasCaller units entry W.instances i instance) began (instances_have_callers_so units entry i instance there) in
      let at_caller : unit_at W origin.caller ≡ Some called.unit = ap (option_and_then (unit_of W)) called.there ∙ called.body in
      let within = called.runs.1 in
      subst AreApart (sym called.outputs)
      (of_member (λ run. AreApart run.outputs) (runs_of called.unit) called.runs.0 called.run
      (unit_outputs called.unit (each_orderly origin.caller called.unit at_caller).aliases) within called.runs.2)

pub accepted_is_orderly : AcceptedIsOrderly
accepted_is_orderly structs units entry keeps passes = record {
  each = each_orderly structs units entry keeps passes;
  paces = λ i unit is. blocks_are_instant unit.body [] ∙ (each_orderly structs units entry keeps passes i unit is).pauses;
  fitted = λ i unit is.
      let orderly = each_orderly structs units entry keeps passes i unit is in
      record { site = site_of structs orderly.earlier unit; each = orderly.typed };
  outputs = outputs_are_apart structs units entry keeps passes;
}
