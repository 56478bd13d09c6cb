-- What is known before the items that are still to come, and what is made of them.
use Rattle.std.proofs.Common.{◌≡◌, ℕ, ◌+◌, true, List, [], ◌∷◌, ◌++◌, length, map, Some, refl, sym, ap, subst, ◌∙◌, append-nil, arith}
use Rattle.std.specs.Prelude.{slice_get}
use Rattle.std.specs.List.{list_all}
use Rattle.std.proofs.lemmas.List.{length-append}
use Rattle.bl_tree.specs.declared.tree.StructDef.{StructDef}
use Rattle.bl_tree.specs.declared.tree.Unit.{Unit as UnitDef}
use Rattle.bl_tree.specs.Program.{is_entry, structs_stand_from, units_stand_after}
use Rattle.bl_tree.specs.Reduce.{joined}
use Rattle.bl_names_tree.specs.declared.item.Item.TheVariants as kind
use Rattle.bl_names_tree.specs.declared.item.NamedConstant.{NamedConstant}
use Rattle.bl_names_tree.specs.declared.item.NamedStruct.{NamedStruct}
use Rattle.bl_names_tree.specs.declared.item.NamedUnit.{NamedUnit}
use Rattle.bl_names_tree.specs.declared.named.Named.{Named}
use Rattle.bl_names_tree.specs.Placed.{DeclaredBefore}
use Rattle.bl_names_tree.specs.Starts.{unit_starts as named_starts}
use Rattle.bl_names_scopes.specs.Marks.{marks_of}
use Rattle.bl_names_scopes.specs.Scopes.{Scopes}
use Rattle.bl_names_laws.specs.WellFormed.{struct_stands as struct_keeps, unit_stands as unit_keeps}
use Rattle.bl_parse_tree.specs.declared.item.RawItem.{RawItem}
use Rattle.bl_names.specs.Named.{along, constants_of, structs_of, units_of}
use Rattle.bl_names.specs.Order.{kind_of_item, order_of}
use Rattle.bl_names.proofs.BelowLemmas.{Below}
use Rattle.bl_names.proofs.FitLemmas.{Fits}
use Rattle.bl_names.proofs.PlacedExpr.{earlier}
use Rattle.bl_types.specs.declared.environment.Environment.{Environment}
use Rattle.bl_types.specs.Declarations.{Declaring, after_constant, after_struct}
use Rattle.bl_types.specs.Programs.{after_item, after_items, after_next}
use Rattle.bl_types.specs.Units.{after_unit, drives}
use Rattle.bl_types_laws.specs.Standing.{BetweenUnits, are_shallow}
use Rattle.bl_types_laws.specs.Within.{known_in}
use Rattle.bl_types_laws.proofs.Ends.{Ends, ends_next}
use Rattle.bl_types_laws.proofs.Occurrences.{unit_starts}
use Rattle.bl_types_laws.proofs.Starts.{Picked, none as none_picked}

pub same_counts : (env : Environment) (new : Scopes) → length env.structs ≡ new.counts.structs → length env.constants ≡ new.counts.constants →
    length env.units ≡ new.counts.units → length env.vars ≡ new.counts.variables → known_in env ≡ earlier new
same_counts env new structs constants units vars = λ i. record { structs = structs i; constants = constants i; units = units i; variables = vars i }

pub no_more : (a b c : ℕ) → a ≡ b → c ≡ b + 0 → a ≡ c
no_more a b c one two = omega arith

pub one_more : {A : Type 0} (xs : List A) (x : A) (b c : ℕ) → length xs ≡ b → c ≡ b + 1 → length (xs ++ x ∷ []) ≡ c
one_more xs x b c one two = let both : length (xs ++ x ∷ []) ≡ length xs + 1 = length-append xs (x ∷ []) in omega arith

-- the items that are still to come, and what is known before them
pub record At (named : Named) (scopes : Scopes) (items : List RawItem) (env : Environment) : Type 0 where
  pub below : Below scopes
  pub none : scopes.counts.variables ≡ 0
  pub fits : Fits scopes (marks_of items)
  pub structs : Ends named.structs scopes.counts.structs (along structs_of scopes items)
  pub constants : Ends named.constants scopes.counts.constants (along constants_of scopes items)
  pub units : Ends named.units scopes.counts.units (along units_of scopes items)
  pub counts : known_in env ≡ earlier scopes
  pub between : BetweenUnits env
  pub kinds : map (λ (unit : UnitDef). unit.kind) env.units ≡ map (λ (unit : NamedUnit). unit.kind) units.before

-- what is made of the items that are still to come
pub record Made (scopes : Scopes) (items : List RawItem) (env final : Environment) : Type 0 where
  pub later : List StructDef
  pub structs : final.structs ≡ env.structs ++ later
  pub structs_stand : structs_stand_from (length env.structs) later ≡ true
  pub struct_names : map (λ (def : StructDef). def.name) later ≡ map (λ (def : NamedStruct). def.name.text) (along structs_of scopes items)
  pub more : List UnitDef
  pub units : final.units ≡ env.units ++ more
  pub units_stand : units_stand_after final.structs env.units more ≡ true
  pub shallow : are_shallow more ≡ true
  pub unit_names : map (λ (unit : UnitDef). unit.name) more ≡ map (λ (unit : NamedUnit). unit.name.text) (along units_of scopes items)
  pub driven : (k : ℕ) (unit : NamedUnit) → slice_get (along units_of scopes items) k ≡ Some unit → drives unit ≡ true →
      is_entry (slice_get more k) ≡ true
  pub starts : Picked (joined (map unit_starts more)) (joined (map named_starts (along units_of scopes items)))

module _ (named : Named) where
  -- ---- what is next is the first of what is to come

  module _ (scopes : Scopes) (items : List RawItem) (env : Environment) (at : At named scopes items env) where
    pub struct_next : (def : NamedStruct) → slice_get (along structs_of scopes items) 0 ≡ Some def →
        after_item named kind.Struct env ≡ after_struct def env
    struct_next def first =
        ap (λ next. after_next after_struct next env)
        (ap (λ (e : DeclaredBefore). slice_get named.structs e.structs) at.counts
        ∙ ends_next named.structs scopes.counts.structs (along structs_of scopes items) at.structs ∙ first)

    pub constant_next : (def : NamedConstant) → slice_get (along constants_of scopes items) 0 ≡ Some def →
        after_item named kind.Constant env ≡ after_constant def env
    constant_next def first =
        ap (λ next. after_next after_constant next env)
        (ap (λ (e : DeclaredBefore). slice_get named.constants e.constants) at.counts
        ∙ ends_next named.constants scopes.counts.constants (along constants_of scopes items) at.constants ∙ first)

    pub unit_next : (def : NamedUnit) → slice_get (along units_of scopes items) 0 ≡ Some def →
        after_item named kind.Unit env ≡ after_unit named.constants def env
    unit_next def first =
        ap (λ next. after_next (after_unit named.constants) next env)
        (ap (λ (e : DeclaredBefore). slice_get named.units e.units) at.counts ∙ ends_next named.units scopes.counts.units (along units_of scopes items) at.units
        ∙ first)

  -- ---- one item after another

  -- what is to be shown of the items that are still to come
  abbrev pub Induction : List RawItem → Type 0
  Induction items = (scopes : Scopes) (env : Environment) → At named scopes items env →
      list_all struct_keeps (along structs_of scopes items) ≡ true → list_all unit_keeps (along units_of scopes items) ≡ true →
      (after_items named (order_of items) env).failures ≡ [] → Made scopes items env (after_items named (order_of items) env).env

  nothing_there : (k : ℕ) (unit : NamedUnit) → slice_get [] k ≡ Some unit → ⊥
  nothing_there k unit is = absurd (cc)

  pub none_turn : Induction []
  none_turn scopes env at keep_structs keep_units none = record {
    later = [];
    structs = sym (append-nil env.structs);
    structs_stand = refl;
    struct_names = refl;
    more = [];
    units = sym (append-nil env.units);
    units_stand = refl;
    shallow = refl;
    unit_names = refl;
    driven = λ k unit is drives. absurd (nothing_there k unit is);
    starts = none_picked;
  }

  -- the first of the items taken, what is made of the others is to be shown
  pub first_taken : (one : RawItem) (items : List RawItem) (scopes : Scopes) (env : Environment) (first : Declaring) →
      after_item named (kind_of_item one) env ≡ first →
      (first.failures ++ (after_items named (order_of items) first.env).failures ≡ [] →
      Made scopes (one ∷ items) env (after_items named (order_of items) first.env).env) →
      (after_items named (order_of (one ∷ items)) env).failures ≡ [] →
      Made scopes (one ∷ items) env (after_items named (order_of (one ∷ items)) env).env
  first_taken one items scopes env first is shown =
      subst
      (λ (first : Declaring).
      first.failures ++ (after_items named (order_of items) first.env).failures ≡ [] →
      Made scopes (one ∷ items) env (after_items named (order_of items) first.env).env)
      (sym is) shown
