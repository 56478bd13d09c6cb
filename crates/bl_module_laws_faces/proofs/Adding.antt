-- What a walk over the items of a face is to show.
use Rattle.std.proofs.Common.{◌≡◌, ℕ, ◌+◌, ◌≤◌, true, List, [], ◌∷◌, ◌++◌, length, map, Some, None, sym, ap, subst, ◌∙◌, append_assoc}
use Rattle.std.specs.Prelude.{nat_le, slice_get, slice_index}
use Rattle.std.specs.List.{list_all}
use Rattle.std.proofs.lemmas.List.{length-append, length-map, map-append}
use Rattle.std.proofs.lemmas.Bool.{and_from}
use Rattle.bl_face.specs.declared.item.FaceItem.{FaceItem}
use Rattle.bl_limits_measures.specs.Types.{nesting_by, struct_nestings}
use Rattle.bl_module.specs.Behind.{after_item as walk_on, after_items as walk_over, item_stands, items_stand}
use Rattle.bl_module.specs.declared.own.Next.{Next}
use Rattle.bl_module.specs.declared.walk.Walk.{Walk}
use Rattle.bl_module.specs.Own.{items_from}
use Rattle.bl_module_laws_faces.proofs.Fresh.{Fresh, fresh_second}
use Rattle.bl_module_laws_faces.proofs.Here.{Here}
use Rattle.bl_module_laws_faces.proofs.Scoped.{NamesAgree}
use Rattle.bl_module_laws_faces.specs.Declared.{face_heading}
use Rattle.bl_names.proofs.StillLemmas.{Still}
use Rattle.bl_names.specs.Order.{kind_of_item, order_of}
use Rattle.bl_names_scopes.specs.Marks.{Marks, declares}
use Rattle.bl_names_scopes.specs.Scopes.{Scopes, found}
use Rattle.bl_names_tree.specs.declared.named.Named.{Named}
use Rattle.bl_parse_tree.specs.declared.item.RawItem.{RawItem}
use Rattle.bl_parse_tree.specs.declared.name.Name.{Name}
use Rattle.bl_tree.specs.declared.tree.StructDef.{StructDef}
use Rattle.bl_tree.specs.declared.tree.Unit.{Unit as UnitDef}
use Rattle.bl_tree.specs.declared.tree.Var.{Var}
use Rattle.bl_types.specs.declared.environment.Environment.{Environment}
use Rattle.bl_types.specs.declared.environment.Known.{Known}
use Rattle.bl_types.specs.Declarations.{Declaring}
use Rattle.bl_types.specs.Programs.{after_item, after_items, global_at, globals_of}
use Rattle.bl_types_laws_places.specs.Agree.{SameHeads, SameStructs}
use Rattle.bl_names_scopes.specs.declared.kind.Kind.{Kind}

-- ---- what is next

-- the positions of what comes behind so much
abbrev pub next_at : Environment → Walk → Next
next_at env walk = record { structs = length env.structs; constants = length walk.behind.constants; units = length env.units }

pub same_long : {A B : Type 0} (f : A → B) (xs ys : List A) → map f xs ≡ map f ys → length xs ≡ length ys
same_long f xs ys same = sym (length-map xs f) ∙ ap length same ∙ length-map ys f

pub one_behind : {A : Type 0} (xs : List A) (x : A) → length xs + 1 ≡ length (xs ++ x ∷ [])
one_behind xs x = sym (length-append xs (x ∷ []))

-- more of the same
pub pushed : {A B : Type 0} (f : A → B) (xs ys : List A) (x y : A) → map f xs ≡ map f ys → f x ≡ f y → map f (xs ++ x ∷ []) ≡ map f (ys ++ y ∷ [])
pushed f xs ys x y same one = map-append f xs (x ∷ []) ∙ (λ i. same i ++ one i ∷ []) ∙ sym (map-append f ys (y ∷ []))

-- a name that is declared behind such marks is new
pub absent_behind : (scopes : Scopes) (marks : Marks) (name : Name) (of : Kind) → Still marks → Fresh scopes (marks ++ declares name of ∷ []) →
    found scopes.inner name.text ≡ None
absent_behind scopes marks name of still fresh =
    ap (λ (s : Scopes). found s.inner name.text) (sym (still scopes)) ∙ (fresh_second scopes marks (declares name of ∷ []) fresh).0

-- ---- the items one after another

module _ (named : Named) (known : Known) (from_structs from_units : ℕ) where
  abbrev pub depths : List ℕ
  depths = struct_nestings known.structs

  -- own structs and the variables of own units are nested at most 100 deep
  pub record Shallow : Type 0 where
    pub structs : (k : ℕ) (def : StructDef) → from_structs ≤ k → slice_get known.structs k ≡ Some def → slice_index depths k ≤ 100
    pub units : (k : ℕ) (unit : UnitDef) → from_units ≤ k → slice_get known.units k ≡ Some unit →
        list_all (λ (var : Var). nat_le (nesting_by depths var.ty) 100) unit.vars ≡ true

  -- what a walk over faces knows is what is known before the items that are still to come
  pub record Agrees (scopes : Scopes) (env : Environment) (walk : Walk) : Type 0 where
    pub names : NamesAgree depths (length env.structs) walk.names scopes
    pub structs : SameStructs walk.behind.structs env.structs
    pub units : SameHeads walk.behind.units env.units
    pub own_structs : from_structs ≤ length env.structs
    pub own_units : from_units ≤ length env.units

  -- items of a face stand, and declare the names of the items and what is known in the end
  pub record Adds (items : List RawItem) (walk : Walk) (face : List FaceItem) : Type 0 where
    pub stand : items_stand walk face ≡ true
    pub headings : (walk_over walk face).behind.headings ≡ walk.behind.headings ++ map face_heading items
    pub structs : SameStructs (walk_over walk face).behind.structs known.structs
    pub constants : (walk_over walk face).behind.constants ≡ known.globals
    pub units : SameHeads (walk_over walk face).behind.units known.units

  pub adds_first : (one : RawItem) (items : List RawItem) (walk : Walk) (first : FaceItem) (rest : List FaceItem) → item_stands walk.names first ≡ true →
      (walk_on walk first).behind.headings ≡ walk.behind.headings ++ face_heading one ∷ [] → Adds items (walk_on walk first) rest →
      Adds (one ∷ items) walk (first ∷ rest)
  adds_first one items walk first rest stands heading adds = record {
    stand = and_from (item_stands walk.names first) (items_stand (walk_on walk first) rest) stands adds.stand;
    headings = adds.headings ∙ ap (λ l. l ++ map face_heading items) heading
        ∙ append_assoc walk.behind.headings (face_heading one ∷ []) (map face_heading items);
    structs = adds.structs;
    constants = adds.constants;
    units = adds.units;
  }

  -- what is to be shown of the items that are still to come
  abbrev pub Adding : List RawItem → Type 0
  Adding items = (scopes : Scopes) (env : Environment) (walk : Walk) → Here named scopes items env → Agrees scopes env walk →
      (after_items named (order_of items) env).failures ≡ [] → known.structs ≡ (after_items named (order_of items) env).env.structs →
      known.units ≡ (after_items named (order_of items) env).env.units →
      known.globals ≡ walk.behind.constants ++ globals_of named (order_of items) env → Adds items walk (items_from known (next_at env walk) items)

  -- where the first item gives this
  abbrev pub First : RawItem → List RawItem → Environment → Walk → Declaring → Type 0
  First one items env walk first = first.failures ++ (after_items named (order_of items) first.env).failures ≡ [] →
      known.structs ≡ (after_items named (order_of items) first.env).env.structs → known.units ≡ (after_items named (order_of items) first.env).env.units →
      known.globals ≡ walk.behind.constants ++ (global_at (kind_of_item one) (length env.constants) first.env.constants
      ++ globals_of named (order_of items) first.env) →
      Adds (one ∷ items) walk (items_from known (next_at env walk) (one ∷ items))

  pub by_first : (one : RawItem) (items : List RawItem) (env : Environment) (walk : Walk) (first : Declaring) →
      after_item named (kind_of_item one) env ≡ first → First one items env walk first →
      First one items env walk (after_item named (kind_of_item one) env)
  by_first one items env walk first is = subst (First one items env walk) (sym is)
