-- The structs of a program's types stand in its file.
use Rattle.std.proofs.Common.{◌≡◌, ◌⊎◌, inl, inr, ⊎_elim, ℕ, ◌+◌, ◌≤◌, Bool, true, false, ◌||◌}
use Rattle.std.proofs.Common.{List, [], ◌∷◌, ◌++◌, Contains}
use Rattle.std.proofs.Common.{map, Option, Some, None, refl, sym, ap, subst, ◌∙◌, arith, codes}
use Rattle.std.proofs.lemmas.List.Elements.{Contains-append_left, Contains-append_right}
use Rattle.std.proofs.lemmas.List.Folds.{list_any-append}
use Rattle.std.proofs.lemmas.Option.{same_Some}
use Rattle.std.proofs.lemmas.Slice.Eq.{bytes_eq-Decides}
use Rattle.std.specs.Prelude.{bytes_eq, option_and_then, option_map, slice_get, if◌then◌else◌}
use Rattle.bl_tree.proofs.Basics.{contains_at, contains_first, contains_further, first_or_further}
use Rattle.bl_tree.specs.declared.c.CStruct.{CStruct}
use Rattle.bl_tree.specs.declared.text.Text.{Text}
use Rattle.bl_tree.specs.declared.tree.Field.{Field}
use Rattle.bl_tree.specs.declared.tree.StructDef.{StructDef}
use Rattle.bl_tree.specs.declared.tree.Ty.{Ty, out-Ty}
use Rattle.bl_tree.specs.declared.tree.Ty.TheOpen.{Ty-F}
use Rattle.bl_tree.specs.declared.tree.Unit.{Unit as UnitDef}
use Rattle.bl_tree.specs.declared.tree.Var.{Var}
use Rattle.bl_tree.specs.Program.{IsWellTyped}
use Rattle.bl_tree.specs.Reduce.{joined}
use Rattle.bl_limits_measures.specs.Types.{nesting, struct_nestings}
use Rattle.bl_emit_acts.specs.Structs.{c_array, c_definition}
use Rattle.bl_emit_acts.specs.Types.{type_name}
use Rattle.bl_emit_acts_laws_simulation.specs.Encodes.{part_level, part_type, type_after}
use Rattle.bl_emit_acts_laws_wellformed.proofs.OnFormed.Parts.{name_at}
use Rattle.bl_emit_spec_laws_files.specs.States.States.{TypeDeclared}
use Rattle.bl_emit_structs.specs.Structs.{arrays_of, each_once, structs_for, structs_for_definition, structs_for_unit}
use Rattle.bl_emit_structs.proofs.Steps.{array_is}
use Rattle.bl_emit_structs_laws_wellformed.specs.Names.{TypesApart}
use Rattle.bl_emit_structs_laws_wellformed.specs.Formed.{NestsAtMost}
use Rattle.bl_emit_structs_laws_wellformed.proofs.OnFormed.Levels.{nesting_at}
use Rattle.bl_emit_structs_laws_wellformed.proofs.OnFormed.Types.{StructOf, all_are, struct_level}
use Rattle.bl_emit_laws.proofs.OnKept.Lists.{each_few, index_few, sum}
use Rattle.bl_emit_structs_laws_wellformed.proofs.OnFormed.Whole.{once_has}
use Rattle.bl_emit_structs_laws_wellformed.proofs.OnFormed.Faultless.{has}
use Rattle.bl_emit_spec_laws_wellformed_bodies.proofs.OnBodies.Lists.{joined-has}

-- ---- each once

-- structs of one name are one struct
abbrev pub Alike : List CStruct → Type 0
Alike xs = (s t : CStruct) → Contains xs s → Contains xs t → s.name ≡ t.name → s ≡ t

neither : (a b : Bool) → a ≡ false → b ≡ false → (a || (b || false)) ≡ false
neither true b one other = one
neither false true one other = other
neither false false one other = refl

-- where structs of one name are one, each stands among those of which each stands once
pub once_there : (taken : List Text) (xs : List CStruct) → Alike xs → (s : CStruct) → Contains xs s → has s.name taken ≡ false →
    Contains (each_once taken xs) s
once_there taken [] alike s at new = at
once_there taken (x ∷ xs) alike s at new =
    by (has x.name taken) refl (λ behind. once_there taken xs rest s behind new)
    (λ behind fresh. once_there (taken ++ x.name ∷ []) xs rest s behind fresh) (first_or_further x xs s at)
  where
    rest : Alike xs
    rest a b one two = alike a b (contains_further x xs a one) (contains_further x xs b two)

    by : (b : Bool) → has x.name taken ≡ b → (Contains xs s → Contains (each_once taken xs) s) →
        (Contains xs s → has s.name (taken ++ x.name ∷ []) ≡ false → Contains (each_once (taken ++ x.name ∷ []) xs) s) →
        (x ≡ s) ⊎ Contains xs s →
        Contains (if b then each_once taken xs else x ∷ each_once (taken ++ x.name ∷ []) xs) s
    by true is old new_one (inl own) =
        absurd (let both : true ≡ false = sym is ∙ (ap (λ (s : CStruct). has s.name taken) own ∙ new) in cc)
    by true is old new_one (inr behind) = old behind
    by false is old new_one (inl own) =
        subst (λ s. Contains (x ∷ each_once (taken ++ x.name ∷ []) xs) s) own (contains_first x (each_once (taken ++ x.name ∷ []) xs))
    by false is old new_one (inr behind) = named (bytes_eq s.name x.name) refl
      where
        named : (b : Bool) → bytes_eq s.name x.name ≡ b → Contains (x ∷ each_once (taken ++ x.name ∷ []) xs) s
        named true same =
            let own : x ≡ s = alike x s (contains_first x xs) (contains_further x xs s behind) (sym ((bytes_eq-Decides s.name x.name).0 same)) in
            subst (λ s. Contains (x ∷ each_once (taken ++ x.name ∷ []) xs) s) own (contains_first x (each_once (taken ++ x.name ∷ []) xs))
        named false other =
            contains_further x (each_once (taken ++ x.name ∷ []) xs) s
            (new_one behind
            (list_any-append (bytes_eq s.name) taken (x.name ∷ []) ∙ neither (has s.name taken) (bytes_eq s.name x.name) new other))

-- ---- nesting

-- types of a program are nested no deeper than all of them together
abbrev most_of : List StructDef → List UnitDef → ℕ
most_of structs units =
    sum (struct_nestings structs) + sum (map (λ (unit : UnitDef). sum (map (λ (var : Var). nesting structs var.ty) unit.vars)) units)

nests : (structs : List StructDef) (units : List UnitDef) → NestsAtMost (most_of structs units) structs units
nests structs units = record {
  definitions = λ k. let few = index_few (struct_nestings structs) k in omega arith;
  variables = λ k j unit var there has.
      let own = each_few (λ (var : Var). nesting structs var.ty) unit.vars j var has in
      let all = each_few (λ (unit : UnitDef). sum (map (λ (var : Var). nesting structs var.ty) unit.vars)) units k unit there in omega arith;
}

module _ (structs : List StructDef) (units : List UnitDef) (entry : ℕ) (keeps : IsWellTyped structs units entry) where
  -- each struct that types need is that of a type
  type_of : (s : CStruct) → Contains (structs_for structs units) s → StructOf structs (most_of structs units) s
  type_of =
      all_are structs (most_of structs units) keeps.structs_stand (nests structs units).definitions units entry keeps (nests structs units)

  -- its name is none of the interface's
  not_ours : (ty : Ty) (layer : Ty-F Ty) → out-Ty ty ≡ layer → 1 ≤ nesting structs ty → (rest : Text) →
      bytes_eq (type_name structs ty) (codes "bl_" ++ rest) ≡ false
  not_ours ty (Ty-F.Scalar s) is some rest =
      absurd (let none : nesting structs ty ≡ 0 = nesting_at (struct_nestings structs) ty (Ty-F.Scalar s) is in omega (arith, some, none))
  not_ours ty (Ty-F.Struct k) is some rest =
      ap (λ name. bytes_eq name (codes "bl_" ++ rest)) (name_at structs ty (Ty-F.Struct k) is)
  not_ours ty (Ty-F.Array n element) is some rest =
      ap (λ name. bytes_eq name (codes "bl_" ++ rest)) (name_at structs ty (Ty-F.Array n element) is)

  pub other_name : (s : CStruct) (rest : Text) → Contains (each_once [] (structs_for structs units)) s → bytes_eq s.name (codes "bl_" ++ rest) ≡ false
  other_name s rest at =
      let o = type_of s (once_has [] (structs_for structs units) s at) in
      ap (λ name. bytes_eq name (codes "bl_" ++ rest)) o.named ∙ not_ours o.ty (out-Ty o.ty) refl o.some rest

  module _ (apart : TypesApart structs units entry) where
    alike : Alike (structs_for structs units)
    alike s t one two same =
        let a = type_of s one in
        let b = type_of t two in
        let types : a.ty ≡ b.ty = apart a.ty b.ty keeps a.stands b.stands (sym a.named ∙ same ∙ b.named) in
        a.made ∙ ap (λ ty. struct_level structs (out-Ty ty)) types ∙ sym b.made

    pub stands_once : (s : CStruct) → Contains (structs_for structs units) s → Contains (each_once [] (structs_for structs units)) s
    stands_once s at = once_there [] (structs_for structs units) alike s at refl

-- ---- types of what variables have in them

module _ (structs : List StructDef) (units : List UnitDef) where
  abbrev all : List CStruct
  all = structs_for structs units

  of_definition : (k : ℕ) (def : StructDef) → slice_get structs k ≡ Some def → (s : CStruct) → Contains (structs_for_definition structs def) s →
      Contains all s
  of_definition k def there s at =
      Contains-append_left (joined (map (structs_for_definition structs) structs)) (joined (map (structs_for_unit structs) units)) s
      (joined-has (structs_for_definition structs) structs def s (contains_at structs k def there) at)

  -- the structs of a type's arrays are there
  abbrev Inside : Ty → Type 0
  Inside ty = (s : CStruct) → Contains (arrays_of structs ty) s → Contains all s

  variable_inside : (unit : UnitDef) (var : Var) → Contains units unit → Contains unit.vars var → Inside var.ty
  variable_inside unit var there of s at =
      Contains-append_right (joined (map (structs_for_definition structs) structs)) (joined (map (structs_for_unit structs) units)) s
      (joined-has (structs_for_unit structs) units unit s there (joined-has (λ (var : Var). arrays_of structs var.ty) unit.vars var s of at))

  field_inside : (k : ℕ) (def : StructDef) (j : ℕ) (field : Field) → slice_get structs k ≡ Some def → slice_get def.fields j ≡ Some field →
      Inside field.ty
  field_inside k def j field there of s at =
      of_definition k def there s
      (Contains-append_left (joined (map (λ (field : Field). arrays_of structs field.ty) def.fields)) (c_definition structs def ∷ []) s
      (joined-has (λ (field : Field). arrays_of structs field.ty) def.fields field s (contains_at def.fields j field of) at))

  part_inside : (ty : Ty) (layer : Ty-F Ty) → out-Ty ty ≡ layer → (k : ℕ) (part : Ty) → Inside ty → part_level structs k layer ≡ Some part →
      Inside part
  part_inside ty (Ty-F.Scalar t) is k part inside e = absurd (cc)
  part_inside ty (Ty-F.Struct j) is k part inside e = by (slice_get structs j) refl e
    where
      by_field : (def : StructDef) → slice_get structs j ≡ Some def → (o : Option Field) → slice_get def.fields k ≡ o →
          option_map (λ (field : Field). field.ty) o ≡ Some part → Inside part
      by_field def there None at e = absurd (cc)
      by_field def there (Some field) at e = subst Inside (same_Some field.ty part e) (field_inside j def k field there at)

      by : (o : Option StructDef) → slice_get structs j ≡ o →
          option_and_then (λ (def : StructDef). option_map (λ (field : Field). field.ty) (slice_get def.fields k)) o ≡ Some part → Inside part
      by None at e = absurd (cc)
      by (Some def) at e = by_field def at (slice_get def.fields k) refl e
  part_inside ty (Ty-F.Array n element) is k part inside e =
      subst Inside (same_Some element part e)
      (λ s at. inside s
      (subst (λ l. Contains l s) (sym (array_is structs ty n element is))
      (Contains-append_left (arrays_of structs element) (c_array structs n element ∷ []) s at)))

  nowhere_after : (ks : List ℕ) → type_after structs ks None ≡ None
  nowhere_after [] = refl
  nowhere_after (k ∷ ks) = refl

  after_inside : (ks : List ℕ) (ty last : Ty) → Inside ty → type_after structs ks (Some ty) ≡ Some last → Inside last
  after_inside [] ty last inside is = subst Inside (same_Some ty last is) inside
  after_inside (k ∷ ks) ty last inside is =
      by (λ part own h. after_inside ks part last own h) (part_type structs k ty) refl is
    where
      by : ((part : Ty) → Inside part → type_after structs ks (Some part) ≡ Some last → Inside last) → (o : Option Ty) →
          part_type structs k ty ≡ o → type_after structs ks o ≡ Some last → Inside last
      by more None at h = absurd (let none : None ≡ Some last = sym (nowhere_after ks) ∙ h in cc)
      by more (Some part) at h = more part (part_inside ty (out-Ty ty) refl k part inside at) h

  -- where all of these are declared, those of each type are that a variable has in it
  module _ (there : List CStruct) (declared : (s : CStruct) → Contains all s → Contains there s) where
    layer_declared : (ty : Ty) (layer : Ty-F Ty) → out-Ty ty ≡ layer → Inside ty → TypeDeclared structs there layer
    layer_declared ty (Ty-F.Scalar t) is inside = tt
    layer_declared ty (Ty-F.Struct k) is inside = λ def at. declared (c_definition structs def)
        (of_definition k def at (c_definition structs def)
        (Contains-append_right (joined (map (λ (field : Field). arrays_of structs field.ty) def.fields)) (c_definition structs def ∷ [])
        (c_definition structs def) (contains_first (c_definition structs def) [])))
    layer_declared ty (Ty-F.Array n element) is inside =
        declared (c_array structs n element)
        (inside (c_array structs n element)
        (subst (λ l. Contains l (c_array structs n element)) (sym (array_is structs ty n element is))
        (Contains-append_right (arrays_of structs element) (c_array structs n element ∷ []) (c_array structs n element)
        (contains_first (c_array structs n element) []))))

    pub type_declared : (unit : UnitDef) (var : Var) (ks : List ℕ) (ty : Ty) → Contains units unit → Contains unit.vars var →
        type_after structs ks (Some var.ty) ≡ Some ty → TypeDeclared structs there (out-Ty ty)
    type_declared unit var ks ty at of is =
        layer_declared ty (out-Ty ty) refl (after_inside ks var.ty ty (variable_inside unit var at of) is)
