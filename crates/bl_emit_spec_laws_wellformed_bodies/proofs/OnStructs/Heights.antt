-- How deep the structs of a file may be nested, by their names.
use Rattle.std.proofs.Common.{◌≡◌, ◌⊎◌, inl, inr, ⊎_elim, ℕ, zero, suc, ◌+◌, ◌<◌, ◌≤◌, arith, Bool, true, false, not}
use Rattle.std.proofs.Common.{◌||◌, nat_eq, List, [], ◌∷◌, ◌++◌, map, take, drop, length, Some}
use Rattle.std.proofs.Common.{refl, sym, ap, ◌∙◌, subst, codes}
use Rattle.std.proofs.lemmas.Option.{same_Some, slice_get_cases}
use Rattle.std.proofs.lemmas.Slice.Eq.{bytes_eq-Decides}
use Rattle.std.specs.Prelude.{bytes_eq, slice_get, slice_index, if◌then◌else◌}
use Rattle.bl_tree.proofs.Basics.{and_first, and_second, less_from}
use Rattle.bl_tree.specs.declared.c.CMember.{CMember}
use Rattle.bl_tree.specs.declared.c.CStruct.{CStruct}
use Rattle.bl_tree.specs.declared.text.Text.{Text}
use Rattle.bl_tree.specs.declared.tree.StructDef.{StructDef}
use Rattle.bl_tree.specs.declared.tree.Ty.{Ty, out-Ty}
use Rattle.bl_tree.specs.declared.tree.Ty.TheOpen.{Ty-F}
use Rattle.bl_tree.specs.declared.tree.Unit.{Unit as UnitDef}
use Rattle.bl_tree.specs.declared.tree.Var.{Var}
use Rattle.bl_tree.specs.Program.{IsWellTyped}
use Rattle.bl_tree.specs.Types.{type_stands}
use Rattle.bl_tree.specs.Words.{are_distinct, is_among}
use Rattle.bl_eval.proofs.PassLemmas.{all_at}
use Rattle.bl_limits_measures.specs.Types.{nesting, struct_nestings}
use Rattle.bl_limits_measures.specs.Units.{all_chains, chain_at, chain_by}
use Rattle.bl_limits_measures.proofs.TableLemmas.{answer_at}
use Rattle.bl_ctext_semantics.specs.Faults.{interface_fits}
use Rattle.bl_emit_acts.specs.Types.{array_name, c_type, definition_name, struct_name, type_level, type_name}
use Rattle.bl_emit_structs_laws_wellformed.specs.Names.{TypesApart}
use Rattle.bl_emit_acts_laws_wellformed.proofs.OnFormed.Parts.{name_at}
use Rattle.bl_emit_acts_laws_wellformed.proofs.OnFormed.Units.{vars_stand}
use Rattle.bl_emit_structs_laws_wellformed.specs.Formed.{NestsAtMost, OfVariable}
use Rattle.bl_emit_structs_laws_wellformed.proofs.OnFormed.Levels.{nesting_at, stands_at, struct_some}
use Rattle.bl_emit_structs_laws_wellformed.proofs.OnFormed.Types.{StructOf}
use Rattle.bl_emit_functions.specs.Functions.{memory_name}
use Rattle.bl_emit_spec.specs.Names.{frame_name}
use Rattle.bl_emit_spec_laws_wellformed_bodies.specs.Structs.Parts.{IsPart, OfCallee, OfNumber, OfPart}
use Rattle.bl_emit_spec_laws_wellformed_bodies.proofs.OnStructs.Sound.{Fine, Lower}

-- ---- the byte with which a name begins

-- that byte; those of types have 0
abbrev pub class : Text → ℕ
class [] = 1
class (c ∷ rest) = if nat_eq c 115 || nat_eq c 114 then 0 else c

pub class_memory : (name : Text) → class (memory_name name) ≡ 109
class_memory name = refl

pub class_frame : (name : Text) → class (frame_name name) ≡ 102
class_frame name = refl

pub class_file : (rest : Text) → class (codes "bl_" ++ rest) ≡ 98
class_file rest = refl

class_struct : (name : Text) → class (struct_name name) ≡ 0
class_struct name = refl

class_array : (n : ℕ) (element : Text) → class (array_name n element) ≡ 0
class_array n element = refl

pub differ : (name : Text) (a b : ℕ) → class name ≡ a → class name ≡ b → (a ≡ b → ⊥) → ⊥
differ name a b one two other = other (sym one ∙ two)

-- no struct whose name begins otherwise is one of the interface
pub plain_class : (s : CStruct) (c : ℕ) → class s.name ≡ c → (c ≡ 98 → ⊥) → interface_fits s ≡ true
plain_class s c is other =
    by _ _ (bytes_eq s.name (codes "bl_in")) (bytes_eq s.name (codes "bl_out"))
    (none (codes "in") (bytes_eq s.name (codes "bl_in")) refl) (none (codes "out") (bytes_eq s.name (codes "bl_out")) refl)
  where
    by : (x y a b : Bool) → a ≡ false → b ≡ false → (if a then x else if b then y else true) ≡ true
    by x y false false h k = refl
    by x y true b h k = absurd (cc)
    by x y false true h k = absurd (cc)

    none : (rest : Text) (b : Bool) → bytes_eq s.name (codes "bl_" ++ rest) ≡ b → b ≡ false
    none rest false same = refl
    none rest true same =
        absurd (other (sym is ∙ ap class ((bytes_eq-Decides s.name (codes "bl_" ++ rest)).0 same) ∙ class_file rest))

-- ---- units of one name

unit_among : (units : List UnitDef) (j : ℕ) (b : UnitDef) (name : Text) → slice_get units j ≡ Some b → b.name ≡ name →
    is_among name (map (λ (u : UnitDef). u.name) units) ≡ true
unit_among [] j b name there same = absurd (cc)
unit_among (first ∷ units) zero b name there same =
    or_left (bytes_eq name first.name) _
    ((bytes_eq-Decides name first.name).1 (sym same ∙ ap (λ (u : UnitDef). u.name) (sym (same_Some first b there))))
  where
    or_left : (a b : Bool) → a ≡ true → (a || b) ≡ true
    or_left true b h = refl
    or_left false b h = absurd (cc)
unit_among (first ∷ units) (suc j) b name there same = or_right (bytes_eq name first.name) _ (unit_among units j b name there same)
  where
    or_right : (a b : Bool) → b ≡ true → (a || b) ≡ true
    or_right true b h = refl
    or_right false b h = h

one_name : (units : List UnitDef) (k j : ℕ) (a b : UnitDef) → are_distinct (map (λ (u : UnitDef). u.name) units) ≡ true →
    slice_get units k ≡ Some a → slice_get units j ≡ Some b → a.name ≡ b.name → k ≡ j
one_name [] k j a b distinct one two same = absurd (cc)
one_name (first ∷ units) zero zero a b distinct one two same = refl
one_name (first ∷ units) zero (suc j) a b distinct one two same =
    absurd (never (ap not (sym (unit_among units j b first.name two (sym same ∙ ap (λ (u : UnitDef). u.name) (sym (same_Some first a one)))))
    ∙ and_first (not (is_among first.name (map (λ (u : UnitDef). u.name) units))) (are_distinct (map (λ (u : UnitDef). u.name) units)) distinct))
  where
    never : false ≡ true → ⊥
    never h = absurd (cc)
one_name (first ∷ units) (suc k) zero a b distinct one two same =
    absurd (never (ap not (sym (unit_among units k a first.name one (same ∙ ap (λ (u : UnitDef). u.name) (sym (same_Some first b two)))))
    ∙ and_first (not (is_among first.name (map (λ (u : UnitDef). u.name) units))) (are_distinct (map (λ (u : UnitDef). u.name) units)) distinct))
  where
    never : false ≡ true → ⊥
    never h = absurd (cc)
one_name (first ∷ units) (suc k) (suc j) a b distinct one two same =
    ap suc (one_name units k j a b
    (and_second (not (is_among first.name (map (λ (u : UnitDef). u.name) units))) (are_distinct (map (λ (u : UnitDef). u.name) units)) distinct)
    one two same)

-- ---- heights

-- a type of this name is nested so deep
pub record TypeHeight (structs : List StructDef) (name : Text) (n : ℕ) : Type 0 where
  pub ty : Ty
  pub stands : type_stands (length structs) ty ≡ true
  pub named : name ≡ type_name structs ty
  pub is : n ≡ nesting structs ty
  pub some : 1 ≤ nesting structs ty

-- a struct of a unit of this name may be nested so deep
pub record UnitHeight (units : List UnitDef) (prefix : Text → Text) (name : Text) (n : ℕ) : Type 0 where
  pub position : ℕ
  pub unit : UnitDef
  pub is_there : slice_get units position ≡ Some unit
  pub named : name ≡ prefix unit.name
  pub is : n ≡ 100 + chain_at units position

-- and so may one of the interface
pub record FileHeight (name : Text) (n : ℕ) : Type 0 where
  pub rest : Text
  pub named : name ≡ codes "bl_" ++ rest
  pub is : n ≡ 300

-- a struct of this name may be nested so deep
abbrev pub Height : List StructDef → List UnitDef → Text → ℕ → Type 0
Height structs units name n =
    TypeHeight structs name n ⊎ (UnitHeight units memory_name name n ⊎ (UnitHeight units frame_name name n ⊎ FileHeight name n))

module _ (structs : List StructDef) (units : List UnitDef) (entry : ℕ) (keeps : IsWellTyped structs units entry) (apart : TypesApart structs units entry)
    (nests : NestsAtMost 100 structs units) (short : (k : ℕ) (unit : UnitDef) → slice_get units k ≡ Some unit → chain_at units k ≤ 100)
    (distinct : are_distinct (map (λ (u : UnitDef). u.name) units) ≡ true)
  where
    abbrev H : Text → ℕ → Type 0
    H = Height structs units

    type_class_by : (ty : Ty) (layer : Ty-F Ty) → out-Ty ty ≡ layer → 1 ≤ nesting structs ty → class (type_name structs ty) ≡ 0
    type_class_by ty (Ty-F.Scalar s) is some =
        absurd (let none : nesting structs ty ≡ 0 = nesting_at (struct_nestings structs) ty (Ty-F.Scalar s) is in omega (arith, some, none))
    type_class_by ty (Ty-F.Struct k) is some = ap class (name_at structs ty (Ty-F.Struct k) is) ∙ class_struct (definition_name structs k)
    type_class_by ty (Ty-F.Array n element) is some =
        ap class (name_at structs ty (Ty-F.Array n element) is) ∙ class_array n (type_name structs element)

    pub type_class : (ty : Ty) → 1 ≤ nesting structs ty → class (type_name structs ty) ≡ 0
    type_class ty some = type_class_by ty (out-Ty ty) refl some

    of_type_class : (name : Text) (n : ℕ) → TypeHeight structs name n → class name ≡ 0
    of_type_class name n h = ap class h.named ∙ type_class h.ty h.some

    of_memory_class : (name : Text) (n : ℕ) → UnitHeight units memory_name name n → class name ≡ 109
    of_memory_class name n h = ap class h.named ∙ class_memory h.unit.name

    of_frame_class : (name : Text) (n : ℕ) → UnitHeight units frame_name name n → class name ≡ 102
    of_frame_class name n h = ap class h.named ∙ class_frame h.unit.name

    of_file_class : (name : Text) (n : ℕ) → FileHeight name n → class name ≡ 98
    of_file_class name n h = ap class h.named ∙ class_file h.rest

    as_type : (name : Text) (n : ℕ) → class name ≡ 0 → H name n → TypeHeight structs name n
    as_type name n is h =
        ⊎_elim (λ it. it)
        (λ more. ⊎_elim (λ it. absurd (differ name 0 109 is (of_memory_class name n it) (λ e. absurd (omega (arith, e)))))
        (λ more. ⊎_elim (λ it. absurd (differ name 0 102 is (of_frame_class name n it) (λ e. absurd (omega (arith, e)))))
        (λ it. absurd (differ name 0 98 is (of_file_class name n it) (λ e. absurd (omega (arith, e))))) more) more) h

    as_memory : (name : Text) (n : ℕ) → class name ≡ 109 → H name n → UnitHeight units memory_name name n
    as_memory name n is h =
        ⊎_elim (λ it. absurd (differ name 109 0 is (of_type_class name n it) (λ e. absurd (omega (arith, e)))))
        (λ more. ⊎_elim (λ it. it)
        (λ more. ⊎_elim (λ it. absurd (differ name 109 102 is (of_frame_class name n it) (λ e. absurd (omega (arith, e)))))
        (λ it. absurd (differ name 109 98 is (of_file_class name n it) (λ e. absurd (omega (arith, e))))) more) more) h

    as_frame : (name : Text) (n : ℕ) → class name ≡ 102 → H name n → UnitHeight units frame_name name n
    as_frame name n is h =
        ⊎_elim (λ it. absurd (differ name 102 0 is (of_type_class name n it) (λ e. absurd (omega (arith, e)))))
        (λ more. ⊎_elim (λ it. absurd (differ name 102 109 is (of_memory_class name n it) (λ e. absurd (omega (arith, e)))))
        (λ more. ⊎_elim (λ it. it)
        (λ it. absurd (differ name 102 98 is (of_file_class name n it) (λ e. absurd (omega (arith, e))))) more) more) h

    pub as_file : (name : Text) (n : ℕ) → class name ≡ 98 → H name n → n ≡ 300
    as_file name n is h =
        ⊎_elim (λ it. absurd (differ name 98 0 is (of_type_class name n it) (λ e. absurd (omega (arith, e)))))
        (λ more. ⊎_elim (λ it. absurd (differ name 98 109 is (of_memory_class name n it) (λ e. absurd (omega (arith, e)))))
        (λ more. ⊎_elim (λ it. absurd (differ name 98 102 is (of_frame_class name n it) (λ e. absurd (omega (arith, e)))))
        (λ it. it.is) more) more) h

    -- ---- members

    type_lower_by : (ty : Ty) (layer : Ty-F Ty) → out-Ty ty ≡ layer → type_stands (length structs) ty ≡ true → (n : ℕ) →
        nesting structs ty + 1 ≤ n → Lower H n (type_level (type_name structs ty) layer)
    type_lower_by ty (Ty-F.Scalar s) is stands n low = tt
    type_lower_by ty (Ty-F.Struct k) is stands n low =
        let inside : k < length structs = less_from k (length structs) (sym (stands_at (length structs) ty (Ty-F.Struct k) is) ∙ stands) in
        let deep : nesting structs ty ≡ slice_index (struct_nestings structs) k = nesting_at (struct_nestings structs) ty (Ty-F.Struct k) is in
        let some : 1 ≤ slice_index (struct_nestings structs) k = struct_there k inside in
        let one : 1 ≤ nesting structs ty = omega (arith, deep, some) in
        (nesting structs ty, inl (record { ty = ty; stands = stands; named = refl; is = refl; some = one }), low)
      where
        struct_there : (k : ℕ) → k < length structs → 1 ≤ slice_index (struct_nestings structs) k
        struct_there k inside =
            ⊎_elim (λ there. struct_some structs k there.0 there.2)
            (λ past. absurd (let over : length structs ≤ k = past.0 in omega (arith, inside, over)))
            (slice_get_cases structs k).1
    type_lower_by ty (Ty-F.Array m element) is stands n low =
        let deep : nesting structs ty ≡ 1 + nesting structs element = nesting_at (struct_nestings structs) ty (Ty-F.Array m element) is in
        let one : 1 ≤ nesting structs ty = omega (arith, deep) in
        (nesting structs ty, inl (record { ty = ty; stands = stands; named = refl; is = refl; some = one }), low)

    pub type_lower : (ty : Ty) → type_stands (length structs) ty ≡ true → (n : ℕ) → nesting structs ty + 1 ≤ n → Lower H n (c_type structs ty)
    type_lower ty stands n low = type_lower_by ty (out-Ty ty) refl stands n low

    -- ---- structs of types

    pub fine_type : (s : CStruct) → StructOf structs 299 s → Fine H s
    fine_type s o = record {
      plain = plain_class s 0 own (λ e. absurd (omega (arith, e)));
      most = nesting structs o.ty;
      stands = inl (record { ty = o.ty; stands = o.stands; named = o.named; is = refl; some = o.some });
      few = (let few : nesting structs o.ty ≤ 299 = o.few in omega (arith, few));
      some = λ n h. let t = as_type s.name n own h in let is : n ≡ nesting structs t.ty = t.is in let some = t.some in omega (arith, is, some);
      parts = λ n h m has.
          let t = as_type s.name n own h in
          let same : o.ty ≡ t.ty = apart o.ty t.ty keeps o.stands t.stands (sym o.named ∙ t.named) in
          let p = o.parts m has in
          let deep : nesting structs p.part + 1 ≤ nesting structs t.ty = subst (λ ty. nesting structs p.part + 1 ≤ nesting structs ty) same p.deep in
          let is : n ≡ nesting structs t.ty = t.is in
          subst (Lower H n) (sym p.is) (type_lower p.part p.stands n (omega (arith, deep, is)));
    }
      where
        own : class s.name ≡ 0
        own = ap class o.named ∙ type_class o.ty o.some

    -- ---- structs of units

    chain_some : (k : ℕ) (unit : UnitDef) → slice_get units k ≡ Some unit → 1 ≤ chain_at units k
    chain_some k unit there =
        let is : chain_at units k ≡ chain_by (take k (all_chains units)) unit = answer_at chain_by units k unit 0 there in omega (arith, is)

    module _ (prefix : Text → Text) (c : ℕ) (classed : (name : Text) → class (prefix name) ≡ c) (no_file : c ≡ 98 → ⊥)
        (back : (a b : Text) → prefix a ≡ prefix b → a ≡ b) (into : (name : Text) (n : ℕ) → UnitHeight units prefix name n → H name n)
        (only : (name : Text) (n : ℕ) → class name ≡ c → H name n → UnitHeight units prefix name n) where
      pub fine_part : (s : CStruct) → IsPart structs units prefix s → Fine H s
      fine_part s p = record {
        plain = plain_class s c own no_file;
        most = 100 + chain_at units p.position;
        stands = into s.name (100 + chain_at units p.position)
            (record { position = p.position; unit = p.unit; is_there = p.is_there; named = p.named; is = refl });
        few = (let few : chain_at units p.position ≤ 100 = short p.position p.unit p.is_there in omega (arith, few));
        some = λ n h. let u = only s.name n own h in let is : n ≡ 100 + chain_at units u.position = u.is in omega (arith, is);
        parts = λ n h m has.
            let u = only s.name n own h in
            let one : p.position ≡ u.position = one_name units p.position u.position p.unit u.unit distinct p.is_there u.is_there
            (back p.unit.name u.unit.name (sym p.named ∙ u.named)) in
            let is : n ≡ 100 + chain_at units p.position = u.is ∙ ap (λ k. 100 + chain_at units k) (sym one) in
            lower n m p.position is (chain_some p.position p.unit p.is_there) (p.members m has);
      }
        where
          own : class s.name ≡ c
          own = ap class p.named ∙ classed p.unit.name

          lower : (n : ℕ) (m : CMember) (k : ℕ) → n ≡ 100 + chain_at units k → 1 ≤ chain_at units k → OfPart structs units prefix k m →
              Lower H n m.ty
          lower n m k is some part =
              ⊎_elim (λ (number : OfNumber m). subst (Lower H n) (sym number.is) tt)
              (λ more. ⊎_elim
              (λ (v : OfVariable structs units m).
              let low : nesting structs v.var.ty ≤ 100 = nests.variables v.k v.j v.unit v.var v.unit_there v.var_there in
              subst (Lower H n) (sym v.is)
              (type_lower v.var.ty
              (all_at (λ (var : Var). type_stands (length structs) var.ty) v.unit.vars v.j v.var
              (vars_stand structs units entry keeps v.k v.unit v.unit_there) v.var_there) n (omega (arith, low, is, some))))
              (λ (callee : OfCallee units prefix k m).
              let less : chain_at units callee.position + 1 ≤ chain_at units k = callee.less in
              subst (Lower H n) (sym callee.is) (
                100 + chain_at units callee.position,
                into (prefix callee.callee.name) (100 + chain_at units callee.position)
                    (record { position = callee.position; unit = callee.callee; is_there = callee.is_there; named = refl; is = refl }),
                omega (arith, less, is),
              )) more) part

    pub fine_memory : (s : CStruct) → IsPart structs units memory_name s → Fine H s
    fine_memory = fine_part memory_name 109 class_memory (λ e. absurd (omega (arith, e))) (λ a b is. ap (drop 2) is) (λ name n h. inr (inl h)) as_memory

    pub fine_frame : (s : CStruct) → IsPart structs units frame_name s → Fine H s
    fine_frame = fine_part frame_name 102 class_frame (λ e. absurd (omega (arith, e))) (λ a b is. ap (drop 2) is) (λ name n h. inr (inr (inl h))) as_frame
