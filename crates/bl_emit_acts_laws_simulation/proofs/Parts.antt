-- Ways into C values beside positions in values.
use Rattle.std.proofs.Common.{◌≡◌, ℕ, List, [], ◌∷◌, ◌++◌, Option, Some, None, refl, sym, ap, ◌∙◌}
use Rattle.std.proofs.lemmas.List.{append_assoc}
use Rattle.std.specs.Prelude.{option_and_then}
use Rattle.bl_tree.specs.declared.tree.StructDef.{StructDef}
use Rattle.bl_tree.specs.declared.tree.Ty.{Ty}
use Rattle.bl_tree.specs.declared.value.Value.{Value}
use Rattle.bl_eval.specs.Values.{number_in, part_of, value_at}
use Rattle.bl_ctext_semantics.specs.Memory.{CValue, Location, Memory, Projection}
use Rattle.bl_ctext_semantics.specs.Memory as memory
use Rattle.bl_ctext_semantics.specs.Meaning.{further}
use Rattle.bl_emit_acts_laws_simulation.specs.Encodes.{Encodes, lead_to, number_within, part_type, type_after, way_to}

-- positions one after another
pub value_further : (ks js : List ℕ) (value : Value) → value_at (ks ++ js) value ≡ option_and_then (value_at js) (value_at ks value)
value_further [] js value = refl
value_further (k ∷ ks) js value = by (λ part. value_further ks js part) (part_of k value)
  where
    by : ((part : Value) → value_at (ks ++ js) part ≡ option_and_then (value_at js) (value_at ks part)) → (o : Option Value) →
        option_and_then (value_at (ks ++ js)) o ≡ option_and_then (value_at js) (option_and_then (value_at ks) o)
    by again None = refl
    by again (Some part) = again part

no_type : (structs : List StructDef) (ks : List ℕ) (b : Ty) → type_after structs ks None ≡ Some b → ⊥
no_type structs [] b h = cc
no_type structs (k ∷ ks) b h = cc

way_behind : (structs : List StructDef) (k : ℕ) (ks js : List ℕ) (ty b : Ty) →
    ((c : Ty) → type_after structs ks (Some c) ≡ Some b → way_to structs (ks ++ js) (Some c)
    ≡ way_to structs ks (Some c) ++ way_to structs js (Some b)) →
    (o : Option Ty) → type_after structs ks o ≡ Some b →
    lead_to structs k ty ++ way_to structs (ks ++ js) o ≡ (lead_to structs k ty ++ way_to structs ks o) ++ way_to structs js (Some b)
way_behind structs k ks js ty b again None h = absurd (no_type structs ks b h)
way_behind structs k ks js ty b again (Some c) h =
    ap (λ way. lead_to structs k ty ++ way) (again c h)
    ∙ sym (append_assoc (lead_to structs k ty) (way_to structs ks (Some c)) (way_to structs js (Some b)))

pub way_further : (structs : List StructDef) (ks js : List ℕ) (ty b : Ty) → type_after structs ks (Some ty) ≡ Some b →
    way_to structs (ks ++ js) (Some ty) ≡ way_to structs ks (Some ty) ++ way_to structs js (Some b)
way_further structs [] js ty b is = ap (way_to structs js) is
way_further structs (k ∷ ks) js ty b is = way_behind structs k ks js ty b (λ c h. way_further structs ks js c b h) (part_type structs k ty) is

-- what holds a value holds what lies at positions in it, where the way leads
pub holds_part : (structs : List StructDef) (ty b : Ty) (value part : Value) (held : CValue) (ks : List ℕ) → Encodes structs ty value held →
    type_after structs ks (Some ty) ≡ Some b → value_at ks value ≡ Some part → Encodes structs b part (λ way. held (way_to structs ks (Some ty) ++ way))
holds_part structs ty b value part held ks holds typed there = record {
  each = λ js n is.
      let found : number_within (ks ++ js) value ≡ Some n =
      ap (option_and_then number_in) (value_further ks js value ∙ ap (option_and_then (value_at js)) there) ∙ is in
      ap held (sym (way_further structs ks js ty b typed)) ∙ holds.each (ks ++ js) n found;
}

-- the same value in other words
pub holds_same : (structs : List StructDef) (ty : Ty) (value : Value) (held other : CValue) → ((way : List Projection) → held way ≡ other way) →
    Encodes structs ty value held → Encodes structs ty value other
holds_same structs ty value held other same holds = record {
  each = λ ks n is. sym (same (way_to structs ks (Some ty))) ∙ holds.each ks n is;
}

-- what stands further on in memory
pub value_along : (here : Memory) (start : Location) (first rest way : List Projection) →
    memory.value_at here (further start (first ++ rest)) way ≡ memory.value_at here (further start first) (rest ++ way)
value_along here start first rest way =
    ap (λ parts. here start.root parts)
    (append_assoc start.parts (first ++ rest) way ∙ ap (λ parts. start.parts ++ parts) (append_assoc first rest way)
    ∙ sym (append_assoc start.parts first (rest ++ way)))
