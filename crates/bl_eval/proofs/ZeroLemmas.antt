-- The zeros of structs: each by those before it.
use Rattle.std.proofs.Common.{◌≡◌, ℕ, suc, zero, ◌+◌, ◌<◌, ◌≤◌, List, [], ◌∷◌, ◌++◌, length, get_or, map, take, arith, refl, sym, ap, ◌∙◌, length-append, Some}
use Rattle.std.proofs.Common.{None}
use Rattle.std.proofs.lemmas.List.{get_or_append_left}
use Rattle.std.proofs.Math.Seq.{get_or-append_seam}
use Rattle.std.specs.Prelude.{slice_get}
use Rattle.bl_tree.specs.declared.tree.StructDef.{StructDef}
use Rattle.bl_tree.specs.declared.tree.Field.{Field}
use Rattle.bl_tree.specs.declared.value.Value.{Value}
use Rattle.bl_tree.specs.declared.value.Value.TheVariants.{Parts}
use Rattle.bl_eval.specs.Values.{struct_zero, zeros_after, zero_of}

-- what is there before stays
pub zeros_start : (structs : List StructDef) (zeros : List Value) (k : ℕ) (d : Value) → k < length zeros →
    get_or (zeros_after zeros structs) k d ≡ get_or zeros k d
zeros_start [] zeros k d within = refl
zeros_start (def ∷ rest) zeros k d within =
    let more : k < length (zeros ++ struct_zero zeros def ∷ []) = omega (arith, length-append zeros (struct_zero zeros def ∷ [])) in
    zeros_start rest (zeros ++ struct_zero zeros def ∷ []) k d more ∙ get_or_append_left zeros (struct_zero zeros def ∷ []) d k within

pub zeros_length : (structs : List StructDef) (zeros : List Value) → length (zeros_after zeros structs) ≡ length zeros + length structs
zeros_length [] zeros = omega arith
zeros_length (def ∷ rest) zeros =
    omega (arith, zeros_length rest (zeros ++ struct_zero zeros def ∷ []), length-append zeros (struct_zero zeros def ∷ []))

zeros_at : (structs : List StructDef) (zeros : List Value) (j k : ℕ) (d : Value) (def : StructDef) → slice_get structs k ≡ Some def
    → j ≡ length zeros + k
    → get_or (zeros_after zeros structs) j d ≡ struct_zero (zeros_after zeros (take k structs)) def
zeros_at [] zeros j k d def there is = cc
zeros_at (first ∷ rest) zeros j zero d def there is =
    let there' : first ≡ def = cc in
    let is' : j ≡ length zeros = omega arith in
    let within : j < length (zeros ++ struct_zero zeros first ∷ []) = omega (arith, length-append zeros (struct_zero zeros first ∷ [])) in
    zeros_start rest (zeros ++ struct_zero zeros first ∷ []) j d within
    ∙ (rw is' (get_or-append_seam zeros (struct_zero zeros first) [] d ∙ ap (struct_zero zeros) there'))
zeros_at (first ∷ rest) zeros j (suc k) d def there is =
    let is' : j ≡ length (zeros ++ struct_zero zeros first ∷ []) + k = omega (arith, length-append zeros (struct_zero zeros first ∷ [])) in
    zeros_at rest (zeros ++ struct_zero zeros first ∷ []) j k d def there is'

-- the zero of a struct
pub zero_is : (structs : List StructDef) (k : ℕ) (d : Value) (def : StructDef) → slice_get structs k ≡ Some def
    → get_or (zeros_after [] structs) k d ≡ struct_zero (zeros_after [] (take k structs)) def
zero_is structs k d def there = zeros_at structs [] k k d def there (omega arith)

past : (structs : List StructDef) (k : ℕ) → slice_get structs k ≡ None → length structs ≤ k
past [] k none = omega arith
past (def ∷ rest) zero none = absurd (cc)
past (def ∷ rest) (suc k) none = omega (arith, past rest k none)

get_or_past : (all : List Value) (k : ℕ) (d : Value) → length all ≤ k → get_or all k d ≡ d
get_or_past [] k d past = refl
get_or_past (v ∷ rest) zero d past = absurd (omega arith)
get_or_past (v ∷ rest) (suc k) d past = get_or_past rest k d (omega arith)

pub zero_past : (structs : List StructDef) (k : ℕ) (d : Value) → slice_get structs k ≡ None → get_or (zeros_after [] structs) k d ≡ d
zero_past structs k d none =
    let outside : length (zeros_after [] structs) ≤ k = omega (arith, zeros_length structs [], past structs k none) in
    get_or_past (zeros_after [] structs) k d outside

pub zero_none : (structs : List StructDef) (k : ℕ) (made : List Value) → None ≡ slice_get structs k → made ≡ [] →
    Parts made ≡ get_or (zeros_after [] structs) k (Parts [])
zero_none structs k made none is = ap Parts is ∙ sym (zero_past structs k (Parts []) (sym none))

pub zero_made : (structs : List StructDef) (k : ℕ) (def : StructDef) (fields : List Field) (made : List Value) →
    Some def ≡ slice_get structs k → fields ≡ def.fields
    → made ≡ map (λ field. zero_of (take k structs) field.ty) fields → Parts made ≡ get_or (zeros_after [] structs) k (Parts [])
zero_made structs k def fields made there is is_made =
    ap Parts (is_made ∙ ap (map (λ field. zero_of (take k structs) field.ty)) is) ∙ sym (zero_is structs k (Parts []) def (sym there))
