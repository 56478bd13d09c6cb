-- What is declared after one list of structs and then another.
use Rattle.std.proofs.Common.{◌≡◌, ℕ, ◌+◌, ◌<◌, Bool, true, false, if◌then◌else◌, List, [], ◌∷◌, ◌++◌, map, refl, sym, ap, ◌∙◌}
use Rattle.std.proofs.lemmas.List.{append_assoc, append-nil}
use Rattle.std.specs.Prelude.{Result, Ok, Err, OnOk, bytes_eq}
use Rattle.std.specs.List.{list_any}
use Rattle.bl_tree.specs.declared.c.CStruct.{CStruct}
use Rattle.bl_tree.specs.declared.tree.StructDef.{StructDef}
use Rattle.bl_tree.specs.declared.tree.Ty.{Ty, fold-Ty, fold_out-Ty, map-Ty, out-Ty}
use Rattle.bl_tree.specs.declared.tree.Ty.TheOpen.{Ty-F}
use Rattle.bl_tree.specs.declared.tree.Unit.{Unit as UnitDef}
use Rattle.bl_tree.specs.Reduce.{joined}
use Rattle.bl_emit_acts.specs.Structs.{c_array}
use Rattle.bl_emit_structs.specs.Structs.{arrays_at, arrays_level, arrays_of, each_once, structs_for, structs_for_definition, structs_for_unit}
use Rattle.bl_emit_structs.specs.inner.Added.{Collected, added, all_added, nothing}

pub after-append : (collected : Collected) (first second : List CStruct) → all_added collected (first ++ second) ≡ all_added (all_added collected first) second
after-append collected [] second = refl
after-append collected (s ∷ first) second = after-append (added collected s) first second

-- one more part
pub after-next : {X : Type 0} (needs : X → List CStruct) (all rest : List X) (x : X) (collected found : Collected) → all ≡ x ∷ rest →
    all_added collected (joined (map needs all)) ≡ found → all_added (all_added collected (needs x)) (joined (map needs rest)) ≡ found
after-next needs all rest x collected found is h =
    sym (after-append collected (needs x) (joined (map needs rest))) ∙ ap (λ l. all_added collected (joined (map needs l))) (sym is) ∙ h

abbrev more : Collected → CStruct → Collected
more collected s = record { structs = collected.structs ++ s ∷ []; taken = collected.taken ++ s.name ∷ [] }

-- what is declared in the end: what was there, and of the rest each once
pub after_is : (collected : Collected) (rest : List CStruct)
    → (all_added collected rest).structs ≡ collected.structs ++ each_once collected.taken rest
after_is collected [] = sym (append-nil collected.structs)
after_is collected (s ∷ rest) =
    by (list_any (bytes_eq s.name) collected.taken) (after_is collected rest)
    (after_is (more collected s) rest ∙ append_assoc collected.structs (s ∷ []) (each_once (more collected s).taken rest))
  where
    by : (b : Bool) → (all_added collected rest).structs ≡ collected.structs ++ each_once collected.taken rest
        → (all_added (more collected s) rest).structs ≡ collected.structs ++ (s ∷ each_once (more collected s).taken rest)
        → (all_added (if b then collected else more collected s) rest).structs
        ≡ collected.structs ++ (if b then each_once collected.taken rest else s ∷ each_once (more collected s).taken rest)
    by true there absent = there
    by false there absent = absent

pub finished : (structs first second : List StructDef) (units third : List UnitDef) (start one two : Collected)
    → first ≡ structs → second ≡ structs → third ≡ units → start ≡ nothing
    → one ≡ all_added start (joined (map (structs_for_definition first) first))
    → two ≡ all_added one (joined (map (structs_for_unit second) third)) → two.structs ≡ each_once [] (structs_for structs units)
finished structs first second units third start one two is_first is_second is_third begins to_one to_two =
    let definitions : List CStruct = joined (map (structs_for_definition structs) structs) in
    let units_need : List CStruct = joined (map (structs_for_unit structs) units) in
    ap (λ c. c.structs) (to_two ∙ (λ i. all_added (to_one i) (joined (map (structs_for_unit (is_second i)) (is_third i))))
    ∙ (λ i. all_added (all_added (begins i) (joined (map (structs_for_definition (is_first i)) (is_first i)))) units_need)
    ∙ sym (after-append nothing definitions units_need))
    ∙ after_is nothing (definitions ++ units_need)

-- ---- arrays

-- an array needs what its element needs, and then its own struct
pub array_is : (structs : List StructDef) (ty : Ty) (n : ℕ) (element : Ty) → out-Ty ty ≡ Ty-F.Array n element
    → arrays_of structs ty ≡ arrays_of structs element ++ (c_array structs n element ∷ [])
array_is structs ty n element is =
    let inner : Ty → Ty → List CStruct = fold-Ty (Ty → List CStruct) (arrays_level structs) in
    ap (λ f. f ty) (fold_out-Ty (Ty → List CStruct) (arrays_level structs) ty)
    ∙ ap (λ layer. arrays_level structs (map-Ty Ty (Ty → List CStruct) inner layer) ty) is
    ∙ ap (arrays_at structs (inner element)) is

-- and so does what is collected
pub array_after : (structs : List StructDef) (ty : Ty) (n : ℕ) (element : Ty) (start inside last : Collected) → out-Ty ty ≡ Ty-F.Array n element
    → inside ≡ all_added start (arrays_of structs element) → last ≡ added inside (c_array structs n element)
    → last ≡ all_added start (arrays_of structs ty)
array_after structs ty n element start inside last is in_element own =
    own ∙ ap (λ c. added c (c_array structs n element)) in_element
    ∙ sym (after-append start (arrays_of structs element) (c_array structs n element ∷ []))
    ∙ ap (all_added start) (sym (array_is structs ty n element is))

pub on_ok : {A E : Type 0} (P Q : Type 0) (r : Result A E) → (P → Q) → OnOk r P → OnOk r Q
on_ok P Q (Ok x) f h = f h
on_ok P Q (Err e) f h = h

pub ruleset steps = (after-append)
