-- Tables that grow by one entry after another, and what fails on the way.
use Rattle.std.proofs.Common.{◌≡◌, ℕ, ◌+◌, ◌-◌, ◌<◌, Bool, drop, length, length-drop, arith, List, [], ◌∷◌, map, Option, Some, None, refl, ap, sym, ◌∙◌}
use Rattle.std.proofs.lemmas.Grind.{common_steps}
use Rattle.std.specs.Prelude.{bytes_eq, nat_lt, nat_le}
use Rattle.std.specs.Option.{option_or}
use Rattle.bl_tree.specs.declared.text.Text.{Text}
use Rattle.bl_tree.specs.declared.place.Place.{Place}
use Rattle.bl_tree.specs.declared.c.CMember.{CMember}
use Rattle.bl_tree.specs.declared.c.CStruct.{CStruct}
use Rattle.bl_tree.specs.declared.c.CFunc.{CFunc}
use Rattle.bl_ctext_semantics.specs.Faults.{Signature, depth_of_function, faults_in_function, function_faults_after, signature_in, depth_of_struct}
use Rattle.bl_ctext_semantics.specs.Faults.{earlier_of, faults_in_struct, first_place, member_table, struct_faults_after}
use Rattle.bl_ctext_semantics.specs.Tables.{Table, found, with_entry}
use Rattle.bl_ctext_semantics.proofs.FirstLemmas.{earlier_of-assoc, first_place-append}
use Rattle.bl_ctext_semantics.proofs.MapLemmas.{next_entry, same_table}

-- an entry of a list goes into a table
pub table-next : {A : Type 0} (old more : Table A) (name : Text) (value : A) (rest all : List (Text × A)) (x : Table A) → all ≡ (name, value) ∷ rest →
    ((asked : List ℕ) → more asked ≡ with_entry old name value asked) → ((asked : List ℕ) → option_or (old asked) (found asked all) ≡ x asked) →
    (asked : List ℕ) → option_or (more asked) (found asked rest) ≡ x asked
table-next old more name value rest all x is add h asked =
    ap (λ o. option_or o (found asked rest)) (add asked)
    ∙ next_entry (old asked) (bytes_eq name asked) value (found asked rest)
    ∙ ap (λ l. option_or (old asked) (found asked l)) (sym is) ∙ h asked

-- one more struct
pub struct-next : (structs more : Table (Table CMember)) (depths deeper : Table ℕ) (all rest : List CStruct) (s : CStruct) (first x : Option Place) →
    all ≡ s ∷ rest →
    ((asked : List ℕ) → more asked ≡ with_entry structs s.name (member_table s) asked) →
    ((asked : List ℕ) → deeper asked ≡ with_entry depths s.name (depth_of_struct depths s) asked) →
    earlier_of first (first_place (struct_faults_after structs depths all)) ≡ x →
    earlier_of (earlier_of first (first_place (faults_in_struct structs depths s))) (first_place (struct_faults_after more deeper rest)) ≡ x
struct-next structs more depths deeper all rest s first x is add add_depth h =
    let here = faults_in_struct structs depths s in
    let later = struct_faults_after (with_entry structs s.name (member_table s)) (with_entry depths s.name (depth_of_struct depths s)) rest in
    ap (λ t. earlier_of (earlier_of first (first_place here)) (first_place (struct_faults_after t deeper rest)))
    (same_table more (with_entry structs s.name (member_table s)) add)
    ∙ ap (λ t. earlier_of (earlier_of first (first_place here)) (first_place (struct_faults_after (with_entry structs s.name (member_table s)) t rest)))
    (same_table deeper (with_entry depths s.name (depth_of_struct depths s)) add_depth)
    ∙ sym (earlier_of-assoc first (first_place here) (first_place later))
    ∙ ap (λ p. earlier_of first p) (sym (first_place-append here later))
    ∙ ap (λ l. earlier_of first (first_place (struct_faults_after structs depths l))) (sym is) ∙ h

-- one more function
pub function-next : (structs : Table (Table CMember)) (functions more : Table Signature) (depths deeper : Table ℕ) (all rest : List CFunc) (f : CFunc)
    (last : Bool) (first x : Option Place) →
    all ≡ f ∷ rest → last ≡ nat_lt (length rest) 2 →
    ((asked : List ℕ) → more asked ≡ with_entry functions f.name (signature_in f) asked) →
    ((asked : List ℕ) → deeper asked ≡ with_entry depths f.name (depth_of_function depths f) asked) →
    earlier_of first (first_place (function_faults_after structs functions depths all)) ≡ x →
    earlier_of (earlier_of first (first_place (faults_in_function structs functions depths last f)))
    (first_place (function_faults_after structs more deeper rest)) ≡ x
function-next structs functions more depths deeper all rest f last first x is ends add add_depth h =
    let here = faults_in_function structs functions depths (nat_lt (length rest) 2) f in
    let later = function_faults_after structs (with_entry functions f.name (signature_in f)) (with_entry depths f.name (depth_of_function depths f)) rest in
    ap (λ b. earlier_of (earlier_of first (first_place (faults_in_function structs functions depths b f)))
    (first_place (function_faults_after structs more deeper rest))) ends
    ∙ ap (λ t. earlier_of (earlier_of first (first_place here)) (first_place (function_faults_after structs t deeper rest)))
    (same_table more (with_entry functions f.name (signature_in f)) add)
    ∙ ap (λ t. earlier_of (earlier_of first (first_place here))
    (first_place (function_faults_after structs (with_entry functions f.name (signature_in f)) t rest)))
    (same_table deeper (with_entry depths f.name (depth_of_function depths f)) add_depth)
    ∙ sym (earlier_of-assoc first (first_place here) (first_place later))
    ∙ ap (λ p. earlier_of first p) (sym (first_place-append here later))
    ∙ ap (λ l. earlier_of first (first_place (function_faults_after structs functions depths l))) (sym is) ∙ h

-- how many functions stand behind one of a list
pub behind : {X : Type 0} (xs : List X) (k : ℕ) → k < length xs → nat_le (length xs - k) 2 ≡ nat_lt (length (drop (k + 1) xs)) 2
behind {X = X} xs k within = grind (arith, common_steps, length-drop {A = X} (k + 1) xs)
