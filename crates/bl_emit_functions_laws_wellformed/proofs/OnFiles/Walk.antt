-- The functions of a program one after another: nothing fails in each.
use Rattle.std.proofs.Common.{◌≡◌, ℕ, zero, suc, ◌<◌, ◌≤◌, ⊎_elim, Bool, true, false, List, []}
use Rattle.std.proofs.Common.{◌∷◌, ◌++◌, map, take, drop, length}
use Rattle.std.proofs.Common.{Option, Some, None, refl, sym, ap, ◌∙◌, subst, arith}
use Rattle.std.proofs.lemmas.Bool.{cases_lt}
use Rattle.std.proofs.lemmas.Bool.Decides.{nat_tests}
use Rattle.std.proofs.lemmas.Option.{same_Some}
use Rattle.std.proofs.lemmas.Slice.Eq.{bytes_eq-Decides}
use Rattle.std.specs.Option.{option_or}
use Rattle.std.specs.Prelude.{bytes_eq, nat_lt, slice_get, if◌then◌else◌}
use Rattle.std.proofs.lemmas.Bool.{not-true}
use Rattle.bl_tree.proofs.Basics.{take_next}
use Rattle.bl_tree.specs.declared.c.CFunc.{CFunc}
use Rattle.bl_tree.specs.declared.c.CMember.{CMember}
use Rattle.bl_tree.specs.declared.tree.StructDef.{StructDef}
use Rattle.bl_tree.specs.declared.tree.Unit.{Unit as UnitDef}
use Rattle.bl_tree.specs.Program.{IsWellTyped}
use Rattle.bl_tree.specs.Typing.{is_activity, is_function}
use Rattle.bl_tree.specs.Words.{are_distinct}
use Rattle.bl_limits.specs.Rules.{Passes}
use Rattle.bl_ctext_semantics.specs.Faults.{Fault, Signature, depth_of_function, faults_in_function, function_faults_after, signature_in}
use Rattle.bl_ctext_semantics.specs.Tables.{Table, no_entries, with_entry}
use Rattle.bl_emit_acts.specs.Types.{unit_name}
use Rattle.bl_emit_functions.specs.Functions.{function_code}
use Rattle.bl_emit_acts_laws_wellformed.specs.Formed.Declared.{signature_for}
use Rattle.bl_emit_functions_laws_wellformed.specs.Formed.{FunctionsSigned, FunctionsWellFormed, StandsBefore}
use Rattle.bl_emit_functions_laws_simulation.specs.Units.{functions_after, made_where}
use Rattle.bl_emit_functions_laws_wellformed.specs.Files.Laws.{ChainsKnown}
use Rattle.bl_emit_functions_laws_wellformed.specs.Files.List.{AllNumbered, FunctionListsWellFormed, StructsStand, depths_after, signatures_after}
use Rattle.bl_emit_functions_laws_wellformed.proofs.OnFiles.Chains.{taken}
use Rattle.bl_emit_functions_laws_wellformed.proofs.OnFiles.Growing.{distinct_behind, grow, names, one_place, short}

-- ---- lists

-- where a list goes on, its next element is there, and behind it the rest
pub drop_next : {A : Type 0} (xs : List A) (k : ℕ) (x : A) (rest : List A) → drop k xs ≡ x ∷ rest
    → (slice_get xs k ≡ Some x) × (drop (suc k) xs ≡ rest)
drop_next [] zero x rest is = absurd (cc)
drop_next [] (suc k) x rest is = absurd (cc)
drop_next (y ∷ xs) zero x rest is = (first is, behind is)
  where
    first : y ∷ xs ≡ x ∷ rest → Some y ≡ Some x
    first is = cc

    behind : y ∷ xs ≡ x ∷ rest → xs ≡ rest
    behind is = cc
drop_next (y ∷ xs) (suc k) x rest is = drop_next xs k x rest is

pub behind_longer : {A : Type 0} (xs ys : List A) → length ys ≤ length (xs ++ ys)
behind_longer [] ys = omega arith
behind_longer (x ∷ xs) ys = let rest : length ys ≤ length (xs ++ ys) = behind_longer xs ys in omega (arith, rest)

pub longer : {A : Type 0} (xs ys : List A) → 2 ≤ length ys → nat_lt (length (xs ++ ys)) 2 ≡ false
longer xs ys two =
    let all : length ys ≤ length (xs ++ ys) = behind_longer xs ys in
    let more : 2 ≤ length (xs ++ ys) = omega (arith, all, two) in
    grind (arith, nat_tests)

-- ---- tables

-- the functions before a position are known, and the names of the others are free
record Knows (structs : List StructDef) (units : List UnitDef) (k : ℕ) (functions : Table Signature) : Type 0 where
  known : (f : ℕ) (callee : UnitDef) → slice_get units f ≡ Some callee → f < k → is_function callee.kind ≡ true →
      functions (unit_name callee.name) ≡ Some (signature_for structs callee)
  free : (j : ℕ) (unit : UnitDef) → slice_get units j ≡ Some unit → k ≤ j → functions (unit_name unit.name) ≡ None

stays : (o : Option Signature) (b : Bool) (new s : Signature) → o ≡ Some s → option_or o (if b then Some new else None) ≡ Some s
stays None b new s is = absurd (cc)
stays (Some t) b new s is = is

joins : (o : Option Signature) (b : Bool) (new : Signature) → o ≡ None → b ≡ true → option_or o (if b then Some new else None) ≡ Some new
joins None true new is same = refl
joins None false new is same = absurd (cc)
joins (Some t) b new is same = absurd (cc)

stays_free : (o : Option Signature) (b : Bool) (new : Signature) → o ≡ None → b ≡ false → option_or o (if b then Some new else None) ≡ None
stays_free None true new is other = absurd (cc)
stays_free None false new is other = refl
stays_free (Some t) b new is other = absurd (cc)

module _ (structs : List StructDef) (units : List UnitDef) (entry : ℕ) (keeps : IsWellTyped structs units entry) (passes : Passes structs units entry)
    (formed : FunctionsWellFormed structs units entry) (signed : FunctionsSigned) (table : Table (Table CMember)) (stand : StructsStand structs units table)
    (numbered : AllNumbered structs units) (last : List CFunc) (two : 2 ≤ length last) where
  differ : are_distinct (names units) ≡ true
  differ = distinct_behind (map (λ (def : StructDef). def.name) structs) (names units) keeps.distinct

  -- the functions that are known once the next one is
  module _ (k : ℕ) (unit : UnitDef) (there : slice_get units k ≡ Some unit) (functions : Table Signature) (knows : Knows structs units k functions) where
    abbrev next : Table Signature
    next = with_entry functions (unit_name unit.name) (signature_for structs unit)

    next_known : (f : ℕ) (callee : UnitDef) → slice_get units f ≡ Some callee → f < suc k → is_function callee.kind ≡ true →
        next (unit_name callee.name) ≡ Some (signature_for structs callee)
    next_known f callee found less function =
        ⊎_elim
        (λ (before : f < k). stays (functions (unit_name callee.name)) (bytes_eq (unit_name unit.name) (unit_name callee.name)) (signature_for structs unit)
        (signature_for structs callee) (knows.known f callee found before function))
        (λ (not_before : k ≤ f). let same : f ≡ k = omega (arith, less, not_before) in
        let one : unit ≡ callee = same_Some unit callee (sym there ∙ ap (slice_get units) (sym same) ∙ found) in
        subst (λ (callee : UnitDef). next (unit_name callee.name) ≡ Some (signature_for structs callee)) one
        (joins (functions (unit_name unit.name)) (bytes_eq (unit_name unit.name) (unit_name unit.name)) (signature_for structs unit)
        (knows.free k unit there (omega arith)) ((bytes_eq-Decides (unit_name unit.name) (unit_name unit.name)).1 refl)))
        (cases_lt f k)

    other_name : (j : ℕ) (other : UnitDef) → slice_get units j ≡ Some other → suc k ≤ j
        → (b : Bool) → bytes_eq unit.name other.name ≡ b → b ≡ false
    other_name j other found later false is = refl
    other_name j other found later true is =
        let place : k ≡ j = one_place units k j unit other differ there found ((bytes_eq-Decides unit.name other.name).0 is) in
        absurd (omega (arith, place, later))

    next_free : (j : ℕ) (other : UnitDef) → slice_get units j ≡ Some other → suc k ≤ j → next (unit_name other.name) ≡ None
    next_free j other found later =
        stays_free (functions (unit_name other.name)) (bytes_eq (unit_name unit.name) (unit_name other.name)) (signature_for structs unit)
        (knows.free j other found (omega (arith, later))) (other_name j other found later (bytes_eq unit.name other.name) refl)

    function_known : Knows structs units (suc k) next
    function_known = record { known = next_known; free = next_free }

    activity_known : is_function unit.kind ≡ false → Knows structs units (suc k) functions
    activity_known none = record {
      known = λ f callee found less function.
          ⊎_elim
          (λ (before : f < k). knows.known f callee found before function)
          (λ (not_before : k ≤ f). let same : f ≡ k = omega (arith, less, not_before) in
          let one : unit ≡ callee = same_Some unit callee (sym there ∙ ap (slice_get units) (sym same) ∙ found) in
          absurd (let no : false ≡ true = sym none ∙ ap (λ (unit : UnitDef). is_function unit.kind) one ∙ function in cc))
          (cases_lt f k);
      free = λ j other found later. knows.free j other found (omega (arith, later));
    }

    -- what stands before the function of the unit
    before : is_function unit.kind ≡ true → StandsBefore structs units k unit table functions
    before function = record {
      declared = stand.types;
      memory = stand.memories k unit there function;
      known = λ f callee found is. let at = taken units k f callee found in knows.known f callee at.1 at.0 is;
    }

    -- nothing fails in it
    nothing : (depths : Table ℕ) → ChainsKnown units depths → is_function unit.kind ≡ true →
        faults_in_function table functions depths false (function_code structs (take k units) unit) ≡ []
    nothing depths chains function =
        let few : depth_of_function depths (function_code structs (take k units) unit) ≤ 100 = short structs units entry k unit depths passes there chains in
        formed k unit table functions depths keeps there (not-true (is_activity unit.kind) function) (before function)
        (numbered k unit there function) (knows.free k unit there (omega arith)) (omega (arith, few))

  -- nothing fails in these functions: what fails in the list fails behind them
  abbrev Sound : List UnitDef → List UnitDef → Table Signature → Table ℕ → Type 0
  Sound earlier xs functions depths =
      function_faults_after table functions depths (functions_after structs earlier xs ++ last)
      ≡ function_faults_after table (signatures_after functions (functions_after structs earlier xs))
      (depths_after depths (functions_after structs earlier xs)) last

  -- the C function of a unit, and those behind it
  abbrev own : ℕ → UnitDef → CFunc
  own k unit = function_code structs (take k units) unit

  abbrev behind : ℕ → UnitDef → List UnitDef → List CFunc
  behind k unit xs = functions_after structs (take k units ++ unit ∷ []) xs

  walk : (xs : List UnitDef) (k : ℕ) (functions : Table Signature) (depths : Table ℕ) → drop k units ≡ xs → Knows structs units k functions →
      ChainsKnown units depths → Sound (take k units) xs functions depths
  walk [] k functions depths is knows chains = refl
  walk (unit ∷ xs) k functions depths is knows chains = by (is_function unit.kind) refl (λ F D. walk xs (suc k) F D found.1)
    where
      found : (slice_get units k ≡ Some unit) × (drop (suc k) units ≡ xs)
      found = drop_next units k unit xs is

      front : (faults after done : List Fault) → faults ≡ [] → after ≡ done → faults ++ after ≡ done
      front faults after done none same = ap (λ faults. faults ++ after) none ∙ same

      knows_next : Knows structs units (suc k) (with_entry functions (unit_name unit.name) (signature_in (own k unit)))
      knows_next =
          subst (λ s. Knows structs units (suc k) (with_entry functions (unit_name unit.name) s)) (sym (signed structs (take k units) unit))
          (function_known k unit found.0 functions knows)

      by : (function : Bool) → is_function unit.kind ≡ function →
          ((F : Table Signature) (D : Table ℕ) → Knows structs units (suc k) F → ChainsKnown units D → Sound (take (suc k) units) xs F D) →
          function_faults_after table functions depths ((made_where function structs (take k units) unit ++ behind k unit xs) ++ last)
          ≡ function_faults_after table (signatures_after functions (made_where function structs (take k units) unit ++ behind k unit xs))
          (depths_after depths (made_where function structs (take k units) unit ++ behind k unit xs)) last
      by true function next =
          let D : Table ℕ = with_entry depths (unit_name unit.name) (depth_of_function depths (own k unit)) in
          let F : Table Signature = with_entry functions (unit_name unit.name) (signature_in (own k unit)) in
          front (faults_in_function table functions depths (nat_lt (length (behind k unit xs ++ last)) 2) (own k unit))
          (function_faults_after table F D (behind k unit xs ++ last))
          (function_faults_after table (signatures_after F (behind k unit xs)) (depths_after D (behind k unit xs)) last)
          (ap (λ b. faults_in_function table functions depths b (own k unit)) (longer (behind k unit xs) last two)
          ∙ nothing k unit found.0 functions knows depths chains function)
          (subst (λ earlier. Sound earlier xs F D) (take_next units k unit found.0)
          (next F D knows_next (grow structs units entry k unit depths keeps found.0 chains)))
      by false none next =
          subst (λ earlier. Sound earlier xs functions depths) (take_next units k unit found.0)
          (next functions depths (activity_known k unit found.0 functions knows none) chains)

  none_known : Knows structs units 0 no_entries
  none_known = record { known = λ f callee found less. absurd (omega (arith, less)); free = λ j unit found later. refl }

  no_chains : ChainsKnown units no_entries
  no_chains = record { prelude = λ word s. refl; unnamed = refl; of_units = λ f unit found. omega arith }

  pub whole : Sound [] units no_entries no_entries
  whole = walk units 0 no_entries no_entries refl none_known no_chains

pub lists : (structs : List StructDef) (units : List UnitDef) (entry : ℕ) → FunctionsWellFormed structs units entry → FunctionsSigned →
    FunctionListsWellFormed structs units entry
lists structs units entry formed signed table last keeps passes stand numbered two =
    whole structs units entry keeps passes formed signed table stand numbered last two
