-- In a well-formed file no two functions have one name, and no two structs.
use Rattle.std.proofs.Common.{◌≡◌, ℕ, zero, suc, Bool, true, false, ◌||◌, List, [], ◌∷◌, Contains, map, length, cond, Option, Some, None}
use Rattle.std.proofs.Common.{refl, sym, ap, subst, ◌∙◌, arith}
use Rattle.std.proofs.lemmas.Slice.Eq.{bytes_eq-Decides}
use Rattle.std.specs.Option.{option_or}
use Rattle.std.specs.Prelude.{bytes_eq, filter, is_none, is_some, nat_lt, if◌then◌else◌}
use Rattle.bl_tree.proofs.Basics.{first_empty, second_empty}
use Rattle.bl_tree.specs.declared.c.CFunc.{CFunc}
use Rattle.bl_tree.specs.declared.c.CMember.{CMember}
use Rattle.bl_tree.specs.declared.c.CStruct.{CStruct}
use Rattle.bl_tree.specs.declared.text.Text.{Text}
use Rattle.bl_ctext_semantics.specs.Faults.{Signature, WellFormed, depth_of_function, depth_of_struct, distinct_names, faults_in, faults_in_function}
use Rattle.bl_ctext_semantics.specs.Faults.{faults_in_head, faults_in_struct, function_faults_after, member_table, signature_in, struct_faults_after}
use Rattle.bl_ctext_semantics.specs.Faults.{struct_table, unless}
use Rattle.bl_ctext_semantics.specs.Parts.{Parts}
use Rattle.bl_ctext_semantics.specs.Tables.{Table, no_entries, with_entry}
use Rattle.bl_emit_laws.specs.Counters.Own.{functions_named, structs_named}
use Rattle.bl_ctext_semantics.proofs.EndLemmas.{unless-nil}

-- ---- names that differ

-- each of these names is another than those before it, and none of those that were seen
abbrev pub Differ : (Text → Bool) → List Text → Type 0
Differ seen [] = Unit {0}
Differ seen (name ∷ rest) = (seen name ≡ false) × Differ (λ asked. seen asked || bytes_eq name asked) rest

module _ {X : Type 0} (name_of : X → Text) (name : Text) where
  abbrev named : X → Bool
  named x = bytes_eq (name_of x) name

  abbrev those : List X → List X
  those xs = filter named xs

  seen_more : (seen : Bool) (b : Bool) → seen ≡ true → (seen || b) ≡ true
  seen_more true b is = refl
  seen_more false b is = absurd (cc)

  seen_now : (seen : Bool) (b : Bool) → b ≡ true → (seen || b) ≡ true
  seen_now true b is = refl
  seen_now false b is = is

  -- none of the others has a name that was seen
  none_named : (seen : Text → Bool) (xs : List X) → seen name ≡ true → Differ seen (map name_of xs) → those xs ≡ []
  none_named seen [] is differ = refl
  none_named seen (x ∷ xs) is differ =
      by (named x) refl
      (none_named (λ asked. seen asked || bytes_eq (name_of x) asked) xs (seen_more (seen name) (bytes_eq (name_of x) name) is) differ.1)
    where
      by : (b : Bool) → named x ≡ b → those xs ≡ [] → cond b (x ∷ those xs) (those xs) ≡ []
      by true eq rest =
          absurd (let same : name_of x ≡ name = (bytes_eq-Decides (name_of x) name).0 eq in
          let no : seen name ≡ false = subst (λ n. seen n ≡ false) same differ.0 in
          let both : true ≡ false = sym is ∙ no in cc)
      by false eq rest = rest

  -- exactly one has the name
  abbrev Alone : List X → Type 0
  Alone xs = (y : X) × (those xs ≡ y ∷ [])

  -- where one has the name, exactly one has
  pub one_named : (seen : Text → Bool) (xs : List X) (x : X) → Contains xs x → name_of x ≡ name → Differ seen (map name_of xs) → Alone xs
  one_named seen [] x at is differ = absurd (let within = at.1 in omega arith)
  one_named seen (y ∷ xs) x at is differ =
      by (named y) refl at (λ behind. one_named (λ asked. seen asked || bytes_eq (name_of y) asked) xs x behind is differ.1)
    where
      by : (b : Bool) → named y ≡ b → Contains (y ∷ xs) x → (Contains xs x → Alone xs) →
          (z : X) × (cond b (y ∷ those xs) (those xs) ≡ z ∷ [])
      by true eq at later = (
        y,
        ap (λ rest. y ∷ rest)
            (none_named (λ asked. seen asked || bytes_eq (name_of y) asked) xs (seen_now (seen name) (bytes_eq (name_of y) name) eq) differ.1),
      )
      by false eq (zero, within, same) later =
          absurd (let named_so : bytes_eq (name_of y) name ≡ true = (bytes_eq-Decides (name_of y) name).1 (ap name_of same ∙ is) in
          let both : true ≡ false = sym named_so ∙ eq in cc)
      by false eq (suc k, within, same) later = later (k, omega arith, same)

-- ---- what a table has

-- what was seen is in a table
abbrev InTable : {A : Type 0} → (Text → Bool) → Table A → Type 0
InTable seen table = (name : Text) → seen name ≡ true → is_some (table name) ≡ true

not_both : {A : Type 0} (o : Option A) → is_some o ≡ true → is_none o ≡ true → ⊥
not_both None one other = let both : false ≡ true = one in cc
not_both (Some x) one other = let both : false ≡ true = other in cc

unseen : {A : Type 0} (seen : Text → Bool) (table : Table A) (name : Text) → InTable seen table → is_none (table name) ≡ true → seen name ≡ false
unseen seen table name in_it none = by (seen name) refl
  where
    by : (b : Bool) → seen name ≡ b → b ≡ false
    by true is = absurd (not_both (table name) (in_it name is) none)
    by false is = refl

kept : {A : Type 0} (o : Option A) (b : Bool) (value : A) → is_some o ≡ true → is_some (option_or o (if b then Some value else None)) ≡ true
kept (Some x) b value there = refl
kept None b value there = absurd (let both : false ≡ true = there in cc)

added : {A : Type 0} (o : Option A) (value : A) → is_some (option_or o (Some value)) ≡ true
added (Some x) value = refl
added None value = refl

seen_or_new : {A : Type 0} (a b : Bool) (o : Option A) (value : A) → (a ≡ true → is_some o ≡ true) → (a || b) ≡ true →
    is_some (option_or o (if b then Some value else None)) ≡ true
seen_or_new true b o value there is = kept o b value (there refl)
seen_or_new false true o value there is = added o value
seen_or_new false false o value there is = absurd (cc)

in_more : {A : Type 0} (seen : Text → Bool) (table : Table A) (name : Text) (value : A) → InTable seen table →
    InTable (λ asked. seen asked || bytes_eq name asked) (with_entry table name value)
in_more seen table name value in_it asked is = seen_or_new (seen asked) (bytes_eq name asked) (table asked) value (in_it asked) is

-- ---- functions

abbrev name_of_function : CFunc → Text
name_of_function function = function.name

functions_differ : (structs : Table (Table CMember)) (functions : Table Signature) (depths : Table ℕ) (seen : Text → Bool) (list : List CFunc) →
    InTable seen functions → function_faults_after structs functions depths list ≡ [] → Differ seen (map name_of_function list)
functions_differ structs functions depths seen [] in_it none = tt
functions_differ structs functions depths seen (f ∷ list) in_it none =
    let last : Bool = nat_lt (length list) 2 in
    let here = first_empty (faults_in_function structs functions depths last f) _ none in
    let head = first_empty (faults_in_head structs functions depths last f) _ here in
    let fresh : is_none (functions f.name) ≡ true = unless-nil (is_none (functions f.name)) distinct_names f.place
    (first_empty (unless (is_none (functions f.name)) distinct_names f.place) _ head) in (
      unseen seen functions f.name in_it fresh,
      functions_differ structs (with_entry functions f.name (signature_in f)) (with_entry depths f.name (depth_of_function depths f))
          (λ asked. seen asked || bytes_eq f.name asked) list (in_more seen functions f.name (signature_in f) in_it)
          (second_empty (faults_in_function structs functions depths last f) _ none),
    )

-- ---- structs

abbrev name_of_struct : CStruct → Text
name_of_struct struct = struct.name

structs_differ : (structs : Table (Table CMember)) (depths : Table ℕ) (seen : Text → Bool) (list : List CStruct) → InTable seen structs →
    struct_faults_after structs depths list ≡ [] → Differ seen (map name_of_struct list)
structs_differ structs depths seen [] in_it none = tt
structs_differ structs depths seen (s ∷ list) in_it none =
    let here = first_empty (faults_in_struct structs depths s) _ none in
    let fresh : is_none (structs s.name) ≡ true = unless-nil (is_none (structs s.name)) distinct_names s.place
    (first_empty (unless (is_none (structs s.name)) distinct_names s.place) _ here) in (
      unseen seen structs s.name in_it fresh,
      structs_differ (with_entry structs s.name (member_table s)) (with_entry depths s.name (depth_of_struct depths s))
          (λ asked. seen asked || bytes_eq s.name asked) list (in_more seen structs s.name (member_table s) in_it)
          (second_empty (faults_in_struct structs depths s) _ none),
    )

-- ---- files

abbrev none_seen : Text → Bool
none_seen name = false

nothing_seen : {A : Type 0} (table : Table A) → InTable none_seen table
nothing_seen table name is = absurd (cc)

module _ (file : Parts) (formed : WellFormed file) where
  abbrev table : Table (Table CMember)
  table = struct_table file.structs

  structs_faultless : struct_faults_after no_entries no_entries file.structs ≡ []
  unfolding faults_in
  structs_faultless = first_empty (struct_faults_after no_entries no_entries file.structs) _ formed.none

  functions_faultless : function_faults_after table no_entries no_entries file.funcs ≡ []
  unfolding faults_in
  functions_faultless = first_empty _ _ (second_empty (struct_faults_after no_entries no_entries file.structs) _ formed.none)

  -- a function that is there is the only one of its name
  pub function_alone : (name : Text) (function : CFunc) → Contains file.funcs function → function.name ≡ name →
      (one : CFunc) × (functions_named name file ≡ one ∷ [])
  function_alone name function at is =
      one_named name_of_function name none_seen file.funcs function at is
      (functions_differ table no_entries no_entries none_seen file.funcs (nothing_seen {A = Signature} no_entries) functions_faultless)

  -- and so is a struct
  pub struct_alone : (name : Text) (struct : CStruct) → Contains file.structs struct → struct.name ≡ name →
      (one : CStruct) × (structs_named name file ≡ one ∷ [])
  struct_alone name struct at is =
      one_named name_of_struct name none_seen file.structs struct at is
      (structs_differ no_entries no_entries none_seen file.structs (nothing_seen {A = Table CMember} no_entries) structs_faultless)
