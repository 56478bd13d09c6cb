-- The scalars of structs, as the structs' members lay them out.
use Rattle.std.proofs.Common.{◌≡◌, ℕ, Bool, true, false, ◌&&◌, List, [], ◌∷◌, ◌++◌, map, Option, Some, None, refl, ap, sym, subst, ◌∙◌}
use Rattle.std.specs.Prelude.{flat_map, is_some, is_none, bytes_eq, unwrap_or, if◌then◌else◌}
use Rattle.std.specs.List.{list_all}
use Rattle.std.specs.Option.{option_or}
use Rattle.std.proofs.lemmas.Slice.Eq.{bytes_eq-Decides}
use Rattle.std.proofs.lemmas.Bool.{and_from}
use Rattle.bl_tree.proofs.Basics.{and_first, and_second, first_empty, same_some, second_empty}
use Rattle.bl_tree.specs.declared.text.Text.{Text}
use Rattle.bl_tree.specs.declared.c.CType.{CType}
use Rattle.bl_tree.specs.declared.c.CType.TheVariants.{Scalar as OfScalar, Struct as OfStruct}
use Rattle.bl_tree.specs.declared.c.CMember.{CMember}
use Rattle.bl_tree.specs.declared.c.CStruct.{CStruct}
use Rattle.bl_ctext_semantics.specs.Cells.{Inner, inner_of_length, inner_of_type, inner_of_member, inner_after}
use Rattle.bl_ctext_semantics.specs.Faults.{distinct_names, declared_before, WellFormed, all_distinct}
use Rattle.bl_ctext_semantics.specs.Faults.{depth_of_struct, faults_in, faults_in_struct, is_declared, member_table}
use Rattle.bl_ctext_semantics.specs.Faults.{struct_faults_after, struct_table, unless}
use Rattle.bl_ctext_semantics.specs.Parts.{Parts}
use Rattle.bl_ctext_semantics.specs.Tables.{Table, found, no_entries, table_of, with_entry}
use Rattle.bl_ctext_semantics.proofs.MapLemmas.{next_entry, same_table}
use Rattle.bl_ctext_semantics_laws.specs.Fitting.{scalars}
use Rattle.bl_ctext_semantics.proofs.EndLemmas.{unless-nil}

abbrev pub Scalars : Type 0
Scalars = Table (List Inner)

abbrev pub Structs : Type 0
Structs = Table (Table CMember)

-- what is known of a struct: its members in order, with different names and declared types, and its scalars by them
pub record LaidOut (known : Scalars) (structs : Structs) (name : Text) (members : Table CMember) : Type 0 where
  pub list : List CMember
  pub table : members ≡ table_of (map (λ m. (m.name, m)) list)
  pub cells : known name ≡ Some (flat_map (inner_of_member known) list)
  pub apart : all_distinct no_entries (map (λ m. m.name) list) ≡ true
  pub declared : list_all (λ m. is_declared structs m.ty) list ≡ true

abbrev pub AllLaidOut : Scalars → Structs → Type 0
AllLaidOut known structs = (name : Text) (members : Table CMember) → structs name ≡ Some members → LaidOut known structs name members

-- both tables have the same names
abbrev pub Together : Scalars → Structs → Type 0
Together known structs = (name : Text) → is_some (known name) ≡ is_some (structs name)

-- ---- tables that grow

pub or-kept : {A : Type 0} (old : Option A) (same : Bool) (value : A) → is_some old ≡ true → option_or old (if same then Some value else None) ≡ old
or-kept (Some x) same value h = refl
or-kept None same value h = cc

or-some : {A : Type 0} (old : Option A) (same : Bool) (value : A) → is_some old ≡ true →
    is_some (option_or old (if same then Some value else None)) ≡ true
or-some (Some x) same value h = refl
or-some None same value h = cc

pub or-together : {A B : Type 0} (a : Option A) (b : Option B) (same : Bool) (v : A) (w : B) → is_some a ≡ is_some b →
    is_some (option_or a (if same then Some v else None)) ≡ is_some (option_or b (if same then Some w else None))
or-together (Some a) (Some b) same v w h = refl
or-together (Some a) None same v w h = cc
or-together None (Some b) same v w h = cc
or-together None None true v w h = refl
or-together None None false v w h = refl

module _ (known more : Scalars) (structs : Structs) (keeps : (name : Text) → is_some (structs name) ≡ true → more name ≡ known name) where
  type-same : (ty : CType) → is_declared structs ty ≡ true → inner_of_type known ty ≡ inner_of_type more ty
  type-same (OfScalar kind) h = refl
  type-same (OfStruct name) h = ap (λ o. unwrap_or o []) (sym (keeps name h))

  -- members of declared types have the same scalars in a table that grew
  pub members-same : (list : List CMember) → list_all (λ m. is_declared structs m.ty) list ≡ true →
      flat_map (inner_of_member known) list ≡ flat_map (inner_of_member more) list
  members-same [] h = refl
  members-same (m ∷ rest) h =
      ap (λ cells. inner_of_length m.name m.length cells ++ flat_map (inner_of_member known) rest) (type-same m.ty (and_first (is_declared structs m.ty) _ h))
      ∙ ap (λ cells. inner_of_member more m ++ cells) (members-same rest (and_second (is_declared structs m.ty) _ h))

module _ (known : Scalars) (structs : Structs) (s : CStruct) (together : Together known structs) where
  abbrev cells_now : List Inner
  cells_now = flat_map (inner_of_member known) s.members

  abbrev known_more : Scalars
  known_more = with_entry known s.name cells_now

  abbrev structs_more : Structs
  structs_more = with_entry structs s.name (member_table s)

  keeps : (name : Text) → is_some (structs name) ≡ true → known_more name ≡ known name
  keeps name h = or-kept (known name) (bytes_eq s.name name) cells_now (together name ∙ h)

  declared-more : (ty : CType) → is_declared structs ty ≡ true → is_declared structs_more ty ≡ true
  declared-more (OfScalar kind) h = refl
  declared-more (OfStruct name) h = or-some (structs name) (bytes_eq s.name name) (member_table s) h

  all-declared : (list : List CMember) → list_all (λ m. is_declared structs m.ty) list ≡ true →
      list_all (λ m. is_declared structs_more m.ty) list ≡ true
  all-declared [] h = refl
  all-declared (m ∷ rest) h =
      and_from (is_declared structs_more m.ty) _ (declared-more m.ty (and_first (is_declared structs m.ty) _ h))
      (all-declared rest (and_second (is_declared structs m.ty) _ h))

  grown : (name : Text) (members : Table CMember) → structs name ≡ Some members → LaidOut known structs name members →
      LaidOut known_more structs_more name members
  grown name members is laid = record {
    list = laid.list;
    table = laid.table;
    cells = keeps name (ap is_some is) ∙ laid.cells ∙ ap Some (members-same known known_more structs keeps laid.list laid.declared);
    apart = laid.apart;
    declared = all-declared laid.list laid.declared;
  }

  added : (name : Text) (members : Table CMember) → structs name ≡ None → s.name ≡ name → member_table s ≡ members →
      bytes_eq s.name name ≡ true →
      all_distinct no_entries (map (λ m. m.name) s.members) ≡ true → list_all (λ m. is_declared structs m.ty) s.members ≡ true →
      LaidOut known_more structs_more name members
  added name members absent named is same apart declared = record {
    list = s.members;
    table = sym is;
    cells = entry (known name) (bytes_eq s.name name) (together name ∙ ap is_some absent) same
        ∙ ap Some (members-same known known_more structs keeps s.members declared);
    apart = apart;
    declared = all-declared s.members declared;
  }
    where
      entry : (o : Option (List Inner)) (b : Bool) → is_some o ≡ false → b ≡ true →
          option_or o (if b then Some cells_now else None) ≡ Some cells_now
      entry None true h k = refl
      entry None false h k = cc
      entry (Some x) b h k = cc

  pub laid-next : AllLaidOut known structs → all_distinct no_entries (map (λ m. m.name) s.members) ≡ true →
      list_all (λ m. is_declared structs m.ty) s.members ≡ true →
      AllLaidOut known_more structs_more
  laid-next laid apart declared name members is = chosen (structs name) refl is
    where
      new : (b : Bool) → bytes_eq s.name name ≡ b → structs name ≡ None → (if b then Some (member_table s) else None) ≡ Some members →
          LaidOut known_more structs_more name members
      new true same absent h = added name members absent ((bytes_eq-Decides s.name name).0 same) (same_some (member_table s) members h) same apart declared
      new false same absent h = cc

      chosen : (o : Option (Table CMember)) → structs name ≡ o →
          option_or o (if bytes_eq s.name name then Some (member_table s) else None) ≡ Some members →
          LaidOut known_more structs_more name members
      chosen (Some old) there h = grown name members (there ∙ h) (laid name members (there ∙ h))
      chosen None absent h = new (bytes_eq s.name name) refl absent h

  pub together-next : Together known_more structs_more
  together-next name = or-together (known name) (structs name) (bytes_eq s.name name) cells_now (member_table s) (together name)

-- ---- all structs

known_after : Scalars → List CStruct → Scalars
known_after known [] = known
known_after known (s ∷ rest) = known_after (with_entry known s.name (flat_map (inner_of_member known) s.members)) rest

structs_after : Structs → List CStruct → Structs
structs_after structs [] = structs
structs_after structs (s ∷ rest) = structs_after (with_entry structs s.name (member_table s)) rest

known-is : (known : Scalars) (list : List CStruct) (name : Text) →
    known_after known list name ≡ option_or (known name) (found name (inner_after known list))
unfolding known_after
known-is known [] name = nothing (known name)
  where
    nothing : (o : Option (List Inner)) → o ≡ option_or o None
    nothing None = refl
    nothing (Some x) = refl
known-is known (s ∷ rest) name =
    let cells = flat_map (inner_of_member known) s.members in
    known-is (with_entry known s.name cells) rest name
    ∙ next_entry (known name) (bytes_eq s.name name) cells (found name (inner_after (with_entry known s.name cells) rest))

structs-is : (structs : Structs) (list : List CStruct) (name : Text) →
    structs_after structs list name ≡ option_or (structs name) (found name (map (λ s. (s.name, member_table s)) list))
unfolding structs_after
structs-is structs [] name = nothing (structs name)
  where
    nothing : (o : Option (Table CMember)) → o ≡ option_or o None
    nothing None = refl
    nothing (Some x) = refl
structs-is structs (s ∷ rest) name =
    structs-is (with_entry structs s.name (member_table s)) rest name
    ∙ next_entry (structs name) (bytes_eq s.name name) (member_table s) (found name (map (λ t. (t.name, member_table t)) rest))

all-after : (known : Scalars) (structs : Structs) (depths : Table ℕ) (list : List CStruct) → Together known structs → AllLaidOut known structs →
    struct_faults_after structs depths list ≡ [] →
    AllLaidOut (known_after known list) (structs_after structs list)
unfolding known_after structs_after
all-after known structs depths [] together laid none = laid
all-after known structs depths (s ∷ rest) together laid none =
    let here : faults_in_struct structs depths s ≡ [] = first_empty (faults_in_struct structs depths s) _ none in
    let later = second_empty (faults_in_struct structs depths s) _ none in
    let h1 = second_empty (unless (is_none (structs s.name)) distinct_names s.place) _ here in
    let declared = unless-nil _ declared_before s.place
    (first_empty (unless (list_all (λ m. is_declared structs m.ty) s.members) declared_before s.place) _ h1) in
    let h2 = second_empty (unless (list_all (λ m. is_declared structs m.ty) s.members) declared_before s.place) _ h1 in
    let apart = unless-nil _ distinct_names s.place (first_empty (unless (all_distinct no_entries (map (λ m. m.name) s.members)) distinct_names s.place) _ h2) in
    all-after (with_entry known s.name (flat_map (inner_of_member known) s.members)) (with_entry structs s.name (member_table s))
    (with_entry depths s.name (depth_of_struct depths s)) rest (together-next known structs s together)
    (laid-next known structs s together laid apart declared) later

nothing-laid : AllLaidOut no_entries no_entries
nothing-laid name members h = cc

-- the structs of a well-formed file are laid out by their members
pub laid-out : (file : Parts) → WellFormed file → AllLaidOut (scalars file.structs) (struct_table file.structs)
unfolding faults_in
laid-out file formed =
    let none : struct_faults_after no_entries no_entries file.structs ≡ [] =
    first_empty (struct_faults_after no_entries no_entries file.structs) _ formed.none in
    let laid : AllLaidOut (known_after no_entries file.structs) (structs_after no_entries file.structs) =
    all-after no_entries no_entries no_entries file.structs (λ name. refl) nothing-laid none in
    let known : known_after no_entries file.structs ≡ scalars file.structs =
    same_table (known_after no_entries file.structs) (scalars file.structs) (known-is no_entries file.structs) in
    let structs : structs_after no_entries file.structs ≡ struct_table file.structs =
    same_table (structs_after no_entries file.structs) (struct_table file.structs) (structs-is no_entries file.structs) in
    subst (λ k. AllLaidOut k (struct_table file.structs)) known (subst (λ t. AllLaidOut (known_after no_entries file.structs) t) structs laid)
