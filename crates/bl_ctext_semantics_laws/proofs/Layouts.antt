-- The structs of a well-formed file: their members, sizes, scalars and layouts.
use Rattle.std.proofs.Common.{◌≡◌, ℕ, ◌+◌, Bool, true, false, List, [], ◌∷◌, ◌++◌, map, Option, Some, None, refl, ap, sym, subst, ◌∙◌, arith}
use Rattle.std.specs.Prelude.{flat_map, is_some, is_none, bytes_eq, unwrap_or, option_map, option_and_then, if◌then◌else◌}
use Rattle.std.specs.List.{list_all}
use Rattle.std.specs.Option.{option_or}
use Rattle.std.proofs.lemmas.Bool.{and_from}
use Rattle.bl_tree.proofs.Basics.{and_first, and_second, first_empty, none_plus, same_some, second_empty}
use Rattle.bl_tree.specs.declared.text.Text.{Text}
use Rattle.bl_tree.specs.declared.c.CType.{CType}
use Rattle.bl_tree.specs.declared.c.CType.TheVariants.{Scalar as OfScalar, Struct as OfStruct}
use Rattle.bl_tree.specs.declared.c.CMember.{CMember}
use Rattle.bl_tree.specs.declared.c.CStruct.{CStruct}
use Rattle.bl_tree.specs.Reduce.{total}
use Rattle.bl_ctext_semantics.specs.Cells.{Inner, inner_of_length, inner_of_type, inner_of_member, inner_after}
use Rattle.bl_ctext_semantics.specs.Sizes.{Sizes, size_of_length, size_of_member, size_of_struct, size_of_type, sizes, sizes_after}
use Rattle.bl_ctext_semantics.specs.Faults.{distinct_names, declared_before, WellFormed, depth_of_struct, faults_in, faults_in_struct, is_declared}
use Rattle.bl_ctext_semantics.specs.Faults.{member_table, struct_faults_after, struct_table, unless}
use Rattle.bl_ctext_semantics.specs.Parts.{Parts}
use Rattle.bl_ctext_semantics.specs.Tables.{Table, found, no_entries, table_of, with_entry}
use Rattle.bl_ctext_semantics.proofs.MapLemmas.{next_entry, nothing_after, same_table}
use Rattle.bl_ctext_semantics_laws.specs.Fitting.{scalars}
use Rattle.bl_ctext_semantics_laws.specs.Layout.{capped, capped_sizes, layouts, members_laid}
use Rattle.bl_ctext_semantics_laws.proofs.Faultless.{unless-nil}
use Rattle.bl_ctext_semantics_laws.proofs.Entries.{found-made}
use Rattle.bl_ctext_semantics_laws.proofs.Ways.{Lists, Shaped, Structs, by_name, offset_in}
use Rattle.bl_ctext_semantics_laws.proofs.FlatPlaces.{capped-factor}
use Rattle.bl_ctext_semantics_laws.proofs.Running.{LaidAs, Laying}
use Rattle.bl_ctext_semantics_laws.proofs.Members.{or-kept, or-together}

-- ---- tables that grow

or-some : {A : Type 0} (old : Option A) (same : Bool) (value : A) → is_some old ≡ true →
    is_some (option_or old (if same then Some value else None)) ≡ true
or-some (Some x) same value h = refl
or-some None same value h = cc

-- the entries of a list of structs, after those of a table
abbrev pub entries_after : {B : Type 0} → (CStruct → B) → Table B → List CStruct → Table B
entries_after f table [] = table
entries_after f table (s ∷ rest) = entries_after f (with_entry table s.name (f s)) rest

entries-are : {B : Type 0} (f : CStruct → B) (table : Table B) (list : List CStruct) (name : Text) →
    entries_after f table list name ≡ option_or (table name) (found name (map (λ s. (s.name, f s)) list))
entries-are f table [] name = sym (nothing_after (table name))
entries-are f table (s ∷ rest) name =
    entries-are f (with_entry table s.name (f s)) rest name
    ∙ next_entry (table name) (bytes_eq s.name name) (f s) (found name (map (λ t. (t.name, f t)) rest))

pub entries-all : {B : Type 0} (f : CStruct → B) (list : List CStruct) → entries_after f no_entries list ≡ table_of (map (λ s. (s.name, f s)) list)
entries-all f list = same_table (entries_after f no_entries list) (table_of (map (λ s. (s.name, f s)) list)) (entries-are f no_entries list)

-- ---- what is made of the members of each struct, over what was made of the earlier ones

module _ {A : Type 0} (value : Table A → List CMember → A)
    (same : (known more : Table A) (structs : Structs) → ((name : Text) → is_some (structs name) ≡ true → more name ≡ known name) →
    (ms : List CMember) →
    list_all (λ m. is_declared structs m.ty) ms ≡ true → value known ms ≡ value more ms) where
  abbrev pub values_after : Table A → List CStruct → Table A
  values_after known [] = known
  values_after known (s ∷ rest) = values_after (with_entry known s.name (value known s.members)) rest

  -- what is known of the struct of a name
  pub record Made (known : Table A) (structs : Structs) (name : Text) (ms : List CMember) : Type 0 where
    pub is : known name ≡ Some (value known ms)
    pub declared : list_all (λ m. is_declared structs m.ty) ms ≡ true

  abbrev AllMade : Table A → Structs → Lists → Type 0
  AllMade known structs lists = (name : Text) (ms : List CMember) → lists name ≡ Some ms → Made known structs name ms

  module _ (known : Table A) (structs : Structs) (lists : Lists) (s : CStruct) (together : (name : Text) → is_some (known name) ≡ is_some (structs name))
      (listed : (name : Text) → is_some (lists name) ≡ is_some (structs name)) where
    abbrev known_more : Table A
    known_more = with_entry known s.name (value known s.members)

    abbrev structs_more : Structs
    structs_more = with_entry structs s.name (member_table s)

    abbrev lists_more : Lists
    lists_more = with_entry lists s.name s.members

    keeps : (name : Text) → is_some (structs name) ≡ true → known_more name ≡ known name
    keeps name h = or-kept (known name) (bytes_eq s.name name) (value known s.members) (together name ∙ h)

    declared-more : (ty : CType) → is_declared structs ty ≡ true → is_declared structs_more ty ≡ true
    declared-more (OfScalar kind) h = refl
    declared-more (OfStruct name) h = or-some (structs name) (bytes_eq s.name name) (member_table s) h

    all-declared : (list : List CMember) → list_all (λ m. is_declared structs m.ty) list ≡ true →
        list_all (λ m. is_declared structs_more m.ty) list ≡ true
    all-declared [] h = refl
    all-declared (m ∷ rest) h =
        and_from (is_declared structs_more m.ty) _ (declared-more m.ty (and_first (is_declared structs m.ty) _ h))
        (all-declared rest (and_second (is_declared structs m.ty) _ h))

    made-next : AllMade known structs lists → list_all (λ m. is_declared structs m.ty) s.members ≡ true → AllMade known_more structs_more lists_more
    made-next made declared name ms is = chosen (lists name) refl is
      where
        new : (b : Bool) → bytes_eq s.name name ≡ b → lists name ≡ None → (if b then Some s.members else None) ≡ Some ms →
            Made known_more structs_more name ms
        new false same-name absent h = cc
        new true same-name absent h =
            let e : s.members ≡ ms = same_some s.members ms h in
            record {
              is = entry (known name) (together name ∙ sym (listed name) ∙ ap is_some absent)
                  ∙ ap Some (same known known_more structs keeps s.members declared) ∙ ap (λ x. Some (value known_more x)) e;
              declared = subst (λ x. list_all (λ m. is_declared structs_more m.ty) x ≡ true) e (all-declared s.members declared);
            }
          where
            entry : (o : Option A) → is_some o ≡ false →
                option_or o (if bytes_eq s.name name then Some (value known s.members) else None) ≡ Some (value known s.members)
            entry None h = ap (λ b. if b then Some (value known s.members) else None) same-name
            entry (Some x) h = cc

        chosen : (o : Option (List CMember)) → lists name ≡ o → option_or o (if bytes_eq s.name name then Some s.members else None) ≡ Some ms →
            Made known_more structs_more name ms
        chosen (Some old) there h =
            let m : Made known structs name ms = made name ms (there ∙ h) in
            record {
              is = keeps name (sym (listed name) ∙ ap is_some there) ∙ m.is ∙ ap Some (same known known_more structs keeps ms m.declared);
              declared = all-declared ms m.declared;
            }
        chosen None absent h = new (bytes_eq s.name name) refl absent h

  all-after : (known : Table A) (structs : Structs) (lists : Lists) (depths : Table ℕ) (list : List CStruct) →
      ((name : Text) → is_some (known name) ≡ is_some (structs name)) →
      ((name : Text) → is_some (lists name) ≡ is_some (structs name)) → AllMade known structs lists → struct_faults_after structs depths list ≡ [] →
      AllMade (values_after known list) (entries_after member_table structs list) (entries_after (λ s. s.members) lists list)
  all-after known structs lists depths [] together listed made none = made
  all-after known structs lists depths (s ∷ rest) together listed made none =
      let here : faults_in_struct structs depths s ≡ [] = first_empty (faults_in_struct structs depths s) _ none in
      let later = second_empty (faults_in_struct structs depths s) _ none in
      let h1 = second_empty (unless (is_none (structs s.name)) distinct_names s.place) _ here in
      let declared = unless-nil _ declared_before s.place (first_empty (unless (list_all (λ m. is_declared structs m.ty) s.members) declared_before s.place) _ h1)
      in
      all-after (with_entry known s.name (value known s.members)) (with_entry structs s.name (member_table s)) (with_entry lists s.name s.members)
      (with_entry depths s.name (depth_of_struct depths s)) rest
      (λ name. or-together (known name) (structs name) (bytes_eq s.name name) (value known s.members) (member_table s) (together name))
      (λ name. or-together (lists name) (structs name) (bytes_eq s.name name) s.members (member_table s) (listed name))
      (made-next known structs lists s together listed made declared) later

  nothing-made : AllMade no_entries no_entries no_entries
  nothing-made name ms h = cc

  -- what is made of the structs of a well-formed file
  pub made-all : (file : Parts) → WellFormed file →
      AllMade (values_after no_entries file.structs) (struct_table file.structs) (table_of (map (λ s. (s.name, s.members)) file.structs))
  unfolding faults_in
  made-all file formed =
      let none : struct_faults_after no_entries no_entries file.structs ≡ [] =
      first_empty (struct_faults_after no_entries no_entries file.structs) _ formed.none in
      subst (λ t. AllMade (values_after no_entries file.structs) t (table_of (map (λ s. (s.name, s.members)) file.structs)))
      (entries-all member_table file.structs)
      (subst (λ l. AllMade (values_after no_entries file.structs) (entries_after member_table no_entries file.structs) l)
      (entries-all (λ s. s.members) file.structs)
      (all-after no_entries no_entries no_entries no_entries file.structs (λ name. refl) (λ name. refl) nothing-made none))

-- ---- sizes

size-same : (known more : Sizes) (structs : Structs) → ((name : Text) → is_some (structs name) ≡ true → more name ≡ known name) → (ty : CType) →
    is_declared structs ty ≡ true → size_of_type known ty ≡ size_of_type more ty
size-same known more structs keeps (OfScalar kind) h = refl
size-same known more structs keeps (OfStruct name) h = ap (λ o. unwrap_or o 0) (sym (keeps name h))

sizes-same : (known more : Sizes) (structs : Structs) → ((name : Text) → is_some (structs name) ≡ true → more name ≡ known name) →
    (ms : List CMember) →
    list_all (λ m. is_declared structs m.ty) ms ≡ true →
    total (map (size_of_member known) ms) ≡ total (map (size_of_member more) ms)
sizes-same known more structs keeps [] h = refl
sizes-same known more structs keeps (m ∷ ms) h =
    ap (λ n. size_of_length m.length n + total (map (size_of_member known) ms))
    (size-same known more structs keeps m.ty (and_first (is_declared structs m.ty) _ h))
    ∙ ap (λ n. size_of_member more m + n) (sizes-same known more structs keeps ms (and_second (is_declared structs m.ty) _ h))

sizes-are : (known : Sizes) (list : List CStruct) →
    values_after (λ known ms. total (map (size_of_member known) ms)) sizes-same known list ≡ sizes_after known list
sizes-are known [] = refl
sizes-are known (s ∷ rest) = sizes-are (with_entry known s.name (size_of_struct known s)) rest

-- ---- scalars

inner-same : (known more : Table (List Inner)) (structs : Structs) →
    ((name : Text) → is_some (structs name) ≡ true → more name ≡ known name) → (ty : CType) →
    is_declared structs ty ≡ true → inner_of_type known ty ≡ inner_of_type more ty
inner-same known more structs keeps (OfScalar kind) h = refl
inner-same known more structs keeps (OfStruct name) h = ap (λ o. unwrap_or o []) (sym (keeps name h))

inners-same : (known more : Table (List Inner)) (structs : Structs) → ((name : Text) → is_some (structs name) ≡ true → more name ≡ known name) →
    (ms : List CMember) → list_all (λ m. is_declared structs m.ty) ms ≡ true →
    flat_map (inner_of_member known) ms ≡ flat_map (inner_of_member more) ms
inners-same known more structs keeps [] h = refl
inners-same known more structs keeps (m ∷ ms) h =
    ap (λ cells. inner_of_length m.name m.length cells ++ flat_map (inner_of_member known) ms)
    (inner-same known more structs keeps m.ty (and_first (is_declared structs m.ty) _ h))
    ∙ ap (λ cells. inner_of_member more m ++ cells) (inners-same known more structs keeps ms (and_second (is_declared structs m.ty) _ h))

inners-are : (known : Table (List Inner)) (list : List CStruct) (name : Text) →
    values_after (λ known ms. flat_map (inner_of_member known) ms) inners-same known list name ≡ option_or (known name) (found name (inner_after known list))
inners-are known [] name = sym (nothing_after (known name))
inners-are known (s ∷ rest) name =
    inners-are (with_entry known s.name (flat_map (inner_of_member known) s.members)) rest name
    ∙ next_entry (known name) (bytes_eq s.name name) (flat_map (inner_of_member known) s.members)
    (found name (inner_after (with_entry known s.name (flat_map (inner_of_member known) s.members)) rest))

inners-all : (list : List CStruct) → values_after (λ known ms. flat_map (inner_of_member known) ms) inners-same no_entries list ≡ scalars list
inners-all list = same_table (values_after (λ known ms. flat_map (inner_of_member known) ms) inners-same no_entries list) (scalars list)
    (inners-are no_entries list)

-- ---- the file

-- the members of each struct of a file
abbrev pub lists_of : List CStruct → Lists
lists_of list = table_of (map (λ s. (s.name, s.members)) list)

pub shaped-file : (file : Parts) → WellFormed file → Shaped (sizes file.structs) (lists_of file.structs) (struct_table file.structs)
shaped-file file formed = record {
  tables = found-made (λ s. s.name) (λ s. s.members) (λ ms. table_of (by_name ms)) file.structs;
  sized = λ name ms is.
      subst (λ k. k name ≡ Some (total (map (size_of_member k) ms))) (sizes-are no_entries file.structs)
      (made-all (λ known ms. total (map (size_of_member known) ms)) sizes-same file formed name ms is).is;
}

-- the scalars of a struct are those of its members
pub inner-file : (file : Parts) → WellFormed file → (name : Text) (ms : List CMember) → lists_of file.structs name ≡ Some ms →
    scalars file.structs name ≡ Some (flat_map (inner_of_member (scalars file.structs)) ms)
inner-file file formed name ms is =
    subst (λ k. k name ≡ Some (flat_map (inner_of_member k) ms)) (inners-all file.structs)
    (made-all (λ known ms. flat_map (inner_of_member known) ms) inners-same file formed name ms is).is

-- ---- layouts

capped-entry : (o : Option ℕ) → unwrap_or (option_map capped o) 0 ≡ capped (unwrap_or o 0)
capped-entry None = refl
capped-entry (Some n) = refl

pub capped-type : (list : List CStruct) (ty : CType) → size_of_type (capped_sizes list) ty ≡ capped (size_of_type (sizes list) ty)
capped-type list (OfScalar kind) = refl
capped-type list (OfStruct name) = capped-entry (sizes list name)

capped-length : (length : Option ℕ) (at size : ℕ) → capped (capped at + size_of_length length (capped size)) ≡ capped (at + size_of_length length size)
capped-length None at size = omega arith
capped-length (Some n) at size = let e = capped-factor n (capped at) size in e ∙ omega arith

pub capped-member : (list : List CStruct) (at : ℕ) (m : CMember) →
    capped (capped at + size_of_member (capped_sizes list) m) ≡ capped (at + size_of_member (sizes list) m)
capped-member list at m =
    ap (λ s. capped (capped at + size_of_length m.length s)) (capped-type list m.ty) ∙ capped-length m.length at (size_of_type (sizes list) m.ty)

members-as : (list : List CStruct) (at k : ℕ) (ms : List CMember) (name : Text) (m : CMember) → k ≡ capped at → found name (by_name ms) ≡ Some m →
    LaidAs (found name (members_laid (capped_sizes list) k ms)) m (at + offset_in (sizes list) ms name)
members-as list at k [] name m is h = cc
members-as list at k (x ∷ ms) name m is h =
    chosen (bytes_eq x.name name) h
    (λ later. members-as list (at + size_of_member (sizes list) x) (capped (k + size_of_member (capped_sizes list) x)) ms name m
    (ap (λ n. capped (n + size_of_member (capped_sizes list) x)) is ∙ capped-member list at x) later)
  where
    chosen : (b : Bool) → (if b then Some x else found name (by_name ms)) ≡ Some m →
        (found name (by_name ms) ≡ Some m →
        LaidAs (found name (members_laid (capped_sizes list) (capped (k + size_of_member (capped_sizes list) x)) ms)) m
        (at + size_of_member (sizes list) x + offset_in (sizes list) ms name)) →
        LaidAs (if b then Some (record { at = k; it = x }) else found name
        (members_laid (capped_sizes list) (capped (k + size_of_member (capped_sizes list) x)) ms)) m
        (at + (if b then 0 else size_of_member (sizes list) x + offset_in (sizes list) ms name))
    chosen true h rest = record { laid = record { at = k; it = x }; is = refl; it = same_some x m h; at = is ∙ omega arith }
    chosen false h rest =
        let r = rest h in
        record { laid = r.laid; is = r.is; it = r.it; at = r.at ∙ omega arith }

pub laying-file : (file : Parts) →
    Laying (sizes file.structs) (lists_of file.structs) (struct_table file.structs) (capped_sizes file.structs) (layouts file.structs)
laying-file file = record {
  sized = λ name. refl;
  laid = λ struct name list m is there.
      let table : layouts file.structs struct ≡ Some (table_of (members_laid (capped_sizes file.structs) 0 list)) =
      found-made (λ s. s.name) (λ s. s.members) (λ ms. table_of (members_laid (capped_sizes file.structs) 0 ms)) file.structs struct
      ∙ ap (option_map (λ ms. table_of (members_laid (capped_sizes file.structs) 0 ms))) is in
      let members : struct_table file.structs struct ≡ Some (table_of (by_name list)) =
      found-made (λ s. s.name) (λ s. s.members) (λ ms. table_of (by_name ms)) file.structs struct ∙ ap (option_map (λ ms. table_of (by_name ms))) is in
      let at : found name (by_name list) ≡ Some m = ap (option_and_then (λ t. t name)) (sym members) ∙ there in
      subst (λ o. LaidAs (option_and_then (λ t. t name) o) m (offset_in (sizes file.structs) list name)) (sym table)
      (subst (λ n. LaidAs (found name (members_laid (capped_sizes file.structs) 0 list)) m n) (none_plus (offset_in (sizes file.structs) list name))
      (members-as file.structs 0 0 list name m refl at));
}
