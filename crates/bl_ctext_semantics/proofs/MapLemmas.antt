-- Maps as tables.
use Rattle.std.proofs.Common.{◌≡◌, ℕ, Bool, true, false, List, Option, Some, None, refl, ap, subst, ◌∙◌}
use Rattle.std.specs.Prelude.{bytes_eq, is_some, option_map, if◌then◌else◌}
use Rattle.std.specs.Option.{option_or}
use Rattle.std.specs.Map.{update}
use Rattle.std.proofs.lemmas.Slice.Eq.{bytes_eq-Decides}
use Rattle.bl_ctext_semantics.specs.Tables.{Table, with_entry}

at_absent : {A : Type 0} (same : Bool) (old : Option A) (value : A) → (same ≡ true → old ≡ None) →
    (if same then Some value else old) ≡ option_or old (if same then Some value else None)
at_absent true None value h = refl
at_absent false None value h = refl
at_absent false (Some x) value h = refl
at_absent true (Some x) value h = cc (h refl)

none_of : {A : Type 0} (o : Option A) → is_some o ≡ false → o ≡ None
none_of None h = refl
none_of (Some x) h = cc

-- a map after an insertion of a name that it didn't have
pub inserted : {A : Type 0} (old : Table A) (name : List ℕ) (value : A) → is_some (old name) ≡ false → (asked : List ℕ) →
    update bytes_eq old name (Some value) asked ≡ with_entry old name value asked
inserted old name value absent asked =
    at_absent (bytes_eq name asked) (old asked) value
    (λ same. subst (λ n. old n ≡ None) ((bytes_eq-Decides name asked).0 same) (none_of (old name) absent))

-- an entry is added now, or found later in the list
pub next_entry : {A : Type 0} (old : Option A) (same : Bool) (value : A) (rest : Option A) →
    option_or (option_or old (if same then Some value else None)) rest ≡ option_or old (if same then Some value else rest)
next_entry (Some x) same value rest = refl
next_entry None true value rest = refl
next_entry None false value rest = refl

pub nothing_after : {A : Type 0} (old : Option A) → option_or old None ≡ old
nothing_after (Some x) = refl
nothing_after None = refl

pub only_second : {A : Type 0} (old rest : Option A) → old ≡ None → option_or old rest ≡ rest
only_second None rest h = refl
only_second (Some x) rest h = cc

-- two tables that have the same under each name are one
pub same_table : {A : Type 0} (s t : Table A) → ((asked : List ℕ) → s asked ≡ t asked) → s ≡ t
same_table s t h = λ i asked. h asked i

-- what is made of an entry is there where the entry is
pub some_mapped : {A B : Type 0} (f : A → B) (o : Option A) → is_some (option_map f o) ≡ is_some o
some_mapped f (Some a) = refl
some_mapped f None = refl

-- what is made of the entries of a table with one more
pub entry_mapped : {A B : Type 0} (f : A → B) (old : Option A) (same : Bool) (value : A) →
    option_map f (option_or old (if same then Some value else None)) ≡ option_or (option_map f old) (if same then Some (f value) else None)
entry_mapped f (Some a) same value = refl
entry_mapped f None true value = refl
entry_mapped f None false value = refl

-- a struct is added, where its members stand in a map
pub struct_added : {A B : Type 0} (f : A → B) (old new : Table A) (name : List ℕ) (value : A) (whole : B) → f value ≡ whole →
    ((asked : List ℕ) → new asked ≡ with_entry old name value asked) → (asked : List ℕ) →
    option_map f (new asked) ≡ with_entry (λ n. option_map f (old n)) name whole asked
struct_added f old new name value whole is add asked =
    ap (option_map f) (add asked) ∙ entry_mapped f (old asked) (bytes_eq name asked) value
    ∙ ap (λ w. option_or (option_map f (old asked)) (if bytes_eq name asked then Some w else None)) is
