-- Sums, products and tables of numbers, as far as 64 bits tell them.
use Rattle.std.proofs.Common.{◌≡◌, ℕ, zero, suc, ◌+◌, ◌*◌, ◌-◌, ◌^◌, ◌<◌, ◌≤◌, Bool, true, false, max, List, [], ◌∷◌, map, length, get_or, drop}
use Rattle.std.proofs.Common.{Option, Some, None, refl, ap, sym, subst, ◌∙◌, suc-mul, zero-mul, arith}
use Rattle.std.specs.Prelude.{bytes_eq, option_map, unwrap_or, if◌then◌else◌}
use Rattle.std.specs.Option.{option_or}
use Rattle.std.proofs.lemmas.List.{drop_all}
use Rattle.bl_tree.proofs.Basics.{drop_next, same_some}
use Rattle.bl_tree.specs.declared.text.Text.{Text}
use Rattle.bl_tree.specs.declared.c.CType.{CType}
use Rattle.bl_tree.specs.declared.c.CType.TheVariants.{Scalar as OfScalar, Struct as OfStruct}
use Rattle.bl_tree.specs.declared.c.CStruct.{CStruct}
use Rattle.bl_tree.specs.declared.c.CFunc.{CFunc}
use Rattle.bl_tree.specs.Reduce.{total, greatest}
use Rattle.bl_ctext_semantics.specs.Parts.{Parts}
use Rattle.bl_ctext_semantics.specs.Tables.{Table, entry_or, no_entries, with_entry}
use Rattle.bl_ctext_semantics.specs.Calls.{calls_in_block, most}
use Rattle.bl_ctext_semantics.specs.Loops.{turns_in_block}
use Rattle.bl_ctext_semantics.specs.Saturated.{AlikeSaturated, saturated}
use Rattle.bl_ctext_semantics.specs.Sizes.{size_of_length, size_of_type, size_of_member, size_of_struct, sizes_after, size_of_param, own_cells, chain_cells}
use Rattle.bl_ctext_semantics.specs.Sizes.{chains_after}

-- ---- numbers

pub twice : (n : ℕ) → saturated (saturated n) ≡ saturated n
twice n = omega arith

pub sum-alike : (a b c d : ℕ) → saturated a ≡ saturated b → saturated c ≡ saturated d → saturated (a + c) ≡ saturated (b + d)
sum-alike a b c d e f = omega arith

pub max-alike : (a b c d : ℕ) → saturated a ≡ saturated b → saturated c ≡ saturated d → saturated (max a c) ≡ saturated (max b d)
max-alike a b c d e f = omega arith

pub product-alike : (n a b : ℕ) → saturated a ≡ saturated b → saturated (n * a) ≡ saturated (n * b)
product-alike zero a b e = rw (zero-mul a, zero-mul b) refl
product-alike (suc n) a b e = rw (suc-mul n a, suc-mul n b) (sum-alike (n * a) (n * b) a b (product-alike n a b e) e)

-- ---- lists

pub total-alike : {X : Type 0} (f g : X → ℕ) → ((x : X) → saturated (f x) ≡ saturated (g x)) → (xs : List X) →
    saturated (total (map f xs)) ≡ saturated (total (map g xs))
total-alike f g h [] = refl
total-alike f g h (x ∷ xs) = sum-alike (f x) (g x) (total (map f xs)) (total (map g xs)) (h x) (total-alike f g h xs)

pub greatest-alike : {X : Type 0} (f g : X → ℕ) → ((x : X) → saturated (f x) ≡ saturated (g x)) → (xs : List X) →
    saturated (greatest (map f xs)) ≡ saturated (greatest (map g xs))
greatest-alike f g h [] = refl
greatest-alike f g h (x ∷ xs) = max-alike (f x) (g x) (greatest (map f xs)) (greatest (map g xs)) (h x) (greatest-alike f g h xs)

-- a sum that is told saturated, one by one: what it is so far, and what it comes to with the rest
abbrev pub Summed : {X : Type 0} → (X → ℕ) → List X → ℕ → ℕ → ℕ → Type 0
Summed f xs k so_far all = (so_far < 2 ^ 64) × (saturated (so_far + total (map f (drop k xs))) ≡ all)

moved : (so_far here there rest all : ℕ) → saturated here ≡ saturated there → saturated (so_far + (there + rest)) ≡ all →
    saturated (saturated (so_far + here) + rest) ≡ all
moved so_far here there rest all e h = omega arith

pub sum-next : {X : Type 0} (f : X → ℕ) (xs : List X) (k : ℕ) (x : X) (so_far here more all : ℕ) → k < length xs → x ≡ get_or xs k x →
    saturated here ≡ saturated (f x) →
    more ≡ saturated (so_far + here) → Summed f xs k so_far all → Summed f xs (k + 1) more all
sum-next f xs k x so_far here more all within is e told h =
    let rest = total (map f (drop (k + 1) xs)) in
    let whole : saturated (so_far + (f x + rest)) ≡ all = subst (λ l. saturated (so_far + total (map f l)) ≡ all) (drop_next xs k x within is) h.1 in
    (omega arith, ap (λ n. saturated (n + rest)) told ∙ moved so_far here (f x) rest all e whole)

pub sum-done : {X : Type 0} (f : X → ℕ) (xs : List X) (k so_far all : ℕ) → length xs ≤ k → Summed f xs k so_far all → so_far ≡ all
sum-done f xs k so_far all past h =
    let small : so_far < 2 ^ 64 = h.0 in
    let last : saturated (so_far + 0) ≡ all = subst (λ l. saturated (so_far + total (map f l)) ≡ all) (drop_all k xs past) h.1 in
    omega arith

-- ---- tables

alike-or : (a b : Option ℕ) → option_map saturated a ≡ option_map saturated b → saturated (unwrap_or a 0) ≡ saturated (unwrap_or b 0)
alike-or None None h = refl
alike-or None (Some b) h = cc
alike-or (Some a) None h = cc
alike-or (Some a) (Some b) h = same_some (saturated a) (saturated b) h

pub entry-alike : (s t : Table ℕ) → AlikeSaturated s t → (name : Text) → saturated (entry_or 0 s name) ≡ saturated (entry_or 0 t name)
entry-alike s t h name = alike-or (s name) (t name) (h name)

alike-with : (a b : Option ℕ) (same : Bool) (v w : ℕ) → option_map saturated a ≡ option_map saturated b → saturated v ≡ saturated w →
    option_map saturated (option_or a (if same then Some v else None)) ≡ option_map saturated (option_or b (if same then Some w else None))
alike-with None None true v w h e = ap Some e
alike-with None None false v w h e = refl
alike-with None (Some b) same v w h e = cc
alike-with (Some a) None same v w h e = cc
alike-with (Some a) (Some b) same v w h e = h

pub with-alike : (s t : Table ℕ) (name : Text) (v w : ℕ) → AlikeSaturated s t → saturated v ≡ saturated w →
    AlikeSaturated (with_entry s name v) (with_entry t name w)
with-alike s t name v w h e asked = alike-with (s asked) (t asked) (bytes_eq name asked) v w (h asked) e

-- a table after an entry was added, whose number is told saturated
added-alike : (old new : Table ℕ) (name : Text) (told n : ℕ) → told ≡ saturated n →
    ((asked : Text) → new asked ≡ with_entry old name told asked) →
    AlikeSaturated new (with_entry old name n)
added-alike old new name told n e add asked =
    ap (option_map saturated) (add asked) ∙ with-alike old old name told n (λ a. refl) (ap saturated e ∙ twice n) asked

-- ---- structs

pub type-alike : (s t : Table ℕ) → AlikeSaturated s t → (ty : CType) → saturated (size_of_type s ty) ≡ saturated (size_of_type t ty)
type-alike s t h (OfScalar kind) = refl
type-alike s t h (OfStruct name) = entry-alike s t h name

length-alike : (length : Option ℕ) (a b : ℕ) → saturated a ≡ saturated b → saturated (size_of_length length a) ≡ saturated (size_of_length length b)
length-alike None a b e = e
length-alike (Some n) a b e = product-alike n a b e

struct-alike : (s t : Table ℕ) → AlikeSaturated s t → (c : CStruct) → saturated (size_of_struct s c) ≡ saturated (size_of_struct t c)
struct-alike s t h c =
    total-alike (size_of_member s) (size_of_member t) (λ m. length-alike m.length (size_of_type s m.ty) (size_of_type t m.ty)
    (type-alike s t h m.ty)) c.members

sizes-alike : (s t : Table ℕ) → AlikeSaturated s t → (rest : List CStruct) → AlikeSaturated (sizes_after s rest) (sizes_after t rest)
sizes-alike s t h [] = h
sizes-alike s t h (c ∷ rest) =
    sizes-alike (with_entry s c.name (size_of_struct s c)) (with_entry t c.name (size_of_struct t c))
    (with-alike s t c.name (size_of_struct s c) (size_of_struct t c) h (struct-alike s t h c)) rest

-- one more struct
pub size-next : (old new : Table ℕ) (all rest : List CStruct) (c : CStruct) (size : ℕ) (x : Table ℕ) → all ≡ c ∷ rest →
    size ≡ saturated (size_of_struct old c) →
    ((asked : Text) → new asked ≡ with_entry old c.name size asked) → AlikeSaturated (sizes_after old all) x → AlikeSaturated (sizes_after new rest) x
size-next old new all rest c size x is e add h asked =
    sizes-alike new (with_entry old c.name (size_of_struct old c)) (added-alike old new c.name size (size_of_struct old c) e add) rest asked
    ∙ ap (λ l. option_map saturated (sizes_after old l asked)) (sym is) ∙ h asked

-- ---- functions

alike-if : (pointer : Bool) (a b : ℕ) → saturated a ≡ saturated b → saturated (if pointer then 1 else a) ≡ saturated (if pointer then 1 else b)
alike-if true a b e = refl
alike-if false a b e = e

own-alike : (s t : Table ℕ) → AlikeSaturated s t → (f : CFunc) → saturated (own_cells s f) ≡ saturated (own_cells t f)
own-alike s t h f =
    let loops = length (turns_in_block f.body) in
    sum-alike (total (map (size_of_param s) f.params)) (total (map (size_of_param t) f.params))
    (total (map (λ l. size_of_type s l.ty) f.locals) + loops) (total (map (λ l. size_of_type t l.ty) f.locals) + loops)
    (total-alike (size_of_param s) (size_of_param t) (λ p. alike-if p.pointer (size_of_type s p.ty) (size_of_type t p.ty) (type-alike s t h p.ty)) f.params)
    (sum-alike (total (map (λ l. size_of_type s l.ty) f.locals)) (total (map (λ l. size_of_type t l.ty) f.locals)) loops loops
    (total-alike (λ l. size_of_type s l.ty) (λ l. size_of_type t l.ty) (λ l. type-alike s t h l.ty) f.locals) refl)

chain-alike : (s t e d : Table ℕ) → AlikeSaturated s t → AlikeSaturated e d → (f : CFunc) →
    saturated (chain_cells s e f) ≡ saturated (chain_cells t d f)
chain-alike s t e d h i f =
    sum-alike (own_cells s f) (own_cells t f) (most e (calls_in_block f.body)) (most d (calls_in_block f.body)) (own-alike s t h f)
    (greatest-alike (entry_or 0 e) (entry_or 0 d) (entry-alike e d i) (calls_in_block f.body))

pub chains-alike : (s t e d : Table ℕ) → AlikeSaturated s t → AlikeSaturated e d → (rest : List CFunc) →
    saturated (greatest (chains_after s e rest)) ≡ saturated (greatest (chains_after t d rest))
chains-alike s t e d h i [] = refl
chains-alike s t e d h i (f ∷ rest) =
    let more = with_entry e f.name (chain_cells s e f) in
    let other = with_entry d f.name (chain_cells t d f) in
    max-alike (chain_cells s e f) (chain_cells t d f) (greatest (chains_after s more rest)) (greatest (chains_after t other rest)) (chain-alike s t e d h i f)
    (chains-alike s t more other h (with-alike e d f.name (chain_cells s e f) (chain_cells t d f) i (chain-alike s t e d h i f)) rest)

-- the deepest chain that is told saturated, one function after another
abbrev pub Deepest : Table ℕ → Table ℕ → List CFunc → ℕ → ℕ → Type 0
Deepest sizes earlier rest deepest all = (deepest < 2 ^ 64) × (saturated (max deepest (greatest (chains_after sizes earlier rest))) ≡ all)

deeper : (deepest chain exact now later x : ℕ) → chain ≡ saturated exact → saturated now ≡ saturated later →
    saturated (max deepest (max exact later)) ≡ x →
    saturated (max (max deepest chain) now) ≡ x
deeper deepest chain exact now later x e same h = omega arith

pub chain-next : (sizes old new : Table ℕ) (all rest : List CFunc) (f : CFunc) (chain deepest more x : ℕ) → all ≡ f ∷ rest →
    chain ≡ saturated (chain_cells sizes old f) →
    more ≡ max deepest chain → ((asked : Text) → new asked ≡ with_entry old f.name chain asked) → Deepest sizes old all deepest x →
    Deepest sizes new rest more x
chain-next sizes old new all rest f chain deepest more x is e told add h =
    let small : deepest < 2 ^ 64 = h.0 in
    let exact = chain_cells sizes old f in
    let later = greatest (chains_after sizes (with_entry old f.name exact) rest) in
    let now = greatest (chains_after sizes new rest) in
    let same : saturated now ≡ saturated later =
    chains-alike sizes sizes new (with_entry old f.name exact) (λ a. refl) (added-alike old new f.name chain exact e add) rest in
    let whole : saturated (max deepest (max exact later)) ≡ x = subst (λ l. saturated (max deepest (greatest (chains_after sizes old l))) ≡ x) is h.1 in
    (bounded deepest chain exact more small e told, ap (λ n. saturated (max n now)) told ∙ deeper deepest chain exact now later x e same whole)
  where
    bounded : (deepest chain exact more : ℕ) → deepest < 2 ^ 64 → chain ≡ saturated exact → more ≡ max deepest chain → more < 2 ^ 64
    bounded deepest chain exact more small e told = omega arith

pub chain-done : (sizes earlier : Table ℕ) (funcs : List CFunc) (k deepest x : ℕ) → length funcs ≤ k →
    Deepest sizes earlier (drop k funcs) deepest x →
    deepest ≡ x
chain-done sizes earlier funcs k deepest x past h =
    let small : deepest < 2 ^ 64 = h.0 in
    let last : saturated (max deepest 0) ≡ x = subst (λ l. saturated (max deepest (greatest (chains_after sizes earlier l))) ≡ x)
    (drop_all k funcs past) h.1 in
    omega arith

-- ---- a file

pub whole : (known sizes : Table ℕ) (a b c : Text) (deepest out ports all : ℕ) (file : Parts) → AlikeSaturated known sizes →
    deepest ≡ saturated (greatest (chains_after known no_entries file.funcs)) →
    out ≡ saturated (entry_or 0 known c + deepest) → ports ≡ saturated (entry_or 0 known b + out) → all ≡ saturated (entry_or 0 known a + ports) →
    all ≡ saturated (entry_or 0 sizes a + (entry_or 0 sizes b + (entry_or 0 sizes c + greatest (chains_after sizes no_entries file.funcs))))
whole known sizes a b c deepest out ports all file alike e f g h =
    told (entry_or 0 known a) (entry_or 0 known b) (entry_or 0 known c) (greatest (chains_after known no_entries file.funcs)) deepest out ports all e f g h
    ∙ sum-alike _ _ _ _ (entry-alike known sizes alike a)
    (sum-alike _ _ _ _ (entry-alike known sizes alike b)
    (sum-alike _ _ _ _ (entry-alike known sizes alike c) (chains-alike known sizes no_entries no_entries alike (λ name. refl) file.funcs)))
  where
    told : (a b c d deepest out ports all : ℕ) → deepest ≡ saturated d → out ≡ saturated (c + deepest) → ports ≡ saturated (b + out) →
        all ≡ saturated (a + ports) →
        all ≡ saturated (a + (b + (c + d)))
    told a b c d deepest out ports all e f g h = omega arith
