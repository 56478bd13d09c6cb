-- Names as maps and as lists.
use Rattle.std.proofs.Common.{◌≡◌, ℕ, cond, List, [], ◌∷◌, ◌++◌, Some, None, refl, ap, ◌∙◌}
use Rattle.std.specs.Prelude.{bytes_eq}
use Rattle.std.specs.Borrow.{Bor}
use Rattle.std.specs.Map.{lookup}
use Rattle.indexmap.specs.IndexMap.{IndexMap, insert_entry}
use Rattle.indexmap.proofs.CallerLemmas.{insert_entry-new}
use Rattle.bl_module.specs.declared.names.Referent.{Referent}
use Rattle.bl_module.specs.Names.{DeclaredNames, names_of_map, referent_of, with_name}

-- a look-up in a map is one in the list of its names
pub found_in : (asked : List ℕ) (entries : List (Bor (List ℕ) × Referent)) →
    lookup (λ key. bytes_eq asked key.now) entries ≡ referent_of (names_of_map entries) asked
found_in asked [] = refl
found_in asked (entry ∷ entries) = ap (λ rest. cond (bytes_eq asked entry.0.now) (Some entry.1) rest) (found_in asked entries)

names-append : (entries more : List (Bor (List ℕ) × Referent)) → names_of_map (entries ++ more) ≡ names_of_map entries ++ names_of_map more
names-append [] more = refl
names-append (entry ∷ entries) more = ap (λ rest. (entry.0.now, entry.1) ∷ rest) (names-append entries more)

-- a name that is new to a map goes last
pub added : {S : Type 0} (old new : IndexMap (Bor (List ℕ)) Referent S) (key : Bor (List ℕ)) (referent : Referent) (names : DeclaredNames)
    → names_of_map old.entries ≡ names → new.entries ≡ insert_entry (λ x y. bytes_eq x.now y.now) old.entries key referent
    → referent_of names key.now ≡ None → names_of_map new.entries ≡ with_name names key.now referent
added old new key referent names view is absent =
    ap names_of_map
    (is ∙ insert_entry-new (λ x y. bytes_eq x.now y.now) old key referent
    (found_in key.now old.entries ∙ ap (λ them. referent_of them key.now) view ∙ absent))
    ∙ names-append old.entries ((key, referent) ∷ [])
    ∙ ap (λ them. them ++ ((key.now, referent) ∷ [])) view
