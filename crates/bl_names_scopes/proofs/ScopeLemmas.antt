-- Scopes as maps and as lists of maps.
use Rattle.std.proofs.Common.{◌≡◌, ℕ, ◌+◌, ◌<◌, cond, List, [], ◌∷◌, ◌++◌, Some, None, refl, ap, ◌∙◌}
use Rattle.std.specs.Prelude.{bytes_eq}
use Rattle.std.specs.Borrow.{Bor}
use Rattle.std.specs.Map.{lookup}
use Rattle.indexmap.specs.IndexMap.{IndexMap, insert_entry}
use Rattle.indexmap.proofs.CallerLemmas.{insert_entry-new}
use Rattle.bl_parse_tree.specs.declared.name.Name.{Name}
use Rattle.bl_names_scopes.specs.declared.kind.Kind.{Kind}
use Rattle.bl_names_scopes.specs.declared.scopes.Declaration.{Declaration}
use Rattle.bl_names_scopes.specs.Scopes.{Declared, declaration_of, found, named, with_name}

-- a look-up in a map is one in the list of its names
pub found_named : (asked : List ℕ) (entries : List (Bor (List ℕ) × Declaration)) →
    lookup (λ key. bytes_eq asked key.now) entries ≡ found (named entries) asked
found_named asked [] = refl
found_named asked (entry ∷ entries) = ap (λ rest. cond (bytes_eq asked entry.0.now) (Some entry.1) rest) (found_named asked entries)

named-append : (entries more : List (Bor (List ℕ) × Declaration)) → named (entries ++ more) ≡ named entries ++ named more
named-append [] more = refl
named-append (entry ∷ entries) more = ap (λ rest. (entry.0.now, entry.1) ∷ rest) (named-append entries more)

-- a name that is new to a map goes last
pub inserted : {S : Type 0} (old new : IndexMap (Bor (List ℕ)) Declaration S) (key : Bor (List ℕ)) (declaration : Declaration)
    → new.entries ≡ insert_entry (λ x y. bytes_eq x.now y.now) old.entries key declaration → found (named old.entries) key.now ≡ None
    → named new.entries ≡ named old.entries ++ ((key.now, declaration) ∷ [])
inserted old new key declaration is absent =
    ap named (is ∙ insert_entry-new (λ x y. bytes_eq x.now y.now) old key declaration (found_named key.now old.entries ∙ absent))
    ∙ named-append old.entries ((key, declaration) ∷ [])

pub added : {S : Type 0} (old new : IndexMap (Bor (List ℕ)) Declaration S) (key : Bor (List ℕ)) (name : Name) (kind : Kind)
    (position : ℕ) (scope : Declared)
    → key.now ≡ name.text → named old.entries ≡ scope → new.entries ≡ insert_entry (λ x y. bytes_eq x.now y.now) old.entries key
    (declaration_of name kind position)
    → found scope name.text ≡ None → named new.entries ≡ with_name scope name kind position
added old new key name kind position scope text view is absent =
    inserted old new key (declaration_of name kind position) is (ap (found (named old.entries)) text ∙ ap (λ s. found s name.text) view ∙ absent)
    ∙ (λ i. view i ++ ((text i, declaration_of name kind position) ∷ []))
