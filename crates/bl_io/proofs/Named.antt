-- The files by name, read from the map that keeps them.
use Rattle.std.proofs.Common.{◌≡◌, ℕ, cond, List, [], ◌∷◌, Option, Some, String, map as each, refl, sym, ◌∙◌, ap}
use Rattle.std.proofs.lemmas.Map.Text.{btree_map_updates_text, is_eq-slice_cmp}
use Rattle.std.specs.BTreeMap as tree
use Rattle.std.specs.Cmp.{eq_by_cmp_equiv}
use Rattle.std.specs.Cmp.Lexicographic.{slice_cmp, nat_list_cmp_total}
use Rattle.std.specs.FinMap as map
use Rattle.std.specs.Map.{lookup}
use Rattle.std.specs.Ordering.{nat_cmp, eq_by_cmp, is_eq}
use Rattle.std.specs.String.{string_bytes, string_cmp}
use Rattle.bl_io.specs.Store.{LeftByName}

-- the entries, with the bytes of each name
abbrev pub named : {Z : Type 0} → List (String Z × List ℕ) → List (List ℕ × List ℕ)
named es = each (λ e. (string_bytes e.0, e.1)) es

-- the files that a map holds
abbrev pub files_of : {Z : Type 0} → tree.BTreeMap (String Z) (List ℕ) → LeftByName
files_of m = map.from_entries (named m.entries)

find-named : {Z : Type 0} (q : List ℕ) (es : List (String Z × List ℕ)) →
    map.find (slice_cmp nat_cmp) q (named es) ≡ lookup (λ k. is_eq (slice_cmp nat_cmp q (string_bytes k))) es
find-named q [] = refl
find-named q (e ∷ es) = ap (cond (eq_by_cmp (slice_cmp nat_cmp) q (string_bytes e.0)) (Some e.1)) (find-named q es)

pub get-files_of : {Z : Type 0} (m : tree.BTreeMap (String Z) (List ℕ)) (q : List ℕ) → map.get (files_of m) q ≡ tree.get_by_text m q
get-files_of m q = map.get-from_entries nat_list_cmp_total (named m.entries) q ∙ find-named q m.entries

-- a change at one name is a change of the files at that name
pub files_of-update : {Z : Type 0} (m n : tree.BTreeMap (String Z) (List ℕ)) (name bytes : List ℕ) →
    tree.UpdatesBy string_cmp (λ k. slice_cmp nat_cmp name (string_bytes k)) m n (Some bytes) → files_of n ≡ map.insert (files_of m) name bytes
files_of-update m n name bytes updates =
    map.same_map nat_list_cmp_total (map.slice_cmp-IsAntisymmetric map.nat_cmp-IsAntisymmetric) _ _ (λ q.
    get-files_of n q
    ∙ btree_map_updates_text name m n (Some bytes) updates q
    ∙ ap (λ b. cond b (Some bytes) (tree.get_by_text m q)) (sym (is_eq-slice_cmp name q) ∙ (eq_by_cmp_equiv nat_list_cmp_total).symm name q)
    ∙ ap (cond (eq_by_cmp (slice_cmp nat_cmp) q name) (Some bytes)) (sym (get-files_of m q))
    ∙ sym (map.get-insert nat_list_cmp_total (files_of m) name bytes q))

-- what a look-up by the bytes of a name found is what is left of that name
pub get-seen : {Z : Type 0} (m : tree.BTreeMap (String Z) (List ℕ)) (files : LeftByName) (q : List ℕ) (found : Option (List ℕ)) →
    files_of m ≡ files → found ≡ tree.get_by_text m q → map.get files q ≡ found
get-seen m files q found seen is = ap (λ f. map.get f q) (sym seen) ∙ get-files_of m q ∙ sym is
