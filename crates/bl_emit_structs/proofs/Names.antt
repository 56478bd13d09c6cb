-- Names that are taken, as a set and as a list.
use Rattle.std.proofs.Common.{◌≡◌, ℕ, true, false, not, if◌then◌else◌, ◌||◌, List, [], ◌∷◌}
use Rattle.std.proofs.Common.{◌++◌, map, refl, sym, ap, ◌∙◌}
use Rattle.std.specs.Prelude.{bytes_eq, string_bytes, string_eq}
use Rattle.std.specs.List.{list_any}
use Rattle.std.specs.Prelude.{String}
use Rattle.std.proofs.lemmas.Bool.{not-false, not-true}
use Rattle.indexmap.specs.IndexSet.{IndexSet, contains, insert_key}
use Rattle.bl_tree.specs.declared.c.CStruct.{CStruct}
use Rattle.bl_emit_structs.specs.inner.Added.{Collected, added}

module _ {Y S : Type 0} (structs : List CStruct) (old new : IndexSet (String Y) S) (key : String Y) (s : CStruct) where
  abbrev texts : List (String Y) → List (List ℕ)
  texts keys = map string_bytes keys

  abbrev seen : Collected
  seen = record { structs = structs; taken = texts old.keys }

  abbrev more : Collected
  more = record { structs = structs ++ s ∷ []; taken = texts old.keys ++ s.name ∷ [] }

  any_text : (name : List ℕ) (keys : List (String Y)) → list_any (λ k. bytes_eq name (string_bytes k)) keys ≡ list_any (bytes_eq name) (texts keys)
  any_text name [] = refl
  any_text name (k ∷ keys) = ap (λ b. bytes_eq name (string_bytes k) || b) (any_text name keys)

  texts-push : (keys : List (String Y)) → texts (keys ++ key ∷ []) ≡ texts keys ++ string_bytes key ∷ []
  texts-push [] = refl
  texts-push (k ∷ keys) = ap (λ rest. string_bytes k ∷ rest) (texts-push keys)

  module _ (name : string_bytes key ≡ s.name) (keys : new.keys ≡ insert_key string_eq old.keys key) where
    is_taken : contains string_eq old key ≡ list_any (bytes_eq s.name) (texts old.keys)
    is_taken = any_text (string_bytes key) old.keys ∙ ap (λ n. list_any (bytes_eq n) (texts old.keys)) name

    -- a name that is new to the set
    pub taken_new : not (contains string_eq old key) ≡ true → record { structs = structs ++ s ∷ []; taken = texts new.keys } ≡ added seen s
    taken_new is_new =
        let absent : contains string_eq old key ≡ false = not-true (contains string_eq old key) is_new in
        ap (λ taken. record { structs = structs ++ s ∷ []; taken = taken })
        (ap texts (keys ∙ ap (λ b. if b then old.keys else old.keys ++ key ∷ []) absent) ∙ texts-push old.keys
        ∙ ap (λ n. texts old.keys ++ n ∷ []) name)
        ∙ ap (λ b. if b then seen else more) (sym (sym is_taken ∙ absent))

    -- a name that the set has
    pub taken_before : not (contains string_eq old key) ≡ false → record { structs = structs; taken = texts new.keys } ≡ added seen s
    taken_before is_old =
        let there : contains string_eq old key ≡ true = not-false (contains string_eq old key) is_old in
        ap (λ taken. record { structs = structs; taken = taken }) (ap texts (keys ∙ ap (λ b. if b then old.keys else old.keys ++ key ∷ []) there))
        ∙ ap (λ b. if b then seen else more) (sym (sym is_taken ∙ there))
