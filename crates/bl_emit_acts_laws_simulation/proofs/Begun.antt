-- Copies that are set one after another have what their variables have.
use Rattle.std.proofs.Common.{◌≡◌, ℕ, Bool, true, false, ◌||◌, List, [], ◌∷◌, ◌++◌, map, Some, refl, sym, ap, ◌∙◌, subst}
use Rattle.std.proofs.lemmas.Bool.{eq-eqb, eqb-true}
use Rattle.std.proofs.lemmas.Option.{same_Some}
use Rattle.std.specs.Prelude.{nat_eq, slice_get}
use Rattle.std.specs.List.{list_any}
use Rattle.std.proofs.lemmas.Bool.{or_left as or_first, or_right}
use Rattle.bl_tree.proofs.Basics.{neither_first, neither_second}
use Rattle.bl_tree.specs.declared.tree.Var.{Var}
use Rattle.bl_tree.specs.declared.value.Value.{Value}
use Rattle.bl_tree.specs.Typing.{TypingContext, is_activity, var_at}
use Rattle.bl_ctext_semantics.specs.Course.{goes_on}
use Rattle.bl_ctext_semantics.specs.Memory.{Location, Memory, Projection, set_at, value_at}
use Rattle.bl_ctext_semantics.specs.Meaning.{Counted, Scope, block_c, location_c, runs_c, value_c}
use Rattle.bl_emit_acts.specs.Acts.{c_copied}
use Rattle.bl_emit_acts.specs.Places.{place_in}
use Rattle.bl_emit_acts.specs.Trees.{c_place, c_read}
use Rattle.bl_emit_acts.specs.Types.{copy_name}
use Rattle.bl_emit_acts_laws_simulation.specs.Acts.{BegunWith, CopiesApart, copy_location, lies_in}
use Rattle.bl_emit_acts_laws_simulation.specs.Encodes.{Encodes, VariablesEncoded, home_at, location_in}
use Rattle.bl_emit_acts_laws_simulation.proofs.Acts.{flipped}
use Rattle.bl_emit_acts_laws_simulation.proofs.Calls.{apart_lies}
use Rattle.bl_emit_acts_laws_simulation.proofs.Cells.{apart_flip, set_elsewhere}
use Rattle.bl_emit_acts_laws_simulation.proofs.Evaluated.{place-location}
use Rattle.bl_emit_acts_laws_simulation.proofs.Parts.{holds_same}
use Rattle.bl_emit_acts_laws_simulation.proofs.Places.{place_answer}
use Rattle.bl_emit_acts_laws_simulation.proofs.Statements.{Ends, set_after, set_ends, then_ends}
use Rattle.bl_emit_acts_laws_simulation.proofs.Values.{read_gives}
use Rattle.bl_emit_acts_laws_simulation.proofs.Writes.{apart_same, same_object}

pub or_other : (a b : Bool) → (a || b) ≡ true → b ≡ false → a ≡ true
or_other true b h i = refl
or_other false b h i = absurd (let no = sym h ∙ i in cc)

module _ (site : TypingContext) (copied : ℕ → Bool) (scope : Scope) (apart : CopiesApart site copied scope) (now : List Value) where
  -- each of these variables is there and has a copy
  abbrev Known : List ℕ → Type 0
  Known ks = (k : ℕ) → list_any (nat_eq k) ks ≡ true → (var : Var) × (var_at site k ≡ Some var) × (copied k ≡ true)

  abbrev at : ℕ → Location
  at k = location_in scope site k []

  abbrev copied_in : Memory → ℕ → Memory
  copied_in m j = set_at m (copy_location scope site.vars j) (value_at m (at j))

  variable_answer : (m : Memory) (j : ℕ) → (location_c (place_in site j []) scope m).answer ≡ Some (at j)
  variable_answer m j = place_answer scope m (is_activity site.kind) (home_at site j) site.vars j []

  copy_answer : (m : Memory) (j : ℕ) → (location_c (c_place false (copy_name site.vars j) []) scope m).answer ≡ Some (copy_location scope site.vars j)
  copy_answer m j = ap (λ (c : Counted Location). c.answer) (place-location scope m false (copy_name site.vars j) [])

  copy_ends : (m : Memory) (j : ℕ) → Ends (runs_c (c_copied site j) scope m) (Some (copied_in m j))
  copy_ends m j =
      subst (λ value. Ends (runs_c (c_copied site j) scope m) (set_after scope m (Some (copy_location scope site.vars j)) value))
      (read_gives site.structs scope m (place_in site j []) (at j) (variable_answer m j))
      (subst (λ place. Ends (runs_c (c_copied site j) scope m) (set_after scope m place (value_c (c_read (place_in site j [])) scope m).answer))
      (copy_answer m j) (set_ends scope m (c_place false (copy_name site.vars j) []) (c_read (place_in site j []))))

  variables_stay : (j : ℕ) → copied j ≡ true → (m : Memory) → VariablesEncoded site now scope m → VariablesEncoded site now scope (copied_in m j)
  variables_stay j has m variables = record {
    each = λ i other v known stored.
        holds_same site.structs other.ty v (value_at m (at i)) (value_at (copied_in m j) (at i))
        (λ way. sym (apart_same m (copy_location scope site.vars j) (value_at m (at j)) (at i)
        (apart_flip (at i) (copy_location scope site.vars j) (apart.variables i j other known has)) way))
        (variables.each i other v known stored);
  }

  -- what lies in the copy of a variable lies in no copy of others
  in_no_other : (j : ℕ) (var : Var) → var_at site j ≡ Some var → copied j ≡ true → (way : List Projection) (ks : List ℕ) → Known ks →
      list_any (nat_eq j) ks ≡ false →
      list_any (λ k. lies_in (copy_location scope site.vars k) (copy_location scope site.vars j).root ((copy_location scope site.vars j).parts ++ way))
      ks ≡ false
  in_no_other j var there has way [] known none = refl
  in_no_other j var there has way (k ∷ ks) known none =
      let found = known k (or_first (nat_eq k k) (list_any (nat_eq k) ks) (eq-eqb k k refl)) in
      ap (λ b. b || list_any (λ k. lies_in (copy_location scope site.vars k) (copy_location scope site.vars j).root
      ((copy_location scope site.vars j).parts ++ way)) ks)
      (apart_lies (copy_location scope site.vars k) (copy_location scope site.vars j) way
      (apart.others k j found.0 var found.1 there found.2 has (flipped j k (neither_first (nat_eq j k) (list_any (nat_eq j) ks) none))))
      ∙ in_no_other j var there has way ks (λ i h. known i (or_right (nat_eq i k) (list_any (nat_eq i) ks) h))
      (neither_second (nat_eq j k) (list_any (nat_eq j) ks) none)

  module _ (j : ℕ) (ks : List ℕ) (known : Known ks) (has : copied j ≡ true) (m after : Memory) (variables : VariablesEncoded site now scope m)
      (rest : BegunWith site scope (copied_in m j) now ks after) where
    own_copy : (var : Var) (value : Value) → var_at site j ≡ Some var → slice_get now j ≡ Some value → list_any (nat_eq j) ks ≡ false →
        Encodes site.structs var.ty value (value_at after (copy_location scope site.vars j))
    own_copy var value there stored none =
        let copy = copy_location scope site.vars j in
        holds_same site.structs var.ty value (value_at m (at j)) (value_at after copy)
        (λ way. sym (rest.kept copy.root (copy.parts ++ way) (in_no_other j var there has way ks known none)
        ∙ same_object m copy (value_at m (at j)) way))
        (variables.each j var value there stored)

    copy_there : (i : ℕ) (later : Bool) → list_any (nat_eq i) ks ≡ later
        → (nat_eq i j || list_any (nat_eq i) ks) ≡ true → (var : Var) (value : Value) →
        var_at site i ≡ Some var → slice_get now i ≡ Some value → Encodes site.structs var.ty value (value_at after (copy_location scope site.vars i))
    copy_there i true is h var value there stored = rest.copies.each i var value is there stored
    copy_there i false is h var value there stored =
        let i_is : i ≡ j = eqb-true i j (or_other (nat_eq i j) (list_any (nat_eq i) ks) h is) in
        subst (λ i. Encodes site.structs var.ty value (value_at after (copy_location scope site.vars i))) (sym i_is)
        (own_copy var value (ap (var_at site) (sym i_is) ∙ there) (ap (slice_get now) (sym i_is) ∙ stored)
        (ap (λ i. list_any (nat_eq i) ks) (sym i_is) ∙ is))

    one_more : BegunWith site scope m now (j ∷ ks) after
    one_more = record {
      variables = rest.variables;
      copies = record { each = λ i var value h there stored. copy_there i (list_any (nat_eq i) ks) refl h var value there stored };
      kept = λ root way h.
          rest.kept root way (neither_second (lies_in (copy_location scope site.vars j) root way)
          (list_any (λ k. lies_in (copy_location scope site.vars k) root way) ks) h)
          ∙ set_elsewhere m (copy_location scope site.vars j) (value_at m (at j)) root way
          (neither_first (lies_in (copy_location scope site.vars j) root way) (list_any (λ k. lies_in (copy_location scope site.vars k) root way) ks) h);
    }

  pub begun : (ks : List ℕ) (m : Memory) → VariablesEncoded site now scope m → Known ks →
      ((block_c (map (c_copied site) ks) scope m).end ≡ goes_on) × BegunWith site scope m now ks (block_c (map (c_copied site) ks) scope m).memory
  begun [] m variables known = (
    refl,
    record {
      variables = variables;
      copies = record { each = λ i var value h there stored. absurd (cc) };
      kept = λ root way h. refl;
    },
  )
  begun (j ∷ ks) m variables known =
      let found = known j (or_first (nat_eq j j) (list_any (nat_eq j) ks) (eq-eqb j j refl)) in
      let later : Known ks = λ k h. known k (or_right (nat_eq k j) (list_any (nat_eq k) ks) h) in
      let next : Memory = copied_in m j in
      let rest = begun ks next (variables_stay j found.2 m variables) later in
      let after : Memory = (block_c (map (c_copied site) ks) scope next).memory in
      let ends : Ends (block_c (map (c_copied site) (j ∷ ks)) scope m) (Some after) =
      then_ends scope m (c_copied site j) (map (c_copied site) ks) (Some next) (λ k. Some after) (copy_ends m j)
      (λ n is. subst (λ n. Ends (block_c (map (c_copied site) ks) scope n) (Some after)) (same_Some next n is) (rest.0, refl)) in
      (ends.0, subst (BegunWith site scope m now (j ∷ ks)) (sym ends.1) (one_more j ks later found.2 m after variables rest.1))
