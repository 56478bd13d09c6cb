-- The variables and copies of a unit keep apart, where its pointers lead to what does.
use Rattle.std.proofs.Common.{◌≡◌, ℕ, ◌<◌, ◌≤◌, ◌^◌, arith, Bool, true, false, not, ◌&&◌, ◌||◌, List, [], ◌∷◌}
use Rattle.std.proofs.Common.{◌++◌, Some, refl, sym, ap, ◌∙◌}
use Rattle.std.proofs.lemmas.Bool.{eq-eqb, eqb-true, le-leb, ltb-true}
use Rattle.std.proofs.lemmas.Option.{slice_get_within}
use Rattle.std.specs.Prelude.{bytes_eq, codes, length, nat_eq, ◌==◌}
use Rattle.std.proofs.lemmas.Bool.{or_right}
use Rattle.bl_tree.proofs.Basics.{and_false, at_most_self_test, true_not_false}
use Rattle.bl_tree.specs.declared.tree.Var.{Var}
use Rattle.bl_tree.specs.Program.{is_input}
use Rattle.bl_tree.specs.Typing.{TypingContext, is_activity, var_at}
use Rattle.bl_ctext_semantics.specs.Meaning.{Scope, further, named_location}
use Rattle.bl_ctext_semantics.specs.Memory.{Location, Projection, Root, input_object, member, output_object, same_root, state_object, variable}
use Rattle.bl_emit_acts.specs.declared.home.Home.{Home}
use Rattle.bl_emit_acts.specs.declared.home.Home.TheVariants.{Held, Local, Lent}
use Rattle.bl_emit_acts.specs.Types.{copy_name, numbered_name, variable_name}
use Rattle.bl_emit_acts_laws_simulation.specs.Acts.{copy_location}
use Rattle.bl_emit_acts_laws_simulation.specs.Frames.{FrameApart, PointersAreValid, is_older, lent_at, remembered_at}
use Rattle.bl_emit_acts_laws_simulation.specs.Encodes.{are_apart, home_at, is_live, lead_in, start_in, ways_part}
use Rattle.bl_emit_acts_laws_simulation.proofs.Cells.{apart_flip}
use Rattle.bl_emit_acts_laws_simulation.proofs.NumberedNames as numbered
use Rattle.bl_emit_acts_laws_simulation.proofs.Outlets.{behind_front, further_both}
use Rattle.bl_emit_acts_laws_simulation.proofs.Cells.{or_split}

-- ---- names

-- names of one letter at different positions differ
names_differ : (letter : ℕ) (vars : List Var) (j k : ℕ) → j < 2 ^ 64 → k < 2 ^ 64 → nat_eq j k ≡ false
    → bytes_eq (letter ∷ numbered_name vars j) (letter ∷ numbered_name vars k) ≡ false
names_differ letter vars j k less most differ =
    numbered.names_differ letter vars j k less most (λ same. true_not_false (sym (eq-eqb j k same) ∙ differ))

-- ---- roots

pub roots_differ : (p q : Location) → same_root p.root q.root ≡ false → are_apart p q ≡ true
roots_differ p q h = ap (λ same. not same || ways_part p.parts q.parts) h

pub own_differ : (depth : ℕ) (m n : List ℕ) → bytes_eq m n ≡ false → same_root (variable depth m) (variable depth n) ≡ false
own_differ depth m n h = ap (λ b. (depth == depth) && b) h ∙ and_false (depth == depth)

pub older_differs : (depth : ℕ) (name : List ℕ) (root : Root) → is_older depth root ≡ true → same_root (variable depth name) root ≡ false
older_differs depth name state_object h = refl
older_differs depth name input_object h = refl
older_differs depth name output_object h = refl
older_differs depth name (variable d other) h = by (depth == d) refl
  where
    by : (same : Bool) → (depth == d) ≡ same → (same && bytes_eq name other) ≡ false
    by false is = refl
    by true is =
        let less : d < depth = ltb-true d depth h in
        let equal : depth ≡ d = eqb-true depth d is in
        absurd (omega arith)

pub older_live : (depth : ℕ) (root : Root) → is_older depth root ≡ true → is_live depth root ≡ true
older_live depth state_object h = refl
older_live depth input_object h = refl
older_live depth output_object h = refl
older_live depth (variable d name) h = let less : d < depth = ltb-true d depth h in le-leb d depth (omega arith)

-- what lies further on keeps apart too
pub further_apart : (p q : Location) (xs ys : List Projection) → are_apart p q ≡ true → are_apart (further p xs) (further q ys) ≡ true
further_apart p q xs ys h =
    or_split (same_root p.root q.root) (ways_part p.parts q.parts) (ways_part (p.parts ++ xs) (q.parts ++ ys))
    (further_both p.parts q.parts xs ys) h

module _ (site : TypingContext) (copied : ℕ → Bool) (scope : Scope) (stand : PointersAreValid site scope) where
  below : (k : ℕ) (var : Var) → var_at site k ≡ Some var → k < 2 ^ 64
  below k var there =
      let less : k < length site.vars = slice_get_within site.vars k var there in
      let few : length site.vars ≤ 2 ^ 64 = stand.few in
      omega (arith, less, few)

  own_older : (name : List ℕ) (p q : Location) → p.root ≡ variable scope.depth name → is_older scope.depth q.root ≡ true → are_apart p q ≡ true
  own_older name p q is older =
      roots_differ p q (ap (λ root. same_root root q.root) is ∙ older_differs scope.depth name q.root older)

  own_own : (m n : List ℕ) (p q : Location) → p.root ≡ variable scope.depth m → q.root ≡ variable scope.depth n → bytes_eq m n ≡ false →
      are_apart p q ≡ true
  own_own m n p q is other differ =
      roots_differ p q (ap (λ root. same_root root q.root) is ∙ (ap (λ root. same_root (variable scope.depth m) root) other
      ∙ own_differ scope.depth m n differ))

  -- where a variable of a home stands
  abbrev place_of : Bool → Home → ℕ → Location
  place_of activity home k = further (start_in scope activity home site.vars k) (lead_in home site.vars k ++ [])

  module _ (j k : ℕ) (a b : Var) (there : var_at site j ≡ Some a) (other : var_at site k ≡ Some b) (writable : is_input a.role ≡ false)
      (differ : nat_eq j k ≡ false) where
    v_differ : bytes_eq (variable_name site.vars j) (variable_name site.vars k) ≡ false
    v_differ = names_differ 118 site.vars j k (below j a there) (below k b other) differ

    held_held : (start : Location) →
        are_apart (further start (member (variable_name site.vars j) ∷ [])) (further start (member (variable_name site.vars k) ∷ [])) ≡ true
    held_held start =
        or_right (not (same_root start.root start.root))
        (ways_part (start.parts ++ member (variable_name site.vars j) ∷ []) (start.parts ++ member (variable_name site.vars k) ∷ []))
        (behind_front start.parts (member (variable_name site.vars j) ∷ []) (member (variable_name site.vars k) ∷ []) ∙ ap (λ b. not b || false) v_differ)

    apart_by : (activity : Bool) (x y : Home) → is_activity site.kind ≡ activity → home_at site j ≡ x → home_at site k ≡ y →
        are_apart (place_of activity x j) (place_of activity y k) ≡ true
    apart_by activity Held Held kind is at = held_held (named_location scope activity (codes "m"))
    apart_by false Held Local kind is at = own_own (codes "m") (variable_name site.vars k) (place_of false Held j) (place_of false Local k) refl refl refl
    apart_by true Held Local kind is at =
        apart_flip (place_of true Local k) (place_of true Held j)
        (own_older (variable_name site.vars k) (place_of true Local k) (place_of true Held j) refl (stand.held_older j a there is kind))
    apart_by false Held Lent kind is at =
        own_older (codes "m") (place_of false Held j) (place_of false Lent k) refl (stand.lent_older k b other at)
    apart_by true Held Lent kind is at =
        further_apart (remembered_at scope) (lent_at scope site.vars k) (lead_in Held site.vars j ++ []) (lead_in Lent site.vars k ++ [])
        (stand.held_apart kind k b other at)
    apart_by false Local Held kind is at = own_own (variable_name site.vars j) (codes "m") (place_of false Local j) (place_of false Held k) refl refl refl
    apart_by true Local Held kind is at =
        own_older (variable_name site.vars j) (place_of true Local j) (place_of true Held k) refl (stand.held_older k b other at kind)
    apart_by activity Local Local kind is at =
        own_own (variable_name site.vars j) (variable_name site.vars k) (place_of activity Local j) (place_of activity Local k) refl refl v_differ
    apart_by activity Local Lent kind is at =
        own_older (variable_name site.vars j) (place_of activity Local j) (place_of activity Lent k) refl (stand.lent_older k b other at)
    apart_by false Lent Held kind is at =
        apart_flip (place_of false Held k) (place_of false Lent j)
        (own_older (codes "m") (place_of false Held k) (place_of false Lent j) refl (stand.lent_older j a there is))
    apart_by true Lent Held kind is at =
        apart_flip (place_of true Held k) (place_of true Lent j)
        (further_apart (remembered_at scope) (lent_at scope site.vars j) (lead_in Held site.vars k ++ []) (lead_in Lent site.vars j ++ [])
        (stand.held_apart kind j a there is))
    apart_by activity Lent Local kind is at =
        apart_flip (place_of activity Local k) (place_of activity Lent j)
        (own_older (variable_name site.vars k) (place_of activity Local k) (place_of activity Lent j) refl (stand.lent_older j a there is))
    apart_by activity Lent Lent kind is at =
        further_apart (lent_at scope site.vars j) (lent_at scope site.vars k) (lead_in Lent site.vars j ++ []) (lead_in Lent site.vars k ++ [])
        (stand.lent_apart j k a b there other is at writable differ)

  copy_by : (j k : ℕ) (var : Var) → var_at site j ≡ Some var → (activity : Bool) (x : Home)
      → is_activity site.kind ≡ activity → home_at site j ≡ x →
      are_apart (place_of activity x j) (copy_location scope site.vars k) ≡ true
  copy_by j k var there false Held kind is =
      own_own (codes "m") (copy_name site.vars k) (place_of false Held j) (copy_location scope site.vars k) refl refl refl
  copy_by j k var there true Held kind is =
      apart_flip (copy_location scope site.vars k) (place_of true Held j)
      (own_older (copy_name site.vars k) (copy_location scope site.vars k) (place_of true Held j) refl (stand.held_older j var there is kind))
  copy_by j k var there activity Local kind is =
      own_own (variable_name site.vars j) (copy_name site.vars k) (place_of activity Local j) (copy_location scope site.vars k) refl refl refl
  copy_by j k var there activity Lent kind is =
      apart_flip (copy_location scope site.vars k) (place_of activity Lent j)
      (own_older (copy_name site.vars k) (copy_location scope site.vars k) (place_of activity Lent j) refl (stand.lent_older j var there is))

  live_by : (k : ℕ) (var : Var) → var_at site k ≡ Some var → (activity : Bool) (x : Home)
      → is_activity site.kind ≡ activity → home_at site k ≡ x →
      is_live scope.depth (place_of activity x k).root ≡ true
  live_by k var there false Held kind is = at_most_self_test scope.depth
  live_by k var there true Held kind is = older_live scope.depth (remembered_at scope).root (stand.held_older k var there is kind)
  live_by k var there activity Local kind is = at_most_self_test scope.depth
  live_by k var there activity Lent kind is = older_live scope.depth (lent_at scope site.vars k).root (stand.lent_older k var there is)

  pub frame_apart : FrameApart site copied scope
  frame_apart = record {
    variables = record {
      each = λ j k a b there other writable differ.
          apart_by j k a b there other writable differ (is_activity site.kind) (home_at site j) (home_at site k) refl refl refl;
    };
    copies = record {
      variables = λ j k var there has. copy_by j k var there (is_activity site.kind) (home_at site j) refl refl;
      others = λ j k a b there other has too differ.
          own_own (copy_name site.vars j) (copy_name site.vars k) (copy_location scope site.vars j) (copy_location scope site.vars k) refl refl
          (names_differ 112 site.vars j k (below j a there) (below k b other) differ);
    };
    live = record { each = λ k var there. live_by k var there (is_activity site.kind) (home_at site k) refl refl };
  }
