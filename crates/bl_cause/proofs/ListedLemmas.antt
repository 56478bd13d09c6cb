-- All edges as a list, access by access.
use Rattle.std.proofs.Common.{◌≡◌, ℕ, ◌+◌, ◌<◌, List, [], ◌∷◌, ◌++◌, length, take, get_or, refl, sym, ap, ◌∙◌, append_assoc}
use Rattle.std.specs.Prelude.{Some}
use Rattle.std.proofs.lemmas.List.{take_more}
use Rattle.bl_tree.specs.declared.graph.Edge.{Edge}
use Rattle.bl_graph.specs.declared.accesses.Access.{Access}
use Rattle.bl_graph.specs.declared.accesses.Access.TheVariants.{Read, Write}
use Rattle.bl_graph.specs.Accesses.{WritersAndEdges, flows, links, told, told_with, writers_at, writers_of}
use Rattle.bl_graph.proofs.AccessLemmas.{told-push}
use Rattle.bl_cause.specs.inner.Listed.{edges_with, writers_with}

told_writers : (t : WritersAndEdges) (x : Access) → (told_with t x).writers ≡ t.writers ++ writers_with t.writers x ∷ []
told_writers t (Write node before) = refl
told_writers t (Read node from) = refl

told_edges : (control : List Edge) (t : WritersAndEdges) (x : Access) → edges_with t.writers (control ++ t.edges) x ≡ control ++ (told_with t x).edges
told_edges control t (Write node before) = refl
told_edges control t (Read node from) = append_assoc control t.edges (links node (writers_at t.writers (Some from)))

module _ (accesses : List Access) (i : ℕ) (d : Access) (lt : i < length accesses) where
  pub writers_more : (writers view more : List (List ℕ)) (own : List ℕ) → writers ≡ writers_of (take i accesses) → view ≡ writers →
      own ≡ writers_with view (get_or accesses i d) → more ≡ writers ++ own ∷ [] → more ≡ writers_of (take (i + 1) accesses)
  writers_more writers view more own is seen own_is more_is =
      let x = get_or accesses i d in
      more_is ∙ ap (λ w. writers ++ w ∷ []) (own_is ∙ ap (λ ws. writers_with ws x) seen)
      ∙ ap (λ ws. ws ++ writers_with ws x ∷ []) is ∙ sym (told_writers (told (take i accesses)) x)
      ∙ ap (λ (t : WritersAndEdges). t.writers) (sym (told-push (take i accesses) x)) ∙ ap writers_of (sym (take_more accesses i d lt))

  pub edges_more : (control edges after : List Edge) (writers view : List (List ℕ)) → writers ≡ writers_of (take i accesses) →
      edges ≡ control ++ flows (take i accesses) → view ≡ writers → after ≡ edges_with view edges (get_or accesses i d) →
      after ≡ control ++ flows (take (i + 1) accesses)
  edges_more control edges after writers view is edges_is seen after_is =
      let x = get_or accesses i d in
      after_is ∙ ap (λ ws. edges_with ws edges x) (seen ∙ is) ∙ ap (λ es. edges_with (writers_of (take i accesses)) es x) edges_is
      ∙ told_edges control (told (take i accesses)) x
      ∙ ap (λ (t : WritersAndEdges). control ++ t.edges) (sym (told-push (take i accesses) x)) ∙ ap (λ xs. control ++ flows xs) (sym (take_more accesses i d lt))
