-- The C function of an activity by what the code has of it.
use Rattle.std.proofs.Common.{◌≡◌, ℕ, Bool, false, List, length, filter, slice_get, unwrap_or, ap, ap₂, ◌∙◌}
use Rattle.bl_tree.specs.declared.text.Text.{Text}
use Rattle.bl_tree.specs.declared.c.CFunc.{CFunc}
use Rattle.bl_tree.specs.declared.place.Place.{Place}
use Rattle.bl_tree.specs.Typing.{TypingContext, site_of}
use Rattle.bl_machine.specs.Blocks.{up_to}
use Rattle.bl_machine_transitions.specs.Runs.{run_number}
use Rattle.bl_emit_spec.specs.Activities.{RunAt, copies_of}
use Rattle.bl_emit_tables.specs.Told.{read_told, runs_told}
use Rattle.bl_emit_tables.specs.Words.{word_told}
use Rattle.bl_emit.specs.Activities.{ActivityInput, copied_told, counters_told, function_told, function_viewed, remembers_told}

module _ (a : ActivityInput) where
  abbrev made : TypingContext → List Bool → (ℕ → Text) → (Place → ℕ) → (ℕ → Bool) → List ℕ → List ℕ → List RunAt → Bool → CFunc
  made site copies word run is_read counters copied runs remembers =
      function_viewed a
      (record {
        site = site;
        copies = copies;
        number = λ n. 0;
        word = word;
        run = run;
        sizes = a.sizes;
        is_read = is_read;
        remembers = λ k. unwrap_or (slice_get a.remember k) false;
      })
      counters copied runs remembers

  pub function_is : (site : TypingContext) (copies read : List Bool) (word : ℕ → Text) (run : Place → ℕ) (counters copied : List ℕ) (n m : ℕ)
      (runs : List RunAt) (remembers : Bool) →
      site ≡ site_of a.structs a.earlier a.unit → copies ≡ copies_of a.unit → ((k : ℕ) → word k ≡ word_told site a.rules k) →
      ((at : Place) → run at ≡ run_number a.rules at) →
      ((k : ℕ) → unwrap_or (slice_get read k) false ≡ read_told a.rules k) →
      counters ≡ filter (λ k. unwrap_or (slice_get read k) false) (up_to n) → n ≡ length a.sizes →
      copied ≡ filter (λ k. unwrap_or (slice_get copies k) false) (up_to m) → m ≡ length a.unit.vars →
      runs ≡ runs_told a.rules → remembers ≡ remembers_told a →
      made site copies word run (λ k. unwrap_or (slice_get read k) false) counters copied runs remembers ≡ function_told a
  function_is site copies read word run counters copied n m runs remembers site_is copies_is words_are numbers_are read_is counters_are n_is copied_are m_is
      runs_are remembers_is =
      let own : TypingContext = site_of a.structs a.earlier a.unit in
      let reads : (λ k. unwrap_or (slice_get read k) false) ≡ read_told a.rules = λ i k. read_is k i in
      let counters_so : counters ≡ counters_told a.sizes a.rules =
      counters_are ∙ ap₂ (λ (p : ℕ → Bool) (n : ℕ). filter p (up_to n)) reads n_is in
      let copied_so : copied ≡ copied_told a.unit =
      copied_are ∙ ap₂ (λ (copies : List Bool) (m : ℕ). filter (λ k. unwrap_or (slice_get copies k) false) (up_to m)) copies_is m_is in
      ap (λ (word : ℕ → Text). made site copies word run (λ k. unwrap_or (slice_get read k) false) counters copied runs remembers) (λ i k. words_are k i)
      ∙ (ap (λ s. made s copies (word_told s a.rules) run (λ k. unwrap_or (slice_get read k) false) counters copied runs remembers) site_is
      ∙ (ap (λ (run : Place → ℕ). made own copies (word_told own a.rules) run (λ k. unwrap_or (slice_get read k) false) counters copied runs remembers)
      (λ i at. numbers_are at i)
      ∙ (ap₂ (λ (c : List Bool) (r : ℕ → Bool). made own c (word_told own a.rules) (run_number a.rules) r counters copied runs remembers) copies_is reads
      ∙ (ap₂ (λ (ks vs : List ℕ). made own (copies_of a.unit) (word_told own a.rules) (run_number a.rules) (read_told a.rules) ks vs runs remembers)
      counters_so copied_so
      ∙ ap₂ (λ (runs : List RunAt) (remembers : Bool). made own (copies_of a.unit) (word_told own a.rules) (run_number a.rules) (read_told a.rules)
      (counters_told a.sizes a.rules) (copied_told a.unit) runs remembers) runs_are remembers_is))))
