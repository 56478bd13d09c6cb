-- The counts of a run are those of its ticks.
use Rattle.std.proofs.Common.{◌≡◌, ℕ, ◌≤◌, ℤ, List, [], ◌∷◌, subst, sym, arith}
use Rattle.std.specs.Prelude.{All, Option, Some, None}
use Rattle.std.proofs.lemmas.List.Elements.{All-nil, All-cons}
use Rattle.bl_ctext.specs.declared.file.CFile.{CFile}
use Rattle.bl_ctext_semantics.specs.Faults.{WellFormed}
use Rattle.bl_ctext_semantics.specs.Laws.{WithinBound}
use Rattle.bl_ctext_semantics.specs.Parts.{Parts, parts_of}
use Rattle.bl_ctext_semantics.specs.Trace.{Reply, ended, row, trapped}
use Rattle.bl_ctext_semantics_laws_places.specs.Behaviour.{Behaviour, behaviour_of}
use Rattle.bl_bound_laws.specs.Bounded.{IsBounded}
use Rattle.bl_bound_laws.specs.Counts.{Ticking, counts_after, counts_from, counts_if}

module _ (tick : Ticking) (most : ℕ) (within : (cells ins : List ℤ) → (tick cells ins).count ≤ most) where
  abbrev Low : ℕ → Type 0
  Low n = n ≤ most

  low-if : (reply : Reply) (rest : List ℕ) → All Low rest → All Low (counts_if reply rest)
  low-if row rest h = h
  low-if ended rest h = All-nil Low
  low-if trapped rest h = All-nil Low

  low-from : (rows : List (List ℤ)) (cells : List ℤ) → All Low (counts_from tick rows cells)
  low-from [] cells = All-nil Low
  low-from (ins ∷ rows) cells =
      All-cons Low (tick cells ins).count (counts_if (tick cells ins).reply (counts_from tick rows (tick cells ins).cells)) (within cells ins)
      (low-if (tick cells ins).reply (counts_from tick rows (tick cells ins).cells) (low-from rows (tick cells ins).cells))

  pub low-after : (start : Option (List ℤ)) (rows : List (List ℤ)) → All Low (counts_after tick start rows)
  low-after None [] = All-nil Low
  low-after None (ins ∷ rows) = All-cons Low 0 [] (omega arith) (All-nil Low)
  low-after (Some cells) rows = low-from rows cells

pub file-bounded : (file : Parts) → WithinBound file → IsBounded (behaviour_of file)
file-bounded file within = record {
  ticks = within;
  runs = low-after (behaviour_of file).tick (behaviour_of file).bound within (behaviour_of file).start;
}

-- what any bytes that spell a file mean
pub bytes-bounded : (file : CFile) → IsBounded (behaviour_of (parts_of file)) → (bytes : List ℕ) (behaviour : Behaviour) →
    (WellFormed (parts_of file) × (behaviour ≡ behaviour_of (parts_of file))) → IsBounded behaviour
bytes-bounded file bounded bytes behaviour is = subst IsBounded (sym is.1) bounded
