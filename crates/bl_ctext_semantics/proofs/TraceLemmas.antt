-- How traces join.
use Rattle.std.proofs.Common.{◌≡◌, ℤ, List, [], ◌∷◌, ◌++◌, refl, ap}
use Rattle.bl_tree.specs.declared.row.Last.TheVariants.{Open}
use Rattle.bl_tree.specs.declared.row.Trace.{Trace}
use Rattle.bl_ctext_semantics.specs.Parts.{Parts}
use Rattle.bl_ctext_semantics.specs.Trace.{Reply, row, ended, trapped, tick_c, traced, c_trace_from, cells_after, trace_then}
use Rattle.bl_ctext_semantics.specs.Laws.{TraceResumes}

-- one tick before a trace that goes on
traced-then : (reply : Reply) (outputs : List ℤ) (first rest all : Trace) → (traced reply outputs first).last ≡ Open →
    (first.last ≡ Open → all ≡ trace_then first rest) → traced reply outputs all ≡ trace_then (traced reply outputs first) rest
traced-then row outputs first rest all unended h = ap (λ t. traced row outputs t) (h unended)
traced-then ended outputs first rest all unended h = cc
traced-then trapped outputs first rest all unended h = cc

pub goes-on : (file : Parts) → TraceResumes file
goes-on file [] rest cells unended = refl
goes-on file (ins ∷ first) rest cells unended =
    traced-then (tick_c file cells ins).reply (tick_c file cells ins).outputs (c_trace_from file first (tick_c file cells ins).cells)
    (c_trace_from file rest (cells_after file first (tick_c file cells ins).cells))
    (c_trace_from file (first ++ rest) (tick_c file cells ins).cells) unended
    (λ still. goes-on file first rest (tick_c file cells ins).cells still)
