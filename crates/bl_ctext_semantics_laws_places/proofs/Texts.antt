-- What bytes mean is what each file means that they spell.
use Rattle.std.proofs.Common.{◌≡◌, ℕ, ℤ, List, refl, ap, sym, ◌∙◌}
use Rattle.std.specs.Prelude.{◌↔◌}
use Rattle.bl_tree.specs.declared.row.Trace.{Trace}
use Rattle.bl_ctext.specs.SpellsC.{SpellsC}
use Rattle.bl_ctext.specs.declared.file.CFile.{CFile}
use Rattle.bl_ctext_semantics.specs.Faults.{WellFormed}
use Rattle.bl_ctext_semantics.specs.Parts.{parts_of}
use Rattle.bl_ctext_semantics.specs.Trace.{c_trace}
use Rattle.bl_cparse_syntax_laws.proofs.OnlyFile.{one_file}
use Rattle.bl_ctext_semantics_laws_places.specs.Behaviour.{Behaviour, behaviour_of}
use Rattle.bl_ctext_semantics_laws_places.specs.Bytes.{Behaves, TraceOfBytes}
use Rattle.bl_ctext_semantics_laws_places.proofs.Files.{behaviour-same, formed-same}

pub formed_alike : (file other : CFile) (bytes : List ℕ) → SpellsC file bytes → SpellsC other bytes →
    WellFormed (parts_of file) ↔ WellFormed (parts_of other)
formed_alike file other bytes h k = formed-same file other (one_file file other bytes h k)

-- a file that the bytes spell behaves as they do
of_file : (file : CFile) (bytes : List ℕ) (behaviour : Behaviour) → SpellsC file bytes → Behaves bytes behaviour →
    WellFormed (parts_of file) × (behaviour ≡ behaviour_of (parts_of file))
of_file file bytes behaviour h b = (
  (formed_alike b.file file bytes b.spells h).0 b.well_formed,
  b.is ∙ behaviour-same b.file file (one_file b.file file bytes b.spells h),
)

pub each_behaves : (file : CFile) (bytes : List ℕ) (behaviour : Behaviour) → SpellsC file bytes →
    Behaves bytes behaviour ↔ (WellFormed (parts_of file) × (behaviour ≡ behaviour_of (parts_of file)))
each_behaves file bytes behaviour h = (
  of_file file bytes behaviour h,
  λ k. record { file = file; spells = h; well_formed = k.0; is = k.1 },
)

pub one_behaviour : (bytes : List ℕ) (behaviour other : Behaviour) → Behaves bytes behaviour → Behaves bytes other → behaviour ≡ other
one_behaviour bytes behaviour other b c = (of_file c.file bytes behaviour c.spells b).1 ∙ sym c.is

trace_in_file : (file : CFile) (bytes : List ℕ) (rows : List (List ℤ)) (trace : Trace) → SpellsC file bytes → TraceOfBytes bytes rows trace →
    WellFormed (parts_of file) × (trace ≡ c_trace (parts_of file) rows)
trace_in_file file bytes rows trace h t =
    let k = of_file file bytes t.behaviour h t.behaves in
    (k.0, t.is ∙ ap (λ (b : Behaviour). b.trace rows) k.1)

pub each_trace : (file : CFile) (bytes : List ℕ) (rows : List (List ℤ)) (trace : Trace) → SpellsC file bytes →
    TraceOfBytes bytes rows trace ↔ (WellFormed (parts_of file) × (trace ≡ c_trace (parts_of file) rows))
each_trace file bytes rows trace h = (
  trace_in_file file bytes rows trace h,
  λ k. record {
    behaviour = behaviour_of (parts_of file);
    behaves = record { file = file; spells = h; well_formed = k.0; is = refl };
    is = k.1;
  },
)

pub one_trace : (bytes : List ℕ) (rows : List (List ℤ)) (trace other : Trace) → TraceOfBytes bytes rows trace → TraceOfBytes bytes rows other →
    trace ≡ other
one_trace bytes rows trace other t u =
    t.is ∙ ap (λ (b : Behaviour). b.trace rows) (one_behaviour bytes t.behaviour u.behaviour t.behaves u.behaves) ∙ sym u.is
