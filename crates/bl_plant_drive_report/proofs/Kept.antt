-- A drive keeps the file of its runner, and records its ticks.
use Rattle.std.proofs.Common.{◌≡◌, ◌∙◌, refl, sym, ap, subst, List, [], ◌∷◌, ◌++◌, ℤ, ℕ, Bool, true, false}
use Rattle.std.specs.Prelude.{Result, Ok, Err, IfErr}
use Rattle.bl_ctext_semantics.specs.Cells.{outputs_of}
use Rattle.bl_ctext_semantics.specs.Parts.{Parts}
use Rattle.bl_ctext_semantics.specs.Trace.{cells_if, trace_after}
use Rattle.bl_crun.specs.Running.{Running}
use Rattle.bl_plant_drive.specs.Driven.{nothing_driven}
use Rattle.bl_plant_drive.specs.Drives.{DriveEnds, DriveSetting, Outcome, columns_in, trace_over}
use Rattle.bl_plant_drive.specs.declared.driven.Driven.{Driven}
use Rattle.bl_plant_drive_report.specs.Reports.{IsDriven, IsReport, IsReportOf}
use Rattle.bl_plant_drive_report.specs.declared.report.Report.{Report}
use Rattle.bl_plant.specs.Plants.{PlantView}
use Rattle.bl_tree.specs.Ports.{RowsFit}
use Rattle.bl_tree.specs.declared.row.Column.{Column}
use Rattle.bl_plant_drive.specs.declared.fault.DriveFault.{DriveFault}
use Rattle.bl_plant_drive.specs.declared.fault.DriveFault.TheVariants as fault
use Rattle.bl_plant_drive.proofs.Traces.{runner-parts}

-- however the drive ends
pub drives_keep : (s : DriveSetting) (o : Outcome) (how : Result (Unit {0}) DriveFault) → DriveEnds s o how → o.runner.parts ≡ s.runner.parts
drives_keep s o (Ok done) h = ap (λ (r : Running). r.parts) h.runner ∙ runner-parts s.runner o.driven.ins
drives_keep s o (Err (fault.Failed name)) h = ap (λ (r : Running). r.parts) h.stopped.runner ∙ runner-parts s.runner o.driven.ins
drives_keep s o (Err (fault.Absent name)) h = ap (λ (r : Running). r.parts) h.1.runner
drives_keep s o (Err (fault.Twice name)) h = ap (λ (r : Running). r.parts) h.1.runner
drives_keep s o (Err (fault.Width given wanted)) h = ap (λ (r : Running). r.parts) h.1.runner
drives_keep s o (Err (fault.Range column number)) h = ap (λ (r : Running). r.parts) h.stopped.runner ∙ runner-parts s.runner o.driven.ins
drives_keep s o (Err fault.NoMemory) h = ap (λ (r : Running). r.parts) h.runner ∙ runner-parts s.runner (o.driven.ins ++ h.further)

-- ---- what is recorded

-- the trace over no rows has none
nothing_traced : (file : Parts) (ready : Bool) (cells : List ℤ) → nothing_driven.trace ≡ trace_after file (cells_if ready cells) []
nothing_traced file true cells = refl
nothing_traced file false cells = refl

-- the rows of inputs fit, and the trace is that of the runner over them
abbrev pub Records : DriveSetting → Driven → Type 0
Records s driven = RowsFit (columns_in s) driven.ins × (driven.trace ≡ trace_over s.runner driven.ins)

nothing_recorded : (s : DriveSetting) (driven : Driven) → driven ≡ nothing_driven → Records s driven
nothing_recorded s driven e =
    subst (λ (d : Driven). Records s d) (sym e) (refl, nothing_traced s.runner.parts s.runner.ready s.runner.cells)

pub drives_record : (s : DriveSetting) (o : Outcome) (how : Result (Unit {0}) DriveFault) → DriveEnds s o how → Records s o.driven
drives_record s o (Ok done) h = (h.driven.fit, h.driven.trace)
drives_record s o (Err (fault.Failed name)) h = (h.stopped.driven.fit, h.stopped.driven.trace)
drives_record s o (Err (fault.Absent name)) h = nothing_recorded s o.driven h.1.driven
drives_record s o (Err (fault.Twice name)) h = nothing_recorded s o.driven h.1.driven
drives_record s o (Err (fault.Width given wanted)) h = nothing_recorded s o.driven h.1.driven
drives_record s o (Err (fault.Range column number)) h = (h.stopped.driven.fit, h.stopped.driven.trace)
drives_record s o (Err fault.NoMemory) h = (h.driven.fit, h.driven.trace)

-- ---- what is told

-- names that are as others
module _ (runner : Running) (plants : List PlantView) (named names : List ℕ) (ticks : ℕ) (same : named ≡ names) (left : List PlantView) (after : Running)
    (driven : Driven) (how : Result (Unit {0}) DriveFault)
    (ends : DriveEnds (record { runner = runner; plants = plants; names = named; ticks = ticks })
    (record { runner = after; plants = left; driven = driven }) how) where
  pub is_driven : IsDriven (record { runner = runner; plants = plants; names = names; ticks = ticks }) left driven how
  is_driven =
      let s : DriveSetting = record { runner = runner; plants = plants; names = named; ticks = ticks } in
      let o : Outcome = record { runner = after; plants = left; driven = driven } in
      let recorded = drives_record s o how ends in
      subst (λ (ns : List ℕ). IsDriven (record { runner = runner; plants = plants; names = ns; ticks = ticks }) left driven how) same
      (record { runner = after; ends = ends; fit = recorded.0; trace = recorded.1 })

  pub report_is : (outs : List Column) (report : Report) → outs ≡ outputs_of after.parts → IsReportOf outs driven how report →
      IsReport (record { runner = runner; plants = plants; names = names; ticks = ticks }) left report
  report_is outs report are tells =
      let s : DriveSetting = record { runner = runner; plants = plants; names = named; ticks = ticks } in
      let o : Outcome = record { runner = after; plants = left; driven = driven } in
      record {
        driven = driven;
        how = how;
        is_driven = is_driven;
        tells = subst (λ (cs : List Column). IsReportOf cs driven how report) (are ∙ ap outputs_of (drives_keep s o how ends)) tells;
      }

-- what holds anyway holds of an error
pub at_err : {T E : Type 0} (r : Result T E) (P : Type 0) → P → IfErr r (λ e. P)
at_err (Ok x) P h = tt
at_err (Err e) P h = h
