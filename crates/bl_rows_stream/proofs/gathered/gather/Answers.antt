use Rattle.std.proofs.Common.{arith, subst}
use Rattle.bl_rows.specs.Reading.{most_lines}
use Rattle.bl_rows_stream.specs.inner.Taking.{TakesOn}
use Rattle.bl_rows_stream.proofs.Steps.{reads-none}
use Rattle.bl_rows_stream.proofs.Takings.{gathers-few, kept-same, taken-first}
use Rattle.bl_rows_stream.proofs.gathered.gather.Goals as goal

pub returns-in_err-reader-clause-reads : goal.returns-in_err-reader-clause-reads
returns-in_err-reader-clause-reads g c = reads-none most_lines (g.F.Files.left c.args.files.now c.args.name.now)

pub pieces-init : goal.pieces-init
pieces-init g c = record {
  taken = taken-first c.args.columns.now (g.F.Files.left c.args.files.now c.args.name.now) c.in_ok-reader.reader c.new-rows.result.items
      c.in_ok-reader.ensures.begun c.in_ok-reader.ensures.told c.new-rows.ensures.items;
  others = λ other differs. kept-same (g.F.Files.left c.args.files.now other);
  file_counts = λ other. omega arith;
}

pub returns-in_err-end-clause-reads : goal.returns-in_err-end-clause-reads
returns-in_err-end-clause-reads g c =
    c.take.ensures.reads c.args.columns.now (g.F.Files.left c.args.files.now c.args.name.now) c.pieces.invariant.taken

pub returns-in-Some-clause-gathers : goal.returns-in-Some-clause-gathers
returns-in-Some-clause-gathers g c =
    let every = g.F.Files.left c.args.files.now c.args.name.now in
    subst (TakesOn c.args.columns.now every (g.F.Files.left c.take.new.files c.args.name.now) c.take.new.reader c.take.new.rows.items) c.in-Some.is
    (c.in_ok-end.ensures.takes c.args.columns.now every c.pieces.invariant.taken)

pub returns-in-Some-clause-few : goal.returns-in-Some-clause-few
returns-in-Some-clause-few g c =
    let every = g.F.Files.left c.args.files.now c.args.name.now in
    gathers-few c.args.columns.now every (g.F.Files.left c.take.new.files c.args.name.now) c.take.new.rows.items c.in-Some.end
    (subst (TakesOn c.args.columns.now every (g.F.Files.left c.take.new.files c.args.name.now) c.take.new.reader c.take.new.rows.items) c.in-Some.is
    (c.in_ok-end.ensures.takes c.args.columns.now every c.pieces.invariant.taken))

pub returns-in-Some-clause-reads : goal.returns-in-Some-clause-reads
returns-in-Some-clause-reads g c =
    c.take.ensures.reads c.args.columns.now (g.F.Files.left c.args.files.now c.args.name.now) c.pieces.invariant.taken
