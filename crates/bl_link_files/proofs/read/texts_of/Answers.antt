-- The files before one were read, and so it goes on.
use Rattle.std.proofs.Common.{◌≡◌, ◌++◌, ◌∷◌, [], ap, arith, string_bytes, subst, sym}
use Rattle.std.specs.Prelude.{Err, Some}
use Rattle.bl_io.specs.declared.fault.IoFault.TheVariants as io
use Rattle.bl_link_files.proofs.Fronts.{all_further, all_read, given, next_fronts, next_further, none_read, stopped_as, stops_at}
use Rattle.bl_module_files.proofs.Turns.{further_read}
use Rattle.bl_link_files.proofs.read.texts_of.Goals as goal

pub loop-k-init : goal.loop-k-init
loop-k-init g c = record {
  read = none_read (g.F.Files.left c.args.files.now) c.new-texts.result c.new-texts.ensures;
  counts = λ name. omega arith;
}

pub returns-then-is_err-clause-texts : goal.returns-then-is_err-clause-texts
returns-then-is_err-clause-texts g c =
    stopped_as (g.F.Files.left c.args.files.now) (g.F.Files.left c.read_up_to.new.files) (g.F.Files.faults c.args.files.now)
    (g.F.Files.faults c.read_up_to.new.files) _ c.push.new.self c.stopped.result.texts (Some io.NoMemory) c.stopped.result.stop c.stopped.ensures.texts
    c.stopped.ensures.stop tt

pub returns-then-is_err-clause-reads : goal.returns-then-is_err-clause-reads
returns-then-is_err-clause-reads g c =
    next_further string_bytes c.args.names.now c.loop-k.k c.index-names-k.result c.loop-k-test.true c.index-names-k.is (g.F.Files.left c.args.files.now)
    (g.F.Files.left c.loop-k.files) c.loop-k.texts c.loop-k.invariant.read c.as_str.result.now (g.F.Files.left c.read_up_to.new.files)
    c.as_str.ensures.value
    (further_read (g.F.Files.left c.loop-k.files c.as_str.result.now) c.in-Ok.text.items (g.F.Files.left c.read_up_to.new.files c.as_str.result.now)
    c.in-Ok.ensures.front)
    c.read_up_to.ensures.others

pub returns-in-Err-clause-texts : goal.returns-in-Err-clause-texts
returns-in-Err-clause-texts g c =
    stopped_as (g.F.Files.left c.args.files.now) (g.F.Files.left c.read_up_to.new.files) (g.F.Files.faults c.args.files.now)
    (g.F.Files.faults c.read_up_to.new.files) _ c.loop-k.texts c.stopped-in-Err.result.texts (Some c.in-Err.fault) c.stopped-in-Err.result.stop
    c.stopped-in-Err.ensures.texts c.stopped-in-Err.ensures.stop
    (stops_at string_bytes c.args.names.now c.loop-k.k c.index-names-k.result c.loop-k-test.true c.index-names-k.is (g.F.Files.left c.args.files.now)
    (g.F.Files.left c.loop-k.files) c.loop-k.texts c.loop-k.invariant.read c.as_str.result.now (g.F.Files.left c.read_up_to.new.files)
    (g.F.Files.faults c.args.files.now) (g.F.Files.faults c.loop-k.files) (g.F.Files.faults c.read_up_to.new.files) c.in-Err.fault
    c.as_str.ensures.value c.loop-k.invariant.counts (λ same. c.in-Err.ensures.failed (ap Err same)))

pub returns-in-Err-clause-reads : goal.returns-in-Err-clause-reads
returns-in-Err-clause-reads g c =
    next_further string_bytes c.args.names.now c.loop-k.k c.index-names-k.result c.loop-k-test.true c.index-names-k.is (g.F.Files.left c.args.files.now)
    (g.F.Files.left c.loop-k.files) c.loop-k.texts c.loop-k.invariant.read c.as_str.result.now (g.F.Files.left c.read_up_to.new.files)
    c.as_str.ensures.value c.in-Err.ensures.err c.read_up_to.ensures.others

pub loop-k-preserved : goal.loop-k-preserved
loop-k-preserved g c = record {
  read = next_fronts string_bytes c.args.names.now c.loop-k.k c.index-names-k.result c.loop-k-test.true c.index-names-k.is
      (g.F.Files.left c.args.files.now) (g.F.Files.left c.loop-k.files) c.loop-k.texts c.loop-k.invariant.read c.as_str.result.now c.in-Ok.text.items
      c.push.new.self (g.F.Files.left c.read_up_to.new.files) c.as_str.ensures.value
      (subst (λ got. c.push.new.self ≡ c.loop-k.texts ++ got ∷ []) c.from_vec.ensures
      (given c.push.result (sym c.if-is_err.ensures.value) c.push.ensures.ok))
      c.in-Ok.ensures.bound c.in-Ok.ensures.front c.read_up_to.ensures.others;
  counts = λ name. omega (arith, c.loop-k.invariant.counts name, c.read_up_to.ensures.counts name);
}

pub returns-clause-texts : goal.returns-clause-texts
returns-clause-texts g c =
    all_read string_bytes c.args.names.now c.loop-k.k (g.F.Files.left c.args.files.now) (g.F.Files.left c.loop-k.files) c.loop-k.texts (omega arith)
    c.loop-k.invariant.read

pub returns-clause-reads : goal.returns-clause-reads
returns-clause-reads g c =
    all_further string_bytes c.args.names.now c.loop-k.k (g.F.Files.left c.args.files.now) (g.F.Files.left c.loop-k.files) c.loop-k.texts (omega arith)
    c.loop-k.invariant.read
