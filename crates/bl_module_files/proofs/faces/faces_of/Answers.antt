-- The files before one are faces, and so it goes on.
use Rattle.std.proofs.Common.{◌≡◌, List, [], ◌∷◌, ◌++◌, false, if◌then◌else◌, string_bytes, subst, sym, arith}
use Rattle.std.specs.Prelude.{Result, Ok, Err, is_err}
use Rattle.std.specs.Result.{is_ok}
use Rattle.bl_module_files.specs.Faces.{AreFaces}
use Rattle.bl_module_files.proofs.Turns.{all_further, faces_all, next_face, next_further, no_faces, stops_next}
use Rattle.bl_module_files.proofs.faces.faces_of.Goals as goal

-- what was pushed without an error stands behind the others
grown : {A X E : Type 0} (r : Result X E) (new old : List A) (one : A) → is_err r ≡ false → new ≡ (if is_ok r then old ++ one ∷ [] else old) →
    new ≡ old ++ one ∷ []
grown (Ok x) new old one no_error is = is
grown (Err e) new old one no_error is = absurd (cc)

pub loop-k-init : goal.loop-k-init
loop-k-init g c = record {
  faces = subst (λ faces. AreFaces (g.F.Files.left c.args.files.now) [] faces (g.F.Files.left c.args.files.now)) (sym c.new-faces.ensures.items)
      (no_faces (g.F.Files.left c.args.files.now));
  counts = λ name. omega arith;
}

pub returns-then-is_err-clause-reads : goal.returns-then-is_err-clause-reads
returns-then-is_err-clause-reads g c =
    next_further string_bytes c.args.names.now c.loop-k.k c.index-names-k.result c.loop-k-test.true c.index-names-k.is
    (g.F.Files.left c.args.files.now) (g.F.Files.left c.loop-k.files) c.loop-k.faces.items c.loop-k.invariant.faces c.as_str.result.now
    (g.F.Files.left c.face_in.new.files) c.as_str.ensures.value c.face_in.ensures.further c.face_in.ensures.others

pub returns-in-Err-clause-fault : goal.returns-in-Err-clause-fault
returns-in-Err-clause-fault g c =
    stops_next string_bytes c.args.names.now c.loop-k.k c.index-names-k.result c.loop-k-test.true c.index-names-k.is
    (g.F.Files.left c.args.files.now) (g.F.Files.left c.loop-k.files) c.loop-k.faces.items c.loop-k.invariant.faces c.as_str.result.now
    (g.F.Files.faults c.args.files.now) (g.F.Files.faults c.loop-k.files) (g.F.Files.faults c.face_in.new.files) c.in-Err.fault
    c.as_str.ensures.value c.loop-k.invariant.counts c.in-Err.ensures.fault

pub returns-in-Err-clause-reads : goal.returns-in-Err-clause-reads
returns-in-Err-clause-reads g c =
    next_further string_bytes c.args.names.now c.loop-k.k c.index-names-k.result c.loop-k-test.true c.index-names-k.is
    (g.F.Files.left c.args.files.now) (g.F.Files.left c.loop-k.files) c.loop-k.faces.items c.loop-k.invariant.faces c.as_str.result.now
    (g.F.Files.left c.face_in.new.files) c.as_str.ensures.value c.face_in.ensures.further c.face_in.ensures.others

pub loop-k-preserved : goal.loop-k-preserved
loop-k-preserved g c = record {
  faces = next_face string_bytes c.args.names.now c.loop-k.k c.index-names-k.result c.loop-k-test.true c.index-names-k.is
      (g.F.Files.left c.args.files.now) (g.F.Files.left c.loop-k.files) c.loop-k.faces.items c.loop-k.invariant.faces c.as_str.result.now
      c.in-Ok.face (g.F.Files.left c.face_in.new.files) c.push.new.self.items c.as_str.ensures.value
      (grown c.push.result c.push.new.self.items c.loop-k.faces.items c.in-Ok.face (sym c.if-is_err.ensures.value) c.push.ensures.items) c.in-Ok.ensures.face;
  counts = λ name. omega (arith, c.loop-k.invariant.counts name, c.face_in.ensures.file_counts name);
}

pub returns-clause-reads : goal.returns-clause-reads
returns-clause-reads g c =
    all_further _ (g.F.Files.left c.args.files.now) (g.F.Files.left c.loop-k.files) c.loop-k.faces.items
    (faces_all string_bytes c.args.names.now c.loop-k.k (g.F.Files.left c.args.files.now) (g.F.Files.left c.loop-k.files) c.loop-k.faces.items
    (omega arith) c.loop-k.invariant.faces)
