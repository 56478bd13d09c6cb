use Rattle.std.proofs.Common.{rules, ◌≡◌, ◌∙◌, ap, to_z, of_z}
use Rattle.std.specs.Int.{w128}
use Rattle.std.proofs.lemmas.Int.{to_z-of_z}
use Rattle.bl_tree.specs.Scalar.{in_range}
use Rattle.bl_save.specs.Bytes.{cell_bytes}
use Rattle.bl_save.proofs.States.{begins-cell, int-number, whole-number}
use Rattle.bl_save.proofs.cell.number.Goals as goal

pub returns-in-Int-clause-written : goal.returns-in-Int-clause-written
returns-in-Int-clause-written c =
    let same : to_z w128 (of_z w128 c.read_int128.result) ≡ c.read_int128.result = to_z-of_z w128 _ (search rules) in
    let number = int-number c.args.kind _ c.args.bytes.now _ _ c.in-Int.is c.size_of-size.ensures c.read_int128.ensures in
    ap (cell_bytes c.args.kind) (same ∙ number) ∙ (begins-cell c.args.kind c.args.bytes.now c.requires).written

pub returns-in-Int-clause-range : goal.returns-in-Int-clause-range
returns-in-Int-clause-range c =
    let same : to_z w128 (of_z w128 c.read_int128.result) ≡ c.read_int128.result = to_z-of_z w128 _ (search rules) in
    let number = int-number c.args.kind _ c.args.bytes.now _ _ c.in-Int.is c.size_of-size.ensures c.read_int128.ensures in
    ap (in_range c.args.kind) (same ∙ number) ∙ (begins-cell c.args.kind c.args.bytes.now c.requires).range

pub returns-in-Bool : goal.returns-in-Bool
returns-in-Bool c =
    let same : to_z w128 (of_z w128 c.from.result) ≡ c.from.result = to_z-of_z w128 _ (search rules) in
    let number = whole-number c.args.kind c.args.bytes.now _ _ _ c.in-Bool.is c.size_of-size.ensures c.read_uint.ensures c.from.ensures in
    let cell = begins-cell c.args.kind c.args.bytes.now c.requires in
    record {
      written = ap (cell_bytes c.args.kind) (same ∙ number) ∙ cell.written;
      range = ap (in_range c.args.kind) (same ∙ number) ∙ cell.range;
    }
