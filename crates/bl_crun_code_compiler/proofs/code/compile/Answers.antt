use Rattle.std.proofs.Common.{◌≡◌, ◌+◌, ◌++◌, ℕ, List, None, ap, codes, drop, length, option_map, rules, ◌∙◌}
use Rattle.bl_tree.proofs.Basics.{drop_next}
use Rattle.bl_ctext_semantics.specs.inner.Maps.{text_at}
use Rattle.bl_ctext_semantics.specs.Sizes.{sizes}
use Rattle.bl_ctext_semantics.specs.Tables.{with_entry}
use Rattle.bl_crun_code.specs.Code.{FunctionEntry, code_of_function, entries_from, function_entry, functions_code}
use Rattle.bl_crun_code.specs.Laws.{code_of_file, entry_in_file}
use Rattle.bl_crun_code_layout.specs.declared.here.Entry.{Entry as CodeEntry}
use Rattle.bl_crun_code_layout.specs.Views.{entries_in, entry_for, sizes_in, structs_in}
use Rattle.bl_crun_code_compiler.proofs.Functions.{entries-done, entries-next, file-begins, function-next, functions-done, made-with, sizes-capped}
use Rattle.bl_crun_code_compiler.proofs.code.compile.Goals as goal

pub loop-of-init : goal.loop-of-init
loop-of-init c =
    let known = sizes_in c.in_ok-sizes.sizes in
    let laid = structs_in c.in_ok-laid.laid in
    let entries = entries_in c.new-known.result in
    let sizes-are = sizes-capped (text_at c.in_ok-sizes.sizes) (sizes c.args.structs.now) c.in_ok-sizes.ensures in
    let none : (asked : List ℕ) → entries_in c.new-known.result asked ≡ None =
    λ asked. let empty : text_at c.new-known.result asked ≡ None = search (rules, c.new-known.ensures.empty) in ap (option_map entry_for) empty in (
      ap (λ xs. xs ++ functions_code known laid (length xs) entries c.args.funcs.now) c.new-code.ensures.items
          ∙ file-begins (λ k l t. functions_code k l 0 t c.args.funcs.now) known laid entries c.args.structs.now sizes-are c.in_ok-laid.ensures none,
      ap (λ xs. entries_from known laid (length xs) entries c.args.funcs.now) c.new-code.ensures.items
          ∙ file-begins (λ k l t. entries_from k l 0 t c.args.funcs.now) known laid entries c.args.structs.now sizes-are c.in_ok-laid.ensures none,
    )

pub loop-of-preserved : goal.loop-of-preserved
loop-of-preserved c =
    let known = sizes_in c.in_ok-sizes.sizes in
    let laid = structs_in c.in_ok-laid.laid in
    let f = c.of-item.result in
    let code = c.loop-of.code.items in
    let part = c.deref.result.now in
    let rest = drop (c.loop-of.of-index + 1) c.args.funcs.now in
    let more = entries_in c.add.new.map in
    let value : CodeEntry = record { entry = c.in_ok-at.at; frame = c.in_ok-frame.frame } in
    let long : c.len.result ≡ length c.loop-of.code.items = search (rules, c.len.ensures) in
    let entry : entry_for value ≡ function_entry known (length code) f =
    ap (λ n. let e : FunctionEntry = record { entry = n; frame = c.in_ok-frame.frame } in e) (c.in_ok-at.ensures ∙ long)
    ∙ ap (λ n. let e : FunctionEntry = record { entry = length c.loop-of.code.items; frame = n } in e) (c.in_ok-frame.ensures ∙ c.frame_size.ensures) in
    let next = drop_next c.args.funcs.now c.loop-of.of-index f c.loop-of-test.true c.of-item.is in
    let part-is = c.deref.ensures.value ∙ c.finish.ensures ∙ c.in_ok-front.ensures
    ∙ ap (λ n. code_of_function known laid n (entries_in c.loop-of.known) f) (c.in_ok-at.ensures ∙ long) in
    let added = made-with entry_for (text_at c.loop-of.known) (text_at c.add.new.map) f.name value
    (λ asked. c.in_ok-add.ensures asked ∙ ap (λ n. with_entry (text_at c.loop-of.known) n value asked) c.as_str.ensures) in (
      ap (λ xs. xs ++ functions_code known laid (length xs) more rest) c.in_ok-append.ensures
          ∙ function-next known laid code part (entries_in c.loop-of.known) more (entry_for value) f (drop c.loop-of.of-index c.args.funcs.now) rest _ next
          part-is entry added c.loop-of.invariant.0,
      ap (λ xs. entries_from known laid (length xs) more rest) c.in_ok-append.ensures
          ∙ entries-next known laid code part (entries_in c.loop-of.known) more (entry_for value) f (drop c.loop-of.of-index c.args.funcs.now) rest _ next
          part-is entry added c.loop-of.invariant.1,
    )

pub returns-clause-code : goal.returns-clause-code
returns-clause-code c =
    functions-done (sizes_in c.in_ok-sizes.sizes) (structs_in c.in_ok-laid.laid) (length c.loop-of.code.items) c.loop-of.of-index (entries_in c.loop-of.known)
    c.loop-of.code.items c.args.funcs.now
    (code_of_file c.args.structs.now c.args.funcs.now) c.loop-of-test.false c.loop-of.invariant.0

pub returns-clause-init : goal.returns-clause-init
returns-clause-init c =
    ap (option_map entry_for) c.find-init.ensures
    ∙ entries-done (sizes_in c.in_ok-sizes.sizes) (structs_in c.in_ok-laid.laid) (length c.loop-of.code.items) c.loop-of.of-index (entries_in c.loop-of.known)
    c.args.funcs.now
    (entry_in_file c.args.structs.now c.args.funcs.now) c.loop-of-test.false c.loop-of.invariant.1 (codes "bl_init")

pub returns-clause-tick : goal.returns-clause-tick
returns-clause-tick c =
    ap (option_map entry_for) c.find-tick.ensures
    ∙ entries-done (sizes_in c.in_ok-sizes.sizes) (structs_in c.in_ok-laid.laid) (length c.loop-of.code.items) c.loop-of.of-index (entries_in c.loop-of.known)
    c.args.funcs.now
    (entry_in_file c.args.structs.now c.args.funcs.now) c.loop-of-test.false c.loop-of.invariant.1 (codes "bl_tick")
