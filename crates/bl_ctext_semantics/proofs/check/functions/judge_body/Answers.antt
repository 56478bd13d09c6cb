use Rattle.std.proofs.Common.{◌≡◌, ◌∙◌, ◌++◌, Bool, false, ap, map}
use Rattle.bl_ctext_semantics.specs.inner.Checked.{checked_structs, functions_of, variables_in_map}
use Rattle.bl_ctext_semantics.specs.Faults.{Context, Variable, block_faults, faults_in_stmt, first_place, keeps_all, names_table, repeated}
use Rattle.bl_ctext_semantics.specs.Faults.{parameters_and_locals, variable_names}
use Rattle.bl_ctext_semantics.specs.Loops.{turns_in_block}
use Rattle.bl_ctext_semantics.specs.inner.Maps.{named_entries, text_at}
use Rattle.bl_ctext_semantics.specs.Tables.{Table, table_of}
use Rattle.bl_ctext_semantics.proofs.FirstLemmas.{first_place-append}
use Rattle.bl_ctext_semantics.proofs.MapLemmas.{same_table}
use Rattle.bl_ctext_semantics.proofs.check.functions.judge_body.Goals as goal

pub returns : goal.returns
returns c =
    let of = c.args.of.now in
    let table : text_at c.in_ok-keys.keys ≡ names_table (variable_names of) =
    same_table (text_at c.in_ok-keys.keys) (names_table (variable_names of))
    (λ asked. c.in_ok-keys.ensures asked ∙ ap (λ l. names_table l asked) c.requires) in
    let turns : named_entries c.deref-2.result.now ≡ turns_in_block of.body =
    ap named_entries c.deref-2.ensures.value ∙ c.in_ok-add_turns.ensures
    ∙ ap (λ l. named_entries l ++ turns_in_block c.deref.result.now) c.new-turns.ensures.items ∙ ap turns_in_block c.deref.ensures in
    let again : c.in_ok-repeated.repeated ≡ first_place (repeated (names_table (variable_names of)) (turns_in_block of.body)) =
    c.in_ok-repeated.ensures ∙ ap (λ t. first_place (repeated t (named_entries c.deref-2.result.now))) table
    ∙ ap (λ l. first_place (repeated (names_table (variable_names of)) l)) turns in
    let variables : variables_in_map c.in_ok-variables.variables ≡ table_of (parameters_and_locals of) =
    same_table (variables_in_map c.in_ok-variables.variables) (table_of (parameters_and_locals of)) c.in_ok-variables.ensures in
    let context : Table Variable → Bool → Context = λ v k. record {
      structs = checked_structs c.args.known.now.structs.now;
      functions = functions_of c.args.known.now.functions.now;
      variables = v;
      result = of.result;
      is_read_only = k;
    } in
    let block : c.judge_block.result ≡ first_place (block_faults (map faults_in_stmt of.body)
    (context (table_of (parameters_and_locals of)) (keeps_all of)) false) =
    c.judge_block.ensures
    ∙ ap (λ l. first_place (block_faults (map faults_in_stmt l) (context (variables_in_map c.in_ok-variables.variables) c.keeps_all.result) false))
    c.deref-3.ensures
    ∙ ap (λ v. first_place (block_faults (map faults_in_stmt of.body) (context v c.keeps_all.result) false)) variables
    ∙ ap (λ k. first_place (block_faults (map faults_in_stmt of.body) (context (table_of (parameters_and_locals of)) k) false)) c.keeps_all.ensures in
    rw (c.earlier.ensures, again, block) (simp first_place-append)
